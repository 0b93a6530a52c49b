-- Records that are read from frames.
use Rattle.std.proofs.Common.{◌≡◌, ℕ, List, None, Ok, Err, Option, Result, sym, ap, ◌∙◌}
use Rattle.keys.specs.declared.denial.Denial.{Denial}
use Rattle.keys.specs.declared.denial.Denial.TheVariants.{CutOff}
use Rattle.logs.specs.Framing.{next_in, read_in, ReadBy}

-- where none is framed, none is read
pub read-none : {T : Type 0} (Says : List ℕ → Result T Denial → Type 0) (bytes : List ℕ) → next_in bytes ≡ Ok None → ReadBy Says bytes (Ok None) bytes
read-none Says bytes e = record {
  given = Err CutOff;
  said = λ parts f. let z : ⊥ = cc in absurd z;
  read = ap (read_in (λ _. Err CutOff) bytes) e;
}

pub read-denied : {T : Type 0} (Says : List ℕ → Result T Denial → Type 0) (bytes : List ℕ) (answer : Result (Option T) Denial) (d : Denial) → next_in bytes ≡ Err d → answer ≡ Err d → ReadBy Says bytes answer bytes
read-denied Says bytes answer d e a = record {
  given = Err d;
  said = λ parts f. let z : ⊥ = cc in absurd z;
  read = ap (read_in (λ _. Err d) bytes) e ∙ ap (λ answer. (answer, bytes)) (sym a);
}
