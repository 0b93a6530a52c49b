-- The words that an opening line says kinds and makes by.
use Rattle.std.specs.Prelude.{◌≡◌, ℕ, List, Ok, Err, Result, codes}
use Rattle.script.specs.declared.entry.Kind.{Kind}
use Rattle.script.specs.declared.entry.Kind.TheVariants.{Codes, Names}
use Rattle.script.specs.declared.entry.Make.{Make}
use Rattle.script.specs.declared.entry.Make.TheVariants.{Row, Chain}
use Rattle.script.specs.declared.words.Fault.{Fault}
use Rattle.script.specs.declared.words.Fault.TheVariants.{NoCall}

abbrev pub letter_of : Kind → List ℕ
letter_of Codes = codes "C"
letter_of Names = codes "N"

abbrev pub word_of : Make → List ℕ
word_of Row = codes "row"
word_of Chain = codes "chain"

-- what was read is what the word stands for, and a word that stands for nothing is no part of a call
abbrev pub IsReadBy : {V : Type 0} → (V → List ℕ) → List ℕ → Result V Fault → Type 0
IsReadBy word_for word (Ok v) = word ≡ word_for v
IsReadBy {V} word_for word (Err fault) = (fault ≡ NoCall) × ((v : V) → ¬ (word ≡ word_for v))
