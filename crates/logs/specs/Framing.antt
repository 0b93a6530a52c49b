-- The bytes of a log: a header, and then records, each a length of two bytes and that many bytes.
use Rattle.std.specs.Prelude.{◌≡◌, ℕ, ◌+◌, ◌*◌, ◌<◌, cond, List, [], ◌∷◌, length, take, drop, Some, None, Ok, Err, Option, Result, ◌==◌, nat_lt}
use Rattle.keys.specs.declared.denial.Denial.{Denial}
use Rattle.keys.specs.declared.denial.Denial.TheVariants.{Version, Letter, CutOff}
use Rattle.logs.specs.declared.framing.Frame.{Frame}

-- what is left behind a first byte, which has to be the wanted one
abbrev pub behind : ℕ → Denial → List ℕ → Result (List ℕ) Denial
behind wanted denial [] = Err denial
behind wanted denial (first ∷ rest) = cond (first == wanted) (Ok rest) (Err denial)

-- what is left behind the version byte, which is 1
abbrev pub versioned : List ℕ → Result (List ℕ) Denial
versioned = behind 1 Version

-- what is left behind the letter of a kind of key
abbrev pub lettered : ℕ → List ℕ → Result (List ℕ) Denial
lettered letter = behind letter Letter

-- the version is read before the letter
abbrev pub lettered_in : ℕ → Result (List ℕ) Denial → Result (List ℕ) Denial
lettered_in letter (Ok rest) = lettered letter rest
lettered_in letter (Err d) = Err d

-- two bytes as a number, the higher first
abbrev pub two_bytes : ℕ → ℕ → ℕ
two_bytes high low = high * 256 + low

-- a record's bytes, and the bytes behind them
abbrev pub framed : ℕ → List ℕ → Result (Option (List ℕ × List ℕ)) Denial
framed size bytes = cond (nat_lt (length bytes) size) (Err CutOff) (Ok (Some (take size bytes, drop size bytes)))

-- what stands next: nothing at the end, a record that is cut off, or a record
abbrev pub next_in : List ℕ → Result (Option (List ℕ × List ℕ)) Denial
next_in [] = Ok None
next_in (high ∷ []) = Err CutOff
next_in (high ∷ low ∷ rest) = framed (two_bytes high low) rest

-- a record that a rule takes is passed, and one that it denies is not
abbrev pub passed_by : {R : Type 0} → List ℕ → List ℕ → Result R Denial → Result (Option R) Denial × List ℕ
passed_by bytes rest (Ok r) = (Ok (Some r), rest)
passed_by bytes rest (Err d) = (Err d, bytes)

abbrev pub read_in : {R : Type 0} → (List ℕ → Result R Denial) → List ℕ → Result (Option (List ℕ × List ℕ)) Denial → Result (Option R) Denial × List ℕ
read_in rule bytes (Ok None) = (Ok None, bytes)
read_in rule bytes (Ok (Some parts)) = passed_by bytes parts.1 (rule parts.0)
read_in rule bytes (Err d) = (Err d, bytes)

-- the next record, read by a rule for its bytes, and the bytes then left
abbrev pub read_next : {R : Type 0} → (List ℕ → Result R Denial) → List ℕ → Result (Option R) Denial × List ℕ
read_next rule bytes = read_in rule bytes (next_in bytes)

-- how many records an answer gives: one or none
abbrev pub gained : {R : Type 0} → Result (Option R) Denial → ℕ
gained (Ok None) = 0
gained (Ok (Some r)) = 1
gained (Err d) = 0

-- an answer by the value of what it gives
abbrev pub valued : {R V : Type 0} → (R → V) → Result (Option R) Denial → Result (Option V) Denial
valued value (Ok None) = Ok None
valued value (Ok (Some r)) = Ok (Some (value r))
valued value (Err d) = Err d

-- the value of a frame
abbrev pub parts_of : Frame → List ℕ × List ℕ
parts_of frame = (frame.body.now, frame.rest.now)

-- fewer bytes than n are left behind the frame that is given
abbrev pub FewerThan : ℕ → Result (Option Frame) Denial → Type 0
FewerThan n (Ok None) = Unit {0}
FewerThan n (Ok (Some frame)) = length frame.rest.now < n
FewerThan n (Err d) = Unit {0}

-- a record was read next, as a rule said of its bytes, and these bytes are left
pub record ReadBy {T : Type 0} (Says : List ℕ → Result T Denial → Type 0) (bytes : List ℕ) (answer : Result (Option T) Denial) (left : List ℕ) : Type 0 where
  pub given : Result T Denial
  pub said : (parts : List ℕ × List ℕ) → next_in bytes ≡ Ok (Some parts) → Says parts.0 given
  pub read : read_next (λ _. given) bytes ≡ (answer, left)
