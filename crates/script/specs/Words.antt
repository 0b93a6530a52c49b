-- Words of a script: bytes in hex, two digits each.
use Rattle.std.specs.Prelude.{◌≡◌, ℕ, ◌+◌, ◌*◌, cond, ◌&&◌, List, [], ◌∷◌, Some, None, Ok, Err, Option, Result, nat_lt}
use Rattle.std.specs.Option.{option_map}
use Rattle.std.specs.Char.{digit_value}
use Rattle.script.specs.declared.words.Fault.{Fault}
use Rattle.script.specs.declared.words.Fault.TheVariants.{NoCall, Memory}

-- the value of a hex digit, small or capital
abbrev pub hex_digit : ℕ → Option ℕ
hex_digit c = cond (nat_lt (digit_value c) 16) (Some (digit_value c)) None

-- the byte that two hex digits spell
abbrev pub hex_byte : ℕ → ℕ → Option ℕ
hex_byte high low = cond (nat_lt (digit_value high) 16 && nat_lt (digit_value low) 16) (Some (digit_value high * 16 + digit_value low)) None

-- a byte in front of others, where there are both
abbrev pub byte_before : Option ℕ → Option (List ℕ) → Option (List ℕ)
byte_before None bytes = None
byte_before (Some byte) bytes = option_map (λ rest. byte ∷ rest) bytes

-- the bytes that pairs of digits spell
abbrev pub hex_read : List ℕ → Option (List ℕ)
hex_read [] = Some []
hex_read (high ∷ []) = None
hex_read (high ∷ low ∷ more) = byte_before (hex_byte high low) (hex_read more)

-- a word spells one byte or more
abbrev pub spelling_read : List ℕ → Option (List ℕ)
spelling_read [] = None
spelling_read (c ∷ cs) = hex_read (c ∷ cs)

-- what was read is what the word spells, and a word that spells nothing is no part of a call; memory may fail for either
abbrev pub ReadAs : {V : Type 0} → (V → List ℕ) → Option (List ℕ) → Result V Fault → Type 0
ReadAs items meaning (Ok v) = meaning ≡ Some (items v)
ReadAs items meaning (Err NoCall) = meaning ≡ None
ReadAs items meaning (Err Memory) = Unit {0}
