-- Names: 1 to 16 bytes, each a letter, a digit or the hyphen, where a capital means its small letter.
use Rattle.std.specs.Prelude.{ℕ, min, max, Bool, cond, ◌&&◌, ◌||◌, List, map, length, Some, None, Option, ◌==◌, slice_index}
use Rattle.std.specs.List.{range_with_len, list_all}
use Rattle.std.specs.Char.{is_ascii_alphanumeric, to_ascii_lowercase}
use Rattle.std.specs.Int.{is_in_range}
use Rattle.keys.specs.declared.name.Name.{Name}

-- the alphabet: A to Z, a to z, 0 to 9 and the hyphen
abbrev pub in_alphabet : ℕ → Bool
in_alphabet b = is_ascii_alphanumeric b || b == 45

-- a spelling is 1 to 16 bytes of the alphabet
abbrev pub spells_name : List ℕ → Bool
spells_name s = is_in_range 1 16 (length s) && list_all in_alphabet s

-- a spelling means its bytes with A to Z turned into a to z, and other bytes mean no name
abbrev pub name_read : List ℕ → Option (List ℕ)
name_read s = cond (spells_name s) (Some (map to_ascii_lowercase s)) None

-- A record means a name, whatever it holds: a length of 0 counts as 1, and one above 16 as 16,
abbrev pub name_length : ℕ → ℕ
name_length len = max 1 (min len 16)

-- a byte outside the alphabet counts as a hyphen,
abbrev pub name_byte : ℕ → ℕ
name_byte b = cond (in_alphabet b) (to_ascii_lowercase b) 45

-- and the name has the byte at each place below the length. It is also how the record is spelled.
abbrev pub name_of : Name → List ℕ
name_of k = map (λ i. name_byte (slice_index k.bytes i)) (range_with_len 0 (name_length k.len))
