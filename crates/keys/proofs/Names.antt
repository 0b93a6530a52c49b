-- What the front of a record's bytes is: its name, and after a reading what was read; and when two names are the same.
use Rattle.std.proofs.Common.{◌≡◌, ◌≢◌, ℕ, ◌+◌, ◌<◌, ◌≤◌, true, false, ◌&&◌, List, [], ◌∷◌, map, length, take, Some, nat_eq, set, slice_index, sym, refl, ap, ◌∙◌, arith, rules}
use Rattle.std.specs.List.{zip, list_all}
use Rattle.std.specs.Str.{bytes_eq}
use Rattle.std.proofs.lemmas.Slice.Eq.{bytes_eq-Decides}
use Rattle.std.specs.Char.{to_ascii_lowercase}
use Rattle.std.proofs.lemmas.List.{ext_get_or, length-set, get_or-set_same, get_or-set_other, length-take-le, length-map, get_or-take, get_or-map, take-map}
use Rattle.std.proofs.lemmas.List.Elements.{All-get_or}
use Rattle.std.proofs.lemmas.List.FromFn.{fill_by_all}
use Rattle.std.proofs.lemmas.List.Sums.{AllPass-from_list_all}
use Rattle.std.proofs.lemmas.Bool.{cond-true, and_parts}
use Rattle.std.proofs.lemmas.Bool.Decides.{nat_tests}
use Rattle.keys.specs.declared.name.Name.{Name}
use Rattle.keys.specs.Names.{in_alphabet, spells_name, name_read, name_length, name_byte, name_of}
use Rattle.keys.specs.Laws.{length-name}

-- bytes that are at each place of a name what its record means there begin with the name
pub name-front : (k : Name) (ys : List ℕ) → name_length k.len ≤ length ys → ((i : ℕ) → i < name_length k.len → slice_index ys i ≡ name_byte (slice_index k.bytes i)) → take (name_length k.len) ys ≡ name_of k
name-front k ys h each =
    let n = name_length k.len in
    fill_by_all (λ i. name_byte (slice_index k.bytes i)) (take n ys) n 0 (length-take-le n ys h) (λ i l. get_or-take n ys i 0 l ∙ each i l)

-- one more of a record's bytes is written as it means
pub meant-more : (bytes items : List ℕ) (at b : ℕ) → length items ≡ 16 → at < 16 → ((k : ℕ) → k < at → slice_index items k ≡ name_byte (slice_index bytes k)) → ((k : ℕ) → at ≤ k → slice_index items k ≡ slice_index bytes k) → b ≡ name_byte (slice_index items at) → (length (set items at b) ≡ 16) × ((k : ℕ) → k < at + 1 → slice_index (set items at b) k ≡ name_byte (slice_index bytes k)) × ((k : ℕ) → at + 1 ≤ k → slice_index (set items at b) k ≡ slice_index bytes k)
meant-more bytes items at b long within before behind e = (
  length-set items at b ∙ long,
  (λ k l. grind (arith, get_or-set_same items at b 0 (omega arith), get_or-set_other items at k b 0, before k, behind at)),
  (λ k l. get_or-set_other items at k b 0 (λ same. omega arith) ∙ behind k (omega arith)),
)

-- a record's name by its bytes
name-bytes : (k : Name) → name_length k.len ≤ length k.bytes → map name_byte (take (name_length k.len) k.bytes) ≡ name_of k
name-bytes k h =
    let ys : List ℕ = map name_byte k.bytes in
    sym (take-map name_byte (name_length k.len) k.bytes)
    ∙ name-front k ys (rw (length-map k.bytes name_byte) h) (λ i l. get_or-map name_byte k.bytes i 0 0 (omega arith))

-- bytes that mean the same, pair by pair
all-agree : (xs ys : List ℕ) → length xs ≡ length ys → list_all (λ p. nat_eq (name_byte p.0) (name_byte p.1)) (zip xs ys) ≡ bytes_eq (map name_byte xs) (map name_byte ys)
all-agree [] [] h = refl
all-agree [] (y ∷ ys) h = absurd (omega arith)
all-agree (x ∷ xs) [] h = absurd (omega arith)
all-agree (x ∷ xs) (y ∷ ys) h = ap (λ b. nat_eq (name_byte x) (name_byte y) && b) (all-agree xs ys (omega arith))

-- two names are apart by their lengths, and else the same where all their bytes agree
module _ (a b : Name) where
  pub apart-by-length : (name_length a.len ≢ name_length b.len) → bytes_eq (name_of a) (name_of b) ≡ false
  apart-by-length differ =
      let apart : name_of a ≢ name_of b = λ e. differ (sym (length-name a) ∙ ap length e ∙ length-name b) in
      search (rules, bytes_eq-Decides)

  pub same_name : (n : ℕ) → n ≡ name_length a.len → n ≡ name_length b.len → n ≤ length a.bytes → n ≤ length b.bytes → list_all (λ p. nat_eq (name_byte p.0) (name_byte p.1)) (zip (take n a.bytes) (take n b.bytes)) ≡ bytes_eq (name_of a) (name_of b)
  same_name n m o h i =
      all-agree (take n a.bytes) (take n b.bytes) (length-take-le n a.bytes h ∙ sym (length-take-le n b.bytes i))
      ∙ ap (λ xs. bytes_eq xs (map name_byte (take n b.bytes))) (rw m (name-bytes a (rw m at h)))
      ∙ ap (bytes_eq (name_of a)) (rw o (name-bytes b (rw o at i)))

-- a byte of the alphabet, once small, is a name's byte
small-byte : (b : ℕ) → in_alphabet b ≡ true → to_ascii_lowercase b ≡ name_byte (to_ascii_lowercase b)
small-byte b h = grind (arith, nat_tests)

-- a spelling's small letters at the front of a record are the name that it is read as
pub name-read : (s bytes : List ℕ) → spells_name s ≡ true → length s ≤ length bytes → ((i : ℕ) → i < length s → slice_index bytes i ≡ to_ascii_lowercase (slice_index s i)) → name_read s ≡ Some (name_of (record { bytes = bytes; len = length s }))
name-read s bytes h room at =
    let k : Name = record { bytes = bytes; len = length s } in
    let n : name_length (length s) ≡ length s = grind (arith, nat_tests) in
    let small : take (length s) bytes ≡ map to_ascii_lowercase s =
    ext_get_or 0 _ _ (length-take-le (length s) bytes room ∙ sym (length-map s to_ascii_lowercase)) (λ i l. let m = length-take-le (length s) bytes room in get_or-take (length s) bytes i 0 (omega arith) ∙ at i (omega arith) ∙ sym (get_or-map to_ascii_lowercase s i 0 0 (omega arith)))
    in
    let each : (i : ℕ) → i < length s → slice_index bytes i ≡ name_byte (slice_index bytes i) = λ i l. rw (at i l) (small-byte (slice_index s i) (All-get_or (λ b. in_alphabet b ≡ true) s i 0 l (AllPass-from_list_all in_alphabet s (and_parts _ _ h).1))) in
    let name : take (name_length (length s)) bytes ≡ name_of k = name-front k bytes (rw n room) (λ i l. each i (rw n at l)) in
    cond-true _ _ _ h ∙ ap Some (sym small ∙ ap (λ m. take m bytes) (sym n) ∙ name)
