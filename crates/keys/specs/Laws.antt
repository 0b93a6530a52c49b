-- What holds of names: their implementation of the laws of keys cites it.
use Rattle.std.specs.Prelude.{◌≡◌, ℕ, ◌<◌, ◌≤◌, true, List, map, length, Some, slice_index}
use Rattle.std.proofs.Common.{ap, ◌∙◌, arith}
use Rattle.std.specs.List.{range_with_len, list_all}
use Rattle.std.specs.Char.{to_ascii_lowercase}
use Rattle.std.specs.Int.{is_in_range}
use Rattle.std.proofs.lemmas.List.FromFn.{length-map-range_with_len, get_or-map-range_with_len, fill_by_all}
use Rattle.std.proofs.lemmas.List.Elements.{All-from_get_or}
use Rattle.std.proofs.lemmas.List.Sums.{list_all-from_AllPass}
use Rattle.std.proofs.lemmas.List.{length-map, get_or-map}
use Rattle.std.proofs.lemmas.Bool.{and_from, cond-true}
use Rattle.std.proofs.lemmas.Bool.Decides.{nat_tests}
use Rattle.keys.specs.declared.name.Name.{Name}
use Rattle.keys.specs.Names.{in_alphabet, name_read, name_length, name_byte, name_of}

-- a byte of a name is in the alphabet, and small already
byte-in : (b : ℕ) → in_alphabet (name_byte b) ≡ true
byte-in b = grind (arith, nat_tests)

byte_small : (b : ℕ) → to_ascii_lowercase (name_byte b) ≡ name_byte b
byte_small b = grind (arith, nat_tests)

-- a name by its length and its places
pub length-name : (k : Name) → length (name_of k) ≡ name_length k.len
length-name k = length-map-range_with_len (λ i. name_byte (slice_index k.bytes i)) 0 (name_length k.len)

pub get_or-name : (k : Name) (i : ℕ) → i < length (name_of k) → slice_index (name_of k) i ≡ name_byte (slice_index k.bytes i)
get_or-name k i h =
    get_or-map-range_with_len (λ i. name_byte (slice_index k.bytes i)) 0 (name_length k.len) i i 0 (rw length-name at h) (omega arith)

-- bytes are read where each is in the alphabet
pub reads : (s : List ℕ) (f : ℕ → ℕ) (n : ℕ) → length s ≡ n → 1 ≤ n → n ≤ 16 → ((i : ℕ) → i < n → in_alphabet (slice_index s i) ≡ true) → ((i : ℕ) → i < n → to_ascii_lowercase (slice_index s i) ≡ f i) → name_read s ≡ Some (map f (range_with_len 0 n))
reads s f n long low high ins smalls =
    let sized : is_in_range 1 16 (length s) ≡ true = grind (arith, nat_tests) in
    let all : list_all in_alphabet s ≡ true = list_all-from_AllPass in_alphabet s (All-from_get_or (λ b. in_alphabet b ≡ true) s 0 (λ i h. ins i (omega arith))) in
    let same = fill_by_all f (map to_ascii_lowercase s) n 0 (length-map s to_ascii_lowercase ∙ long) (λ i h. get_or-map to_ascii_lowercase s i 0 0 (omega arith) ∙ smalls i h) in
    cond-true _ _ _ (and_from _ _ sized all) ∙ ap Some same

-- the name of a record is read as itself
pub reads-name : (k : Name) → name_read (name_of k) ≡ Some (name_of k)
reads-name k =
    let long = length-name k in
    reads (name_of k) _ (name_length k.len) long (omega arith) (omega arith)
    (λ i h. rw (get_or-name k i (omega arith)) (byte-in (slice_index k.bytes i)))
    (λ i h. rw (get_or-name k i (omega arith)) (byte_small (slice_index k.bytes i)))
