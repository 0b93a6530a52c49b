-- Reading hex pair by pair.
use Rattle.std.proofs.Common.{◌≡◌, ℕ, zero, suc, ◌*◌, ◌≤◌, ◌<◌, List, [], ◌∷◌, ◌++◌, length, get_or, drop, Some, None, Option, sym, refl, ap, ◌∙◌, append_assoc, arith}
use Rattle.std.proofs.lemmas.List.{get_or-take, drop-drop, append-nil}
use Rattle.std.specs.Simd.{first_chunks}
use Rattle.std.specs.Option.{option_map}
use Rattle.script.specs.Words.{hex_byte, byte_before, hex_read, spelling_read}

-- the digits of the pair at a place stand in the word behind the pairs in front
digit_of_pair : (n k i : ℕ) (word d : List ℕ) → k < n → i < 2 → get_or (get_or (first_chunks 2 n word) k d) i 0 ≡ get_or (drop (k * 2) word) i 0
digit_of_pair zero k i word d l two = absurd (omega arith)
digit_of_pair (suc n) zero i word d l two = get_or-take 2 word i 0 two
digit_of_pair (suc n) (suc k) i word d l two =
    digit_of_pair n k i (drop 2 word) d (omega arith) two
    ∙ ap (λ w. get_or w i 0) (drop-drop (k * 2) 2 word)
    ∙ ap (λ m. get_or (drop m word) i 0) (omega arith)

-- and so the byte that the pair spells
pub pair_of : (n k : ℕ) (word bytes : List ℕ) (pairs : List (List ℕ)) → bytes ≡ word → pairs ≡ first_chunks 2 n bytes → k < n
    → hex_byte (get_or (get_or pairs k []) 0 0) (get_or (get_or pairs k []) 1 0) ≡ hex_byte (get_or (drop (k * 2) word) 0 0) (get_or (drop (k * 2) word) 1 0)
pair_of n k word bytes pairs same cut l = λ i. hex_byte (digit 0 (omega arith) i) (digit 1 (omega arith) i)
  where
    digit : (i : ℕ) → i < 2 → get_or (get_or pairs k []) i 0 ≡ get_or (drop (k * 2) word) i 0
    digit i two = ap (λ ps. get_or (get_or ps k []) i 0) (cut ∙ ap (first_chunks 2 n) same) ∙ digit_of_pair n k i word [] l two

one_more : (front : List ℕ) (byte : ℕ) (o : Option (List ℕ)) → option_map (λ more. front ++ more) (option_map (λ rest. byte ∷ rest) o) ≡ option_map (λ more. (front ++ byte ∷ []) ++ more) o
one_more front byte None = refl
one_more front byte (Some rest) = ap Some (simp append_assoc)

-- a pair is read, and its byte put behind those in front
pub pair_read : (word front after rest : List ℕ) (byte : ℕ) → 2 ≤ length rest → Some byte ≡ hex_byte (get_or rest 0 0) (get_or rest 1 0) → after ≡ front ++ byte ∷ []
    → hex_read word ≡ option_map (λ more. front ++ more) (hex_read rest) → hex_read word ≡ option_map (λ more. after ++ more) (hex_read (drop 2 rest))
pair_read word front after [] byte l e pushed h = absurd (omega arith)
pair_read word front after (high ∷ []) byte l e pushed h = absurd (omega arith)
pair_read word front after (high ∷ low ∷ more) byte l e pushed h =
    h
    ∙ ap (λ b. option_map (λ m. front ++ m) (byte_before b (hex_read more))) (sym e)
    ∙ one_more front byte (hex_read more)
    ∙ (λ i. option_map (λ m. sym pushed i ++ m) (hex_read more))

none-spelled : (word : List ℕ) → hex_read word ≡ None → spelling_read word ≡ None
none-spelled [] e = refl
none-spelled (c ∷ cs) e = e

pub no-word : (word : List ℕ) → length word ≡ 0 → spelling_read word ≡ None
no-word [] e = refl
no-word (c ∷ cs) e = absurd (omega arith)

module _ (word front : List ℕ) where
  -- a pair that spells no byte
  pub pair-wrong : (rest : List ℕ) → 2 ≤ length rest → None ≡ hex_byte (get_or rest 0 0) (get_or rest 1 0) → hex_read word ≡ option_map (λ more. front ++ more) (hex_read rest) → spelling_read word ≡ None
  pair-wrong [] l e h = absurd (omega arith)
  pair-wrong (high ∷ []) l e h = absurd (omega arith)
  pair-wrong (high ∷ low ∷ more) l e h = none-spelled word (h ∙ ap (λ b. option_map (λ m. front ++ m) (byte_before b (hex_read more))) (sym e))

  -- one digit is left
  pub digit-left : (rest : List ℕ) → length rest ≡ 1 → hex_read word ≡ option_map (λ more. front ++ more) (hex_read rest) → spelling_read word ≡ None
  digit-left [] l h = absurd (omega arith)
  digit-left (c ∷ []) l h = none-spelled word h
  digit-left (c ∷ d ∷ more) l h = absurd (omega arith)

  -- no digit is left
  pub all_read : (rest : List ℕ) → length rest ≡ 0 → 0 < length word → hex_read word ≡ option_map (λ more. front ++ more) (hex_read rest) → spelling_read word ≡ Some front
  all_read [] l some h = spelled word some (h ∙ ap Some (append-nil front))
    where
      spelled : (w : List ℕ) → 0 < length w → hex_read w ≡ Some front → spelling_read w ≡ Some front
      spelled [] some e = absurd (omega arith)
      spelled (c ∷ cs) some e = e
  all_read (c ∷ rest) l some h = absurd (omega arith)
