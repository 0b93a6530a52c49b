-- A decimal's last digit.
use Rattle.std.proofs.Common.{◌≡◌, ℕ, ◌+◌, ◌/◌, ◌%◌, ◌^◌, ◌<◌, ◌≤◌, [], ◌∷◌, length, decimal, ap, ◌∙◌, append_assoc, arith}
use Rattle.std.proofs.lemmas.Fmt.{decimal_digit, decimal_step}
use Rattle.std.proofs.lemmas.List.{length_push}

-- it stands behind those of a tenth
pub length_step : (n : ℕ) → 10 ≤ n → n < 2 ^ 64 → length (decimal n) ≡ length (decimal (n / 10)) + 1
length_step n more small = ap length (decimal_step n more small) ∙ length_push (decimal (n / 10)) (48 + n % 10)

-- or alone
pub only_digit : (n : ℕ) → n < 10 → decimal n ≡ (48 + n % 10) ∷ []
only_digit n single =
    let same : n % 10 ≡ n = omega arith in
    rw same (decimal_digit n single)

pub ruleset digits = (append_assoc, decimal_step, length_step, only_digit)
