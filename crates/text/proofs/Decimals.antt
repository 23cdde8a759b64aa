-- Numbers in decimal: how one is made from a tenth of it; and the fewest digits in base 10 are these. Assumes nothing.
use mathlib.Core.Path.{◌≡◌, sym, ap, ◌∙◌}
use mathlib.Core.Logic.{◌⊎◌, inl, inr}
use mathlib.Core.List.{List, [], ◌∷◌, ◌++◌}
use Prim.Native.Nat.{ℕ, zero, suc, ◌+◌, ◌*◌, ◌-◌, ◌/◌, ◌%◌, ◌^◌, ◌≤◌, ◌<◌}
use native.Mathlib.Nat.{pow-suc, one-le-pow, pow-le-pow_right}
use native.Mathlib.Numerals.{unary_clauses}
use native.Mathlib.Omega.{arith}
use borrow.Author.Tests.{lt-ltb}
use lib.Dec.{ltb, lt→ltb, ltb→lt, not_T}
use Rattle.io.specs.Digits.{last_digits, IsDigitCount, hex_digit_ascii}
use Rattle.book.proofs.Choosing.{lt-or_ge, choose_yes, choose_no}
use Rattle.text.specs.Text.{digit, decimal_within, decimal}

-- a number below 10, and any other
within-small : (most n : ℕ) → n < 10 → decimal_within (suc most) n ≡ digit n
unfolding decimal_within
within-small most n h = choose_yes (ltb n 10) _ _ (lt→ltb n 10 h)

within_step : (most n : ℕ) → 10 ≤ n → decimal_within (suc most) n ≡ decimal_within most (n / 10) ++ digit (n % 10)
unfolding decimal_within
within_step most n h = choose_no (ltb n 10) _ _ (not_T (ltb n 10) (λ t. omega (arith, ltb→lt n 10 t)))

-- more digits than a number has change nothing
within-enough : (f g n : ℕ) → n < f → n < g → decimal_within f n ≡ decimal_within g n
within-enough zero g n h k = absurd (omega arith)
within-enough (suc f) zero n h k = absurd (omega arith)
within-enough (suc f) (suc g) n h k = go (lt-or_ge n 10) (λ s. within-enough f g (n / 10) (omega arith) (omega arith))
  where
    go : (n < 10) ⊎ (10 ≤ n) → (10 ≤ n → decimal_within f (n / 10) ≡ decimal_within g (n / 10)) → decimal_within (suc f) n ≡ decimal_within (suc g) n
    go (inl s) same = within-small f n s ∙ sym (within-small g n s)
    go (inr s) same = within_step f n s ∙ (ap (λ (l : List ℕ). l ++ digit (n % 10)) (same s) ∙ sym (within_step g n s))

pub decimal-small : (n : ℕ) → n < 10 → decimal n ≡ digit n
unfolding decimal
decimal-small n h = within-small n n h

pub decimal_step : (n : ℕ) → 10 ≤ n → decimal n ≡ decimal (n / 10) ++ digit (n % 10)
unfolding decimal
decimal_step n h = within_step n n h ∙ ap (λ (l : List ℕ). l ++ digit (n % 10)) (within-enough n (suc (n / 10)) (n / 10) (omega arith) (omega arith))

glyph_digit : (n : ℕ) → n < 10 → hex_digit_ascii n ≡ 48 + n
glyph_digit n h = simp (lt-ltb n 10 h)

-- as many digits as hold a number, and no fewer would
digits_decimal : (k n : ℕ) → n < 10 ^ suc k → (0 < k → 10 ^ k ≤ n) → last_digits 10 (suc k) n ≡ decimal n
digits_decimal zero n high low =
    let same : n % 10 ≡ n = omega arith in
    ap (λ (d : ℕ). d ∷ []) (ap hex_digit_ascii same ∙ glyph_digit n high) ∙ sym (decimal-small n high)
digits_decimal (suc k) n high low =
    let most : 10 ^ suc (suc k) ≡ 10 ^ suc k * 10 = pow-suc 10 (suc k) in
    let least : 10 ^ suc k ≡ 10 ^ k * 10 = pow-suc 10 k in
    let positive : 0 < 10 ^ k = one-le-pow k 10 (omega arith) in
    let large : 10 ^ suc k ≤ n = low (omega arith) in
    let rest = digits_decimal k (n / 10) (omega arith) (λ _. omega arith) in
    ap (λ (l : List ℕ). l ++ (hex_digit_ascii (n % 10) ∷ [])) rest
    ∙ ap (λ (d : ℕ). decimal (n / 10) ++ (d ∷ [])) (glyph_digit (n % 10) (omega arith))
    ∙ sym (decimal_step n (omega arith))

-- the fewest digits in base 10 that hold a number are its decimal
pub fewest_decimal : (k n : ℕ) → IsDigitCount 10 1 n k → last_digits 10 k n ≡ decimal n
fewest_decimal zero n f = absurd (omega (arith, f.0))
fewest_decimal (suc k) n f = digits_decimal k n f.1 (λ h. simp unary_clauses at (f.2 (omega arith)))

-- a number of 64 bits has at most 20 digits
pub fewest_short : (k n : ℕ) → IsDigitCount 10 1 n k → n < 18446744073709551616 → k ≤ 20
fewest_short k n f h = go (lt-or_ge 20 k)
  where
    go : (20 < k) ⊎ (k ≤ 20) → k ≤ 20
    go (inr s) = s
    go (inl s) =
        let positive : 0 < 10 = omega arith in
        let more : 20 ≤ k - 1 = omega arith in
        let long : 10 ^ 20 ≤ 10 ^ (k - 1) = pow-le-pow_right positive more in
        let low : 10 ^ (k - 1) ≤ n = f.2 (omega arith) in
        absurd (omega arith)
