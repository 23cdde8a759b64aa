-- Seconds that stand in decimal before a line end are read as what they are. Assumes nothing.
use mathlib.Core.Path.{◌≡◌, refl, sym, ap, ◌∙◌}
use mathlib.Core.Logic.{◌⊎◌, inl, inr}
use mathlib.Core.Option.{Option, some}
use mathlib.Core.List.{List, [], ◌∷◌, ◌++◌}
use Prim.Native.Nat.{ℕ, zero, suc, ◌+◌, ◌*◌, ◌-◌, ◌/◌, ◌%◌, ◌≤◌, ◌<◌}
use native.Mathlib.Omega.{arith}
use lib.ListN.{length, drop, replicate, length-append}
use lib.Seq.{take-append_seam, drop-append-add}
use lib.Dec.{T, leb, leb→le}
use Rattle.book.proofs.Choosing.{lt-or_ge, and_left, and_right, and_both}
use Rattle.text.specs.Text.{digit, decimal, line_end}
use Rattle.text.proofs.Decimals.{decimal-small, decimal_step}
use Rattle.listing.specs.Output.{books_text}
use Rattle.within.specs.Input.{is_digit, all_digits, value_after, value_of, line_length, number_of, seconds_in, books_in}
use Rattle.within.specs.Output.{result_words, text_by, within_text}
use Rattle.within.proofs.Lines.{stops, goes_on}
use Rattle.within.proofs.Numbers.{digit-is, number_is}
use Rattle.within.proofs.Texts.{line_there}

-- digits, and one digit more
digits_more : (s : List ℕ) (d : ℕ) → d < 10 → T (all_digits s) → T (all_digits (s ++ digit d))
unfolding all_digits
digits_more [] d h t = and_both (is_digit (48 + d)) _ (digit-is (48 + d) (omega arith) (omega arith)) tt
digits_more (b ∷ s) d h t = and_both (is_digit b) _ (and_left (is_digit b) (all_digits s) t) (digits_more s d h (and_right (is_digit b) (all_digits s) t))

value-more : (n : ℕ) (s : List ℕ) (d : ℕ) → value_after n (s ++ digit d) ≡ 10 * value_after n s + d
unfolding value_after
value-more n [] d = omega arith
value-more n (b ∷ s) d = value-more (10 * n + (b - 48)) s d

-- a number's decimal is one or more digits, of that value
record Read (s : List ℕ) (n : ℕ) : Type 0 where
  long : 1 ≤ length s
  digits : T (all_digits s)
  value : value_of s ≡ n

read_more : (s : List ℕ) (n d : ℕ) → d < 10 → T (all_digits s) → value_of s ≡ n → Read (s ++ digit d) (10 * n + d)
read_more s n d h t e = record {
  long = omega (arith, length-append s (digit d));
  digits = digits_more s d h t;
  value = value-more 0 s d ∙ ap (λ (k : ℕ). 10 * k + d) e;
}

read_as : (s t : List ℕ) (m n : ℕ) → t ≡ s → m ≡ n → Read s m → Read t n
read_as s t m n e f r = rw (e, ← f) r

read_decimal : (most n : ℕ) → n < most → Read (decimal n) n
unfolding all_digits value_after
read_decimal zero n h = absurd (omega arith)
read_decimal (suc most) n h = go (lt-or_ge n 10) (λ s. read_decimal most (n / 10) (omega arith))
  where
    go : (n < 10) ⊎ (10 ≤ n) → (10 ≤ n → Read (decimal (n / 10)) (n / 10)) → Read (decimal n) n
    go (inl s) tenth = read_as (digit n) (decimal n) (10 * 0 + n) n (decimal-small n s) (omega arith) (read_more [] 0 n s tt refl)
    go (inr s) tenth =
        let last = read_more (decimal (n / 10)) (n / 10) (n % 10) (omega arith) (tenth s).digits (tenth s).value in
        read_as (decimal (n / 10) ++ digit (n % 10)) (decimal n) (10 * (n / 10) + n % 10) n (decimal_step n s) (omega arith) last

-- a line of digits ends at the first line end
line_of_digits : (s rest : List ℕ) → T (all_digits s) → line_length (s ++ (10 ∷ rest)) ≡ length s
unfolding all_digits
line_of_digits [] rest t = stops 10 rest refl
line_of_digits (b ∷ s) rest t =
    let low = leb→le 48 b (and_left (leb 48 b) (leb b 57) (and_left (is_digit b) (all_digits s) t)) in
    let here = goes_on b (s ++ (10 ∷ rest)) (λ e. omega (arith, low, e)) in
    let later = line_of_digits s rest (and_right (is_digit b) (all_digits s) t) in
    omega arith

module _ (n : ℕ) (books : List ℕ) (below : n < 4294967296) where
  abbrev input : List ℕ
  input = decimal n ++ (line_end ++ books)

  read : Read (decimal n) n
  read = read_decimal (suc n) n (omega arith)

  line : line_length input ≡ length (decimal n)
  line = line_of_digits (decimal n) books read.digits

  number : number_of (decimal n) ≡ some n
  number = sym (number_is (decimal n) read.long read.digits (omega (arith, read.value))) ∙ ap some read.value

  pub seconds-back : seconds_in (decimal n ++ (line_end ++ books)) ≡ some n
  seconds-back =
      let inside : length (decimal n) < length input = omega (arith, length-append (decimal n) (line_end ++ books)) in
      sym (line_there input (length (decimal n)) (sym line) inside) ∙ ap number_of (take-append_seam (decimal n) (line_end ++ books)) ∙ number

  pub books-back : books_in (decimal n ++ (line_end ++ books)) ≡ books
  unfolding books_in
  books-back = ap (λ (k : ℕ). drop (k + 1) input) line ∙ drop-append-add (decimal n) (line_end ++ books) 1

  -- so the program prints what a search within those seconds leads to
  pub text_back : within_text (decimal n ++ (line_end ++ books)) ≡ books_text books (some n) (replicate result_words 0)
  unfolding within_text text_by
  text_back =
      ap (λ (o : Option ℕ). text_by o (books_in input)) seconds-back
      ∙ ap (λ (b : List ℕ). books_text b (some n) (replicate result_words 0)) books-back
