-- Digits read in turn, and the number that they are. Assumes nothing.
use mathlib.Core.Path.{◌≡◌, refl, sym, ap, subst, ◌∙◌}
use mathlib.Core.Bool.{Bool, true, ◌&&◌}
use mathlib.Core.Option.{none, some}
use mathlib.Core.List.{List, [], ◌∷◌}
use Prim.Native.Nat.{ℕ, suc, ◌+◌, ◌*◌, ◌-◌, ◌≤◌, ◌<◌}
use native.Mathlib.Numerals.{add-one}
use native.Mathlib.Omega.{arith}
use lib.ListN.{length, drop, get_or, drop_of_length-le}
use lib.Seq.{drop-cons}
use lib.Dec.{T, leb, leb→le, le→leb, ltb→lt, lt→ltb, not_T}
use Rattle.book.proofs.Choosing.{choose_yes, choose_no, and_left, and_right, and_both, T_true}
use Rattle.within.specs.Input.{is_digit, all_digits, value_after, value_of, is_number, number_of}

-- what is known after i digits, whose value is n
pub record Reading (s : List ℕ) (i n : ℕ) : Type 0 where
  pub inside : i ≤ length s
  pub digits : all_digits s ≡ all_digits (drop i s)
  pub value : value_of s ≡ value_after n (drop i s)
  pub below : n < 4294967296

pub reading_none : (s : List ℕ) → Reading s 0 0
reading_none s = record { inside = omega arith; digits = refl; value = refl; below = omega arith }

-- one digit more
digits_on : (b : ℕ) (s : List ℕ) → T (is_digit b) → all_digits (b ∷ s) ≡ all_digits s
unfolding all_digits
digits_on b s t = ap (λ (d : Bool). d && all_digits s) (T_true (is_digit b) t)

value_on : (n b : ℕ) (s : List ℕ) → value_after n (b ∷ s) ≡ value_after (10 * n + (b - 48)) s
unfolding value_after
value_on n b s = refl

pub digit-is : (b : ℕ) → 48 ≤ b → b ≤ 57 → T (is_digit b)
digit-is b low high = and_both (leb 48 b) (leb b 57) (le→leb 48 b low) (le→leb b 57 high)

-- a value only grows
value_grows : (n : ℕ) (s : List ℕ) → n ≤ value_after n s
unfolding value_after
value_grows n [] = omega arith
value_grows n (b ∷ s) = omega (arith, value_grows (10 * n + (b - 48)) s)

-- why some bytes are no number, and why they are one
module _ (s : List ℕ) where
  no_number : (T (is_number s) → ⊥) → none ≡ number_of s
  unfolding number_of
  no_number h = sym (choose_no (is_number s) (some (value_of s)) none (not_T (is_number s) h))

  pub empty_not : length s ≡ 0 → none ≡ number_of s
  unfolding is_number
  empty_not e = no_number (λ t. omega (arith, leb→le 1 (length s) (and_left (leb 1 (length s)) _ t)))

  other-not : (T (all_digits s) → ⊥) → none ≡ number_of s
  unfolding is_number
  other-not h = no_number (λ t. h (and_left (all_digits s) _ (and_right (leb 1 (length s)) _ t)))

  large_not : 4294967296 ≤ value_of s → none ≡ number_of s
  unfolding is_number
  large_not h =
      no_number (λ t. omega (arith, ltb→lt (value_of s) 4294967296 (and_right (all_digits s) _ (and_right (leb 1 (length s)) _ t))))

  pub number_is : 1 ≤ length s → T (all_digits s) → value_of s < 4294967296 → some (value_of s) ≡ number_of s
  unfolding is_number number_of
  number_is long digits below =
      sym (choose_yes (is_number s) (some (value_of s)) none
      (and_both (leb 1 (length s)) _ (le→leb 1 (length s) long) (and_both (all_digits s) _ digits (lt→ltb (value_of s) 4294967296 below))))

-- a turn: the byte at i is a digit that keeps the value small, or one that makes it too large, or no digit
module _ {s : List ℕ} {i n : ℕ} (r : Reading s i n) (more : i < length s) where
  abbrev here : ℕ
  here = get_or s i 0

  value-next : value_of s ≡ value_after (10 * n + (here - 48)) (drop (suc i) s)
  value-next = r.value ∙ ap (value_after n) (drop-cons s i 0 more) ∙ value_on n here (drop (suc i) s)

  pub reading_more : (m : ℕ) → m ≡ 10 * n + (here - 48) → 48 ≤ here → here ≤ 57 → m < 4294967296 → Reading s (i + 1) m
  reading_more m e low high small = rw add-one record {
    inside = omega arith;
    digits = r.digits ∙ ap all_digits (drop-cons s i 0 more) ∙ digits_on here (drop (suc i) s) (digit-is here low high);
    value = value-next ∙ ap (λ (k : ℕ). value_after k (drop (suc i) s)) (sym e);
    below = small;
  }

  pub too_large : 4294967296 ≤ 10 * n + (here - 48) → none ≡ number_of s
  too_large h = large_not s (omega (arith, value-next, value_grows (10 * n + (here - 48)) (drop (suc i) s)))

  pub no_digit : (48 ≤ here → here ≤ 57 → ⊥) → none ≡ number_of s
  unfolding all_digits
  no_digit h = other-not s (λ t. go (and_left (is_digit here) _ (subst T (r.digits ∙ ap all_digits (drop-cons s i 0 more)) t)))
    where
      go : T (is_digit here) → ⊥
      go t = h (leb→le 48 here (and_left (leb 48 here) (leb here 57) t)) (leb→le here 57 (and_right (leb 48 here) (leb here 57) t))

-- the end: all bytes were digits
pub read_whole : {s : List ℕ} {i n : ℕ} → Reading s i n → length s ≤ i → 1 ≤ i → some n ≡ number_of s
unfolding all_digits value_after
read_whole {s} {i} {n} r all some_read =
    let nothing = drop_of_length-le s all in
    let value : value_of s ≡ n = r.value ∙ ap (value_after n) nothing in
    let digits : all_digits s ≡ true = r.digits ∙ ap all_digits nothing in
    subst (λ (m : ℕ). some m ≡ number_of s) value (number_is s (omega (arith, r.inside)) (rw digits tt) (omega (arith, value, r.below)))
