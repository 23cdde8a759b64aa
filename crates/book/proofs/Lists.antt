-- Laws of tests on numbers, of membership, of lists in which nothing stands twice, and of what of a list passes a test. Assumes nothing.
use mathlib.Core.Path.{◌≡◌, refl, sym, ap, ◌∙◌}
use mathlib.Core.Logic.{◌⊎◌, inl, inr, ◌≢◌}
use mathlib.Core.Bool.{Bool, true, false, not, ◌&&◌, ◌||◌}
use mathlib.Core.List.Memᴰ.{head}
use mathlib.Core.List.Memᴰ.{not-nil}
use mathlib.Core.List.Memᴰ.{tail}
use mathlib.Core.List.{List, [], ◌∷◌, ◌++◌, map, Memᴰ as Mem}
use mathlib.Core.List.Memᴰ.{append_cases}
use mathlib.Core.List.Memᴰ.{cases_cons}
use Prim.Native.Nat.{ℕ, zero, suc, ◌+◌, ◌≤◌, ◌<◌}
use native.Mathlib.Omega.{arith}
use lib.ListN.{length, get_or}
use lib.Dec.{T, ltb, leb, eqb, eqb→eq, eqb_refl, T_not, not_T}
use Rattle.book.specs.Choose.{choose}
use Rattle.book.specs.Lists.{Distinct, keep_if}
use Rattle.book.proofs.Choosing.{choose_case, choose_yes, choose_no}
pub use Rattle.book.proofs.Tests.{or_left, or_right, or_cases, eq→eqb, ne→neqb, neqb→ne}

-- ---- tests

-- a choice between a number and 0 that is not 0: the test holds
pub choose_positive : (b : Bool) (x : ℕ) → 0 < choose b x 0 → T b × (choose b x 0 ≡ x)
unfolding choose
choose_positive true x h = (tt, refl)
choose_positive false x h = absurd (omega arith)

-- ---- members and places

pub get_d_mem : {A : Type 0} (l : List A) (i : ℕ) (d : A) → i < length l → Mem (get_or l i d) l
get_d_mem [] i d h = absurd (omega arith)
get_d_mem (x ∷ xs) zero d h = head refl
get_d_mem (x ∷ xs) (suc i) d h = tail (get_d_mem xs i d (omega arith))

-- whatever stands in a list has a place in it
pub mem_get_d : {A : Type 0} (l : List A) (d x : A) → Mem x l → (i : ℕ) × (i < length l) × (x ≡ get_or l i d)
mem_get_d [] d x k = absurd (not-nil k)
mem_get_d {A} (y ∷ ys) d x k = go (cases_cons k) (λ j. mem_get_d ys d x j)
  where
    go : (x ≡ y) ⊎ Mem x ys → (Mem x ys → (i : ℕ) × (i < length ys) × (x ≡ get_or ys i d)) → (i : ℕ) × (i < length (y ∷ ys)) × (x ≡ get_or (y ∷ ys) i d)
    go (inl e) rec = (0, omega arith, e)
    go (inr j) rec = let r = rec j in (suc r.0, omega arith, r.2)

-- a member of a list's image is some member's image
pub map-mem : {A B : Type 0} (f : A → B) (l : List A) (y : B) → Mem y (map f l) → (x : A) × Mem x l × (y ≡ f x)
map-mem f [] y k = absurd (not-nil k)
map-mem {A} f (x ∷ xs) y k = go (cases_cons k) (λ j. map-mem f xs y j)
  where
    go : (y ≡ f x) ⊎ Mem y (map f xs) → (Mem y (map f xs) → (z : A) × Mem z xs × (y ≡ f z)) → (z : A) × Mem z (x ∷ xs) × (y ≡ f z)
    go (inl e) rec = (x, head refl, e)
    go (inr j) rec = let r = rec j in (r.0, tail r.1, r.2)

-- two lists without repetition and without a common member make one
pub distinct_append : {A : Type 0} (s t : List A) → Distinct s → Distinct t → ((y : A) → Mem y s → Mem y t → ⊥) → Distinct (s ++ t)
distinct_append [] t p q h = q
distinct_append (x ∷ xs) t p q h = ((λ k. out (append_cases xs k)), distinct_append xs t p.1 q (λ y k j. h y (tail k) j))
  where
    out : Mem x xs ⊎ Mem x t → ⊥
    out (inl k) = p.0 k
    out (inr k) = h x (head refl) k

-- ---- what of a list passes a test

module _ {A : Type 0} (p : A → Bool) where
  pub kept-none : keep_if p [] ≡ []
  unfolding keep_if
  kept-none = refl

  pub kept_yes : (x : A) (xs : List A) → T (p x) → keep_if p (x ∷ xs) ≡ x ∷ keep_if p xs
  unfolding keep_if
  kept_yes x xs t = choose_yes (p x) (x ∷ keep_if p xs) (keep_if p xs) t

  pub kept_no : (x : A) (xs : List A) → T (not (p x)) → keep_if p (x ∷ xs) ≡ keep_if p xs
  unfolding keep_if
  kept_no x xs t = choose_no (p x) (x ∷ keep_if p xs) (keep_if p xs) t

  -- it has the members that pass, and no others
  pub kept_from : (xs : List A) (x : A) → Mem x (keep_if p xs) → Mem x xs × T (p x)
  unfolding keep_if
  kept_from [] x = λ k. absurd (not-nil k)
  kept_from (y ∷ ys) x = let rest = kept_from ys x in
      choose_case (λ (l : List A). Mem x l → Mem x (y ∷ ys) × T (p x)) (p y) (λ t k. on t (cases_cons k) rest) (λ t k. (tail (rest k).0, (rest k).1))
    where
      on : T (p y) → (x ≡ y) ⊎ Mem x (keep_if p ys) → (Mem x (keep_if p ys) → Mem x ys × T (p x)) → Mem x (y ∷ ys) × T (p x)
      on t (inl e) rec = (head e, rw e t)
      on t (inr k) rec = (tail (rec k).0, (rec k).1)

  pub kept_in : (xs : List A) (x : A) → Mem x xs → T (p x) → Mem x (keep_if p xs)
  unfolding keep_if
  kept_in [] x k t = absurd (not-nil k)
  kept_in (y ∷ ys) x k t = let rest = kept_in ys x in
      choose_case (λ (l : List A). Mem x l) (p y) (λ s. on (cases_cons k) (λ j. rest j t)) (λ s. off s (cases_cons k) (λ j. rest j t))
    where
      on : (x ≡ y) ⊎ Mem x ys → (Mem x ys → Mem x (keep_if p ys)) → Mem x (y ∷ keep_if p ys)
      on (inl e) rec = head e
      on (inr j) rec = tail (rec j)

      off : T (not (p y)) → (x ≡ y) ⊎ Mem x ys → (Mem x ys → Mem x (keep_if p ys)) → Mem x (keep_if p ys)
      off s (inl e) rec = absurd (T_not (p y) s (rw (← e) t))
      off s (inr j) rec = rec j

  pub kept-distinct : (xs : List A) → Distinct xs → Distinct (keep_if p xs)
  unfolding keep_if
  kept-distinct [] d = tt
  kept-distinct (x ∷ xs) d = let rest = kept-distinct xs d.1 in
      choose_case (λ (l : List A). Distinct l) (p x) (λ t. ((λ k. d.0 (kept_from xs x k).0), rest)) (λ t. rest)

  -- all pass
  pub kept-all : (xs : List A) → ((x : A) → Mem x xs → T (p x)) → keep_if p xs ≡ xs
  kept-all [] h = kept-none
  kept-all (x ∷ xs) h = kept_yes x xs (h x (head refl)) ∙ ap (λ (l : List A). x ∷ l) (kept-all xs (λ y k. h y (tail k)))

  -- those that pass and those that don't are as many as the list has
  pub kept_split : (xs : List A) → length (keep_if p xs) + length (keep_if (λ x. not (p x)) xs) ≡ length xs
  unfolding keep_if choose
  kept_split [] = refl
  kept_split (x ∷ xs) = let rest = kept_split xs in one (p x) rest
    where
      one : (b : Bool) → length (keep_if p xs) + length (keep_if (λ x. not (p x)) xs) ≡ length xs
          → length (choose b (x ∷ keep_if p xs) (keep_if p xs)) + length (choose (not b) (x ∷ keep_if (λ x. not (p x)) xs) (keep_if (λ x. not (p x)) xs))
          ≡ suc (length xs)
      one true e = omega arith
      one false e = omega arith

  pub kept-length : (xs : List A) → length (keep_if p xs) ≤ length xs
  kept-length xs = omega (arith, kept_split xs)
