-- The yards of a list in a range. Assumes nothing.
use mathlib.Core.Path.{◌≡◌, refl, sym, ap, ◌∙◌}
use mathlib.Core.Logic.{◌⊎◌, inl, inr}
use mathlib.Core.Bool.{Bool, true, false, not, ◌&&◌}
use mathlib.Core.List.Memᴰ.{head}
use mathlib.Core.List.Memᴰ.{not-nil}
use mathlib.Core.List.Memᴰ.{tail}
use mathlib.Core.List.{List, [], ◌∷◌, ◌++◌, Memᴰ as Mem}
use mathlib.Core.List.Memᴰ.{cases_cons}
use Prim.Native.Nat.{ℕ, zero, suc, ◌+◌, ◌≤◌, ◌<◌}
use native.Mathlib.Omega.{arith}
use lib.ListN.{length}
use lib.Dec.{T, ltb, leb, not_T, leb→le, ltb→lt, le→leb, lt→ltb}
use Rattle.book.specs.Choose.{choose}
use Rattle.book.proofs.Choosing.{choose_case, choose_yes, choose_no, and_left, and_right, and_both}
use Rattle.check_rules.specs.Truth.{within}

module _ (low high : ℕ) where
  pub within_yes : (y : ℕ) (ys : List ℕ) → low ≤ y → y < high → within low high (y ∷ ys) ≡ y ∷ within low high ys
  unfolding within
  within_yes y ys h k = choose_yes (leb low y && ltb y high) _ _ (and_both (leb low y) (ltb y high) (le→leb low y h) (lt→ltb y high k))

  pub within_no : (y : ℕ) (ys : List ℕ) → (low ≤ y → y < high → ⊥) → within low high (y ∷ ys) ≡ within low high ys
  unfolding within
  within_no y ys h = choose_no (leb low y && ltb y high) _ _ (not_T (leb low y
      && ltb y high) (λ t. h (leb→le low y (and_left (leb low y) (ltb y high) t)) (ltb→lt y high (and_right (leb low y) (ltb y high) t))))

  pub within_empty : within low high [] ≡ []
  unfolding within
  within_empty = refl

  -- such a yard is one of the list, in the range
  pub within-mem : (ys : List ℕ) (y : ℕ) → Mem y (within low high ys) → Mem y ys × (low ≤ y) × (y < high)
  unfolding within
  within-mem [] y k = absurd (not-nil k)
  within-mem (x ∷ xs) y k =
      choose_case (λ (l : List ℕ). Mem y l → Mem y (x ∷ xs) × (low ≤ y)
      × (y < high)) (leb low x && ltb x high) (λ t j. go t (cases_cons j) (λ i. within-mem xs y i)) (λ t j. wide (within-mem xs y j)) k
    where
      wide : Mem y xs × (low ≤ y) × (y < high) → Mem y (x ∷ xs) × (low ≤ y) × (y < high)
      wide r = (tail r.0, r.1, r.2)

      go : T (leb low x && ltb x high) → (y ≡ x) ⊎ Mem y (within low high xs) → (Mem y (within low high xs) → Mem y xs × (low ≤ y) × (y < high))
          → Mem y (x ∷ xs) × (low ≤ y) × (y < high)
      go t (inl e) rec = (head e, rw e (leb→le low x (and_left (leb low x) (ltb x high) t)), rw e (ltb→lt x high (and_right (leb low x) (ltb x high) t)))
      go t (inr j) rec = wide (rec j)

  -- and every yard of the list in the range is such a yard
  pub mem-within : (ys : List ℕ) (y : ℕ) → Mem y ys → low ≤ y → y < high → Mem y (within low high ys)
  unfolding within
  mem-within [] y k h l = absurd (not-nil k)
  mem-within (x ∷ xs) y k h l = go (cases_cons k) (λ j. mem-within xs y j h l)
    where
      later : Mem y (within low high xs) → Mem y (within low high (x ∷ xs))
      later j = choose_case (λ (l : List ℕ). Mem y l) (leb low x && ltb x high) (λ t. tail j) (λ t. j)

      go : (y ≡ x) ⊎ Mem y xs → (Mem y xs → Mem y (within low high xs)) → Mem y (within low high (x ∷ xs))
      go (inl e) rec = rw (within_yes x xs (rw e at h) (rw e at l)) (head e)
      go (inr j) rec = later (rec j)
