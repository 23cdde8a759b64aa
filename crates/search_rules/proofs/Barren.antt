-- Leaves that may enter the queue and have no wanted yard. Assumes nothing.
use mathlib.Core.Path.{◌≡◌, refl}
use mathlib.Core.Logic.{◌⊎◌, inl, inr}
use mathlib.Core.Bool.{◌||◌}
use mathlib.Core.List.Memᴰ.{head}
use mathlib.Core.List.Memᴰ.{not-nil}
use mathlib.Core.List.Memᴰ.{tail}
use mathlib.Core.List.{List, [], ◌∷◌, Memᴰ as Mem}
use mathlib.Core.List.Memᴰ.{cases_cons}
use Prim.Native.Nat.{ℕ}
use lib.Dec.{T, T_not, not_T}
use Rattle.book.proofs.Choosing.{and_left, and_right, and_both}
use Rattle.book.proofs.Lists.{or_left, or_right, or_cases}
use Rattle.tree_layout.specs.Values.{Element}
use Rattle.search_rules.specs.Instance.{Instance, leaf}
use Rattle.search_rules.specs.Bounds.{chosen}
use Rattle.search_rules.specs.Theorems.{any_wanted, barren}

module _ (i : Instance) where
  -- some element is wanted exactly if the test says so
  pub wanted-any : (es : List Element) (e : Element) → Mem e es → T (i.wants e.yard) → T (any_wanted i es)
  unfolding any_wanted
  wanted-any [] e k w = absurd (not-nil k)
  wanted-any (g ∷ es) e k w = go (cases_cons k) (λ j. wanted-any es e j w)
    where
      go : (e ≡ g) ⊎ Mem e es → (Mem e es → T (any_wanted i es)) → T (i.wants g.yard || any_wanted i es)
      go (inl p) rec = or_left (i.wants g.yard) _ (rw (← p) w)
      go (inr j) rec = or_right (i.wants g.yard) _ (rec j)

  pub any-wanted : (es : List Element) → T (any_wanted i es) → (e : Element) × Mem e es × T (i.wants e.yard)
  unfolding any_wanted
  any-wanted [] t = absurd t
  any-wanted (g ∷ es) t = go (or_cases (i.wants g.yard) _ t) (any-wanted es)
    where
      go : T (i.wants g.yard) ⊎ T (any_wanted i es) → (T (any_wanted i es) → (e : Element) × Mem e es × T (i.wants e.yard))
          → (e : Element) × Mem e (g ∷ es) × T (i.wants e.yard)
      go (inl w) rec = (g, head refl, w)
      go (inr s) rec = let x = rec s in (x.0, tail x.1, x.2)

  module _ (r : ℕ) where
    pub barren-admits : T (barren i r) → T (i.admits r)
    unfolding barren
    barren-admits t = and_left (i.admits r) _ t

    pub barren-leaf : T (barren i r) → T (leaf i r)
    unfolding barren
    barren-leaf t = and_left (leaf i r) _ (and_right (i.admits r) _ t)

    -- no element of its chosen list is wanted
    pub barren-none : T (barren i r) → (e : Element) → Mem e (chosen i r).list → T (i.wants e.yard) → ⊥
    unfolding barren
    barren-none t e k w =
        T_not (any_wanted i (chosen i r).list) (and_right (leaf i r) _ (and_right (i.admits r) _ t)) (wanted-any (chosen i r).list e k w)

    pub barren_by : T (i.admits r) → T (leaf i r) → ((e : Element) → Mem e (chosen i r).list → T (i.wants e.yard) → ⊥) → T (barren i r)
    unfolding barren
    barren_by a l h = and_both (i.admits r) _ a (and_both (leaf i r) _ l
        (not_T (any_wanted i (chosen i r).list) (λ s. let x = any-wanted (chosen i r).list s in h x.0 x.1 x.2)))
