-- A landmark's distances to the crews, one crew at a time. Assumes nothing.
use mathlib.Core.Path.{◌≡◌, refl, sym, ap, ◌∙◌}
use mathlib.Core.List.Memᴰ
use mathlib.Core.List.Memᴰ.{head}
use mathlib.Core.List.Memᴰ.{tail}
use mathlib.Core.List.{List, [], ◌∷◌, Memᴰ as Mem}
use Prim.Native.Nat.{ℕ, zero, suc, ◌+◌, ◌≤◌, ◌<◌}
use native.Mathlib.Numerals.{add-one}
use native.Mathlib.Omega.{arith}
use lib.ListN.{length, get_or, set, take, length-set}
use lib.Seq.{take-suc, take-suc-set, take_all}
use Rattle.road_layout.specs.Road.{junctions}
use Rattle.road.specs.Dijkstra.{dist}
use Rattle.road.specs.Facts.{Passing}
use Rattle.road.proofs.Theorems.{metric}
use Rattle.search_bounds.specs.code.Measures.{Short, to_crews}

module _ (road : List ℕ) (l : ℕ) where
  pub to_none : to_crews road l [] ≡ []
  unfolding to_crews
  to_none = refl

  pub to-cons : (q : ℕ) (qs : List ℕ) → to_crews road l (q ∷ qs) ≡ dist road l q ∷ to_crews road l qs
  unfolding to_crews
  to-cons q qs = refl

  -- there is a distance for each crew, at its place
  pub to-length : (crews : List ℕ) → length (to_crews road l crews) ≡ length crews
  unfolding to_crews
  to-length [] = refl
  to-length (q ∷ qs) = ap suc (to-length qs)

  pub to_at : (crews : List ℕ) (j : ℕ) → j < length crews → get_or (to_crews road l crews) j 0 ≡ dist road l (get_or crews j 0)
  unfolding to_crews
  to_at [] j h = absurd (omega arith)
  to_at (q ∷ qs) zero h = refl
  to_at (q ∷ qs) (suc j) h = to_at qs j (omega arith)

  -- and each is short
  pub to-short : Passing road → l < junctions road → (crews : List ℕ) → ((q : ℕ) → Mem q crews → q < junctions road) → Short (to_crews road l crews)
  unfolding to_crews
  to-short p h [] there x m = absurd (Memᴰ.not-nil m)
  to-short p h (q ∷ qs) there x (head e) = rw e ((metric road p).bounded l q h (there q (head refl)))
  to-short p h (q ∷ qs) there x (tail m) = to-short p h qs (λ y k. there y (tail k)) x m

  -- ---- with j crews done

  pub record Towards (crews out : List ℕ) (j : ℕ) : Type 0 where
    pub inside : j ≤ length crews
    pub same : length out ≡ length crews
    pub so_far : take j out ≡ take j (to_crews road l crews)

  pub towards_none : (crews out : List ℕ) → length out ≡ length crews → Towards crews out 0
  towards_none crews out e = record { inside = omega arith; same = e; so_far = refl }

  module _ (crews out : List ℕ) (j : ℕ) (t : Towards crews out j) where
    pub towards-more : (x : ℕ) → j < length crews → x ≡ dist road l (get_or crews j 0) → Towards crews (set out j x) (j + 1)
    towards-more x h e = record {
      inside = omega arith;
      same = length-set out j x ∙ t.same;
      so_far = rw (add-one j, take-suc-set out j x (omega (arith, t.same)), t.so_far, e, ← to_at crews j h)
          (sym (take-suc (to_crews road l crews) j 0 (omega (arith, to-length crews))));
    }

    pub towards-all : length crews ≤ j → out ≡ to_crews road l crews
    towards-all h = sym (take_all j out (omega (arith, t.same))) ∙ t.so_far ∙ take_all j (to_crews road l crews) (omega (arith, to-length crews))
