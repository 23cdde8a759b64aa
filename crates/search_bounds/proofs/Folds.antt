-- The aggregate over crews and the greatest over landmarks, one further, as loops make them. Assumes nothing.
use mathlib.Core.Path.{◌≡◌, sym, ap, ◌∙◌}
use mathlib.Core.List.{List}
use Prim.Native.Nat.{ℕ, ◌+◌, ◌*◌, ◌≤◌, ◌<◌, max}
use native.Mathlib.Nat.{suc-mul, mul-le-mul_right}
use native.Mathlib.Numerals.{add-one}
use native.Mathlib.Omega.{arith}
use lib.ListN.{length, get_or, take}
use lib.Seq.{take_all}
use Rattle.tree_layout.specs.Values.{Mark}
use Rattle.search_rules.specs.Bounds.{combine, aggregate, greatest_of}
use Rattle.tree_layout.specs.Values.{no_mark}
use Rattle.search_rules.proofs.Turns.{aggregate-take, greatest-take}
use Rattle.search_rules.proofs.Equations.{aggregate-none, greatest-none, combine-most}

-- ---- over crews

-- one more of some most
one_more : (j most : ℕ) → (j + 1) * most ≡ j * most + most
one_more j most = rw (add-one j) (suc-mul j most)

-- x is the aggregate of the numbers of the first j crews, none of which is more than some most
pub record Summed (most code : ℕ) (g : ℕ → ℕ) (qs : List ℕ) (j x : ℕ) : Type 0 where
  pub value : x ≡ aggregate code g (take j qs)
  pub small : x ≤ j * most

module _ (most code : ℕ) (g : ℕ → ℕ) (qs : List ℕ) where
  pub summed_none : Summed most code g qs 0 0
  summed_none = record { value = sym (aggregate-none code g); small = omega arith }

  module _ (j x : ℕ) (s : Summed most code g qs j x) where
    -- the next sum of at most sixteen is no more than sixteen times the most
    pub summed_room : length qs ≤ 16 → j < length qs → (w : ℕ) → w ≤ most → x + w ≤ 16 * most
    summed_room few h w k = let z : j + 1 ≤ 16 = omega arith in omega (arith, s.small, one_more j most, mul-le-mul_right most z)

    pub summed_turn : j < length qs → (w y : ℕ) → w ≤ most → w ≡ g (get_or qs j 0) → y ≡ combine code x w → Summed most code g qs (j + 1) y
    summed_turn h w y k e f = record {
      value = f ∙ rw (s.value, e, add-one j) (sym (aggregate-take code g qs j h));
      small = omega (arith, combine-most code x w, s.small, one_more j most);
    }

    pub summed_all : length qs ≤ j → x ≡ aggregate code g qs
    summed_all h = s.value ∙ ap (aggregate code g) (take_all j qs h)

-- ---- over landmarks

-- x is the greatest of the numbers of the first j landmarks
abbrev pub Greatest : (g : Mark → ℕ) (ks : List Mark) (j x : ℕ) → Type 0
Greatest g ks j x = x ≡ greatest_of g (take j ks)

module _ (g : Mark → ℕ) (ks : List Mark) where
  pub greatest_start : Greatest g ks 0 0
  greatest_start = sym (greatest-none g)

  pub greatest-turn : (j x : ℕ) → Greatest g ks j x → j < length ks → (w y : ℕ) → w ≡ g (get_or ks j no_mark) → y ≡ max x w → Greatest g ks (j + 1) y
  greatest-turn j x s h w y e f = f ∙ rw (s, e, add-one j) (sym (greatest-take g ks j h))

  pub greatest-all : (j x : ℕ) → Greatest g ks j x → length ks ≤ j → x ≡ greatest_of g ks
  greatest-all j x s h = s ∙ ap (greatest_of g) (take_all j ks h)
