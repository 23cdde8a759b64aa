-- What is computed of a yard: an equation for each definition, for those who compute it. Assumes nothing.
use mathlib.Core.Path.{◌≡◌, refl}
use mathlib.Core.Bool.{not, Bool, false}
use mathlib.Core.List.{List, [], ◌∷◌}
use Prim.Native.Nat.{ℕ, ◌+◌, ◌≤◌, max}
use native.Mathlib.Omega.{arith}
use lib.ListN.{length, get_or}
use lib.Dec.{T, eqb}
use Rattle.book.specs.Choose.{choose}
use Rattle.book.proofs.Choosing.{choose_case, choose_no}
use Rattle.tree_layout.specs.Values.{Element, Mark}
use Rattle.search_rules.specs.Instance.{Instance}
use Rattle.search_rules.specs.Bounds.{abs_diff, combine, aggregate, lower, over, total, furthest, list_abs_diff, f, two_way_yard_bound, one_way_yard_bound, yard_bound}
use Rattle.search_rules.specs.Queue.{unqueued, word_at, pick}
use Rattle.search_rules.specs.Step.{left, passed, waiting, next_place, next_f}

-- ---- aggregates

pub combine-most : (code a b : ℕ) → combine code a b ≤ a + b
unfolding combine
combine-most code a b = choose_case (λ z. z ≤ a + b) (eqb code 0) (λ t. omega arith) (λ t. omega arith)

pub aggregate-cons : (code : ℕ) (g : ℕ → ℕ) (q : ℕ) (qs : List ℕ) → aggregate code g (q ∷ qs) ≡ combine code (g q) (aggregate code g qs)
unfolding aggregate
aggregate-cons code g q qs = refl

-- ---- of a yard

module _ (i : Instance) where
  pub total-is : (y : ℕ) → total i y ≡ aggregate i.code (λ q. i.d q y) i.crews
  unfolding total over
  total-is y = refl

  pub furthest-is : (y : ℕ) → furthest i y ≡ aggregate 1 (λ q. i.d q y) i.crews
  unfolding furthest
  furthest-is y = refl

  pub f-is : (m : Mark) (e : Element) → f i m e ≡ aggregate i.code (λ q. abs_diff (i.d m.place q) e.distance) i.crews
  unfolding f over list_abs_diff
  f-is m e = refl

  pub yard-bound-is : T (not i.one_way) → (m : Mark) (e : Element)
      → yard_bound i m e ≡ aggregate i.code (λ q. max (lower i e.yard q) (abs_diff (i.d m.place q) e.distance)) i.crews
  unfolding yard_bound two_way_yard_bound over list_abs_diff
  yard-bound-is two m e = choose_no i.one_way (one_way_yard_bound i m e) (two_way_yard_bound i m e) two

-- ---- of a leaf's list

pub left_is : (gone : List Bool) (y : ℕ) → left gone y ≡ get_or gone y false
unfolding left
left_is gone y = refl

module _ (i : Instance) (gone : List Bool) (m : Mark) where
  pub waiting_none : waiting i gone m [] ≡ []
  unfolding waiting
  waiting_none = refl

  pub waiting-cons : (e : Element) (es : List Element) → waiting i gone m (e ∷ es) ≡ choose (passed i gone e.yard) unqueued (f i m e) ∷ waiting i gone m es
  unfolding waiting
  waiting-cons e es = refl

  pub next-place-is : next_place i gone m ≡ pick (waiting i gone m m.list) (length m.list)
  unfolding next_place
  next-place-is = refl

  pub next-f-is : next_f i gone m ≡ word_at (waiting i gone m m.list) (next_place i gone m)
  unfolding next_f
  next-f-is = refl
