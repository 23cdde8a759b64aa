-- A yard's aggregate and its furthest crew's distance: what an answer says of them, and that rows tell them too. Assumes nothing.
use mathlib.Core.Path.{◌≡◌, sym, ap, ◌∙◌}
use mathlib.Core.Logic.{◌⊎◌, inl, inr}
use mathlib.Core.Bool.{not}
use mathlib.Core.List.{List}
use mathlib.Core.Option.{Option}
use Prim.Native.Nat.{ℕ, ◌<◌}
use native.Mathlib.Omega.{arith}
use lib.ListN.{length, get_or}
use lib.Dec.{T}
use Rattle.book.proofs.Choosing.{T-split}
use Rattle.book.proofs.Lists.{mem_get_d}
use Rattle.adjacency.specs.Arcs.{net}
use Rattle.road.specs.Dijkstra.{dist}
use Rattle.road.specs.code.Rows.{Rowed}
use Rattle.search_rules.specs.Rule.{Asking}
use Rattle.search_rules.specs.Instance.{Instance}
use Rattle.search_rules.specs.Books.{search_of}
use Rattle.search_rules.specs.Bounds.{aggregate, total, furthest}
use Rattle.search_rules.specs.Ceiling.{exceeds, Measured, exact, above, measured_by}
use Rattle.search_rules.specs.Walks.{AggregateLeast}
use Rattle.search_rules.proofs.Equations.{aggregate-same, search_of_lem}
use Rattle.search_rules.proofs.Exceeding.{measured-above, measured-exact}
use Rattle.search_rules.proofs.Measures.{total-is, furthest-is}
use Rattle.search_rules.proofs.Walks.{aggregate-least}
use Rattle.search_measure.specs.Way.{Stand}
use Rattle.search_measure.specs.Crews.{Measures}
use Rattle.search_measure.specs.code.Cases.{Measurable, total_of, furthest_of}

-- they are the search's own
module _ (road tree : List ℕ) (a : Asking) (crews : List ℕ) (y : ℕ) where
  abbrev i : Instance
  i = search_of road tree a crews

  pub total_of_lem : total_of road a.code crews y ≡ total i y
  unfolding total_of
  total_of_lem = sym (total-is i y ∙ ap (λ (x : Instance). aggregate x.code (λ q. x.d q y) x.crews) (search_of_lem road tree a crews))

  pub furthest_of_lem : furthest_of road crews y ≡ furthest i y
  unfolding furthest_of
  furthest_of_lem = sym (furthest-is i y ∙ ap (λ (x : Instance). aggregate 1 (λ q. x.d q y) x.crews) (search_of_lem road tree a crews))

-- two road books with the same rows for the crews have the same
module _ (road road' crews drives : List ℕ) where
  pub same_total : (code y : ℕ) → Rowed road crews drives → Rowed road' crews drives → y < 1024 → total_of road code crews y ≡ total_of road' code crews y
  unfolding total_of
  same_total code y a b h = aggregate-same code _ _ crews (λ q m. same q (mem_get_d crews 0 q m))
    where
      same : (q : ℕ) → (r : ℕ) × (r < length crews) × (q ≡ get_or crews r 0) → dist road q y ≡ dist road' q y
      same q (r, l, e) = rw e (sym (a.filled r y l h) ∙ b.filled r y l h)

  pub same-furthest : (y : ℕ) → Rowed road crews drives → Rowed road' crews drives → y < 1024 → furthest_of road crews y ≡ furthest_of road' crews y
  unfolding total_of furthest_of
  same-furthest y a b h = same_total 1 y a b h

-- ---- the two answers

-- what an answer says
module _ {road adj crews rows : List ℕ} {code y : ℕ} {ceiling : Option ℕ} (s : Measurable road adj crews rows y) {answer : Measured} {walks : List Stand}
    (m : Measures road code crews ceiling y answer walks) where
  abbrev t : ℕ
  t = total_of road code crews y

  abbrev u : ℕ
  u = furthest_of road crews y

  answer-is : answer ≡ measured_by ceiling t u
  unfolding total_of furthest_of
  answer-is = m.answers (aggregate code (λ q. dist road q y) crews) (aggregate 1 (λ q. dist road q y) crews) (least code) (least 1)
    where
      least : (c : ℕ) → AggregateLeast (net road) c y crews (aggregate c (λ q. dist road q y) crews)
      least c = aggregate-least road s.driven.roads c y s.junction crews s.driven.there

  -- the numbers of an exact one
  pub answer-exact : (n f : ℕ) → answer ≡ exact n f → (n ≡ t) × (f ≡ u)
  answer-exact n f e = go (T-split (exceeds ceiling t))
    where
      go : T (exceeds ceiling t) ⊎ T (not (exceeds ceiling t)) → (n ≡ t) × (f ≡ u)
      go (inl o) = let d : exact n f ≡ above = sym e ∙ answer-is ∙ measured-above ceiling t u o in let z : ◌≡◌ {A = ℕ} 0 1 = cc in absurd (omega arith)
      go (inr o) = let d : exact n f ≡ exact t u = sym e ∙ answer-is ∙ measured-exact ceiling t u o in (cc, cc)

  pub answer-above : answer ≡ above → T (exceeds ceiling t)
  answer-above e = go (T-split (exceeds ceiling t))
    where
      go : T (exceeds ceiling t) ⊎ T (not (exceeds ceiling t)) → T (exceeds ceiling t)
      go (inl o) = o
      go (inr o) = let d : above ≡ exact t u = sym e ∙ answer-is ∙ measured-exact ceiling t u o in let z : ◌≡◌ {A = ℕ} 0 1 = cc in absurd (omega arith)
