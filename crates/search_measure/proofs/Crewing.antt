-- The loop over the crews beside the run: at the start, a crew on, and at both ends. Assumes nothing.
use mathlib.Core.Path.{◌≡◌, refl, sym, ap, ◌∙◌}
use mathlib.Core.Option.{Option}
use mathlib.Core.List.{List, ◌∷◌}
use Prim.Native.Nat.{ℕ, suc, max, ◌+◌, ◌-◌, ◌*◌, ◌≤◌, ◌<◌}
use native.Mathlib.Nat.{suc-mul, mul-le-mul_right}
use native.Mathlib.Numerals.{add-one}
use native.Mathlib.Omega.{arith}
use lib.ListN.{length, get_or, take, drop, drop_of_length-le}
use lib.Seq.{drop-cons, get_or-take, get_or-drop}
use Rattle.book.proofs.Lists.{get_d_mem}
use Rattle.road_layout.specs.Road.{junctions}
use Rattle.road.specs.Dijkstra.{dist}
use Rattle.road.proofs.Walks.{least_unique}
use Rattle.road.proofs.Theorems.{metric}
use Rattle.road.proofs.Filling.{cell-is}
use Rattle.search_rules.specs.Bounds.{combine}
use Rattle.search_rules.specs.Ceiling.{Measured, exact}
use Rattle.search_rules.specs.Ceiling
use Rattle.search_rules.proofs.Equations.{combine-most}
use Rattle.search_measure.specs.Way.{budget, reached, above, way_answer}
use Rattle.search_measure.specs.Crews.{onward, measure_from, measure_yard, yard_ways, Measures}
use Rattle.search_measure.specs.code.Cases.{Steers, Measurable, most_spent}
use Rattle.search_measure.proofs.Theorems.{ways_true}
use Rattle.search_measure.proofs.Measuring.{measures_true}

-- the first j crews come to these numbers, and measuring those that are left answers the whole
pub record SoFar (road : List ℕ) (code : ℕ) (crews : List ℕ) (ceiling : Option ℕ) (yard total furthest j : ℕ) : Type 0 where
  pub small : total ≤ j * 67042305
  pub left : measure_from road code ceiling yard total furthest (drop j crews) ≡ measure_yard road code crews ceiling yard

pub so_far_start : (road : List ℕ) (code : ℕ) (crews : List ℕ) (ceiling : Option ℕ) (yard : ℕ) → SoFar road code crews ceiling yard 0 0 0
unfolding measure_yard
so_far_start road code crews ceiling yard = record { small = omega arith; left = refl }

-- both promises from the run's answer
module _ {road adj crews rows : List ℕ} {yard : ℕ} (ms : Measurable road adj crews rows yard) where
  pub measures_by : (code : ℕ) (ceiling : Option ℕ) (answer : Measured) → answer ≡ measure_yard road code crews ceiling yard
      → Measures road code crews ceiling yard answer (yard_ways road code crews ceiling yard)
  measures_by code ceiling answer e = rw e (measures_true road ms.driven.roads code crews ms.driven.there ceiling yard ms.junction)

  pub row_room : (j : ℕ) → j < length crews → j * 1024 + 1024 ≤ length rows
  row_room j h = omega (arith, ms.driven.rows.room)

  pub crew-there : (j : ℕ) → j < length crews → get_or crews j 0 < junctions road
  crew-there j h = ms.driven.there (get_or crews j 0) (get_d_mem crews j 0 h)

  -- a crew's row leads to it
  pub row-steers : (j from : ℕ) → j < length crews → from ≡ j * 1024 → Steers road adj (take (from + 1024 - from) (drop from rows)) (get_or crews j 0)
  row-steers j from h e = record {
    roads = ms.driven.roads;
    adjacent = ms.adjacent;
    junction = crew-there j h;
    told = λ v k. told v (omega (arith, ms.driven.roads.layout.few-junctions));
  }
    where
      told : (v : ℕ) → v < 1024 → get_or (take (from + 1024 - from) (drop from rows)) v 0 ≡ dist road (get_or crews j 0) v
      told v k =
          get_or-take (from + 1024 - from) (drop from rows) v 0 (omega arith) ∙ get_or-drop from rows v 0 ∙ ap (λ (i : ℕ). get_or rows (i + v) 0) e ∙ cell-is rows j v
          ∙ ms.driven.rows.filled j v h k

  module _ (code : ℕ) (ceiling : Option ℕ) (total furthest j : ℕ) (so : SoFar road code crews ceiling yard total furthest j) where
    -- the run is at its end
    pub so_far-end : length crews ≤ j → exact total furthest ≡ measure_yard road code crews ceiling yard
    unfolding measure_from
    so_far-end h = let e = drop_of_length-le crews h in rw e at so.left

    module _ (h : j < length crews) where
      -- .. or a crew is left
      next : drop j crews ≡ get_or crews j 0 ∷ drop (suc j) crews
      next = drop-cons crews j 0 h

      pub so_far-room : total ≤ most_spent
      so_far-room = let z : j ≤ 15 = omega (arith, ms.driven.few) in omega (arith, so.small, mul-le-mul_right 67042305 z)

      now_left : onward (way_answer road (budget code total ceiling) (get_or crews j 0) yard) Ceiling.above
          (λ t. measure_from road code ceiling yard (combine code total t) (max furthest t) (drop (suc j) crews))
          ≡ measure_yard road code crews ceiling yard
      unfolding measure_from
      now_left = rw next at so.left

      -- its way is above
      pub so_far-above : above ≡ way_answer road (budget code total ceiling) (get_or crews j 0) yard → Ceiling.above ≡ measure_yard road code crews ceiling yard
      so_far-above e = rw (← e) at now_left

      module _ (t : ℕ) (e : reached t ≡ way_answer road (budget code total ceiling) (get_or crews j 0) yard) where
        -- its way's seconds are its distance
        pub reached-short : t ≤ 67042305
        reached-short =
            let q = get_or crews j 0 in
            let l = (ways_true road ms.driven.roads (budget code total ceiling) q yard (crew-there j h) ms.junction).reached-least t (sym e) in
            let f : t ≡ dist road q yard = least_unique l ((metric road ms.driven.roads).least q yard (crew-there j h) ms.junction) in
            omega (arith, (metric road ms.driven.roads).bounded q yard (crew-there j h) ms.junction)

        pub reached-room : total + t ≤ 1072676880
        reached-room = omega (arith, reached-short, so_far-room)

        pub so_far_on : (x y : ℕ) → x ≡ combine code total t → y ≡ max furthest t → SoFar road code crews ceiling yard x y (j + 1)
        so_far_on x y ex ey = record {
          small = omega (arith, combine-most code total t, so.small, reached-short, one_more);
          left = rw (ex, ey, add-one j) (rw (← e) at now_left);
        }
          where
            one_more : (j + 1) * 67042305 ≡ j * 67042305 + 67042305
            one_more = rw (add-one j) (suc-mul j 67042305)
