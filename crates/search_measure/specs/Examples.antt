-- Worked examples of least ways and of measuring, each value computed by hand. Assumes nothing: these are definitions
-- and statements.
use Rattle.std.specs.Prelude.{◌≡◌, List, [], ◌∷◌, map, ℕ}
use Rattle.std.proofs.Math.Option.{Option, none, some}
use Rattle.search_rules.specs.Ceiling.{Measured, exact}
use Rattle.search_rules.specs.Ceiling
use Rattle.search_measure.specs.Way.{Walked, Stand, budget, Ended, reached, above, least_way, way_answer}
use Rattle.search_measure.specs.Crews.{measure_yard, yard_ways}

-- net N: "junctions 0 to 4 in a chain, seconds 2, 3, 4, 1"
unfoldable pub net_n : List ℕ
net_n =
    0 ∷ 0 ∷ 0 ∷ 29 ∷ 1 ∷ 0 ∷ 5 ∷ 0 ∷ 4 ∷ 0 ∷ 0 ∷ 0 ∷ 1 ∷ 0 ∷ 2 ∷ 0 ∷ 1 ∷ 0 ∷ 2 ∷ 0 ∷ 3 ∷ 0 ∷ 2 ∷ 0 ∷ 3 ∷ 0 ∷ 4 ∷ 0
    ∷ 3 ∷ 0 ∷ 4 ∷ 0 ∷ 1 ∷ []

-- net D: roads 0 - 1, 0 - 2, 1 - 3 and 2 - 3, of one second each
unfoldable pub net_d : List ℕ
net_d =
    0 ∷ 0 ∷ 0 ∷ 29 ∷ 1 ∷ 0 ∷ 4 ∷ 0 ∷ 4 ∷ 0 ∷ 0 ∷ 0 ∷ 1 ∷ 0 ∷ 1 ∷ 0 ∷ 0 ∷ 0 ∷ 2 ∷ 0 ∷ 1 ∷ 0 ∷ 1 ∷ 0 ∷ 3 ∷ 0 ∷ 1 ∷ 0
    ∷ 2 ∷ 0 ∷ 3 ∷ 0 ∷ 1 ∷ []

-- ---- a way in net N: from yard 4 to a crew at junction 0, which is 10 seconds away

unfoldable pub from4 : (code spent : ℕ) (ceiling : Option ℕ) → Ended
from4 code spent ceiling = way_answer net_n (budget code spent ceiling) 0 4

unfoldable pub behind4 : (ceiling : Option ℕ) → List Walked
behind4 ceiling = (least_way net_n (budget 0 0 ceiling) 0 4).behind

abbrev after : ℕ → ℕ → Walked
after t v = record { junction = v; seconds = t }

pub record WorkedWays : Type 0 where
  -- without a ceiling and at it reached, one below it above
  pub no_ceiling : from4 0 0 none ≡ reached 10
  pub at-ceiling : from4 0 0 (some 10) ≡ reached 10
  pub past_ceiling : from4 0 0 (some 9) ≡ above
  -- with 5 seconds of the crews before the sum is 15, and the maximum 10; with 12 before, the maximum is 12
  pub sum-at : from4 0 5 (some 15) ≡ reached 10
  pub sum_past : from4 0 5 (some 14) ≡ above
  pub maximum-at : from4 1 5 (some 10) ≡ reached 10
  pub maximum_past : from4 1 12 (some 11) ≡ above
  -- the crew's own junction is not walked on from
  pub ends-at_the_crew : behind4 none ≡ (after 0 4 ∷ after 1 3 ∷ after 5 2 ∷ after 8 1 ∷ [])
  -- it stops where it stands above the ceiling: at junction 1 after 8 seconds, or at the crew after 10
  pub stops_above : behind4 (some 7) ≡ (after 0 4 ∷ after 1 3 ∷ after 5 2 ∷ [])
  pub stops_at_the_last : behind4 (some 9) ≡ (after 0 4 ∷ after 1 3 ∷ after 5 2 ∷ after 8 1 ∷ [])
  -- a crew at the yard's own junction is reached before a step
  pub at_the_yard : (least_way net_n (budget 0 0 (some 0)) 4 4).behind ≡ []
  -- of two least ways in net D that by the newest road is taken
  pub newest-first : (least_way net_d (budget 0 0 none) 0 3).behind ≡ (after 0 3 ∷ after 1 2 ∷ [])

-- ---- a yard in net N: yard 4, for crews at junctions 0 and 2, which are 10 and 5 seconds away

unfoldable pub yard4 : (code : ℕ) (ceiling : Option ℕ) → Measured
yard4 code ceiling = measure_yard net_n code (0 ∷ 2 ∷ []) ceiling 4

-- what its walks have walked on from
unfoldable pub walked4 : (code : ℕ) (ceiling : Option ℕ) → List (List Walked)
walked4 code ceiling = map (λ (s : Stand). s.behind) (yard_ways net_n code (0 ∷ 2 ∷ []) ceiling 4)

abbrev to0 : List Walked
to0 = after 0 4 ∷ after 1 3 ∷ after 5 2 ∷ after 8 1 ∷ []

pub record WorkedMeasures : Type 0 where
  -- the sum is 15 and the furthest crew, the first, 10 away: without a ceiling and at it exact, one below it above
  pub no_ceiling : yard4 0 none ≡ exact 15 10
  pub at-ceiling : yard4 0 (some 15) ≡ exact 15 10
  pub past_ceiling : yard4 0 (some 14) ≡ Ceiling.above
  -- the maximum is 10
  pub maximum-at : yard4 1 (some 10) ≡ exact 10 10
  pub maximum_past : yard4 1 (some 9) ≡ Ceiling.above
  -- under a ceiling of 12 the second way, on top of the first's 10 seconds, stops where the sum is 15, at its crew; under
  -- one of 10 it stops at junction 3; under one of 9 there is no second way
  pub two_ways : walked4 0 (some 12) ≡ (to0 ∷ (after 0 4 ∷ after 1 3 ∷ []) ∷ [])
  pub second_stops : walked4 0 (some 10) ≡ (to0 ∷ (after 0 4 ∷ []) ∷ [])
  pub first_stops : walked4 0 (some 9) ≡ (to0 ∷ [])
  -- the maximum walks the second way to its end
  pub maximum_walks : walked4 1 (some 10) ≡ (to0 ∷ (after 0 4 ∷ after 1 3 ∷ []) ∷ [])
  -- two crews at one junction are two
  pub two-at-one : measure_yard net_n 0 (2 ∷ 2 ∷ []) (some 10) 4 ≡ exact 10 5
  pub two_past : measure_yard net_n 0 (2 ∷ 2 ∷ []) (some 9) 4 ≡ Ceiling.above
  -- the furthest crew is the last of the list, or stands in it between crews that are 5 seconds and 1 second away
  pub furthest_last : measure_yard net_n 0 (2 ∷ 0 ∷ []) none 4 ≡ exact 15 10
  pub furthest-between : measure_yard net_n 0 (2 ∷ 0 ∷ 3 ∷ []) none 4 ≡ exact 16 10
  -- a crew at the yard's own junction adds nothing
  pub at_the_yard : measure_yard net_n 0 (4 ∷ 2 ∷ []) (some 5) 4 ≡ exact 5 5
  -- crews at junctions 0 and 4 are 2 and 8 seconds from yard 1, and 5 and 5 from yard 2: the same sum, at a ceiling of
  -- 10 exact, and another furthest crew
  pub same-sum_further : measure_yard net_n 0 (0 ∷ 4 ∷ []) (some 10) 1 ≡ exact 10 8
  pub same-sum-nearer : measure_yard net_n 0 (0 ∷ 4 ∷ []) (some 10) 2 ≡ exact 10 5
