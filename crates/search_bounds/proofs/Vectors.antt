-- Worked examples: the definitions run. Assumes nothing.
use mathlib.Core.Path.{◌≡◌, refl}
use mathlib.Core.List.{List, [], ◌∷◌}
use Prim.Native.Nat.{ℕ}
use Rattle.book.specs.Choose.{choose}
use Rattle.search_rules.specs.Bounds.{abs_diff, combine, aggregate}
use Rattle.road.specs.code.Rows.{cell}
use Rattle.search_bounds.specs.code.Rows.{rows_lower}
use Rattle.search_bounds.specs.code.Measures.{f_by, crew_abs_diff, yard_bound_by}

-- "Crew values 5, 5, 10 and list 4, 7: f is 8 and 7."
crew-values : List ℕ
crew-values = 5 ∷ 5 ∷ 10 ∷ []

f-at_4 : f_by 0 crew-values 4 ≡ 8
unfolding f_by aggregate combine abs_diff choose crew-values
f-at_4 = refl

f-at_7 : f_by 0 crew-values 7 ≡ 7
unfolding f_by aggregate combine abs_diff choose crew-values
f-at_7 = refl

-- the maximum takes the farthest crew
f-most : f_by 1 crew-values 4 ≡ 6
unfolding f_by aggregate combine abs_diff choose crew-values
f-most = refl

-- net N, the landmark 0, crews 0 and 2: yard 1 is 2 seconds from the landmark, and its bound is its aggregate
bound_of_1 : yard_bound_by 0 (0 ∷ 2 ∷ 5 ∷ 9 ∷ 10 ∷ []) 1 (0 ∷ 2 ∷ []) (0 ∷ 5 ∷ []) 1 2 2 ≡ 5
unfolding yard_bound_by crew_abs_diff rows_lower cell combine abs_diff choose
bound_of_1 = refl
