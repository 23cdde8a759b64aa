-- What is proved of a yard's measuring, crew after crew. Assumes nothing.
use mathlib.Core.Path.{◌≡◌, refl, sym, ap, ◌∙◌}
use mathlib.Core.Logic.{◌⊎◌, inl, inr}
use mathlib.Core.Bool.{not}
use mathlib.Core.Option.{Option}
use mathlib.Core.List.Memᴰ.{head}
use mathlib.Core.List.Memᴰ.{tail}
use mathlib.Core.List.{List, [], ◌∷◌, Memᴰ as Mem}
use mathlib.Core.List.Memᴰ.{cases_cons}
use mathlib.Core.List.Memᴰ.{not-nil}
use Prim.Native.Nat.{ℕ, max, ◌≤◌, ◌<◌}
use native.Mathlib.Omega.{arith}
use lib.Dec.{T}
use Rattle.book.proofs.Choosing.{T-split}
use Rattle.road_layout.specs.Road.{junctions}
use Rattle.road.specs.Dijkstra.{dist}
use Rattle.road.specs.Facts.{Passing}
use Rattle.road.proofs.Theorems.{metric}
use Rattle.search_rules.specs.Bounds.{combine, aggregate}
use Rattle.search_rules.specs.Ceiling.{exceeds, measured_by}
use Rattle.search_rules.specs.Ceiling
use Rattle.search_rules.proofs.Bounds.{combine_mono, combine-zero, zero-combine, combine_assoc}
use Rattle.search_rules.proofs.Exceeding.{exceeds-zero, exceeds-more, measured-above, measured-exact}
use Rattle.search_rules.proofs.Equations.{combine-max, aggregate-none}
use Rattle.search_rules.proofs.Measures.{aggregate-cons}
use Rattle.search_rules.proofs.Walks.{aggregate-one}
use Rattle.search_measure.specs.Way.{Stand, budget, over, Ended, reached, above, ended_by, least_way, way_answer}
use Rattle.search_measure.specs.Crews.{onward, measure_from, ways_from, measure_yard, yard_ways, MeasuresTrue}
use Rattle.search_measure.proofs.Standing.{ended-above, ended-reached}
use Rattle.search_measure.proofs.Theorems.{ways_true}

module _ (road : List ℕ) (p : Passing road) (code : ℕ) (ceiling : Option ℕ) (yard : ℕ) (at-yard : yard < junctions road) where
  -- a crew's way answers by its distance
  answer-is : (q total : ℕ) → q < junctions road → way_answer road (budget code total ceiling) q yard ≡ ended_by (budget code total ceiling) (dist road q yard)
  answer-is q total h = (ways_true road p (budget code total ceiling) q yard h at-yard).answers (dist road q yard) ((metric road p).least q yard h at-yard)

  over-is : (total t : ℕ) → T (over (budget code total ceiling) t) → T (exceeds ceiling (combine code total t))
  unfolding over
  over-is total t o = o

  not-over-is : (total t : ℕ) → T (not (over (budget code total ceiling) t)) → T (not (exceeds ceiling (combine code total t)))
  unfolding over
  not-over-is total t o = o

  -- the aggregate over the crews that are left
  rest : ℕ → List ℕ → ℕ
  rest c qs = aggregate c (λ q. dist road q yard) qs

  -- the crews that are left are measured by their aggregates
  measure_from_lem : (qs : List ℕ) → ((q : ℕ) → Mem q qs → q < junctions road) → (total furthest : ℕ) → T (not (exceeds ceiling total))
      → measure_from road code ceiling yard total furthest qs ≡ measured_by ceiling (combine code total (rest code qs)) (max furthest (rest 1 qs))
  unfolding measure_from rest
  measure_from_lem [] there total furthest o =
      let e : combine code total (aggregate code (λ q. dist road q yard) []) ≡ total = ap (combine code total) (aggregate-none code (λ q. dist road q yard)) ∙ combine-zero code total in
      let f : max furthest (aggregate 1 (λ q. dist road q yard) []) ≡ furthest = omega (arith, aggregate-none 1 (λ q. dist road q yard)) in
      rw (e, f) (sym (measured-exact ceiling total furthest o))
  measure_from_lem (q ∷ qs) there total furthest o =
      go (T-split (over (budget code total ceiling) (dist road q yard)))
      (λ u. measure_from_lem qs (λ x k. there x (tail k)) (combine code total (dist road q yard)) (max furthest (dist road q yard)) u)
    where
      whole : combine code total (aggregate code (λ x. dist road x yard) (q ∷ qs)) ≡ combine code (combine code total (dist road q yard)) (aggregate code (λ x. dist road x yard) qs)
      whole = ap (combine code total) (aggregate-cons code (λ x. dist road x yard) q qs) ∙ sym (combine_assoc code total (dist road q yard) (aggregate code (λ x. dist road x yard) qs))

      far : max furthest (aggregate 1 (λ x. dist road x yard) (q ∷ qs)) ≡ max (max furthest (dist road q yard)) (aggregate 1 (λ x. dist road x yard) qs)
      far =
          omega (
            arith,
            aggregate-cons 1 (λ x. dist road x yard) q qs,
            combine-max 1 (dist road q yard) (aggregate 1 (λ x. dist road x yard) qs) (λ (z : 1 ≡ 0). omega arith),
          )

      go : T (over (budget code total ceiling) (dist road q yard)) ⊎ T (not (over (budget code total ceiling) (dist road q yard)))
          → (T (not (exceeds ceiling (combine code total (dist road q yard))))
          → measure_from road code ceiling yard (combine code total (dist road q yard)) (max furthest (dist road q yard)) qs
          ≡ measured_by ceiling (combine code (combine code total (dist road q yard)) (rest code qs)) (max (max furthest (dist road q yard)) (rest 1 qs)))
          → onward (way_answer road (budget code total ceiling) q yard) Ceiling.above (λ t. measure_from road code ceiling yard (combine code total t) (max furthest t) qs)
          ≡ measured_by ceiling (combine code total (aggregate code (λ x. dist road x yard) (q ∷ qs))) (max furthest (aggregate 1 (λ x. dist road x yard) (q ∷ qs)))
      go (inl u) later =
          let e : way_answer road (budget code total ceiling) q yard ≡ above = answer-is q total (there q (head refl)) ∙ ended-above (budget code total ceiling) (dist road q yard) u in
          let low : combine code total (dist road q yard) ≤ combine code total (aggregate code (λ x. dist road x yard) (q ∷ qs)) =
          rw (whole) (omega (arith, combine-zero code (combine code total (dist road q yard)), combine_mono code {a = combine code total (dist road q yard)} {b = combine code total (dist road q yard)} {c = 0} {e = aggregate code (λ x. dist road x yard) qs} (omega arith) (omega arith))) in
          rw e (sym (measured-above ceiling _ _ (exceeds-more ceiling low (over-is total (dist road q yard) u))))
      go (inr u) later =
          let e : way_answer road (budget code total ceiling) q yard ≡ reached (dist road q yard) = answer-is q total (there q (head refl)) ∙ ended-reached (budget code total ceiling) (dist road q yard) u in
          rw (e, whole, far) (later (not-over-is total (dist road q yard) u))

  -- each of the walks is a crew's least way, by some budget of the same ceiling
  ways_from_lem : (qs : List ℕ) → ((q : ℕ) → Mem q qs → q < junctions road) → (total : ℕ) → (s : Stand) → Mem s (ways_from road code ceiling yard total qs)
      → (q : ℕ) × (q < junctions road) × (before : ℕ) × (s ≡ least_way road (budget code before ceiling) q yard)
  unfolding ways_from
  ways_from_lem [] there total s m = absurd (not-nil m)
  ways_from_lem (q ∷ qs) there total s m =
      go (cases_cons m) (λ t k. ways_from_lem qs (λ x j. there x (tail j)) (combine code total t) s k)
    where
      further : (e : Ended) → Mem s (onward e [] (λ t. ways_from road code ceiling yard (combine code total t) qs))
          → ((t : ℕ) → Mem s (ways_from road code ceiling yard (combine code total t) qs)
          → (q : ℕ) × (q < junctions road) × (before : ℕ) × (s ≡ least_way road (budget code before ceiling) q yard))
          → (q : ℕ) × (q < junctions road) × (before : ℕ) × (s ≡ least_way road (budget code before ceiling) q yard)
      further (reached t) k later = later t k
      further above k later = absurd (not-nil k)

      go : (s ≡ least_way road (budget code total ceiling) q yard)
          ⊎ Mem s (onward (way_answer road (budget code total ceiling) q yard) [] (λ t. ways_from road code ceiling yard (combine code total t) qs))
          → ((t : ℕ) → Mem s (ways_from road code ceiling yard (combine code total t) qs)
          → (q : ℕ) × (q < junctions road) × (before : ℕ) × (s ≡ least_way road (budget code before ceiling) q yard))
          → (q : ℕ) × (q < junctions road) × (before : ℕ) × (s ≡ least_way road (budget code before ceiling) q yard)
      go (inl e) later = (q, there q (head refl), total, e)
      go (inr k) later = further (way_answer road (budget code total ceiling) q yard) k later

pub measures_true : MeasuresTrue
unfolding measure_yard yard_ways rest
measures_true road p code crews there ceiling yard at-yard = record {
  answers = λ t m a f. answers t m (aggregate-one road p code yard at-yard there a) (aggregate-one road p 1 yard at-yard there f);
  within = λ seconds e s k m j.
      let (q, h, before, f) = ways_from_lem road p code ceiling yard at-yard crews there 0 s k in
      (ways_true road p (budget code before ceiling) q yard h at-yard).within m (rw f at j) seconds e;
  least = λ s k m j.
      let (q, h, before, f) = ways_from_lem road p code ceiling yard at-yard crews there 0 s k in
      (ways_true road p (budget code before ceiling) q yard h at-yard).least m (rw f at j);
}
  where
    answers : (t m : ℕ) → t ≡ aggregate code (λ q. dist road q yard) crews → m ≡ aggregate 1 (λ q. dist road q yard) crews
        → measure_from road code ceiling yard 0 0 crews ≡ measured_by ceiling t m
    answers t m et em =
        measure_from_lem road p code ceiling yard at-yard crews there 0 0 (exceeds-zero ceiling) ∙ same
      where
        same : measured_by ceiling (combine code 0 (aggregate code (λ q. dist road q yard) crews)) (max 0 (aggregate 1 (λ q. dist road q yard) crews)) ≡ measured_by ceiling t m
        same = rw (← et, ← em, zero-combine code t) (ap (measured_by ceiling t) (omega arith))
