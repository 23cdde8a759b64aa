-- An inner region's landmarks, one yard and one landmark at a time. Assumes nothing.
use mathlib.Core.Path.{◌≡◌, sym, ◌∙◌}
use mathlib.Core.Bool.{Bool, true, false, ◌&&◌}
use mathlib.Core.List.{List, [], ◌∷◌}
use Prim.Native.Nat.{ℕ, ◌+◌, ◌≤◌, ◌<◌, min, max}
use native.Mathlib.Omega.{arith}
use borrow.Author.Tests.{eq-eqb, ne_eqb}
use lib.ListN.{length, get_or, drop}
use lib.Dec.{ltb, leb, eqb}
use Rattle.road_layout.proofs.Layouts.{passing_layout}
use Rattle.adjacency.specs.Adjacency.{count_in, Adjacency}
use Rattle.road.specs.Dijkstra.{far, at, dist}
use Rattle.road.specs.code.Rows.{distances_from}
use Rattle.tree_layout.specs.Values.{Mark, no_mark}
use Rattle.tree_layout.specs.Decode.{landmark_count}
use Rattle.tree_layout.specs.code.Marks.{marks_at, landmark_of}
use Rattle.tree_layout.specs.Refusal.{all}
use Rattle.tree_layout.specs.declared.Landmark.{Landmark}
use Rattle.tree_layout.proofs.RecordFields.{landmark_fields}
use Rattle.check_rules.specs.Truth.{least_distance_from, greatest_from, true_span, within}
use Rattle.check_rules.proofs.Extremes.{least-none, least-next, least-from, greatest-none, greatest-next, greatest-from}
use Rattle.check_rules.proofs.Testing.{span-test}
use Rattle.check_rules.proofs.Folding.{outside, inside, turn, ended}
use Rattle.check_distances.specs.code.Row.{span_in}
use Rattle.check_distances.specs.code.Beside.{Marked}
use Rattle.tree_layout.proofs.Turns.{all_goes, all_stops}
use Rattle.check_distances.proofs.Rows.{looks, dist-most}
use Rattle.check_rules.proofs.Records.{mark_number, mark_mem}

-- ---- the yards of a range, one at a time

module _ (f : ℕ → ℕ) (low high : ℕ) where
  module _ (x y : ℕ) where
    pub least-out : (leb low y && ltb y high) ≡ false → x ≡ least_distance_from f x (within low high (y ∷ []))
    least-out h = outside (least_distance_from f) (λ a b. min a (f b)) (least-none f) (least-next f) low high x y h

    pub least_in : (leb low y && ltb y high) ≡ true → (z : ℕ) → z ≡ min x (f y) → z ≡ least_distance_from f x (within low high (y ∷ []))
    least_in h z e = e ∙ inside (least_distance_from f) (λ a b. min a (f b)) (least-none f) (least-next f) low high x y h

    pub greatest-out : (leb low y && ltb y high) ≡ false → x ≡ greatest_from f x (within low high (y ∷ []))
    greatest-out h = outside (greatest_from f) (λ a b. max a (f b)) (greatest-none f) (greatest-next f) low high x y h

    pub greatest_in : (leb low y && ltb y high) ≡ true → (z : ℕ) → z ≡ max x (f y) → z ≡ greatest_from f x (within low high (y ∷ []))
    greatest_in h z e = e ∙ inside (greatest_from f) (λ a b. max a (f b)) (greatest-none f) (greatest-next f) low high x y h

  module _ (ys : List ℕ) where
    pub least-turn : (k x z y : ℕ) → k < length ys → y ≡ get_or ys k 0 → z ≡ least_distance_from f x (within low high (y ∷ []))
        → least_distance_from f z (within low high (drop (k + 1) ys)) ≡ least_distance_from f x (within low high (drop k ys))
    least-turn k x z y h e g = turn (least_distance_from f) (λ a b. min a (f b)) (least-none f) (least-next f) low high ys k x z y h e g

    pub least-end : (k x : ℕ) → length ys ≤ k → least_distance_from f x (within low high (drop k ys)) ≡ x
    least-end k x h = ended (least_distance_from f) (λ a b. min a (f b)) (least-none f) (least-next f) low high ys k x h

    pub greatest-turn : (k x z y : ℕ) → k < length ys → y ≡ get_or ys k 0 → z ≡ greatest_from f x (within low high (y ∷ []))
        → greatest_from f z (within low high (drop (k + 1) ys)) ≡ greatest_from f x (within low high (drop k ys))
    greatest-turn k x z y h e g = turn (greatest_from f) (λ a b. max a (f b)) (greatest-none f) (greatest-next f) low high ys k x z y h e g

    pub greatest-end : (k x : ℕ) → length ys ≤ k → greatest_from f x (within low high (drop k ys)) ≡ x
    greatest-end k x h = ended (greatest_from f) (λ a b. max a (f b)) (greatest-none f) (greatest-next f) low high ys k x h

-- ---- least and greatest against what was found

module _ (ds zs : List ℕ) (least greatest low high : ℕ) (e : low ≡ least_distance_from (at ds) far zs) where
  pub least_other : (least ≡ low → ⊥) → false ≡ span_in ds zs least greatest
  unfolding span_in
  least_other h = rw (← e) (sym (simp (ne_eqb _ _ h)))

  pub greatest_decides : least ≡ low → high ≡ greatest_from (at ds) 0 zs → eqb greatest high ≡ span_in ds zs least greatest
  unfolding span_in
  greatest_decides h f = rw (← e, ← f) (sym (simp (eq-eqb _ _ h)))

-- ---- what a row says of a landmark is what test 9 says, of some yards that are not too far

span_same : (road zs : List ℕ) (m : Mark) → 0 < length zs → ((y : ℕ) → dist road m.place y ≤ far)
    → span_in (distances_from road m.place) zs m.least m.greatest ≡ true_span (dist road) zs m
unfolding span_in
span_same road zs m h f =
    rw (looks road m.place, least-from (dist road m.place) far zs h (λ y k. f y), greatest-from (dist road m.place) zs h)
    (sym (span-test (dist road) zs m))

-- ---- landmark j of an inner region, with some yards

module _ (adj tree : List ℕ) (i : ℕ) (k : Marked adj tree i) (j : ℕ) (h : j < landmark_count tree)
    (l : Landmark) (el : l ≡ landmark_of (get_or (marks_at tree i) j no_mark)) where
  abbrev mark : Mark
  mark = get_or (marks_at tree i) j no_mark

  -- its place is a junction
  pub span-placed : l.place.number < count_in adj
  span-placed = rw (landmark_fields l mark el).0 (k.placed mark (mark_mem tree i j h))

  module _ (road ds zs : List ℕ) (a : Adjacency road adj) (some : 0 < length zs) (r : Bool) (d : ds ≡ distances_from road l.place.number)
      (e : r ≡ span_in ds zs l.least l.greatest) where
    near : (y : ℕ) → dist road mark.place y ≤ far
    near y = dist-most road (passing_layout road a.layout) mark.place y (omega (arith, a.count, k.placed mark (mark_mem tree i j h)))

    answer : true_span (dist road) zs mark ≡ r
    answer =
        let g : r ≡ span_in (distances_from road l.place.number) zs l.least l.greatest = rw (← d) e in
        let w = landmark_fields l mark el in
        sym (rw (w.0, w.1, w.2) at g ∙ span_same road zs mark some near)

    pub spans_on : r ≡ true → all (true_span (dist road) zs) (drop (j + 1) (marks_at tree i)) ≡ all (true_span (dist road) zs) (drop j (marks_at tree i))
    spans_on t = all_goes (true_span (dist road) zs) (marks_at tree i) no_mark j (mark_number tree i j h) (answer ∙ t)

    pub spans_off : r ≡ false → all (true_span (dist road) zs) (drop j (marks_at tree i)) ≡ false
    spans_off t = all_stops (true_span (dist road) zs) (marks_at tree i) no_mark j (mark_number tree i j h) (answer ∙ t)
