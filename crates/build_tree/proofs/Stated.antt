-- An accepted call's tree is the one that the stated cuts give. Assumes nothing.
use mathlib.Core.Path.{◌≡◌, refl, sym, ◌∙◌}
use mathlib.Core.List.{List}
use Prim.Native.Nat.{ℕ}
use Rattle.road_layout.specs.Road.{junctions}
use Rattle.adjacency.specs.Arcs.{net}
use Rattle.road.specs.Walk.{Least}
use Rattle.road.proofs.Walks.{least_unique}
use Rattle.road.proofs.Theorems.{passing, metric}
use Rattle.yard.specs.Yards.{yards_of, yard_refusal, HasKinds}
use Rattle.yard.proofs.Tables.{has-kinds, yards_had}
use Rattle.tree_layout.specs.Values.{Tree}
use Rattle.build_rules.specs.code.Facts.{terms_of, Measures, Marks, OneTree}
use Rattle.build_rules.proofs.Theorems.{one-tree}
use Rattle.build_records.specs.Given.{given}
use Rattle.build_records.proofs.Fields.{given-roads, given-d, given-kinds, given-landmarks, given-limit}
use Rattle.build_tree.specs.Build.{built_tree}
use Rattle.build_tree.specs.Building.{book_terms, BuiltFrom}
use Rattle.build_tree.specs.Facts.{AcceptedBuild}
use Rattle.build_tree.proofs.Limits.{its_version, its_junctions, its_yards, its_landmarks, yards-alone, limits}

module _ (road yard : List ℕ) (m limit words room : ℕ) (acc : AcceptedBuild road yard m limit words room) where
  -- the distances that are computed are least totals of walks
  known : Measures (Least (net road)) (given road yard m limit).d (junctions road)
  known = record {
    reached = λ u v p q. rw (given-d road yard m limit) ((metric road (passing road acc.roads)).least u v p q);
    one = λ u v s t p q. least_unique p q;
  }

  terms_same : terms_of (given road yard m limit) (Least (net road)) (HasKinds yard) ≡ book_terms road yard m limit
  terms_same = rw (given-roads road yard m limit, given-landmarks road yard m limit, given-limit road yard m limit) refl

  alone : yard_refusal yard ≡ 0
  alone = yards-alone road yard m limit words room acc

  -- and the kinds those of the yard book
  marked : Marks (HasKinds yard) (given road yard m limit).kinds (yards_of yard)
  marked = record {
    reached = λ y k. rw (given-kinds road yard m limit) (yards_had yard alone y k);
    one = λ y j k p q. sym (has-kinds yard alone y j p) ∙ has-kinds yard alone y k q;
  }

  one : OneTree (given road yard m limit) (Least (net road)) (HasKinds yard) (junctions road) (yards_of yard)
  one = one-tree (given road yard m limit) (Least (net road)) (HasKinds yard) (junctions road) (yards_of yard) (limits road yard m limit words room acc) known marked

  pub built_from : BuiltFrom road yard m limit (built_tree road yard m limit)
  unfolding built_tree
  built_from = record {
    same_version = its_version road yard m limit acc.yards;
    all-junctions = its_junctions road yard m limit acc.yards;
    all-yards = its_yards road yard m limit acc.yards;
    per_region = its_landmarks road yard m limit acc.yards;
    cuts = rw terms_same at one.cuts;
  }

  pub built_one : (t : Tree) → BuiltFrom road yard m limit t → t ≡ built_tree road yard m limit
  unfolding built_tree
  built_one t b =
      let versions-same = b.same_version ∙ sym built_from.same_version in
      let junctions-same = b.all-junctions ∙ sym built_from.all-junctions in
      let yards-same = b.all-yards ∙ sym built_from.all-yards in
      let landmarks-same = b.per_region ∙ sym built_from.per_region in
      let regions-same = one.one t.regions (rw (← terms_same) at b.cuts) in
      λ i. record { version = versions-same i; junctions = junctions-same i; yards = yards-same i; landmarks = landmarks-same i; regions = regions-same i }
