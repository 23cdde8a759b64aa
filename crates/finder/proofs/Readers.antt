-- The readers' answers are told by their cases. Assumes nothing.
use mathlib.Core.Path.{◌≡◌, refl, sym, ap, ◌∙◌}
use mathlib.Core.List.{List, [], ◌∷◌}
use Prim.Native.Nat.{ℕ, zero, suc}
use Rattle.book.specs.Tests.{Test, FirstFailing}
use Rattle.book.specs.Cases.{Case, case_of}
use Rattle.road_layout.specs.Road.{junctions, road_count}
use Rattle.road_layout.proofs.Reading.{told_case}
use Rattle.road.specs.Refusal.{road_refusal}
use Rattle.road.proofs.Theorems.{road_tests_lem}
use Rattle.yard.specs.Yards.{yard_count, yard_refusal_in}
use Rattle.yard.proofs.Answering.{case_is as yard-case}
use Rattle.yard.proofs.FirstFailing.{yard_tests_in_lem}
use Rattle.tree.specs.Shape.{tree_refusal}
use Rattle.tree.proofs.Answering.{case_is as tree-case}
use Rattle.tree.proofs.FirstFailing.{tree_tests_lem}
use Rattle.query.specs.Query.{query_refusal, query_of}
use Rattle.query.proofs.Reading.{case_is as query-case}
use Rattle.query.proofs.FirstFailing.{query_tests_lem}
use Rattle.finder.specs.Readers.{Tells, ReadersTell}

case_number : (x : ℕ) (values : List ℕ) → (case_of x values).number ≡ x
case_number zero values = refl
case_number (suc x) values = refl

told_by : (tests : List Test) (x : ℕ) (values : List ℕ) (c : Case) → c ≡ case_of x values → FirstFailing tests x → Tells tests values c
told_by tests x values c e f =
    let same : c.number ≡ x = ap (λ (d : Case). d.number) e ∙ case_number x values in
    record { first = rw same f; others = e ∙ ap (λ (n : ℕ). case_of n values) (sym same) }

pub readers_tell : ReadersTell
readers_tell = record {
  roads = λ b. told_by _ (road_refusal b) _ _ (told_case (road_refusal b) (junctions b) (road_count b)) (road_tests_lem b);
  yards = λ b n. told_by _ (yard_refusal_in b n) _ _ (yard-case (yard_refusal_in b n) (yard_count b)) (yard_tests_in_lem b n);
  trees = λ b. told_by _ (tree_refusal b) _ _ (tree-case b) (tree_tests_lem b);
  queries = λ b n. told_by _ (query_refusal b n) _ _ (query-case (query_refusal b n) (query_of b)) (query_tests_lem b n);
}
