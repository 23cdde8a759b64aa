-- The demands are kept. Assumes nothing.
use mathlib.Core.Path.{◌≡◌, ap, ◌∙◌}
use mathlib.Core.Logic.{◌↔◌}
use mathlib.Core.List.{List, [], ◌∷◌, ◌++◌}
use Prim.Native.Nat.{ℕ, ◌≤◌}
use native.Mathlib.Omega.{arith}
use lib.ListN.{length}
use lib.Dec.{T}
use Rattle.book.specs.Tests.{Test, test, FirstFailing}
use Rattle.book.proofs.FirstFailing.{lacks, first-exact, first-at, first_late, first-none_split}
use Rattle.work_area.specs.Work.{work_words}
use Rattle.work_area.proofs.Zeroing.{accepted-zeroed, refused-kept}
use Rattle.road_layout.specs.Road.{junctions}
use Rattle.road_layout.specs.Facts.{RoadLayout}
use Rattle.road_layout.specs.Tests.{road_layout_tests}
use Rattle.road.specs.Facts.{Passing}
use Rattle.road.specs.Refusal.{road_refusal}
use Rattle.road.specs.Tests.{road_tests, Connected, CutOff}
use Rattle.road.proofs.Theorems.{passing_exact, road_tests_lem, cut_off_exact, metric}
use Rattle.yard.specs.Yards.{yard_refusal_in}
use Rattle.yard.specs.Tests.{yard_tests_in}
use Rattle.yard.proofs.YardLayout.{yard-layout_in}
use Rattle.yard.proofs.FirstFailing.{yard_tests_in_lem}
use Rattle.tree_layout.specs.Decode.{decode}
use Rattle.tree_layout.specs.Facts.{TreeLayout}
use Rattle.tree_layout.specs.Tests.{tree_layout_tests}
use Rattle.tree.specs.Facts.{TreeShape}
use Rattle.tree.specs.Shape.{tree_refusal}
use Rattle.tree.proofs.Theorems.{accepted_iff}
use Rattle.tree.proofs.FirstFailing.{layout-none}
use Rattle.check_tree.specs.Check.{check_answer}
use Rattle.check_tree.specs.Facts.{SoundBeside}
use Rattle.check_tree.proofs.Theorems.{check_exact}
use Rattle.check_tree.proofs.Turning.{check_tests_lem, none_turned}
use Rattle.build_tree.specs.Build.{build_answer}
use Rattle.build_tree.proofs.Theorems.{build_refusals, build_exact}
use Rattle.build_tree.proofs.FirstFailing.{build_tests_lem}
use Rattle.query.proofs.Reading.{query-exact}
use Rattle.search_rules.specs.Instance.{Instance}
use Rattle.search_rules.proofs.Equations.{search_of_lem}
use Rattle.search_rules.proofs.Ceiling.{ceilings_true, above_kept}
use Rattle.search_rules.proofs.Fairness.{ties_fair}
use Rattle.search_measure.proofs.Theorems.{ways_true}
use Rattle.search_measure.proofs.Measuring.{measures_true}
use Rattle.search_call.specs.Call.{Want, most_yards, Call, Areas, tree_refusal_in, found_on}
use Rattle.search_call.proofs.Refusing.{counts_agree, long_enough, by_areas}
use Rattle.search_call.proofs.FirstFailing.{search_tests_lem}
use Rattle.search_call.proofs.Calls.{on_number, on_refused, on_tests, work-zeroed, areas-kept}
use Rattle.search_call.proofs.Demand.{demand_3, any-tree, keys_true}
use Rattle.search_call.proofs.Lists.{work_unread}
use Rattle.search_call.proofs.Agreeing.{searches_agree}
use Rattle.search_call.proofs.Versions.{versions_agree}
use Rattle.finder.specs.Promises.{SoundBooks, SoundTreeBook, FirstRefusal, AcceptedCheck, CheckSafe, CheckTrue, FirstBuildRefusal, BuildAccepted}
use Rattle.finder.specs.Promises.{BuildSafe}
use Rattle.finder.specs.Promises.{BuildTrue, FirstSearchRefusal, SearchAccepted, SearchSafe, SearchesTrue, SearchesDecided, DistancesLeast, YardsKeyed, YardsOrdered, YardsMeasured}
use Rattle.finder.specs.Promises.{check_tests, build_tests, search_tests}

-- ---- sound books are those that no test turns back

module _ (road yard : List ℕ) where
  sound_roads : SoundBooks road yard → road_refusal road ≡ 0
  sound_roads s = (passing_exact road).1 s.roads

  sound_yards : SoundBooks road yard → yard_refusal_in yard (junctions road) ≡ 0
  sound_yards s = (yard-layout_in yard (junctions road)).1 (s.yards, s.inside)

  books_sound : road_refusal road ≡ 0 → yard_refusal_in yard (junctions road) ≡ 0 → SoundBooks road yard
  books_sound r y = let l = (yard-layout_in yard (junctions road)).0 y in record { roads = (passing_exact road).0 r; yards = l.0; inside = l.1 }

sound_tree : (road tree : List ℕ) → SoundTreeBook road tree → tree_refusal tree ≡ 0
sound_tree road tree s = (accepted_iff tree).1 s.facts

-- ---- refusals 6 and 7, of any call that tests the books in the paper's order

module _ (road : List ℕ) where
  roads-none : FirstFailing (road_tests road) 0 ↔ Passing road
  roads-none =
      let x = first-exact (road_tests road) (road_refusal road) (road_tests_lem road) 0 in
      ((λ f. (passing_exact road).0 (x.1 f)), (λ p. x.0 ((passing_exact road).1 p)))

  -- after the road book come tests of other numbers than 6
  six-exact : (later : List Test) (answer : ℕ) → FirstFailing (road_tests road ++ later) answer → T (lacks 6 later)
      → (answer ≡ 6) ↔ (RoadLayout road × CutOff road)
  six-exact later answer f l =
      let x = first-exact (road_tests road ++ later) answer f 6 in
      let y = first-at (road_layout_tests road) later 6 (Connected road) (omega arith) tt tt l in
      let z = first-at (road_layout_tests road) [] 6 (Connected road) (omega arith) tt tt tt in
      let r = first-exact (road_tests road) (road_refusal road) (road_tests_lem road) 6 in
      let c = cut_off_exact road in
      ((λ e. c.0 (r.1 (z.1 (y.0 (x.0 e))))), (λ h. x.1 (y.1 (z.0 (r.0 (c.1 h))))))

books-none : (road yard : List ℕ) → FirstFailing (road_tests road ++ yard_tests_in yard (junctions road)) 0 ↔ SoundBooks road yard
books-none road yard =
    let n = junctions road in
    let y = first-exact (yard_tests_in yard n) (yard_refusal_in yard n) (yard_tests_in_lem yard n) 0 in (
      (λ f. let x = first-none_split (road_tests road) (yard_tests_in yard n) tt f in
          books_sound road yard ((passing_exact road).1 ((roads-none road).0 x.0)) (y.1 x.1)),
      (λ s. first_late (road_tests road) (yard_tests_in yard n) 0 tt ((roads-none road).1 s.roads) (y.0 (sound_yards road yard s))),
    )

-- before the tree book come tests of other numbers than 7, and so after it
seven-exact : (tree : List ℕ) (earlier later : List Test) (answer : ℕ) {Sound : Type 0} → FirstFailing earlier 0 ↔ Sound
    → FirstFailing ((earlier ++ tree_layout_tests tree) ++ (test 7 (TreeShape (decode tree)) ∷ later)) answer
    → T (lacks 0 earlier) → T (lacks 0 (earlier ++ tree_layout_tests tree)) → T (lacks 7 (earlier ++ tree_layout_tests tree)) → T (lacks 7 later)
    → (answer ≡ 7) ↔ (Sound × TreeLayout tree × (TreeShape (decode tree) → ⊥))
seven-exact tree earlier later answer sound f z zt st sl =
    let before = earlier ++ tree_layout_tests tree in
    let x = first-exact (before ++ (test 7 (TreeShape (decode tree)) ∷ later)) answer f 7 in
    let y = first-at before later 7 (TreeShape (decode tree)) (omega arith) zt st sl in (
      (λ e. let w = y.0 (x.0 e) in
          let v = first-none_split earlier (tree_layout_tests tree) z w.0 in
          (sound.0 v.0, (layout-none tree).0 v.1, w.1)),
      (λ w. x.1 (y.1 (first_late earlier (tree_layout_tests tree) 0 z (sound.1 w.0) ((layout-none tree).1 w.1), w.2))),
    )

-- ---- demand 2, of check

pub laid_out : (road yard tree : List ℕ) (words : ℕ) → SoundBooks road yard → work_words ≤ words → SoundTreeBook road tree → SoundBeside road yard tree words
laid_out road yard tree words b w s =
    record { roads = sound_roads road yard b; yards = sound_yards road yard b; shape = sound_tree road tree s; counts = s.counts; full = w }

pub check_true : CheckTrue
check_true road yard tree words b w s = check_exact road yard tree words (laid_out road yard tree words b w s)

-- ---- demand 1, of check

module _ (road yard tree : List ℕ) (words : ℕ) where
  first-refusal : FirstRefusal road yard tree words (check_answer road yard tree words)
  first-refusal =
      let f = check_tests_lem road yard tree words in
      record {
        first = first-exact (check_tests road yard tree words) (check_answer road yard tree words) f;
        six = six-exact road _ (check_answer road yard tree words) f tt;
        seven = seven-exact tree (road_tests road ++ yard_tests_in yard (junctions road)) _ (check_answer road yard tree words) (books-none road yard) f
            tt tt tt tt;
      }

  accepted-exact : (check_answer road yard tree words ≡ 0) ↔ AcceptedCheck road yard tree words
  accepted-exact = (there, λ a. (check_true road yard tree words a.books a.full a.tree_sound).1 (a.yards, a.numbers, a.kinds))
    where
      there : check_answer road yard tree words ≡ 0 → AcceptedCheck road yard tree words
      there e =
          let l = none_turned road yard tree words e in
          let x = (check_exact road yard tree words l).0 e in
          record {
            books = books_sound road yard l.roads l.yards;
            tree_sound = record { facts = (accepted_iff tree).0 l.shape; counts = l.counts };
            yards = x.0;
            numbers = x.1;
            kinds = x.2;
            full = l.full;
          }

pub check_safe : CheckSafe
check_safe road yard tree work = record {
  refused = first-refusal road yard tree (length work);
  accepted = accepted-exact road yard tree (length work);
  kept = refused-kept (check_answer road yard tree (length work)) work;
  emptied = accepted-zeroed (check_answer road yard tree (length work)) work;
}

-- ---- demand 1, of build

module _ (road yard : List ℕ) (m limit words room : ℕ) where
  first_build_refusal : FirstBuildRefusal road yard m limit words room (build_answer road yard m limit words room)
  first_build_refusal =
      let f = build_tests_lem road yard m limit words room in
      record {
        first = first-exact (build_tests road yard m limit words room) (build_answer road yard m limit words room) f;
        six = six-exact road _ (build_answer road yard m limit words room) f tt;
      }

  -- accepted by the tests, and sound
  build_accepted : (build_answer road yard m limit words room ≡ 0) ↔ BuildAccepted road yard m limit words room
  build_accepted = (there, back)
    where
      there : build_answer road yard m limit words room ≡ 0 → BuildAccepted road yard m limit words room
      there e =
          let a = (build_refusals road yard m limit words room).none.0 e in
          record { books = books_sound road yard a.roads a.yards; range = a.range; areas = a.areas }

      back : BuildAccepted road yard m limit words room → build_answer road yard m limit words room ≡ 0
      back a =
          (build_refusals road yard m limit words room).none.1
          (record { roads = sound_roads road yard a.books; yards = sound_yards road yard a.books; range = a.range; areas = a.areas })

pub build_safe : BuildSafe
build_safe road yard m limit work tree = record {
  refused = first_build_refusal road yard m limit (length work) (length tree);
  accepted = build_accepted road yard m limit (length work) (length tree);
  kept = λ h. let k = (build_exact road yard m limit work tree).refused h in (k.length_none, k.work-kept, k.tree-kept);
  emptied = λ e. ((build_exact road yard m limit work tree).accepted e).zeroes;
}

-- ---- demand 2, of build

pub build_true : BuildTrue
build_true road yard m limit work tree b i a =
    let z = (build_accepted road yard m limit (length work) (length tree)).1 (record { books = b; range = i; areas = a }) in
    let w = (build_exact road yard m limit work tree).accepted z in
    record {
      one = w.one;
      cuts = w.cuts;
      one-tree = w.one-tree;
      size = w.size;
      short = omega (arith, w.size, w.short);
      passes = w.passes;
      back = w.back;
    }

-- ---- demand 1, of search

module _ (c : Call) (a : Areas) where
  abbrev road : List ℕ
  road = c.road

  abbrev tree : List ℕ
  tree = c.tree

  abbrev query : List ℕ
  query = c.query

  abbrev want : Want
  want = c.want

  abbrev words : ℕ
  words = length a.work

  abbrev room : ℕ
  room = length a.results

  agree : SoundTreeBook c.road c.tree → tree_refusal_in c.tree (junctions c.road) ≡ 0
  agree s = counts_agree tree (junctions road) (sound_tree road tree s) s.counts

  first_search_refusal : FirstSearchRefusal c.road c.tree c.query c.want (length a.work) (length a.results) (found_on c a).refusal
  first_search_refusal =
      let f = rw (← on_number c a) at (search_tests_lem road tree query want words room) in
      record {
        first = first-exact (search_tests road tree query want words room) (found_on c a).refusal f;
        six = six-exact road _ (found_on c a).refusal f tt;
        seven = seven-exact tree (road_tests road) _ (found_on c a).refusal (roads-none road) f tt tt tt tt;
      }

  search_accepted : ((found_on c a).refusal ≡ 0) ↔ SearchAccepted c.road c.tree c.query c.want (length a.work) (length a.results)
  search_accepted = (there, back)
    where
      there : (found_on c a).refusal ≡ 0 → SearchAccepted road tree query want words room
      there e =
          let t = on_tests c a e in
          record {
            roads = (passing_exact road).0 t.roads;
            tree_sound = record { facts = (accepted_iff tree).0 t.shape; counts = t.counts };
            asked = t.asked;
            kinds = t.some-kind;
            areas = record { work = t.work-full; results = t.results-full };
          }

      back : SearchAccepted road tree query want words room → (found_on c a).refusal ≡ 0
      back s =
          on_number c a ∙ (by_areas road tree query want words room ((passing_exact road).1 s.roads) (agree s.tree_sound) ((query-exact query (junctions road)
          ).1 s.asked) s.kinds
          ∙ long_enough (most_yards tree query want) words room s.areas.work s.areas.results)

pub search_safe : SearchSafe
search_safe c a = record {
  refused = first_search_refusal c a;
  accepted = search_accepted c a;
  kept = λ h. (on_refused c a h, areas-kept c a h);
  emptied = work-zeroed c a;
}

-- ---- demand 3

pub searches_true : SearchesTrue
searches_true = demand_3

pub searches_decided : SearchesDecided
searches_decided = (any-tree, work_unread, searches_agree, versions_agree)

pub distances-least : DistancesLeast
distances-least road p u v hu hv = ((metric road p).least u v hu hv, λ tree a crews. ap (λ (i : Instance). i.d u v) (search_of_lem road tree a crews))

pub yards_keyed : YardsKeyed
yards_keyed = keys_true

pub yards_ordered : YardsOrdered
yards_ordered = ties_fair

pub yards-measured : YardsMeasured
yards-measured = (ways_true, measures_true, ceilings_true, above_kept)
