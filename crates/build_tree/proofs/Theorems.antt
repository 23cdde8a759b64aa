-- Demand 2, of build: which calls are turned back, that they change nothing, and that the tree of an accepted call passes the check. Assumes nothing.
use mathlib.Core.Path.{◌≡◌, refl, sym, ap, ◌∙◌}
use mathlib.Core.Logic.{◌⊎◌, inl, inr, ◌≢◌, ◌↔◌}
use mathlib.Core.Bool.{true}
use mathlib.Core.List.{List, [], ◌∷◌, Memᴰ as Mem}
use Prim.Native.Nat.{ℕ, ◌≤◌, ◌<◌}
use native.Mathlib.Omega.{arith}
use lib.ListN.{length}
use Rattle.book.specs.Open.{version}
use Rattle.book.specs.Writing.{write}
use Rattle.book.proofs.Choosing.{refuse_case, first_case, first-earlier, lt-or_ge}
use Rattle.work_area.specs.Work.{work_words, work_refusal}
use Rattle.work_area.proofs.Zeroing.{work-short, work-enough, accepted-zeroed}
use Rattle.road_layout.specs.Road.{junctions}
use Rattle.road.specs.Dijkstra.{dist}
use Rattle.road.specs.Refusal.{road_refusal}
use Rattle.yard.specs.Yards.{yards_of, kind_of, yard_refusal_in}
use Rattle.tree_layout.specs.Values.{Region, Tree}
use Rattle.tree_layout.specs.Decode.{junction_count, decode}
use Rattle.tree_layout.proofs.Places.{decode-junctions}
use Rattle.tree.specs.Shape.{tree_refusal}
use Rattle.tree.specs.Yards.{tree_yards}
use Rattle.tree.specs.Facts.{Preorder}
use Rattle.check_rules.specs.Truth.{true_tree, kinds_tree}
use Rattle.check_rules.specs.Facts.{Same}
use Rattle.tree_encode.specs.Encode.{encode}
use Rattle.build_records.proofs.Fields.{given-d, given-kinds, given-limit}
use Rattle.check_tree.specs.Check.{check_answer}
use Rattle.check_tree.proofs.Theorems.{true_passes}
use Rattle.build_tree.specs.Build.{range_refusal, room_refusal, build_answer, built_tree, built_length, tree_after}
use Rattle.build_tree.specs.Facts.{InRange, BuildAreas, AcceptedBuild, Refusals, Kept, written_book, Writes, BuildExact}
use Rattle.build_tree.proofs.Heading.{written-front, written-rest, written-whole}
use Rattle.build_tree.proofs.Limits.{built_tree_lem, its_junctions, short, bytes}
use Rattle.build_tree.proofs.Stated.{built_from, built_one}
use Rattle.build_tree.proofs.Answering.{range-facts, facts-range, room-facts, long_enough, accepted-facts, facts-accepted, call_tests, area_tests_lem}
use Rattle.build_tree.proofs.Answering.{road_turned, yard_turned, turned_length, turned_work, turned_tree, taken-length, taken-tree}

-- ---- which calls are turned back

-- the tests of m and the leaf limit give 11, and those of the areas 12
range_cases : (m limit : ℕ) → (range_refusal m limit ≡ 0) ⊎ (range_refusal m limit ≡ 11)
unfolding range_refusal
range_cases m limit =
    refuse_case (λ n. (n ≡ 0) ⊎ (n ≡ 11)) _ (λ _. inr refl) (λ _.
    refuse_case (λ n. (n ≡ 0) ⊎ (n ≡ 11)) _ (λ _. inr refl) (λ _.
    refuse_case (λ n. (n ≡ 0) ⊎ (n ≡ 11)) _ (λ _. inr refl) (λ _.
    refuse_case (λ n. (n ≡ 0) ⊎ (n ≡ 11)) _ (λ _. inr refl) (λ _. inl refl))))

work_cases : (words : ℕ) → (work_refusal words ≡ 0) ⊎ (work_refusal words ≡ 12)
work_cases words = go (lt-or_ge words work_words)
  where
    go : (words < work_words) ⊎ (work_words ≤ words) → (work_refusal words ≡ 0) ⊎ (work_refusal words ≡ 12)
    go (inl h) = inr (work-short words h)
    go (inr h) = inl (work-enough words h)

room_cases : (v words room : ℕ) → (room_refusal v words room ≡ 0) ⊎ (room_refusal v words room ≡ 12)
unfolding room_refusal
room_cases v words room =
    first_case (λ n. (n ≡ 0) ⊎ (n ≡ 12)) (work_refusal words) (λ h. work_cases words) (λ e.
    refuse_case (λ n. (n ≡ 0) ⊎ (n ≡ 12)) _ (λ _. inr refl) (λ _. inl refl))

module _ (road yard : List ℕ) (m limit words room : ℕ) where
  abbrev answer : ℕ
  answer = build_answer road yard m limit words room

  module _ (rok : road_refusal road ≡ 0) (yok : yard_refusal_in yard (junctions road) ≡ 0) where
    eleven : (build_answer road yard m limit words room ≡ 11) ↔ (InRange m limit → ⊥)
    eleven = (to, from)
      where
        other : (room_refusal (version yard) words room ≡ 0) ⊎ (room_refusal (version yard) words room ≡ 12) → room_refusal (version yard) words room ≢ 11
        other (inl e) z = omega arith
        other (inr e) z = omega arith

        to : answer ≡ 11 → InRange m limit → ⊥
        to e f = other (room_cases (version yard) words room) (sym (area_tests_lem road yard m limit words room rok yok (facts-range m limit f)) ∙ e)

        go : (InRange m limit → ⊥) → (range_refusal m limit ≡ 0) ⊎ (range_refusal m limit ≡ 11) → answer ≡ 11
        go h (inl e) = absurd (h (range-facts m limit e))
        go h (inr e) = call_tests road yard m limit words room rok yok ∙ first-earlier (range_refusal m limit) _ (omega arith) ∙ e

        from : (InRange m limit → ⊥) → answer ≡ 11
        from h = go h (range_cases m limit)

    twelve : InRange m limit → (build_answer road yard m limit words room ≡ 12) ↔ (BuildAreas (version yard) words room → ⊥)
    twelve f = (to, from)
      where
        tests : answer ≡ room_refusal (version yard) words room
        tests = area_tests_lem road yard m limit words room rok yok (facts-range m limit f)

        to : answer ≡ 12 → BuildAreas (version yard) words room → ⊥
        to e a = omega (arith, tests, long_enough (version yard) words room a.work a.tree)

        go : (BuildAreas (version yard) words room → ⊥) → (room_refusal (version yard) words room ≡ 0) ⊎ (room_refusal (version yard) words room ≡ 12) → answer ≡ 12
        go h (inl e) = absurd (h (room-facts (version yard) words room e))
        go h (inr e) = tests ∙ e

        from : (BuildAreas (version yard) words room → ⊥) → answer ≡ 12
        from h = go h (room_cases (version yard) words room)

  pub build_refusals : Refusals road yard m limit words room
  build_refusals = record {
    road-first = λ h. road_turned road yard m limit words room (omega (arith, h));
    yard-next = λ e h. yard_turned road yard m limit words room e (omega (arith, h));
    eleven = eleven;
    twelve = twelve;
    none = (accepted-facts road yard m limit words room, facts-accepted road yard m limit words room);
  }

-- ---- the areas after a call

module _ (road yard : List ℕ) (m limit : ℕ) (work tree : List ℕ) where
  kept : build_answer road yard m limit (length work) (length tree) ≢ 0 → Kept road yard m limit work tree
  kept h = record {
    length_none = sym (turned_length road yard m limit work tree _ refl (omega (arith, h)));
    tree-kept = sym (turned_tree road yard m limit work tree _ refl (omega (arith, h)));
    work-kept = sym (turned_work road yard m limit work tree _ refl (omega (arith, h)));
  }

  module _ (z : build_answer road yard m limit (length work) (length tree) ≡ 0) where
    acc : AcceptedBuild road yard m limit (length work) (length tree)
    acc = accepted-facts road yard m limit (length work) (length tree) z

    abbrev t : Tree
    t = built_tree road yard m limit

    length-is : built_length road yard m limit (length work) (length tree) ≡ length (encode (built_tree road yard m limit))
    length-is =
        sym (taken-length road yard m limit work tree (sym z) (length (encode t)) refl)

    tree_is : tree_after road yard m limit (length work) tree ≡ write tree 0 (encode (built_tree road yard m limit))
    tree_is =
        sym (taken-tree road yard m limit work tree (sym z) (write tree 0 (encode t)) refl)

    fits : length (encode (built_tree road yard m limit)) ≤ length tree
    fits = omega (arith, short road yard m limit (length work) (length tree) acc, acc.areas.tree)

    book-is : written_book road yard m limit (length work) tree ≡ encode (built_tree road yard m limit)
    book-is = rw (length-is, tree_is) (written-front (encode t) tree fits)

    back : decode (encode (built_tree road yard m limit)) ≡ built_tree road yard m limit
    unfolding built_tree
    back = (built_tree_lem road yard m limit (length work) (length tree) acc).back

    shape : tree_refusal (encode (built_tree road yard m limit)) ≡ 0
    unfolding built_tree
    shape = (built_tree_lem road yard m limit (length work) (length tree) acc).accepted

    yards-same : Same (tree_yards (decode (encode (built_tree road yard m limit)))) (yards_of yard)
    unfolding built_tree
    yards-same = rw back (built_tree_lem road yard m limit (length work) (length tree) acc).yards

    numbers_true_lem : true_tree (dist road) (decode (encode (built_tree road yard m limit))) ≡ true
    unfolding built_tree
    numbers_true_lem = rw (back, ← given-d road yard m limit) (built_tree_lem road yard m limit (length work) (length tree) acc).true_tree_lem

    kinds_true_lem : kinds_tree (kind_of yard) (decode (encode (built_tree road yard m limit))) ≡ true
    unfolding built_tree
    kinds_true_lem = rw (back, ← given-kinds road yard m limit) (built_tree_lem road yard m limit (length work) (length tree) acc).kinds-tree

    counts : junction_count (encode (built_tree road yard m limit)) ≡ junctions road
    counts =
        sym (decode-junctions (encode t)) ∙ (ap (λ (x : Tree). x.junctions) back ∙ its_junctions road yard m limit acc.yards)

    passes : (words : ℕ) → work_words ≤ words → check_answer road yard (encode (built_tree road yard m limit)) words ≡ 0
    passes words h =
        true_passes road yard (encode t) words (record { roads = acc.roads; yards = acc.yards; shape = shape; counts = counts; full = h }) yards-same
        numbers_true_lem kinds_true_lem

    few : length (built_tree road yard m limit).regions ≤ 511
    unfolding built_tree
    few = (built_tree_lem road yard m limit (length work) (length tree) acc).few

    six : Preorder (built_tree road yard m limit).regions 6 0 (0 ∷ []) (length (built_tree road yard m limit).regions)
    unfolding built_tree
    six = (built_tree_lem road yard m limit (length work) (length tree) acc).six

    leaf-limit : (r : Region) → Mem r (built_tree road yard m limit).regions → r.children ≡ 0 → r.yards ≤ limit
    unfolding built_tree
    leaf-limit r k c = omega (arith, given-limit road yard m limit, (built_tree_lem road yard m limit (length work) (length tree) acc).leaf-limit r k c)

    writes : Writes road yard m limit work tree
    writes = record {
      one = tree_is ∙ written-whole (encode t) tree fits;
      size = length-is;
      back = rw book-is back;
      passes = λ words h. rw book-is (passes words h);
      bytes = λ bs. rw book-is (bytes road yard m limit (length work) (length tree) acc bs);
      sized = ap length book-is ∙ sym length-is;
      short = rw length-is (short road yard m limit (length work) (length tree) acc);
      rest = rw (length-is, tree_is) (written-rest (encode t) tree fits);
      few = few;
      six = six;
      leaf-limit = leaf-limit;
      cuts = rw (book-is, back) (built_from road yard m limit (length work) (length tree) acc);
      one-tree = λ x b. rw (book-is, back) (built_one road yard m limit (length work) (length tree) acc x b);
      zeroes = accepted-zeroed (build_answer road yard m limit (length work) (length tree)) work z;
    }

  -- demand 2, of build
  pub build_exact : BuildExact road yard m limit work tree
  build_exact = record { refusals = build_refusals road yard m limit (length work) (length tree); refused = kept; accepted = writes }
