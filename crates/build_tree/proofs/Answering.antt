-- What a build answers for what its steps found, and the areas after it. Assumes nothing.
use mathlib.Core.Path.{◌≡◌, sym, ap, ◌∙◌}
use mathlib.Core.Logic.{◌≢◌}
use mathlib.Core.List.{List}
use Prim.Native.Nat.{ℕ, ◌≤◌, ◌<◌}
use native.Mathlib.Omega.{arith}
use lib.ListN.{length}
use lib.Dec.{leb, eqb, leb→le}
use borrow.Author.Tests.{le-leb, lt-leb}
use Rattle.book.specs.Choose.{refuse, first_of}
use Rattle.book.specs.Open.{version}
use Rattle.book.specs.Writing.{write}
use Rattle.book.proofs.Choosing.{passes_if, fails_if, passed, first-earlier, first-later, first-none, choose_yes, choose_no}
use Rattle.book.proofs.Lists.{eq→eqb, ne→neqb}
use Rattle.work_area.specs.Work.{work_words, work_refusal, zeroed, work_after}
use Rattle.work_area.proofs.Zeroing.{work-short, work-enough, enough-work, accepted-zeroed, refused-kept}
use Rattle.road_layout.specs.Road.{junctions, road_count}
use Rattle.road_layout.specs.Layout.{Sound, Refused, told}
use Rattle.road.specs.Refusal.{road_refusal}
use Rattle.road.proofs.Answering.{read_sound, read_refused}
use Rattle.yard.specs.Yards.{yard_count, yard_refusal_in, Yards, Refused as yard-refused, yard_book}
use Rattle.yard.proofs.Answering.{yards-number, refused-number}
use Rattle.yard.proofs.YardLayout.{passes-alone, five}
use Rattle.tree_encode.specs.Encode.{encode, tree_room}
use Rattle.build_tree.specs.Build.{range_refusal, room_refusal, build_answer, built_tree, built_length, tree_after}
use Rattle.build_tree.specs.Facts.{InRange, BuildAreas, AcceptedBuild}

-- ---- m and the leaf limit

module _ (m limit : ℕ) where
  pub few-landmarks : m < 1 → 11 ≡ range_refusal m limit
  unfolding range_refusal
  few-landmarks h = sym (fails_if (leb 1 m) 11 _ (lt-leb 1 m h))

  module _ (a : 1 ≤ m) where
    pub many_landmarks : 4 < m → 11 ≡ range_refusal m limit
    unfolding range_refusal
    many_landmarks h = sym (passes_if (leb 1 m) 11 _ (le-leb 1 m a) ∙ fails_if (leb m 4) 11 _ (lt-leb m 4 h))

    module _ (b : m ≤ 4) where
      pub low-limit : limit < 1 → 11 ≡ range_refusal m limit
      unfolding range_refusal
      low-limit h =
          sym (passes_if (leb 1 m) 11 _ (le-leb 1 m a) ∙ passes_if (leb m 4) 11 _ (le-leb m 4 b) ∙ fails_if (leb 1 limit) 11 _ (lt-leb 1 limit h))

      module _ (c : 1 ≤ limit) where
        last : range_refusal m limit ≡ refuse (leb limit 256) 11 0
        unfolding range_refusal
        last = passes_if (leb 1 m) 11 _ (le-leb 1 m a) ∙ passes_if (leb m 4) 11 _ (le-leb m 4 b) ∙ passes_if (leb 1 limit) 11 _ (le-leb 1 limit c)

        pub high-limit : 256 < limit → 11 ≡ range_refusal m limit
        high-limit h = sym (last ∙ fails_if (leb limit 256) 11 0 (lt-leb limit 256 h))

        pub in_range_lem : limit ≤ 256 → 0 ≡ range_refusal m limit
        in_range_lem h = sym (last ∙ passes_if (leb limit 256) 11 0 (le-leb limit 256 h))

  pub range-facts : range_refusal m limit ≡ 0 → InRange m limit
  unfolding range_refusal
  range-facts e =
      let a = passed _ _ _ e (omega arith) in
      let b = passed _ _ _ a.1 (omega arith) in
      let c = passed _ _ _ b.1 (omega arith) in
      let d = passed _ _ _ c.1 (omega arith) in
      record { landmarks = (leb→le 1 m a.0, leb→le m 4 b.0); leaf = (leb→le 1 limit c.0, leb→le limit 256 d.0) }

  pub facts-range : InRange m limit → range_refusal m limit ≡ 0
  facts-range f = sym (in_range_lem f.landmarks.0 f.landmarks.1 f.leaf.0 f.leaf.1)

-- ---- the areas

module _ (v words room : ℕ) where
  pub short-work : words < work_words → 12 ≡ room_refusal v words room
  unfolding room_refusal
  short-work h = sym (first-earlier (work_refusal words) _ (omega (arith, work-short words h)) ∙ work-short words h)

  short-tree : work_words ≤ words → room < tree_room v → 12 ≡ room_refusal v words room
  unfolding room_refusal
  short-tree h k = sym (first-later (work_refusal words) _ (work-enough words h) ∙ fails_if (leb (tree_room v) room) 12 0 (lt-leb (tree_room v) room k))

  pub long_enough : work_words ≤ words → tree_room v ≤ room → 0 ≡ room_refusal v words room
  unfolding room_refusal
  long_enough h k = sym (first-later (work_refusal words) _ (work-enough words h) ∙ passes_if (leb (tree_room v) room) 12 0 (le-leb (tree_room v) room k))

  pub room-facts : room_refusal v words room ≡ 0 → BuildAreas v words room
  unfolding room_refusal
  room-facts e =
      let a = first-none _ _ e in
      record { work = enough-work words a.0; tree = leb→le (tree_room v) room (passed _ _ _ a.1 (omega arith)).0 }

-- a yard book that is read has a version byte
pub yard_five : (yard : List ℕ) (n count : ℕ) → Yards count ≡ yard_book (yard_refusal_in yard n) (yard_count yard) → 5 ≤ length yard
yard_five yard n count g = five yard (passes-alone yard n (yards-number (yard_refusal_in yard n) (yard_count yard) count (sym g)).0)

-- ---- the whole answer

module _ (road yard : List ℕ) (m limit words room : ℕ) where
  pub accepted-facts : build_answer road yard m limit words room ≡ 0 → AcceptedBuild road yard m limit words room
  unfolding build_answer
  accepted-facts e =
      let a = first-none _ _ e in
      let b = first-none _ _ a.1 in
      let c = first-none _ _ b.1 in
      record { roads = a.0; yards = b.0; range = range-facts m limit c.0; areas = room-facts (version yard) words room c.1 }

  module _ (rok : road_refusal road ≡ 0) (yok : yard_refusal_in yard (junctions road) ≡ 0) where
    pub call_tests : build_answer road yard m limit words room ≡ first_of (range_refusal m limit) (room_refusal (version yard) words room)
    unfolding build_answer
    call_tests = first-later _ _ rok ∙ first-later _ _ yok

    pub area_tests_lem : range_refusal m limit ≡ 0 → build_answer road yard m limit words room ≡ room_refusal (version yard) words room
    area_tests_lem e = call_tests ∙ first-later _ _ e

  pub facts-accepted : AcceptedBuild road yard m limit words room → build_answer road yard m limit words room ≡ 0
  facts-accepted a =
      area_tests_lem a.roads a.yards (facts-range m limit a.range) ∙ sym (long_enough (version yard) words room a.areas.work a.areas.tree)

  pub road_turned : 1 ≤ road_refusal road → build_answer road yard m limit words room ≡ road_refusal road
  unfolding build_answer
  road_turned h = first-earlier (road_refusal road) _ h

  pub yard_turned : road_refusal road ≡ 0 → 1 ≤ yard_refusal_in yard (junctions road)
      → build_answer road yard m limit words room ≡ yard_refusal_in yard (junctions road)
  unfolding build_answer
  yard_turned e h = first-later _ _ e ∙ first-earlier (yard_refusal_in yard (junctions road)) _ h

  -- what reading the road book found
  pub build_road : (why : ℕ) → Refused why ≡ told (road_refusal road) (junctions road) (road_count road) → why ≡ build_answer road yard m limit words room
  build_road why e = let q = read_refused road why e in sym (road_turned (omega (arith, q.0, q.1)) ∙ q.0)

  module _ (n k : ℕ) (e : Sound n k ≡ told (road_refusal road) (junctions road) (road_count road)) where
    road_sound : (road_refusal road ≡ 0) × (n ≡ junctions road)
    road_sound = let q = read_sound road n k e in (q.0, q.1)

    -- and the yard book
    pub build_yard : (why : ℕ) → yard-refused why ≡ yard_book (yard_refusal_in yard n) (yard_count yard) → why ≡ build_answer road yard m limit words room
    build_yard why g =
        let x = rw road_sound.1 at (refused-number (yard_refusal_in yard n) (yard_count yard) why (sym g)) in
        sym (yard_turned road_sound.0 (omega (arith, x.0, x.1)) ∙ x.0)

    module _ (count : ℕ) (g : Yards count ≡ yard_book (yard_refusal_in yard n) (yard_count yard)) where
      yard_sound : yard_refusal_in yard (junctions road) ≡ 0
      yard_sound = rw (← road_sound.1) (yards-number (yard_refusal_in yard n) (yard_count yard) count (sym g)).0

      pub build_range : (why : ℕ) → why ≡ range_refusal m limit → 1 ≤ why → why ≡ build_answer road yard m limit words room
      build_range why q h = q ∙ sym (call_tests road_sound.0 yard_sound ∙ first-earlier (range_refusal m limit) _ (omega (arith, q)))

      module _ (q : 0 ≡ range_refusal m limit) where
        tests : build_answer road yard m limit words room ≡ room_refusal (version yard) words room
        tests = area_tests_lem road_sound.0 yard_sound (sym q)

        pub build_work : words < work_words → 12 ≡ build_answer road yard m limit words room
        build_work h = short-work (version yard) words room h ∙ sym tests

        -- beside the bytes that the area must have, by the version that is read
        module _ (v size : ℕ) (ev : v ≡ version yard) (es : size ≡ tree_room v) where
          needed : size ≡ tree_room (version yard)
          needed = es ∙ ap tree_room ev

          pub build_room : work_words ≤ words → room < size → 12 ≡ build_answer road yard m limit words room
          build_room h k = short-tree (version yard) words room h (omega (arith, needed)) ∙ sym tests

          pub build_passes : work_words ≤ words → size ≤ room → 0 ≡ build_answer road yard m limit words room
          build_passes h k = long_enough (version yard) words room h (omega (arith, needed)) ∙ sym tests

-- ---- the length and the areas after a call

module _ (road yard : List ℕ) (m limit : ℕ) (work tree : List ℕ) where
  abbrev answer : ℕ
  answer = build_answer road yard m limit (length work) (length tree)

  module _ (why : ℕ) (e : why ≡ build_answer road yard m limit (length work) (length tree)) (h : 1 ≤ why) where
    turned : answer ≢ 0
    turned z = omega (arith, e, z)

    pub turned_length : 0 ≡ built_length road yard m limit (length work) (length tree)
    unfolding built_length
    turned_length = sym (choose_no (eqb answer 0) _ 0 (ne→neqb answer 0 turned))

    pub turned_work : work ≡ work_after (build_answer road yard m limit (length work) (length tree)) work
    turned_work = sym (refused-kept answer work turned)

    pub turned_tree : tree ≡ tree_after road yard m limit (length work) tree
    unfolding tree_after
    turned_tree = sym (choose_no (eqb answer 0) _ tree (ne→neqb answer 0 turned))

  module _ (e : 0 ≡ build_answer road yard m limit (length work) (length tree)) where
    taken : answer ≡ 0
    taken = sym e

    pub taken-facts : AcceptedBuild road yard m limit (length work) (length tree)
    taken-facts = accepted-facts road yard m limit (length work) (length tree) taken

    pub taken-length : (n : ℕ) → n ≡ length (encode (built_tree road yard m limit)) → n ≡ built_length road yard m limit (length work) (length tree)
    unfolding built_length
    taken-length n q = q ∙ sym (choose_yes (eqb answer 0) (length (encode (built_tree road yard m limit))) 0 (eq→eqb answer 0 taken))

    pub taken-work : (after : List ℕ) → after ≡ zeroed work_words work
        → after ≡ work_after (build_answer road yard m limit (length work) (length tree)) work
    taken-work after q = q ∙ sym (accepted-zeroed answer work taken)

    pub taken-tree : (after : List ℕ) → after ≡ write tree 0 (encode (built_tree road yard m limit))
        → after ≡ tree_after road yard m limit (length work) tree
    unfolding tree_after
    taken-tree after q = q ∙ sym (choose_yes (eqb answer 0) (write tree 0 (encode (built_tree road yard m limit))) tree (eq→eqb answer 0 taken))

-- a call is accepted whatever work area beyond the least it has
pub other-work : (road yard : List ℕ) (m limit words room : ℕ) → AcceptedBuild road yard m limit words room → AcceptedBuild road yard m limit work_words room
other-work road yard m limit words room a =
    record { roads = a.roads; yards = a.yards; range = a.range; areas = record { work = omega arith; tree = a.areas.tree } }
