-- What a check answers for what its steps found. Assumes nothing.
use mathlib.Core.Path.{◌≡◌, refl, sym, ap, ◌∙◌}
use mathlib.Core.Bool.{Bool, true, false}
use mathlib.Core.List.{List}
use Prim.Native.Nat.{ℕ, zero, suc, ◌≤◌, ◌<◌}
use native.Mathlib.Omega.{arith}
use lib.ListN.{length}
use lib.Dec.{eqb}
use borrow.Author.Tests.{eq-eqb, ne_eqb}
use Rattle.book.specs.Choose.{refuse, first_of}
use Rattle.book.proofs.Choosing.{passes_if, fails_if, first-earlier, first-later, first-none, true_T}
use Rattle.work_area.specs.Work.{work_words, work_refusal, zeroed, work_after}
use Rattle.work_area.proofs.Zeroing.{work-short, work-enough, enough-work, accepted-zeroed, refused-kept}
use Rattle.road_layout.specs.Road.{junctions, road_count}
use Rattle.road_layout.specs.Layout.{Sound, Refused, told}
use Rattle.adjacency.specs.Adjacency.{count_in, Adjacency, IsAdjacency}
use Rattle.road.specs.Dijkstra.{dist}
use Rattle.road.specs.Refusal.{road_refusal}
use Rattle.road.proofs.Answering.{read_sound, read_refused}
use Rattle.yard.specs.Yards.{yards_of, yard_count, kind_of, yard_refusal, yard_refusal_in, Yards, Refused as yard-refused, yard_book}
use Rattle.yard.proofs.YardLayout.{passes-alone}
use Rattle.yard.proofs.Answering.{yards-number, refused-number}
use Rattle.tree_layout.specs.Decode.{junction_count, decode}
use Rattle.tree_layout.specs.Decode as Book
use Rattle.tree_layout.specs.Refusal.{tree_layout_refusal}
use Rattle.tree_layout.specs.Reading.{header_of}
use Rattle.tree_layout.specs.declared.Header.{Header}
use Rattle.tree_layout.proofs.Accepting.{facts-layout}
use Rattle.tree_layout.proofs.Reading.{header-junctions, header-yards}
use Rattle.tree.specs.Shape.{tree_refusal}
use Rattle.tree.specs.Yards.{tree_yards}
use Rattle.tree.specs.Answer.{Shaped, Refused as tree-refused, tree_of}
use Rattle.tree.proofs.Theorems.{tree-facts}
use Rattle.tree.proofs.Answering.{shaped-found, turned_back}
use Rattle.check_rules.specs.Truth.{true_tree, true_beside, kinds_tree, kinds_beside}
use Rattle.check_rules.specs.Facts.{Same}
use Rattle.check_distances.specs.code.Beside.{Beside}
use Rattle.check_rules.proofs.Beside.{ranges-held, beside_true, beside-kinds}
use Rattle.check_tree.specs.Check.{same_set, tree_refusal_beside, check_answer}
use Rattle.check_tree.specs.code.Known.{known_tree}
use Rattle.check_tree.proofs.Sets.{set_same}
use Rattle.check_tree.proofs.Matching.{counted_same, counts_differ}

-- ---- the tree book's tests

module _ (road yard tree : List ℕ) where
  -- its own tests turn it back
  pub tree_own : (why : ℕ) → tree-refused why ≡ tree_of tree → why ≡ tree_refusal_beside road yard tree
  unfolding tree_refusal_beside
  tree_own why e = let n = turned_back tree why e in sym (first-earlier (tree_refusal tree) _ (omega (arith, n.0, n.1)) ∙ n.0)

  module _ (ok : tree_refusal tree ≡ 0) where
    pub junctions_differ : (junction_count tree ≡ junctions road → ⊥) → 8 ≡ tree_refusal_beside road yard tree
    unfolding tree_refusal_beside
    junctions_differ h = sym (first-later _ _ ok ∙ fails_if (eqb (junction_count tree) (junctions road)) 8 _ (ne_eqb _ _ h))

    module _ (counts : junction_count tree ≡ junctions road) where
      pub yards_differ : same_set (tree_yards (decode tree)) (yards_of yard) ≡ false → 8 ≡ tree_refusal_beside road yard tree
      unfolding tree_refusal_beside
      yards_differ s = sym (first-later _ _ ok ∙ passes_if (eqb (junction_count tree) (junctions road)) 8 _ (eq-eqb _ _ counts)
          ∙ fails_if (same_set (tree_yards (decode tree)) (yards_of yard)) 8 _ s)

      module _ (s : same_set (tree_yards (decode tree)) (yards_of yard) ≡ true) where
        last : tree_refusal_beside road yard tree ≡ refuse (true_tree (dist road) (decode tree)) 9 (refuse (kinds_tree (kind_of yard) (decode tree)) 9 0)
        unfolding tree_refusal_beside
        last = first-later _ _ ok ∙ passes_if (eqb (junction_count tree) (junctions road)) 8 _ (eq-eqb _ _ counts)
            ∙ passes_if (same_set (tree_yards (decode tree)) (yards_of yard)) 8 _ s

        pub untrue : true_tree (dist road) (decode tree) ≡ false → 9 ≡ tree_refusal_beside road yard tree
        untrue f = sym (last ∙ fails_if (true_tree (dist road) (decode tree)) 9 _ f)

        module _ (f : true_tree (dist road) (decode tree) ≡ true) where
          pub untrue_kinds : kinds_tree (kind_of yard) (decode tree) ≡ false → 9 ≡ tree_refusal_beside road yard tree
          untrue_kinds g = sym (last ∙ passes_if (true_tree (dist road) (decode tree)) 9 _ f ∙ fails_if (kinds_tree (kind_of yard) (decode tree)) 9 0 g)

          pub all_true : kinds_tree (kind_of yard) (decode tree) ≡ true → 0 ≡ tree_refusal_beside road yard tree
          all_true g = sym (last ∙ passes_if (true_tree (dist road) (decode tree)) 9 _ f ∙ passes_if (kinds_tree (kind_of yard) (decode tree)) 9 0 g)

-- ---- the steps of the tree book's tests, from what the reader found

module _ (adj yard tree : List ℕ) (roads : IsAdjacency adj) (alone : yard_refusal yard ≡ 0) (h : Header) (e : Shaped h ≡ tree_of tree) where
  ok : tree_refusal tree ≡ 0
  ok = (shaped-found tree h e).0

  junctions_are : h.junctions ≡ junction_count tree
  junctions_are = ap (λ (x : Header). x.junctions) (sym (shaped-found tree h e).1) ∙ header-junctions tree

  yards_are : h.yards ≡ Book.tree_yard_count tree
  yards_are = ap (λ (x : Header). x.yards) (sym (shaped-found tree h e).1) ∙ header-yards tree

  -- the yards are looked up in a yard book and a tree book of sound layout
  pub step_needs : (yard_refusal yard ≡ 0) × (tree_layout_refusal tree ≡ 0)
  step_needs = (alone, facts-layout tree (tree-facts tree ok).layout)

  module _ (n : ℕ) (en : n ≡ count_in adj) where
    pub step-junctions : (h.junctions ≡ n → ⊥) → (road : List ℕ) → Adjacency road adj → 8 ≡ tree_refusal_beside road yard tree
    step-junctions d road a = junctions_differ road yard tree ok (λ q. d (omega (arith, junctions_are, q, en, a.count)))

    module _ (j : h.junctions ≡ n) (count : ℕ) (ec : count ≡ yard_count yard) where
      counts : junction_count tree ≡ count_in adj
      counts = omega (arith, junctions_are)

      beside : (road : List ℕ) → Adjacency road adj → junction_count tree ≡ junctions road
      beside road a = counts ∙ a.count

      pub step_counts : (h.yards ≡ count → ⊥) → (road : List ℕ) → Adjacency road adj → 8 ≡ tree_refusal_beside road yard tree
      step_counts d road a = yards_differ road yard tree ok (beside road a) (counts_differ yard tree alone ok (λ q. d (omega (arith, yards_are))))

      module _ (y : h.yards ≡ count) (r : Bool) (k : r ≡ known_tree (yards_of yard) (decode tree)) where
        same : known_tree (yards_of yard) (decode tree) ≡ same_set (tree_yards (decode tree)) (yards_of yard)
        same = counted_same yard tree alone ok (omega (arith, yards_are))

        pub step-yards : r ≡ false → (road : List ℕ) → Adjacency road adj → 8 ≡ tree_refusal_beside road yard tree
        step-yards z road a = yards_differ road yard tree ok (beside road a) (sym same ∙ sym k ∙ z)

        module _ (z : r ≡ true) where
          set : Same (tree_yards (decode tree)) (yards_of yard)
          set = set_same (tree_yards (decode tree)) (yards_of yard) (true_T (sym same ∙ sym k ∙ z))

          pub step-beside : Beside adj yard tree
          step-beside = record { roads = roads; yards = alone; regions = step_needs.1; counts = counts; held = ranges-held tree (yards_of yard) ok set }

          module _ (w : Bool) (road : List ℕ) (a : Adjacency road adj) (found : w ≡ true_beside (dist road) (yards_of yard) (decode tree)) where
            truth : true_tree (dist road) (decode tree) ≡ w
            truth = sym (found ∙ beside_true tree (yards_of yard) ok set (dist road))

            pub step_untrue : w ≡ false → 9 ≡ tree_refusal_beside road yard tree
            step_untrue b = untrue road yard tree ok (beside road a) (sym same ∙ sym k ∙ z) (truth ∙ b)

            module _ (b : w ≡ true) (v : Bool) (seen : v ≡ kinds_beside (kind_of yard) (yards_of yard) (decode tree)) where
              kinds-truth : kinds_tree (kind_of yard) (decode tree) ≡ v
              kinds-truth = sym (seen ∙ beside-kinds tree (yards_of yard) ok set (kind_of yard))

              pub step_untrue_kinds : v ≡ false → 9 ≡ tree_refusal_beside road yard tree
              step_untrue_kinds g = untrue_kinds road yard tree ok (beside road a) (sym same ∙ sym k ∙ z) (truth ∙ b) (kinds-truth ∙ g)

              pub step_true : v ≡ true → 0 ≡ tree_refusal_beside road yard tree
              step_true g = all_true road yard tree ok (beside road a) (sym same ∙ sym k ∙ z) (truth ∙ b) (kinds-truth ∙ g)

-- ---- what the readers of the road book and the yard book found

module _ (road : List ℕ) (n m : ℕ) (e : Sound n m ≡ told (road_refusal road) (junctions road) (road_count road)) where
  road_sound : (road_refusal road ≡ 0) × (n ≡ junctions road)
  road_sound = let q = read_sound road n m e in (q.0, q.1)

  -- the adjacency that the reader keeps
  module _ (adj : List ℕ) (k : road_refusal road ≡ 0 → Adjacency road adj) where
    pub road-kept : Adjacency road adj
    road-kept = k road_sound.0

    pub road-adjacent : IsAdjacency adj
    road-adjacent = record { book = road; adjacent = road-kept }

  module _ (yard : List ℕ) where
    yard_refuses : (why : ℕ) → yard-refused why ≡ yard_book (yard_refusal_in yard n) (yard_count yard)
        → (yard_refusal_in yard (junctions road) ≡ why) × (1 ≤ why)
    yard_refuses why g = rw (← road_sound.1) (refused-number (yard_refusal_in yard n) (yard_count yard) why (sym g))

    module _ (count : ℕ) (g : Yards count ≡ yard_book (yard_refusal_in yard n) (yard_count yard)) where
      yard_in : yard_refusal_in yard (junctions road) ≡ 0
      yard_in = rw (← road_sound.1) (yards-number (yard_refusal_in yard n) (yard_count yard) count (sym g)).0

      pub yard_sound : yard_refusal yard ≡ 0
      yard_sound = passes-alone yard (junctions road) yard_in

-- ---- the whole answer

module _ (road yard tree : List ℕ) (words : ℕ) where
  pub check_road : (why : ℕ) → Refused why ≡ told (road_refusal road) (junctions road) (road_count road) → why ≡ check_answer road yard tree words
  unfolding check_answer
  check_road why e = let q = read_refused road why e in sym (first-earlier (road_refusal road) _ (omega (arith, q.0, q.1)) ∙ q.0)

  module _ (n m : ℕ) (e : Sound n m ≡ told (road_refusal road) (junctions road) (road_count road)) where
    pub check_yard : (why : ℕ) → yard-refused why ≡ yard_book (yard_refusal_in yard n) (yard_count yard) → why ≡ check_answer road yard tree words
    unfolding check_answer
    check_yard why g =
        let x = yard_refuses road n m e yard why g in
        sym (first-later _ _ (road_sound road n m e).0 ∙ first-earlier (yard_refusal_in yard (junctions road)) _ (omega (arith, x.0, x.1)) ∙ x.0)

    module _ (count : ℕ) (g : Yards count ≡ yard_book (yard_refusal_in yard n) (yard_count yard)) where
      rest : check_answer road yard tree words ≡ first_of (tree_refusal_beside road yard tree) (work_refusal words)
      unfolding check_answer
      rest = first-later _ _ (road_sound road n m e).0 ∙ first-later _ _ (yard_in road n m e yard count g)

      pub check_tree_lem : (why : ℕ) → why ≡ tree_refusal_beside road yard tree → 1 ≤ why → why ≡ check_answer road yard tree words
      check_tree_lem why q h = q ∙ sym (rest ∙ first-earlier (tree_refusal_beside road yard tree) _ (omega (arith, q)))

      module _ (q : 0 ≡ tree_refusal_beside road yard tree) where
        pub check_short : words < work_words → 12 ≡ check_answer road yard tree words
        check_short h = sym (rest ∙ first-later _ _ (sym q) ∙ work-short words h)

        pub check_passes : work_words ≤ words → 0 ≡ check_answer road yard tree words
        check_passes h = sym (rest ∙ first-later _ _ (sym q) ∙ work-enough words h)

-- ---- the work area

module _ (road yard tree work : List ℕ) where
  pub work-kept : (why : ℕ) → why ≡ check_answer road yard tree (length work) → 1 ≤ why → work ≡ work_after (check_answer road yard tree (length work)) work
  work-kept why e h = sym (refused-kept (check_answer road yard tree (length work)) work (λ q. omega (arith, e, q)))

  module _ (e : 0 ≡ check_answer road yard tree (length work)) where
    pub work-enough_for : work_words ≤ length work
    unfolding check_answer
    work-enough_for = enough-work (length work) (first-none _ _ (first-none _ _ (first-none _ _ (sym e)).1).1).1

    pub work-zeroed : (after : List ℕ) → after ≡ zeroed work_words work → after ≡ work_after (check_answer road yard tree (length work)) work
    work-zeroed after f = f ∙ sym (accepted-zeroed (check_answer road yard tree (length work)) work (sym e))
