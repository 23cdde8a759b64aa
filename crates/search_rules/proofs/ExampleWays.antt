-- The hypotheses can be met where roads have a direction: they hold of the ring of six, whose distances differ by direction, and of its tree of three regions,
-- so that the theorems say something of it. Assumes nothing.
use mathlib.Core.Path.{◌≡◌, refl}
use mathlib.Core.Bool.{Bool, true}
use mathlib.Core.List.Memᴰ.{head}
use mathlib.Core.List.Memᴰ.{not-nil}
use mathlib.Core.List.{List, [], ◌∷◌, Memᴰ as Mem}
use Prim.Native.Nat.{ℕ, zero, suc, ◌+◌, ◌-◌, ◌≤◌, ◌<◌}
use native.Mathlib.Omega.{arith}
use lib.ListN.{length, get_or}
use lib.Dec.{T, ltb, leb, eqb, ltb→lt, leb→le, nleb→lt, eqb→eq}
use Rattle.book.specs.Choose.{choose, refuse, first_of}
use Rattle.book.specs.Lists.{keep_if}
use Rattle.book.specs.Bytes.{u8_at, u16_at, u32_at, Bytes}
use Rattle.book.specs.Open.{version, open_refusal}
use Rattle.book.proofs.Choosing.{choose_case}
use Rattle.kinds.specs.Kinds.{kind_size, kind_at}
use Rattle.tree_layout.specs.Sizes.{fields_size, element_size, list_size, leaf_mark_size}
use Rattle.tree_layout.specs.Values.{Element, Mark, leaf_mark, inner_mark, first_distance, last_from, no_region, region_at}
use Rattle.tree_layout.specs.Decode.{element_at, read_list, list_part, read_lists, read_spans, read_marks, mark_size, record_size, size_at, read_region, read_regions}
use Rattle.tree_layout.specs.Decode.{junction_count, region_count, tree_yard_count, landmark_count, decode}
use Rattle.tree_layout.specs.Refusal.{between, all, records_ok, element_ok, comes, rises_from, list_rises, list_ok, mark_ok, children_ok, region_ok, values_ok, tree_layout_refusal}
use Rattle.tree_layout.proofs.Tests.{all-mem}
use Rattle.tree_leaf.specs.Leaf.{yards_in, names, once, in_range, named_by, first_list, agreeing, same_yards, leaf_ok}
use Rattle.tree.specs.Shape.{child_fits, siblings, subtree, shaped, tree_refusal}
use Rattle.tree.specs.Yards.{end_of, numbers, own_yards, leaf_yards_from, yards_below, tree_yards}
use Rattle.tree.proofs.Counts.{numbers-mem}
use Rattle.search_rules.specs.Rule.{nearest}
use Rattle.search_rules.specs.Instance.{Instance, size}
use Rattle.search_rules.specs.Bounds.{first_mark}
use Rattle.search_rules.specs.Held.{ranked}
use Rattle.search_rules.specs.Keeping.{front}
use Rattle.search_rules.specs.Run.{answer}
use Rattle.search_rules.specs.Facts.{Triangle, SoundInstance}
use Rattle.search_rules.specs.Examples.{at, leaf_of}
use Rattle.search_rules.specs.WayExamples.{placed, ahead, regions, inwards}
use Rattle.search_rules.proofs.Trees.{Accepted, accepted-tree, well-formed, truth_of}
use Rattle.search_rules.proofs.Theorems.{one_way_ends, accepted-exact}
use Rattle.search_rules.proofs.Example.{list_true, span_true, region_true, all_true, list_true_lem, span_true_lem, holds_wanted, kind_true, kinds_true, true_kinds, below_all}

-- the tree's distances away, as a version 1 book: a version 3 book has those towards beside them
unfoldable pub ring_book : List ℕ
ring_book = 0 ∷ 0 ∷ 0 ∷ 105 ∷ 1 ∷ 0 ∷ 6 ∷ 0 ∷ 3 ∷ 0 ∷ 4 ∷ 2
    ∷ 0 ∷ 0 ∷ 0 ∷ 6 ∷ 2 ∷ 0 ∷ 4
    ∷ 0 ∷ 1 ∷ 0 ∷ 0 ∷ 0 ∷ 2 ∷ 0 ∷ 0 ∷ 0 ∷ 20
    ∷ 0 ∷ 3 ∷ 0 ∷ 0 ∷ 0 ∷ 0 ∷ 0 ∷ 0 ∷ 0 ∷ 18
    ∷ 0 ∷ 0 ∷ 0 ∷ 3 ∷ 0 ∷ 0 ∷ 2
    ∷ 0 ∷ 2 ∷ 0 ∷ 0 ∷ 0 ∷ 0 ∷ 0 ∷ 2 ∷ 0 ∷ 0 ∷ 0 ∷ 18 ∷ 0 ∷ 0
    ∷ 0 ∷ 1 ∷ 0 ∷ 0 ∷ 0 ∷ 2 ∷ 0 ∷ 2 ∷ 0 ∷ 0 ∷ 0 ∷ 20 ∷ 0 ∷ 0
    ∷ 0 ∷ 3 ∷ 0 ∷ 6 ∷ 0 ∷ 0 ∷ 2
    ∷ 0 ∷ 5 ∷ 0 ∷ 0 ∷ 0 ∷ 12 ∷ 0 ∷ 3 ∷ 0 ∷ 0 ∷ 0 ∷ 16 ∷ 0 ∷ 4
    ∷ 0 ∷ 3 ∷ 0 ∷ 0 ∷ 0 ∷ 0 ∷ 0 ∷ 3 ∷ 0 ∷ 0 ∷ 0 ∷ 4 ∷ 0 ∷ 4 ∷ []

unfoldable pub around : Instance
around = record {
  code = 0;
  rule = nearest 4;
  crews = 1 ∷ [];
  tree = decode ring_book;
  d = ahead;
  admits = λ r. true;
  wants = λ y. true;
  one_way = true;
  towards = λ r. get_or inwards r [];
  back = λ y. get_or (3 ∷ 0 ∷ 0 ∷ 9 ∷ 5 ∷ []) y 0;
}

-- its regions are those of the worked example
same-regions : around.tree.regions ≡ regions
unfolding around ring_book regions at leaf_of choose u8_at u16_at u32_at version kind_size kind_at fields_size element_size list_size leaf_mark_size leaf_mark inner_mark first_distance last_from
    element_at read_list list_part read_lists read_spans read_marks mark_size record_size size_at read_region read_regions junction_count region_count tree_yard_count landmark_count decode
same-regions = refl

bytes : Bytes ring_book
unfolding Bytes ring_book all
bytes v = below_all 256 ring_book (omega arith) tt v

accepted : tree_refusal ring_book ≡ 0
unfolding ring_book choose refuse first_of u8_at u16_at u32_at version open_refusal kind_size kind_at fields_size element_size list_size leaf_mark_size leaf_mark inner_mark first_distance last_from
    element_at read_list list_part read_lists read_spans read_marks mark_size record_size size_at read_region read_regions junction_count region_count tree_yard_count landmark_count decode between all
    records_ok element_ok comes rises_from list_rises list_ok mark_ok children_ok region_ok values_ok tree_layout_refusal no_region region_at names once in_range named_by first_list same_yards agreeing
    leaf_ok child_fits siblings subtree shaped tree_refusal
accepted = refl

tree-accepted : Accepted around.tree
unfolding around
tree-accepted = accepted-tree ring_book bytes accepted

-- ---- the distance

on_the_ring : (v : ℕ) → placed v < 21
unfolding placed all
on_the_ring v = below_all 21 (0 ∷ 1 ∷ 3 ∷ 6 ∷ 10 ∷ 15 ∷ []) (omega arith) tt v

-- from u on to w is no more than from u to v and on to w
metric : Triangle around
unfolding around ahead
metric = record {
  triangle = λ u v w a b c.
      let p = on_the_ring u in
      let q = on_the_ring v in
      let r = on_the_ring w in
      choose_case (λ x. x ≤ ahead u v + ahead v w) (leb (placed u) (placed w))
      (λ s. choose_case (λ x. placed w - placed u ≤ x + ahead v w) (leb (placed u) (placed v))
      (λ t. choose_case (λ x. placed w - placed u ≤ (placed v - placed u) + x) (leb (placed v) (placed w)) (λ z. omega (arith, leb→le)) (λ z. omega (arith, leb→le)))
      (λ t. choose_case (λ x. placed w - placed u ≤ (21 + placed v - placed u) + x) (leb (placed v) (placed w)) (λ z. omega (arith, leb→le)) (λ z. omega (arith, leb→le, nleb→lt))))
      (λ s. choose_case (λ x. 21 + placed w - placed u ≤ x + ahead v w) (leb (placed u) (placed v))
      (λ t. choose_case (λ x. 21 + placed w - placed u ≤ (placed v - placed u) + x) (leb (placed v) (placed w)) (λ z. absurd (omega (arith, leb→le, nleb→lt))) (λ z. omega (arith, leb→le, nleb→lt)))
      (λ t. choose_case (λ x. 21 + placed w - placed u ≤ (21 + placed v - placed u) + x) (leb (placed v) (placed w)) (λ z. omega (arith, leb→le)) (λ z. omega (arith, nleb→lt))));
}

near : (u v : ℕ) → ahead u v ≤ 67042305
unfolding ahead
near u v = choose_case (λ x. x ≤ 67042305) (leb (placed u) (placed v)) (λ t. omega (arith, on_the_ring v)) (λ t. omega (arith, on_the_ring v))

-- ---- true numbers, away and towards

true_numbers : T (all_true around)
unfolding all_true region_true list_true span_true around ahead placed all numbers yards_below leaf_yards_from own_yards yards_in end_of subtree siblings child_fits leaf_ok agreeing same_yards named_by
    in_range once names first_list ring_book choose u8_at u16_at u32_at version kind_size kind_at fields_size element_size list_size leaf_mark_size leaf_mark inner_mark first_distance last_from no_region
    region_at element_at read_list list_part read_lists read_spans read_marks mark_size record_size size_at read_region read_regions junction_count region_count tree_yard_count landmark_count decode
true_numbers = tt

kinds_true_lem : T (kinds_true around)
unfolding kinds_true kind_true holds_wanted keep_if around all numbers yards_below leaf_yards_from own_yards yards_in end_of subtree siblings child_fits leaf_ok agreeing same_yards named_by in_range once
    names first_list ring_book choose u8_at u16_at u32_at version kind_size kind_at fields_size element_size list_size leaf_mark_size leaf_mark inner_mark first_distance last_from no_region region_at
    element_at read_list list_part read_lists read_spans read_marks mark_size record_size size_at read_region read_regions junction_count region_count tree_yard_count landmark_count decode
kinds_true_lem = tt

module _ (i : Instance) where
  -- a leaf's first landmark is so far from its yards as they say
  unfoldable back_true : ℕ → Bool
  back_true r = let m = first_mark (region_at i.tree.regions r).marks in
      all (λ e. eqb (i.back e.yard) (i.d e.yard m.place)) m.list

  -- no yard below a region is further from its landmarks than their greatest distance towards, and these are junctions
  unfoldable in_true : ℕ → Mark → Bool
  in_true r m = all (λ y. leb (i.d y m.place) m.greatest) (yards_below i.tree.regions r)

  unfoldable inwards_true : ℕ → Bool
  inwards_true r = all (in_true r) (i.towards r)

  unfoldable inwards_there : ℕ → Bool
  inwards_there r = all (λ m. ltb m.place i.tree.junctions) (i.towards r)

backs_true : T (all (back_true around) (numbers 3 0))
unfolding back_true first_mark around ahead placed all numbers ring_book choose u8_at u16_at u32_at version kind_size kind_at fields_size element_size list_size leaf_mark_size leaf_mark inner_mark
    first_distance last_from no_region region_at element_at read_list list_part read_lists read_spans read_marks mark_size record_size size_at read_region read_regions junction_count region_count
    tree_yard_count landmark_count decode
backs_true = tt

-- of regions 0, 1 and 2; a number beyond them has no landmark towards which distances lead
by_number : (P : ℕ → Mark → Type 0) → ((r : ℕ) → r < 3 → (m : Mark) → Mem m (around.towards r) → P r m) → (r : ℕ) (m : Mark) → Mem m (around.towards r) → P r m
unfolding around inwards
by_number P k zero m e = k zero (omega arith) m e
by_number P k (suc zero) m e = k (suc zero) (omega arith) m e
by_number P k (suc (suc zero)) m e = k (suc (suc zero)) (omega arith) m e
by_number P k (suc (suc (suc r))) m e = absurd (not-nil e)

inwards_true_lem : (r : ℕ) (m : Mark) → Mem m (around.towards r) → T (in_true around r m)
unfolding in_true inwards_true around inwards at ahead placed all numbers yards_below leaf_yards_from own_yards yards_in end_of subtree siblings child_fits leaf_ok agreeing same_yards named_by in_range
    once names first_list ring_book choose u8_at u16_at u32_at version kind_size kind_at fields_size element_size list_size leaf_mark_size leaf_mark inner_mark first_distance last_from no_region region_at
    element_at read_list list_part read_lists read_spans read_marks mark_size record_size size_at read_region read_regions junction_count region_count tree_yard_count landmark_count decode
inwards_true_lem = by_number (λ r m. T (in_true around r m))
    (λ r h m e. all-mem (in_true around r) (around.towards r) (all-mem (inwards_true around) (numbers 3 0) tt r (numbers-mem 3 0 r (omega arith) (omega arith))) m e)

inwards-there : (r : ℕ) (m : Mark) → Mem m (around.towards r) → m.place < 6
unfolding inwards_there around inwards at all numbers leaf_mark inner_mark first_distance last_from junction_count decode ring_book u16_at
inwards-there = by_number (λ r m. m.place < 6) (λ r h m e. ltb→lt m.place 6
    (all-mem (λ (x : Mark). ltb x.place 6) (around.towards r) (all-mem (inwards_there around) (numbers 3 0) tt r (numbers-mem 3 0 r (omega arith) (omega arith))) m e))

crews-there : (q : ℕ) → Mem q (1 ∷ []) → q < 6
crews-there q (mathlib.Core.List.Memᴰ.tail x4) = elim x4 [ ]
crews-there q (head e) = rw e (omega arith)

three : length around.tree.regions ≡ 3
unfolding regions
three = rw same-regions refl

back_is : (r : ℕ) (e : Element) → r < length around.tree.regions → Mem e (first_mark (region_at around.tree.regions r).marks).list
    → around.back e.yard ≡ ahead e.yard (first_mark (region_at around.tree.regions r).marks).place
unfolding back_true around
back_is r e h k = eqb→eq _ _ (all-mem _ (first_mark (region_at around.tree.regions r).marks).list
    (all-mem (back_true around) (numbers 3 0) backs_true r (numbers-mem 3 0 r (omega arith) (omega (arith, three)))) e k)

pub around_sound : SoundInstance around
unfolding around in_true junction_count decode ring_book u16_at
around_sound = record {
  well = well-formed around tree-accepted crews-there (omega arith) (λ u v h k. near u v) inwards-there;
  metric = metric;
  symmetric = λ two. absurd two;
  truth = truth_of around tree-accepted (λ r h c m k. list_true_lem around tree-accepted true_numbers r h m k) (λ r h m k. span_true_lem around tree-accepted true_numbers r
      h m k) (true_kinds around kinds_true_lem) (λ one r e h c k. back_is r e h k)
      (λ r m y k j. leb→le (ahead y m.place) m.greatest (all-mem (λ y. leb (ahead y m.place) m.greatest) _ (inwards_true_lem r m k) y j));
}

-- three regions and four yards settle, and all four are listed
wanted_are : keep_if around.wants (tree_yards around.tree) ≡ 2 ∷ 0 ∷ 3 ∷ 4 ∷ []
unfolding keep_if around all numbers tree_yards leaf_yards_from own_yards yards_in first_list ring_book choose u8_at u16_at u32_at version kind_size kind_at fields_size element_size list_size leaf_mark_size
    leaf_mark inner_mark first_distance last_from no_region region_at element_at read_list list_part read_lists read_spans read_marks mark_size record_size size_at read_region read_regions junction_count
    region_count tree_yard_count landmark_count decode
wanted_are = refl

around_one : T around.one_way
unfolding around
around_one = tt

pub around_settles : T (answer around 7).settled
unfolding size
around_settles =
    let four : length (keep_if around.wants (tree_yards around.tree)) ≡ 4 = rw wanted_are refl in
    one_way_ends around tree-accepted 7 around_one around_sound.well (omega (arith, three, four))

pub around_lists : (answer around 7).listed ≡ front around.rule (ranked around (2 ∷ 0 ∷ 3 ∷ 4 ∷ []))
around_lists = rw (← wanted_are) (accepted-exact around tree-accepted 7 around_sound around_settles)
