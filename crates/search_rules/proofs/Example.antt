-- The hypotheses can be met: they hold of a tree of five regions on net N of whose yards 3 isn't wanted, so that the theorems say something of it. Assumes
-- nothing.
use mathlib.Core.Path.{◌≡◌, refl, ap}
use mathlib.Core.Logic.{◌⊎◌, inl, inr}
use mathlib.Core.Bool.{Bool, true, false, not, ◌&&◌}
use mathlib.Core.List.Memᴰ.{head}
use mathlib.Core.List.Memᴰ.{not-nil}
use mathlib.Core.List.Memᴰ.{tail}
use mathlib.Core.List.{List, [], ◌∷◌, Memᴰ as Mem}
use Prim.Native.Nat.{ℕ, zero, suc, ◌≤◌, ◌<◌}
use native.Mathlib.Omega.{arith}
use lib.ListN.{length, get_or}
use lib.Dec.{T, ltb, leb, eqb, lt→ltb, ltb→lt, leb→le, eqb→eq, T_not}
use Rattle.book.specs.Choose.{choose}
use Rattle.book.specs.Lists.{keep_if}
use Rattle.book.specs.Bytes.{u8_at, u16_at, u32_at, Bytes}
use Rattle.book.proofs.Choosing.{and_left, and_right, choose_yes, choose_no, T-split}
use Rattle.book.proofs.Lists.{get_d_mem, kept_from, kept_in}
use Rattle.book.specs.Open.{version}
use Rattle.kinds.specs.Kinds.{kind_size, kind_at}
use Rattle.tree_layout.specs.Sizes.{fields_size, element_size, list_size, leaf_mark_size}
use Rattle.tree_layout.specs.Values.{Element, Mark, leaf_mark, inner_mark, first_distance, last_from, no_region, region_at}
use Rattle.tree_layout.specs.Decode.{element_at, read_list, list_part, read_lists, read_spans, read_marks, mark_size, record_size, size_at, read_region, read_regions}
use Rattle.tree_layout.specs.Decode.{junction_count, region_count, tree_yard_count, landmark_count, decode}
use Rattle.tree_layout.specs.Refusal.{all}
use Rattle.tree_layout.proofs.Tests.{all-mem}
use Rattle.tree_layout.proofs.Vectors.{five_regions}
use Rattle.tree_leaf.specs.Leaf.{yards_in, names, once, in_range, named_by, first_list, agreeing, same_yards, leaf_ok}
use Rattle.tree.specs.Shape.{child_fits, siblings, subtree, tree_refusal}
use Rattle.tree.specs.Yards.{end_of, numbers, own_yards, leaf_yards_from, yards_below, tree_yards, sum_from, one_inner, inners}
use Rattle.tree.proofs.Counts.{numbers-mem}
use Rattle.tree.proofs.Vectors.{row0}
use Rattle.search_rules.specs.Rule.{nearest}
use Rattle.search_rules.specs.Instance.{Instance}
use Rattle.search_rules.specs.Keeping.{front}
use Rattle.search_rules.specs.Bounds.{abs_diff}
use Rattle.search_rules.specs.Held.{ranked}
use Rattle.search_rules.specs.Run.{answer}
use Rattle.search_rules.specs.Facts.{Triangle, Symmetric, SoundInstance}
use Rattle.search_rules.proofs.Trees.{Accepted, TrueKinds, accepted-tree, well-formed, truth_of}
use Rattle.search_rules.proofs.Theorems.{sound_ends, accepted-exact}

-- ---- true numbers, by a test

module _ (i : Instance) where
  -- a list's distances are those from its landmark
  unfoldable pub list_true : Mark → Bool
  list_true m = all (λ e. eqb e.distance (i.d m.place e.yard)) m.list

  -- a landmark's least and greatest enclose the distances to some yards
  unfoldable pub span_true : List ℕ → Mark → Bool
  span_true ys m = all (λ y. leb m.least (i.d m.place y) && leb (i.d m.place y) m.greatest) ys

  unfoldable pub region_true : ℕ → Bool
  region_true r = all (λ m. list_true m && span_true (yards_below i.tree.regions r) m) (region_at i.tree.regions r).marks

  unfoldable pub all_true : Bool
  all_true = all region_true (numbers (length i.tree.regions) 0)

  module _ (a : Accepted i.tree) (t : T all_true) (r : ℕ) (h : r < length i.tree.regions) (m : Mark) (k : Mem m (region_at i.tree.regions r).marks)
    where
      mark_true : T (list_true m && span_true (yards_below i.tree.regions r) m)
      unfolding all_true region_true
      mark_true = all-mem (λ m. list_true m && span_true (yards_below i.tree.regions r) m) (region_at i.tree.regions r).marks
          (all-mem region_true (numbers (length i.tree.regions) 0) t r (numbers-mem (length i.tree.regions) 0 r (omega arith) (omega arith))) m k

      pub list_true_lem : (e : Element) → Mem e m.list → e.distance ≡ i.d m.place e.yard
      unfolding list_true
      list_true_lem e j = eqb→eq e.distance (i.d m.place e.yard) (all-mem (λ e. eqb e.distance (i.d m.place e.yard)) m.list (and_left
          (list_true m) _ mark_true) e j)

      pub span_true_lem : (y : ℕ) → Mem y (yards_below i.tree.regions r) → (m.least ≤ i.d m.place y) × (i.d m.place y ≤ m.greatest)
      unfolding span_true
      span_true_lem y j =
          let x = all-mem (λ y. leb m.least (i.d m.place y)
          && leb (i.d m.place y) m.greatest) (yards_below i.tree.regions r) (and_right (list_true m) _ mark_true) y j in (
            leb→le m.least (i.d m.place y) (and_left (leb m.least (i.d m.place y)) _ x),
            leb→le (i.d m.place y) m.greatest (and_right (leb m.least (i.d m.place y)) _ x),
          )

-- ---- true kinds, by a test

module _ (i : Instance) where
  -- a yard below region r is wanted
  unfoldable pub holds_wanted : ℕ → Bool
  holds_wanted r = ltb 0 (length (keep_if i.wants (yards_below i.tree.regions r)))

  unfoldable pub kind_true : ℕ → Bool
  kind_true r = choose (i.admits r) (holds_wanted r) (not (holds_wanted r))

  unfoldable pub kinds_true : Bool
  kinds_true = all kind_true (numbers (length i.tree.regions) 0)

  module _ (t : T kinds_true) (r : ℕ) (h : r < length i.tree.regions) where
    kind_true_lem : T (kind_true r)
    unfolding kinds_true
    kind_true_lem = all-mem kind_true (numbers (length i.tree.regions) 0) t r (numbers-mem (length i.tree.regions) 0 r (omega arith) (omega arith))

    enters_by : T (holds_wanted r) → T (i.admits r)
    unfolding kind_true
    enters_by w = go (T-split (i.admits r))
      where
        go : T (i.admits r) ⊎ T (not (i.admits r)) → T (i.admits r)
        go (inl a) = a
        go (inr n) = absurd (T_not (holds_wanted r) (rw (choose_no (i.admits r) (holds_wanted r) (not (holds_wanted r)) n) at kind_true_lem) w)

    holds_by : T (i.admits r) → T (holds_wanted r)
    unfolding kind_true
    holds_by a = rw (choose_yes (i.admits r) (holds_wanted r) (not (holds_wanted r)) a) at kind_true_lem

  pub true_kinds : T kinds_true → TrueKinds i
  unfolding holds_wanted
  true_kinds t = record {
    admitted = λ r y h k w. enters_by t r h (lt→ltb 0 _ (positive (kept_in i.wants (yards_below i.tree.regions r) y k w)));
    wanted = λ r h a.
        let ys = keep_if i.wants (yards_below i.tree.regions r) in
        let k = get_d_mem ys 0 0 (ltb→lt 0 (length ys) (holds_by t r h a)) in
        let x = kept_from i.wants (yards_below i.tree.regions r) (get_or ys 0 0) k in
        (get_or ys 0 0, x.0, x.1);
  }
    where
      positive : {y : ℕ} {l : List ℕ} → Mem y l → 0 < length l
      positive (head e) = omega arith
      positive (tail k) = omega arith

-- ---- net N with leaf limit 1

-- every number of a list is below another, and so is 0
pub below_all : (n : ℕ) (l : List ℕ) → 0 < n → T (all (λ x. ltb x n) l) → (v : ℕ) → get_or l v 0 < n
unfolding all
below_all n [] h t v = h
below_all n (x ∷ l) h t zero = ltb→lt x n (and_left (ltb x n) _ t)
below_all n (x ∷ l) h t (suc v) = below_all n l h (and_right (ltb x n) _ t) v

unfoldable pub along : List ℕ
along = 0 ∷ 2 ∷ 5 ∷ 9 ∷ 10 ∷ []

unfoldable pub five : Instance
five = record {
  code = 0;
  rule = nearest 2;
  crews = 0 ∷ 2 ∷ [];
  tree = decode five_regions;
  d = λ u v. abs_diff (get_or along u 0) (get_or along v 0);
  admits = λ r. not (eqb r 3);
  wants = λ y. not (eqb y 3);
  one_way = false;
  towards = λ r. [];
  back = λ y. 0;
}

bytes : Bytes five_regions
unfolding Bytes five_regions all
bytes v = below_all 256 five_regions (omega arith) tt v

accepted : tree_refusal five_regions ≡ 0
accepted = ap (λ (l : List ℕ). get_or l 1 9) row0

tree-accepted : Accepted five.tree
unfolding five
tree-accepted = accepted-tree five_regions bytes accepted

metric : Triangle five
unfolding five abs_diff
metric = record { triangle = λ u v w a b c. omega arith }

symmetric : Symmetric five
unfolding five abs_diff
symmetric = record { turn = λ u v a b. omega arith }

near : (u v : ℕ) → abs_diff (get_or along u 0) (get_or along v 0) ≤ 67042305
unfolding along abs_diff all
near u v = omega (arith, below_all 11 along (omega arith) tt u, below_all 11 along (omega arith) tt v)

true_numbers : T (all_true five)
unfolding all_true region_true list_true span_true five along abs_diff all numbers yards_below leaf_yards_from own_yards yards_in end_of subtree siblings child_fits leaf_ok
    agreeing same_yards named_by in_range once names first_list five_regions choose u8_at u16_at u32_at version kind_size kind_at fields_size element_size list_size leaf_mark_size leaf_mark inner_mark first_distance last_from no_region region_at
    element_at read_list list_part read_lists read_spans read_marks mark_size record_size size_at read_region read_regions junction_count region_count tree_yard_count
    landmark_count decode
true_numbers = tt

five_kinds : T (kinds_true five)
unfolding kinds_true kind_true holds_wanted keep_if five all numbers yards_below leaf_yards_from own_yards yards_in end_of subtree siblings child_fits leaf_ok agreeing
    same_yards named_by in_range once names first_list five_regions choose u8_at u16_at u32_at version kind_size kind_at fields_size element_size list_size leaf_mark_size leaf_mark inner_mark first_distance last_from no_region region_at element_at
    read_list list_part read_lists read_spans read_marks mark_size record_size size_at read_region read_regions junction_count region_count tree_yard_count landmark_count
    decode
five_kinds = tt

crews-there : (q : ℕ) → Mem q (0 ∷ 2 ∷ []) → q < 5
crews-there q (tail (tail x8)) = elim x8 [ ]
crews-there q (head e) = rw e (omega arith)
crews-there q (tail (head e)) = rw e (omega arith)

pub five_sound : SoundInstance five
unfolding five junction_count decode five_regions u16_at
five_sound = record {
  well = well-formed five tree-accepted crews-there (omega arith) (λ u v h k. near u v) (λ r m k. absurd (not-nil k));
  metric = metric;
  symmetric = λ two. symmetric;
  truth = truth_of five tree-accepted (λ r h c m k. list_true_lem five tree-accepted true_numbers r h m k) (λ r h m k. span_true_lem five tree-accepted true_numbers r
      h m k) (true_kinds five five_kinds) (λ one. absurd one) (λ r m y k. absurd (not-nil k));
}

five_two : T (not five.one_way)
unfolding five
five_two = tt

-- two inner regions and twice two wanted yards settle, and these two are listed
wanted_are : keep_if five.wants (tree_yards five.tree) ≡ 1 ∷ 4 ∷ []
unfolding keep_if five all numbers tree_yards leaf_yards_from own_yards yards_in first_list five_regions choose u8_at u16_at u32_at version kind_size kind_at fields_size element_size list_size leaf_mark_size leaf_mark inner_mark first_distance last_from
    no_region region_at element_at read_list list_part read_lists read_spans read_marks mark_size record_size size_at read_region read_regions junction_count region_count
    tree_yard_count landmark_count decode
wanted_are = refl

five_inners : inners five.tree ≡ 2
unfolding inners sum_from one_inner five five_regions choose u8_at u16_at u32_at version kind_size kind_at fields_size element_size list_size leaf_mark_size leaf_mark inner_mark first_distance last_from no_region region_at element_at read_list
    list_part read_lists read_spans read_marks mark_size record_size size_at read_region read_regions junction_count region_count tree_yard_count landmark_count decode
five_inners = refl

pub five_settles : T (answer five 6).settled
five_settles = sound_ends five tree-accepted 6 five_two five_sound (omega (arith, five_inners, ap (λ (l : List ℕ). length l) wanted_are))

pub five_lists : (answer five 6).listed ≡ front five.rule (ranked five (1 ∷ 4 ∷ []))
five_lists = rw (← wanted_are) (accepted-exact five tree-accepted 6 five_sound five_settles)
