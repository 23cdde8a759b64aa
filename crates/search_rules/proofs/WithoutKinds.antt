-- A search that wants each yard, and lets each region enter the queue, is the search without kinds; so is that of a version 1 tree book. Assumes nothing.
use mathlib.Core.Path.{◌≡◌, refl, sym, ap, ◌∙◌}
use mathlib.Core.Bool.{Bool, true}
use mathlib.Core.List.Memᴰ.{head}
use mathlib.Core.List.Memᴰ.{not-nil}
use mathlib.Core.List.Memᴰ.{tail}
use mathlib.Core.List.{List, [], ◌∷◌, Memᴰ as Mem}
use Prim.Native.Nat.{ℕ, zero, suc, max, min, ◌%◌, ◌≤◌, ◌<◌}
use native.Mathlib.Decide.{dec_lt}
use native.Mathlib.Omega.{arith}
use lib.ListN.{length, get_or, set}
use lib.Bits.{bit_and, and_mask}
use lib.Dec.{T, ltb, eqb→eq}
use Rattle.book.specs.Choose.{choose}
use Rattle.book.proofs.Choosing.{T_true}
use Rattle.search_rules.proofs.Choices.{choose-two}
use Rattle.book.proofs.Lists.{kept-all}
use Rattle.kinds.specs.Kinds.{shares}
use Rattle.kinds.proofs.Laws.{some-shares}
use Rattle.tree_layout.specs.Values.{Element, Mark, Region, region_at}
use Rattle.tree_layout.specs.Decode.{decode}
use Rattle.tree_layout.proofs.Formed.{decode-formed, at_mem}
use Rattle.tree_layout.proofs.Leasts.{marks_out}
use Rattle.tree_leaf.proofs.Named.{yards_of_lem}
use Rattle.tree.specs.Shape.{tree_refusal}
use Rattle.tree.specs.Yards.{children_of}
use Rattle.tree.proofs.Members.{no_children}
use Rattle.tree.proofs.Ranges.{below-tree}
use Rattle.tree.proofs.Theorems.{layout-there, tree-facts, accepted-whole}
use Rattle.tree.proofs.YardKinds.{accepted-any}
use Rattle.search_rules.specs.Rule.{Asking}
use Rattle.search_rules.specs.Books.{search_of}
use Rattle.search_rules.specs.Instance.{Instance, without_kinds, size, children, marks, leaf}
use Rattle.search_rules.specs.Bounds.{table_at, lower, upper, over, total, furthest, mark_bound, bound, weight, best, best_of, chosen, list_abs_diff, f, yard_bound}
use Rattle.search_rules.specs.Bounds.{two_way_bound, lower_to, upper_from, away_bound, towards_bound, one_way_bound, picked, two_way_yard_bound, one_way_yard_bound}
use Rattle.search_rules.specs.Held.{entry}
use Rattle.search_rules.specs.Keeping.{keep, enough}
use Rattle.search_rules.specs.Queue.{queued, word_at, pick}
use Rattle.search_rules.specs.Step.{SearchState, no_element, again_key, passed, waiting, next_place, next_f, queue_children, open_inner, queue_next, close_leaf, open_leaf, take_region}
use Rattle.search_rules.specs.Step.{take_yard, next_region, next_yard, least_key, step, settled, root_keys, start_search}
use Rattle.search_rules.specs.Run.{Outcome, advance, run, report, answer}
use Rattle.search_rules.proofs.Bounds.{chosen-mem, chosen_none}
use Rattle.search_rules.specs.Step.{open_whole, queue_wanted, queue_yard, take_leaf}

module _ (i : Instance) (root : T (i.admits 0)) (enter : (r c : ℕ) → Mem c (children_of i.tree.regions r) → T (i.admits c))
    (wanted : (r : ℕ) → T (leaf i r) → (e : Element) → Mem e (chosen i r).list → T (i.wants e.yard)) where
  abbrev all : Instance
  all = without_kinds i

  -- ---- a leaf

  same-waiting : (gone : List Bool) (m : Mark) (es : List Element) → ((e : Element) → Mem e es → T (i.wants e.yard))
      → waiting i gone m es ≡ waiting all gone m es
  unfolding waiting passed f over list_abs_diff
  same-waiting gone m [] h = refl
  same-waiting gone m (e ∷ es) h = rw (T_true (i.wants e.yard) (h e (head refl)), same-waiting gone m es (λ g k. h g (tail k))) refl

  same_place : (gone : List Bool) (r : ℕ) → T (leaf i r) → next_place i gone (chosen i r) ≡ next_place all gone (chosen i r)
  unfolding next_place
  same_place gone r l = let m = chosen i r in ap (λ (ws : List ℕ). pick ws (length m.list)) (same-waiting gone m m.list (wanted r l))

  same_next : (gone : List Bool) (r : ℕ) → T (leaf i r) → next_f i gone (chosen i r) ≡ next_f all gone (chosen i r)
  unfolding next_f
  same_next gone r l =
      let m = chosen i r in
      ap (λ (ws : List ℕ). word_at ws (next_place i gone m)) (same-waiting gone m m.list (wanted r l))
      ∙ ap (λ (p : ℕ). word_at (waiting all gone m m.list) p) (same_place gone r l)

  -- a leaf that queues its yards all at once
  same-wanted : (st : SearchState) (first : ℕ) (m : Mark) (es : List Element) → ((e : Element) → Mem e es → T (i.wants e.yard))
      → queue_wanted i st first m es ≡ queue_wanted all st first m es
  unfolding queue_wanted queue_yard yard_bound two_way_yard_bound one_way_yard_bound list_abs_diff over lower lower_to table_at marks
  same-wanted st first m [] h = refl
  same-wanted st first m (e ∷ es) h = rw (T_true (i.wants e.yard) (h e (head refl))) (same-wanted (choose true (queue_yard i st first m e) st) first m es (λ g k. h g (tail k)))

  same_whole : (st : SearchState) (r : ℕ) → T (leaf i r) → open_whole i st r ≡ open_whole all st r
  unfolding open_whole close_leaf chosen picked best_of best weight lower table_at marks
  same_whole st r l = same-wanted (close_leaf i st r) (word_at st.firsts r) (chosen i r) (chosen i r).list (wanted r l)

  same-leaf : (st : SearchState) (r : ℕ) → T (leaf i r) → open_leaf i st r ≡ open_leaf all st r
  unfolding open_leaf queue_next close_leaf chosen picked best_of best weight lower table_at marks yard_bound two_way_yard_bound one_way_yard_bound lower_to list_abs_diff over
  same-leaf st r l = λ j.
      let m = chosen i r in
      let e = get_or m.list (same_place st.gone r l j) no_element in
      let gone = set st.gone e.yard true in
      choose (queued (same_next st.gone r l j)) (record {
        region_keys = set st.region_keys r (again_key (word_at st.firsts r) (same_next gone r l j));
        yard_keys = set st.yard_keys e.yard (max (yard_bound i m e) (word_at st.firsts r));
        firsts = st.firsts;
        gone = gone;
        held = st.held;
        measured = st.measured;
      }) (close_leaf i st r)

  -- ---- an inner region

  same-children : (r : ℕ) → children i r ≡ children all r
  unfolding children
  same-children r =
      let cs = children_of i.tree.regions r in
      kept-all i.admits cs (enter r) ∙ sym (kept-all all.admits cs (λ c k. tt))

  same-inner : (st : SearchState) (r a : ℕ) → open_inner i st r a ≡ open_inner all st r a
  unfolding open_inner queue_children bound two_way_bound one_way_bound away_bound towards_bound upper_from lower_to over mark_bound lower upper table_at marks
  same-inner st r a = rw (same-children r) refl

  -- ---- a step, and a run

  same_region : (st : SearchState) (r a : ℕ) → take_region i st r a ≡ take_region all st r a
  unfolding take_region leaf take_leaf
  same_region st r a = choose-two ◌≡◌ (leaf i r) (λ l. choose-two ◌≡◌ i.one_way (λ one. same_whole st r l) (λ two. same-leaf st r l)) (λ t. same-inner st r a)

  same_step : (st : SearchState) → step i st ≡ step all st
  unfolding step next_region next_yard size take_yard keep entry total over furthest
  same_step st = λ j.
      let r = next_region i st in
      let y = next_yard i st in
      let a = word_at st.region_keys r in
      let b = word_at st.yard_keys y in
      choose (queued (min a b)) (choose (ltb b a) (take_yard i st y) (same_region st r a j)) st

  same_start : start_search i ≡ start_search all
  unfolding start_search root_keys size bound two_way_bound one_way_bound away_bound towards_bound upper_from lower_to over mark_bound lower upper table_at marks
  same_start = rw (T_true (i.admits 0) root) refl

  same-run : (steps : ℕ) → run i steps ≡ run all steps
  unfolding run advance settled least_key next_region next_yard size enough
  same-run zero = λ j. record { state = same_start j; taken = 0 }
  same-run (suc steps) = λ j.
      let o = same-run steps j in
      choose (settled i o.state) o (record { state = same_step o.state j; taken = suc o.taken })

  -- so is its answer
  same_answer : (limit : ℕ) → answer i limit ≡ answer all limit
  unfolding answer report settled least_key next_region next_yard size enough
  same_answer limit = ap (λ (o : Outcome). report i o) (same-run limit)

-- ---- a version 1 tree book

-- any wanted byte shares a bit with 255
pub any-kind : (w : ℕ) → 1 ≤ w → w < 256 → T (shares w 255)
any-kind w h l =
    let e : bit_and w 255 ≡ w % 256 = and_mask w 8 in
    some-shares w 255 (omega (arith, e))

module _ (road tree : List ℕ) (a : Asking) (crews : List ℕ) (ok : tree_refusal tree ≡ 0) (v : (decode tree).version ≡ 1) (some : 1 ≤ a.wanted)
    (small : a.wanted < 256) where
  abbrev i : Instance
  i = search_of road tree a crews

  abbrev rs : List Region
  rs = (decode tree).regions

  -- each region may enter the queue
  enters : (r : ℕ) → r < length rs → T (i.admits r)
  unfolding search_of
  enters r h = rw ((decode-formed tree (region_at rs r) (at_mem rs r h)).any v) (any-kind a.wanted some small)

  child_enters : (r c : ℕ) → Mem c (children_of rs r) → T (i.admits c)
  child_enters r c k = go (dec_lt r (length rs))
    where
      go : Dec (r < length rs) → T (i.admits c)
      go (yes h) = enters c ((accepted-whole tree ok).regions.above r c h k).1
      go (no h) = absurd (not-nil (rw (no_children rs r (omega arith)) at k))

  -- each yard in a leaf's list is wanted
  leaf-marked : (r : ℕ) (e : Element) → Mem e (chosen i r).list → Mem (chosen i r) (marks i r)
  leaf-marked r e k = chosen-mem i r (λ n. not-nil (rw (chosen_none i r n) at k))

  leaf-wanted : (r : ℕ) → T (leaf i r) → (e : Element) → Mem e (chosen i r).list → T (i.wants e.yard)
  unfolding search_of leaf marks
  leaf-wanted r l e k = go (dec_lt r (length rs))
    where
      go : Dec (r < length rs) → T (i.wants e.yard)
      go (yes h) =
          let m = chosen i r in
          let c = eqb→eq (region_at rs r).children 0 l in
          let b = ((accepted-whole tree ok).holdings.listed r h c m (leaf-marked r e k) e.yard).1 (yards_of_lem m.list e k) in
          rw (accepted-any tree ok v e.yard (below-tree tree ok r e.yard h b)) (any-kind a.wanted some small)
      go (no h) = absurd (not-nil (rw (marks_out rs r (omega arith)) at (leaf-marked r e k)))

  root_enters : T (i.admits 0)
  root_enters = enters 0 (layout-there tree (tree-facts tree ok).layout)

  pub version_1_run : (steps : ℕ) → run i steps ≡ run (without_kinds i) steps
  unfolding search_of
  version_1_run = same-run i root_enters child_enters leaf-wanted

  pub version_1_answer : (limit : ℕ) → answer i limit ≡ answer (without_kinds i) limit
  unfolding search_of
  version_1_answer = same_answer i root_enters child_enters leaf-wanted
