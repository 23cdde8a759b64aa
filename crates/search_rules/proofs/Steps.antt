-- The definitions of a step, one equation for each, for those who compute them. Assumes nothing.
use mathlib.Core.Path.{◌≡◌, refl, ap, ◌∙◌}
use mathlib.Core.Bool.{true, false, not, ◌||◌}
use mathlib.Core.List.{List, [], ◌∷◌}
use Prim.Native.Nat.{ℕ, ◌≤◌, ◌<◌, min, max}
use native.Mathlib.Omega.{arith}
use lib.ListN.{length, get_or, set, replicate}
use lib.Dec.{T, ltb, eqb, lt→ltb, ltb→lt, not_T}
use Rattle.book.specs.Choose.{choose}
use Rattle.book.specs.Lists.{keep_if}
use Rattle.book.proofs.Choosing.{choose_yes, choose_no, T_true}
use Rattle.tree_layout.specs.Values.{Element, Mark, region_at}
use Rattle.tree.specs.Yards.{children_of}
use Rattle.search_rules.specs.Instance.{Instance, size, children, leaf}
use Rattle.search_rules.specs.Bounds.{bound, chosen, total, furthest, yard_bound}
use Rattle.search_rules.specs.Queue.{unqueued, queued, word_at, pick}
use Rattle.search_rules.specs.Keeping.{keep_by, enough_by, keep, enough}
use Rattle.search_rules.specs.Held.{entry}
use Rattle.search_rules.specs.Step.{SearchState, no_element, again_key, next_place, next_f, queue_children, open_inner, queue_next, close_leaf}
use Rattle.search_rules.specs.Step.{open_leaf, open_whole, take_leaf}
use Rattle.search_rules.specs.Step.{take_region, take_yard, next_region, next_yard, least_key, step, settled, root_keys, start_search}
use Rattle.search_rules.proofs.Queue.{small-queued, queued-small}

-- ---- the queue's least

-- what is queued, and what is not
pub queued_yes : (w : ℕ) → w < unqueued → queued w ≡ true
queued_yes w h = T_true (queued w) (small-queued w h)

pub queued_no : queued unqueued ≡ false
unfolding queued
queued_no = refl

-- a leaf's key when it is queued again
pub again_by : (first next : ℕ) → again_key first next ≡ choose (queued next) (max first next) unqueued
unfolding again_key
again_by first next = refl

pub again_none : (first : ℕ) → again_key first unqueued ≡ unqueued
unfolding again_key
again_none first = rw queued_no (choose_no false (max first unqueued) unqueued tt)

module _ (i : Instance) where
  pub size_is : size i ≡ length i.tree.regions
  unfolding size
  size_is = refl

  pub children-is : (r : ℕ) → children i r ≡ keep_if i.admits (children_of i.tree.regions r)
  unfolding children
  children-is r = refl

  pub leaf-is : (r : ℕ) → leaf i r ≡ eqb (region_at i.tree.regions r).children 0
  unfolding leaf
  leaf-is r = refl

  pub next_region_is : (st : SearchState) → next_region i st ≡ pick st.region_keys (size i)
  unfolding next_region
  next_region_is st = refl

  pub next-yard-is : (st : SearchState) → next_yard i st ≡ pick st.yard_keys i.tree.junctions
  unfolding next_yard
  next-yard-is st = refl

  pub least_key_is : (st : SearchState) → least_key i st ≡ min (word_at st.region_keys (next_region i st)) (word_at st.yard_keys (next_yard i st))
  unfolding least_key
  least_key_is st = refl

  pub settled_is : (st : SearchState) → settled i st
      ≡ (not (queued (least_key i st)) || enough_by i.rule st.held (least_key i st))
  unfolding settled enough
  settled_is st = refl

  -- ---- a step that takes a yard, or a region

  module _ (st : SearchState) (r y a b : ℕ) (er : r ≡ next_region i st) (ey : y ≡ next_yard i st) (ea : a ≡ word_at st.region_keys r) (eb : b
      ≡ word_at st.yard_keys y) where
    abbrev Taken : SearchState
    Taken = choose (ltb b a) (take_yard i st y) (take_region i st r a)

    step_is : step i st ≡ choose (queued (min a b)) Taken st
    unfolding step
    step_is = rw (eb, ea, ey, er) refl

    pub step-yard : b < a → a ≤ unqueued → step i st ≡ take_yard i st y
    step-yard h k = step_is ∙ (choose_yes (queued (min a b)) Taken st (small-queued (min a b) (omega arith))
        ∙ choose_yes (ltb b a) (take_yard i st y) (take_region i st r a) (lt→ltb b a h))

    pub step_region : a ≤ b → a < unqueued → step i st ≡ take_region i st r a
    step_region h k = step_is ∙ (choose_yes (queued (min a b)) Taken st (small-queued (min a b) (omega arith))
        ∙ choose_no (ltb b a) (take_yard i st y) (take_region i st r a) (not_T (ltb b a) (λ t. omega (arith, ltb→lt b a t))))

  pub take-leaf : (st : SearchState) (r a : ℕ) → T (not i.one_way) → T (leaf i r) → take_region i st r a ≡ open_leaf i st r
  unfolding take_region take_leaf
  take-leaf st r a two t = choose_yes (leaf i r) _ (open_inner i st r a) t ∙ choose_no i.one_way (open_whole i st r) (open_leaf i st r) two

  pub take_inner : (st : SearchState) (r a : ℕ) → T (not (leaf i r)) → take_region i st r a ≡ open_inner i st r a
  unfolding take_region
  take_inner st r a t = choose_no (leaf i r) (take_leaf i st r) (open_inner i st r a) t

  -- ---- what is taken

  pub entry-is : (y : ℕ) → entry i y ≡ record { distance = total i y; furthest = furthest i y; yard = y }
  unfolding entry
  entry-is y = refl

  pub take-yard-is : (st : SearchState) (y : ℕ) → take_yard i st y ≡ record {
    region_keys = st.region_keys;
    yard_keys = set st.yard_keys y unqueued;
    firsts = st.firsts;
    gone = st.gone;
    held = keep_by i.rule (entry i y) st.held;
    measured = y ∷ st.measured;
  }
  unfolding take_yard keep
  take-yard-is st y = refl

  pub queue-none : (parent : ℕ) (ws : List ℕ) → queue_children i parent [] ws ≡ ws
  unfolding queue_children
  queue-none parent ws = refl

  pub queue-more : (parent c : ℕ) (cs ws : List ℕ) → queue_children i parent (c ∷ cs) ws ≡ queue_children i parent cs (set ws c (max (bound i c) parent))
  unfolding queue_children
  queue-more parent c cs ws = refl

  pub open_inner-is : (st : SearchState) (r a : ℕ) → open_inner i st r a ≡ record {
    region_keys = queue_children i a (children i r) (set st.region_keys r unqueued);
    yard_keys = st.yard_keys;
    firsts = queue_children i a (children i r) st.firsts;
    gone = st.gone;
    held = st.held;
    measured = st.measured;
  }
  unfolding open_inner
  open_inner-is st r a = refl

  module _ (st : SearchState) (r : ℕ) (m : Mark) (e : Element) (em : m ≡ chosen i r) (ee : e ≡ get_or m.list (next_place i st.gone m) no_element) where
    pub open_leaf_on : next_f i st.gone m < unqueued → open_leaf i st r ≡ record {
      region_keys = set st.region_keys r (again_key (word_at st.firsts r) (next_f i (set st.gone e.yard true) m));
      yard_keys = set st.yard_keys e.yard (max (yard_bound i m e) (word_at st.firsts r));
      firsts = st.firsts;
      gone = set st.gone e.yard true;
      held = st.held;
      measured = st.measured;
    }
    unfolding open_leaf queue_next
    open_leaf_on h = rw (ee, em) (choose_yes (queued (next_f i st.gone (chosen i r))) _ _ (small-queued (next_f i st.gone (chosen i r)) (rw (← em) h)))

  -- none remains
  pub open_leaf_off : (st : SearchState) (r : ℕ) (m : Mark) → m ≡ chosen i r → unqueued ≤ next_f i st.gone m → open_leaf i st r ≡ record {
    region_keys = set st.region_keys r unqueued;
    yard_keys = st.yard_keys;
    firsts = st.firsts;
    gone = st.gone;
    held = st.held;
    measured = st.measured;
  }
  unfolding open_leaf close_leaf
  open_leaf_off st r m em h = choose_no (queued (next_f i st.gone (chosen i r))) _ _
      (not_T (queued (next_f i st.gone (chosen i r))) (λ t. omega (arith, queued-small (next_f i st.gone (chosen i r)) t, ap (next_f i st.gone) em)))

  -- ---- the start

  pub start_is : start_search i ≡ record {
    region_keys = root_keys i;
    yard_keys = replicate i.tree.junctions unqueued;
    firsts = root_keys i;
    gone = replicate i.tree.junctions false;
    held = [];
    measured = [];
  }
  unfolding start_search
  start_is = refl

  -- the root may enter the queue, or not
  pub root_in : T (i.admits 0) → root_keys i ≡ set (replicate (size i) unqueued) 0 (bound i 0)
  unfolding root_keys
  root_in t = choose_yes (i.admits 0) (set (replicate (size i) unqueued) 0 (bound i 0)) (replicate (size i) unqueued) t

  pub root_out : T (not (i.admits 0)) → root_keys i ≡ replicate (size i) unqueued
  unfolding root_keys
  root_out t = choose_no (i.admits 0) (set (replicate (size i) unqueued) 0 (bound i 0)) (replicate (size i) unqueued) t
