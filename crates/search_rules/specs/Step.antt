-- "Bounds and steps", its steps: a search's state, one step, and when it is settled. Assumes nothing: these are
-- definitions.
use Rattle.std.specs.Prelude.{Bool, true, false, not, ◌||◌, List, [], ◌∷◌, ℕ, min, max, length, get_or, set, replicate, ltb}
use Rattle.book.specs.Choose.{choose}
use Rattle.tree_layout.specs.Values.{Element, Mark}
use Rattle.search_rules.specs.Instance.{Instance, size, children, leaf}
use Rattle.search_rules.specs.Order.{Entry}
use Rattle.search_rules.specs.Bounds.{bound, chosen, f, yard_bound}
use Rattle.search_rules.specs.Queue.{unqueued, queued, word_at, pick}
use Rattle.search_rules.specs.Keeping.{keep, enough}

-- For each region and for each junction its word in the queue; for each region its first key (or `unqueued` before it
-- has one); for each junction whether its yard has left its leaf; the held yards; the measured yards, the last one
-- first.
pub record SearchState : Type 0 where
  pub region_keys : List ℕ
  pub yard_keys : List ℕ
  pub firsts : List ℕ
  pub gone : List Bool
  pub held : List Entry
  pub measured : List ℕ

-- yard y has left its leaf
unfoldable pub left : List Bool → ℕ → Bool
left gone y = get_or gone y false

-- what stands for the element of an empty list
unfoldable pub no_element : Element
no_element = record { distance = 0; yard = 0; kinds = 0 }

-- the leaf's key when it is queued again: "if any remain, itself, with the greater of its first key and the next f"
unfoldable pub again_key : ℕ → ℕ → ℕ
again_key first next = choose (queued next) (max first next) unqueued

module _ (i : Instance) where
  -- ---- a leaf's list

  -- yard y has left its leaf, or is not wanted: "A leaf, when taken, passes over its unwanted elements"
  unfoldable pub passed : List Bool → ℕ → Bool
  passed gone y = left gone y || not (i.wants y)

  -- for each element f, or `unqueued` if it is passed over
  unfoldable pub waiting : List Bool → Mark → List Element → List ℕ
  waiting gone m [] = []
  waiting gone m (e ∷ es) = choose (passed gone e.yard) unqueued (f i m e) ∷ waiting gone m es

  -- "Its list's elements leave by f .., then by place": the place of the next one
  unfoldable pub next_place : List Bool → Mark → ℕ
  next_place gone m = pick (waiting gone m m.list) (length m.list)

  -- its f, or `unqueued` if none remains
  unfoldable pub next_f : List Bool → Mark → ℕ
  next_f gone m = word_at (waiting gone m m.list) (next_place gone m)

  -- ---- what is taken

  -- "A region's key is the greater of this and its parent's key.": the children's words set
  unfoldable pub queue_children : ℕ → List ℕ → List ℕ → List ℕ
  queue_children parent [] ws = ws
  queue_children parent (c ∷ cs) ws = queue_children parent cs (set ws c (max (bound i c) parent))

  -- "An inner region queues its children.": region r, whose key is a
  unfoldable pub open_inner : SearchState → ℕ → ℕ → SearchState
  open_inner st r a = record {
    region_keys = queue_children a (children i r) (set st.region_keys r unqueued);
    yard_keys = st.yard_keys;
    firsts = queue_children a (children i r) st.firsts;
    gone = st.gone;
    held = st.held;
    measured = st.measured;
  }

  -- "A leaf queues its next yard and, if any remain, itself": leaf r, its first key, its landmark and its next element.
  -- "Its key is the greater of its bound and the leaf's first key."
  unfoldable pub queue_next : SearchState → ℕ → ℕ → Mark → Element → SearchState
  queue_next st r first m e =
      let gone' = set st.gone e.yard true in
      record {
        region_keys = set st.region_keys r (again_key first (next_f gone' m));
        yard_keys = set st.yard_keys e.yard (max (yard_bound i m e) first);
        firsts = st.firsts;
        gone = gone';
        held = st.held;
        measured = st.measured;
      }

  -- a leaf of which none remains leaves the queue: "A leaf without any wanted yard queues nothing when taken."
  unfoldable pub close_leaf : SearchState → ℕ → SearchState
  close_leaf st r = record {
    region_keys = set st.region_keys r unqueued;
    yard_keys = st.yard_keys;
    firsts = st.firsts;
    gone = st.gone;
    held = st.held;
    measured = st.measured;
  }

  unfoldable pub open_leaf : SearchState → ℕ → SearchState
  open_leaf st r =
      let m = chosen i r in
      let e = get_or m.list (next_place st.gone m) no_element in
      let on = queue_next st r (word_at st.firsts r) m e in
      let off = close_leaf st r in
      choose (queued (next_f st.gone m)) on off

  -- one wanted yard of a leaf with its first key: "Its key is the greater of its bound and the leaf's first key."
  unfoldable pub queue_yard : SearchState → ℕ → Mark → Element → SearchState
  queue_yard st first m e = record {
    region_keys = st.region_keys;
    yard_keys = set st.yard_keys e.yard (max (yard_bound i m e) first);
    firsts = st.firsts;
    gone = set st.gone e.yard true;
    held = st.held;
    measured = st.measured;
  }

  -- the wanted ones of some elements, one after the other
  unfoldable pub queue_wanted : SearchState → ℕ → Mark → List Element → SearchState
  queue_wanted st first m [] = st
  queue_wanted st first m (e ∷ es) =
      let on = queue_yard st first m e in
      queue_wanted (choose (i.wants e.yard) on st) first m es

  -- "On a version 3 tree a leaf, when taken, queues all its wanted yards and not itself"
  unfoldable pub open_whole : SearchState → ℕ → SearchState
  open_whole st r =
      let m = chosen i r in
      queue_wanted (close_leaf st r) (word_at st.firsts r) m m.list

  unfoldable pub take_leaf : SearchState → ℕ → SearchState
  take_leaf st r =
      let whole = open_whole st r in
      let next = open_leaf st r in
      choose i.one_way whole next

  unfoldable pub take_region : SearchState → ℕ → ℕ → SearchState
  take_region st r a =
      let leafed = take_leaf st r in
      let opened = open_inner st r a in
      choose (leaf i r) leafed opened

  -- "A yard is measured by true distances; the k least so far in yard order are held.", or what the rule keeps
  unfoldable pub take_yard : SearchState → ℕ → SearchState
  take_yard st y = record {
    region_keys = st.region_keys;
    yard_keys = set st.yard_keys y unqueued;
    firsts = st.firsts;
    gone = st.gone;
    held = keep i y st.held;
    measured = y ∷ st.measured;
  }

  -- ---- a step

  -- the region of least key, and the yard
  unfoldable pub next_region : SearchState → ℕ
  next_region st = pick st.region_keys (size i)

  unfoldable pub next_yard : SearchState → ℕ
  next_yard st = pick st.yard_keys i.tree.junctions

  -- "the least key", or `unqueued` if the queue is empty
  unfoldable pub least_key : SearchState → ℕ
  least_key st = min (word_at st.region_keys (next_region st)) (word_at st.yard_keys (next_yard st))

  -- "One step takes the least key; at equal keys a region precedes a yard, then lower number first."
  unfoldable pub step : SearchState → SearchState
  step st =
      let r = next_region st in
      let y = next_yard st in
      let a = word_at st.region_keys r in
      let b = word_at st.yard_keys y in
      let onYard = take_yard st y in
      let onRegion = take_region st r a in
      let taken = choose (ltb b a) onYard onRegion in
      choose (queued (min a b)) taken st

  -- "The search is settled when the queue is empty, or k are held and every queued key is above the greatest held
  -- distance."; a drive search "when the queue is empty or every queued key is above the seconds"
  unfoldable pub settled : SearchState → Bool
  settled st = not (queued (least_key st)) || enough i st.held (least_key st)

  -- "The queue starts with the root.", if it may enter
  unfoldable pub root_keys : List ℕ
  root_keys =
      let none = replicate (size i) unqueued in
      choose (i.admits 0) (set none 0 (bound i 0)) none

  unfoldable pub start_search : SearchState
  start_search = record {
    region_keys = root_keys;
    yard_keys = replicate i.tree.junctions unqueued;
    firsts = root_keys;
    gone = replicate i.tree.junctions false;
    held = [];
    measured = [];
  }
