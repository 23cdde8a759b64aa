-- What every step keeps, whatever the tree's numbers say. Assumes nothing.
use mathlib.Core.Path.{◌≡◌, refl, sym, ◌∙◌}
use mathlib.Core.Logic.{◌⊎◌, inl, inr, ◌≢◌}
use mathlib.Core.Bool.{Bool, true, false, not}
use mathlib.Core.List.Memᴰ.{cases_cons}
use mathlib.Core.List.Memᴰ.{head}
use mathlib.Core.List.Memᴰ.{not-nil}
use mathlib.Core.List.Memᴰ.{tail}
use mathlib.Core.List.{List, [], ◌∷◌, Memᴰ as Mem}
use mathlib.Core.Option.{Option, none, some}
use Prim.Native.Nat.{ℕ, zero, suc, ◌≤◌, ◌<◌, max}
use native.Mathlib.Omega.{arith}
use lib.ListN.{length, get_or, set, replicate, length-set, length-replicate}
use lib.Seq.{get_or-set_same}
use lib.Dec.{T, T_not, not_T}
use Rattle.book.specs.Choose.{choose}
use Rattle.book.specs.Lists.{Distinct}
use Rattle.book.proofs.Choosing.{choose_case, choose_yes, choose_no}
use Rattle.book.proofs.Lists.{kept_from}
use Rattle.tree_layout.specs.Values.{Element, Mark}
use Rattle.tree_leaf.specs.Leaf.{yards_in}
use Rattle.tree_leaf.proofs.Named.{yards-cons, yards_of_lem}
use Rattle.search_rules.specs.Instance.{Instance, size, children, marks, leaf}
use Rattle.search_rules.specs.Bounds.{bound, chosen, f, yard_bound}
use Rattle.search_rules.specs.Queue.{unqueued, queued, word_at}
use Rattle.search_rules.specs.Keeping.{keep_by, keep, front}
use Rattle.search_rules.specs.Held.{entry, ranked}
use Rattle.search_rules.specs.Step.{SearchState, left, no_element, passed, again_key, next_place, next_f, open_inner, queue_next, close_leaf, open_leaf}
use Rattle.search_rules.specs.Step.{queue_yard, queue_wanted, open_whole, take_leaf}
use Rattle.search_rules.specs.Step.{take_region, take_yard, step, settled, root_keys, start_search}
use Rattle.search_rules.specs.Run.{Outcome, advance, run}
use Rattle.search_rules.specs.Facts.{Below, inside, under, WellFormed}
use Rattle.search_rules.specs.Theorems.{barren}
use Rattle.search_rules.proofs.Bounds.{chosen-mem}
use Rattle.search_rules.proofs.Limits.{bound-most, f-most, yard_bound-most}
use Rattle.search_rules.proofs.Fronts.{front-none, front-keep}
use Rattle.search_rules.proofs.Queue.{seen, seen_mark, key, key_word, key_small, key_range, has, has_key, no_key, small-queued, queued-small}
use Rattle.search_rules.proofs.Queue.{set_case, key_set, key_put, key_drop, Next, no_more, one_more, next-is, Again, empty, more, again_is, Entered}
use Rattle.search_rules.proofs.Queue.{queued-child, kept, queue_children-is, queue_children-length, stays-left, stays-wanted, stays_by}
use Rattle.search_rules.proofs.Barren.{barren_by}
use Rattle.search_rules.proofs.Stepping.{Sizes, step_case}

-- A child that is queued may enter the queue.
pub child-admitted : (i : Instance) (r c : ℕ) → Mem c (children i r) → T (i.admits c)
unfolding children
child-admitted i r c k = (kept_from i.admits _ c k).1

-- Some element of a landmark's list is not passed over.
pub record OneLeft (i : Instance) (gone : List Bool) (m : Mark) : Type 0 where
  pub element : Element
  pub mem : Mem element m.list
  pub stays : T (not (passed i gone element.yard))

pub record Kept (i : Instance) (st : SearchState) : Type 0 where
  pub sizes : Sizes i st
  -- a queued yard has left its leaf and isn't measured, a measured one has left its leaf, and none is measured twice
  pub queued-left : (y a : ℕ) → key st.yard_keys y ≡ some a → T (left st.gone y)
  pub queued_new : (y a : ℕ) → key st.yard_keys y ≡ some a → Mem y st.measured → ⊥
  pub measured-left : (y : ℕ) → Mem y st.measured → T (left st.gone y)
  pub once : Distinct st.measured
  -- the held yards are what the rule asks for of the measured ones
  pub first-ranked : st.held ≡ front i.rule (ranked i st.measured)
  -- a queued region may enter the queue
  pub admitted : (r a : ℕ) → key st.region_keys r ≡ some a → T (i.admits r)
  -- what is queued or measured belongs to the tree
  pub regions_in : (r a y : ℕ) → key st.region_keys r ≡ some a → Below i r y → Below i 0 y
  pub yards_in_lem : (y a : ℕ) → key st.yard_keys y ≡ some a → Below i 0 y
  pub measured_in : (y : ℕ) → Mem y st.measured → Below i 0 y
  -- a queued region has a first key; when one has, its parent has been taken
  pub has_first : (r a : ℕ) → key st.region_keys r ≡ some a → T (has (key st.firsts r))
  pub parent-first : (r c : ℕ) → Mem c (children i r) → T (has (key st.firsts c)) → T (has (key st.firsts r))
  pub parent-taken : (r c : ℕ) → Mem c (children i r) → T (has (key st.firsts c)) → key st.region_keys r ≡ none
  -- of a queued leaf with a wanted yard some wanted yard has not left, and of one that was never queued none has
  pub leaf_open : (r a : ℕ) (e : Element) → T (leaf i r) → key st.region_keys r ≡ some a → Mem e (chosen i r).list → T (i.wants e.yard)
      → OneLeft i st.gone (chosen i r)
  pub leaf_fresh : (r : ℕ) (e : Element) → T (leaf i r) → r < size i → Mem e (chosen i r).list → T (not (has (key st.firsts r)))
      → T (not (left st.gone e.yard))
  -- where a leaf queues its yards all at once, none of a queued leaf's has left
  pub leaf-whole : T i.one_way → (r a : ℕ) (e : Element) → T (leaf i r) → key st.region_keys r ≡ some a → Mem e (chosen i r).list
      → T (not (left st.gone e.yard))

-- ---- marking a yard

module _ (gone : List Bool) (y : ℕ) (h : y < length gone) where
  pub left_new : T (left (set gone y true) y)
  unfolding left
  left_new = rw (get_or-set_same gone y true false h) tt

  pub left-more : (v : ℕ) → T (left gone v) → T (left (set gone y true) v)
  unfolding left
  left-more v t = set_case T gone y true false h v (λ e. tt) (λ e. t)

  pub left_other : (v : ℕ) → v ≢ y → T (not (left gone v)) → T (not (left (set gone y true) v))
  unfolding left
  left_other v n t = set_case (λ b. T (not b)) gone y true false h v (λ e. absurd (n e)) (λ e. t)

  -- What has not left after it is another, and had not left before.
  pub left_not : (v : ℕ) → T (not (left (set gone y true) v)) → T (not (left gone v))
  unfolding left
  left_not v = set_case (λ b. T (not b) → T (not (left gone v))) gone y true false h v (λ e t. absurd t) (λ e t. t)

-- What is passed over after a yard has left.
module _ (i : Instance) (gone : List Bool) (y : ℕ) (h : y < length gone) where
  pub stays-other : (v : ℕ) → v ≢ y → T (not (passed i gone v)) → T (not (passed i (set gone y true) v))
  stays-other v n t = stays_by i (set gone y true) v (left_other gone y h v n (stays-left i gone v t)) (stays-wanted i gone v t)

  pub stays_before : (v : ℕ) → T (not (passed i (set gone y true) v)) → T (not (passed i gone v))
  stays_before v t = stays_by i gone v (left_not gone y h v (stays-left i (set gone y true) v t)) (stays-wanted i (set gone y true) v t)

first_of : (o : Option ℕ) → T (has o) → (a : ℕ) × (o ≡ some a)
first_of none t = absurd t
first_of (some a) t = (a, refl)

module _ (i : Instance) (well : WellFormed i) (st : SearchState) (was : Kept i st) where
  pub region_range : (r : ℕ) {a : ℕ} → key st.region_keys r ≡ some a → r < size i
  region_range r e = rw (← was.sizes.regions) (key_range st.region_keys r e)

  pub yard-range : (y : ℕ) {a : ℕ} → key st.yard_keys y ≡ some a → y < i.tree.junctions
  yard-range y e = rw (← was.sizes.yards) (key_range st.yard_keys y e)

  -- ---- an inner region

  module _ (r a : ℕ) (at : key st.region_keys r ≡ some a) where
    -- What a region's key becomes when r's children are queued.
    pub data InnerKey (v : ℕ) : Option ℕ → Type 0 where
      child : Mem v (children i r) → InnerKey v (some (max (bound i v) a))
      taken : v ≡ r → InnerKey v none
      same : {o : Option ℕ} → v ≢ r → (Mem v (children i r) → ⊥) → o ≡ key st.region_keys v → InnerKey v o

    pub inner_key : (v : ℕ) → InnerKey v (key (open_inner i st r a).region_keys v)
    unfolding open_inner
    inner_key v = go (queue_children-is i a (key_small st.region_keys r at) (λ c. omega (arith, bound-most i well c)) (children i r) ks (λ c k. rw (length-set
        st.region_keys r unqueued ∙ was.sizes.regions) (well.shape.range r c k)) v)
      where
        ks : List ℕ
        ks = set st.region_keys r unqueued

        go : {o : Option ℕ} → Entered i a (children i r) ks v o → InnerKey v o
        go (queued-child k) = child k
        go (kept {o = o} n e) = rw e (key_drop (λ p. InnerKey v p) st.region_keys r (rw was.sizes.regions (region_range r at)) v (λ p. taken p) (λ p.
            same p n refl))

    pub inner_first : (v : ℕ) → Entered i a (children i r) st.firsts v (key (open_inner i st r a).firsts v)
    unfolding open_inner
    inner_first v = queue_children-is i a (key_small st.region_keys r at) (λ c. omega (arith, bound-most i well c)) (children i r) st.firsts (λ c k. rw
        was.sizes.firsts (well.shape.range r c k)) v

    -- A child was never queued before.
    pub fresh_child : (c : ℕ) → Mem c (children i r) → T (has (key st.firsts c)) → ⊥
    fresh_child c k t = no_key (sym (was.parent-taken r c k t) ∙ at)

    first_more : (v : ℕ) → T (has (key st.firsts v)) → T (has (key (open_inner i st r a).firsts v))
    first_more v t = go (inner_first v)
      where
        go : {o : Option ℕ} → Entered i a (children i r) st.firsts v o → T (has o)
        go (queued-child k) = tt
        go (kept n e) = rw e t

    module _ (inner : T (not (leaf i r))) where
      inner-sizes : Sizes i (open_inner i st r a)
      unfolding open_inner
      inner-sizes = record {
        regions = queue_children-length i a (children i r) (set st.region_keys r unqueued) ∙ length-set st.region_keys r unqueued ∙ was.sizes.regions;
        yards = was.sizes.yards;
        firsts = queue_children-length i a (children i r) st.firsts ∙ was.sizes.firsts;
        gone = was.sizes.gone;
      }

      inner-kept : Kept i (open_inner i st r a)
      unfolding open_inner
      inner-kept = record {
        sizes = inner-sizes;
        queued-left = was.queued-left;
        queued_new = was.queued_new;
        measured-left = was.measured-left;
        once = was.once;
        first-ranked = was.first-ranked;
        admitted = λ v b e. enters v b (inner_key v) e;
        regions_in = λ v b y e below. in_tree v b y below (inner_key v) e;
        yards_in_lem = was.yards_in_lem;
        measured_in = was.measured_in;
        has_first = λ v b e. first v b (inner_key v) e;
        parent-first = λ s c k t. parent s c k (inner_first c) t;
        parent-taken = λ s c k t. gone_by s c k (inner_first c) t;
        leaf_open = λ v b g l e k w. opens v b g l k w (inner_key v) e;
        leaf_fresh = λ v e l h k t. fresh v e l h k (inner_first v) t;
        leaf-whole = λ one v b g l e k. whole one v b g l k (inner_key v) e;
      }
        where
          enters : (v b : ℕ) {o : Option ℕ} → InnerKey v o → o ≡ some b → T (i.admits v)
          enters v b (child k) e = child-admitted i r v k
          enters v b (taken p) e = absurd (no_key e)
          enters v b (same p n q) e = was.admitted v b (sym q ∙ e)

          in_tree : (v b y : ℕ) → Below i v y → {o : Option ℕ} → InnerKey v o → o ≡ some b → Below i 0 y
          in_tree v b y below (child k) e = was.regions_in r a y at (under v (was.admitted r a at) inner k below)
          in_tree v b y below (taken p) e = absurd (no_key e)
          in_tree v b y below (same p n q) e = was.regions_in v b y (sym q ∙ e) below

          first : (v b : ℕ) {o : Option ℕ} → InnerKey v o → o ≡ some b → T (has (key (open_inner i st r a).firsts v))
          first v b (child k) e = go (inner_first v)
            where
              go : {p : Option ℕ} → Entered i a (children i r) st.firsts v p → T (has p)
              go (queued-child j) = tt
              go (kept n q) = absurd (n k)
          first v b (taken p) e = absurd (no_key e)
          first v b (same p n q) e = first_more v (was.has_first v b (sym q ∙ e))

          parent : (s c : ℕ) → Mem c (children i s) → {o : Option ℕ} → Entered i a (children i r) st.firsts c o → T (has o)
              → T (has (key (open_inner i st r a).firsts s))
          parent s c k (queued-child j) t = rw (well.shape.parent s r c k j) (first_more r (was.has_first r a at))
          parent s c k (kept n e) t = first_more s (was.parent-first s c k (rw e at t))

          is-taken : {o : Option ℕ} → InnerKey r o → o ≡ none
          is-taken (child k) = absurd (omega (arith, well.shape.rise r r k))
          is-taken (taken p) = refl
          is-taken (same p n q) = absurd (p refl)

          gone_by : (s c : ℕ) → Mem c (children i s) → {o : Option ℕ} → Entered i a (children i r) st.firsts c o → T (has o)
              → key (open_inner i st r a).region_keys s ≡ none
          gone_by s c k (queued-child j) t = rw (well.shape.parent s r c k j) (is-taken (inner_key r))
          gone_by s c k (kept n e) t = go (inner_key s)
            where
              go : {p : Option ℕ} → InnerKey s p → p ≡ none
              go (child j) = absurd (fresh_child s j (was.parent-first s c k (rw e at t)))
              go (taken p) = refl
              go (same p m q) = q ∙ was.parent-taken s c k (rw e at t)

          opens : (v b : ℕ) (g : Element) → T (leaf i v) → Mem g (chosen i v).list → T (i.wants g.yard) → {o : Option ℕ} → InnerKey v o → o ≡ some b
              → OneLeft i st.gone (chosen i v)
          opens v b g l j w (child k) e = record {
            element = g;
            mem = j;
            stays = stays_by i st.gone g.yard (was.leaf_fresh v g l (well.shape.range r v k) j (not_T (has (key st.firsts v)) (fresh_child v k))) w;
          }
          opens v b g l j w (taken p) e = absurd (no_key e)
          opens v b g l j w (same p n q) e = was.leaf_open v b g l (sym q ∙ e) j w

          fresh : (v : ℕ) (g : Element) → T (leaf i v) → v < size i → Mem g (chosen i v).list → {o : Option ℕ}
              → Entered i a (children i r) st.firsts v o → T (not (has o)) → T (not (left st.gone g.yard))
          fresh v g l h k (queued-child j) t = absurd t
          fresh v g l h k (kept n e) t = was.leaf_fresh v g l h k (rw e at t)

          whole : T i.one_way → (v b : ℕ) (g : Element) → T (leaf i v) → Mem g (chosen i v).list → {o : Option ℕ} → InnerKey v o → o ≡ some b
              → T (not (left st.gone g.yard))
          whole one v b g l j (child k) e = was.leaf_fresh v g l (well.shape.range r v k) j (not_T (has (key st.firsts v)) (fresh_child v k))
          whole one v b g l j (taken p) e = absurd (no_key e)
          whole one v b g l j (same p n q) e = was.leaf-whole one v b g l (sym q ∙ e) j

    -- ---- a leaf

    module _ (is_IsLeaf : T (leaf i r)) where
      pub mark_mem : Mem (chosen i r) (marks i r)
      mark_mem = chosen-mem i r (well.shape.marked r (region_range r at))

      -- Two elements of the chosen lists of two leaves name two yards.
      pub other-leaf : (v : ℕ) (g e : Element) → v ≢ r → T (leaf i v) → v < size i → Mem g (chosen i v).list → Mem e (chosen i r).list → g.yard ≢ e.yard
      other-leaf v g e n l h k j p = n (well.shape.one-leaf v r (chosen i v) (chosen i r) e.yard l is_IsLeaf (chosen-mem i v (well.shape.marked v h))
          mark_mem
          (record { element = g; mem = k; names = p }) (record { element = e; mem = j; names = refl }))

      module _ (first : ℕ) (first-is : key st.firsts r
          ≡ some first) (e : Element) (mem : Mem e (chosen i r).list) (stays : T (not (passed i st.gone e.yard))) where
        pub yard-fits : e.yard < i.tree.junctions
        yard-fits = well.shape.yards r (chosen i r) e is_IsLeaf mark_mem mem

        -- it is a wanted yard below the leaf
        pub leaf_own : Below i r e.yard
        leaf_own = inside (chosen i r) (was.admitted r a at) is_IsLeaf mark_mem (record { element = e; mem = mem; names = refl })
            (stays-wanted i st.gone e.yard stays)

        -- the queued yards and regions after a leaf's next yard has left
        pub leaf-yard_key : (P : Option ℕ → Type 0) (v : ℕ) → (v ≡ e.yard → P (some (max (yard_bound i (chosen i r) e) first))) → (v ≢ e.yard
            → P (key st.yard_keys v))
            → P (key (set st.yard_keys e.yard (max (yard_bound i (chosen i r) e) first)) v)
        leaf-yard_key P v = key_put P st.yard_keys e.yard (max (yard_bound i (chosen i r) e) first)
            (omega (arith, yard_bound-most i well r (chosen i r) e is_IsLeaf mark_mem mem, key_small st.firsts r first-is)) (rw was.sizes.yards yard-fits) v

        pub leaf_region_key : (P : Option ℕ → Type 0) (v : ℕ) → (v ≡ r → P (seen (again_key first (next_f i (set st.gone e.yard true) (chosen i r)))))
            → (v ≢ r → P (key st.region_keys v))
            → P (key (set st.region_keys r (again_key first (next_f i (set st.gone e.yard true) (chosen i r)))) v)
        leaf_region_key P v = key_set P st.region_keys r (again_key first (next_f i (set st.gone e.yard true) (chosen i r))) (rw was.sizes.regions
            (region_range r at)) v

        pub leaf_again : Again i (set st.gone e.yard true) first (chosen i r) (seen (again_key first (next_f i (set st.gone e.yard true) (chosen i
            r))))
        leaf_again = again_is i (set st.gone e.yard true) first (chosen i r) (key_small st.firsts r first-is) (λ g k. omega (
          arith,
          f-most i well r
              (chosen i r) g is_IsLeaf mark_mem k,
        ))

        leaf-kept : T (not i.one_way) → Kept i (queue_next i st r first (chosen i r) e)
        unfolding queue_next
        leaf-kept two = record {
          sizes = record {
            regions = length-set st.region_keys r (again_key first (next_f i gone' m)) ∙ was.sizes.regions;
            yards = length-set st.yard_keys y (max (yard_bound i m e) first) ∙ was.sizes.yards;
            firsts = was.sizes.firsts;
            gone = length-set st.gone y true ∙ was.sizes.gone;
          };
          queued-left = λ v b. leaf-yard_key (λ o. o ≡ some b
              → T (left gone' v)) v (λ p q. rw p (left_new st.gone y fits)) (λ p q. marked v (was.queued-left v b q));
          queued_new = λ v b. leaf-yard_key (λ o. o ≡ some b → Mem v st.measured → ⊥) v
              (λ p q k. T_not (left st.gone y) (stays-left i st.gone y stays) (was.measured-left y (rw p at k))) (λ p q. was.queued_new v b q);
          measured-left = λ v k. marked v (was.measured-left v k);
          once = was.once;
          first-ranked = was.first-ranked;
          admitted = λ v b. leaf_region_key (λ o. o ≡ some b → T (i.admits v)) v (λ p q. rw p (was.admitted r a at)) (λ p q. was.admitted v b q);
          regions_in = λ v b z. leaf_region_key (λ o. o ≡ some b → Below i v z → Below i 0 z) v
              (λ p q below. was.regions_in r a z at (rw p at below)) (λ p q. was.regions_in v b z q);
          yards_in_lem = λ v b. leaf-yard_key (λ o. o ≡ some b → Below i 0 v) v
              (λ p q. rw p (was.regions_in r a y at leaf_own)) (λ p q. was.yards_in_lem v b q);
          measured_in = was.measured_in;
          has_first = λ v b. leaf_region_key (λ o. o ≡ some b
              → T (has (key st.firsts v))) v (λ p q. rw p (was.has_first r a at)) (λ p q. was.has_first v b q);
          parent-first = was.parent-first;
          parent-taken = λ s c k t. leaf_region_key (λ o. o ≡ none) s
              (λ p. absurd (no_key (sym (was.parent-taken r c (rw p at k) t) ∙ at))) (λ p. was.parent-taken s c k t);
          leaf_open = λ v b g l. leaf_region_key (λ o. o ≡ some b → Mem g (chosen i v).list → T (i.wants g.yard) → OneLeft i gone' (chosen i v)) v
              (λ p q k w. rw p (opens (leaf_again) q)) (λ p q k w. others v p l (region_range v q) (was.leaf_open v b g l q k w));
          leaf_fresh = λ v g l h k t. fresh v g l h k t;
          leaf-whole = λ one v b g l q k. absurd (T_not i.one_way two one);
        }
          where
            m : Mark
            m = chosen i r

            y : ℕ
            y = e.yard

            fits : y < length st.gone
            fits = rw was.sizes.gone yard-fits

            gone' : List Bool
            gone' = set st.gone y true

            marked : (v : ℕ) → T (left st.gone v) → T (left gone' v)
            marked v t = left-more st.gone y fits v t

            opens : {b : ℕ} {o : Option ℕ} → Again i gone' first m o → o ≡ some b → OneLeft i gone' m
            opens (empty h) q = absurd (no_key q)
            opens (more g k n l) q = record { element = g; mem = k; stays = n }

            others : (v : ℕ) → v ≢ r → T (leaf i v) → v < size i → OneLeft i st.gone (chosen i v) → OneLeft i gone' (chosen i v)
            others v n l h x = record {
              element = x.element;
              mem = x.mem;
              stays = stays-other i st.gone y fits x.element.yard (other-leaf v x.element e n l h x.mem mem) x.stays;
            }

            fresh : (v : ℕ) (g : Element) → T (leaf i v) → v < size i → Mem g (chosen i v).list → T (not (has (key st.firsts v)))
                → T (not (left gone' g.yard))
            fresh v g l h k t = left_other st.gone y fits g.yard (other-leaf v g e (λ p. T_not (has (key st.firsts v)) t (rw p (was.has_first r a
                at))) l h k mem) (was.leaf_fresh v g l h k t)

    -- ---- a leaf without any wanted yard

    pub closed_key : (P : Option ℕ → Type 0) (v : ℕ) → (v ≡ r → P none) → (v ≢ r → P (key st.region_keys v)) → P (key (set st.region_keys r unqueued) v)
    closed_key P v = key_drop P st.region_keys r (rw was.sizes.regions (region_range r at)) v

    pub closed_kept : Kept i (close_leaf i st r)
    unfolding close_leaf
    closed_kept = record {
      sizes = record {
        regions = length-set st.region_keys r unqueued ∙ was.sizes.regions;
        yards = was.sizes.yards;
        firsts = was.sizes.firsts;
        gone = was.sizes.gone;
      };
      queued-left = was.queued-left;
      queued_new = was.queued_new;
      measured-left = was.measured-left;
      once = was.once;
      first-ranked = was.first-ranked;
      admitted = λ v b. closed_key (λ o. o ≡ some b → T (i.admits v)) v (λ p q. absurd (no_key q)) (λ p q. was.admitted v b q);
      regions_in = λ v b z. closed_key (λ o. o ≡ some b → Below i v z → Below i 0 z) v (λ p q. absurd (no_key q)) (λ p q. was.regions_in v b z q);
      yards_in_lem = was.yards_in_lem;
      measured_in = was.measured_in;
      has_first = λ v b. closed_key (λ o. o ≡ some b → T (has (key st.firsts v))) v (λ p q. absurd (no_key q)) (λ p q. was.has_first v b q);
      parent-first = was.parent-first;
      parent-taken = λ s c k t. closed_key (λ o. o ≡ none) s (λ p. refl) (λ p. was.parent-taken s c k t);
      leaf_open = λ v b g l. closed_key (λ o. o ≡ some b → Mem g (chosen i v).list → T (i.wants g.yard) → OneLeft i st.gone (chosen i v)) v
          (λ p q. absurd (no_key q)) (λ p q. was.leaf_open v b g l q);
      leaf_fresh = was.leaf_fresh;
      leaf-whole = λ one v b g l. closed_key (λ o. o ≡ some b → Mem g (chosen i v).list → T (not (left st.gone g.yard))) v
          (λ p q. absurd (no_key q)) (λ p q. was.leaf-whole one v b g l q);
    }

  -- ---- a yard

  module _ (y b : ℕ) (at : key st.yard_keys y ≡ some b) where
    pub taken-yard_key : (P : Option ℕ → Type 0) (v : ℕ) → (v ≡ y → P none) → (v ≢ y → P (key st.yard_keys v)) → P (key (set st.yard_keys y unqueued) v)
    taken-yard_key P v = key_drop P st.yard_keys y (rw was.sizes.yards (yard-range y at)) v

    pub yard-kept : Kept i (take_yard i st y)
    unfolding take_yard keep ranked
    yard-kept = record {
      sizes = record {
        regions = was.sizes.regions;
        yards = length-set st.yard_keys y unqueued ∙ was.sizes.yards;
        firsts = was.sizes.firsts;
        gone = was.sizes.gone;
      };
      queued-left = λ v c. taken-yard_key (λ o. o ≡ some c → T (left st.gone v)) v (λ p q. absurd (no_key q)) (λ p q. was.queued-left v c q);
      queued_new = λ v c. taken-yard_key (λ o. o ≡ some c → Mem v (y ∷ st.measured) → ⊥) v (λ p q. absurd (no_key q)) (λ p q k. new v c p q (cases_cons k));
      measured-left = λ v k. marked v (cases_cons k);
      once = (was.queued_new y b at, was.once);
      first-ranked = ranked-more;
      admitted = was.admitted;
      regions_in = was.regions_in;
      yards_in_lem = λ v c. taken-yard_key (λ o. o ≡ some c → Below i 0 v) v (λ p q. absurd (no_key q)) (λ p q. was.yards_in_lem v c q);
      measured_in = λ v k. in_tree v (cases_cons k);
      has_first = was.has_first;
      parent-first = was.parent-first;
      parent-taken = was.parent-taken;
      leaf_open = was.leaf_open;
      leaf_fresh = was.leaf_fresh;
      leaf-whole = was.leaf-whole;
    }
      where
        new : (v c : ℕ) → v ≢ y → key st.yard_keys v ≡ some c → (v ≡ y) ⊎ Mem v st.measured → ⊥
        new v c n q (inl p) = n p
        new v c n q (inr k) = was.queued_new v c q k

        marked : (v : ℕ) → (v ≡ y) ⊎ Mem v st.measured → T (left st.gone v)
        marked v (inl p) = rw p (was.queued-left y b at)
        marked v (inr k) = was.measured-left v k

        in_tree : (v : ℕ) → (v ≡ y) ⊎ Mem v st.measured → Below i 0 v
        in_tree v (inl p) = rw p (was.yards_in_lem y b at)
        in_tree v (inr k) = was.measured_in v k

        ranked-more : keep_by i.rule (entry i y) st.held ≡ front i.rule (ranked i (y ∷ st.measured))
        ranked-more = rw was.first-ranked (front-keep i.rule (entry i y) (ranked i st.measured))

  -- Taking a region, by cases.
  pub region_case : (P : SearchState → Type 0) (r a : ℕ) → key st.region_keys r ≡ some a
      → (T (not (leaf i r)) → P (open_inner i st r a))
      → (T (not i.one_way) → T (leaf i r) → (first : ℕ) → key st.firsts r ≡ some first → (e : Element) → Mem e (chosen i r).list → T (not (passed i st.gone e.yard))
      → ((g : Element) → Mem g (chosen i r).list → T (not (passed i st.gone g.yard)) → f i (chosen i r) e ≤ f i (chosen i r) g)
      → P (queue_next i st r first (chosen i r) e))
      → (T (barren i r) → P (close_leaf i st r))
      → (T i.one_way → T (leaf i r) → (first : ℕ) → key st.firsts r ≡ some first → P (queue_wanted i (close_leaf i st r) first (chosen i r) (chosen i r).list))
      → P (take_region i st r a)
  unfolding take_region take_leaf open_whole open_leaf
  region_case P r a at onInner onLeaf onClosed onWhole = choose_case P (leaf i r) (λ l.
      choose_case P i.one_way (λ one. whole one l (first_of (key st.firsts r) (was.has_first r a at)))
      (λ two. go two l (first_of (key st.firsts r) (was.has_first r a at)) (next-is i st.gone m (small l)))) onInner
    where
      m : Mark
      m = chosen i r

      small : T (leaf i r) → (e : Element) → Mem e m.list → f i m e < unqueued
      small l e k = omega (arith, f-most i well r m e l (chosen-mem i r (well.shape.marked r (region_range r at))) k)

      whole : T i.one_way → T (leaf i r) → (x : ℕ) × (key st.firsts r ≡ some x) → P (queue_wanted i (close_leaf i st r) (word_at st.firsts r) m m.list)
      whole one l (first, q) = rw (key_word st.firsts r q) (onWhole one l first q)

      go : T (not i.one_way) → T (leaf i r) → (x : ℕ) × (key st.firsts r ≡ some x) → Next i st.gone m
          → P (choose (queued (next_f i st.gone m)) (queue_next i st r (word_at st.firsts r) m (get_or m.list (next_place i st.gone m) no_element))
          (close_leaf i st r))
      go two l x (no_more h all) = rw (choose_no (queued (next_f i st.gone m)) (queue_next i st r (word_at st.firsts r) m (get_or m.list (next_place i st.gone m)
          no_element)) (close_leaf i st r) (not_T (queued (next_f i st.gone m)) (λ t. omega (arith, queued-small (next_f i st.gone m) t))))
          (onClosed (barren_by i r (was.admitted r a at) l (λ e k w.
          let z = was.leaf_open r a e l at k w in
          T_not (passed i st.gone z.element.yard) z.stays (all z.element z.mem))))
      go two l (first, q) (one_more e p w s k n h) =
          let t : T (queued (next_f i st.gone m)) = small-queued (next_f i st.gone m) (omega arith) in
          rw (
            choose_yes (queued (next_f i st.gone m)) (queue_next i st r (word_at st.firsts r) m (get_or m.list (next_place i st.gone m) no_element))
                (close_leaf i st r) t,
            key_word st.firsts r q,
            p,
          )
          (onLeaf two l first q e k n h)

-- ---- the yards of a leaf queued all at once

-- a state in which a leaf that has left the queue queues some elements of its list: what is left of them
module _ (i : Instance) (well : WellFormed i) (r first : ℕ) (number : r < size i) (is_IsLeaf : T (leaf i r)) where
  pub record Rest (st : SearchState) (es : List Element) : Type 0 where
    pub kept : Kept i st
    pub out : key st.region_keys r ≡ none
    pub first-is : key st.firsts r ≡ some first
    pub sub : (g : Element) → Mem g es → Mem g (chosen i r).list
    pub in_tree : (g : Element) → Mem g es → T (i.wants g.yard) → Below i 0 g.yard
    pub here : (g : Element) → Mem g es → T (not (left st.gone g.yard))
    pub distinct : Distinct (yards_in es)

  abbrev m : Mark
  m = chosen i r

  mine : Mem m (marks i r)
  mine = chosen-mem i r (well.shape.marked r number)

  module _ (st : SearchState) (e : Element) (es : List Element) (rest : Rest st (e ∷ es)) where
    abbrev was : Kept i st
    was = rest.kept

    mem : Mem e m.list
    mem = rest.sub e (head refl)

    pub whole-fits : e.yard < i.tree.junctions
    whole-fits = well.shape.yards r m e is_IsLeaf mine mem

    pub whole-gone : e.yard < length st.gone
    whole-gone = rw was.sizes.gone whole-fits

    pub whole-yard_key : (P : Option ℕ → Type 0) (v : ℕ) → (v ≡ e.yard → P (some (max (yard_bound i m e) first))) → (v ≢ e.yard → P (key st.yard_keys v))
        → P (key (set st.yard_keys e.yard (max (yard_bound i m e) first)) v)
    whole-yard_key P v = key_put P st.yard_keys e.yard (max (yard_bound i m e) first)
        (omega (arith, yard_bound-most i well r m e is_IsLeaf mine mem, key_small st.firsts r rest.first-is)) (rw was.sizes.yards whole-fits) v

    -- an element of another leaf names another yard
    other : (v : ℕ) (g : Element) → v ≢ r → T (leaf i v) → v < size i → Mem g (chosen i v).list → g.yard ≢ e.yard
    other v g n l h k p = n (well.shape.one-leaf v r (chosen i v) m e.yard l is_IsLeaf (chosen-mem i v (well.shape.marked v h)) mine
        (record { element = g; mem = k; names = p }) (record { element = e; mem = mem; names = refl }))

    queued-other : (v b : ℕ) → key st.region_keys v ≡ some b → v ≢ r
    queued-other v b q p = no_key (sym rest.out ∙ rw p at q)

    number_of : (v b : ℕ) → key st.region_keys v ≡ some b → v < size i
    number_of v b q = rw (← was.sizes.regions) (key_range st.region_keys v q)

    queue-kept : T (i.wants e.yard) → Kept i (queue_yard i st first m e)
    unfolding queue_yard
    queue-kept w = record {
      sizes = record {
        regions = was.sizes.regions;
        yards = length-set st.yard_keys e.yard (max (yard_bound i m e) first) ∙ was.sizes.yards;
        firsts = was.sizes.firsts;
        gone = length-set st.gone e.yard true ∙ was.sizes.gone;
      };
      queued-left = λ v b. whole-yard_key (λ o. o ≡ some b → T (left (set st.gone e.yard true) v)) v
          (λ p q. rw p (left_new st.gone e.yard whole-gone)) (λ p q. left-more st.gone e.yard whole-gone v (was.queued-left v b q));
      queued_new = λ v b. whole-yard_key (λ o. o ≡ some b → Mem v st.measured → ⊥) v
          (λ p q k. T_not (left st.gone e.yard) (rest.here e (head refl)) (was.measured-left e.yard (rw p at k))) (λ p q. was.queued_new v b q);
      measured-left = λ v k. left-more st.gone e.yard whole-gone v (was.measured-left v k);
      once = was.once;
      first-ranked = was.first-ranked;
      admitted = was.admitted;
      regions_in = was.regions_in;
      yards_in_lem = λ v b. whole-yard_key (λ o. o ≡ some b → Below i 0 v) v (λ p q. rw p (rest.in_tree e (head refl) w)) (λ p q. was.yards_in_lem v b q);
      measured_in = was.measured_in;
      has_first = was.has_first;
      parent-first = was.parent-first;
      parent-taken = was.parent-taken;
      leaf_open = λ v b g l q k x. others v b l q (was.leaf_open v b g l q k x);
      leaf_fresh = λ v g l h k t. left_other st.gone e.yard whole-gone g.yard
          (other v g (λ p. T_not (has (key st.firsts v)) t (rw p (has_key rest.first-is))) l h k) (was.leaf_fresh v g l h k t);
      leaf-whole = λ one v b g l q k. left_other st.gone e.yard whole-gone g.yard
          (other v g (queued-other v b q) l (number_of v b q) k) (was.leaf-whole one v b g l q k);
    }
      where
        others : (v b : ℕ) → T (leaf i v) → key st.region_keys v ≡ some b → OneLeft i st.gone (chosen i v)
            → OneLeft i (set st.gone e.yard true) (chosen i v)
        others v b l q x = record {
          element = x.element;
          mem = x.mem;
          stays = stays-other i st.gone e.yard whole-gone x.element.yard (other v x.element (queued-other v b q) l (number_of v b q) x.mem) x.stays;
        }

    -- the elements after it name other yards
    apart : Distinct (e.yard ∷ yards_in es)
    apart = rw (yards-cons e es) at rest.distinct

    after : (g : Element) → Mem g es → g.yard ≢ e.yard
    after g k p = apart.0 (rw p at (yards_of_lem es g k))

    pub rest_on : T (i.wants e.yard) → Rest (queue_yard i st first m e) es
    unfolding queue_yard
    rest_on w = record {
      kept = queue-kept w;
      out = rest.out;
      first-is = rest.first-is;
      sub = λ g k. rest.sub g (tail k);
      in_tree = λ g k. rest.in_tree g (tail k);
      here = λ g k. left_other st.gone e.yard whole-gone g.yard (after g k) (rest.here g (tail k));
      distinct = apart.1;
    }

    pub rest_off : Rest st es
    rest_off = record {
      kept = was;
      out = rest.out;
      first-is = rest.first-is;
      sub = λ g k. rest.sub g (tail k);
      in_tree = λ g k. rest.in_tree g (tail k);
      here = λ g k. rest.here g (tail k);
      distinct = apart.1;
    }

  -- what each wanted yard that is queued keeps, and each unwanted one that is passed over, all of them keep
  pub whole_keeps : (Q : SearchState → List Element → Type 0)
      → ((st : SearchState) (e : Element) (es : List Element) → Rest st (e ∷ es) → T (i.wants e.yard) → Q st (e ∷ es) → Q (queue_yard i st first m e) es)
      → ((st : SearchState) (e : Element) (es : List Element) → Rest st (e ∷ es) → T (not (i.wants e.yard)) → Q st (e ∷ es) → Q st es)
      → (st : SearchState) (es : List Element) → Rest st es → Q st es → Rest (queue_wanted i st first m es) [] × Q (queue_wanted i st first m es) []
  unfolding queue_wanted
  whole_keeps Q on off st [] rest q = (rest, q)
  whole_keeps Q on off st (e ∷ es) rest q =
      let both = choose_case (λ (s : SearchState). Rest s es × Q s es) (i.wants e.yard) (λ w. (rest_on st e es rest w, on st e es rest w q))
      (λ w. (rest_off st e es rest, off st e es rest w q)) in
      whole_keeps Q on off (choose (i.wants e.yard) (queue_yard i st first m e) st) es both.0 both.1

module _ (i : Instance) (well : WellFormed i) (st : SearchState) (was : Kept i st) where
  -- a leaf that is taken, before its first yard is queued
  pub whole-rest : (r a : ℕ) (at : key st.region_keys r ≡ some a) → T i.one_way → (l : T (leaf i r)) → (first : ℕ) → key st.firsts r ≡ some first
      → Rest i well r first (region_range i well st was r at) l (close_leaf i st r) (chosen i r).list
  unfolding close_leaf
  whole-rest r a at one l first first-is = record {
    kept = closed_kept i well st was r a at;
    out = closed_key i well st was r a at (λ o. o ≡ none) r (λ p. refl) (λ p. absurd (p refl));
    first-is = first-is;
    sub = λ g k. k;
    in_tree = λ g k w. was.regions_in r a g.yard at
        (inside (chosen i r) (was.admitted r a at) l (mark_mem i well st was r a at l) (record { element = g; mem = k; names = refl }) w);
    here = λ g k. was.leaf-whole one r a g l at k;
    distinct = well.shape.distinct-listed r (chosen i r) l (mark_mem i well st was r a at l);
  }

  pub whole-kept : (r a : ℕ) → key st.region_keys r ≡ some a → T i.one_way → T (leaf i r) → (first : ℕ) → key st.firsts r ≡ some first
      → Kept i (queue_wanted i (close_leaf i st r) first (chosen i r) (chosen i r).list)
  whole-kept r a at one l first first-is =
      (whole_keeps i well r first (region_range i well st was r at) l (λ s es. Unit {0}) (λ s e es x w q. tt) (λ s e es x w q. tt)
      (close_leaf i st r) (chosen i r).list (whole-rest r a at one l first first-is) tt).0.kept

  pub step_kept : T (not (settled i st)) → Kept i (step i st)
  step_kept u = step_case i st was.sizes (Kept i) u
      (λ r a at due. region_case i well st was (Kept i) r a at (λ l. inner-kept i well st was r a at l) (λ two l first q e k n h. leaf-kept i well st was r a at l first q e k n two)
      (λ t. closed_kept i well st was r a at) (λ one l first q. whole-kept r a at one l first q))
      (λ y b at due. yard-kept i well st was y b at)

-- ---- the start

pub word_nothing : (n v : ℕ) → word_at (replicate n unqueued) v ≡ unqueued
unfolding word_at
word_nothing zero v = refl
word_nothing (suc n) zero = refl
word_nothing (suc n) (suc v) = word_nothing n v

key_nothing : (n v : ℕ) → key (replicate n unqueued) v ≡ none
unfolding key
key_nothing n v = rw (word_nothing n v) seen_mark

left_nothing : (n v : ℕ) → left (replicate n false) v ≡ false
unfolding left
left_nothing zero v = refl
left_nothing (suc n) zero = refl
left_nothing (suc n) (suc v) = left_nothing n v

module _ (i : Instance) (well : WellFormed i) where
  -- Only the root is queued, if it may enter.
  pub start_key : (P : Option ℕ → Type 0) (v : ℕ) → (v ≡ 0 → T (i.admits 0) → P (some (bound i 0))) → ((v ≡ 0 → T (i.admits 0) → ⊥) → P none)
      → P (key (root_keys i) v)
  unfolding root_keys
  start_key P v root rest = choose_case (λ (ws : List ℕ). P (key ws v)) _
      (λ t. key_put P (replicate (size i) unqueued) 0 (bound i 0) (omega (arith, bound-most i well 0)) (rw length-replicate well.shape.root) v (λ p. root p t) (λ n. rw key_nothing (rest (λ p u. n p))))
      (λ t. rw key_nothing (rest (λ p u. T_not (i.admits 0) t u)))

  start_length : length (root_keys i) ≡ size i
  unfolding root_keys
  start_length = choose_case (λ (ws : List ℕ). length ws ≡ size i) _
      (λ t. length-set (replicate (size i) unqueued) 0 (bound i 0) ∙ length-replicate (size i) unqueued) (λ t. length-replicate (size i) unqueued)

  pub start_yard : (v : ℕ) {a : ℕ} → key (start_search i).yard_keys v ≡ some a → ⊥
  unfolding start_search
  start_yard v e = no_key (sym (key_nothing i.tree.junctions v) ∙ e)

  pub start_left : (v : ℕ) → T (not (left (start_search i).gone v))
  unfolding start_search
  start_left v = rw left_nothing tt

  start_kept : Kept i (start_search i)
  unfolding start_search ranked
  start_kept = record {
    sizes = record {
      regions = start_length;
      yards = length-replicate i.tree.junctions unqueued;
      firsts = start_length;
      gone = length-replicate i.tree.junctions false;
    };
    queued-left = λ v b e. absurd (start_yard v e);
    queued_new = λ v b e. absurd (start_yard v e);
    measured-left = λ v k. absurd (not-nil k);
    once = tt;
    first-ranked = sym (front-none i.rule);
    admitted = λ v b. start_key (λ o. o ≡ some b → T (i.admits v)) v (λ p t e. rw p t) (λ p e. absurd (no_key e));
    regions_in = λ v b y. start_key (λ o. o ≡ some b → Below i v y → Below i 0 y) v (λ p t e below. rw p at below) (λ p e. absurd (no_key e));
    yards_in_lem = λ v b e. absurd (start_yard v e);
    measured_in = λ v k. absurd (not-nil k);
    has_first = λ v b. start_key (λ o. o ≡ some b
        → T (has (key (start_search i).firsts v))) v (λ p t e. start_key (λ o. T (has o)) v (λ q u. tt) (λ q. absurd (q p t))) (λ p e. absurd (no_key e));
    parent-first = λ r c k. start_key (λ o. T (has o)
        → T (has (key (start_search i).firsts r))) c (λ p u. absurd (omega (arith, well.shape.rise r c k))) (λ p t. absurd t);
    parent-taken = λ r c k. start_key (λ o. T (has o)
        → key (start_search i).region_keys r ≡ none) c (λ p u. absurd (omega (arith, well.shape.rise r c k))) (λ p t. absurd t);
    leaf_open = λ v b g l e k w. record { element = g; mem = k; stays = stays_by i (start_search i).gone g.yard (start_left g.yard) w };
    leaf_fresh = λ v e l h k t. start_left e.yard;
    leaf-whole = λ one v b e l q k. start_left e.yard;
  }

  pub run-kept : (limit : ℕ) → Kept i (run i limit).state
  unfolding run advance
  run-kept zero = start_kept
  run-kept (suc limit) = choose_case (λ (o : Outcome). Kept i o.state) (settled i (run i limit).state) (λ t. run-kept limit) (λ t. step_kept i well (run i
      limit).state (run-kept limit) t)
