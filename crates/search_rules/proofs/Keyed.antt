-- A run's keys are those of the tree, the roads and the query. Assumes nothing.
use mathlib.Core.Path.{◌≡◌, refl, sym, ap, ◌∙◌}
use mathlib.Core.Logic.{◌⊎◌, inl, inr}
use mathlib.Core.Bool.{Bool, true, not}
use mathlib.Core.List.Memᴰ.{head}
use mathlib.Core.List.{List, ◌∷◌, Memᴰ as Mem}
use mathlib.Core.Option.{Option, some}
use Prim.Native.Nat.{ℕ, zero, suc, ◌≤◌, ◌<◌, max}
use native.Mathlib.Omega.{arith}
use lib.ListN.{length, set}
use lib.Dec.{T, T_not}
use Rattle.book.proofs.Choosing.{choose_case, T-split}
use Rattle.tree_layout.specs.Values.{Element}
use Rattle.search_rules.specs.Instance.{Instance, size, children, leaf}
use Rattle.search_rules.specs.Bounds.{bound, chosen, f}
use Rattle.search_rules.specs.Keys.{first_key, yard_key}
use Rattle.search_rules.specs.Step.{queue_yard, queue_wanted}
use Rattle.search_rules.specs.Step.{SearchState, left, passed, open_inner, queue_next, close_leaf, take_yard, step, settled, start_search}
use Rattle.search_rules.specs.Run.{Outcome, advance, run}
use Rattle.search_rules.specs.Facts.{Below, WellFormed}
use Rattle.search_rules.specs.Theorems.{KeysOf}
use Rattle.search_rules.proofs.Bounds.{f-le, below-wanted, in_chosen}
use Rattle.search_rules.proofs.Queue.{key, word_key, key_eq, no_key, Entered, queued-child, kept, Again, empty, more, stays_by}
use Rattle.search_rules.proofs.Stepping.{step_case}
use Rattle.search_rules.proofs.Kept.{Kept, stays_before, InnerKey, child, taken, same, inner_key, inner_first, region_range, yard-fits, leaf-yard_key, leaf_region_key}
use Rattle.search_rules.proofs.Kept.{Rest, whole-gone, whole-yard_key, whole_keeps, whole-rest}
use Rattle.search_rules.proofs.Kept.{leaf_again, closed_key, taken-yard_key, region_case, start_key, start_yard, run-kept}
use Rattle.search_rules.proofs.Keys.{first-root, first-child, yard-is, below_up}

-- what is queued for the first time, an inner region that is queued, and a queued yard have the key of their own; a queued leaf's is not above that of a yard that
-- waits in it
pub record Keyed (i : Instance) (st : SearchState) : Type 0 where
  pub first-is : (r a : ℕ) → key st.firsts r ≡ some a → a ≡ first_key i r
  pub inner-is : (r a : ℕ) → T (not (leaf i r)) → key st.region_keys r ≡ some a → a ≡ first_key i r
  pub queued-is : (y a : ℕ) → key st.yard_keys y ≡ some a → a ≡ yard_key i y
  pub leaf-is : (r a : ℕ) (g : Element) → T (leaf i r) → key st.region_keys r ≡ some a → Mem g (chosen i r).list → T (not (passed i st.gone g.yard))
      → a ≤ max (first_key i r) (f i (chosen i r) g)
  -- where a leaf queues its yards all at once, its key is its first
  pub whole_is : T i.one_way → (r a : ℕ) → key st.region_keys r ≡ some a → a ≡ first_key i r

module _ (i : Instance) (well : WellFormed i) where
  -- a yard of a leaf that queues all of them
  queue_keyed : (r first : ℕ) (h : r < size i) (l : T (leaf i r)) (s : SearchState) (e : Element) (es : List Element) (rest : Rest i well r first h l s (e ∷ es)) → Keyed i s
      → Keyed i (queue_yard i s first (chosen i r) e)
  unfolding queue_yard
  queue_keyed r first h l s e es rest k = record {
    first-is = k.first-is;
    inner-is = k.inner-is;
    queued-is = λ v b. whole-yard_key i well r first h l s e es rest (λ o. o ≡ some b → b ≡ yard_key i v) v
        (λ p q. rw p (omega (arith, key_eq q, k.first-is r first rest.first-is, yard-is i well.shape r e h l (rest.sub e (head refl)))))
        (λ p q. k.queued-is v b q);
    leaf-is = λ v b g t q j n. k.leaf-is v b g t q j (stays_before i s.gone e.yard (whole-gone i well r first h l s e es rest) g.yard n);
    whole_is = k.whole_is;
  }

  module _ (st : SearchState) (was : Kept i st) (keyed : Keyed i st) where
    module _ (r a : ℕ) (at : key st.region_keys r ≡ some a) where
      inner_keyed : T (not (leaf i r)) → Keyed i (open_inner i st r a)
      unfolding open_inner
      inner_keyed inner = record {
        first-is = λ v b e. first v b (inner_first i well st was r a at v) e;
        inner-is = λ v b n e. queued v b n (inner_key i well st was r a at v) e;
        queued-is = keyed.queued-is;
        leaf-is = λ v b g l e k n. waiting v b g l k n (inner_key i well st was r a at v) e;
        whole_is = λ one v b e. whole one v b (inner_key i well st was r a at v) e;
      }
        where
          raised : (v b : ℕ) → Mem v (children i r) → ◌≡◌ {A = Option ℕ} (some (max (bound i v) a)) (some b) → b ≡ first_key i v
          raised v b k e = omega (arith, key_eq e, keyed.inner-is r a inner at, first-child i well.shape r v k)

          first : (v b : ℕ) {o : Option ℕ} → Entered i a (children i r) st.firsts v o → o ≡ some b → b ≡ first_key i v
          first v b (queued-child k) e = raised v b k e
          first v b (kept n q) e = keyed.first-is v b (sym q ∙ e)

          queued : (v b : ℕ) → T (not (leaf i v)) → {o : Option ℕ} → InnerKey i well st was r a at v o → o ≡ some b → b ≡ first_key i v
          queued v b n (child k) e = raised v b k e
          queued v b n (taken p) e = absurd (no_key e)
          queued v b n (same p m q) e = keyed.inner-is v b n (sym q ∙ e)

          whole : T i.one_way → (v b : ℕ) {o : Option ℕ} → InnerKey i well st was r a at v o → o ≡ some b → b ≡ first_key i v
          whole one v b (child k) e = raised v b k e
          whole one v b (taken p) e = absurd (no_key e)
          whole one v b (same p m q) e = keyed.whole_is one v b (sym q ∙ e)

          waiting : (v b : ℕ) (g : Element) → T (leaf i v) → Mem g (chosen i v).list → T (not (passed i st.gone g.yard)) → {o : Option ℕ}
              → InnerKey i well st was r a at v o → o ≡ some b → b ≤ max (first_key i v) (f i (chosen i v) g)
          waiting v b g l k n (child j) e = omega (arith, raised v b j e)
          waiting v b g l k n (taken p) e = absurd (no_key e)
          waiting v b g l k n (same p m q) e = keyed.leaf-is v b g l (sym q ∙ e) k n

      leaf_keyed : (is_IsLeaf : T (leaf i r)) (first : ℕ) → key st.firsts r ≡ some first → (e : Element) → (mem : Mem e (chosen i r).list)
          → T (not (passed i st.gone e.yard))
          → T (not i.one_way) → Keyed i (queue_next i st r first (chosen i r) e)
      unfolding queue_next
      leaf_keyed is_IsLeaf first first-is e mem stays two = record {
        whole_is = λ one v b q. absurd (T_not i.one_way two one);
        first-is = keyed.first-is;
        inner-is = λ v b n. leaf_region_key i well st was r a at is_IsLeaf first first-is e mem stays (λ o. o ≡ some b → b ≡ first_key i v) v
            (λ p. absurd (T_not (leaf i v) n (rw p is_IsLeaf))) (λ p q. keyed.inner-is v b n q);
        queued-is = λ v b. leaf-yard_key i well st was r a at is_IsLeaf first first-is e mem stays (λ o. o ≡ some b → b ≡ yard_key i v) v
            (λ p q. rw p (omega (
              arith,
              key_eq q,
              keyed.first-is r first first-is,
              yard-is i well.shape r e (region_range i well st was r at) is_IsLeaf mem,
            )))
            (λ p q. keyed.queued-is v b q);
        leaf-is = λ v b g l. leaf_region_key i well st was r a at is_IsLeaf first first-is e mem stays (λ o. o ≡ some b → Mem g (chosen i v).list
            → T (not (passed i gone' g.yard)) → b ≤ max (first_key i v) (f i (chosen i v) g)) v
            (λ p q k n. rw p (waiting b g (leaf_again i well st was r a at is_IsLeaf first first-is e mem stays) q (rw p at k) n))
            (λ p q k n. keyed.leaf-is v b g l q k (stays_before i st.gone e.yard fits g.yard n));
      }
        where
          fits : e.yard < length st.gone
          fits = rw was.sizes.gone (yard-fits i well st was r a at is_IsLeaf first first-is e mem stays)

          gone' : List Bool
          gone' = set st.gone e.yard true

          waiting : (b : ℕ) (g : Element) {o : Option ℕ} → Again i gone' first (chosen i r) o → o ≡ some b → Mem g (chosen i r).list
              → T (not (passed i gone' g.yard)) → b ≤ max (first_key i r) (f i (chosen i r) g)
          waiting b g (empty h) q k n = absurd (no_key q)
          waiting b g (more x j t least) q k n = omega (arith, key_eq q, keyed.first-is r first first-is, least g k n)

      closed_keyed : Keyed i (close_leaf i st r)
      unfolding close_leaf
      closed_keyed = record {
        first-is = keyed.first-is;
        inner-is = λ v b n. closed_key i well st was r a at (λ o. o ≡ some b → b ≡ first_key i v) v (λ p q. absurd (no_key q)) (λ p q. keyed.inner-is v b n q);
        queued-is = keyed.queued-is;
        whole_is = λ one v b. closed_key i well st was r a at (λ o. o ≡ some b → b ≡ first_key i v) v (λ p q. absurd (no_key q)) (λ p q. keyed.whole_is one v b q);
        leaf-is = λ v b g l. closed_key i well st was r a at (λ o. o ≡ some b → Mem g (chosen i v).list → T (not (passed i st.gone g.yard))
            → b ≤ max (first_key i v) (f i (chosen i v) g)) v (λ p q. absurd (no_key q)) (λ p q. keyed.leaf-is v b g l q);
      }

    -- ---- a leaf that queues its yards all at once

    whole_keyed : (r a : ℕ) (at : key st.region_keys r ≡ some a) → T i.one_way → T (leaf i r) → (first : ℕ) → key st.firsts r ≡ some first
        → Keyed i (queue_wanted i (close_leaf i st r) first (chosen i r) (chosen i r).list)
    whole_keyed r a at one l first first-is =
        (whole_keeps i well r first (region_range i well st was r at) l (λ s es. Keyed i s) (λ s e es rest w k. on s e es rest k) (λ s e es rest w k. k)
        (close_leaf i st r) (chosen i r).list (whole-rest i well st was r a at one l first first-is) (closed_keyed r a at)).1
      where
        h : r < size i
        h = region_range i well st was r at

        on : (s : SearchState) (e : Element) (es : List Element) (rest : Rest i well r first h l s (e ∷ es)) → Keyed i s
            → Keyed i (queue_yard i s first (chosen i r) e)
        on s e es rest k = queue_keyed r first h l s e es rest k

    yard_keyed : (y b : ℕ) → key st.yard_keys y ≡ some b → Keyed i (take_yard i st y)
    unfolding take_yard
    yard_keyed y b at = record {
      first-is = keyed.first-is;
      inner-is = keyed.inner-is;
      queued-is = λ v c. taken-yard_key i well st was y b at (λ o. o ≡ some c → c ≡ yard_key i v) v (λ p q. absurd (no_key q)) (λ p q. keyed.queued-is v c q);
      leaf-is = keyed.leaf-is;
      whole_is = keyed.whole_is;
    }

    step_keyed : T (not (settled i st)) → Keyed i (step i st)
    step_keyed u = step_case i st was.sizes (Keyed i) u
        (λ r a at due. region_case i well st was (Keyed i) r a at (λ l. inner_keyed r a at l) (λ two l first q e k n h. leaf_keyed r a at l first q e k n two)
        (λ t. closed_keyed r a at) (λ one l first q. whole_keyed r a at one l first q))
        (λ y b at due. yard_keyed y b at)

  start_keyed : Keyed i (start_search i)
  unfolding start_search
  start_keyed = record {
    first-is = λ r a. start_key i well (λ o. o ≡ some a → a ≡ first_key i r) r (λ p t e. root r a p e) (λ p e. absurd (no_key e));
    inner-is = λ r a n. start_key i well (λ o. o ≡ some a → a ≡ first_key i r) r (λ p t e. root r a p e) (λ p e. absurd (no_key e));
    queued-is = λ y a e. absurd (start_yard i well y e);
    leaf-is = λ r a g l. start_key i well (λ o. o ≡ some a → Mem g (chosen i r).list → T (not (passed i (start_search i).gone g.yard))
        → a ≤ max (first_key i r) (f i (chosen i r) g)) r (λ p t e k n. omega (arith, root r a p e)) (λ p e. absurd (no_key e));
    whole_is = λ one r a. start_key i well (λ o. o ≡ some a → a ≡ first_key i r) r (λ p t e. root r a p e) (λ p e. absurd (no_key e));
  }
    where
      root : (r a : ℕ) → r ≡ 0 → ◌≡◌ {A = Option ℕ} (some (bound i 0)) (some a) → a ≡ first_key i r
      root r a p e = rw p (omega (arith, key_eq e, first-root i well.shape))

  pub run_keyed : (steps : ℕ) → Keyed i (run i steps).state
  unfolding run advance
  run_keyed zero = start_keyed
  run_keyed (suc steps) = choose_case (λ (o : Outcome). Keyed i o.state) (settled i (run i steps).state) (λ t. run_keyed steps)
      (λ t. step_keyed (run i steps).state (run-kept i well steps) (run_keyed steps) t)

  -- the key of a queued region below which a yard waits is not above the yard's own
  pub waits : (st : SearchState) → Kept i st → Keyed i st → (r a y : ℕ) → key st.region_keys r ≡ some a → Below i r y → T (not (left st.gone y))
      → a ≤ yard_key i y
  waits st was keyed r a y e b n = go (T-split (leaf i r))
    where
      h : r < size i
      h = region_range i well st was r e

      by_leaf : T (leaf i r) → T i.one_way ⊎ T (not i.one_way) → a ≤ yard_key i y
      by_leaf l (inl one) = omega (arith, keyed.whole_is one r a e, below_up i well.shape h b)
      by_leaf l (inr two) =
          let z = in_chosen i well.shape h l b in
          omega (
            arith,
            keyed.leaf-is r a z.element l e z.mem (rw z.names (stays_by i st.gone y n (below-wanted i b))),
            f-le i two (chosen i r) z.element,
            ap (yard_key i) z.names,
            yard-is i well.shape r z.element h l z.mem,
          )

      go : T (leaf i r) ⊎ T (not (leaf i r)) → a ≤ yard_key i y
      go (inr inner) = omega (arith, keyed.inner-is r a inner e, below_up i well.shape h b)
      go (inl l) = by_leaf l (T-split i.one_way)

  -- the keys of the tree, the roads and the query, and a run's
  pub keys_of : KeysOf i
  keys_of = record {
    root = first-root i well.shape;
    child = first-child i well.shape;
    yard = yard-is i well.shape;
    regions = λ steps r w. (run_keyed steps).first-is r _ (word_key (run i steps).state.firsts r _ refl w);
    yards = λ steps y w. (run_keyed steps).queued-is y _ (word_key (run i steps).state.yard_keys y _ refl w);
  }
