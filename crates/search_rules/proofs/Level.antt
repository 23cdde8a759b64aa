-- The keys taken never fall; so on a true tree no measured yard's key is past what ends the search. Assumes nothing.
use mathlib.Core.Path.{◌≡◌, sym, ◌∙◌}
use mathlib.Core.Logic.{◌⊎◌, inl, inr, ◌≢◌}
use mathlib.Core.Bool.{Bool, true, not}
use mathlib.Core.List.Memᴰ.{cases_cons}
use mathlib.Core.List.Memᴰ.{not-nil}
use mathlib.Core.List.{List, ◌∷◌, Memᴰ as Mem}
use mathlib.Core.Option.{Option, none, some}
use Prim.Native.Nat.{ℕ, zero, suc, ◌≤◌, ◌<◌, max}
use native.Mathlib.Omega.{arith}
use lib.ListN.{length, set}
use lib.Dec.{T}
use Rattle.book.proofs.Choosing.{choose_case}
use Rattle.tree_layout.specs.Values.{Element, Mark}
use Rattle.search_rules.specs.Order.{Entry}
use Rattle.search_rules.specs.Instance.{Instance, size, leaf}
use Rattle.search_rules.specs.Bounds.{total, chosen, yard_bound}
use Rattle.search_rules.specs.Keys.{yard_key}
use Rattle.search_rules.specs.Queue.{unqueued}
use Rattle.search_rules.specs.Keeping.{keep_by, keep}
use Rattle.search_rules.specs.Held.{entry}
use Rattle.search_rules.specs.Step.{queue_yard, queue_wanted}
use Rattle.search_rules.specs.Step.{SearchState, passed, open_inner, queue_next, close_leaf, take_yard, step, settled, start_search}
use Rattle.search_rules.specs.Run.{Outcome, advance, run}
use Rattle.search_rules.specs.Facts.{Below, WellFormed, SoundInstance}
use Rattle.search_rules.specs.Theorems.{NotPast}
use Rattle.search_rules.proofs.Fronts.{keep-not_past, not_past_less}
use Rattle.search_rules.proofs.Bounds.{f-le}
use Rattle.search_rules.proofs.Queue.{key, key_eq, no_key, Again, empty, more}
use Rattle.search_rules.proofs.Stepping.{Due, step_case}
use Rattle.search_rules.proofs.Kept.{Kept, stays_before, closed_key, InnerKey, child, taken, same, inner_key, yard-fits}
use Rattle.search_rules.proofs.Kept.{region_range, Rest, whole-yard_key, whole_keeps, whole-rest}
use Rattle.search_rules.proofs.Kept.{leaf-yard_key, leaf_region_key, leaf_again, taken-yard_key, yard-kept, region_case, run-kept}
use Rattle.search_rules.proofs.Keys.{yard-is, key_low}
use Rattle.search_rules.proofs.Keyed.{Keyed, run_keyed}
use Rattle.search_rules.proofs.Found.{kept-listing}

-- What is known of a measured yard: no queued key is below its own, which is not past what ends the search.
pub record MeasuredKey (i : Instance) (st : SearchState) (y : ℕ) : Type 0 where
  pub regions : (v b : ℕ) → key st.region_keys v ≡ some b → yard_key i y ≤ b
  pub yards : (v b : ℕ) → key st.yard_keys v ≡ some b → yard_key i y ≤ b
  pub held : NotPast i.rule st.held (yard_key i y)

abbrev pub Level : Instance → SearchState → Type 0
Level i st = (y : ℕ) → Mem y st.measured → MeasuredKey i st y

-- the same while a leaf queues its yards, whose first key no measured yard's is above
record LevelBelow (i : Instance) (first : ℕ) (st : SearchState) : Type 0 where
  level : Level i st
  below : (y : ℕ) → Mem y st.measured → yard_key i y ≤ first

module _ (i : Instance) (well : WellFormed i) where
  queue_level : (r first : ℕ) (h : r < size i) (l : T (leaf i r)) (s : SearchState) (e : Element) (es : List Element) → Rest i well r first h l s (e ∷ es)
      → LevelBelow i first s → LevelBelow i first (queue_yard i s first (chosen i r) e)
  unfolding queue_yard
  queue_level r first h l s e es rest q = record {
    level = λ z k. record {
      regions = (q.level z k).regions;
      yards = λ v b. whole-yard_key i well r first h l s e es rest (λ o. o ≡ some b → yard_key i z ≤ b) v
          (λ p t. omega (arith, key_eq t, q.below z k)) (λ p t. (q.level z k).yards v b t);
      held = (q.level z k).held;
    };
    below = q.below;
  }

  module _ (st : SearchState) (was : Kept i st) (keyed : Keyed i st) (level : Level i st) where
    module _ (r a : ℕ) (at : key st.region_keys r ≡ some a) where
      -- ---- an inner region

      inner_level : Level i (open_inner i st r a)
      unfolding open_inner
      inner_level y k = record {
        regions = λ v b e. go v b (inner_key i well st was r a at v) e;
        yards = (level y k).yards;
        held = (level y k).held;
      }
        where
          go : (v b : ℕ) {o : Option ℕ} → InnerKey i well st was r a at v o → o ≡ some b → yard_key i y ≤ b
          go v b (child j) e = omega (arith, key_eq e, (level y k).regions r a at)
          go v b (taken p) e = absurd (no_key e)
          go v b (same p n q) e = (level y k).regions v b (sym q ∙ e)

      -- ---- a leaf

      leaf_level : (is_IsLeaf : T (leaf i r)) (first : ℕ) → key st.firsts r ≡ some first → (e : Element) → (mem : Mem e (chosen i r).list)
          → T (not (passed i st.gone e.yard))
          → T (not i.one_way) → Level i (queue_next i st r first (chosen i r) e)
      unfolding queue_next
      leaf_level is_IsLeaf first first-is e mem stays two z k = record {
        regions = λ v b. leaf_region_key i well st was r a at is_IsLeaf first first-is e mem stays (λ o. o ≡ some b → yard_key i z ≤ b) v
            (λ p q. omega (arith, again_up b (leaf_again i well st was r a at is_IsLeaf first first-is e mem stays) q, (level z k).regions r a at))
            (λ p q. (level z k).regions v b q);
        yards = λ v b. leaf-yard_key i well st was r a at is_IsLeaf first first-is e mem stays (λ o. o ≡ some b → yard_key i z ≤ b) v
            (λ p q. omega (arith, key_eq q, yard_up, (level z k).regions r a at)) (λ p q. (level z k).yards v b q);
        held = (level z k).held;
      }
        where
          m : Mark
          m = chosen i r

          fits : e.yard < length st.gone
          fits = rw was.sizes.gone (yard-fits i well st was r a at is_IsLeaf first first-is e mem stays)

          gone' : List Bool
          gone' = set st.gone e.yard true

          -- the new keys are not below the one taken
          again_up : (b : ℕ) {o : Option ℕ} → Again i gone' first m o → o ≡ some b → a ≤ b
          again_up b (empty h) q = absurd (no_key q)
          again_up b (more x j t l) q = omega (
            arith,
            key_eq q,
            keyed.first-is r first first-is,
            keyed.leaf-is r a x is_IsLeaf at j (stays_before i st.gone e.yard fits x.yard t),
          )

          yard_up : a ≤ max (yard_bound i m e) first
          yard_up = omega (arith, keyed.first-is r first first-is, keyed.leaf-is r a e is_IsLeaf at mem stays, f-le i two m e)

      -- ---- a leaf without any wanted yard

      closed_level : Level i (close_leaf i st r)
      unfolding close_leaf
      closed_level z k = record {
        regions = λ v b. closed_key i well st was r a at (λ o. o ≡ some b → yard_key i z ≤ b) v (λ p q. absurd (no_key q)) (λ p q. (level z k).regions v b q);
        yards = (level z k).yards;
        held = (level z k).held;
      }

    -- ---- a leaf that queues its yards all at once

    taken_level : (r a : ℕ) (at : key st.region_keys r ≡ some a) → T i.one_way → (first : ℕ) → key st.firsts r ≡ some first
        → LevelBelow i first (close_leaf i st r)
    unfolding close_leaf
    taken_level r a at one first first-is = record {
      level = closed_level r a at;
      below = λ z k. omega (arith, (level z k).regions r a at, keyed.whole_is one r a at, keyed.first-is r first first-is);
    }

    whole_level : (r a : ℕ) → key st.region_keys r ≡ some a → T i.one_way → T (leaf i r) → (first : ℕ) → key st.firsts r ≡ some first
        → Level i (queue_wanted i (close_leaf i st r) first (chosen i r) (chosen i r).list)
    whole_level r a at one l first first-is =
        let h = region_range i well st was r at in
        (whole_keeps i well r first h l (λ s es. LevelBelow i first s) (λ s e es rest w q. queue_level r first h l s e es rest q) (λ s e es rest w q. q)
        (close_leaf i st r) (chosen i r).list (whole-rest i well st was r a at one l first first-is) (taken_level r a at one first first-is)).1.level

    -- ---- a yard

    yard_level : (y b : ℕ) → b ≤ total i y → key st.yard_keys y ≡ some b → Due i st b → Level i (take_yard i st y)
    unfolding take_yard keep entry
    yard_level y b low at due z k = measured (cases_cons k)
      where
        held' : List Entry
        held' = keep_by i.rule (entry i y) st.held

        yard_key_lem : (P : Option ℕ → Type 0) (v : ℕ) → (v ≡ y → P none) → (v ≢ y → P (key st.yard_keys v)) → P (key (set st.yard_keys y unqueued) v)
        yard_key_lem = taken-yard_key i well st was y b at

        up : NotPast i.rule held' b
        up = keep-not_past i.rule (entry i y) st.held b (kept-listing i st was).allowed due.held
            (λ j. omega (arith, low, (kept-listing i (take_yard i st y) (yard-kept i well st was y b at)).greatest (entry i y) j))

        own : b ≡ yard_key i y
        own = keyed.queued-is y b at

        measured : (z ≡ y) ⊎ Mem z st.measured → MeasuredKey i (take_yard i st y) z
        measured (inl p) = rw p (record {
          regions = λ v c e. omega (arith, own, due.regions v c e);
          yards = λ v c. yard_key_lem (λ o. o ≡ some c → yard_key i y ≤ c) v (λ q s. absurd (no_key s)) (λ q s. omega (arith, own, due.yards v c s));
          held = rw (← own) up;
        })
        measured (inr j) = record {
          regions = (level z j).regions;
          yards = λ v c. yard_key_lem (λ o. o ≡ some c → yard_key i z ≤ c) v (λ p q. absurd (no_key q)) (λ p q. (level z j).yards v c q);
          held = not_past_less i.rule held' (yard_key i z) b ((level z j).yards y b at) up;
        }

    step_level : ((y : ℕ) → Below i 0 y → yard_key i y ≤ total i y) → T (not (settled i st)) → Level i (step i st)
    step_level low u = step_case i st was.sizes (Level i) u
        (λ r a at due. region_case i well st was (Level i) r a at (λ l. inner_level r a at) (λ two l first q e k n h. leaf_level r a at l first q e k n two)
        (λ t. closed_level r a at) (λ one l first q. whole_level r a at one l first q))
        (λ y b at due. yard_level y b (omega (arith, keyed.queued-is y b at, low y (was.yards_in_lem y b at))) at due)

  start_level : Level i (start_search i)
  unfolding start_search
  start_level y k = absurd (not-nil k)

module _ (i : Instance) (sound : SoundInstance i) where
  run_level : (limit : ℕ) → Level i (run i limit).state
  unfolding run advance
  run_level zero = start_level i sound.well
  run_level (suc limit) = choose_case (λ (o : Outcome). Level i o.state) (settled i (run i limit).state) (λ t. run_level limit)
      (λ t. step_level i sound.well (run i limit).state (run-kept i sound.well limit) (run_keyed i sound.well limit) (run_level limit) (key_low i sound)
      t)

  -- The key of a measured yard is not past what ends the search.
  pub run-within : (limit y : ℕ) → Mem y (run i limit).state.measured → NotPast i.rule (run i limit).state.held (yard_key i y)
  run-within limit y k = (run_level limit y k).held

  -- Nor is its bound, of whatever leaf's chosen list it is an element.
  pub run-bound-within : (limit r : ℕ) (e : Element) → T (leaf i r) → r < size i → Mem e (chosen i r).list → Mem e.yard (run i limit).state.measured
      → NotPast i.rule (run i limit).state.held (yard_bound i (chosen i r) e)
  run-bound-within limit r e l h k j = not_past_less i.rule (run i limit).state.held (yard_bound i (chosen i r) e) (yard_key i e.yard)
      (omega (arith, yard-is i sound.well.shape r e h l k)) (run-within limit e.yard j)
