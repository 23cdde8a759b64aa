-- No key is above sixteen times a u32, whatever the tree's numbers say: keys are far below `unqueued`. Assumes nothing.
use mathlib.Core.Path.{◌≡◌, refl, sym, ◌∙◌}
use mathlib.Core.Bool.{true, not}
use mathlib.Core.List.Memᴰ.{head}
use mathlib.Core.List.{List, ◌∷◌, Memᴰ as Mem}
use mathlib.Core.Option.{Option, some}
use Prim.Native.Nat.{ℕ, zero, suc, ◌≤◌, ◌<◌}
use native.Mathlib.Omega.{arith}
use lib.ListN.{set}
use lib.Dec.{T}
use Rattle.book.proofs.Choosing.{choose_case}
use Rattle.tree_layout.specs.Values.{Element}
use Rattle.search_rules.specs.Instance.{Instance, size, children, marks, leaf}
use Rattle.search_rules.specs.Bounds.{chosen}
use Rattle.search_rules.specs.Queue.{unqueued, word_at}
use Rattle.search_rules.specs.Step.{queue_yard, queue_wanted}
use Rattle.search_rules.specs.Step.{SearchState, passed, open_inner, queue_next, close_leaf, take_yard, step, settled, start_search}
use Rattle.search_rules.specs.Run.{Outcome, advance, run}
use Rattle.search_rules.specs.Facts.{WellFormed}
use Rattle.search_rules.specs.Theorems.{KeysFit}
use Rattle.search_rules.proofs.Bounds.{chosen-mem}
use Rattle.search_rules.proofs.Limits.{bound-most, f-most, yard_bound-most}
use Rattle.search_rules.proofs.Queue.{key, word_key, key_eq, no_key, Entered, queued-child, kept, Again, empty, more}
use Rattle.search_rules.proofs.Stepping.{step_case}
use Rattle.search_rules.proofs.Kept.{Kept, InnerKey, child, taken, same, inner_key, inner_first, mark_mem, leaf-yard_key, leaf_region_key, leaf_again}
use Rattle.search_rules.proofs.Kept.{region_range, Rest, whole-yard_key, whole_keeps, whole-rest}
use Rattle.search_rules.proofs.Kept.{closed_key, taken-yard_key, region_case, start_key, start_yard, run-kept}

abbrev most : ℕ
most = 68719476720

-- no key is above that number
record Low (st : SearchState) : Type 0 where
  regions : (v a : ℕ) → key st.region_keys v ≡ some a → a ≤ most
  yards : (v a : ℕ) → key st.yard_keys v ≡ some a → a ≤ most
  firsts : (v a : ℕ) → key st.firsts v ≡ some a → a ≤ most

module _ (i : Instance) (well : WellFormed i) where
  queue-fits : (r first : ℕ) (h : r < size i) (l : T (leaf i r)) (s : SearchState) (e : Element) (es : List Element) → Rest i well r first h l s (e ∷ es)
      → Low s → Low (queue_yard i s first (chosen i r) e)
  unfolding queue_yard
  queue-fits r first h l s e es rest low = record {
    regions = low.regions;
    yards = λ v b. whole-yard_key i well r first h l s e es rest (λ o. o ≡ some b → b ≤ most) v
        (λ p q. omega (
          arith,
          key_eq q,
          yard_bound-most i well r (chosen i r) e l (chosen-mem i r (well.shape.marked r h)) (rest.sub e (head refl)),
          low.firsts r first rest.first-is,
        ))
        (λ p q. low.yards v b q);
    firsts = low.firsts;
  }

  module _ (st : SearchState) (was : Kept i st) (low : Low st) where
    module _ (r a : ℕ) (at : key st.region_keys r ≡ some a) where
      inner-fits : Low (open_inner i st r a)
      unfolding open_inner
      inner-fits = record {
        regions = λ v b e. by_key v b (inner_key i well st was r a at v) e;
        yards = low.yards;
        firsts = λ v b e. by_first v b (inner_first i well st was r a at v) e;
      }
        where
          by_key : (v b : ℕ) {o : Option ℕ} → InnerKey i well st was r a at v o → o ≡ some b → b ≤ most
          by_key v b (child k) e = omega (arith, key_eq e, bound-most i well v, low.regions r a at)
          by_key v b (taken p) e = absurd (no_key e)
          by_key v b (same p n q) e = low.regions v b (sym q ∙ e)

          by_first : (v b : ℕ) {o : Option ℕ} → Entered i a (children i r) st.firsts v o → o ≡ some b → b ≤ most
          by_first v b (queued-child k) e = omega (arith, key_eq e, bound-most i well v, low.regions r a at)
          by_first v b (kept n q) e = low.firsts v b (sym q ∙ e)

      leaf-fits : (is_IsLeaf : T (leaf i r)) (first : ℕ) → key st.firsts r ≡ some first → (e : Element) → (mem : Mem e (chosen i r).list)
          → T (not (passed i st.gone e.yard))
          → Low (queue_next i st r first (chosen i r) e)
      unfolding queue_next
      leaf-fits is_IsLeaf first first-is e mem stays = record {
        regions = λ v b. leaf_region_key i well st was r a at is_IsLeaf first first-is e mem stays (λ o. o ≡ some b → b ≤ most) v
            (λ p q. by_again b (leaf_again i well st was r a at is_IsLeaf first first-is e mem stays) q) (λ p q. low.regions v b q);
        yards = λ v b. leaf-yard_key i well st was r a at is_IsLeaf first first-is e mem stays (λ o. o ≡ some b → b ≤ most) v
            (λ p q. omega (arith, key_eq q, yard_bound-most i well r (chosen i r) e is_IsLeaf mark mem, low.firsts r first first-is)) (λ p q. low.yards v b q);
        firsts = low.firsts;
      }
        where
          mark : Mem (chosen i r) (marks i r)
          mark = mark_mem i well st was r a at is_IsLeaf

          by_again : (b : ℕ) {o : Option ℕ} → Again i (set st.gone e.yard true) first (chosen i r) o → o ≡ some b → b ≤ most
          by_again b (empty h) q = absurd (no_key q)
          by_again b (more x j t l) q = omega (arith, key_eq q, f-most i well r (chosen i r) x is_IsLeaf mark j, low.firsts r first first-is)

      closed_fits : Low (close_leaf i st r)
      unfolding close_leaf
      closed_fits = record {
        regions = λ v b. closed_key i well st was r a at (λ o. o ≡ some b → b ≤ most) v (λ p q. absurd (no_key q)) (λ p q. low.regions v b q);
        yards = low.yards;
        firsts = low.firsts;
      }

    whole-fits-all : (r a : ℕ) → key st.region_keys r ≡ some a → T i.one_way → T (leaf i r) → (first : ℕ) → key st.firsts r ≡ some first
        → Low (queue_wanted i (close_leaf i st r) first (chosen i r) (chosen i r).list)
    whole-fits-all r a at one l first first-is =
        let h = region_range i well st was r at in
        (whole_keeps i well r first h l (λ s es. Low s) (λ s e es rest w q. queue-fits r first h l s e es rest q) (λ s e es rest w q. q)
        (close_leaf i st r) (chosen i r).list (whole-rest i well st was r a at one l first first-is) (closed_fits r a at)).1

    yard-low : (y b : ℕ) → key st.yard_keys y ≡ some b → Low (take_yard i st y)
    unfolding take_yard
    yard-low y b at = record {
      regions = low.regions;
      yards = λ v c. taken-yard_key i well st was y b at (λ o. o ≡ some c → c ≤ most) v (λ p q. absurd (no_key q)) (λ p q. low.yards v c q);
      firsts = low.firsts;
    }

    step_fits : T (not (settled i st)) → Low (step i st)
    step_fits u = step_case i st was.sizes Low u
        (λ r a at due. region_case i well st was Low r a at (λ l. inner-fits r a at) (λ two l first q e k n h. leaf-fits r a at l first q e k n)
        (λ t. closed_fits r a at) (λ one l first q. whole-fits-all r a at one l first q))
        (λ y b at due. yard-low y b at)

  start_fits : Low (start_search i)
  unfolding start_search
  start_fits = record {
    regions = λ v b. start_key i well (λ o. o ≡ some b → b ≤ most) v (λ p t q. omega (arith, key_eq q, bound-most i well 0)) (λ p q. absurd (no_key q));
    yards = λ v b e. absurd (start_yard i well v e);
    firsts = λ v b. start_key i well (λ o. o ≡ some b → b ≤ most) v (λ p t q. omega (arith, key_eq q, bound-most i well 0)) (λ p q. absurd (no_key q));
  }

  run-low : (limit : ℕ) → Low (run i limit).state
  unfolding run advance
  run-low zero = start_fits
  run-low (suc limit) = choose_case (λ (o : Outcome). Low o.state) (settled i (run i limit).state) (λ t. run-low limit)
      (λ t. step_fits (run i limit).state (run-kept i well limit) (run-low limit) t)

  -- every key of every state is at most that number
  pub run_fits : (limit : ℕ) → KeysFit 68719476720 (run i limit).state
  run_fits limit = let h = run-low limit in record {
    regions = λ v s. h.regions v _ (word_key (run i limit).state.region_keys v (word_at (run i limit).state.region_keys v) refl s);
    yards = λ v s. h.yards v _ (word_key (run i limit).state.yard_keys v (word_at (run i limit).state.yard_keys v) refl s);
    firsts = λ v s. h.firsts v _ (word_key (run i limit).state.firsts v (word_at (run i limit).state.firsts v) refl s);
  }
