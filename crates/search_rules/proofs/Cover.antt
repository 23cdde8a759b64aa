-- Every wanted yard that may be reached is measured, queued, or waits below a queued region. Assumes nothing.
use mathlib.Core.Path.{◌≡◌, refl, ◌∙◌}
use mathlib.Core.Logic.{◌⊎◌, inl, inr, ⊎_elim, ◌≢◌}
use mathlib.Core.Bool.{Bool, true, not}
use mathlib.Core.List.Memᴰ.{head}
use mathlib.Core.List.Memᴰ.{not-nil}
use mathlib.Core.List.Memᴰ.{tail}
use mathlib.Core.List.{List, ◌∷◌, Memᴰ as Mem}
use mathlib.Core.List.Memᴰ.{cases_cons}
use mathlib.Core.Option.{Option, some}
use Prim.Native.Nat.{ℕ, zero, suc, ◌<◌, max}
use native.Mathlib.Decide.{ℕ_discrete}
use native.Mathlib.Omega.{arith}
use lib.ListN.{length, set}
use lib.Dec.{T, T_not}
use Rattle.book.proofs.Choosing.{choose_case}
use Rattle.tree_layout.specs.Values.{Element, Mark}
use Rattle.tree_leaf.specs.Leaf.{yards_in}
use Rattle.tree_leaf.proofs.Named.{yards-none, yards-cons, yards_of_lem}
use Rattle.search_rules.specs.Instance.{Instance, size, children, leaf}
use Rattle.search_rules.specs.Bounds.{bound, chosen, f, yard_bound}
use Rattle.search_rules.specs.Step.{queue_yard, queue_wanted}
use Rattle.search_rules.specs.Step.{SearchState, left, passed, again_key, next_f, open_inner, queue_next, close_leaf, take_yard, step, settled, start_search}
use Rattle.search_rules.specs.Run.{Outcome, advance, run}
use Rattle.search_rules.specs.Facts.{Below, WellFormed}
use Rattle.search_rules.specs.Theorems.{barren}
use Rattle.search_rules.proofs.Bounds.{below-admitted, below-wanted, open_below, in_chosen}
use Rattle.search_rules.proofs.Queue.{seen, key, Again, empty, more, stays_by}
use Rattle.search_rules.proofs.Barren.{barren-leaf, barren-none}
use Rattle.search_rules.proofs.Stepping.{step_case}
use Rattle.search_rules.proofs.Kept.{Kept, left_other, InnerKey, child, taken, same, inner_key, region_range, yard-fits, closed_key}
use Rattle.search_rules.proofs.Kept.{Rest, whole-gone, whole-yard_key, whole_keeps, whole-rest}
use Rattle.search_rules.proofs.Kept.{leaf-yard_key, leaf_region_key, leaf_again, taken-yard_key, region_case, start_key, start_left, run-kept}

-- Where a yard of the tree stands.
pub data Cover (i : Instance) (st : SearchState) (y : ℕ) : Type 0 where
  is-measured : Mem y st.measured → Cover i st y
  in_queue : (a : ℕ) → key st.yard_keys y ≡ some a → Cover i st y
  below-queued : (r a : ℕ) → key st.region_keys r ≡ some a → Below i r y → T (not (left st.gone y)) → Cover i st y

abbrev pub Covered : Instance → SearchState → Type 0
Covered i st = (y : ℕ) → Below i 0 y → Cover i st y

-- the same while a leaf queues some elements: or it is named by one of them
abbrev CoveredBut : Instance → SearchState → List Element → Type 0
CoveredBut i st es = (y : ℕ) → Below i 0 y → Cover i st y ⊎ Mem y (yards_in es)

module _ (i : Instance) (well : WellFormed i) where
  -- ---- a yard of a leaf that queues all of them

  queue_covers : (r first : ℕ) (h : r < size i) (l : T (leaf i r)) (s : SearchState) (e : Element) (es : List Element) → Rest i well r first h l s (e ∷ es)
      → CoveredBut i s (e ∷ es) → CoveredBut i (queue_yard i s first (chosen i r) e) es
  unfolding queue_yard
  queue_covers r first h l s e es rest but z below₀ = ⊎_elim (λ c. inl (covers c)) (λ k. by_name (cases_cons (rw (yards-cons e es) at k))) (but z below₀)
    where
      new : SearchState
      new = queue_yard i s first (chosen i r) e

      yard_key_lem : (P : Option ℕ → Type 0) (v : ℕ) → (v ≡ e.yard → P (some (max (yard_bound i (chosen i r) e) first))) → (v ≢ e.yard → P (key s.yard_keys v))
          → P (key new.yard_keys v)
      yard_key_lem = whole-yard_key i well r first h l s e es rest

      own : z ≡ e.yard → Cover i new z
      own p = in_queue (max (yard_bound i (chosen i r) e) first) (yard_key_lem (λ o. o ≡ some (max (yard_bound i (chosen i r) e) first)) z (λ q. refl) (λ q. absurd (q p)))

      covers : Cover i s z → Cover i new z
      covers (is-measured k) = is-measured k
      covers (in_queue b q) = go (ℕ_discrete z e.yard)
        where
          go : Dec (z ≡ e.yard) → Cover i new z
          go (yes p) = own p
          go (no p) = in_queue b (yard_key_lem (λ o. o ≡ some b) z (λ t. absurd (p t)) (λ t. q))
      covers (below-queued v b q below n) = go (ℕ_discrete z e.yard)
        where
          go : Dec (z ≡ e.yard) → Cover i new z
          go (yes p) = own p
          go (no p) = below-queued v b q below (left_other s.gone e.yard (whole-gone i well r first h l s e es rest) z p n)

      by_name : (z ≡ e.yard) ⊎ Mem z (yards_in es) → Cover i new z ⊎ Mem z (yards_in es)
      by_name (inl p) = inl (own p)
      by_name (inr k) = inr k

  pass_covers : (s : SearchState) (e : Element) (es : List Element) → T (not (i.wants e.yard)) → CoveredBut i s (e ∷ es) → CoveredBut i s es
  pass_covers s e es w but z below = ⊎_elim (λ c. inl c) (λ k. by_name (cases_cons (rw (yards-cons e es) at k))) (but z below)
    where
      by_name : (z ≡ e.yard) ⊎ Mem z (yards_in es) → Cover i s z ⊎ Mem z (yards_in es)
      by_name (inl p) = absurd (T_not (i.wants e.yard) w (rw p at (below-wanted i below)))
      by_name (inr k) = inr k

  module _ (st : SearchState) (was : Kept i st) (covered : Covered i st) where
    module _ (r a : ℕ) (at : key st.region_keys r ≡ some a) where
      -- ---- an inner region

      inner_covers : T (not (leaf i r)) → Covered i (open_inner i st r a)
      unfolding open_inner
      inner_covers inner y below₀ = covers (covered y below₀)
        where
          key' : ℕ → Option ℕ
          key' v = key (open_inner i st r a).region_keys v

          through : (v b : ℕ) → key st.region_keys v ≡ some b → Below i v y → T (not (left st.gone y)) → {o : Option ℕ}
              → InnerKey i well st was r a at v o → key' v ≡ o → Cover i (open_inner i st r a) y
          through v b e below n (child k) q = below-queued v (max (bound i v) a) q below n
          through v b e below n (taken p) q = down (open_below i inner (rw p at below))
            where
              down : (c : ℕ) × Mem c (children i r) × Below i c y → Cover i (open_inner i st r a) y
              down x = go (inner_key i well st was r a at x.0) refl
                where
                  go : {o : Option ℕ} → InnerKey i well st was r a at x.0 o → key' x.0 ≡ o → Cover i (open_inner i st r a) y
                  go (child k) q = below-queued x.0 (max (bound i x.0) a) q x.2 n
                  go (taken p) q = absurd (omega (arith, well.shape.rise r x.0 x.1))
                  go (same p m s) q = absurd (m x.1)
          through v b e below n (same p m s) q = below-queued v b (q ∙ s ∙ e) below n

          covers : Cover i st y → Cover i (open_inner i st r a) y
          covers (is-measured k) = is-measured k
          covers (in_queue b e) = in_queue b e
          covers (below-queued v b e below n) = through v b e below n (inner_key i well st was r a at v) refl

      -- ---- a leaf

      leaf_covers : (is_IsLeaf : T (leaf i r)) (first : ℕ) → key st.firsts r ≡ some first → (e : Element) → (mem : Mem e (chosen i r).list)
          → T (not (passed i st.gone e.yard))
          → Covered i (queue_next i st r first (chosen i r) e)
      unfolding queue_next
      leaf_covers is_IsLeaf first first-is e mem stays z below₀ = covers (covered z below₀)
        where
          m : Mark
          m = chosen i r

          y : ℕ
          y = e.yard

          fits : y < length st.gone
          fits = rw was.sizes.gone (yard-fits i well st was r a at is_IsLeaf first first-is e mem stays)

          gone' : List Bool
          gone' = set st.gone y true

          new : SearchState
          new = queue_next i st r first m e

          yard_key_lem : (P : Option ℕ → Type 0) (v : ℕ) → (v ≡ y → P (some (max (yard_bound i m e) first))) → (v ≢ y → P (key st.yard_keys v))
              → P (key new.yard_keys v)
          yard_key_lem = leaf-yard_key i well st was r a at is_IsLeaf first first-is e mem stays

          region_key : (P : Option ℕ → Type 0) (v : ℕ) → (v ≡ r → P (seen (again_key first (next_f i gone' m)))) → (v ≢ r → P (key st.region_keys v))
              → P (key new.region_keys v)
          region_key = leaf_region_key i well st was r a at is_IsLeaf first first-is e mem stays

          left-queued : z ≡ y → Cover i new z
          left-queued p = in_queue (max (yard_bound i m e) first) (yard_key_lem (λ o. o ≡ some (max (yard_bound i m e) first)) z (λ s. refl) (λ s. absurd (s p)))

          covers : Cover i st z → Cover i new z
          covers (is-measured k) = is-measured k
          covers (in_queue b q) = go (ℕ_discrete z y)
            where
              go : Dec (z ≡ y) → Cover i new z
              go (yes p) = left-queued p
              go (no p) = in_queue b (yard_key_lem (λ o. o ≡ some b) z (λ s. absurd (p s)) (λ s. q))
          covers (below-queued v b q below n) = go (ℕ_discrete z y)
            where
              again_cover : v ≡ r → z ≢ y → {o : Option ℕ} → Again i gone' first m o → key new.region_keys v ≡ o → Cover i new z
              again_cover p s (empty h) c = let x = in_chosen i well.shape (region_range i well st was r at) is_IsLeaf (rw p at below) in
                  absurd (T_not (passed i gone' z) (stays_by i gone' z (left_other st.gone y fits z s n) (below-wanted i below)) (rw x.names at (h x.element x.mem)))
              again_cover p s (more g k t l) c = below-queued v (max first (f i m g)) c below (left_other st.gone y fits z s n)

              at_key : (p : z ≢ y) → Dec (v ≡ r) → Cover i new z
              at_key p (yes s) = again_cover s p (leaf_again i well st was r a at is_IsLeaf first first-is e mem stays)
                  (region_key (λ o. o ≡ seen (again_key first (next_f i gone' m))) v (λ t. refl) (λ t. absurd (t s)))
              at_key p (no s) = below-queued v b (region_key (λ o. o ≡ some b) v (λ t. absurd (s t)) (λ t. q)) below (left_other st.gone y fits z p n)

              go : Dec (z ≡ y) → Cover i new z
              go (yes p) = left-queued p
              go (no p) = at_key p (ℕ_discrete v r)

      -- ---- a leaf without any wanted yard

      closed_covers : T (barren i r) → Covered i (close_leaf i st r)
      unfolding close_leaf
      closed_covers t z below₀ = covers (covered z below₀)
        where
          -- nothing is below it
          bare : Below i r z → ⊥
          bare below =
              let j = in_chosen i well.shape (region_range i well st was r at) (barren-leaf i r t) below in
              barren-none i r t j.element j.mem (rw j.names (below-wanted i below))

          covers : Cover i st z → Cover i (close_leaf i st r) z
          covers (is-measured k) = is-measured k
          covers (in_queue b q) = in_queue b q
          covers (below-queued v b q below n) =
              below-queued v b (closed_key i well st was r a at (λ o. o ≡ some b) v (λ p. absurd (bare (rw p at below))) (λ p. q)) below n

    -- ---- a leaf that queues its yards all at once

    taken_covers : (r a : ℕ) → key st.region_keys r ≡ some a → T (leaf i r) → CoveredBut i (close_leaf i st r) (chosen i r).list
    unfolding close_leaf
    taken_covers r a at l z below₀ = covers (covered z below₀)
      where
        covers : Cover i st z → Cover i (close_leaf i st r) z ⊎ Mem z (yards_in (chosen i r).list)
        covers (is-measured k) = inl (is-measured k)
        covers (in_queue b q) = inl (in_queue b q)
        covers (below-queued v b q below n) = go (ℕ_discrete v r)
          where
            go : Dec (v ≡ r) → Cover i (close_leaf i st r) z ⊎ Mem z (yards_in (chosen i r).list)
            go (yes p) =
                let x = in_chosen i well.shape (region_range i well st was r at) l (rw p at below) in
                inr (rw x.names at (yards_of_lem (chosen i r).list x.element x.mem))
            go (no p) = inl (below-queued v b (closed_key i well st was r a at (λ o. o ≡ some b) v (λ t. absurd (p t)) (λ t. q)) below n)

    whole_covers : (r a : ℕ) → key st.region_keys r ≡ some a → T i.one_way → T (leaf i r) → (first : ℕ) → key st.firsts r ≡ some first
        → Covered i (queue_wanted i (close_leaf i st r) first (chosen i r) (chosen i r).list)
    whole_covers r a at one l first first-is z below =
        let h = region_range i well st was r at in
        let all = whole_keeps i well r first h l (CoveredBut i) (λ s e es rest w q. queue_covers r first h l s e es rest q) (λ s e es rest w q. pass_covers s e es w q)
        (close_leaf i st r) (chosen i r).list (whole-rest i well st was r a at one l first first-is) (taken_covers r a at l) in
        ⊎_elim (λ c. c) (λ k. absurd (not-nil (rw yards-none at k))) (all.1 z below)

    -- ---- a yard

    yard_covers : (y b : ℕ) → key st.yard_keys y ≡ some b → Covered i (take_yard i st y)
    unfolding take_yard
    yard_covers y b at z below₀ = covers (covered z below₀)
      where
        covers : Cover i st z → Cover i (take_yard i st y) z
        covers (is-measured k) = is-measured (tail k)
        covers (in_queue c q) = go (ℕ_discrete z y)
          where
            go : Dec (z ≡ y) → Cover i (take_yard i st y) z
            go (yes p) = is-measured (head p)
            go (no p) = in_queue c (taken-yard_key i well st was y b at (λ o. o ≡ some c) z (λ s. absurd (p s)) (λ s. q))
        covers (below-queued v c q below n) = below-queued v c q below n

    step_covers : T (not (settled i st)) → Covered i (step i st)
    step_covers u = step_case i st was.sizes (Covered i) u
        (λ r a at due. region_case i well st was (Covered i) r a at (λ l. inner_covers r a at l) (λ two l first q e k n h. leaf_covers r a at l first q e k n)
        (λ t. closed_covers r a at t) (λ one l first q. whole_covers r a at one l first q))
        (λ y b at due. yard_covers y b at)

  start_covers : Covered i (start_search i)
  unfolding start_search
  start_covers y below = below-queued 0 (bound i 0) (start_key i well (λ o. o ≡ some (bound i 0)) 0 (λ p t. refl) (λ p. absurd (p refl (below-admitted i below))))
      below (start_left i well y)

  pub run_covers : (limit : ℕ) → Covered i (run i limit).state
  unfolding run advance
  run_covers zero = start_covers
  run_covers (suc limit) = choose_case (λ (o : Outcome). Covered i o.state) (settled i (run i limit).state) (λ t. run_covers limit)
      (λ t. step_covers (run i limit).state (run-kept i well limit) (run_covers limit) t)
