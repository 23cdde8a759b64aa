-- A step for each inner region and for each leaf that is taken in vain, and two for each yard, are enough to settle a search, whatever the tree's numbers say.
-- Assumes nothing.
use mathlib.Core.Path.{◌≡◌, refl, ap, ◌∙◌}
use mathlib.Core.Logic.{◌⊎◌, inl, inr, ◌≢◌}
use mathlib.Core.Bool.{Bool, true, false, not, ◌&&◌, ◌||◌}
use mathlib.Core.List.Memᴰ.{head}
use mathlib.Core.List.Memᴰ.{tail}
use mathlib.Core.List.{List, [], ◌∷◌, Memᴰ as Mem}
use mathlib.Core.Option.{Option, none, some}
use Prim.Native.Nat.{ℕ, zero, suc, ◌+◌, ◌≤◌, ◌<◌}
use native.Mathlib.Nat.{add-zero, add-suc}
use native.Mathlib.Omega.{arith}
use lib.ListN.{length, set}
use lib.Dec.{T, eqb, T_not, not_T}
use Rattle.book.specs.Choose.{choose}
use Rattle.book.proofs.Choosing.{choose_case, choose_yes, choose_no, and_left, and_right, and_both}
use Rattle.book.proofs.Lists.{or_left, or_right, or_cases}
use Rattle.tree_layout.specs.Values.{Element, Mark, region_at}
use Rattle.tree.specs.Yards.{numbers, sum_from, one_inner, inners}
use Rattle.tree.proofs.Counts.{numbers-none, numbers_more, numbers-mem, sum-none, sum_more, one-inner, inners-sum}
use Rattle.search_rules.specs.Instance.{Instance, size, children, leaf}
use Rattle.search_rules.specs.Bounds.{chosen}
use Rattle.search_rules.specs.Queue.{unqueued}
use Rattle.search_rules.specs.Step.{queue_yard, queue_wanted}
use Rattle.search_rules.specs.Step.{SearchState, left, passed, open_inner, queue_next, close_leaf, take_yard, step, settled, start_search}
use Rattle.search_rules.specs.Run.{Outcome, advance, run}
use Rattle.search_rules.specs.Facts.{Below, WellFormed}
use Rattle.search_rules.specs.Theorems.{barren, barren_from, barrens, allowance}
use Rattle.search_rules.proofs.Choices.{choose-two}
use Rattle.search_rules.proofs.Queue.{key, has, has_key, Entered, queued-child, kept, stays-left, stays-wanted}
use Rattle.search_rules.proofs.Barren.{barren-none}
use Rattle.search_rules.proofs.Stepping.{step_case}
use Rattle.search_rules.proofs.Kept.{Kept, left_not, left_new, region_range, InnerKey, child, taken, same, inner_key, inner_first, fresh_child, leaf_own, closed_key}
use Rattle.search_rules.proofs.Kept.{Rest, whole-gone, whole-yard_key, whole_keeps, whole-rest}
use Rattle.search_rules.proofs.Kept.{yard-fits, leaf-yard_key, leaf_region_key, taken-yard_key, region_case, run-kept}

-- How many numbers of a list pass a test.
unfoldable pub tally : (ℕ → Bool) → List ℕ → ℕ
tally p [] = 0
tally p (x ∷ xs) = choose (p x) 1 0 + tally p xs

not-twice : (b : Bool) → T b → T (not (not b))
not-twice true t = tt
not-twice false t = absurd t

tally_length : (p : ℕ → Bool) (l : List ℕ) → tally p l ≤ length l
unfolding tally
tally_length p [] = omega arith
tally_length p (x ∷ l) = choose_case (λ c. c + tally p l ≤ suc (length l)) (p x) (λ t. omega (arith, tally_length p l)) (λ t. omega (arith, tally_length p l))

module _ (p q : ℕ → Bool) (sub : (x : ℕ) → T (q x) → T (p x)) where
  one-le : (x : ℕ) → choose (q x) 1 0 ≤ choose (p x) 1 0
  one-le x = choose_case (λ z. z ≤ choose (p x) 1 0) (q x) (λ t. rw (choose_yes {A = ℕ} (p x) 1 0 (sub x t)) (omega arith)) (λ t. omega arith)

  tally_le : (l : List ℕ) → tally q l ≤ tally p l
  unfolding tally
  tally_le [] = omega arith
  tally_le (x ∷ l) = omega (arith, one-le x, tally_le l)

  tally_less : (u : ℕ) (l : List ℕ) → Mem u l → T (p u) → T (not (q u)) → tally q l < tally p l
  unfolding tally
  tally_less u [] x3 s t = elim x3 [ ]
  tally_less u (x ∷ l) (head e) s t = omega (arith, choose_no {A = ℕ} (q x) 1 0 (rw e at t), choose_yes {A = ℕ} (p x) 1 0 (rw e at s), tally_le l)
  tally_less u (x ∷ l) (tail k) s t = omega (arith, one-le x, tally_less u l k s t)

-- of two tests no more pass one or the other than pass each
tally_or : (p q : ℕ → Bool) (l : List ℕ) → tally (λ x. p x || q x) l ≤ tally p l + tally q l
unfolding tally
tally_or p q [] = omega arith
tally_or p q (x ∷ l) = omega (arith, one (p x) (q x), tally_or p q l)
  where
    one : (a b : Bool) → ◌≤◌ (choose (a || b) 1 0) (choose a 1 0 + choose b 1 0)
    one true b = rw (choose_yes {A = ℕ} true 1 0 tt) (omega arith)
    one false b = omega arith

-- ---- what is left to do

module _ (i : Instance) where
  -- what is opened once: an inner region, or a leaf that is taken in vain; every region where a leaf queues its yards all at once
  opens-two : ℕ → Bool
  opens-two r = not (leaf i r) || barren i r

  opens : ℕ → Bool
  opens r = i.one_way || opens-two r

  inner-sum : (n j : ℕ) → tally (λ r. not (leaf i r)) (numbers n j) ≡ sum_from i.tree.regions one_inner n j
  unfolding tally leaf
  inner-sum zero j = rw (numbers-none, sum-none) refl
  inner-sum (suc n) j = rw (numbers_more, sum_more, inner-sum n (suc j), one-inner) (ap (λ x. x + sum_from i.tree.regions one_inner n (suc j)) one)
    where
      flip : (b : Bool) → ◌≡◌ {A = ℕ} (choose (not b) 1 0) (choose b 0 1)
      flip b = choose_case (λ (z : ℕ). choose (not b) 1 0 ≡ z) b (λ t. choose_no (not b) 1 0 (not-twice b t)) (λ t. choose_yes (not b) 1 0 t)

      one : ◌≡◌ {A = ℕ} (choose (not (leaf i j)) 1 0) (choose (eqb (region_at i.tree.regions j).children 0) 0 1)
      one = flip (eqb (region_at i.tree.regions j).children 0)

  inner-count : tally (λ r. not (leaf i r)) (numbers (size i) 0) ≡ inners i.tree
  unfolding size
  inner-count = inner-sum (length i.tree.regions) 0 ∙ rw inners-sum refl

  barren-sum : (n j : ℕ) → tally (barren i) (numbers n j) ≡ barren_from i n j
  unfolding tally barren_from
  barren-sum zero j = rw numbers-none refl
  barren-sum (suc n) j = rw (numbers_more, barren-sum n (suc j)) refl

  opens-count : tally opens-two (numbers (size i) 0) ≤ inners i.tree + barrens i
  unfolding opens-two barrens
  opens-count = omega (arith, inner-count, barren-sum (size i) 0, tally_or (λ r. not (leaf i r)) (barren i) (numbers (size i) 0))

  -- One of these that has not been taken.
  unopened : SearchState → ℕ → Bool
  unopened st r = opens r && (has (key st.region_keys r) || not (has (key st.firsts r)))

  -- A yard that has not left its leaf.
  unleft : SearchState → ℕ → Bool
  unleft st y = not (left st.gone y)

  -- A yard that has not been measured.
  unmeasured : SearchState → ℕ → Bool
  unmeasured st y = not (left st.gone y) || has (key st.yard_keys y)

  -- where a leaf queues its yards all at once, no step is theirs
  work : List ℕ → SearchState → ℕ
  work ys st = tally (unopened st) (numbers (size i) 0) + choose i.one_way 0 (tally (unleft st) ys) + tally (unmeasured st) ys

  numbers-length : (n j : ℕ) → length (numbers n j) ≡ n
  numbers-length zero j = rw numbers-none refl
  numbers-length (suc n) j = rw numbers_more (ap suc (numbers-length n (suc j)))

  opens-more : T (not i.one_way) → (r : ℕ) → T (opens r) → T (opens-two r)
  unfolding opens
  opens-more two r t = go (or_cases i.one_way _ t)
    where
      go : T i.one_way ⊎ T (opens-two r) → T (opens-two r)
      go (inl one) = absurd (T_not i.one_way two one)
      go (inr s) = s

  work-most : (ys : List ℕ) (st : SearchState) → work ys st ≤ allowance i ys
  unfolding work unopened allowance
  work-most ys st = choose-two (λ (x y : ℕ). tally (unopened st) (numbers (size i) 0) + x + tally (unmeasured st) ys ≤ y) i.one_way
      (λ one. omega (
        arith,
        tally_length (unopened st) (numbers (size i) 0),
        numbers-length (size i) 0,
        tally_length (unmeasured st) ys,
      ))
      (λ two. omega (
        arith,
        opens-count,
        tally_le opens-two (unopened st) (λ r t. opens-more two r (and_left (opens r) _ t)) (numbers (size i) 0),
        tally_length (unleft st) ys,
        tally_length (unmeasured st) ys,
      ))

  -- an inner region is opened once; a leaf with a wanted yard is not
  inner-opens : (r : ℕ) → T (not (leaf i r)) → T (opens r)
  unfolding opens opens-two
  inner-opens r t = or_right i.one_way _ (or_left (not (leaf i r)) _ t)

  barren-opens : (r : ℕ) → T (barren i r) → T (opens r)
  unfolding opens opens-two
  barren-opens r t = or_right i.one_way _ (or_right (not (leaf i r)) _ t)

  one-opens : T i.one_way → (r : ℕ) → T (opens r)
  unfolding opens
  one-opens one r = or_left i.one_way _ one

  leaf-opens : T (not i.one_way) → (r : ℕ) → T (leaf i r) → T (opens r) → T (barren i r)
  unfolding opens-two
  leaf-opens two r l t = go (or_cases (not (leaf i r)) _ (opens-more two r t))
    where
      go : T (not (leaf i r)) ⊎ T (barren i r) → T (barren i r)
      go (inl n) = absurd (T_not (leaf i r) n l)
      go (inr b) = b

  module _ (well : WellFormed i) (ys : List ℕ) (all : (y : ℕ) → Below i 0 y → Mem y ys) (st : SearchState) (was : Kept i st) where
    -- the tests, of their parts
    fresh_open : (o k f : Bool) → T o → T (not f) → T (o && (k || not f))
    fresh_open o k f s t = and_both o _ s (or_right k _ t)

    queued_open : (o k f : Bool) → T o → T k → T (o && (k || not f))
    queued_open o k f s t = and_both o _ s (or_left k _ t)

    taken_closed : (o f : Bool) → T f → T (not (o && (false || not f)))
    taken_closed o true t = not_T (o && false) (λ s. and_right o false s)
    taken_closed o false t = absurd t

    or-more : (a c b : Bool) → (T c → T a) → T (c || b) → T (a || b)
    or-more true c b f t = tt
    or-more false true b f t = absurd (f tt)
    or-more false false b f t = t

    module _ (r a : ℕ) (at : key st.region_keys r ≡ some a) where
      inner_less : T (not (leaf i r)) → work ys (open_inner i st r a) < work ys st
      unfolding work unopened unleft unmeasured open_inner
      inner_less inner = omega (
        arith,
        tally_less (unopened st) (unopened new) sub r (numbers (size i) 0) (numbers-mem (size i) 0 r (omega arith) (omega (
          arith,
          region_range i well st was r
              at,
        )))
            (queued_open (opens r) (has (key st.region_keys r)) (has (key st.firsts r)) (inner-opens r inner) (has_key at)) closed,
      )
        where
          new : SearchState
          new = open_inner i st r a

          -- r has a first key, and is no longer queued
          first_r : {o : Option ℕ} → Entered i a (children i r) st.firsts r o → T (has o)
          first_r (queued-child k) = tt
          first_r (kept n e) = rw e (was.has_first r a at)

          closed_at : {o : Option ℕ} → InnerKey i well st was r a at r o → T (not (opens r && (has o || not (has (key new.firsts r)))))
          closed_at (child k) = absurd (omega (arith, well.shape.rise r r k))
          closed_at (taken p) = taken_closed (opens r) (has (key new.firsts r)) (first_r (inner_first i well st was r a at r))
          closed_at (same p n q) = absurd (p refl)

          closed : T (not (unopened new r))
          closed = closed_at (inner_key i well st was r a at r)

          first-at : (v : ℕ) → v ≡ r → {p : Option ℕ} → Entered i a (children i r) st.firsts v p → T (has p)
          first-at v s (queued-child k) = tt
          first-at v s (kept n e) = rw (e, s) (was.has_first r a at)

          by_key : (v : ℕ) {o p : Option ℕ} → InnerKey i well st was r a at v o → Entered i a (children i r) st.firsts v p
              → T (opens v && (has o || not (has p))) → T (unopened st v)
          by_key v {p = p} (child k) x t = fresh_open (opens v) (has (key st.region_keys v)) (has (key st.firsts v)) (and_left (opens v) _ t)
              (not_T (has (key st.firsts v)) (fresh_child i well st was r a at v k))
          by_key v {p = p} (taken s) x t = absurd (T_not (opens v && (false || not (has p))) (taken_closed (opens v) (has p) (first-at v s x)) t)
          by_key v {o} {p} (same s n q) x t = go x t
            where
              go : {p : Option ℕ} → Entered i a (children i r) st.firsts v p → T (opens v && (has o || not (has p))) → T (unopened st v)
              go (queued-child k) t = absurd (n k)
              go (kept m e) t = rw (q, e) at t

          sub : (v : ℕ) → T (unopened new v) → T (unopened st v)
          sub v t = by_key v (inner_key i well st was r a at v) (inner_first i well st was r a at v) t

      leaf_less : (is_IsLeaf : T (leaf i r)) (first : ℕ) → key st.firsts r ≡ some first → (e : Element) → (mem : Mem e (chosen i r).list)
          → T (not (passed i st.gone e.yard))
          → T (not i.one_way) → work ys (queue_next i st r first (chosen i r) e) < work ys st
      unfolding work unopened unleft unmeasured queue_next
      leaf_less is_IsLeaf first first-is e mem stays two = omega (
        arith,
        choose_no i.one_way 0 (tally (unleft st) ys) two,
        choose_no i.one_way 0 (tally (unleft new) ys) two,
        tally_le (unopened st) (unopened new) opened (numbers (size i) 0),
        tally_less (unleft st) (unleft new) (left_not st.gone y fits) y ys mine here marked,
        tally_le (unmeasured st) (unmeasured new) measured ys,
      )
        where
          m : Mark
          m = chosen i r

          y : ℕ
          y = e.yard

          new : SearchState
          new = queue_next i st r first m e

          gone' : List Bool
          gone' = set st.gone y true

          below_n : y < i.tree.junctions
          below_n = yard-fits i well st was r a at is_IsLeaf first first-is e mem stays

          fits : y < length st.gone
          fits = rw was.sizes.gone below_n

          mine : Mem y ys
          mine = all y (was.regions_in r a y at (leaf_own i well st was r a at is_IsLeaf first first-is e mem stays))

          here : T (not (left st.gone y))
          here = stays-left i st.gone y stays

          marked : T (not (not (left gone' y)))
          marked = twice (left gone' y) (left_new st.gone y fits)
            where
              twice : (b : Bool) → T b → T (not (not b))
              twice true t = tt
              twice false t = absurd t

          -- the leaf has a wanted yard
          fertile : T (opens r) → ⊥
          fertile t = barren-none i r (leaf-opens two r is_IsLeaf t) e mem (stays-wanted i st.gone y stays)

          opened : (v : ℕ) → T (unopened new v) → T (unopened st v)
          opened v t = leaf_region_key i well st was r a at is_IsLeaf first first-is e mem stays (λ o. T (opens v
              && (has o || not (has (key st.firsts v)))) → T (unopened st v)) v
              (λ p s. absurd (fertile (rw p at (and_left (opens v) _ s))))
              (λ p s. s) t

          measured : (v : ℕ) → T (unmeasured new v) → T (unmeasured st v)
          measured v t = leaf-yard_key i well st was r a at is_IsLeaf first first-is e mem stays (λ o. T (not (left gone' v) || has o) → T (unmeasured st v)) v
              (λ p s. or_left (not (left st.gone v)) (has (key st.yard_keys v)) (rw p here))
              (λ p s. or-more (not (left st.gone v)) (not (left gone' v)) (has (key st.yard_keys v)) (left_not st.gone y fits v) s) t

      closed_less : T (opens r) → work ys (close_leaf i st r) < work ys st
      unfolding work unopened unleft unmeasured close_leaf
      closed_less t = omega (
        arith,
        tally_less (unopened st) (unopened new) sub r (numbers (size i) 0) (numbers-mem (size i) 0 r (omega arith) (omega (
          arith,
          region_range i well st was r
              at,
        )))
            (queued_open (opens r) (has (key st.region_keys r)) (has (key st.firsts r)) t (has_key at)) (shut r refl),
      )
        where
          new : SearchState
          new = close_leaf i st r

          drop : (P : Option ℕ → Type 0) (v : ℕ) → (v ≡ r → P none) → (v ≢ r → P (key st.region_keys v)) → P (key (set st.region_keys r unqueued) v)
          drop = closed_key i well st was r a at

          shut : (v : ℕ) → v ≡ r → T (not (unopened new v))
          shut v p = drop (λ o. T (not (opens v && (has o || not (has (key st.firsts v)))))) v
              (λ q. taken_closed (opens v) (has (key st.firsts v)) (rw p (was.has_first r a at))) (λ q. absurd (q p))

          sub : (v : ℕ) → T (unopened new v) → T (unopened st v)
          sub v = drop (λ o. T (opens v && (has o || not (has (key st.firsts v)))) → T (unopened st v)) v
              (λ p u. absurd (T_not (opens v && (false || not (has (key st.firsts v)))) (taken_closed (opens v) (has (key st.firsts v)) (rw p (was.has_first r a
              at))) u))
              (λ p u. u)

    -- a yard of a leaf that queues all of them was not measured before
    queue_less : (r first : ℕ) (h : r < size i) (l : T (leaf i r)) (one : T i.one_way) (s : SearchState) (e : Element) (es : List Element)
        → Rest i well r first h l s (e ∷ es) → work ys s < work ys st → work ys (queue_yard i s first (chosen i r) e) < work ys st
    unfolding work unopened unleft unmeasured queue_yard
    queue_less r first h l one s e es rest less = omega (
      arith,
      choose_yes i.one_way 0 (tally (unleft s) ys) one,
      choose_yes i.one_way 0 (tally (unleft new) ys) one,
      tally_le (unmeasured s) (unmeasured new) measured ys,
    )
      where
        new : SearchState
        new = queue_yard i s first (chosen i r) e

        measured : (v : ℕ) → T (unmeasured new v) → T (unmeasured s v)
        measured v t = whole-yard_key i well r first h l s e es rest (λ o. T (not (left (set s.gone e.yard true) v) || has o) → T (unmeasured s v)) v
            (λ p x. or_left (not (left s.gone v)) (has (key s.yard_keys v)) (rw p (rest.here e (head refl))))
            (λ p x. or-more (not (left s.gone v)) (not (left (set s.gone e.yard true) v)) (has (key s.yard_keys v))
            (left_not s.gone e.yard (whole-gone i well r first h l s e es rest) v) x) t

    whole_less : (r a : ℕ) → key st.region_keys r ≡ some a → T i.one_way → T (leaf i r) → (first : ℕ) → key st.firsts r ≡ some first
        → work ys (queue_wanted i (close_leaf i st r) first (chosen i r) (chosen i r).list) < work ys st
    whole_less r a at one l first first-is =
        let h = region_range i well st was r at in
        (whole_keeps i well r first h l (λ s es. work ys s < work ys st) (λ s e es rest w q. queue_less r first h l one s e es rest q) (λ s e es rest w q. q)
        (close_leaf i st r) (chosen i r).list (whole-rest i well st was r a at one l first first-is) (closed_less r a at (one-opens one r))).1

    yard_less : (y b : ℕ) → key st.yard_keys y ≡ some b → work ys (take_yard i st y) < work ys st
    unfolding work unopened unleft unmeasured take_yard
    yard_less y b at = omega (
      arith,
      tally_less (unmeasured st) (unmeasured new) measured y ys (all y (was.yards_in_lem y b at))
          (or_right (not (left st.gone y)) (has (key st.yard_keys y)) (has_key at)) done,
    )
      where
        new : SearchState
        new = take_yard i st y

        yard_key_lem : (P : Option ℕ → Type 0) (v : ℕ) → (v ≡ y → P none) → (v ≢ y → P (key st.yard_keys v)) → P (key (set st.yard_keys y unqueued) v)
        yard_key_lem = taken-yard_key i well st was y b at

        measured : (v : ℕ) → T (unmeasured new v) → T (unmeasured st v)
        measured v = yard_key_lem (λ o. T (not (left st.gone v) || has o)
            → T (unmeasured st v)) v (λ p s. or_left (not (left st.gone v)) (has (key st.yard_keys v)) (plain (not (left st.gone v)) s)) (λ p s. s)
          where
            plain : (b : Bool) → T (b || false) → T b
            plain true t = tt
            plain false t = t

        done : T (not (unmeasured new y))
        done = yard_key_lem (λ o. T (not (not (left st.gone y) || has o))) y (λ p. gone (left st.gone y) (was.queued-left y b at)) (λ p. absurd (p refl))
          where
            gone : (b : Bool) → T b → T (not (not b || false))
            gone true t = tt
            gone false t = absurd t

    -- Each step leaves less to do.
    step_less : T (not (settled i st)) → work ys (step i st) < work ys st
    step_less u = step_case i st was.sizes (λ new. work ys new < work ys st) u
        (λ r a at due. region_case i well st was (λ new. work ys new < work ys st) r a at (λ l. inner_less r a at l) (λ two l first q e k n h. leaf_less r a at l
        first q e k n two) (λ t. closed_less r a at (barren-opens r t)) (λ one l first q. whole_less r a at one l first q))
        (λ y b at due. yard_less y b at)

  module _ (well : WellFormed i) (ys : List ℕ) (all : (y : ℕ) → Below i 0 y → Mem y ys) where
    so_far : (limit : ℕ) → T (settled i (run i limit).state) ⊎ (work ys (run i limit).state + limit ≤ allowance i ys)
    unfolding run advance
    so_far zero = inr (omega (arith, work-most ys (start_search i)))
    so_far (suc limit) = choose_case (λ (o : Outcome). T (settled i o.state) ⊎ (work ys o.state + suc limit ≤ allowance i ys)) (settled i
        (run i limit).state)
        (λ t. inl t) (λ t. on t (so_far limit))
      where
        st : SearchState
        st = (run i limit).state

        on : T (not (settled i st)) → T (settled i st) ⊎ (work ys st + limit ≤ allowance i ys)
            → T (settled i (step i st)) ⊎ (work ys (step i st) + suc limit ≤ allowance i ys)
        on t (inl s) = absurd (T_not (settled i st) t s)
        on t (inr h) = inr (omega (arith, step_less well ys all st (run-kept i well limit) t))

    -- a limit of one step for each inner region and each leaf that is taken in vain, and two for each yard, settles
    pub enough : (limit : ℕ) → allowance i ys ≤ limit → T (settled i (run i limit).state)
    enough limit h = go (so_far limit)
      where
        st : SearchState
        st = (run i limit).state

        decide : (b : Bool) → (T (not b) → ⊥) → T b
        decide true f = tt
        decide false f = f tt

        go : T (settled i st) ⊎ (work ys st + limit ≤ allowance i ys) → T (settled i st)
        go (inl t) = t
        go (inr w) = decide (settled i st) (λ t. omega (arith, step_less well ys all st (run-kept i well limit) t))

  -- a search that isn't settled has taken as many steps as the limit
  pub unsettled-taken : (limit : ℕ) → T (not (settled i (run i limit).state)) → (run i limit).taken ≡ limit
  unfolding run advance
  unsettled-taken zero = λ t. refl
  unsettled-taken (suc limit) = choose_case (λ (o : Outcome). T (not (settled i o.state)) → o.taken ≡ suc limit) (settled i (run i limit).state)
      (λ s t. absurd (T_not (settled i (run i limit).state) t s)) (λ s t. ap suc (unsettled-taken limit s))

  pub taken-within : (limit : ℕ) → (run i limit).taken ≤ limit
  unfolding run advance
  taken-within zero = omega arith
  taken-within (suc limit) = choose_case (λ (o : Outcome). o.taken ≤ suc limit) (settled i (run i limit).state) (λ t. omega (arith, taken-within limit)) (λ
      t. omega (arith, taken-within limit))

  -- a settled search stays as it is
  pub settled-stays : (limit : ℕ) → T (settled i (run i limit).state) → (more : ℕ) → run i (limit + more) ≡ run i limit
  unfolding run advance
  settled-stays limit t zero = rw add-zero refl
  settled-stays limit t (suc more) = rw add-suc (one (run i (limit + more)) (settled-stays limit t more))
    where
      one : (o : Outcome) → o ≡ run i limit → advance i o ≡ run i limit
      one o e = rw e (choose_yes (settled i (run i limit).state) (run i limit) (record {
        state = step i (run i limit).state;
        taken = suc (run i limit).taken;
      }) t)
