-- The queue: words as keys, the least of them, the next element of a list, and the children's keys. Assumes nothing.
use mathlib.Core.Path.{◌≡◌, refl, ap, ◌∙◌}
use mathlib.Core.Logic.{◌⊎◌, inl, inr, ◌≢◌}
use mathlib.Core.Bool.{Bool, true, false, not, ◌||◌}
use mathlib.Core.List.Memᴰ.{head}
use mathlib.Core.List.Memᴰ.{not-nil}
use mathlib.Core.List.Memᴰ.{tail}
use mathlib.Core.List.{List, [], ◌∷◌, Memᴰ as Mem}
use mathlib.Core.List.Memᴰ.{cases_cons}
use mathlib.Core.Option.{Option, none, some}
use Prim.Native.Nat.{ℕ, zero, suc, ◌≤◌, ◌<◌, min, max}
use native.Mathlib.Decide.{ℕ_discrete}
use native.Mathlib.Omega.{arith}
use lib.ListN.{length, get_or, set, length-set}
use lib.Seq.{get_or-set_same, get_or-set_other}
use lib.Dec.{T, ltb, ltb→lt, lt→ltb, nltb→le, not_T}
use Rattle.book.specs.Choose.{choose}
use Rattle.book.proofs.Choosing.{choose_case, choose_yes, choose_no, T-split}
use Rattle.book.proofs.Lists.{get_d_mem, mem_get_d}
use Rattle.tree_layout.specs.Values.{Element, Mark}
use Rattle.search_rules.specs.Instance.{Instance}
use Rattle.search_rules.specs.Bounds.{f, bound}
use Rattle.search_rules.specs.Queue.{unqueued, queued, word_at, pick}
use Rattle.search_rules.specs.Step.{left, no_element, passed, again_key, waiting, next_place, next_f, queue_children}

-- ---- words as keys

-- the key that a word is, or none
unfoldable pub seen : ℕ → Option ℕ
seen w = choose (queued w) (some w) none

-- the key of number v, or none
unfoldable pub key : List ℕ → ℕ → Option ℕ
key ws v = seen (word_at ws v)

pub queued-small : (w : ℕ) → T (queued w) → w < unqueued
unfolding queued
queued-small w t = ltb→lt w unqueued t

pub small-queued : (w : ℕ) → w < unqueued → T (queued w)
unfolding queued
small-queued w h = lt→ltb w unqueued h

pub not-queued : (w : ℕ) → T (not (queued w)) → unqueued ≤ w
unfolding queued
not-queued w t = nltb→le w unqueued t

pub seen_key : (w : ℕ) → w < unqueued → seen w ≡ some w
unfolding seen
seen_key w h = choose_yes (queued w) (some w) none (small-queued w h)

pub seen_mark : seen unqueued ≡ none
unfolding seen
seen_mark = choose_no (queued unqueued) (some unqueued) none (not_T (queued unqueued) (λ t. omega (arith, queued-small unqueued t)))

pub no_key : {b : ℕ} → ◌≡◌ {A = Option ℕ} none (some b) → ⊥
no_key {b} e = let z : ◌≡◌ {A = ℕ} 0 1 = cc in omega arith

pub key_eq : {a b : ℕ} → ◌≡◌ {A = Option ℕ} (some a) (some b) → a ≡ b
key_eq {a} {b} e = cc

pub seen_is : (w a : ℕ) → seen w ≡ some a → (w ≡ a) × (a < unqueued)
unfolding seen
seen_is w a = choose_case (λ o. o ≡ some a → (w ≡ a) × (a < unqueued)) (queued w)
    (λ t e. (key_eq e, omega (arith, key_eq e, queued-small w t))) (λ t e. absurd (no_key e))

pub key_word : (ws : List ℕ) (v : ℕ) {a : ℕ} → key ws v ≡ some a → word_at ws v ≡ a
unfolding key
key_word ws v {a} e = (seen_is (word_at ws v) a e).0

pub key_small : (ws : List ℕ) (v : ℕ) {a : ℕ} → key ws v ≡ some a → a < unqueued
unfolding key
key_small ws v {a} e = (seen_is (word_at ws v) a e).1

pub word_key : (ws : List ℕ) (v a : ℕ) → word_at ws v ≡ a → a < unqueued → key ws v ≡ some a
unfolding key
word_key ws v a e h = rw e (seen_key a h)

-- what has a key is in range
pub key_range : (ws : List ℕ) (v : ℕ) {a : ℕ} → key ws v ≡ some a → v < length ws
unfolding word_at
key_range ws v {a} e = in_range_lem ws v (omega (arith, key_word ws v e, key_small ws v e))
  where
    in_range_lem : (ws : List ℕ) (v : ℕ) → word_at ws v < unqueued → v < length ws
    in_range_lem [] v h = absurd (omega arith)
    in_range_lem (w ∷ ws) zero h = omega arith
    in_range_lem (w ∷ ws) (suc v) h = omega (arith, in_range_lem ws v h)

abbrev pub has : Option ℕ → Bool
has none = false
has (some a) = true

pub has_key : {o : Option ℕ} {a : ℕ} → o ≡ some a → T (has o)
has_key {o} {a} e = rw e tt

-- ---- after a set

-- a fact of an entry after a set, from the fact of the new value and that of the old one
pub set_case : {A : Type 0} (P : A → Type 0) (l : List A) (j : ℕ) (x d : A) → j < length l → (v : ℕ) → (v ≡ j → P x) → (v ≢ j → P (get_or l v d))
    → P (get_or (set l j x) v d)
set_case {A} P l j x d h v same other = go (ℕ_discrete v j)
  where
    go : Dec (v ≡ j) → P (get_or (set l j x) v d)
    go (yes e) = rw (e, get_or-set_same l j x d h) (same e)
    go (no e) = rw (get_or-set_other l j v x d e) (other e)

pub key_set : (P : Option ℕ → Type 0) (ws : List ℕ) (j w : ℕ) → j < length ws → (v : ℕ) → (v ≡ j → P (seen w)) → (v ≢ j → P (key ws v)) → P (key (set ws j w) v)
unfolding key word_at
key_set P ws j w h v same other = set_case (λ x. P (seen x)) ws j w unqueued h v same other

-- a key put, and a number taken out
pub key_put : (P : Option ℕ → Type 0) (ws : List ℕ) (j a : ℕ) → a < unqueued → j < length ws → (v : ℕ) → (v ≡ j → P (some a)) → (v ≢ j → P (key ws v))
    → P (key (set ws j a) v)
key_put P ws j a s h v same other = key_set P ws j a h v (λ e. rw (seen_key a s) (same e)) other

pub key_drop : (P : Option ℕ → Type 0) (ws : List ℕ) (j : ℕ) → j < length ws → (v : ℕ) → (v ≡ j → P none) → (v ≢ j → P (key ws v))
    → P (key (set ws j unqueued) v)
key_drop P ws j h v same other = key_set P ws j unqueued h v (λ e. rw seen_mark (same e)) other

-- ---- the least

pub pick-least : (ws : List ℕ) (j v : ℕ) → v < j → word_at ws (pick ws j) ≤ word_at ws v
unfolding pick
pick-least ws zero v h = absurd (omega arith)
pick-least ws (suc j) v h = choose_case (λ p. word_at ws p ≤ word_at ws v) (ltb (word_at ws j) (word_at ws (pick ws j)))
    (λ t. omega (arith, ltb→lt (word_at ws j) (word_at ws (pick ws j)) t, which (ℕ_discrete v j) (λ n. pick-least ws j v (omega arith))))
    (λ t. omega (arith, nltb→le (word_at ws j) (word_at ws (pick ws j)) t, which (ℕ_discrete v j) (λ n. pick-least ws j v (omega arith))))
  where
    which : Dec (v ≡ j) → (v ≢ j → word_at ws (pick ws j) ≤ word_at ws v) → min (word_at ws j) (word_at ws (pick ws j)) ≤ word_at ws v
    which (yes e) rec = rw e (omega arith)
    which (no e) rec = omega (arith, rec e)

pub pick-range : (ws : List ℕ) (j : ℕ) → 0 < j → pick ws j < j
unfolding pick
pick-range ws zero h = absurd (omega arith)
pick-range ws (suc j) h = choose_case (λ p. p < suc j) (ltb (word_at ws j) (word_at ws (pick ws j))) (λ t. omega arith) (λ t. go j (λ k. pick-range ws j k))
  where
    go : (k : ℕ) → (0 < k → pick ws k < k) → pick ws k < suc k
    go zero rec = omega arith
    go (suc k) rec = omega (arith, rec (omega arith))

-- ---- the next element of a list

-- a yard is not passed over exactly if it has not left and is wanted
module _ (i : Instance) (gone : List Bool) (y : ℕ) where
  pub passed_is : passed i gone y ≡ (left gone y || not (i.wants y))
  unfolding passed
  passed_is = refl

  pub stays-left : T (not (passed i gone y)) → T (not (left gone y))
  unfolding passed
  stays-left = go (left gone y) _
    where
      go : (a b : Bool) → T (not (a || b)) → T (not a)
      go true b t = t
      go false b t = tt

  pub stays-wanted : T (not (passed i gone y)) → T (i.wants y)
  unfolding passed
  stays-wanted = go (left gone y) (i.wants y)
    where
      go : (a b : Bool) → T (not (a || not b)) → T b
      go true b t = absurd t
      go false true t = tt
      go false false t = t

  pub stays_by : T (not (left gone y)) → T (i.wants y) → T (not (passed i gone y))
  unfolding passed
  stays_by = go (left gone y) (i.wants y)
    where
      go : (a b : Bool) → T (not a) → T b → T (not (a || not b))
      go true b s t = s
      go false true s t = tt
      go false false s t = absurd t

module _ (i : Instance) (gone : List Bool) (m : Mark) where
  pub waiting-length : (es : List Element) → length (waiting i gone m es) ≡ length es
  unfolding waiting
  waiting-length [] = refl
  waiting-length (e ∷ es) = ap suc (waiting-length es)

  pub waiting-at : (es : List Element) (p : ℕ) → p < length es
      → word_at (waiting i gone m es) p ≡ choose (passed i gone (get_or es p no_element).yard) unqueued (f i m (get_or es p no_element))
  unfolding waiting word_at
  waiting-at [] p h = absurd (omega arith)
  waiting-at (e ∷ es) zero h = refl
  waiting-at (e ∷ es) (suc p) h = waiting-at es p (omega arith)

  -- Either every element is passed over, or the next one is not, and its f is least of those that are not.
  pub data Next : Type 0 where
    no_more : unqueued ≤ next_f i gone m → ((e : Element) → Mem e m.list → T (passed i gone e.yard)) → Next
    one_more : (e : Element) → get_or m.list (next_place i gone m) no_element ≡ e → next_f i gone m ≡ f i m e → f i m e < unqueued → Mem e m.list
        → T (not (passed i gone e.yard))
        → ((g : Element) → Mem g m.list → T (not (passed i gone g.yard)) → f i m e ≤ f i m g) → Next

  module _ (small : (e : Element) → Mem e m.list → f i m e < unqueued) where
    -- every word is at least the next one's
    word_up : (g : Element) → Mem g m.list → next_f i gone m ≤ choose (passed i gone g.yard) unqueued (f i m g)
    unfolding next_f next_place
    word_up g k = go (mem_get_d m.list no_element g k)
      where
        go : (p : ℕ) × (p < length m.list) × (g ≡ get_or m.list p no_element)
            → word_at (waiting i gone m m.list) (pick (waiting i gone m m.list) (length m.list)) ≤ choose (passed i gone g.yard) unqueued (f i m g)
        go (p, h, e) = rw (e, ← waiting-at m.list p h) (pick-least (waiting i gone m m.list) (length m.list) p h)

    pub next-is : Next
    unfolding next_f next_place waiting word_at
    next-is = go m.list refl
      where
        all-passed : unqueued ≤ next_f i gone m → (e : Element) → Mem e m.list → T (passed i gone e.yard)
        all-passed h e k = on (T-split (passed i gone e.yard))
          where
            on : T (passed i gone e.yard) ⊎ T (not (passed i gone e.yard)) → T (passed i gone e.yard)
            on (inl t) = t
            on (inr t) = absurd (omega (arith, word_up e k, choose_no (passed i gone e.yard) unqueued (f i m e) t, small e k))

        go : (es : List Element) → m.list ≡ es → Next
        go [] q = no_more empty (λ e k. absurd (not-nil (rw q at k)))
          where
            empty : unqueued ≤ next_f i gone m
            empty = rw q (omega arith)
        go (g ∷ gs) q = on (T-split (passed i gone e.yard))
          where
            p : ℕ
            p = next_place i gone m

            e : Element
            e = get_or m.list p no_element

            fits : p < length m.list
            fits = pick-range (waiting i gone m m.list) (length m.list) (rw q (omega arith))

            word : next_f i gone m ≡ choose (passed i gone e.yard) unqueued (f i m e)
            word = waiting-at m.list p fits

            mem : Mem e m.list
            mem = get_d_mem m.list p no_element fits

            on : T (passed i gone e.yard) ⊎ T (not (passed i gone e.yard)) → Next
            on (inl t) = let h : unqueued ≤ next_f i gone m = omega (arith, word, choose_yes (passed i gone e.yard) unqueued (f i m e) t) in
                no_more h (all-passed h)
            on (inr t) =
                let w : next_f i gone m ≡ f i m e = word ∙ choose_no (passed i gone e.yard) unqueued (f i m e) t in
                one_more e refl w (small e mem) mem t (λ g k s. omega (arith, w, word_up g k, choose_no (passed i gone g.yard) unqueued (f i m g) s))

-- what a leaf's key becomes
pub data Again (i : Instance) (gone : List Bool) (first : ℕ) (m : Mark) : Option ℕ → Type 0 where
  empty : ((e : Element) → Mem e m.list → T (passed i gone e.yard)) → Again i gone first m none
  more : (e : Element) → Mem e m.list → T (not (passed i gone e.yard)) → ((g : Element) → Mem g m.list → T (not (passed i gone g.yard)) → f i m e ≤ f i m g)
      → Again i gone first m (some (max first (f i m e)))

pub again_is : (i : Instance) (gone : List Bool) (first : ℕ) (m : Mark) → first < unqueued → ((e : Element) → Mem e m.list → f i m e < unqueued)
    → Again i gone first m (seen (again_key first (next_f i gone m)))
unfolding again_key
again_is i gone first m h small = go (next-is i gone m small)
  where
    go : Next i gone m → Again i gone first m (seen (choose (queued (next_f i gone m)) (max first (next_f i gone m)) unqueued))
    go (no_more w l) = rw (
      choose_no (queued (next_f i gone m)) (max first (next_f i gone m)) unqueued (not_T (queued (next_f i gone m)) (λ t. omega (
        arith,
        queued-small (next_f i gone m) t,
      ))),
      seen_mark,
    ) (empty l)
    go (one_more e p w s k n l) =
        let q : T (queued (next_f i gone m)) = small-queued (next_f i gone m) (omega arith) in
        rw (choose_yes (queued (next_f i gone m)) (max first (next_f i gone m)) unqueued q, w, seen_key (max first (f i m e)) (omega arith)) (more e k n l)

-- ---- the children's keys

module _ (i : Instance) (parent : ℕ) where
  pub queue_children-length : (cs ws : List ℕ) → length (queue_children i parent cs ws) ≡ length ws
  unfolding queue_children
  queue_children-length [] ws = refl
  queue_children-length (c ∷ cs) ws = queue_children-length cs (set ws c (max (bound i c) parent)) ∙ length-set ws c (max (bound i c) parent)

  -- a child has the greater of its bound and its parent's key; any other has what it had
  pub data Entered (cs ws : List ℕ) (v : ℕ) : Option ℕ → Type 0 where
    queued-child : Mem v cs → Entered cs ws v (some (max (bound i v) parent))
    kept : {o : Option ℕ} → (Mem v cs → ⊥) → o ≡ key ws v → Entered cs ws v o

  pub queue_children-is : parent < unqueued → ((c : ℕ) → bound i c < unqueued) → (cs ws : List ℕ) → ((c : ℕ) → Mem c cs → c < length ws) → (v : ℕ)
      → Entered cs ws v (key (queue_children i parent cs ws) v)
  unfolding queue_children
  queue_children-is s small [] ws h v = kept not-nil refl
  queue_children-is s small (c ∷ cs) ws h v = go (queue_children-is s small cs ws' (λ x k. rw (length-set ws c (max (bound i c) parent)) (h x (tail k))) v)
    where
      ws' : List ℕ
      ws' = set ws c (max (bound i c) parent)

      top : max (bound i c) parent < unqueued
      top = omega (arith, small c)

      go : {o : Option ℕ} → Entered cs ws' v o → Entered (c ∷ cs) ws v o
      go (queued-child k) = queued-child (tail k)
      go (kept {o = o} n e) = which (ℕ_discrete v c)
        where
          which : Dec (v ≡ c) → Entered (c ∷ cs) ws v o
          which (yes p) = rw (
            e ∙ key_put (λ x. x ≡ some (max (bound i c) parent)) ws c (max (bound i c) parent) top (h c (head refl)) v (λ q. refl) (λ q.
                absurd (q p)),
            ← p,
          ) (queued-child (head refl))
          which (no p) = kept (λ k. out (cases_cons k)) (e
              ∙ key_put (λ x. x ≡ key ws v) ws c (max (bound i c) parent) top (h c (head refl)) v (λ q. absurd (p q)) (λ q. refl))
            where
              out : (v ≡ c) ⊎ Mem v cs → ⊥
              out (inl q) = p q
              out (inr q) = n q
