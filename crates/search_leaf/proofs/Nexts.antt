-- The next element of a leaf's list, as it is read from the book. Assumes nothing.
use mathlib.Core.Path.{◌≡◌, refl, sym, ap, ◌∙◌}
use mathlib.Core.Bool.{Bool, true}
use mathlib.Core.List.{List}
use Prim.Native.Nat.{ℕ, zero, suc, ◌+◌, ◌≤◌, ◌<◌, max}
use native.Mathlib.Omega.{arith}
use lib.ListN.{get_or, set}
use lib.Dec.{not_T}
use Rattle.book.proofs.Choosing.{choose_yes, choose_no, choose_case}
use Rattle.tree_layout.specs.Values.{Element}
use Rattle.tree_layout.specs.Decode.{read_list}
use Rattle.tree_layout.specs.code.Accessors.{listed_at}
use Rattle.tree_layout.specs.declared.Listed.{Listed}
use Rattle.search_rules.specs.Queue.{unqueued, queued, word_at, pick}
use Rattle.search_rules.specs.Step.{no_element, again_key}
use Rattle.search_rules.proofs.Queue.{pick-range, queued-small, small-queued, not-queued}
use Rattle.search_rules.proofs.Turns.{pick_first}
use Rattle.search_rules.proofs.Steps.{again_none, again_by}
use Rattle.search_state.specs.code.State.{yard_keys_at, firsts_at, bounds_at, gone_at, region_keys_in, yard_keys_in, firsts_in, picks_in, fs_in, bounds_in, gone_in}
use Rattle.search_state.proofs.Cells.{Parts, parts_of_lem, part_at, store_key, store_yard, store_gone}
use Rattle.search_leaf.specs.code.Leaves.{words_of}
use Rattle.search_leaf.specs.code.Next.{next_in, next_word, word_in, IsNext, leaving, yard_queued, leaf_queued}
use Rattle.search_leaf.specs.declared.Next.{Next}
use Rattle.std.specs.Prelude.{Option, Some, None}
use Rattle.search_leaf.proofs.Numbering.{listed-at}

-- ---- the leaf's key

pub again_end : (first : ℕ) (next : Option Next) → next ≡ None → unqueued ≡ again_key first (word_in next)
again_end first next e = rw e (sym (again_none first))

pub again_on : (first : ℕ) (next : Option Next) (e : Next) (r : ℕ) → next ≡ Some e → first ≤ unqueued → e.f ≤ unqueued → r ≡ max first e.f
    → r ≡ again_key first (word_in next)
again_on first next e r p h k m = rw (p, again_by first e.f) (choose_case (λ z. r ≡ z) (queued e.f) (λ t. m) (λ t. omega (arith, not-queued e.f t)))

-- ---- the next element

module _ (v : ℕ) (p fs : List ℕ) (gone : List Bool) (n place : ℕ) (some : 1 ≤ n)
    (picked : place ≡ pick (words_of fs gone (read_list v p n 0)) n) where
  pub next-inside : place < n
  next-inside = rw picked (pick-range (words_of fs gone (read_list v p n 0)) n some)

  pub next-yard : (e : Listed) → e ≡ listed_at v p place → e.yard.number ≡ (next_in fs gone (read_list v p n 0) n).yard
  unfolding next_in
  next-yard e q = ap (λ (x : Element). x.yard) (sym (listed-at v p n place next-inside e q no_element)) ∙ rw picked refl

-- the next element by its number
pub next_in_lem : (fs : List ℕ) (gone : List Bool) (es : List Element) (n : ℕ) → next_in fs gone es n ≡ get_or es (pick (words_of fs gone es) n) no_element
unfolding next_in
next_in_lem fs gone es n = refl

-- an answer's word
pub word-is : (fs : List ℕ) (gone : List Bool) (es : List Element) (n : ℕ) (r : Option Next) → IsNext fs gone es n r → word_in r ≡ next_word fs gone es n
word-is fs gone es n None e = e.1
word-is fs gone es n (Some x) e = e.1

-- the words of what was read
pub next_word_lem : (fs : List ℕ) (gone : List Bool) (es : List Element) (n place word : ℕ) → place ≡ pick (words_of fs gone es) n
    → word ≡ word_at (words_of fs gone es) place → word ≡ next_word fs gone es n
unfolding next_word
next_word_lem fs gone es n place word p q = q ∙ rw p refl

-- with none left the first has the least word
pub first_picked : (ws : List ℕ) (n place word first : ℕ) → place ≡ pick ws n → word ≡ word_at ws place → first ≡ word_at ws 0 → first ≤ unqueued
    → unqueued ≤ word → pick ws n ≡ 0
first_picked ws n place word first p q e h k = go (pick ws n) (pick_first ws n 0) (omega (arith, q, ap (word_at ws) p))
  where
    go : (v : ℕ) → (0 < v → word_at ws v < word_at ws 0) → unqueued ≤ word_at ws v → v ≡ 0
    go zero less most = refl
    go (suc v) less most = absurd (omega (arith, less (omega arith)))

-- ---- what is stored

module _ (regions junctions : ℕ) (es : List Element) (n : ℕ) (ws vs : List ℕ) (r : ℕ) where
  -- some yard remains
  queued_on : (after : List ℕ) → after ≡ yard_queued regions junctions es n ws vs r (leaving regions junctions es n ws vs)
      → next_word (fs_in junctions vs) (gone_in regions junctions ws) es n < unqueued
      → leaf_queued regions junctions es n ws vs r
      ≡ set after r (again_key (get_or ws (firsts_at regions junctions + r) 0) (next_word (fs_in junctions vs) (gone_in regions junctions after) es n))
  unfolding leaf_queued
  queued_on after e h = rw e (choose_yes (queued (next_word (fs_in junctions vs) (gone_in regions junctions ws) es n)) _ _ (small-queued _ h))

  -- none remains
  pub queued_off : unqueued ≤ next_word (fs_in junctions vs) (gone_in regions junctions ws) es n → leaf_queued regions junctions es n ws vs r ≡ set ws r unqueued
  unfolding leaf_queued
  queued_off h = choose_no (queued (next_word (fs_in junctions vs) (gone_in regions junctions ws) es n)) _ _
      (not_T (queued (next_word (fs_in junctions vs) (gone_in regions junctions ws) es n)) (λ t. omega (arith, queued-small _ t)))

module _ (regions junctions v : ℕ) (p : List ℕ) (n : ℕ) (ws vs : List ℕ) where
  -- the yard that was read is the one that leaves
  pub leaving-is : 1 ≤ n → (place : ℕ) → place ≡ pick (words_of (fs_in junctions vs) (gone_in regions junctions ws) (read_list v p n 0)) n
      → (e : Listed) → e ≡ listed_at v p place → e.yard.number ≡ leaving regions junctions (read_list v p n 0) n ws vs
  unfolding leaving
  leaving-is some place picked e q = next-yard v p (fs_in junctions vs) (gone_in regions junctions ws) n place some picked e q

  module _ (r : ℕ) where
    -- with none left the leaf leaves the queue
    pub none-queued : unqueued ≡ next_word (fs_in junctions vs) (gone_in regions junctions ws) (read_list v p n 0) n
        → set ws r unqueued ≡ leaf_queued regions junctions (read_list v p n 0) n ws vs r
    none-queued e = sym (queued_off regions junctions (read_list v p n 0) n ws vs r (omega (arith, e)))

    -- the words with the yard and then the leaf queued, by the places and numbers that were computed
    module _ (there : next_word (fs_in junctions vs) (gone_in regions junctions ws) (read_list v p n 0) n < unqueued) (y : ℕ) (ey : y ≡ leaving regions junctions (read_list v p n 0) n ws vs) (a b g k : ℕ)
        (ea : a ≡ firsts_at regions junctions + r) (eb : b ≡ bounds_at + y) (eg : g ≡ gone_at regions junctions + y)
        (ek : k ≡ yard_keys_at regions junctions + y) (key : ℕ) (ev : key ≡ max (get_or vs b 0) (get_or ws a 0)) where
      yard-is : set (set ws g 0) k key
          ≡ yard_queued regions junctions (read_list v p n 0) n ws vs r (leaving regions junctions (read_list v p n 0) n ws vs)
      unfolding yard_queued
      yard-is = rw (← ey, ← ea, ← eb, ← eg, ← ek, ev) refl

      pub queued-is : (after : Option Next) (x : ℕ)
          → word_in after ≡ next_word (fs_in junctions vs) (gone_in regions junctions (set (set ws g 0) k key)) (read_list v p n 0) n
          → x ≡ again_key (get_or ws a 0) (word_in after) → set (set (set ws g 0) k key) r x ≡ leaf_queued regions junctions (read_list v p n 0) n ws vs r
      queued-is after x w e =
          rw (e, ea, w) refl
          ∙ sym (queued_on regions junctions (read_list v p n 0) n ws vs r (set (set ws g 0) k key) yard-is there)

-- ---- its parts

key_queued : {regions junctions : ℕ} {ws keys yards firsts picks : List ℕ} {gone : List Bool}
    → Parts regions junctions ws keys yards firsts picks gone → (r x key : ℕ) → r < regions → x ≡ key
    → Parts regions junctions (set ws r x) (set keys r key) yards firsts picks gone
key_queued p r x key h e = rw (← e) (store_key p r x r refl h)

again_is : (es : List Element) (n first first' : ℕ) (fs : List ℕ) (gone gone' : List Bool) → first ≡ first' → gone ≡ gone'
    → again_key first (next_word fs gone es n) ≡ again_key first' (next_word fs gone' es n)
again_is es n first first' fs gone gone' a b = rw (a, b) refl

module _ (regions junctions : ℕ) (es : List Element) (n : ℕ) (ws vs : List ℕ) (r : ℕ) (hr : r < regions) where
  first-at : get_or ws (firsts_at regions junctions + r) 0 ≡ get_or (firsts_in regions junctions ws) r 0
  first-at = sym (part_at ws (firsts_at regions junctions) regions r (firsts_at regions junctions + r) 0 refl hr)

  yard-parts : (y : ℕ) → y < junctions → Parts regions junctions (yard_queued regions junctions es n ws vs r y) (region_keys_in regions junctions ws)
      (set (yard_keys_in regions junctions ws) y (max (get_or (bounds_in junctions vs) y 0) (get_or (firsts_in regions junctions ws) r 0)))
      (firsts_in regions junctions ws) (picks_in regions junctions ws) (set (gone_in regions junctions ws) y true)
  unfolding yard_queued
  yard-parts y hy = rw (first-at, ← part_at vs bounds_at junctions y (bounds_at + y) 0 refl hy)
      (store_yard (store_gone (parts_of_lem regions junctions ws) (gone_at regions junctions + y) y refl hy) (yard_keys_at regions junctions + y)
      (max (get_or (bounds_in junctions vs) y 0) (get_or (firsts_in regions junctions ws) r 0)) y refl hy)

  -- the leaf's yard y has left, and both are queued
  pub leaf-queued : next_word (fs_in junctions vs) (gone_in regions junctions ws) es n < unqueued
      → (y : ℕ) → y ≡ leaving regions junctions es n ws vs → y < junctions
      → Parts regions junctions (leaf_queued regions junctions es n ws vs r)
      (set (region_keys_in regions junctions ws) r (again_key (get_or (firsts_in regions junctions ws) r 0)
      (next_word (fs_in junctions vs) (set (gone_in regions junctions ws) y true) es n)))
      (set (yard_keys_in regions junctions ws) y (max (get_or (bounds_in junctions vs) y 0) (get_or (firsts_in regions junctions ws) r 0)))
      (firsts_in regions junctions ws) (picks_in regions junctions ws) (set (gone_in regions junctions ws) y true)
  leaf-queued some y e hy =
      let p = yard-parts y hy in
      rw (queued_on regions junctions es n ws vs r (yard_queued regions junctions es n ws vs r y) (ap (yard_queued regions junctions es n ws vs r) e) some)
      (key_queued p r
      (again_key (get_or ws (firsts_at regions junctions + r) 0) (next_word (fs_in junctions vs)
      (gone_in regions junctions (yard_queued regions junctions es n ws vs r y)) es n))
      (again_key (get_or (firsts_in regions junctions ws) r 0) (next_word (fs_in junctions vs) (set (gone_in regions junctions ws) y true) es n)) hr
      (again_is es n (get_or ws (firsts_at regions junctions + r) 0) (get_or (firsts_in regions junctions ws) r 0) (fs_in junctions vs)
      (gone_in regions junctions (yard_queued regions junctions es n ws vs r y)) (set (gone_in regions junctions ws) y true) first-at p.gone_are))

  -- none remains, and the leaf leaves the queue
  pub leaf_closed : unqueued ≤ next_word (fs_in junctions vs) (gone_in regions junctions ws) es n
      → Parts regions junctions (leaf_queued regions junctions es n ws vs r)
      (set (region_keys_in regions junctions ws) r unqueued) (yard_keys_in regions junctions ws)
      (firsts_in regions junctions ws) (picks_in regions junctions ws) (gone_in regions junctions ws)
  leaf_closed none = rw (queued_off regions junctions es n ws vs r none) (store_key (parts_of_lem regions junctions ws) r unqueued r refl hr)

-- the yard that leaves, by the parts
pub leaving_by : (regions junctions : ℕ) (es : List Element) (n : ℕ) (ws vs : List ℕ)
    → leaving regions junctions es n ws vs ≡ (next_in (fs_in junctions vs) (gone_in regions junctions ws) es n).yard
unfolding leaving
leaving_by regions junctions es n ws vs = refl
