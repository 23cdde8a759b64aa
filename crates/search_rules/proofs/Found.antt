-- A settled search has measured every yard whose key is not past what ends it, and holds exactly what its rule asks for of the tree's yards, in yard order.
-- Assumes nothing.
use mathlib.Core.Path.{◌≡◌, refl, sym, ap, ◌∙◌}
use mathlib.Core.Logic.{◌⊎◌, inl, inr, ◌≢◌}
use mathlib.Core.List.Memᴰ.{head}
use mathlib.Core.List.Memᴰ.{not-nil}
use mathlib.Core.List.Memᴰ.{tail}
use mathlib.Core.List.{List, [], ◌∷◌, Memᴰ as Mem}
use mathlib.Core.List.Memᴰ
use mathlib.Core.List.Memᴰ.{cases_cons}
use Prim.Native.Nat.{ℕ, suc, ◌≤◌, ◌<◌}
use native.Mathlib.Omega.{arith}
use lib.ListN.{length}
use lib.Dec.{T}
use Rattle.book.specs.Lists.{Distinct}
use Rattle.search_rules.specs.Order.{Entry, YardBefore}
use Rattle.search_rules.specs.Rule.{Rule, nearest, in_drive}
use Rattle.search_rules.specs.Instance.{Instance}
use Rattle.search_rules.specs.Bounds.{total, furthest}
use Rattle.search_rules.specs.Keys.{yard_key}
use Rattle.search_rules.specs.Held.{entry, ranked}
use Rattle.search_rules.specs.Keeping.{front}
use Rattle.search_rules.specs.Step.{SearchState, settled}
use Rattle.search_rules.specs.Run.{run}
use Rattle.search_rules.specs.Facts.{Below, WellFormed, SoundInstance}
use Rattle.search_rules.specs.Theorems.{SortedBy, Sorted, Out, LeftOut, Allowed, NotPast, TreeYards, Listing, Complete}
use Rattle.search_rules.proofs.Order.{before_not}
use Rattle.search_rules.proofs.Held.{ranked-mem, ranked_in, ranked-sorted, greatest_held-le}
use Rattle.search_rules.proofs.Fronts.{front-mem, front-sorted, front-allowed, front_rest}
use Rattle.search_rules.proofs.Stepping.{Past, past_more, past_not, past_out, settled-regions, settled-yards}
use Rattle.search_rules.proofs.Kept.{Kept, run-kept}
use Rattle.search_rules.proofs.Keys.{key_low}
use Rattle.search_rules.proofs.Keyed.{Keyed, run_keyed, waits}
use Rattle.search_rules.proofs.Cover.{Cover, is-measured, in_queue, below-queued, run_covers}

-- ---- distinct members of another list are no more than it has

module _ {A : Type 0} where
  without : {y : A} {l : List A} → Mem y l → List A
  without (head {xs = xs} e) = xs
  without (tail {x = x} k) = x ∷ without k

  without_length : {y : A} {l : List A} (k : Mem y l) → length l ≡ suc (length (without k))
  unfolding without
  without_length (head e) = refl
  without_length (tail k) = ap suc (without_length k)

  without_keeps : {y : A} {l : List A} (k : Mem y l) (x : A) → x ≢ y → Mem x l → Mem x (without k)
  unfolding without
  without_keeps (head e) x n (head p) = absurd (n (p ∙ sym e))
  without_keeps (head e) x n (tail m) = m
  without_keeps (tail k) x n (head p) = head p
  without_keeps (tail k) x n (tail m) = tail (without_keeps k x n m)

  pub fewer : (l m : List A) → Distinct l → ((y : A) → Mem y l → Mem y m) → length l ≤ length m
  fewer [] m d h = omega arith
  fewer (y ∷ l) m d h =
      let k = h y (head refl) in
      omega (arith, without_length k, fewer l (without k) d.1 (λ x j. without_keeps k x (λ p. d.0 (Memᴰ.cast (sym p) j)) (h x (tail j))))

  -- of the same members, each once, there are as many
  pub same_length : (l m : List A) → Distinct l → Distinct m → ((y : A) → Mem y l → Mem y m) → ((y : A) → Mem y m → Mem y l) → length l ≡ length m
  same_length l m d e f g = omega (arith, fewer l m d f, fewer m l e g)

-- ---- what a rule asks for of some elements, in yard order, is one list

pub sorted-distinct : (A : Entry → Entry → Type 0) → ((e : Entry) → A e e → ⊥) → (l : List Entry) → SortedBy A l → Distinct l
sorted-distinct A n [] s = tt
sorted-distinct A n (h ∷ l) s = ((λ k. n h (s.0 h k)), sorted-distinct A n l s.1)

-- Two lists in yard order with the same members are equal.
sorted-same : (l m : List Entry) → Sorted l → Sorted m → ((h : Entry) → Mem h l → Mem h m) → ((h : Entry) → Mem h m → Mem h l) → l ≡ m
sorted-same [] [] s t f g = refl
sorted-same [] (y ∷ m) s t f g = absurd (not-nil (g y (head refl)))
sorted-same (x ∷ l) [] s t f g = absurd (not-nil (f x (head refl)))
sorted-same (x ∷ l) (y ∷ m) s t f g = cc (
  same,
  sorted-same l m s.1 t.1 (λ h k. there h k (cases_cons (f h (tail k)))) (λ h k. back h k (cases_cons (g h
      (tail k)))),
)
  where
    one : (x ≡ y) ⊎ Mem x m → (y ≡ x) ⊎ Mem y l → x ≡ y
    one (inl p) q = p
    one (inr k) (inl p) = sym p
    one (inr k) (inr j) = absurd (before_not (s.0 y j) (t.0 x k))

    same : x ≡ y
    same = one (cases_cons (f x (head refl))) (cases_cons (g y (head refl)))

    there : (h : Entry) → Mem h l → (h ≡ y) ⊎ Mem h m → Mem h m
    there h k (inl p) = let c : YardBefore x x = rw (p ∙ sym same) at (s.0 h k) in absurd (before_not c c)
    there h k (inr j) = j

    back : (h : Entry) → Mem h m → (h ≡ x) ⊎ Mem h l → Mem h l
    back h k (inl p) = let c : YardBefore y y = rw (p ∙ same) at (t.0 h k) in absurd (before_not c c)
    back h k (inr j) = j

-- l has what a rule asks for, in yard order, of the elements that P holds of.
pub record Asked (P : Entry → Type 0) (r : Rule) (l : List Entry) : Type 0 where
  pub sorted : Sorted l
  pub among : (h : Entry) → Mem h l → P h
  pub allowed : Allowed r l
  pub rest : (h : Entry) → P h → Mem h l ⊎ LeftOut r l h

asked-sub : (P : Entry → Type 0) (r : Rule) (l m : List Entry) → Asked P r l → Asked P r m → (h : Entry) → Mem h l → Mem h m
asked-sub P (nearest k) l m a b h j = go (b.rest h (a.among h j))
  where
    -- if h were left out of m, m would have k elements, all of them in l, and h besides
    inner : Out k m h → (g : Entry) → Mem g m → Mem g l ⊎ Out k l g → Mem g l
    inner o g x (inl y) = y
    inner o g x (inr y) = absurd (before_not (o.after g x) (y.after h j))

    spread : Out k m h → (g : Entry) → (g ≡ h) ⊎ Mem g m → Mem g l
    spread o g (inl p) = Memᴰ.cast p j
    spread o g (inr x) = inner o g x (a.rest g (b.among g x))

    go : Mem h m ⊎ Out k m h → Mem h m
    go (inl x) = x
    go (inr o) = absurd (omega (
      arith,
      o.full,
      a.allowed,
      fewer (h ∷ m) l ((λ x. before_not (o.after h x) (o.after h x)), sorted-distinct YardBefore (λ e x. before_not x x) m b.sorted) (λ g
          x. spread o g (cases_cons x)),
    ))
asked-sub P (in_drive s) l m a b h j = go (b.rest h (a.among h j))
  where
    go : Mem h m ⊎ (s < h.distance) → Mem h m
    go (inl x) = x
    go (inr f) = absurd (omega (arith, a.allowed h j))

-- There is one such list.
pub asked-one : (P : Entry → Type 0) (r : Rule) (l m : List Entry) → Asked P r l → Asked P r m → l ≡ m
asked-one P r l m a b = sorted-same l m a.sorted b.sorted (asked-sub P r l m a b) (asked-sub P r m l b a)

-- two elements of a list in yard order that name one yard at one distance are one
sorted-one : (i : Instance) (l : List Entry) → ((h : Entry) → Mem h l → h ≡ entry i h.yard) → (h g : Entry) → Mem h l → Mem g l → h.yard ≡ g.yard
    → h ≡ g
sorted-one i l is h g k j e = is h k ∙ ap (entry i) e ∙ sym (is g j)

module _ (i : Instance) where
  entry-total : (h : Entry) → h ≡ entry i h.yard → h.distance ≡ total i h.yard
  unfolding entry
  entry-total h e = ap (λ (x : Entry). x.distance) e

  entry-furthest : (h : Entry) → h ≡ entry i h.yard → h.furthest ≡ furthest i h.yard
  unfolding entry
  entry-furthest h e = ap (λ (x : Entry). x.furthest) e

  pub kept-listing : (st : SearchState) → Kept i st → Listing i st.held
  kept-listing st was = rw was.first-ranked (record {
    sorted = sort;
    distances = λ h k. entry-total h (is h k);
    furthests = λ h k. entry-furthest h (is h k);
    distinct = sorted-one i (front i.rule all) is;
    in_tree = λ h k. was.measured_in h.yard (ranked-mem i h st.measured (front-mem i.rule h all k)).0;
    allowed = front-allowed i.rule all;
    greatest = λ h k. greatest_held-le h (front i.rule all) sort k;
  })
    where
      all : List Entry
      all = ranked i st.measured

      is : (h : Entry) → Mem h (front i.rule all) → h ≡ entry i h.yard
      is h k = (ranked-mem i h st.measured (front-mem i.rule h all k)).1

      sort : Sorted (front i.rule all)
      sort = front-sorted i.rule all (ranked-sorted i st.measured was.once)

  -- a yard of the tree, with its aggregate
  abbrev TreeYard : Entry → Type 0
  TreeYard h = (h ≡ entry i h.yard) × Below i 0 h.yard

  pub entry-same : {h : Entry} → h.distance ≡ total i h.yard → h.furthest ≡ furthest i h.yard → h ≡ entry i h.yard
  unfolding entry
  entry-same {h} p q = λ j. record { distance = p j; furthest = q j; yard = h.yard }

  listing-asked : (held : List Entry) → Listing i held → ((y : ℕ) → Below i 0 y → Mem (entry i y) held ⊎ LeftOut i.rule held (entry i y))
      → Asked TreeYard i.rule held
  unfolding entry
  listing-asked held l rest = record {
    sorted = l.sorted;
    among = λ h k. (entry-same (l.distances h k) (l.furthests h k), l.in_tree h k);
    allowed = l.allowed;
    rest = λ h p. rw p.0 (rest h.yard p.1);
  }

  ranked-asked : (ys : List ℕ) → TreeYards i ys → Asked TreeYard i.rule (front i.rule (ranked i ys))
  ranked-asked ys tree = record {
    sorted = front-sorted i.rule all sort;
    among = λ h k. let x = ranked-mem i h ys (front-mem i.rule h all k) in (x.1, tree.below h.yard x.0);
    allowed = front-allowed i.rule all;
    rest = λ h p. front_rest i.rule h all sort (Memᴰ.cast p.0 (ranked_in i h.yard ys (tree.every h.yard p.1)));
  }
    where
      all : List Entry
      all = ranked i ys

      sort : Sorted all
      sort = ranked-sorted i ys tree.distinct

  settled-complete : (st : SearchState) → Kept i st → ((y : ℕ) → Below i 0 y → Mem (entry i y) st.held ⊎ LeftOut i.rule st.held (entry i y))
      → Complete i st.held
  settled-complete st was rest = record {
    rest = rest;
    exact = λ ys tree. asked-one TreeYard i.rule st.held (front i.rule (ranked i ys)) (listing-asked st.held (kept-listing st was) rest)
        (ranked-asked ys tree);
  }

-- whatever the limit and whatever the tree's numbers say
pub run-listing : (i : Instance) → WellFormed i → (limit : ℕ) → Listing i (run i limit).state.held
run-listing i well limit = kept-listing i (run i limit).state (run-kept i well limit)

-- ---- a settled search

module _ (i : Instance) (well : WellFormed i) (limit : ℕ) (t : T (settled i (run i limit).state)) where
  abbrev st : SearchState
  st = (run i limit).state

  was : Kept i st
  was = run-kept i well limit

  -- A yard that isn't measured has a key past what ends the search: it is queued with it, or it waits below a queued region of no greater key.
  settled-keys : (y : ℕ) → Below i 0 y → Mem y st.measured ⊎ Past i.rule st.held (yard_key i y)
  settled-keys y below = go (run_covers i well limit y below)
    where
      keyed : Keyed i st
      keyed = run_keyed i well limit

      go : Cover i st y → Mem y st.measured ⊎ Past i.rule st.held (yard_key i y)
      go (is-measured k) = inl k
      go (in_queue a e) = inr (rw (← keyed.queued-is y a e) (settled-yards i st was.sizes t y a e))
      go (below-queued r a e b n) =
          inr (past_more i.rule st.held a (yard_key i y) (waits i well st was keyed r a y e b n) (settled-regions i st was.sizes t r a e))

  -- every wanted yard whose key is not past what ends the search is measured, whatever the tree's numbers say
  pub run-measured : (y : ℕ) → Below i 0 y → NotPast i.rule (run i limit).state.held (yard_key i y) → Mem y (run i limit).state.measured
  run-measured y below within = go (settled-keys y below)
    where
      go : Mem y st.measured ⊎ Past i.rule st.held (yard_key i y) → Mem y st.measured
      go (inl k) = k
      go (inr p) = absurd (past_not i.rule st.held (yard_key i y) p within)

-- on a true tree a yard is held, or the rule leaves it out
pub run-complete : (i : Instance) → SoundInstance i → (limit : ℕ) → T (settled i (run i limit).state) → Complete i (run i limit).state.held
unfolding entry
run-complete i sound limit t = settled-complete i st was (λ y below. place y below (settled-keys i sound.well limit t y below))
  where
    st : SearchState
    st = (run i limit).state

    was : Kept i st
    was = run-kept i sound.well limit

    place : (y : ℕ) → Below i 0 y → Mem y st.measured ⊎ Past i.rule st.held (yard_key i y)
        → Mem (entry i y) st.held ⊎ LeftOut i.rule st.held (entry i y)
    place y below (inl k) = rw was.first-ranked (front_rest i.rule (entry i y) (ranked i st.measured) (ranked-sorted i st.measured was.once)
        (ranked_in i y st.measured k))
    place y below (inr p) = inr (past_out i.rule st.held (entry i y) (kept-listing i st was).greatest
        (past_more i.rule st.held (yard_key i y) (total i y) (key_low i sound y below) p))
