-- Which yards a search may reach, and how few leaves it takes in vain: of a true tree, and of any tree that the tests accept. Assumes nothing.
use mathlib.Core.Path.{◌≡◌, refl, ap}
use mathlib.Core.Logic.{◌⊎◌, inl, inr}
use mathlib.Core.Bool.{not}
use mathlib.Core.List.Memᴰ.{head}
use mathlib.Core.List.Memᴰ.{not-nil}
use mathlib.Core.List.Memᴰ.{tail}
use mathlib.Core.List.{List, [], ◌∷◌, map, Memᴰ as Mem}
use mathlib.Core.List.Memᴰ.{cases_cons}
use Prim.Native.Nat.{ℕ, zero, suc, ◌+◌, ◌*◌, ◌≤◌, ◌<◌}
use native.Mathlib.Omega.{arith}
use lib.ListN.{length, get_or}
use lib.Dec.{T, T_not, not_T}
use Rattle.book.specs.Lists.{Distinct, keep_if}
use Rattle.book.proofs.Choosing.{choose_case, choose_no}
use Rattle.book.proofs.Lists.{get_d_mem, map-mem, kept-none, kept_yes, kept_no, kept_from, kept_in, kept-distinct, kept_split}
use Rattle.tree.specs.Yards.{children_of, numbers, yards_below, tree_yards}
use Rattle.tree.proofs.Counts.{numbers-none, numbers_more}
use Rattle.search_rules.specs.Instance.{Instance, size, children, leaf}
use Rattle.search_rules.specs.Bounds.{chosen}
use Rattle.search_rules.specs.Step.{no_element}
use Rattle.search_rules.specs.Facts.{Below, inside, under, Holds, listed, child's, SoundInstance}
use Rattle.search_rules.specs.Theorems.{TreeYards, barren, barren_from, barrens}
use Rattle.search_rules.proofs.Bounds.{chosen-mem}
use Rattle.search_rules.proofs.Barren.{barren-admits, barren-leaf, barren-none}
use Rattle.search_rules.proofs.Found.{fewer}
use Rattle.search_rules.proofs.Trees.{Accepted, tree-holds, tree_covers, leaf-yard, leaf-some, leaf-one, below-tree}

-- ---- of a true tree

module _ (i : Instance) (sound : SoundInstance i) where
  child_in : (r c : ℕ) → Mem c (children_of i.tree.regions r) → T (i.admits c) → Mem c (children i r)
  unfolding children
  child_in r c k t = kept_in i.admits (children_of i.tree.regions r) c k t

  -- a wanted yard that a region holds may be reached from it
  pub holds-below : {r y : ℕ} → Holds i r y → T (i.wants y) → Below i r y
  holds-below (listed {r = r} {y = y} m l k x) w = inside m (sound.truth.admitted r y (listed m l k x) w) l k x w
  holds-below (child's {r = r} {y = y} c l k b) w =
      under c (sound.truth.admitted r y (child's c l k b) w) l (child_in r c k (sound.truth.admitted c y b w)) (holds-below b w)

  -- no leaf is taken in vain
  no_barren : (r : ℕ) → r < size i → T (not (barren i r))
  no_barren r h = not_T (barren i r) (λ t. let x = sound.truth.wanted r h (barren-admits i r t) in bare t x.1 x.2)
    where
      bare : T (barren i r) → {y : ℕ} → Holds i r y → T (i.wants y) → ⊥
      bare t (listed {y = y} m l k x) w =
          let j = sound.well.shape.alike r m (chosen i r) y l k (chosen-mem i r (sound.well.shape.marked r h)) x in
          barren-none i r t j.element j.mem (rw j.names w)
      bare t (child's c l k b) w = T_not (leaf i r) l (barren-leaf i r t)

  none_from : (n j : ℕ) → j + n ≤ size i → barren_from i n j ≡ 0
  unfolding barren_from
  none_from zero j h = refl
  none_from (suc n) j h = omega (arith, choose_no {A = ℕ} (barren i j) 1 0 (no_barren j (omega arith)), none_from n (suc j) (omega arith))

  pub no_barrens : barrens i ≡ 0
  unfolding barrens
  no_barrens = none_from (size i) 0 (omega arith)

  -- the wanted yards that may be reached are the tree's wanted yards
  pub sound_yards : Accepted i.tree → TreeYards i (keep_if i.wants (tree_yards i.tree))
  sound_yards a = record {
    distinct = kept-distinct i.wants (tree_yards i.tree) a.whole.yard-once;
    below = λ y k. let x = kept_from i.wants (tree_yards i.tree) y k in holds-below (tree-holds i a y x.0) x.1;
    every = tree_covers i a;
  }

-- ---- of any tree that the tests accept: each leaf that is taken in vain has a yard that isn't wanted

distinct-map : {A B : Type 0} (f : A → B) (l : List A) → Distinct l → ((x y : A) → Mem x l → Mem y l → f x ≡ f y → x ≡ y) → Distinct (map f l)
distinct-map f [] d h = tt
distinct-map f (x ∷ l) d h = (
  (λ k. let z = map-mem f l (f x) k in d.0 (rw (h x z.0 (head refl) (tail z.1) z.2) z.1)),
  distinct-map f l d.1 (λ u v k j. h u v (tail k) (tail j)),
)

pub length-map : {A B : Type 0} (f : A → B) (l : List A) → length (map f l) ≡ length l
length-map f [] = refl
length-map f (x ∷ l) = ap suc (length-map f l)

numbers-from : (n j v : ℕ) → Mem v (numbers n j) → (j ≤ v) × (v < j + n)
numbers-from zero j v k = absurd (not-nil (rw numbers-none at k))
numbers-from (suc n) j v k = go (cases_cons (rw numbers_more at k)) (numbers-from n (suc j) v)
  where
    go : (v ≡ j) ⊎ Mem v (numbers n (suc j)) → (Mem v (numbers n (suc j)) → (suc j ≤ v) × (v < suc j + n)) → (j ≤ v) × (v < j + suc n)
    go (inl e) rec = (omega arith, omega arith)
    go (inr m) rec = let x = rec m in (omega (arith, x.0), omega (arith, x.1))

numbers-once : (n j : ℕ) → Distinct (numbers n j)
numbers-once zero j = rw numbers-none tt
numbers-once (suc n) j = rw numbers_more ((λ k. omega (arith, (numbers-from n (suc j) j k).0)), numbers-once n (suc j))

module _ (i : Instance) (a : Accepted i.tree) where
  -- the leaves that are taken in vain
  bare : List ℕ
  bare = keep_if (barren i) (numbers (size i) 0)

  bare_length : (n j : ℕ) → length (keep_if (barren i) (numbers n j)) ≡ barren_from i n j
  unfolding barren_from
  bare_length zero j = rw (numbers-none, kept-none (barren i)) refl
  bare_length (suc n) j = rw numbers_more (choose_case (λ (x : ℕ). length (keep_if (barren i) (j ∷ numbers n (suc j))) ≡ x + barren_from i n (suc j)) (barren i j)
      (λ t. rw (kept_yes (barren i) j (numbers n (suc j)) t) (omega (arith, bare_length n (suc j))))
      (λ t. rw (kept_no (barren i) j (numbers n (suc j)) t) (omega (arith, bare_length n (suc j)))))

  -- the first yard of its list
  yard : ℕ → ℕ
  yard r = (get_or (chosen i r).list 0 no_element).yard

  module _ (r : ℕ) (k : Mem r bare) where
    is-barren : T (barren i r)
    unfolding bare
    is-barren = (kept_from (barren i) (numbers (size i) 0) r k).1

    in_range_lem : r < size i
    unfolding bare
    in_range_lem = omega (arith, (numbers-from (size i) 0 r (kept_from (barren i) (numbers (size i) 0) r k).0).1)

    first : Mem (get_or (chosen i r).list 0 no_element) (chosen i r).list
    first = get_d_mem (chosen i r).list 0 no_element (leaf-some i a r (barren-leaf i r is-barren) in_range_lem)

    own : Mem (yard r) (yards_below i.tree.regions r)
    unfolding yard
    own = leaf-yard i a r (barren-leaf i r is-barren) in_range_lem (get_or (chosen i r).list 0 no_element) first

    refused : Mem (yard r) (keep_if (λ y. not (i.wants y)) (tree_yards i.tree))
    unfolding yard size
    refused = kept_in (λ y. not (i.wants y)) (tree_yards i.tree) (yard r) (below-tree i a r (yard r) in_range_lem own)
        (not_T (i.wants (yard r)) (λ w. barren-none i r is-barren (get_or (chosen i r).list 0 no_element) first w))

  apart : (r s : ℕ) → Mem r bare → Mem s bare → yard r ≡ yard s → r ≡ s
  apart r s k j e = leaf-one i a (yard s) r s (barren-leaf i r (is-barren r k)) (barren-leaf i s (is-barren s j)) (in_range_lem r k) (in_range_lem s j) (rw e at (own r k)) (own s j)

  bare_few : length bare ≤ length (keep_if (λ y. not (i.wants y)) (tree_yards i.tree))
  unfolding bare
  bare_few = omega (
    arith,
    length-map yard bare,
    fewer (map yard bare) (keep_if (λ y. not (i.wants y)) (tree_yards i.tree)) (distinct-map yard bare once apart) there,
  )
    where
      once : Distinct bare
      once = kept-distinct (barren i) (numbers (size i) 0) (numbers-once (size i) 0)

      there : (y : ℕ) → Mem y (map yard bare) → Mem y (keep_if (λ y. not (i.wants y)) (tree_yards i.tree))
      there y k = let x = map-mem yard bare y k in rw x.2 (refused x.0 x.1)

  pub barrens-few : barrens i + 2 * length (keep_if i.wants (tree_yards i.tree)) ≤ 2 * length (tree_yards i.tree)
  unfolding barrens bare
  barrens-few = omega (arith, bare_few, bare_length (size i) 0, kept_split i.wants (tree_yards i.tree))
