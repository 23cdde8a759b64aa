-- The kinds of a tree's yards: each yard's are those of its element in its leaf's first list. Assumes nothing.
use mathlib.Core.Path.{◌≡◌, refl, sym, ap, ◌∙◌}
use mathlib.Core.Logic.{◌⊎◌, inl, inr}
use mathlib.Core.Bool.{not}
use mathlib.Core.List.Memᴰ.{not-nil}
use mathlib.Core.List.{List, [], ◌∷◌, Memᴰ as Mem}
use mathlib.Core.List.Memᴰ.{cases_cons}
use mathlib.Core.List.Memᴰ.{cast}
use Prim.Native.Nat.{ℕ, zero, suc, ◌+◌, ◌≤◌, ◌<◌}
use native.Mathlib.Decide.{ℕ_discrete}
use native.Mathlib.Omega.{arith}
use lib.ListN.{length}
use lib.Dec.{T, eqb, eqb→eq, T_not}
use Rattle.book.specs.Choose.{choose}
use Rattle.book.specs.Lists.{Distinct}
use Rattle.book.proofs.Choosing.{choose_case, choose_yes, choose_no, choose-map, T-split}
use Rattle.book.proofs.Lists.{eq→eqb, ne→neqb}
use Rattle.tree_layout.specs.Values.{Element, Region, Tree, region_at}
use Rattle.tree_layout.specs.Decode.{decode}
use Rattle.tree_layout.specs.code.Formed.{FormedTree}
use Rattle.tree_layout.proofs.Formed.{decode-formed, at_mem}
use Rattle.tree_leaf.specs.Leaf.{yards_in, names, first_list}
use Rattle.tree_leaf.proofs.Named.{names-mem, mem-names, yards-none, yards-cons, yards_of_lem, yards-from, first_mark_of}
use Rattle.tree.specs.Shape.{tree_refusal}
use Rattle.tree.specs.Yards.{own_yards, tree_yards, kinds_in, own_list, kinds_from, kinds_of}
use Rattle.tree.specs.Theorems.{LeafOf, Whole}
use Rattle.tree.proofs.Members.{yard-from}
use Rattle.tree.proofs.Theorems.{accepted-whole}

-- ---- a list

-- in a list that names each yard once, an element's kinds are its yard's
pub kinds_in_lem : (es : List Element) → Distinct (yards_in es) → (e : Element) → Mem e es → kinds_in es e.yard ≡ e.kinds
unfolding kinds_in
kinds_in_lem [] d e k = absurd (not-nil k)
kinds_in_lem (g ∷ gs) d e k = go (cases_cons k) (λ j. kinds_in_lem gs apart.1 e j)
  where
    apart : (Mem g.yard (yards_in gs) → ⊥) × Distinct (yards_in gs)
    apart = rw (yards-cons g gs) at d

    go : (e ≡ g) ⊎ Mem e gs → (Mem e gs → kinds_in gs e.yard ≡ e.kinds) → choose (eqb g.yard e.yard) g.kinds (kinds_in gs e.yard) ≡ e.kinds
    go (inl q) rec =
        choose_yes (eqb g.yard e.yard) _ _ (eq→eqb g.yard e.yard (ap (λ (x : Element). x.yard) (sym q))) ∙ ap (λ (x : Element). x.kinds) (sym q)
    go (inr j) rec =
        choose_no (eqb g.yard e.yard) _ _ (ne→neqb g.yard e.yard (λ z. apart.0 (cast z (yards_of_lem gs e j)))) ∙ rec j

-- ---- a region's own list

own_leaf : (r : Region) → r.children ≡ 0 → own_list r ≡ first_list r.marks
unfolding own_list
own_leaf r c = choose_yes (eqb r.children 0) _ _ (eq→eqb r.children 0 c)

-- its yards are the region's own
own_yards_lem : (r : Region) → own_yards r ≡ yards_in (own_list r)
unfolding own_yards own_list
own_yards_lem r = sym (choose-map yards_in (eqb r.children 0) (first_list r.marks) [] ∙ rw yards-none refl)

-- a region whose own list names something is a leaf
own_names : (r : Region) (y : ℕ) → T (names (own_list r) y) → r.children ≡ 0
unfolding own_list
own_names r y t = go (T-split (eqb r.children 0))
  where
    go : T (eqb r.children 0) ⊎ T (not (eqb r.children 0)) → r.children ≡ 0
    go (inl s) = eqb→eq r.children 0 s
    go (inr s) = absurd (not-nil (rw yards-none at (names-mem [] y (rw (choose_no (eqb r.children 0) (first_list r.marks) [] s) at t))))

-- ---- the regions from a number on

-- a yard's kinds are those in the one list that names it
kinds-from : (rs : List Region) (y j n i : ℕ) → i ≤ j → j < i + n → T (names (own_list (region_at rs j)) y)
    → ((k : ℕ) → k < i + n → T (names (own_list (region_at rs k)) y) → k ≡ j) → kinds_from rs n i y ≡ kinds_in (own_list (region_at rs j)) y
unfolding kinds_from
kinds-from rs y j zero i p q t u = absurd (omega arith)
kinds-from rs y j (suc n) i p q t u =
    choose_case (λ (x : ℕ). x ≡ kinds_in (own_list (region_at rs j)) y) (names (own_list (region_at rs i)) y)
    (λ s. ap (λ (k : ℕ). kinds_in (own_list (region_at rs k)) y) (u i (omega arith) s))
    (λ s. kinds-from rs y j n (suc i) (further (ℕ_discrete i j) s) (omega arith) t (λ k l v. u k (omega arith) v))
  where
    further : Dec (i ≡ j) → T (not (names (own_list (region_at rs i)) y)) → suc i ≤ j
    further (yes e) s = absurd (T_not (names (own_list (region_at rs i)) y) s (rw e t))
    further (no e) s = omega arith

-- ---- a whole tree

module _ (t : Tree) (whole : Whole t) where
  abbrev rs : List Region
  rs = t.regions

  abbrev first : ℕ → List Element
  first j = first_list (region_at rs j).marks

  -- a leaf holds the yards of its first list
  leaf-holds : (j : ℕ) → j < length rs → (region_at rs j).children ≡ 0 → (e : Element) → Mem e (first j) → LeafOf rs e.yard j
  leaf-holds j h c e k =
      let m = first_mark_of (region_at rs j).marks e k in
      record {
        number = h;
        leaf = c;
        holds = (whole.holdings.listed j h c m.0 m.1 e.yard).1 (rw m.2 at (yards_of_lem (first j) e k));
      }

  -- no other region's own list names a yard of it
  one_list : (j : ℕ) → j < length rs → (region_at rs j).children ≡ 0 → (e : Element) → Mem e (first j)
      → (k : ℕ) → k < length rs → T (names (own_list (region_at rs k)) e.yard) → k ≡ j
  one_list j h c e i k l n =
      let d = own_names (region_at rs k) e.yard n in
      let x = yards-from (first k) e.yard (names-mem (first k) e.yard (rw (own_leaf (region_at rs k) d) at n)) in
      whole.one-leaf e.yard k j (rw x.2 at (leaf-holds k l d x.0 x.1)) (leaf-holds j h c e i)

  -- "its byte in its leaf's first list"
  pub kinds-listed : (j : ℕ) → j < length rs → (region_at rs j).children ≡ 0 → (e : Element) → Mem e (first j) → kinds_of t e.yard ≡ e.kinds
  unfolding kinds_of
  kinds-listed j h c e k =
      let m = first_mark_of (region_at rs j).marks e k in
      let o = own_leaf (region_at rs j) c in
      let n : T (names (own_list (region_at rs j)) e.yard) = rw o (mem-names (first j) e.yard (yards_of_lem (first j) e k)) in
      kinds-from rs e.yard j (length rs) 0 (omega arith) (omega arith) n (λ i l v. one_list j h c e k i (omega arith) v)
      ∙ rw o (kinds_in_lem (first j) (rw m.2 (whole.holdings.listed-once j h c m.0 m.1)) e k)

  -- each yard of the tree has an element in its leaf's first list
  pub yard-element : (y : ℕ) → Mem y (tree_yards t)
      → (j : ℕ) × (e : Element) × (j < length rs) × ((region_at rs j).children ≡ 0) × Mem e (first j) × (e.yard ≡ y)
  unfolding tree_yards
  yard-element y k =
      let x = yard-from rs (length rs) 0 y k in
      let j = x.0 in
      let w = rw (own_yards_lem (region_at rs j)) at x.3 in
      let c = own_names (region_at rs j) y (mem-names (own_list (region_at rs j)) y w) in
      let e = yards-from (first j) y (rw (own_leaf (region_at rs j) c) at w) in
      (j, e.0, omega (arith, x.2), c, e.1, e.2)

  -- "Version 1 books are read with kind 255 throughout"
  pub kinds-any : FormedTree t → t.version ≡ 1 → (y : ℕ) → Mem y (tree_yards t) → kinds_of t y ≡ 255
  kinds-any formed v y k =
      let x = yard-element y k in
      let j = x.0 in
      let e = x.1 in
      let m = first_mark_of (region_at rs j).marks e x.4 in
      let q : kinds_of t e.yard ≡ e.kinds = kinds-listed j x.2 x.3 e x.4 in
      let a : e.kinds ≡ 255 = (formed (region_at rs j) (at_mem rs j x.2)).any-listed v m.0 m.1 e (rw m.2 at x.4) in
      rw (← x.5) (q ∙ a)

-- trees of the same regions have the same kinds
pub kinds-alike : (t u : Tree) → t.regions ≡ u.regions → (y : ℕ) → kinds_of t y ≡ kinds_of u y
unfolding kinds_of
kinds-alike t u e y = rw e refl

-- ---- of an accepted book

module _ (b : List ℕ) (ok : tree_refusal b ≡ 0) where
  pub accepted-kinds : (j : ℕ) → j < length (decode b).regions → (region_at (decode b).regions j).children ≡ 0 → (e : Element)
      → Mem e (first_list (region_at (decode b).regions j).marks) → kinds_of (decode b) e.yard ≡ e.kinds
  accepted-kinds = kinds-listed (decode b) (accepted-whole b ok)

  pub accepted-any : (decode b).version ≡ 1 → (y : ℕ) → Mem y (tree_yards (decode b)) → kinds_of (decode b) y ≡ 255
  accepted-any = kinds-any (decode b) (accepted-whole b ok) (decode-formed b)
