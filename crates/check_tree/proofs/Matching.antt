-- Whether a tree's yards are a yard book's: what is found, and the sets. Assumes nothing.
use mathlib.Core.Path.{◌≡◌, refl, ◌∙◌}
use mathlib.Core.Bool.{Bool, true, false}
use mathlib.Core.List.{List, Memᴰ as Mem}
use Prim.Native.Nat.{ℕ, ◌<◌}
use native.Mathlib.Omega.{arith}
use lib.ListN.{length}
use lib.Dec.{T, eqb, eqb→eq, not_T}
use Rattle.book.proofs.Choosing.{choose_case, choose_yes, T_false}
use Rattle.book.proofs.Lists.{eq→eqb}
use Rattle.yard.specs.Yards.{yards_of, yard_refusal, yard_count}
use Rattle.yard.proofs.YardLayout.{rising-yards, distinct-yards}
use Rattle.tree_layout.specs.Values.{Mark, Region, Tree, region_at}
use Rattle.tree_layout.specs.Decode.{decode}
use Rattle.tree_layout.specs.Decode as Book
use Rattle.tree_layout.proofs.Tests.{all-mem, all_intro}
use Rattle.tree_layout.proofs.Places.{decode-yards, decode-landmarks}
use Rattle.tree_layout.proofs.Formed.{decode-formed, at_mem}
use Rattle.tree_layout.proofs.Rising.{region_mem}
use Rattle.tree_leaf.specs.Leaf.{first_list}
use Rattle.tree_leaf.proofs.Named.{yards_of_lem, yards-from, first_mark_lem}
use Rattle.tree.specs.Shape.{tree_refusal}
use Rattle.tree.specs.Yards.{tree_yards}
use Rattle.tree.specs.Theorems.{Whole}
use Rattle.tree.proofs.Ranges.{below-tree}
use Rattle.tree.proofs.Theorems.{tree-facts, accepted-whole}
use Rattle.check_rules.specs.Facts.{Same}
use Rattle.check_tree.specs.Check.{same_set}
use Rattle.check_tree.specs.code.Known.{known_element, known_list, known_region, known_tree}
use Rattle.check_tree.proofs.Sets.{has-mem, mem-has, set_same, same_set_lem, at_most, all_of}

-- both tests hold, or neither
same_test : (a b : Bool) → (T a → T b) → (T b → T a) → a ≡ b
same_test true true f g = refl
same_test true false f g = absurd (f tt)
same_test false true f g = absurd (g tt)
same_test false false f g = refl

module _ (yard tree : List ℕ) (yok : yard_refusal yard ≡ 0) (tok : tree_refusal tree ≡ 0) where
  abbrev ys : List ℕ
  ys = yards_of yard

  abbrev t : Tree
  t = decode tree

  abbrev rs : List Region
  rs = (decode tree).regions

  whole : Whole t
  whole = accepted-whole tree tok

  -- a landmark of a region, whose list is the first
  first_of : (j : ℕ) → j < length rs → (m : Mark) × Mem m (region_at rs j).marks × (first_list (region_at rs j).marks ≡ m.list)
  first_of j h =
      first_mark_lem (region_at rs j).marks
      (omega (arith, (decode-formed tree (region_at rs j) (at_mem rs j h)).count, decode-landmarks tree, (tree-facts tree tok).layout.landmarks.0))

  -- ---- what is found

  known_to : T (known_tree ys t) → (y : ℕ) → Mem y (tree_yards t) → Mem y ys
  unfolding known_tree known_region known_list known_element
  known_to k y i =
      let (j, l) = whole.leaf_of_lem y i in
      let (m, q, e) = first_of j l.number in
      let r = all-mem (known_region ys) rs k (region_at rs j) (at_mem rs j l.number) in
      let z = eq→eqb (region_at rs j).children 0 l.leaf in
      let s : T (known_list ys (first_list (region_at rs j).marks))
      = rw (choose_yes (eqb (region_at rs j).children 0) (known_list ys (first_list (region_at rs j).marks)) true z) at r in
      let u : T (known_list ys m.list) = rw e at s in
      let (g, p, f) = yards-from m.list y ((whole.holdings.listed j l.number l.leaf m q y).0 l.holds) in
      has-mem ys y (rw f at (all-mem (known_element ys) m.list u g p))

  to_known : ((y : ℕ) → Mem y (tree_yards t) → Mem y ys) → T (known_tree ys t)
  unfolding known_tree known_region known_list known_element
  to_known f = all_intro (known_region ys) rs (λ r k. go r (region_mem rs r k))
    where
      leaf : (j : ℕ) → j < length rs → (region_at rs j).children ≡ 0
          → (x : (m : Mark) × Mem m (region_at rs j).marks × (first_list (region_at rs j).marks ≡ m.list)) → T (known_list ys (first_list (region_at rs j).marks))
      leaf j h c (m, q, e) =
          rw e (all_intro (known_element ys) m.list
          (λ g p. mem-has ys g.yard
          (f g.yard (below-tree tree tok j g.yard h ((whole.holdings.listed j h c m q g.yard).1 (yards_of_lem m.list g p))))))

      go : (r : Region) → (j : ℕ) × (j < length rs) × (r ≡ region_at rs j) → T (known_region ys r)
      go r (j, h, e) = rw e
          (choose_case (λ (b : Bool). T b) (eqb (region_at rs j).children 0) (λ z. leaf j h (eqb→eq (region_at rs j).children 0 z) (first_of j h)) (λ z. tt))

  -- ---- the sets

  tree-length : length (tree_yards t) ≡ Book.tree_yard_count tree
  tree-length = whole.yard-count ∙ decode-yards tree

  yard-length : length ys ≡ yard_count yard
  yard-length = (rising-yards yard yok).counted

  -- as many yards: it is enough that each of the tree's is in the yard book
  pub counted_same : Book.tree_yard_count tree ≡ yard_count yard → known_tree ys t ≡ same_set (tree_yards t) ys
  counted_same e =
      same_test (known_tree ys t) (same_set (tree_yards t) ys)
      (λ k. same_set_lem (tree_yards t) ys
      (record { to = known_to k; from = all_of (tree_yards t) ys whole.yard-once (known_to k) (omega (arith, tree-length, yard-length)) }))
      (λ s. to_known (set_same (tree_yards t) ys s).to)

  -- not as many: the sets differ
  pub counts_differ : (Book.tree_yard_count tree ≡ yard_count yard → ⊥) → same_set (tree_yards t) ys ≡ false
  counts_differ n = T_false (same_set (tree_yards t) ys) (not_T (same_set (tree_yards t) ys) (λ s. n (equal (set_same (tree_yards t) ys s))))
    where
      equal : Same (tree_yards t) ys → Book.tree_yard_count tree ≡ yard_count yard
      equal s = omega (
        arith,
        tree-length,
        yard-length,
        at_most (tree_yards t) ys whole.yard-once s.to,
        at_most ys (tree_yards t) (distinct-yards yard yok)
            s.from,
      )
