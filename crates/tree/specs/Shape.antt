-- Test 7, "Tree shape", by a descent of the regions in preorder, and the refusal of a tree book. Assumes nothing: these
-- are definitions.
use Rattle.std.specs.Prelude.{Bool, false, ◌&&◌, List, ℕ, zero, suc, ◌-◌, length, ltb, leb, eqb, Option, Some, None}
use Rattle.book.specs.Choose.{choose, refuse, first_of}
use Rattle.tree_layout.specs.Values.{Region, Tree, region_at}
use Rattle.tree_layout.specs.Decode.{decode}
use Rattle.tree_layout.specs.Refusal.{tree_layout_refusal}
use Rattle.tree_layout.specs.declared.Region.{Region as RegionNumber}
use Rattle.tree_leaf.specs.Leaf.{leaf_ok}

-- ---- the descent

-- what the descent of a subtree finds: the region after it, or that a rule of the shape doesn't hold
abbrev pub End : Type 0
End = Option RegionNumber

-- a child's range lies from low up to high, and it has no more yards than are left
unfoldable pub child_fits : (low high left : ℕ) → (first after yards : ℕ) → Bool
child_fits low high left first after yards = leb low first && (leb after high && leb yards left)

-- the answer of a descent that came to region i: i is the first region after those that it took
abbrev pub end_at : ℕ → End
end_at i = Some (record { number = i })

-- goes on from the region that a descent came to; `None` stays so
abbrev pub onward : End → (ℕ → End) → End
onward (Some r) next = next r.number
onward None next = None

-- "children's ranges rise, don't overlap and lie inside the parent's; a parent's yards are its children's sum": of n
-- siblings, the first of number i, in the range from low to high that is left, with the yards that are left. The region
-- after the last region of their subtrees, or `None` if a rule doesn't hold. `f` descends to a sibling.
unfoldable pub siblings : List Region → (ℕ → End) → ℕ → ℕ → ℕ → ℕ → ℕ → End
siblings rs f zero i low high left = choose (eqb left 0) (end_at i) None
siblings rs f (suc n) i low high left =
    let c = region_at rs i in
    let rest : ℕ → End = λ e. siblings rs f n e c.after high (left - c.yards) in
    choose (child_fits low high left c.first c.after c.yards) (onward (f i) rest) None

-- "the child counts make all the regions one tree in preorder": the region after the last region of region i's
-- subtree, by a descent with the levels that remain, or `None` if a rule doesn't hold
unfoldable pub subtree : List Region → ℕ → ℕ → End
subtree rs zero i = None
subtree rs (suc levels) i =
    let r = region_at rs i in
    let inner = siblings rs (subtree rs levels) r.children (suc i) r.first r.after r.yards in
    let leaf = choose (leaf_ok r) (end_at (suc i)) None in
    choose (ltb i (length rs)) (choose (eqb r.children 0) leaf inner) None

-- "there are at most 8 levels, root included"
abbrev pub levels : ℕ
levels = 8

-- whether a descent came to region n; `None` is no region
abbrev pub is_at : End → ℕ → Bool
is_at (Some r) n = eqb r.number n
is_at None n = false

-- the descent from the root takes all regions, and "the root holds all yards"
unfoldable pub shaped : Tree → Bool
shaped t = is_at (subtree t.regions levels 0) (length t.regions) && eqb (region_at t.regions 0).yards t.yards

-- ---- the first test that fails, or 0: "7. The tree's shape rules don't hold." comes after 1 to 5
unfoldable pub tree_refusal : List ℕ → ℕ
tree_refusal b = first_of (tree_layout_refusal b) (refuse (shaped (decode b)) 7 0)
