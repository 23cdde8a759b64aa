-- The fields of landmarks, and the region at a place of a list. Assumes nothing.
use mathlib.Core.Path.{◌≡◌, refl}
use mathlib.Core.List.{List, ◌∷◌, ◌++◌}
use Prim.Native.Nat.{ℕ}
use lib.ListN.{length}
use lib.Seq.{get_or-append_seam}
use Rattle.tree_layout.specs.Values.{Element, Region, leaf_mark, inner_mark, no_region, region_at}

pub leaf-place : (place : ℕ) (list : List Element) → (leaf_mark place list).place ≡ place
unfolding leaf_mark
leaf-place place list = refl

pub leaf-pairs : (place : ℕ) (list : List Element) → (leaf_mark place list).list ≡ list
unfolding leaf_mark
leaf-pairs place list = refl

pub inner-place : (place least greatest : ℕ) → (inner_mark place least greatest).place ≡ place
unfolding inner_mark
inner-place place least greatest = refl

pub inner-least : (place least greatest : ℕ) → (inner_mark place least greatest).least ≡ least
unfolding inner_mark
inner-least place least greatest = refl

pub inner-greatest : (place least greatest : ℕ) → (inner_mark place least greatest).greatest ≡ greatest
unfolding inner_mark
inner-greatest place least greatest = refl

-- each is known by its fields
pub leaf-form : (place : ℕ) (list : List Element) → leaf_mark place list ≡ leaf_mark (leaf_mark place list).place (leaf_mark place list).list
unfolding leaf_mark
leaf-form place list = refl

pub inner-form : (place least greatest : ℕ)
    → inner_mark place least greatest ≡ inner_mark (inner_mark place least greatest).place (inner_mark place least greatest).least (inner_mark place least
    greatest).greatest
unfolding inner_mark
inner-form place least greatest = refl

-- a region between two lists stands at the first one's length
pub region_seam : (before : List Region) (r : Region) (rest : List Region) → region_at (before ++ (r ∷ rest)) (length before) ≡ r
unfolding region_at
region_seam before r rest = get_or-append_seam before r rest no_region
