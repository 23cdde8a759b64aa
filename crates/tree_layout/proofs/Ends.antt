-- The fields of a landmark, and the first and last distance of a list as it is read. Assumes nothing.
use mathlib.Core.Path.{◌≡◌, refl}
use mathlib.Core.List.{List, [], ◌∷◌}
use Prim.Native.Nat.{ℕ, zero, suc, ◌+◌}
use native.Mathlib.Omega.{arith}
use Rattle.book.specs.Bytes.{u32_at}
use Rattle.tree_layout.specs.Sizes.{element_size, list_size}
use Rattle.tree_layout.specs.Values.{Element, first_distance, last_from, leaf_mark, inner_mark}
use Rattle.tree_layout.specs.Decode.{element_at, read_list}
use Rattle.tree_layout.proofs.Sizes.{list-zero, list-more}

pub leaf-is : (place : ℕ) (list : List Element)
    → leaf_mark place list ≡ record { place = place; least = first_distance list; greatest = last_from 0 list; list = list }
unfolding leaf_mark
leaf-is place list = refl

pub inner-is : (place least greatest : ℕ) → inner_mark place least greatest ≡ record { place = place; least = least; greatest = greatest; list = [] }
unfolding inner_mark
inner-is place least greatest = refl

-- the first of n + 1 pairs from a place on
pub first_read : (v : ℕ) (p : List ℕ) (n at : ℕ) → first_distance (read_list v p (suc n) at) ≡ u32_at p at
unfolding first_distance read_list element_at
first_read v p n at = refl

-- the last of them
pub last_read : (v : ℕ) (p : List ℕ) (n x at : ℕ) → last_from x (read_list v p (suc n) at) ≡ u32_at p (at + list_size v n)
unfolding last_from read_list element_at
last_read v p zero x at = let e : at ≡ at + list_size v 0 = omega (arith, list-zero v) in rw (← e) refl
last_read v p (suc n) x at =
    let e : (at + element_size v) + list_size v n ≡ at + list_size v (suc n) = omega (arith, list-more v n) in
    rw (← e) (last_read v p n (u32_at p at) (at + element_size v))
