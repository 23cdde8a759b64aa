-- A leaf's list rises, so that its first and last distance enclose all; where a region of a list stands. Assumes nothing.
use mathlib.Core.Path.{◌≡◌, ap}
use mathlib.Core.Logic.{◌⊎◌, inl, inr}
use mathlib.Core.List.Memᴰ.{cases_cons}
use mathlib.Core.List.Memᴰ.{not-nil}
use mathlib.Core.List.{List, [], ◌∷◌, Memᴰ as Mem}
use Prim.Native.Nat.{ℕ, ◌≤◌, ◌<◌}
use native.Mathlib.Omega.{arith}
use lib.ListN.{length}
use Rattle.book.proofs.Lists.{mem_get_d}
use Rattle.tree_layout.specs.Values.{Element, Mark, Region, leaf_mark, first_distance, last_from, no_region, region_at}
use Rattle.tree_layout.specs.Facts.{Before, RisingFrom, Rising}

before_le : (e g : Element) → Before e g → e.distance ≤ g.distance
before_le e g (inl h) = omega arith
before_le e g (inr h) = omega (arith, h.0)

from_low : (g : Element) (es : List Element) → RisingFrom g es → (e : Element) → Mem e es → g.distance ≤ e.distance
from_low g [] r e k = absurd (not-nil k)
from_low g (x ∷ xs) r e k = go (cases_cons k) (before_le g x r.0) (λ j. from_low x xs r.1 e j)
  where
    go : (e ≡ x) ⊎ Mem e xs → g.distance ≤ x.distance → (Mem e xs → x.distance ≤ e.distance) → g.distance ≤ e.distance
    go (inl p) h rec = rw p h
    go (inr j) h rec = omega (arith, rec j)

from_last : (g : Element) (es : List Element) → RisingFrom g es → g.distance ≤ last_from g.distance es
unfolding last_from
from_last g [] r = omega arith
from_last g (x ∷ xs) r = omega (arith, before_le g x r.0, from_last x xs r.1)

from-high : (g : Element) (es : List Element) → RisingFrom g es → (e : Element) → Mem e es → e.distance ≤ last_from g.distance es
unfolding last_from
from-high g [] r e k = absurd (not-nil k)
from-high g (x ∷ xs) r e k = go (cases_cons k) (λ j. from-high x xs r.1 e j)
  where
    go : (e ≡ x) ⊎ Mem e xs → (Mem e xs → e.distance ≤ last_from x.distance xs) → e.distance ≤ last_from x.distance xs
    go (inl p) rec = rw p (from_last x xs r.1)
    go (inr j) rec = rec j

ends_enclose : (es : List Element) → Rising es → (e : Element) → Mem e es → (first_distance es ≤ e.distance) × (e.distance ≤ last_from 0 es)
unfolding first_distance last_from
ends_enclose [] r e k = absurd (not-nil k)
ends_enclose (g ∷ gs) r e k = go (cases_cons k)
  where
    go : (e ≡ g) ⊎ Mem e gs → (g.distance ≤ e.distance) × (e.distance ≤ last_from g.distance gs)
    go (inl p) = rw p (omega arith, from_last g gs r)
    go (inr j) = (from_low g gs r e j, from-high g gs r e j)

-- a leaf's landmark: its least and greatest enclose the distances of its list
pub leaf-encloses : (m : Mark) → m ≡ leaf_mark m.place m.list → Rising m.list → (e : Element) → Mem e m.list
    → (m.least ≤ e.distance) × (e.distance ≤ m.greatest)
unfolding leaf_mark
leaf-encloses m f r e k =
    let x = ends_enclose m.list r e k in
    let l : m.least ≡ first_distance m.list = ap (λ (z : Mark). z.least) f in
    let g : m.greatest ≡ last_from 0 m.list = ap (λ (z : Mark). z.greatest) f in
    (omega (arith, x.0), omega (arith, x.1))

-- a region of a list has a number
pub region_mem : (rs : List Region) (r : Region) → Mem r rs → (j : ℕ) × (j < length rs) × (r ≡ region_at rs j)
unfolding region_at
region_mem rs r k = mem_get_d rs no_region r k
