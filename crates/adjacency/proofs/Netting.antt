-- Laws of a road book's arcs. Assumes nothing.
use mathlib.Core.Path.{◌≡◌, refl, ap}
use mathlib.Core.List.Memᴰ
use mathlib.Core.List.{List, [], ◌∷◌, Memᴰ}
use Prim.Native.Nat.{ℕ}
use Rattle.road_layout.specs.Road.{Road, roads}
use Rattle.adjacency.specs.Arcs.{Arc, along, back, arcs, net}

pub net-is : (b : List ℕ) → net b ≡ arcs (roads b)
unfolding net
net-is b = refl

-- from u to v in s seconds
abbrev pub arc : ℕ → ℕ → ℕ → Arc
arc u v s = record { from = u; to = v; seconds = s }

-- no road, no arc; and each road has both
pub arcs-none : arcs [] ≡ []
unfolding arcs
arcs-none = refl

pub arcs-more : (r : Road) (rs : List Road) → arcs (r ∷ rs) ≡ arc r.high r.low r.seconds ∷ arc r.low r.high r.seconds ∷ arcs rs
unfolding arcs along back
arcs-more r rs = refl

-- what holds of both arcs of each road holds of every arc
pub each_arc : (P : Arc → Type 0) (rs : List Road)
    → ((r : Road) → Memᴰ r rs → P (arc r.low r.high r.seconds) × P (arc r.high r.low r.seconds))
    → (a : Arc) → Memᴰ a (arcs rs) → P a
unfolding arcs along back
each_arc P [] h a m = absurd (Memᴰ.not-nil m)
each_arc P (r ∷ rs) h a (Memᴰ.head e) = rw e (h r (Memᴰ.head refl)).1
each_arc P (r ∷ rs) h a (Memᴰ.tail (Memᴰ.head e)) = rw e (h r (Memᴰ.head refl)).0
each_arc P (r ∷ rs) h a (Memᴰ.tail (Memᴰ.tail m)) = each_arc P rs (λ q k. h q (Memᴰ.tail k)) a m

-- the arc back is an arc of the same roads
pub back-mem : (rs : List Road) (a : Arc) → Memᴰ a (arcs rs) → Memᴰ (arc a.to a.from a.seconds) (arcs rs)
unfolding arcs back along
back-mem [] a x' = elim x' [ ]
back-mem (r ∷ rs) a (Memᴰ.head e) = Memᴰ.tail (Memᴰ.head (ap back e))
back-mem (r ∷ rs) a (Memᴰ.tail (Memᴰ.head e)) = Memᴰ.head (ap back e)
back-mem (r ∷ rs) a (Memᴰ.tail (Memᴰ.tail m)) = Memᴰ.tail (Memᴰ.tail (back-mem rs a m))
