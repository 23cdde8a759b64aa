-- What is read of a road is the road. Assumes nothing.
use mathlib.Core.Path.{◌≡◌, refl}
use mathlib.Core.List.{List, [], ◌∷◌}
use Prim.Native.Nat.{ℕ, suc}
use Rattle.road_layout.specs.Road.{road_count, road_at, roads_to, roads}

pub read_road : (b : List ℕ) (k low high seconds : ℕ) → low ≡ (road_at b k).low → high ≡ (road_at b k).high → seconds ≡ (road_at b k).seconds
    → record { low = low; high = high; seconds = seconds } ≡ road_at b k
read_road b k low high seconds el eh es = rw (el, eh, es) refl

-- the roads, one more at a time
pub roads-none : (b : List ℕ) → roads_to b 0 ≡ []
unfolding roads_to
roads-none b = refl

pub roads-more : (b : List ℕ) (k : ℕ) → roads_to b (suc k) ≡ road_at b k ∷ roads_to b k
unfolding roads_to
roads-more b k = refl

pub roads-all : (b : List ℕ) → roads b ≡ roads_to b (road_count b)
unfolding roads
roads-all b = refl
