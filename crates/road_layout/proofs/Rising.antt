-- `roads_ok`, one road at a time, as a loop counts: `count - k` roads are left. Assumes nothing.
use mathlib.Core.Path.{◌≡◌}
use mathlib.Core.Bool.{true, false}
use mathlib.Core.List.{List}
use Prim.Native.Nat.{ℕ, suc, ◌+◌, ◌-◌, ◌≤◌, ◌<◌}
use native.Mathlib.Omega.{arith}
use Rattle.road_layout.specs.Road.{road_at}
use Rattle.road_layout.specs.Layout.{road_ok, roads_ok}
use Rattle.road_layout.proofs.Roads.{read_road}

module _ (b : List ℕ) (n count k l h low high seconds : ℕ)
    (el : low ≡ (road_at b k).low) (eh : high ≡ (road_at b k).high) (es : seconds ≡ (road_at b k).seconds) where
  -- what was read is road k
  road-k : record { low = low; high = high; seconds = seconds } ≡ road_at b k
  road-k = read_road b k low high seconds el eh es

  -- a good road: the rest decides
  pub goes_on : k < count → road_ok n l h (record { low = low; high = high; seconds = seconds }) ≡ true
      → roads_ok b n (count - (k + 1)) (k + 1) low high ≡ roads_ok b n (count - k) k l h
  unfolding roads_ok
  goes_on p t =
      let s : count - k ≡ suc (count - (k + 1)) = omega arith in
      simp (s, ← road-k, t)

  -- a bad one decides
  pub stops : k < count → road_ok n l h (record { low = low; high = high; seconds = seconds }) ≡ false
      → roads_ok b n (count - k) k l h ≡ false
  unfolding roads_ok
  stops p t =
      let s : count - k ≡ suc (count - (k + 1)) = omega arith in
      simp (s, ← road-k, t)

-- none is left
pub ends : (b : List ℕ) (n count k l h : ℕ) → count ≤ k → roads_ok b n (count - k) k l h ≡ true
unfolding roads_ok
ends b n count k l h p =
    let s : count - k ≡ 0 = omega arith in
    simp s
