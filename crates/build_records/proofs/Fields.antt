-- What building is asked for, field by field. Assumes nothing.
use mathlib.Core.Path.{◌≡◌, refl}
use mathlib.Core.List.{List}
use Prim.Native.Nat.{ℕ}
use Rattle.book.specs.Open.{version}
use Rattle.road_layout.specs.Road.{roads}
use Rattle.road.specs.Dijkstra.{dist}
use Rattle.yard.specs.Yards.{kind_of}
use Rattle.build_records.specs.Given.{given}

module _ (b yb : List ℕ) (m limit : ℕ) where
  pub given-version : (given b yb m limit).version ≡ version yb
  unfolding given
  given-version = refl

  pub given-roads : (given b yb m limit).roads ≡ roads b
  unfolding given
  given-roads = refl

  pub given-d : (given b yb m limit).d ≡ dist b
  unfolding given
  given-d = refl

  pub given-kinds : (given b yb m limit).kinds ≡ kind_of yb
  unfolding given
  given-kinds = refl

  pub given-landmarks : (given b yb m limit).landmarks ≡ m
  unfolding given
  given-landmarks = refl

  pub given-limit : (given b yb m limit).limit ≡ limit
  unfolding given
  given-limit = refl
