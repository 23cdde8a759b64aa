-- What the arrays hold that reach a region in constant time, and a region's fields. Assumes nothing: these are
-- definitions.
use Rattle.std.specs.Prelude.{◌≡◌, List, ℕ, zero, suc, ◌<◌, length, get_or, set}
use Rattle.tree_layout.specs.Values.{region_at}
use Rattle.tree_layout.specs.Decode.{region_count, place_of, decode}
use Rattle.tree_layout.specs.Facts.{TreeLayout}
use Rattle.tree_layout.specs.declared.Fields.{Fields}

-- the list with its first n numbers replaced by f 0, f 1, ..
unfoldable pub overwrite : (ℕ → ℕ) → ℕ → List ℕ → List ℕ
overwrite f zero l = l
overwrite f (suc n) l = set (overwrite f n l) n (f n)

-- a book of sound layout, with the place of each region's record
pub record Laid (b places : List ℕ) : Type 0 where
  pub layout : TreeLayout b
  pub count : length places ≡ region_count b
  pub held : (i : ℕ) → i < length places → get_or places i 0 ≡ place_of b i

-- the fields of region i, and the place of its record
unfoldable pub fields_of : List ℕ → ℕ → Fields
fields_of b i = record {
  at = place_of b i;
  first = record { number = (region_at (decode b).regions i).first };
  after = (region_at (decode b).regions i).after;
  children = (region_at (decode b).regions i).children;
  yards = (region_at (decode b).regions i).yards;
  kinds = (region_at (decode b).regions i).kinds;
}
