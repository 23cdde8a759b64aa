-- What the accessors of a tree book's fields give. Assumes nothing: these are definitions.
use Rattle.std.specs.Prelude.{Bool, ◌&&◌, List, ℕ, ◌+◌, ltb, leb}
use Rattle.book.specs.Bytes.{u8_at, u16_at, u32_at}
use Rattle.book.specs.Open.{version}
use Rattle.kinds.specs.Kinds.{kind_at}
use Rattle.tree_layout.specs.Sizes.{list_size}
use Rattle.tree_layout.specs.Refusal.{children_ok}
use Rattle.tree_layout.specs.declared.Fields.{Fields}
use Rattle.tree_layout.specs.declared.Listed.{Listed}

-- the fields of the record at a place, and the place
abbrev pub fields_at : List ℕ → ℕ → Fields
fields_at b at = record {
  at = at;
  first = record { number = u16_at b at };
  after = u16_at b (at + 2);
  children = u8_at b (at + 4);
  yards = u16_at b (at + 5);
  kinds = kind_at (version b) b (at + 7);
}

-- element number k of a list of a version v book
abbrev pub listed_at : (v : ℕ) → List ℕ → ℕ → Listed
listed_at v p k = record {
  distance = u32_at p (list_size v k);
  yard = record { number = u16_at p (list_size v k + 4) };
  kinds = kind_at v p (list_size v k + 6);
}

-- the fields of a region are in their ranges
abbrev pub fields_ok : (junctions : ℕ) → Fields → Bool
fields_ok junctions f = ltb f.first.number f.after && (leb f.after junctions && (children_ok f.children
    && (leb 1 f.yards && leb 1 f.kinds)))
