-- What cutting a range asks of its yards and of the room, and what it leaves. Assumes nothing.
use mathlib.Core.Path.{◌≡◌, refl, sym, ap, ◌∙◌}
use mathlib.Core.Logic.{◌≢◌}
use mathlib.Core.Bool.{Bool, true, false, ◌||◌}
use mathlib.Core.List.{List, ◌++◌}
use Prim.Native.Nat.{ℕ, ◌+◌, ◌-◌, ◌≤◌, ◌<◌}
use native.Mathlib.Omega.{arith}
use lib.ListN.{length}
use lib.Dec.{eqb, leb}
use Rattle.adjacency.specs.Adjacency.{Adjacency}
use Rattle.book.specs.Open.{version}
use Rattle.yard.specs.Yards.{yards_from, yards_of, yard_refusal}
use Rattle.yard.proofs.Listing.{from-length}
use Rattle.tree_layout.specs.Decode.{record_size}
use Rattle.check_rules.specs.Truth.{within}
use Rattle.tree_encode.specs.Encode.{encode_regions}
use Rattle.build_rules.specs.Cut.{part_count}
use Rattle.build_rules.specs.code.Facts.{count_below}
use Rattle.build_records.specs.declared.Part.{Part}
use Rattle.build_records.specs.code.Parts.{YardsUpTo, PartReady}
use Rattle.build_cuts.specs.code.Writing.{own_regions, WrittenRegions}
use Rattle.build_cuts.specs.code.Cutting.{Range, range_regions, parts_from}
use Rattle.build_cuts.proofs.Slices.{below-most, below-rise, within-yards}
use Rattle.build_cuts.proofs.Joining.{written_join, written_same, fits-first, fits-rest}
use Rattle.build_cuts.proofs.Records.{own_room}
use Rattle.build_cuts.proofs.Cases.{some-parts, regions-leaf, some_level, many_yards, regions-cut}

-- ---- the yards between two junctions, by their numbers

module _ (yb : List ℕ) (ok : yard_refusal yb ≡ 0) (low high from end : ℕ) (ef : from ≡ count_below low (yards_of yb))
    (ee : end ≡ count_below high (yards_of yb)) (h : low ≤ high) where
  pub numbers-order : from ≤ end
  numbers-order = omega (arith, below-rise yb ok low high h)

  numbers-yards : YardsUpTo yb from end
  numbers-yards = record { passes = ok; order = numbers-order; most = omega (arith, below-most yb ok high) }

  yards_are : within low high (yards_of yb) ≡ yards_from yb (end - from) from
  yards_are = rw (ef, ee) (within-yards yb ok low high h)

  pub count-is : length (within low high (yards_of yb)) ≡ end - from
  count-is = ap length yards_are ∙ from-length yb (end - from) from

-- ---- a range

-- what writing its record is handed
module _ (adj yb : List ℕ) (p : Part) (r : Range adj yb p) where
  range-yards : YardsUpTo yb p.from p.end
  range-yards = numbers-yards yb r.passes p.start.number (p.start.number + p.size) p.from p.end r.numbers.first r.numbers.after (omega arith)

  pub range-order : p.from ≤ p.end
  range-order = range-yards.order

  pub range-ready : (road : List ℕ) → Adjacency road adj → 0 < p.size → PartReady adj yb p
  range-ready road a h = record { adjacency = record { book = road; adjacent = a }; inside = r.inside; some = h; yards = range-yards }

module _ (b yb : List ℕ) (ok : yard_refusal yb ≡ 0) (levels a s limit m at : ℕ)
    (from end : ℕ) (ef : from ≡ count_below a (yards_of yb)) (ee : end ≡ count_below (a + s) (yards_of yb))
    (r : Bool) (er : r ≡ (eqb levels 0 || leb (end - from) limit)) where
  abbrev ys : List ℕ
  ys = yards_from yb (end - from) from

  up : a ≤ a + s
  up = omega arith

  same : within a (a + s) (yards_of yb) ≡ ys
  same = yards_are yb ok a (a + s) from end ef ee up

  test : r ≡ (eqb levels 0 || leb (length (within a (a + s) (yards_of yb))) limit)
  test = rw (count-is yb ok a (a + s) from end ef ee up) er

  module _ (t : r ≡ true) where
    only : range_regions b yb m limit levels a s ≡ own_regions b yb m limit a s 0 ys
    only = regions-leaf b yb m limit a s levels (sym test ∙ t) ∙ rw same refl

    pub leaf-fits : (room : ℕ) → at + length (encode_regions (version yb) (range_regions b yb m limit levels a s)) ≤ room → at + record_size (version yb) m 0 (end - from) ≤ room
    leaf-fits room fits =
        let e : length (encode_regions (version yb) (range_regions b yb m limit levels a s)) ≡ record_size (version yb) m 0 (end - from) =
        rw only (own_room b yb m limit a s 0 ys (λ z. omega (arith, z)) ∙ rw (from-length yb (end - from) from) refl) in
        rw e at fits

    pub leaf-done : (tree after : List ℕ) (p c : ℕ) → WrittenRegions (version yb) tree at (own_regions b yb m limit a s 0 ys) after p c
        → WrittenRegions (version yb) tree at (range_regions b yb m limit levels a s) after p c
    leaf-done tree after p c w = written_same (version yb) tree at (own_regions b yb m limit a s 0 ys) (range_regions b yb m limit levels a s) after p c only w

  module _ (t : r ≡ false) where
    pub level_left : levels ≢ 0
    level_left = some_level b yb m limit a s levels (sym test ∙ t)

    pub yards-there : from < end
    yards-there = omega (arith, many_yards b yb m limit a s levels (sym test ∙ t), count-is yb ok a (a + s) from end ef ee up)

    module _ (q : ℕ) (eq : q ≡ part_count a s (within a (a + s) (yards_of yb)) 4 0) where
      some : 0 < part_count a s (within a (a + s) (yards_of yb)) 4 0
      some = some-parts b yb m limit a s ok (omega (arith, yards-there, count-is yb ok a (a + s) from end ef ee up))

      both : range_regions b yb m limit levels a s ≡ own_regions b yb m limit a s q ys ++ parts_from b yb m limit (levels - 1) a s 0
      both = regions-cut b yb m limit a s levels (sym test ∙ t) some ∙ rw (← eq, same) refl

      module _ (room : ℕ) (fits : at + length (encode_regions (version yb) (range_regions b yb m limit levels a s)) ≤ room) where
        pub own_fits : q ≢ 1 → at + record_size (version yb) m q (end - from) ≤ room
        own_fits h =
            let f = fits-first (version yb) at room (range_regions b yb m limit levels a s) (own_regions b yb m limit a s q ys)
            (parts_from b yb m limit (levels - 1) a s 0) both fits in
            rw (own_room b yb m limit a s q ys h, from-length yb (end - from) from) at f

        module _ (tree mid : List ℕ) (p c : ℕ) (w : WrittenRegions (version yb) tree at (own_regions b yb m limit a s q ys) mid p c) where
          pub parts_fit : p + length (encode_regions (version yb) (parts_from b yb m limit (levels - 1) a s 0)) ≤ room
          parts_fit =
              fits-rest (version yb) at room (range_regions b yb m limit levels a s) (own_regions b yb m limit a s q ys)
              (parts_from b yb m limit (levels - 1) a s 0) both fits tree mid p c w

      pub cut-done : (tree mid : List ℕ) (p c : ℕ) → WrittenRegions (version yb) tree at (own_regions b yb m limit a s q ys) mid p c
          → (after : List ℕ) (p' d : ℕ) → WrittenRegions (version yb) mid p (parts_from b yb m limit (levels - 1) a s 0) after p' d
          → WrittenRegions (version yb) tree at (range_regions b yb m limit levels a s) after p' (c + d)
      cut-done tree mid p c w after p' d v =
          written_same (version yb) tree at _ (range_regions b yb m limit levels a s) after p' (c + d) both
          (written_join (version yb) tree at (own_regions b yb m limit a s q ys) (parts_from b yb m limit (levels - 1) a s 0) mid p c after p' d w v)
