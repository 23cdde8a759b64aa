-- What cutting the parts of a range asks of the room, what it leaves, and why it ends. Assumes nothing.
use mathlib.Core.Path.{◌≡◌, refl, sym, ap, ◌∙◌}
use mathlib.Core.Logic.{◌⊎◌, inl, inr, ◌≢◌}
use mathlib.Core.List.{List, [], ◌++◌}
use Prim.Native.Nat.{ℕ, suc, ◌+◌, ◌-◌, ◌≤◌, ◌<◌}
use native.Mathlib.Numerals.{add-one}
use native.Mathlib.Omega.{arith}
use lib.ListN.{length}
use Rattle.book.proofs.Choosing.{lt-or_ge}
use Rattle.book.specs.Open.{version}
use Rattle.yard.specs.Yards.{yards_of, yard_refusal}
use Rattle.check_rules.specs.Truth.{within}
use Rattle.tree_encode.specs.Encode.{encode_regions}
use Rattle.build_rules.specs.Cut.{cut_at, cut_part}
use Rattle.build_rules.specs.code.Facts.{count_below}
use Rattle.build_rules.proofs.Parts.{cut-rise, cut-top}
use Rattle.build_cuts.specs.code.Writing.{WrittenRegions}
use Rattle.build_records.specs.declared.Part.{Part}
use Rattle.build_cuts.specs.declared.Plan.{Plan}
use Rattle.adjacency.specs.Adjacency.{Adjacency}
use Rattle.build_cuts.specs.code.Cutting.{range_regions, parts_from, regions_of, parts_of, Numbered, Room}
use Rattle.build_cuts.proofs.Slices.{part-yards}
use Rattle.build_cuts.proofs.Joining.{written_none, written_join, written_same, written-few, fits-first, fits-rest, room-kept}
use Rattle.build_cuts.proofs.Cases.{parts_none, parts-drop, parts-keep}
use Rattle.build_cuts.proofs.WholeRanges.{numbers-order, count-is}

-- the cuts of a range rise, and none is after its end
pub cuts-rise : (a s i low high : ℕ) → low ≡ cut_at a s i → high ≡ cut_at a s (i + 1) → low ≤ high
cuts-rise a s i low high e f = let h : high ≡ cut_at a s (suc i) = rw add-one at f in omega (arith, cut-rise a s i)

pub cuts-top : (a s i : ℕ) → i < 4 → (high : ℕ) → high ≡ cut_at a s (i + 1) → high ≤ a + s
cuts-top a s i h high f = let e : high ≡ cut_at a s (suc i) = rw add-one at f in omega (arith, cut-top a s (suc i) (3 - i) (omega arith))

-- ---- its parts, from number i on

module _ (b yb : List ℕ) (ok : yard_refusal yb ≡ 0) (levels i a s limit m at : ℕ) where
  pub parts-over : (tree : List ℕ) → i ≡ 4 → WrittenRegions (version yb) tree at (parts_from b yb m limit levels a s i) tree at 0
  parts-over tree e =
      written_same (version yb) tree at [] (parts_from b yb m limit levels a s i) tree at 0 (parts_none b yb m limit a s levels i e) (written_none (version yb) tree at)

  -- part i has `size` junctions from `low` on, and the yards of number `from` up to `end`
  module _ (left : i < 4) (low size : ℕ) (el : low ≡ cut_at a s i) (eh : low + size ≡ cut_at a s (i + 1)) (from end : ℕ)
      (ef : from ≡ count_below low (yards_of yb)) (ee : end ≡ count_below (low + size) (yards_of yb)) where
    next : low + size ≡ cut_at a s (suc i)
    next = rw add-one at eh

    -- a part lies in its range
    pub part-top : (n : ℕ) → a + s ≤ n → low + size ≤ n
    part-top n k = omega (arith, cuts-top a s i left (low + size) eh)

    part_count : length (cut_part a s (within a (a + s) (yards_of yb)) i) ≡ end - from
    part_count =
        let e : cut_part a s (within a (a + s) (yards_of yb)) i ≡ within low (low + size) (yards_of yb) = part-yards yb ok a s i left ∙ rw (next, el) refl in
        ap length e ∙ count-is yb ok low (low + size) from end ef ee (omega arith)

    module _ (e : from ≡ end) where
      dropped : parts_from b yb m limit levels a s i ≡ parts_from b yb m limit levels a s (i + 1)
      dropped = parts-drop b yb m limit a s levels i left (omega (arith, part_count))

      pub drop-fits : (room : ℕ) → at + length (encode_regions (version yb) (parts_from b yb m limit levels a s i)) ≤ room
          → at + length (encode_regions (version yb) (parts_from b yb m limit levels a s (i + 1))) ≤ room
      drop-fits room fits = rw dropped at fits

      pub drop-done : (tree after : List ℕ) (p c : ℕ) → WrittenRegions (version yb) tree at (parts_from b yb m limit levels a s (i + 1)) after p c
          → WrittenRegions (version yb) tree at (parts_from b yb m limit levels a s i) after p c
      drop-done tree after p c w =
          written_same (version yb) tree at (parts_from b yb m limit levels a s (i + 1)) (parts_from b yb m limit levels a s i) after p c dropped w

    module _ (e : from ≢ end) where
      pub part-size : 0 < size
      part-size = go (lt-or_ge 0 size)
        where
          go : (0 < size) ⊎ (size ≤ 0) → 0 < size
          go (inl x) = x
          go (inr x) = let z : low ≡ low + size = omega arith in absurd (e (ef ∙ ap (λ (y : ℕ). count_below y (yards_of yb)) z ∙ sym ee))

      kept : parts_from b yb m limit levels a s i ≡ range_regions b yb m limit levels low size ++ parts_from b yb m limit levels a s (i + 1)
      kept =
          let z : cut_at a s (suc i) - cut_at a s i ≡ size = omega (arith, next, el) in
          let k = parts-keep b yb m limit a s levels i left (omega (
            arith,
            part_count,
            numbers-order yb ok low (low + size) from end ef ee (omega arith),
            e,
          )) in
          rw (z, ← el) at k

      module _ (room : ℕ) (fits : at + length (encode_regions (version yb) (parts_from b yb m limit levels a s i)) ≤ room) where
        pub part-fits : at + length (encode_regions (version yb) (range_regions b yb m limit levels low size)) ≤ room
        part-fits =
            fits-first (version yb) at room (parts_from b yb m limit levels a s i) (range_regions b yb m limit levels low size)
            (parts_from b yb m limit levels a s (i + 1)) kept fits

        module _ (tree mid : List ℕ) (p c : ℕ) (w : WrittenRegions (version yb) tree at (range_regions b yb m limit levels low size) mid p c) where
          pub rest-fits : p + length (encode_regions (version yb) (parts_from b yb m limit levels a s (i + 1))) ≤ room
          rest-fits =
              fits-rest (version yb) at room (parts_from b yb m limit levels a s i) (range_regions b yb m limit levels low size)
              (parts_from b yb m limit levels a s (i + 1)) kept fits tree mid p c w

      pub rest-done : (tree mid : List ℕ) (p c : ℕ) → WrittenRegions (version yb) tree at (range_regions b yb m limit levels low size) mid p c
          → (after : List ℕ) (p' d : ℕ) → WrittenRegions (version yb) mid p (parts_from b yb m limit levels a s (i + 1)) after p' d
          → WrittenRegions (version yb) tree at (parts_from b yb m limit levels a s i) after p' (c + d)
      rest-done tree mid p c w after p' d v =
          written_same (version yb) tree at _ (parts_from b yb m limit levels a s i) after p' (c + d) kept
          (written_join (version yb) tree at (range_regions b yb m limit levels low size) (parts_from b yb m limit levels a s (i + 1)) mid p c after p' d w v)

-- ---- a range that is cut, part by part

-- with its parts below number i written, and `count` regions in all up to place `put`: what its other parts ask, and that
-- with them it is done
pub record Left (adj yb : List ℕ) (plan : Plan) (levels : ℕ) (p : Part) (tree₀ : List ℕ) (at : ℕ) (tree : List ℕ) (put count i : ℕ) : Type 0 where
  pub room : Room (version yb) adj (parts_of yb plan (levels - 1) p i) put (length tree)
  pub few : count ≤ put
  pub done : (road : List ℕ) → Adjacency road adj → (after : List ℕ) (place more : ℕ)
      → WrittenRegions (version yb) tree put (parts_of yb plan (levels - 1) p i road) after place more
      → WrittenRegions (version yb) tree₀ at (regions_of yb plan levels p road) after place (count + more)

module _ (adj yb : List ℕ) (ok : yard_refusal yb ≡ 0) (plan : Plan) (levels : ℕ) (p : Part) (tree₀ : List ℕ) (at : ℕ) (tree : List ℕ) (put count i : ℕ)
    (x : Left adj yb plan levels p tree₀ at tree put count i) where
  -- no part is left
  pub left-none : 4 ≤ i → i ≤ 4 → (road : List ℕ) → Adjacency road adj → WrittenRegions (version yb) tree₀ at (regions_of yb plan levels p road) tree put count
  left-none h l road a =
      let z : count + 0 ≡ count = omega arith in
      rw z at (x.done road a tree put 0 (parts-over road yb ok (levels - 1) i p.start.number p.size plan.limit plan.landmarks put tree (omega arith)))

  module _ (left : i < 4) (q : Part) (el : q.start.number ≡ cut_at p.start.number p.size i)
      (eh : q.start.number + q.size ≡ cut_at p.start.number p.size (i + 1)) (n : Numbered yb q) where
    -- part i has no yards
    pub left-drop : q.from ≡ q.end → Left adj yb plan levels p tree₀ at tree put count (i + 1)
    left-drop e = record {
      room = record {
        book = x.room.book;
        adjacent = x.room.adjacent;
        fits = drop-fits x.room.book yb ok (levels - 1) i p.start.number p.size plan.limit plan.landmarks put left q.start.number q.size el eh q.from q.end
            n.first n.after e (length tree) x.room.fits;
      };
      few = x.few;
      done = λ road a after place more w. x.done road a after place more
          (drop-done road yb ok (levels - 1) i p.start.number p.size plan.limit plan.landmarks put left q.start.number q.size el eh q.from q.end n.first n.after
          e tree after place more w);
    }

    module _ (e : q.from ≢ q.end) where
      pub left-room : Room (version yb) adj (regions_of yb plan (levels - 1) q) put (length tree)
      left-room = record {
        book = x.room.book;
        adjacent = x.room.adjacent;
        fits = part-fits x.room.book yb ok (levels - 1) i p.start.number p.size plan.limit plan.landmarks put left q.start.number q.size el eh q.from q.end
            n.first n.after e (length tree) x.room.fits;
      }

      -- it is cut
      module _ (next : List ℕ) (place c : ℕ)
          (w : (road : List ℕ) → Adjacency road adj → WrittenRegions (version yb) tree put (regions_of yb plan (levels - 1) q road) next place c) where
        rest : place + length (encode_regions (version yb) (parts_of yb plan (levels - 1) p (i + 1) x.room.book)) ≤ length tree
        rest =
            rest-fits x.room.book yb ok (levels - 1) i p.start.number p.size plan.limit plan.landmarks put left q.start.number q.size el eh q.from q.end
            n.first n.after e (length tree) x.room.fits tree next place c (w x.room.book x.room.adjacent)

        pub left-few : count + c ≤ place
        left-few = omega (arith, x.few, written-few (version yb) tree put (regions_of yb plan (levels - 1) q x.room.book) next place c (w x.room.book x.room.adjacent))

        pub left-in : place ≤ length tree
        left-in = omega (arith, rest)

        pub left-keep : length next ≡ length tree → Left adj yb plan levels p tree₀ at next place (count + c) (i + 1)
        left-keep k = record {
          room = record { book = x.room.book; adjacent = x.room.adjacent; fits = room-kept _ _ _ rest k };
          few = left-few;
          done = λ road a after end more v.
              let z : count + c + more ≡ count + (c + more) = omega arith in
              rw z (x.done road a after end (c + more)
              (rest-done road yb ok (levels - 1) i p.start.number p.size plan.limit plan.landmarks put left q.start.number q.size el eh q.from q.end n.first
              n.after e tree next place c (w road a) after end more v));
        }
