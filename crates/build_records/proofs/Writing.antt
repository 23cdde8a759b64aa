-- What is written of a landmark, from what the walk, the ranking and the measuring leave. Assumes nothing.
use mathlib.Core.Path.{◌≡◌, refl, sym, ap, ◌∙◌}
use mathlib.Core.List.{List, ◌++◌, Memᴰ as Mem}
use Prim.Native.Nat.{ℕ, ◌+◌, ◌-◌, ◌≤◌, ◌<◌}
use native.Mathlib.Decide.{dec_lt}
use native.Mathlib.Omega.{arith}
use lib.ListN.{length, length-append}
use lib.Dec.{eqb}
use Rattle.book.specs.Open.{version}
use Rattle.book.specs.Writing.{u16_bytes, u32_bytes, write}
use Rattle.book.proofs.Choosing.{choose_yes, choose_no}
use Rattle.book.proofs.Lists.{eq→eqb, ne→neqb}
use Rattle.book.proofs.Writing.{write-append, u16_length, u32_length}
use Rattle.road_layout.specs.Road.{junctions}
use Rattle.adjacency.specs.Arcs.{net}
use Rattle.road.specs.Dijkstra.{distances, dist}
use Rattle.road.proofs.Reading.{dist_read}
use Rattle.yard.specs.Yards.{yard_at, yards_from}
use Rattle.yard.proofs.Listing.{from-length}
use Rattle.check_rules.specs.Truth.{least, greatest}
use Rattle.check_rules.proofs.Extremes.{least_by, greatest_by}
use Rattle.tree_encode.specs.Encode.{encode_list, encode_inner_mark, encode_mark}
use Rattle.tree_encode.proofs.Sizes.{list_length, mark_leaf, mark_inner}
use Rattle.tree_encode.proofs.Parts.{span-bytes}
use Rattle.tree_layout.specs.Values.{leaf_mark, inner_mark}
use Rattle.tree_layout.specs.Sizes.{list_size, leaf_mark_size}
use Rattle.tree_layout.specs.Decode.{mark_size}
use Rattle.tree_layout.proofs.MarkFields.{leaf-place, leaf-pairs, inner-place, inner-least, inner-greatest}
use Rattle.tree_layout.proofs.Sizes.{leaf_mark_are}
use Rattle.tree_layout.proofs.Places.{mark_size-leaf, mark_size-inner}
use Rattle.build_rules.specs.Cut.{Given, ranked_list}
use Rattle.build_rules.proofs.Ranked.{ranked-length}
use Rattle.build_records.specs.Given.{given}
use Rattle.build_records.specs.code.Lists.{distance_in, elements, Gives}
use Rattle.tree_layout.specs.declared.Listed.{Listed}
use Rattle.build_records.specs.code.Marks.{leaf_bytes, inner_bytes, mark_bytes}
use Rattle.build_records.specs.code.Parts.{YardsUpTo}
use Rattle.build_records.proofs.Fields.{given-version}
use Rattle.build_records.proofs.Numbered.{yard-low, yard-number}

module _ (b yb ds : List ℕ) (from to l : ℕ) (walk : ds ≡ distances (net b) (junctions b) l) (room : length ds ≡ 1024) (ys : YardsUpTo yb from to)
    (m limit : ℕ) where
  -- a yard of the range is a junction below 1,024
  low : (y : ℕ) → Mem y (yards_from yb (to - from) from) → y < 1024
  low y k = go (yard-number yb from to ys y k)
    where
      go : (j : ℕ) × (j < to) × (y ≡ yard_at yb j) → y < 1024
      go (j, h, e) = rw e (yard-low yb from to ys j h)

  away : (y : ℕ) → Mem y (yards_from yb (to - from) from) → distance_in ds y ≡ dist b l y
  away y k = dist_read b ds l y walk (omega (arith, low y k))

  gives : Gives ds yb (given b yb m limit) l (yards_from yb (to - from) from)
  unfolding given
  gives = record { away = away; kinds = λ y k. refl }

  -- a leaf's landmark
  pub leaf-written : (v : ℕ) (tree mid out : List ℕ) (list : List Listed) (at : ℕ) → v ≡ version yb
      → ((g : Given) (l : ℕ) → Gives ds yb g l (yards_from yb (to - from) from) → elements list ≡ ranked_list g l (yards_from yb (to - from) from))
      → mid ≡ write tree at (u16_bytes l) → out ≡ write mid (at + 2) (encode_list v (elements list))
      → out ≡ write tree at (leaf_bytes (given b yb m limit) yb from to l)
  unfolding leaf_bytes given
  leaf-written v tree mid out list at ev k e f =
      let g = given b yb m limit in
      let bytes = encode_list g.version (ranked_list g l (yards_from yb (to - from) from)) in
      let a : at + length (u16_bytes l) ≡ at + 2 = omega (arith, u16_length l) in
      rw (f, ev ∙ sym (given-version b yb m limit), e, k g l gives, write-append (u16_bytes l) bytes tree at, a) refl

  -- an inner region's
  pub inner-written : (tree out : List ℕ) (at low high : ℕ) → from < to
      → low ≡ least (distance_in ds) (yards_from yb (to - from) from) → high ≡ greatest (distance_in ds) (yards_from yb (to - from) from)
      → out ≡ write tree at (encode_inner_mark (inner_mark l low high)) → out ≡ write tree at (inner_bytes (given b yb m limit) yb from to l)
  unfolding inner_bytes given
  inner-written tree out at low high some p q e =
      let zs = yards_from yb (to - from) from in
      let n : 0 < length zs = omega (arith, from-length yb (to - from) from) in
      let x : low ≡ least (dist b l) zs = p ∙ least_by (distance_in ds) (dist b l) zs n away in
      let y : high ≡ greatest (dist b l) zs = q ∙ greatest_by (distance_in ds) (dist b l) zs n away in
      e ∙ ap (write tree at) (span-bytes l low high ∙ rw (x, y) refl)

module _ (g : Given) (yb : List ℕ) (from to l : ℕ) where
  abbrev zs : List ℕ
  zs = yards_from yb (to - from) from

  -- how many bytes they are
  leaf-length : length (leaf_bytes g yb from to l) ≡ leaf_mark_size g.version (to - from)
  unfolding leaf_bytes
  leaf-length =
      let list = ranked_list g l zs in
      let n : list_size g.version (length list) ≡ list_size g.version (to - from) =
      ap (list_size g.version) (ranked-length g l zs ∙ from-length yb (to - from) from) in
      omega (
        arith,
        length-append (u16_bytes l) (encode_list g.version list),
        u16_length l,
        list_length g.version list,
        n,
        leaf_mark_are g.version (to - from),
      )

  inner-length : length (inner_bytes g yb from to l) ≡ 10
  unfolding inner_bytes
  inner-length =
      let lo = u32_bytes (least (g.d l) zs) in
      let hi = u32_bytes (greatest (g.d l) zs) in
      omega (
        arith,
        length-append (u16_bytes l) (lo ++ hi),
        length-append lo hi,
        u16_length l,
        u32_length (least (g.d l) zs),
        u32_length (greatest (g.d l) zs),
      )

  -- they are what `encode` writes of the landmark
  leaf_encoded : encode_mark g.version 0 (leaf_mark l (ranked_list g l zs)) ≡ leaf_bytes g yb from to l
  unfolding leaf_bytes
  leaf_encoded = mark_leaf g.version 0 (leaf_mark l (ranked_list g l zs)) refl ∙ rw (leaf-place l (ranked_list g l zs), leaf-pairs l (ranked_list g l zs)) refl

  inner_encoded : (q : ℕ) → 0 < q
      → encode_mark g.version q (inner_mark l (least (g.d l) zs) (greatest (g.d l) zs)) ≡ inner_bytes g yb from to l
  unfolding inner_bytes
  inner_encoded q h =
      let lo = least (g.d l) zs in
      let hi = greatest (g.d l) zs in
      mark_inner g.version q (inner_mark l lo hi) h ∙ rw (inner-place l lo hi, inner-least l lo hi, inner-greatest l lo hi) refl

-- ---- by the number of children

module _ (g : Given) (yb : List ℕ) (from to q l : ℕ) where
  leaf-is : q ≡ 0 → mark_bytes g yb from to q l ≡ leaf_bytes g yb from to l
  unfolding mark_bytes
  leaf-is e = choose_yes (eqb q 0) _ _ (eq→eqb q 0 e)

  inner-is : 0 < q → mark_bytes g yb from to q l ≡ inner_bytes g yb from to l
  unfolding mark_bytes
  inner-is h = choose_no (eqb q 0) _ _ (ne→neqb q 0 (omega arith))

  pub mark_length : length (mark_bytes g yb from to q l) ≡ mark_size g.version q (to - from)
  mark_length = go (dec_lt 0 q)
    where
      go : Dec (0 < q) → length (mark_bytes g yb from to q l) ≡ mark_size g.version q (to - from)
      go (yes h) = ap length (inner-is h) ∙ inner-length g yb from to l ∙ sym (mark_size-inner g.version q (to - from) h)
      go (no n) =
          let e : q ≡ 0 = omega (arith, n) in
          ap length (leaf-is e) ∙ leaf-length g yb from to l ∙ sym (mark_size-leaf g.version q (to - from) e)

  pub mark_leaf-written : (tree out : List ℕ) (at : ℕ) → q ≡ 0 → out ≡ write tree at (leaf_bytes g yb from to l) → out ≡ write tree at (mark_bytes g yb from to q
      l)
  mark_leaf-written tree out at e f = f ∙ ap (write tree at) (sym (leaf-is e))

  pub mark_inner-written : (tree out : List ℕ) (at : ℕ) → 0 < q → out ≡ write tree at (inner_bytes g yb from to l) → out ≡ write tree at (mark_bytes g yb from to
      q l)
  mark_inner-written tree out at h f = f ∙ ap (write tree at) (sym (inner-is h))

  pub mark_leaf_encoded : q ≡ 0 → encode_mark g.version 0 (leaf_mark l (ranked_list g l (yards_from yb (to - from) from))) ≡ mark_bytes g yb from to q l
  mark_leaf_encoded e = leaf_encoded g yb from to l ∙ sym (leaf-is e)

  pub mark_inner_encoded : 0 < q
      → encode_mark g.version q (inner_mark l (least (g.d l) (yards_from yb (to - from) from)) (greatest (g.d l) (yards_from yb (to - from) from)))
      ≡ mark_bytes g yb from to q l
  mark_inner_encoded h = inner_encoded g yb from to l q h ∙ sym (inner-is h)

-- by a yard book's version
pub given_mark_length : (b yb : List ℕ) (m limit from to q l : ℕ) → length (mark_bytes (given b yb m limit) yb from to q l) ≡ mark_size (version yb) q (to - from)
unfolding given
given_mark_length b yb m limit from to q l = mark_length (given b yb m limit) yb from to q l

-- the size of a mark by the version that is read
pub mark_size_read : (v w q n size : ℕ) → v ≡ w → size ≡ mark_size v q n → size ≡ mark_size w q n
mark_size_read v w q n size e f = rw e at f

-- a landmark by its kind, and its junction, have their places
pub leaf-place-fits : (w q n at size : ℕ) → q ≡ 0 → at + mark_size w q n ≤ size → at + leaf_mark_size w n ≤ size
leaf-place-fits w q n at size e h = omega (arith, mark_size-leaf w q n e)

pub inner-place-fits : (w q n at size : ℕ) → 0 < q → at + mark_size w q n ≤ size → at + 10 ≤ size
inner-place-fits w q n at size e h = omega (arith, mark_size-inner w q n e)

pub junction-fits : (w n at size : ℕ) → at + leaf_mark_size w n ≤ size → at + 2 ≤ size
junction-fits w n at size h = omega (arith, leaf_mark_are w n)

-- a leaf's list has its place after the landmark's junction
pub list-place : (v w n at size kept : ℕ) → v ≡ w → at + leaf_mark_size w n ≤ size → kept ≡ size → at + 2 + list_size v n ≤ kept
list-place v w n at size kept e h k = rw e (omega (arith, leaf_mark_are w n))
