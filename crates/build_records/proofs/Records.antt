-- A region's record: its fields, then its landmarks; and how long it is. Assumes nothing.
use mathlib.Core.Path.{◌≡◌, refl, sym, ap, ◌∙◌}
use mathlib.Core.List.{List, ◌++◌}
use Prim.Native.Nat.{ℕ, ◌+◌, ◌-◌, ◌*◌, ◌≤◌, ◌<◌}
use native.Mathlib.Decide.{dec_lt}
use native.Mathlib.Omega.{arith}
use lib.ListN.{length}
use lib.Dec.{eqb}
use Rattle.book.specs.Open.{version}
use Rattle.book.specs.Writing.{write}
use Rattle.book.proofs.Choosing.{choose_yes, choose_no}
use Rattle.book.proofs.Lists.{eq→eqb, ne→neqb}
use Rattle.book.proofs.Writing.{write-append}
use Rattle.road_layout.specs.Road.{roads}
use Rattle.kinds.specs.Kinds.{together}
use Rattle.yard.specs.Yards.{yards_from, kind_of}
use Rattle.yard.proofs.Listing.{from-length}
use Rattle.tree_layout.specs.Values.{Region}
use Rattle.tree_layout.specs.Sizes.{fields_size}
use Rattle.tree_layout.specs.Decode.{mark_size, record_size}
use Rattle.tree_layout.proofs.Decoding.{record_size_lem}
use Rattle.tree_encode.specs.Encode.{encode_region}
use Rattle.tree_encode.specs.code.Parts.{encode_fields}
use Rattle.tree_encode.proofs.Parts.{fields_length}
use Rattle.build_rules.specs.Cut.{Given, borders, leaf_region, inner_region}
use Rattle.build_rules.proofs.Landmarks.{landmarks_are}
use Rattle.build_rules.proofs.Records.{leaf_record, leaf-size, inner_record, inner-size}
use Rattle.build_records.specs.Given.{given}
use Rattle.build_records.specs.code.Marks.{mark_bytes, landmark_bytes}
use Rattle.build_records.specs.code.Parts.{region_of}
use Rattle.build_records.proofs.Encoding.{leaf-marks_encoded, inner-marks_encoded}

-- ---- a region by the number of its children

module _ (g : Given) (a s q : ℕ) (ys : List ℕ) where
  pub region_leaf : q ≡ 0 → region_of g a s q ys ≡ leaf_region g a s ys
  unfolding region_of
  region_leaf e = choose_yes (eqb q 0) _ _ (eq→eqb q 0 e)

  pub region_inner : 0 < q → region_of g a s q ys ≡ inner_region g a s q ys
  unfolding region_of
  region_inner h = choose_no (eqb q 0) _ _ (ne→neqb q 0 (omega arith))

-- its record's length, in a version v book
pub region_bytes : (v : ℕ) (g : Given) (a s q : ℕ) (ys : List ℕ) → length (encode_region v (region_of g a s q ys)) ≡ record_size v g.landmarks q (length ys)
region_bytes v g a s q ys = go (dec_lt 0 q)
  where
    go : Dec (0 < q) → length (encode_region v (region_of g a s q ys)) ≡ record_size v g.landmarks q (length ys)
    go (yes h) = rw (region_inner g a s q ys h) (inner-size g v a s q ys h)
    go (no n) =
        let e : q ≡ 0 = omega (arith, n) in
        rw (region_leaf g a s q ys e, e) (leaf-size g v a s ys)

-- ---- the record

-- what is left of a record's place after its fields, and where the record ends
module _ (v w at m q n start : ℕ) (same : v ≡ w) where
  pub fields_room : (size : ℕ) → at + record_size w m q n ≤ size → at + fields_size v ≤ size
  fields_room size h = rw same (omega (arith, record_size_lem w m q n))

  pub room : (size kept : ℕ) → start ≡ at + fields_size v → at + record_size w m q n ≤ size → kept ≡ size → start + m * mark_size w q n ≤ kept
  room size kept f h e = omega (arith, record_size_lem w m q n, ap fields_size same)

  pub ends : (place : ℕ) → start ≡ at + fields_size v → place ≡ start + m * mark_size w q n → place ≡ at + record_size w m q n
  ends place f e = omega (arith, record_size_lem w m q n, ap fields_size same)

module _ (b yb : List ℕ) (from end a s q m limit : ℕ) where
  abbrev ys : List ℕ
  ys = yards_from yb (end - from) from

  abbrev kinds : ℕ
  kinds = together (kind_of yb) ys

  abbrev marks : List ℕ
  marks = landmark_bytes (mark_bytes (given b yb m limit) yb from end q) m a s (borders (roads b) a s) m 0

  abbrev region : Region
  region = region_of (given b yb m limit) a s q ys

  leaf-is : q ≡ 0 → encode_region (version yb) region ≡ encode_fields (version yb) a (a + s) q (end - from) kinds ++ marks
  unfolding given
  leaf-is e =
      let g = given b yb m limit in
      ap (encode_region (version yb)) (region_leaf g a s q ys e)
      ∙ leaf_record g (version yb) a s ys
      ∙ rw (from-length yb (end - from) from, landmarks_are g a s, ← leaf-marks_encoded g yb from end q m a s (borders (roads b) a s) e) refl
      ∙ ap (λ (z : ℕ). encode_fields (version yb) a (a + s) z (end - from) kinds ++ marks) (sym e)

  inner-is : 0 < q → encode_region (version yb) region ≡ encode_fields (version yb) a (a + s) q (end - from) kinds ++ marks
  unfolding given
  inner-is h =
      let g = given b yb m limit in
      ap (encode_region (version yb)) (region_inner g a s q ys h)
      ∙ inner_record g (version yb) a s q ys
      ∙ rw (from-length yb (end - from) from, landmarks_are g a s, ← inner-marks_encoded g yb from end q m a s (borders (roads b) a s) h) refl

  region_is : encode_region (version yb) region ≡ encode_fields (version yb) a (a + s) q (end - from) kinds ++ marks
  region_is = go (dec_lt 0 q)
    where
      go : Dec (0 < q) → encode_region (version yb) region ≡ encode_fields (version yb) a (a + s) q (end - from) kinds ++ marks
      go (yes h) = inner-is h
      go (no n) = leaf-is (omega (arith, n))

  -- the fields, then the landmarks
  pub record_written : (tree mid out : List ℕ) (v at start byte : ℕ) → v ≡ version yb → start ≡ at + fields_size v
      → byte ≡ together (kind_of yb) (yards_from yb (end - from) from) → mid ≡ write tree at (encode_fields v a (a + s) q (end - from) byte)
      → out ≡ write mid start (landmark_bytes (mark_bytes (given b yb m limit) yb from end q) m a s (borders (roads b) a s) m 0)
      → out ≡ write tree at (encode_region (version yb) (region_of (given b yb m limit) a s q (yards_from yb (end - from) from)))
  record_written tree mid out v at start byte ev z eb e f =
      let fields = encode_fields (version yb) a (a + s) q (end - from) kinds in
      let u : at + length fields ≡ at + fields_size (version yb) = omega (arith, fields_length (version yb) a (a + s) q (end - from) kinds) in
      rw (f, z, e, ev, eb, region_is, write-append fields marks tree at, u) refl
