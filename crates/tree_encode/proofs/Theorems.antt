-- What is proved of the bytes of a tree. Assumes nothing.
use mathlib.Core.Path.{◌≡◌, ap}
use mathlib.Core.List.{List}
use Prim.Native.Nat.{ℕ, suc, ◌+◌, ◌-◌, ◌*◌, ◌≤◌, ◌<◌}
use native.Mathlib.Nat.{mul-le-mul_right}
use native.Mathlib.Decide.{ℕ_discrete}
use native.Mathlib.Omega.{arith}
use lib.ListN.{length}
use Rattle.book.specs.Open.{Opens}
use Rattle.tree_layout.specs.Sizes.{fields_size, list_size, leaf_mark_size}
use Rattle.tree_layout.specs.Values.{Region, Tree, region_at}
use Rattle.tree_layout.specs.Decode.{mark_size, decode, region_count}
use Rattle.tree_layout.specs.Facts.{TreeLayout}
use Rattle.tree_layout.proofs.Sizes.{fields_one, fields_two, list-one, list-two, leaf_mark_are}
use Rattle.tree_layout.proofs.Places.{mark_size-leaf, mark_size-inner, decode-length, decode-version, decode-junctions, decode-yards, decode-landmarks}
use Rattle.tree_layout.proofs.Formed.{decode-formed}
use Rattle.tree_layout.proofs.Decoding.{record_size_lem, place_is}
use Rattle.tree.specs.Shape.{tree_refusal}
use Rattle.tree.specs.Yards.{one_leaf, one_inner}
use Rattle.tree.proofs.Forest.{Forest, none, leaf, wrap, join, rise}
use Rattle.tree.proofs.ForestLaws.{Sane, sum, sum-none, sum_first, sum_split, leaf-one, inner-one, leaf-count, inner-count}
use Rattle.tree.proofs.Shaping.{facts-shaped, root_forest, root-yards}
use Rattle.tree.proofs.Sums.{sum-all}
use Rattle.tree.proofs.Theorems.{sane_of, facts-tree, tree-facts}
use Rattle.tree_encode.specs.Encode.{in_version2, encode, tree_room}
use Rattle.tree_encode.specs.code.Facts.{SoundTree, size_of, WrittenTree}
use Rattle.tree_encode.proofs.Sizes.{body_length, encode-length, encode-sizes, room-one, room-two, room_most}
use Rattle.tree_encode.proofs.Back.{header-back, encode-regions, decode-encode}
use Rattle.tree_encode.proofs.Small.{encode-bytes}

-- ---- what is written is accepted

module _ (t : Tree) (s : SoundTree t) where
  back : decode (encode t) ≡ t
  back = decode-encode t s.formed

  opens : Opens (encode t) 2 7
  opens =
      let h = header-back t in
      record {
        counted = omega (arith, h.count, body_length t, encode-length t);
        versioned = rw h.edition s.limits.version;
        headed = omega (arith, encode-length t);
      }

  layout : TreeLayout (encode t)
  layout =
      let h = header-back t in
      record {
        opens = opens;
        junctions = rw h.junctions s.limits.junctions;
        regions = rw h.regions s.limits.regions;
        yards = rw h.yards s.limits.yards;
        landmarks = rw h.landmarks s.limits.landmarks;
        filled = rw (place_is (encode t) (region_count (encode t)), h.regions, h.landmarks) (encode-regions t s.formed).filled;
        values = rw (h.junctions, back) s.values;
      }

  pub encode-accepted : tree_refusal (encode t) ≡ 0
  encode-accepted = facts-tree (encode t) (record { layout = layout; shape = rw back s.shape })

-- ---- how long it is

-- a record's size, of a version
module _ (v m : ℕ) (h4 : m ≤ 4) (r : Region) where
  leaf-size : r.children ≡ 0 → size_of v m r ≤ 8 + fields_size v + 4 * list_size v r.yards
  leaf-size c =
      let a = record_size_lem v m r.children r.yards in
      let b : m * mark_size v r.children r.yards ≡ m * leaf_mark_size v r.yards =
      ap (λ (x : ℕ). m * x) (mark_size-leaf v r.children r.yards c) in
      omega (arith, a, b, mul-le-mul_right (leaf_mark_size v r.yards) h4, leaf_mark_are v r.yards)

  inner-size : 0 < r.children → size_of v m r ≤ 40 + fields_size v
  inner-size c =
      let a = record_size_lem v m r.children r.yards in
      let b : m * mark_size v r.children r.yards ≡ m * 10 = ap (λ (x : ℕ). m * x) (mark_size-inner v r.children r.yards c) in
      omega (arith, a, b)

-- what the records of a forest take up, if a leaf's takes at most a + b for each yard, and an inner region's at most c
module _ (rs : List Region) (sane : Sane rs) (f : Region → ℕ) (a b c : ℕ)
    (leafy : (i : ℕ) → (region_at rs i).children ≡ 0 → f (region_at rs i) ≤ a + b * (region_at rs i).yards)
    (inner : (i : ℕ) → 0 < (region_at rs i).children → f (region_at rs i) ≤ c) where
  size-bound : {n i low high left e : ℕ} → Forest rs n i low high left e
      → sum rs f i e ≤ a * sum rs one_leaf i e + c * sum rs one_inner i e + b * left
  size-bound (none {i = i} h z) = omega (arith, sum-none rs f i)
  size-bound (leaf {i = i} h x y z) =
      let one : sum rs one_leaf i (suc i) ≡ 1 =
      omega (arith, sum_first rs one_leaf i (suc i) (omega arith), sum-none rs one_leaf (suc i), (leaf-one rs sane i x).0) in
      omega (arith, sum_first rs f i (suc i) (omega arith), sum-none rs f (suc i), ap (λ (n : ℕ). a * n) one, leafy i x)
  size-bound (wrap {i = i} {e = e} h x y z g) =
      let p : 0 < (region_at rs i).children = omega arith in
      let up : i < e = omega (arith, rise rs g) in
      let leaves : sum rs one_leaf i e ≡ sum rs one_leaf (suc i) e = omega (arith, sum_first rs one_leaf i e up, (inner-one rs sane i p).0) in
      let inners : sum rs one_inner i e ≡ 1 + sum rs one_inner (suc i) e = omega (arith, sum_first rs one_inner i e up, (inner-one rs sane i p).1) in
      omega (arith, sum_first rs f i e up, ap (λ (n : ℕ). a * n) leaves, ap (λ (n : ℕ). c * n) inners, inner i p, size-bound g)
  size-bound (join {i = i} {m = k} {left = left} {e = e} l r d z g t) =
      let p : i ≤ k = omega (arith, rise rs g) in
      let q : k ≤ e = omega (arith, rise rs t) in
      let yards : (region_at rs i).yards + (left - (region_at rs i).yards) ≡ left = omega arith in
      omega (
        arith,
        sum_split rs f i k e p q,
        ap (λ (n : ℕ). a * n) (sum_split rs one_leaf i k e p q),
        ap (λ (n : ℕ). c * n) (sum_split rs one_inner i k e p q),
        ap (λ (n : ℕ). b * n) yards,
        size-bound g,
        size-bound t,
      )

module _ (t : Tree) (s : SoundTree t) where
  sane : Sane t.regions
  sane = sane_of t s.formed s.limits.landmarks.0 s.values

  root : Forest t.regions 1 0 (region_at t.regions 0).first (region_at t.regions 0).after (region_at t.regions 0).yards (length t.regions)
  root = root_forest t sane s.limits.regions.0 (facts-shaped t s.shape)

  pub encode-short : length (encode t) ≤ tree_room t.version
  encode-short = go (ℕ_discrete v 1)
    where
      v : ℕ
      v = t.version

      rs : List Region
      rs = t.regions

      m : ℕ
      m = t.landmarks

      few : m ≤ 4
      few = s.limits.landmarks.1

      yards : (region_at rs 0).yards ≡ t.yards
      yards = root-yards t sane s.limits.regions.0 (facts-shaped t s.shape)

      go : Dec (v ≡ 1) → length (encode t) ≤ tree_room v
      go (yes e) =
          let b = size-bound rs sane (size_of v m) 15 24 47
          (λ i c. omega (arith, leaf-size v m few (region_at rs i) c, fields_one v e, list-one v (region_at rs i).yards e))
          (λ i c. omega (arith, inner-size v m few (region_at rs i) c, fields_one v e)) root in
          omega (
            arith,
            room-one v e,
            encode-sizes t s.formed,
            sum-all rs (size_of v m),
            b,
            leaf-count rs sane root,
            inner-count rs sane root,
            yards,
            s.limits.yards.1,
          )
      go (no n) =
          let b = size-bound rs sane (size_of v m) 16 28 48
          (λ i c. omega (arith, leaf-size v m few (region_at rs i) c, fields_two v n, list-two v (region_at rs i).yards n))
          (λ i c. omega (arith, inner-size v m few (region_at rs i) c, fields_two v n)) root in
          omega (
            arith,
            room-two v n,
            encode-sizes t s.formed,
            sum-all rs (size_of v m),
            b,
            leaf-count rs sane root,
            inner-count rs sane root,
            yards,
            s.limits.yards.1,
          )

  -- no area is larger than that of version 2
  pub encode-most : length (encode t) ≤ 23516
  encode-most = omega (arith, room_most t.version, encode-short)

-- ---- all of it

pub written : (t : Tree) → WrittenTree t
written t = record {
  back = decode-encode t;
  sizes = encode-sizes t;
  accepted = encode-accepted t;
  short = encode-short t;
  bytes = λ s f. encode-bytes t (omega (arith, encode-length t, body_length t, encode-most t s)) f;
}

-- an accepted book holds a sound tree
pub book_sound : (b : List ℕ) → tree_refusal b ≡ 0 → SoundTree (decode b)
book_sound b e =
    let f = tree-facts b e in
    let l = f.layout in
    record {
      limits = record {
        version = rw (decode-version b) l.opens.versioned;
        junctions = rw (decode-junctions b) l.junctions;
        regions = rw (decode-length b) l.regions;
        yards = rw (decode-yards b) l.yards;
        landmarks = rw (decode-landmarks b) l.landmarks;
      };
      formed = decode-formed b;
      values = rw (decode-junctions b) l.values;
      shape = f.shape;
    }

-- a sound tree is sound in version 2 too
pub sound_2 : (t : Tree) → SoundTree t → SoundTree (in_version2 t)
sound_2 t s = record {
  limits = record {
    version = (omega arith, omega arith);
    junctions = s.limits.junctions;
    regions = s.limits.regions;
    yards = s.limits.yards;
    landmarks = s.limits.landmarks;
  };
  formed = λ r k. let f = s.formed r k in record {
    count = f.count;
    lists = f.lists;
    spans = f.spans;
    any = λ e. absurd (omega arith);
    any-listed = λ e. absurd (omega arith);
  };
  values = s.values;
  shape = let h = s.shape in record { one-tree = h.one-tree; ranges = h.ranges; sums = h.sums; leaves = h.leaves; root = h.root };
}
