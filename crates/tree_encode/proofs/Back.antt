-- What is written is read back. Assumes nothing.
use mathlib.Core.Path.{◌≡◌, refl, sym, ap, ◌∙◌}
use mathlib.Core.Logic.{◌⊎◌, inl, inr}
use mathlib.Core.Bool.{not}
use mathlib.Core.List.Memᴰ.{head}
use mathlib.Core.List.Memᴰ.{tail}
use mathlib.Core.List.{List, [], ◌∷◌, ◌++◌, append_assoc, append-nil, Memᴰ as Mem}
use Prim.Native.Nat.{ℕ, suc, ◌+◌, ◌*◌, ◌<◌}
use native.Mathlib.Nat.{suc-mul}
use native.Mathlib.Omega.{arith}
use lib.ListN.{length, take}
use lib.Seq.{take_at}
use lib.Dec.{T, eqb, eqb→eq}
use Rattle.book.specs.Bytes.{u32_at}
use Rattle.book.specs.Open.{version}
use Rattle.book.specs.Writing.{u16_bytes, u32_bytes}
use Rattle.book.proofs.Choosing.{T-split}
use Rattle.book.proofs.Lists.{neqb→ne}
use Rattle.book.proofs.Opening.{version_byte}
use Rattle.book.proofs.Writing.{Rest, rest_all, read_u8, next_u8, read_u16, next_u16, read_u32, next_u32}
use Rattle.kinds.specs.Kinds.{kind_size}
use Rattle.tree_layout.specs.Sizes.{fields_size, element_size, list_size, leaf_mark_size}
use Rattle.tree_layout.specs.Values.{Element, Mark, Region, Tree, leaf_mark, inner_mark}
use Rattle.tree_layout.specs.Decode.{element_at, read_list, list_part, read_lists, read_spans, read_marks, read_region, read_regions, mark_size, record_size, size_at}
use Rattle.tree_layout.specs.Decode.{place_from, junction_count, region_count, tree_yard_count, landmark_count, decode}
use Rattle.tree_layout.proofs.Sizes.{fields_are, element_are, leaf_mark_are}
use Rattle.tree_layout.proofs.Places.{mark_size-leaf, mark_size-inner, place-zero, place-suc}
use Rattle.tree_layout.specs.code.Formed.{Formed, FormedTree}
use Rattle.tree_layout.proofs.Formed.{marks-lists, marks-spans}
use Rattle.tree_layout.proofs.Decoding.{element-is, read_list-none, read_list-next, list-part-is, read_lists-none, read_lists-next, read_spans-none}
use Rattle.tree_layout.proofs.Decoding.{read_spans-next, record_size_lem, size_of, read_region_lem, read_regions-none, read_regions-next, count-junctions}
use Rattle.tree_layout.proofs.Decoding.{count-regions, count-yards, count-landmarks, decode_is}
use Rattle.tree_encode.specs.Encode.{kind_bytes, encode_element, encode_list, encode_mark, encode_marks, encode_region, encode_regions, encode_body, encode}
use Rattle.tree_encode.proofs.KindBytes.{kind-back, kind-next}
use Rattle.tree_encode.proofs.Sizes.{mark_leaf, mark_inner, list_length}

-- ---- a list

element-back : (v : ℕ) (b : List ℕ) (e : Element) → (v ≡ 1 → e.kinds ≡ 255) → (at : ℕ) (s : List ℕ) → Rest b at (encode_element v e ++ s)
    → (element_at v b at ≡ e) × Rest b (at + element_size v) s
unfolding encode_element
element-back v b e any at s h =
    let kinds = kind_bytes v e.kinds in
    let rest = u16_bytes e.yard ++ (kinds ++ s) in
    let h1 : Rest b at (u32_bytes e.distance ++ rest)
    = rw (append_assoc (u32_bytes e.distance) (u16_bytes e.yard ++ kinds) s, append_assoc (u16_bytes e.yard) kinds s) at h in
    let h2 = next_u32 b at e.distance rest h1 in
    let h3 : Rest b (at + 6) (kinds ++ s) = rw (let z : at + 6 ≡ at + 4 + 2 = omega arith in z) (next_u16 b (at + 4) e.yard (kinds ++ s) h2) in
    let e1 = read_u32 b at e.distance rest h1 in
    let e2 = read_u16 b (at + 4) e.yard (kinds ++ s) h2 in
    let e3 = kind-back v b e.kinds (at + 6) s h3 any in
    let same : element_at v b at ≡ e = rw (element-is v b at, e1, e2, e3) refl in
    (same, rw (let z : at + element_size v ≡ at + 6 + kind_size v = omega (arith, element_are v) in z) (kind-next v b e.kinds (at + 6) s h3))

list_back : (v : ℕ) (b : List ℕ) (es : List Element) → ((e : Element) → Mem e es → v ≡ 1 → e.kinds ≡ 255) → (at : ℕ) (s : List ℕ)
    → Rest b at (encode_list v es ++ s) → read_list v b (length es) at ≡ es
unfolding encode_list
list_back v b [] any at s h = read_list-none v b at
list_back v b (e ∷ es) any at s h =
    let x = element-back v b e (any e (head refl)) at (encode_list v es ++ s) (rw (append_assoc (encode_element v e) (encode_list v es) s) at h) in
    rw (read_list-next v b (length es) at, x.0, list_back v b es (λ g k. any g (tail k)) (at + element_size v) s x.1) refl

-- the part of the book that a list takes up
part-back : (v : ℕ) (b : List ℕ) (es : List Element) (at : ℕ) (s : List ℕ) → Rest b at (encode_list v es ++ s) → list_part v b (length es) at ≡ encode_list v es
part-back v b es at s h = list-part-is v b (length es) at ∙ (ap (λ (l : List ℕ). take (list_size v (length es)) l) h.same
    ∙ take_at (encode_list v es) s (list_size v (length es)) (list_length v es))

rest-drop : (b w : List ℕ) (at n : ℕ) (s : List ℕ) → length w ≡ n → Rest b at (w ++ s) → Rest b (at + n) s
rest-drop b w at n s e h = go w at n e h
  where
    go : (w : List ℕ) (at n : ℕ) → length w ≡ n → Rest b at (w ++ s) → Rest b (at + n) s
    go [] at n e h = rw (let z : at + n ≡ at = omega arith in z) h
    go (x ∷ w) at n e h = rw (let z : at + n ≡ at + 1 + length w = omega arith in z) (go w (at + 1) (length w) refl (next_u8 b at x (w ++ s) h))

-- ---- landmarks

record MarksBack (b : List ℕ) (ms : List Mark) (at size : ℕ) (s : List ℕ) (got : List Mark) : Type 0 where
  pub same : got ≡ ms
  pub next : Rest b (at + length ms * size) s

-- a leaf's
module _ (b : List ℕ) (c yards : ℕ) (z : c ≡ 0) where
  abbrev v : ℕ
  v = version b

  abbrev size : ℕ
  size = leaf_mark_size (version b) yards

  lists_back : (ms : List Mark) → ((k : Mark) → Mem k ms → (k ≡ leaf_mark k.place k.list) × (length k.list ≡ yards))
      → (v ≡ 1 → (k : Mark) → Mem k ms → (e : Element) → Mem e k.list → e.kinds ≡ 255)
      → (at : ℕ) (s : List ℕ) → Rest b at (encode_marks v c ms ++ s) → MarksBack b ms at size s (read_lists b yards (length ms) at)
  unfolding encode_marks
  lists_back [] f any at s h = record { same = read_lists-none b yards at; next = rw (let e : at + 0 * size ≡ at = omega arith in e) h }
  lists_back (k ∷ ks) f any at s h =
      let m = f k (head refl) in
      let list = encode_list v k.list in
      let rest = encode_marks v c ks ++ s in
      let h1 : Rest b at (u16_bytes k.place ++ (list ++ rest))
      = rw (append_assoc (encode_mark v c k) (encode_marks v c ks) s, mark_leaf v c k z, append_assoc (u16_bytes k.place) list rest) at h in
      let h2 = next_u16 b at k.place (list ++ rest) h1 in
      let part : list_part v b yards (at + 2) ≡ list = rw (← m.1) (part-back v b k.list (at + 2) rest h2) in
      let whole : Rest list 0 (list ++ []) = rw (append-nil list) (rest_all list) in
      let got : read_list v list yards 0 ≡ k.list = rw (← m.1) (list_back v list k.list (λ e i o. any o k (head refl) e i) 0 [] whole) in
      let long : length list ≡ list_size v yards = rw (← m.1) (list_length v k.list) in
      let h3 : Rest b (at + size) rest = rw (let e : at + size ≡ at + 2 + list_size v yards = omega (arith, leaf_mark_are v yards) in e)
      (rest-drop b list (at + 2) (list_size v yards) rest long h2) in
      let r = lists_back ks (λ j i. f j (tail i)) (λ o j i. any o j (tail i)) (at + size) s h3 in
      record {
        same = rw (read_lists-next b yards (length ks) at, read_u16 b at k.place (list ++ rest) h1, part, got, r.same) (ap (λ (x : Mark). x ∷ ks) (sym m.0));
        next = rw (let e : at + suc (length ks) * size ≡ at + size + length ks * size = omega (arith, suc-mul (length ks) size) in e) r.next;
      }

spans-back : (v : ℕ) (b : List ℕ) (c : ℕ) → 0 < c → (ms : List Mark) → ((k : Mark) → Mem k ms → k ≡ inner_mark k.place k.least k.greatest)
    → (at : ℕ) (s : List ℕ) → Rest b at (encode_marks v c ms ++ s)
    → MarksBack b ms at 10 s (read_spans b (length ms) at)
unfolding encode_marks
spans-back v b c z [] f at s h = record { same = read_spans-none b at; next = rw (let e : at + 0 * 10 ≡ at = omega arith in e) h }
spans-back v b c z (k ∷ ks) f at s h =
    let rest = encode_marks v c ks ++ s in
    let h1 : Rest b at (u16_bytes k.place ++ (u32_bytes k.least ++ (u32_bytes k.greatest ++ rest)))
    = rw (
      append_assoc (encode_mark v c k) (encode_marks v c ks) s,
      mark_inner v c k z,
      append_assoc (u16_bytes k.place) (u32_bytes k.least ++ u32_bytes k.greatest) (encode_marks v c ks ++ s),
      append_assoc (u32_bytes k.least) (u32_bytes k.greatest) (encode_marks v c ks ++ s),
    ) at h in
    let h2 = next_u16 b at k.place (u32_bytes k.least ++ (u32_bytes k.greatest ++ rest)) h1 in
    let h3 : Rest b (at + 6) (u32_bytes k.greatest ++ rest) = rw (let e : at + 6 ≡ at + 2 + 4 = omega arith in
    e) (next_u32 b (at + 2) k.least (u32_bytes k.greatest ++ rest) h2) in
    let h4 : Rest b (at + 10) rest = rw (let e : at + 10 ≡ at + 6 + 4 = omega arith in e) (next_u32 b (at + 6) k.greatest rest h3) in
    let r = spans-back v b c z ks (λ j i. f j (tail i)) (at + 10) s h4 in
    record {
      same = rw (
        read_spans-next b (length ks) at,
        read_u16 b at k.place (u32_bytes k.least ++ (u32_bytes k.greatest ++ rest)) h1,
        read_u32 b (at + 2)
            k.least (u32_bytes k.greatest ++ rest) h2,
        read_u32 b (at + 6) k.greatest rest h3,
        r.same,
      ) (ap (λ (x : Mark). x ∷ ks) (sym (f k (head
          refl))));
      next = rw (let e : at + suc (length ks) * 10 ≡ at + 10 + length ks * 10 = omega arith in e) r.next;
    }

marks-back : (b : List ℕ) (m : ℕ) (r : Region) → Formed (version b) m r → (at : ℕ) (s : List ℕ)
    → Rest b at (encode_marks (version b) r.children r.marks ++ s)
    → (read_marks b m r.children r.yards at ≡ r.marks) × Rest b (at + m * mark_size (version b) r.children r.yards) s
marks-back b m r f at s h = go (T-split (eqb r.children 0))
  where
    go : T (eqb r.children 0) ⊎ T (not (eqb r.children 0))
        → (read_marks b m r.children r.yards at ≡ r.marks) × Rest b (at + m * mark_size (version b) r.children r.yards) s
    go (inl t) =
        let e = eqb→eq r.children 0 t in
        let x = lists_back b r.children r.yards e r.marks (f.lists e) f.any-listed at s h in (
          marks-lists b m r.children r.yards at e ∙ (rw (← f.count) x.same),
          rw (mark_size-leaf (version b) r.children r.yards e, ← f.count) x.next,
        )
    go (inr t) =
        let e : 0 < r.children = omega (arith, neqb→ne r.children 0 t) in
        let x = spans-back (version b) b r.children e r.marks (f.spans e) at s h in (
          marks-spans b m r.children r.yards at e ∙ (rw (← f.count) x.same),
          rw (mark_size-inner (version b) r.children r.yards e, ← f.count) x.next,
        )

-- ---- regions

record RegionBack (b : List ℕ) (m : ℕ) (r : Region) (at : ℕ) (s : List ℕ) : Type 0 where
  pub same : read_region b m at ≡ r
  pub size : size_at b m at ≡ record_size (version b) m r.children r.yards
  pub next : Rest b (at + record_size (version b) m r.children r.yards) s

region_back : (b : List ℕ) (m : ℕ) (r : Region) → Formed (version b) m r → (at : ℕ) (s : List ℕ) → Rest b at (encode_region (version b) r ++ s)
    → RegionBack b m r at s
unfolding encode_region
region_back b m r f at s h =
    let v = version b in
    let own = encode_marks v r.children r.marks in
    let kinds = kind_bytes v r.kinds in
    let marks = own ++ s in
    let s4 = u16_bytes r.yards ++ (kinds ++ marks) in
    let s3 = r.children ∷ s4 in
    let s2 = u16_bytes r.after ++ s3 in
    let h1 : Rest b at (u16_bytes r.first ++ s2)
    = rw (
      append_assoc (u16_bytes r.first) (u16_bytes r.after ++ (r.children ∷ (u16_bytes r.yards ++ (kinds ++ own)))) s,
      append_assoc (u16_bytes r.after) (r.children ∷ (u16_bytes r.yards ++ (kinds ++ own))) s,
      append_assoc (u16_bytes r.yards) (kinds ++ own) s,
      append_assoc kinds own s,
    ) at h in
    let h2 = next_u16 b at r.first s2 h1 in
    let h3 : Rest b (at + 4) s3 = rw (let e : at + 4 ≡ at + 2 + 2 = omega arith in e) (next_u16 b (at + 2) r.after s3 h2) in
    let h4 : Rest b (at + 5) s4 = rw (let e : at + 5 ≡ at + 4 + 1 = omega arith in e) (next_u8 b (at + 4) r.children s4 h3) in
    let h5 : Rest b (at + 7) (kinds ++ marks) = rw (let e : at + 7 ≡ at + 5 + 2 = omega arith in e) (next_u16 b (at + 5) r.yards (kinds ++ marks) h4) in
    let h6 : Rest b (at + fields_size v) marks = rw (let e : at + fields_size v ≡ at + 7 + kind_size v = omega (arith, fields_are v) in e)
    (kind-next v b r.kinds (at + 7) marks h5) in
    let x = marks-back b m r f (at + fields_size v) s h6 in
    let e1 = read_u16 b at r.first s2 h1 in
    let e2 = read_u16 b (at + 2) r.after s3 h2 in
    let e3 = read_u8 b (at + 4) r.children s4 h3 in
    let e4 = read_u16 b (at + 5) r.yards (kinds ++ marks) h4 in
    let e5 = kind-back v b r.kinds (at + 7) marks h5 f.any in
    record {
      same = rw (read_region_lem b m at, e1, e2, e3, e4, e5, x.0) refl;
      size = rw (size_of b m at, e3, e4) refl;
      next = rw (
        record_size_lem v m r.children r.yards,
        let e : at + (fields_size v + m * mark_size v r.children r.yards)
            ≡ at + fields_size v + m * mark_size v r.children r.yards = omega arith in e,
      ) x.1;
    }

-- the regions are read back, and their records take up the book to its end
pub record RegionsBack (b : List ℕ) (m : ℕ) (rs : List Region) (at : ℕ) : Type 0 where
  pub same : read_regions b m (length rs) at ≡ rs
  pub filled : place_from b m (length rs) at ≡ length b

pub regions-back : (b : List ℕ) (m : ℕ) (rs : List Region) → ((r : Region) → Mem r rs → Formed (version b) m r) → (at : ℕ)
    → Rest b at (encode_regions (version b) rs) → RegionsBack b m rs at
unfolding encode_regions
regions-back b m [] f at h = record { same = read_regions-none b m at; filled = place-zero b m at ∙ omega (arith, h.whole) }
regions-back b m (r ∷ rs) f at h =
    let x = region_back b m r (f r (head refl)) at (encode_regions (version b) rs) h in
    let y = regions-back b m rs (λ j i. f j (tail i)) (at + record_size (version b) m r.children r.yards) x.next in
    record {
      same = rw (read_regions-next b m (length rs) at, x.same, x.size, y.same) refl;
      filled = rw (place-suc b m (length rs) at, x.size) y.filled;
    }

-- ---- the book

-- the fields of the header, as they are read
pub record HeaderBack (t : Tree) : Type 0 where
  pub count : u32_at (encode t) 0 ≡ length (encode_body t)
  pub edition : version (encode t) ≡ t.version
  pub junctions : junction_count (encode t) ≡ t.junctions
  pub regions : region_count (encode t) ≡ length t.regions
  pub yards : tree_yard_count (encode t) ≡ t.yards
  pub landmarks : landmark_count (encode t) ≡ t.landmarks
  pub body : Rest (encode t) 12 (encode_regions t.version t.regions)

pub header-back : (t : Tree) → HeaderBack t
unfolding encode encode_body
header-back t =
    let b = encode t in
    let s5 = t.landmarks ∷ encode_regions t.version t.regions in
    let s4 = u16_bytes t.yards ++ s5 in
    let s3 = u16_bytes (length t.regions) ++ s4 in
    let s2 = u16_bytes t.junctions ++ s3 in
    let h0 : Rest b 0 (u32_bytes (length (encode_body t)) ++ (t.version ∷ s2)) = rest_all b in
    let h4 : Rest b 4 (t.version ∷ s2) = next_u32 b 0 (length (encode_body t)) (t.version ∷ s2) h0 in
    let h5 : Rest b 5 s2 = next_u8 b 4 t.version s2 h4 in
    let h7 : Rest b 7 s3 = next_u16 b 5 t.junctions s3 h5 in
    let h9 : Rest b 9 s4 = next_u16 b 7 (length t.regions) s4 h7 in
    let h11 : Rest b 11 s5 = next_u16 b 9 t.yards s5 h9 in
    record {
      count = read_u32 b 0 (length (encode_body t)) (t.version ∷ s2) h0;
      edition = version_byte b ∙ read_u8 b 4 t.version s2 h4;
      junctions = count-junctions b ∙ read_u16 b 5 t.junctions s3 h5;
      regions = count-regions b ∙ read_u16 b 7 (length t.regions) s4 h7;
      yards = count-yards b ∙ read_u16 b 9 t.yards s5 h9;
      landmarks = count-landmarks b ∙ read_u8 b 11 t.landmarks (encode_regions t.version t.regions) h11;
      body = next_u8 b 11 t.landmarks (encode_regions t.version t.regions) h11;
    }

-- the regions
pub encode-regions : (t : Tree) → FormedTree t → RegionsBack (encode t) t.landmarks t.regions 12
encode-regions t f =
    let h = header-back t in
    regions-back (encode t) t.landmarks t.regions (rw h.edition f) 12 (rw h.edition h.body)

-- what is written is read back
pub decode-encode : (t : Tree) → FormedTree t → decode (encode t) ≡ t
decode-encode t f =
    let h = header-back t in
    rw (decode_is (encode t), h.edition, h.junctions, h.regions, h.yards, h.landmarks, (encode-regions t f).same) refl
