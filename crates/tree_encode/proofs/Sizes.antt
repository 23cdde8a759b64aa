-- How long the bytes of a tree are. Assumes nothing.
use mathlib.Core.Path.{◌≡◌, refl, sym, ap, ◌∙◌}
use mathlib.Core.Logic.{◌⊎◌, inl, inr}
use mathlib.Core.Bool.{not}
use mathlib.Core.List.Memᴰ.{head}
use mathlib.Core.List.Memᴰ.{tail}
use mathlib.Core.List.{List, [], ◌∷◌, ◌++◌, append_assoc, Memᴰ as Mem}
use Prim.Native.Nat.{ℕ, ◌+◌, ◌*◌, ◌≤◌, ◌<◌}
use native.Mathlib.Decide.{ℕ_discrete}
use native.Mathlib.Nat.{suc-mul}
use native.Mathlib.Omega.{arith}
use lib.ListN.{length, length-append}
use lib.Dec.{T, eqb, eqb→eq}
use Rattle.book.specs.Writing.{u16_bytes, u32_bytes}
use Rattle.book.proofs.Choosing.{choose_yes, choose_no, T-split}
use Rattle.book.proofs.Lists.{eq→eqb, ne→neqb, neqb→ne}
use Rattle.book.proofs.Writing.{u16_length, u32_length}
use Rattle.tree_layout.specs.Values.{Element, Mark, Region, Tree}
use Rattle.tree_layout.specs.Sizes.{element_size, list_size, leaf_mark_size}
use Rattle.tree_layout.specs.Decode.{mark_size}
use Rattle.tree_layout.proofs.Sizes.{fields_are, element_are, list-zero, list-more, leaf_mark_are}
use Rattle.tree_layout.proofs.Places.{mark_size-leaf, mark_size-inner}
use Rattle.tree_layout.specs.code.Formed.{Formed, FormedTree}
use Rattle.tree_layout.proofs.Decoding.{record_size_lem}
use Rattle.tree.specs.Yards.{sum_from}
use Rattle.tree.proofs.Counts.{sum-none}
use Rattle.tree.proofs.Sums.{sum-cons}
use Rattle.tree_encode.specs.Encode.{kind_bytes, encode_element, encode_list, encode_leaf_mark, encode_inner_mark, encode_mark, encode_marks, encode_region, encode_regions}
use Rattle.tree_encode.specs.Encode.{encode_body, encode, tree_room}
use Rattle.tree_encode.specs.code.Facts.{size_of}
use Rattle.tree_encode.proofs.KindBytes.{kind-length}

-- ---- a landmark by its region's kind

pub mark_leaf : (v c : ℕ) (k : Mark) → c ≡ 0 → encode_mark v c k ≡ u16_bytes k.place ++ encode_list v k.list
unfolding encode_mark encode_leaf_mark
mark_leaf v c k e = choose_yes (eqb c 0) _ _ (eq→eqb c 0 e)

pub mark_inner : (v c : ℕ) (k : Mark) → 0 < c → encode_mark v c k ≡ u16_bytes k.place ++ (u32_bytes k.least ++ u32_bytes k.greatest)
unfolding encode_mark encode_inner_mark
mark_inner v c k h = choose_no (eqb c 0) _ _ (ne→neqb c 0 (omega arith))

-- ---- lengths

pub element-length : (v : ℕ) (e : Element) → length (encode_element v e) ≡ element_size v
unfolding encode_element
element-length v e =
    let yard = u16_bytes e.yard in
    let kinds = kind_bytes v e.kinds in
    omega (
      arith,
      length-append (u32_bytes e.distance) (yard ++ kinds),
      length-append yard kinds,
      u32_length e.distance,
      u16_length e.yard,
      kind-length v e.kinds,
      element_are v,
    )

pub list_length : (v : ℕ) (es : List Element) → length (encode_list v es) ≡ list_size v (length es)
unfolding encode_list
list_length v [] = sym (list-zero v)
list_length v (e ∷ es) =
    omega (arith, length-append (encode_element v e) (encode_list v es), element-length v e, list_length v es, list-more v (length es))

leaf_mark_length : (v c y : ℕ) (k : Mark) → c ≡ 0 → length k.list ≡ y → length (encode_mark v c k) ≡ leaf_mark_size v y
leaf_mark_length v c y k e h =
    rw (mark_leaf v c k e, ← h) (omega (
      arith,
      length-append (u16_bytes k.place) (encode_list v k.list),
      u16_length k.place,
      list_length v k.list,
      leaf_mark_are v (length k.list),
    ))

inner_mark_length : (v c : ℕ) (k : Mark) → 0 < c → length (encode_mark v c k) ≡ 10
inner_mark_length v c k h =
    rw (mark_inner v c k h) (omega (
      arith,
      length-append (u16_bytes k.place) (u32_bytes k.least ++ u32_bytes k.greatest),
      length-append (u32_bytes k.least) (u32_bytes k.greatest),
      u16_length k.place,
      u32_length k.least,
      u32_length k.greatest,
    ))

marks-length : (v c z : ℕ) (ms : List Mark) → ((k : Mark) → Mem k ms → length (encode_mark v c k) ≡ z) → length (encode_marks v c ms) ≡ length ms * z
unfolding encode_marks
marks-length v c z [] f = omega arith
marks-length v c z (k ∷ ks) f = omega (
  arith,
  length-append (encode_mark v c k) (encode_marks v c ks),
  f k (head refl),
  marks-length v c z ks (λ j i. f j (tail i)),
  suc-mul (length ks) z,
)

-- of a region with m landmarks, whose lists in a leaf are as long as it has yards
module _ (v m : ℕ) (r : Region) (count : length r.marks ≡ m)
    (lists : r.children ≡ 0 → (k : Mark) → Mem k r.marks → length k.list ≡ r.yards) where
  -- the landmarks take the bytes that the record's size says
  all-marks-length : length (encode_marks v r.children r.marks) ≡ m * mark_size v r.children r.yards
  all-marks-length = go (T-split (eqb r.children 0))
    where
      go : T (eqb r.children 0) ⊎ T (not (eqb r.children 0)) → length (encode_marks v r.children r.marks) ≡ m * mark_size v r.children r.yards
      go (inl t) =
          let e = eqb→eq r.children 0 t in
          let s = marks-length v r.children (leaf_mark_size v r.yards) r.marks (λ k i. leaf_mark_length v r.children r.yards k e (lists e k i)) in
          rw (mark_size-leaf v r.children r.yards e) (rw count at s)
      go (inr t) =
          let e : 0 < r.children = omega (arith, neqb→ne r.children 0 t) in
          let s = marks-length v r.children 10 r.marks (λ k i. inner_mark_length v r.children k e) in
          rw (mark_size-inner v r.children r.yards e) (rw count at s)

  pub region_size : length (encode_region v r) ≡ size_of v m r
  unfolding encode_region
  region_size =
      let marks = encode_marks v r.children r.marks in
      let kinds = kind_bytes v r.kinds in
      let a = length-append (u16_bytes r.first) (u16_bytes r.after ++ (r.children ∷ (u16_bytes r.yards ++ (kinds ++ marks)))) in
      let b = length-append (u16_bytes r.after) (r.children ∷ (u16_bytes r.yards ++ (kinds ++ marks))) in
      let c = length-append (u16_bytes r.yards) (kinds ++ marks) in
      let d = length-append kinds marks in
      omega (
        arith,
        a,
        b,
        c,
        d,
        u16_length r.first,
        u16_length r.after,
        u16_length r.yards,
        kind-length v r.kinds,
        fields_are v,
        all-marks-length,
        record_size_lem v m r.children r.yards,
      )

pub region_length : (v m : ℕ) (r : Region) → Formed v m r → length (encode_region v r) ≡ size_of v m r
region_length v m r f = region_size v m r f.count (λ e k i. (f.lists e k i).1)

pub regions-length : (v m : ℕ) (rs : List Region) → ((r : Region) → Mem r rs → Formed v m r)
    → length (encode_regions v rs) ≡ sum_from rs (size_of v m) (length rs) 0
unfolding encode_regions
regions-length v m [] f = sym (sum-none [] (size_of v m) 0)
regions-length v m (r ∷ rs) f = omega (
  arith,
  length-append (encode_region v r) (encode_regions v rs),
  region_length v m r (f r (head refl)),
  regions-length v m rs (λ j i. f j (tail i)),
  sum-cons r rs (size_of v m),
)

-- one list of regions after another
pub encode-append : (v : ℕ) (rs ss : List Region) → encode_regions v (rs ++ ss) ≡ encode_regions v rs ++ encode_regions v ss
unfolding encode_regions
encode-append v [] ss = refl
encode-append v (r ∷ rs) ss = ap (λ (l : List ℕ). encode_region v r ++ l) (encode-append v rs ss)
    ∙ sym (append_assoc (encode_region v r) (encode_regions v rs) (encode_regions v ss))

pub body_length : (t : Tree) → length (encode_body t) ≡ 8 + length (encode_regions t.version t.regions)
unfolding encode_body
body_length t =
    let rest = t.landmarks ∷ encode_regions t.version t.regions in
    let a = length-append (u16_bytes t.junctions) (u16_bytes (length t.regions) ++ (u16_bytes t.yards ++ rest)) in
    let b = length-append (u16_bytes (length t.regions)) (u16_bytes t.yards ++ rest) in
    let c = length-append (u16_bytes t.yards) rest in
    omega (arith, a, b, c, u16_length t.junctions, u16_length (length t.regions), u16_length t.yards)

pub encode-length : (t : Tree) → length (encode t) ≡ 12 + length (encode_regions t.version t.regions)
unfolding encode
encode-length t = omega (arith, length-append (u32_bytes (length (encode_body t))) (encode_body t), u32_length (length (encode_body t)), body_length t)

-- the book's length is the header's and the records'
pub encode-sizes : (t : Tree) → FormedTree t → length (encode t) ≡ 12 + sum_from t.regions (size_of t.version t.landmarks) (length t.regions) 0
encode-sizes t f = omega (arith, encode-length t, regions-length t.version t.landmarks t.regions f)

-- ---- a list, one pair at a time

pub list-none : (v : ℕ) → encode_list v [] ≡ []
unfolding encode_list
list-none v = refl

pub list-next : (v : ℕ) (e : Element) (es : List Element) → encode_list v (e ∷ es) ≡ encode_element v e ++ encode_list v es
unfolding encode_list
list-next v e es = refl

-- ---- regions, one at a time

pub encode-none : (v : ℕ) → encode_regions v [] ≡ []
unfolding encode_regions
encode-none v = refl

pub encode-cons : (v : ℕ) (r : Region) (rs : List Region) → encode_regions v (r ∷ rs) ≡ encode_region v r ++ encode_regions v rs
unfolding encode_regions
encode-cons v r rs = refl

pub region_is : (v : ℕ) (r : Region) → encode_region v r
    ≡ u16_bytes r.first
    ++ (u16_bytes r.after ++ (r.children ∷ (u16_bytes r.yards ++ (kind_bytes v r.kinds ++ encode_marks v r.children r.marks))))
unfolding encode_region
region_is v r = refl

pub marks-none : (v c : ℕ) → encode_marks v c [] ≡ []
unfolding encode_marks
marks-none v c = refl

pub marks-next : (v c : ℕ) (m : Mark) (ms : List Mark) → encode_marks v c (m ∷ ms) ≡ encode_mark v c m ++ encode_marks v c ms
unfolding encode_marks
marks-next v c m ms = refl

-- ---- the book: twelve bytes of header, then the regions

pub encode-is : (t : Tree) → encode t ≡ u32_bytes (length (encode_body t)) ++ (t.version ∷ (u16_bytes t.junctions ++ (u16_bytes (length t.regions) ++ (u16_bytes t.yards ++ (t.landmarks ∷ encode_regions t.version t.regions)))))
unfolding encode encode_body
encode-is t = refl

-- ---- the area that a build has to have

pub room-one : (v : ℕ) → v ≡ 1 → tree_room v ≡ 21981
unfolding tree_room
room-one v e = choose_yes (eqb v 1) _ _ (eq→eqb v 1 e)

pub room-two : (v : ℕ) → (v ≡ 1 → ⊥) → tree_room v ≡ 23516
unfolding tree_room
room-two v n = choose_no (eqb v 1) _ _ (ne→neqb v 1 n)

-- no area is larger than that of version 2
pub room_most : (v : ℕ) → tree_room v ≤ 23516
room_most v = go (ℕ_discrete v 1)
  where
    go : Dec (v ≡ 1) → tree_room v ≤ 23516
    go (yes e) = omega (arith, room-one v e)
    go (no n) = omega (arith, room-two v n)
