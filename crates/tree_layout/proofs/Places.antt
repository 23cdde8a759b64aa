-- Where records, landmarks and lists stand in a tree book. Assumes nothing.
use mathlib.Core.Path.{◌≡◌, refl, ap}
use mathlib.Core.List.{List}
use Prim.Native.Nat.{ℕ, zero, suc, ◌+◌, ◌-◌, ◌*◌, ◌≤◌, ◌<◌}
use native.Mathlib.Omega.{arith}
use lib.ListN.{length, get_or}
use lib.Dec.{T, leb, eqb, le→leb, eqb→eq}
use Rattle.book.specs.Bytes.{u8_at, u16_at}
use Rattle.book.specs.Open.{version}
use Rattle.book.proofs.Laws.{u16_small}
use Rattle.book.proofs.Writing.{lent-bytes}
use Rattle.book.proofs.Choosing.{choose_yes, choose_no, and_right, and_both}
use Rattle.book.proofs.Lists.{eq→eqb, ne→neqb}
use Rattle.tree_layout.specs.Values.{no_region, region_at}
use Rattle.tree_layout.specs.Sizes.{fields_size, leaf_mark_size}
use Rattle.tree_layout.specs.Decode.{read_region, read_regions, mark_size, record_size, size_at, place_from, place_of, landmark_count, region_count, junction_count}
use Rattle.tree_layout.specs.Decode.{tree_yard_count, decode}
use Rattle.tree_layout.specs.Refusal.{records_ok}
use Rattle.tree_layout.proofs.Sizes.{fields_least, marks-small}

-- ---- sizes

-- the size of a landmark by its region's kind
pub mark_size-leaf : (v children yards : ℕ) → children ≡ 0 → mark_size v children yards ≡ leaf_mark_size v yards
unfolding mark_size
mark_size-leaf v children yards e = choose_yes (eqb children 0) _ _ (eq→eqb children 0 e)

pub mark_size-inner : (v children yards : ℕ) → 0 < children → mark_size v children yards ≡ 10
unfolding mark_size
mark_size-inner v children yards h = choose_no (eqb children 0) _ _ (ne→neqb children 0 (omega arith))

-- a record's size, of its own fields
pub size-at : (b : List ℕ) (m at : ℕ) → size_at b m at ≡ fields_size (version b) + m * mark_size (version b) (u8_at b (at + 4)) (u16_at b (at + 5))
unfolding size_at record_size
size-at b m at = refl

-- the same, as code computes it
pub size_is : (b : List ℕ) (m at fields mark : ℕ) → fields ≡ fields_size (version b) → mark ≡ mark_size (version b) (u8_at b (at + 4)) (u16_at b (at + 5))
    → fields + m * mark ≡ size_at b m at
unfolding size_at record_size
size_is b m at fields mark e f = rw (e, f) refl

-- the landmarks of a record take few bytes
pub landmarks-small : (b : List ℕ) (m at : ℕ) → m ≤ 4 → ((i : ℕ) → get_or b i 0 < 256)
    → m * mark_size (version b) (u8_at b (at + 4)) (u16_at b (at + 5)) ≤ 1835020
landmarks-small b m at h f =
    marks-small (version b) m (u8_at b (at + 4)) (u16_at b (at + 5)) h (omega (arith, u16_small b (lent-bytes b f) (at + 5)))

-- a record has its fields before the landmarks
pub size-least : (b : List ℕ) (m at : ℕ) → fields_size (version b) ≤ size_at b m at
unfolding size_at record_size
size-least b m at = omega arith

-- ---- places

pub place-zero : (b : List ℕ) (m at : ℕ) → place_from b m 0 at ≡ at
unfolding place_from
place-zero b m at = refl

pub place-suc : (b : List ℕ) (m i at : ℕ) → place_from b m (suc i) at ≡ place_from b m i (at + size_at b m at)
unfolding place_from
place-suc b m i at = refl

-- the record after the one at a place stands where that one ends
pub place-next : (b : List ℕ) (m i at : ℕ) → place_from b m (suc i) at ≡ place_from b m i at + size_at b m (place_from b m i at)
unfolding place_from
place-next b m zero at = refl
place-next b m (suc i) at = place-next b m i (at + size_at b m at)

place_up : (b : List ℕ) (m i at : ℕ) → at + 7 * i ≤ place_from b m i at
unfolding place_from
place_up b m zero at = omega arith
place_up b m (suc i) at = omega (arith, fields_least (version b), size-least b m at, place_up b m i (at + size_at b m at))

-- later records stand further on
pub place-later : (b : List ℕ) (m i n at : ℕ) → i ≤ n → place_from b m i at ≤ place_from b m n at
unfolding place_from
place-later b m zero n at h = omega (arith, place_up b m n at)
place-later b m (suc i) zero at h = absurd (omega arith)
place-later b m (suc i) (suc n) at h = place-later b m i n (at + size_at b m at) (omega arith)

-- ---- test 4: the records take up the book to its end

pub records_filled : (b : List ℕ) (m n at : ℕ) → T (records_ok b m n at) → place_from b m n at ≡ length b
unfolding records_ok place_from
records_filled b m zero at t = eqb→eq at (length b) t
records_filled b m (suc n) at t = records_filled b m n (at + size_at b m at) (and_right (leb (at + size_at b m at) (length b)) _ (and_right (leb (at + fields_size (version b)) (length
    b)) _ t))

pub filled_records : (b : List ℕ) (m n at : ℕ) → place_from b m n at ≡ length b → T (records_ok b m n at)
unfolding records_ok place_from
filled_records b m zero at e = eq→eqb at (length b) e
filled_records b m (suc n) at e =
    let up = place_up b m n (at + size_at b m at) in
    let low = size-least b m at in
    and_both (leb (at + fields_size (version b)) (length b)) _ (le→leb (at + fields_size (version b)) (length b) (omega arith))
    (and_both (leb (at + size_at b m at) (length b)) _ (le→leb (at + size_at b m at) (length b) (omega arith)) (filled_records b m n (at + size_at b m at) e))

-- ---- region i is what stands at its place

regions-at : (b : List ℕ) (m n at i : ℕ) → i < n → get_or (read_regions b m n at) i no_region ≡ read_region b m (place_from b m i at)
unfolding read_regions place_from
regions-at b m zero at i h = absurd (omega arith)
regions-at b m (suc n) at zero h = refl
regions-at b m (suc n) at (suc i) h = regions-at b m n (at + size_at b m at) i (omega arith)

pub regions-length : (b : List ℕ) (m n at : ℕ) → length (read_regions b m n at) ≡ n
unfolding read_regions
regions-length b m zero at = refl
regions-length b m (suc n) at = ap suc (regions-length b m n (at + size_at b m at))

module _ (b : List ℕ) where
  pub decode-length : length (decode b).regions ≡ region_count b
  unfolding decode
  decode-length = regions-length b (landmark_count b) (region_count b) 12

  pub decode-version : (decode b).version ≡ version b
  unfolding decode
  decode-version = refl

  pub decode-junctions : (decode b).junctions ≡ junction_count b
  unfolding decode
  decode-junctions = refl

  pub decode-yards : (decode b).yards ≡ tree_yard_count b
  unfolding decode
  decode-yards = refl

  pub decode-landmarks : (decode b).landmarks ≡ landmark_count b
  unfolding decode
  decode-landmarks = refl

  pub region_at_lem : (i : ℕ) → i < region_count b → region_at (decode b).regions i ≡ read_region b (landmark_count b) (place_of b i)
  unfolding region_at decode place_of
  region_at_lem i h = regions-at b (landmark_count b) (region_count b) 12 i h

  pub place-first : place_of b 0 ≡ 12
  unfolding place_of place_from
  place-first = refl

  pub place_after : (i : ℕ) → place_of b (suc i) ≡ place_of b i + size_at b (landmark_count b) (place_of b i)
  unfolding place_of
  place_after i = place-next b (landmark_count b) i 12

  -- each record of a filled book lies in it
  pub record_inside : place_of b (region_count b) ≡ length b → (i : ℕ) → i < region_count b → place_of b i + size_at b (landmark_count b) (place_of b i) ≤ length b
  unfolding place_of
  record_inside e i h = omega (arith, place-later b (landmark_count b) (suc i) (region_count b) 12 (omega arith), place-next b (landmark_count b) i 12)
