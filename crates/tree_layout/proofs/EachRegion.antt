-- A test of each region of a book of sound layout, by the places of the records. Assumes nothing.
use mathlib.Core.Path.{◌≡◌, refl}
use mathlib.Core.Bool.{Bool, true}
use mathlib.Core.List.{List}
use Prim.Native.Nat.{ℕ, ◌≤◌, ◌<◌}
use native.Mathlib.Omega.{arith}
use Rattle.book.proofs.Choosing.{T_true}
use Rattle.tree_layout.specs.Values.{Region}
use Rattle.tree_layout.specs.Sizes.{header_size}
use Rattle.tree_layout.specs.Decode.{read_regions, region_count, landmark_count, place_from, place_of, decode}
use Rattle.tree_layout.specs.Refusal.{all, records_ok, tree_layout_refusal}
use Rattle.tree_layout.specs.Reading.{header_of}
use Rattle.tree_layout.specs.code.Every.{TestsRecord, TestsRegion}
use Rattle.tree_layout.specs.declared.Header.{Header}
use Rattle.tree_layout.proofs.Accepting.{layout-facts}
use Rattle.tree_layout.proofs.Accessing.{its_regions, its_landmarks}
use Rattle.tree_layout.proofs.Places.{filled_records}

-- by the header that is read
module _ (b : List ℕ) (h : Header) (e : h ≡ header_of b) where
  pub laid-few : tree_layout_refusal b ≡ 0 → h.landmarks ≤ 4
  laid-few ok = omega (arith, its_landmarks b h e, (layout-facts b ok).landmarks)

  pub laid-records : tree_layout_refusal b ≡ 0 → records_ok b h.landmarks h.regions header_size ≡ true
  unfolding place_of
  laid-records ok =
      rw (its_landmarks b h e, its_regions b h e) (T_true _ (filled_records b (landmark_count b) (region_count b) header_size (layout-facts b ok).filled))

  -- what holds of each region's place, and what a test says there
  pub laid-at : (P : ℕ → Type 0) → ((k : ℕ) → k < region_count b → P (place_of b k)) → (k : ℕ) → k < h.regions → P (place_from b h.landmarks k header_size)
  unfolding place_of
  laid-at P f k i = rw (its_landmarks b h e) (f k (omega (arith, its_regions b h e)))

  pub laid-told : (Answers : ℕ → Bool → Type 0) (ok : Region → Bool) → TestsRegion b Answers ok → TestsRecord b h.landmarks h.regions Answers ok
  unfolding place_of
  laid-told Answers ok t = rw (its_landmarks b h e, its_regions b h e) t

  pub laid-all : (ok : Region → Bool) → all ok (read_regions b h.landmarks h.regions header_size) ≡ all ok (decode b).regions
  unfolding decode
  laid-all ok = rw (its_landmarks b h e, its_regions b h e) refl
