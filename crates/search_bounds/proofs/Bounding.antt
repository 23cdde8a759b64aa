-- A region's bound and the landmark that is picked, as the code finds them. Assumes nothing.
use mathlib.Core.Path.{◌≡◌, sym, ap, ◌∙◌}
use mathlib.Core.List.{List}
use Prim.Native.Nat.{ℕ, ◌<◌}
use native.Mathlib.Omega.{arith}
use lib.ListN.{length, get_or}
use Rattle.book.proofs.Lists.{get_d_mem}
use Rattle.tree_layout.specs.Values.{Mark}
use Rattle.tree_layout.specs.Decode.{landmark_count}
use Rattle.tree_layout.specs.Reading.{header_of}
use Rattle.tree_layout.specs.declared.Header.{Header}
use Rattle.search_rules.specs.Bounds.{aggregate, greatest_of, crew_bound}
use Rattle.tree_layout.specs.Values.{no_mark}
use Rattle.tree_layout.specs.declared.Landmark.{Landmark}
use Rattle.search_bounds.specs.code.Rows.{rows_lower, rows_upper}
use Rattle.tree_layout.specs.code.Marks.{marks_at, landmark_of, RecordAt}
use Rattle.search_bounds.specs.code.Bounds.{rows_mark, rows_crew, rows_bound, rows_weight, mark_weight, first_greatest, rows_chosen, Crews}
use Rattle.tree_layout.proofs.Reading.{header-landmarks}
use Rattle.tree_layout.proofs.RecordFields.{marks-count, landmark_fields}

-- a crew's junction has a place in each row
pub crew-there : (crews : List ℕ) → Crews crews → (j : ℕ) → j < length crews → get_or crews j 0 < 1024
crew-there crews s j h = s.there (get_or crews j 0) (get_d_mem crews j 0 h)

-- ---- the landmarks of a record

module _ (b : List ℕ) (h : Header) (e : h ≡ header_of b) where
  -- their number, as it is read
  pub count_read : h.landmarks ≡ landmark_count b
  count_read = ap (λ (x : Header). x.landmarks) e ∙ header-landmarks b

  pub count-marks : (at : ℕ) → length (marks_at b at) ≡ h.landmarks
  count-marks at = marks-count b at ∙ sym count_read

module _ (b : List ℕ) (at : ℕ) (r : RecordAt b at) (j : ℕ) (h : j < landmark_count b) (k : Landmark)
    (e : k ≡ landmark_of (get_or (marks_at b at) j no_mark)) where
  -- the junction of landmark j
  pub place_read : k.place.number ≡ (get_or (marks_at b at) j no_mark).place
  place_read = (landmark_fields k (get_or (marks_at b at) j no_mark) e).0

  pub place-there : k.place.number < 1024
  place-there = rw place_read (r.placed (get_or (marks_at b at) j no_mark) (get_d_mem (marks_at b at) j no_mark (omega (arith, marks-count b at))))

-- the bound of a landmark that is read is that of the landmark
pub mark_read : (table : List ℕ) (rows q w : ℕ) (n : Mark) (k : Landmark) → k ≡ landmark_of n
    → w ≡ crew_bound (rows_lower table rows k.place.number q) (rows_upper table rows k.place.number q) k.least k.greatest
    → w ≡ rows_mark table rows q n
unfolding rows_mark
mark_read table rows q w n k e f = let x = landmark_fields k n e in rw (x.0, x.1, x.2) at f

-- ---- the definitions, opened

pub mark_bound_made : (lb ub x a b w : ℕ) (y : ℕ) → lb ≡ x → ub ≡ y → w ≡ crew_bound lb ub a b → w ≡ crew_bound x y a b
mark_bound_made lb ub x a b w y e f g = rw (← e, ← f) g

pub crew_made : (table : List ℕ) (rows : ℕ) (ks : List Mark) (q x : ℕ) → x ≡ greatest_of (rows_mark table rows q) ks → x ≡ rows_crew table rows ks q
unfolding rows_crew
crew_made table rows ks q x e = e

pub bound_made : (table : List ℕ) (rows code : ℕ) (crews : List ℕ) (ks : List Mark) (x : ℕ) → x ≡ aggregate code (rows_crew table rows ks) crews
    → x ≡ rows_bound table rows code crews ks
unfolding rows_bound
bound_made table rows code crews ks x e = e

pub weight_made : (table : List ℕ) (rows : ℕ) (crews : List ℕ) (l x : ℕ) → x ≡ aggregate 0 (rows_lower table rows l) crews
    → x ≡ rows_weight table rows crews l
unfolding rows_weight
weight_made table rows crews l x e = e

pub weight_read : (table : List ℕ) (rows : ℕ) (crews : List ℕ) (ks : List Mark) (j u x : ℕ) → u ≡ (get_or ks j no_mark).place
    → x ≡ rows_weight table rows crews u → x ≡ mark_weight table rows crews ks j
unfolding mark_weight
weight_read table rows crews ks j u x e f = rw (← e) f

pub chosen_made : (table : List ℕ) (rows : ℕ) (crews : List ℕ) (ks : List Mark) (m p : ℕ) → length ks ≡ m
    → p ≡ first_greatest (mark_weight table rows crews ks) m → p ≡ rows_chosen table rows crews ks
unfolding rows_chosen
chosen_made table rows crews ks m p e f = rw e f

-- ---- a region by its number

pub bound_moved : (table : List ℕ) (rows code : ℕ) (crews : List ℕ) (ks ms : List Mark) (x : ℕ) → ks ≡ ms → x ≡ rows_bound table rows code crews ks
    → x ≡ rows_bound table rows code crews ms
bound_moved table rows code crews ks ms x e f = rw (← e) f

pub chosen_moved : (table : List ℕ) (rows : ℕ) (crews : List ℕ) (ks ms : List Mark) (p : ℕ) → ks ≡ ms → p ≡ rows_chosen table rows crews ks
    → p ≡ rows_chosen table rows crews ms
chosen_moved table rows crews ks ms p e f = rw (← e) f
