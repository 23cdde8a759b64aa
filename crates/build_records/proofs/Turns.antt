-- One landmark written, then the others. Assumes nothing.
use mathlib.Core.Path.{◌≡◌, refl, sym, ap, ◌∙◌}
use mathlib.Core.List.{List, ◌++◌}
use Prim.Native.Nat.{ℕ, suc, ◌+◌, ◌-◌, ◌*◌, ◌≤◌, ◌<◌}
use native.Mathlib.Nat.{suc-mul}
use native.Mathlib.Numerals.{add-one}
use native.Mathlib.Omega.{arith}
use lib.ListN.{length}
use Rattle.book.specs.Writing.{write}
use Rattle.book.proofs.Writing.{write-append, write-none}
use Rattle.road_layout.specs.Road.{Road}
use Rattle.build_rules.specs.Cut.{borders, landmark}
use Rattle.build_rules.proofs.Landmarks.{landmark_in}
use Rattle.build_records.specs.code.Marks.{landmark_bytes}

-- with j landmarks written, each of w bytes, those that are left complete the tree
pub record Marking (f : ℕ → List ℕ) (w m a s : ℕ) (bs tree₀ : List ℕ) (start : ℕ) (tree : List ℕ) (j : ℕ) : Type 0 where
  pub same : write tree (start + j * w) (landmark_bytes f m a s bs (m - j) j) ≡ write tree₀ start (landmark_bytes f m a s bs m 0)

module _ (f : ℕ → List ℕ) (w m a s : ℕ) (bs tree₀ : List ℕ) (start : ℕ) where
  pub marking_start : Marking f w m a s bs tree₀ start tree₀ 0
  marking_start = record { same = rw (let e : m - 0 ≡ m = omega arith in e) (rw (let e : start + 0 * w ≡ start = omega arith in e) refl) }

  pub marking_turn : (tree next : List ℕ) (j l : ℕ) → Marking f w m a s bs tree₀ start tree j → j < m → length (f l) ≡ w → l ≡ landmark m a s bs j
      → next ≡ write tree (start + j * w) (f l) → Marking f w m a s bs tree₀ start next (j + 1)
  unfolding landmark_bytes
  marking_turn tree next j l x h len e g =
      let d : m - j ≡ suc (m - (j + 1)) = omega arith in
      let place : start + (j + 1) * w ≡ start + j * w + w = rw (add-one j) (omega (arith, suc-mul j w)) in
      let rest = landmark_bytes f m a s bs (m - (j + 1)) (suc j) in
      let u : write tree (start + j * w) (f l ++ rest) ≡ write next (start + j * w + w) rest = write-append (f l) rest tree (start + j * w) ∙ rw (len, ← g) refl in
      record { same = rw place (ap (λ (z : ℕ). write next (start + j * w + w) (landmark_bytes f m a s bs (m - (j + 1)) z)) (add-one j) ∙ (sym u ∙ (rw (d, ← e) at x.same))) }

  pub marking_end : (tree : List ℕ) (j : ℕ) → Marking f w m a s bs tree₀ start tree j → m ≤ j → tree ≡ write tree₀ start (landmark_bytes f m a s bs m 0)
  unfolding landmark_bytes
  marking_end tree j x h =
      let z : m - j ≡ 0 = omega arith in
      sym (write-none tree (start + j * w)) ∙ (rw z at x.same)

-- the landmark that the list of border junctions gives
pub landmark-same : (rs : List Road) (list : List ℕ) (m a s j l : ℕ) → list ≡ borders rs a s → l ≡ landmark m a s list j → l ≡ landmark m a s (borders rs a s) j
landmark-same rs list m a s j l k e = e ∙ ap (λ (z : List ℕ). landmark m a s z j) k

pub landmark-low : (rs : List Road) (list : List ℕ) (m a s j l n : ℕ) → list ≡ borders rs a s → 0 < s → j < m → a + s ≤ n → l ≡ landmark m a s list j → l < n
landmark-low rs list m a s j l n k some h top e = omega (arith, landmark-same rs list m a s j l k e, (landmark_in rs m a s j some h).1)
