-- The first line end of some bytes: a search for it, and where it is. Assumes nothing.
use mathlib.Core.Path.{◌≡◌, refl, ap}
use mathlib.Core.List.{List, [], ◌∷◌}
use Prim.Native.Nat.{ℕ, suc, ◌+◌, ◌≤◌, ◌<◌}
use native.Mathlib.Numerals.{add-one}
use native.Mathlib.Omega.{arith}
use lib.ListN.{length, drop, get_or, drop_of_length-le}
use lib.Seq.{drop-cons}
use lib.Dec.{eqb}
use Rattle.book.proofs.Choosing.{choose_case, choose_yes, choose_no}
use Rattle.book.proofs.Lists.{eq→eqb, ne→neqb}
use Rattle.within.specs.Input.{line_length}

-- a byte that is a line end, any other, and no byte
pub stops : (b : ℕ) (s : List ℕ) → b ≡ 10 → line_length (b ∷ s) ≡ 0
unfolding line_length
stops b s e = choose_yes (eqb b 10) _ _ (eq→eqb b 10 e)

pub goes_on : (b : ℕ) (s : List ℕ) → (b ≡ 10 → ⊥) → line_length (b ∷ s) ≡ 1 + line_length s
unfolding line_length
goes_on b s h = choose_no (eqb b 10) _ _ (ne→neqb b 10 h)

none : line_length [] ≡ 0
unfolding line_length
none = refl

-- a line ends inside the bytes
pub line_inside : (s : List ℕ) → line_length s ≤ length s
unfolding line_length
line_inside [] = omega arith
line_inside (b ∷ s) =
    let rest = line_inside s in
    choose_case (λ (n : ℕ). n ≤ suc (length s)) (eqb b 10) (λ t. omega arith) (λ t. omega arith)

-- what a search for the line end knows after i bytes: it is none of them
module _ (s : List ℕ) (i : ℕ) (so_far : line_length s ≡ i + line_length (drop i s)) where
  pub found_here : i < length s → get_or s i 0 ≡ 10 → i ≡ line_length s
  found_here more e = omega (arith, so_far, ap line_length (drop-cons s i 0 more), stops (get_or s i 0) (drop (suc i) s) e)

  pub not-here : i < length s → (get_or s i 0 ≡ 10 → ⊥) → line_length s ≡ (i + 1) + line_length (drop (i + 1) s)
  not-here more h = rw add-one (omega (arith, so_far, ap line_length (drop-cons s i 0 more), goes_on (get_or s i 0) (drop (suc i) s) h))

  pub nowhere : length s ≡ i → length s ≡ line_length s
  nowhere all =
      let past : length s ≤ i = omega arith in
      omega (arith, so_far, ap line_length (drop_of_length-le s past), none)
