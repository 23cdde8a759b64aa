-- The measured yards in their array. Assumes nothing.
use mathlib.Core.Path.{◌≡◌, refl, ap}
use mathlib.Core.List.{List, [], ◌∷◌}
use Prim.Native.Nat.{ℕ, zero, suc, ◌+◌, ◌≤◌, ◌<◌}
use native.Mathlib.Numerals.{add-one}
use native.Mathlib.Omega.{arith}
use lib.ListN.{length, set}
use lib.Seq.{get_or-set_same, get_or-set_other}
use Rattle.search_state.specs.code.State.{newest}

newest-kept : (l : List ℕ) (n j x : ℕ) → n ≤ j → newest (set l j x) n ≡ newest l n
unfolding newest
newest-kept l zero j x h = refl
newest-kept l (suc n) j x h = rw (get_or-set_other l j n x 0 (λ e. absurd (omega arith)), newest-kept l n j x (omega arith)) refl

-- one more at the end
pub newest_put : (l : List ℕ) (n x : ℕ) → n < length l → newest (set l n x) (n + 1) ≡ x ∷ newest l n
unfolding newest
newest_put l n x h = rw (add-one, get_or-set_same l n x 0 h, newest-kept l n n x (omega arith)) refl

pub newest-length : (l : List ℕ) (n : ℕ) → length (newest l n) ≡ n
unfolding newest
newest-length l zero = refl
newest-length l (suc n) = ap suc (newest-length l n)

pub newest-none : (l : List ℕ) → newest l 0 ≡ []
unfolding newest
newest-none l = refl
