-- What the code decides by: the ceiling and the budget. Assumes nothing.
use mathlib.Core.Path.{◌≡◌, sym, ap, ◌∙◌}
use mathlib.Core.Bool.{Bool, true, false, not}
use Prim.Native.Nat.{ℕ, ◌≤◌, ◌<◌}
use lib.Dec.{T}
use borrow.Author.Tests.{lt-ltb, le-ltb}
use Rattle.search_rules.specs.Bounds.{combine}
use Rattle.search_rules.specs.Ceiling.{exceeds}
use Rattle.search_rules.proofs.Exceeding.{exceeds-none, exceeds-some}
use Rattle.search_measure.specs.Way.{over}
use Rattle.std.specs.Prelude.{Option, Some, None}
use Rattle.search_measure.specs.code.Cases.{ceiling_of, budget_of}

pub none-exceeds : (c : Option ℕ) (n : ℕ) → c ≡ None → false ≡ exceeds (ceiling_of c) n
none-exceeds c n e = rw e (sym (exceeds-none n))

-- a test that holds for more than the seconds, and for no other
pub seconds_exceed : (c : Option ℕ) (s n : ℕ) (r : Bool) → c ≡ Some s → (T r → s < n) → (T (not r) → n ≤ s) → r ≡ exceeds (ceiling_of c) n
seconds_exceed c s n true e h k = rw e (sym (exceeds-some s n ∙ lt-ltb s n (h tt)))
seconds_exceed c s n false e h k = rw e (sym (exceeds-some s n ∙ le-ltb s n (k tt)))

pub over_by : (code spent : ℕ) (c : Option ℕ) (t n : ℕ) (r : Bool) → n ≡ combine code spent t → r ≡ exceeds (ceiling_of c) n → r ≡ over (budget_of code spent c) t
unfolding over
over_by code spent c t n r e f = f ∙ ap (exceeds (ceiling_of c)) e

-- a test that was answered
pub over_yes : (r x : Bool) → r ≡ x → r ≡ true → T x
over_yes r x e t = rw (← e, t) tt

pub over_no : (r x : Bool) → r ≡ x → r ≡ false → T (not x)
over_no r x e t = rw (← e, t) tt
