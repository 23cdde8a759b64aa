-- Bytes appended in turn: one text after another, and a line for each of several things. Assumes nothing.
use mathlib.Core.Path.{◌≡◌, refl, ap, subst, ◌∙◌}
use mathlib.Core.List.{List, [], ◌++◌, append_assoc, append-nil}
use Prim.Native.Nat.{ℕ, ◌+◌}
use native.Mathlib.Numerals.{add-one}
use native.Mathlib.Omega.{arith}
use lib.ListN.{take, length-append}
use Rattle.text.specs.Text.{in_turn, Appended}

-- one text after another
pub append_then : {a b c x y : List ℕ} {i j k : ℕ} → Appended a i x b j → Appended b j y c k → Appended a i (x ++ y) c k
append_then {a} {b} {c} {x} {y} {i} {j} {k} p q = record {
  after = omega (arith, p.after, q.after, length-append x y);
  held = q.held ∙ (ap (λ (l : List ℕ). l ++ y) p.held ∙ append_assoc (take i a) x y);
}

-- the same bytes by another name
pub append_as : {a b x y : List ℕ} {i j : ℕ} → x ≡ y → Appended a i x b j → Appended a i y b j
append_as {a} {b} {x} {y} {i} {j} e p = subst (λ (l : List ℕ). Appended a i l b j) e p

-- texts in turn: none, and one more
pub turns_none : (text : ℕ → List ℕ) → in_turn text 0 ≡ []
unfolding in_turn
turns_none text = refl

pub turns_more : (text : ℕ → List ℕ) (n : ℕ) → in_turn text (n + 1) ≡ in_turn text n ++ text n
unfolding in_turn
turns_more text n = rw add-one refl

-- what a loop that appends them asks
pub ruleset turns = (turns_none, turns_more, append_assoc, append-nil)
