-- An example's line, by the number of its refusal. Assumes nothing.
use mathlib.Core.Path.{◌≡◌, ap}
use mathlib.Core.List.{List, ◌++◌, append_assoc}
use Prim.Native.Nat.{ℕ}
use lib.Dec.{eqb}
use Rattle.book.proofs.Choosing.{choose_yes, choose_no}
use Rattle.book.proofs.Lists.{eq→eqb, ne→neqb}
use Rattle.text.specs.Text.{decimal, refused_text}
use Rattle.examples.specs.Output.{accepted_text, example_line}

module _ (name : List ℕ) (n : ℕ) (then : List ℕ) (why : ℕ) where
  pub accepted_line : why ≡ 0 → example_line name n then why ≡ name ++ (decimal n ++ then) ++ accepted_text
  unfolding example_line
  accepted_line e = ap (λ (l : List ℕ). name ++ (decimal n ++ then) ++ l) (choose_yes (eqb why 0) accepted_text (refused_text why) (eq→eqb why 0 e))

  pub refused_line : (why ≡ 0 → ⊥) → example_line name n then why ≡ name ++ (decimal n ++ then) ++ refused_text why
  unfolding example_line
  refused_line h = ap (λ (l : List ℕ). name ++ (decimal n ++ then) ++ l) (choose_no (eqb why 0) accepted_text (refused_text why) (ne→neqb why 0 h))

-- what a text that is appended to asks
pub ruleset lines = (accepted_line, refused_line, append_assoc)
