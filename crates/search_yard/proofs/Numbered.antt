-- What is held once a yard is measured, by its numbers beside a road book. Assumes nothing.
use mathlib.Core.Path.{◌≡◌, sym, ◌∙◌}
use mathlib.Core.List.{List}
use Prim.Native.Nat.{ℕ, ◌<◌}
use lib.Dec.{T}
use Rattle.road.specs.code.Rows.{Rowed}
use Rattle.search_rules.specs.Rule.{Rule, Asking}
use Rattle.search_rules.specs.Order.{Entry, entry_of}
use Rattle.search_rules.specs.Books.{search_of}
use Rattle.search_rules.specs.Held.{entry}
use Rattle.search_rules.specs.Keeping.{keep_by}
use Rattle.search_rules.specs.Theorems.{Sorted}
use Rattle.search_rules.specs.Ceiling.{exceeds, ceiling_by}
use Rattle.search_rules.proofs.Ceiling.{above_kept}
use Rattle.search_rules.proofs.Steps.{entry-is}
use Rattle.search_measure.specs.code.Cases.{total_of, furthest_of}
use Rattle.search_measure.proofs.Totals.{total_of_lem, furthest_of_lem, same_total, same-furthest}
use Rattle.search_yard.specs.code.Entries.{entry_on}

-- a yard's numbers are the search's own
pub entry_of_lem : (road tree : List ℕ) (a : Asking) (crews : List ℕ) (y : ℕ) → entry_on road a.code crews y ≡ entry (search_of road tree a crews) y
unfolding entry_on
entry_of_lem road tree a crews y = (λ j. entry_of (total_of_lem road tree a crews y j) (furthest_of_lem road tree a crews y j) y) ∙ sym (entry-is (search_of road tree a crews) y)

-- two road books with the same rows for the crews give the same
pub same-entry : (road road' crews drives : List ℕ) (code y : ℕ) → Rowed road crews drives → Rowed road' crews drives → y < 1024
    → entry_on road code crews y ≡ entry_on road' code crews y
unfolding entry_on
same-entry road road' crews drives code y a b h =
    λ j. entry_of (same_total road road' crews drives code y a b h j) (same-furthest road road' crews drives y a b h j) y

module _ (rule : Rule) (road : List ℕ) (code : ℕ) (crews : List ℕ) (y : ℕ) (l : List Entry) where
  -- a yard that is measured exactly
  pub held-exact : (n f : ℕ) (r : List Entry) → (n ≡ total_of road code crews y) × (f ≡ furthest_of road crews y) → r ≡ keep_by rule (entry_of n f y) l
      → r ≡ keep_by rule (entry_on road code crews y) l
  unfolding entry_on
  held-exact n f r (p, q) h = h ∙ λ j. keep_by rule (entry_of (p j) (q j) y) l

  -- and one that is above the ceiling
  pub held-above : Sorted l → T (exceeds (ceiling_by rule l) (total_of road code crews y)) → l ≡ keep_by rule (entry_on road code crews y) l
  unfolding entry_on
  held-above s u = sym (above_kept rule l s (entry_of (total_of road code crews y) (furthest_of road crews y) y) u)
