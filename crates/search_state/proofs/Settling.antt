-- When a search is settled, by its least key. Assumes nothing.
use mathlib.Core.Path.{◌≡◌, refl}
use mathlib.Core.Bool.{Bool, true}
use mathlib.Core.List.{List}
use Prim.Native.Nat.{ℕ, ◌≤◌, ◌<◌}
use native.Mathlib.Omega.{arith}
use Rattle.search_rules.specs.Order.{Entry}
use Rattle.search_rules.specs.Rule.{Rule}
use Rattle.search_rules.specs.Instance.{Instance}
use Rattle.search_rules.specs.Queue.{unqueued}
use Rattle.search_rules.specs.Keeping.{enough_by}
use Rattle.search_rules.specs.Step.{least_key, settled}
use Rattle.search_rules.proofs.Steps.{queued_yes, queued_no, settled_is}
use Rattle.search_state.specs.code.State.{settled_by, state_of}

-- ---- the code's tests

module _ (rule : Rule) (least : ℕ) (held : List Entry) where
  pub settled_empty : least ≡ unqueued → true ≡ settled_by rule least held
  unfolding settled_by
  settled_empty q = rw (q, queued_no) refl

  pub settled-queued : (r : Bool) → least < unqueued → r ≡ enough_by rule held least → r ≡ settled_by rule least held
  unfolding settled_by
  settled-queued r small e = rw (queued_yes least small) e

-- a word of 64 bits that isn't the greatest is less
pub small_key : (a : ℕ) → (a ≡ unqueued → ⊥) → a ≤ unqueued → a < unqueued
small_key a n h = omega (arith, n)

-- ---- the definition's

pub settled_of : (i : Instance) (r n : ℕ) (ws : List ℕ) (held : List Entry) (measured : List ℕ) (count : ℕ)
    → settled_by i.rule (least_key i (state_of r n ws held measured count)) held ≡ settled i (state_of r n ws held measured count)
unfolding settled_by state_of
settled_of i r n ws held measured count = by (least_key i (state_of r n ws held measured count)) refl
  where
    by : (least : ℕ) → least ≡ least_key i (state_of r n ws held measured count)
        → settled_by i.rule least held ≡ settled i (state_of r n ws held measured count)
    by least e = rw (settled_is, ← e) refl
