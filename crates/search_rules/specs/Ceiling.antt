-- "Stop measuring a yard that has lost": how far a measured yard may be and still be kept. Assumes nothing: these are
-- definitions and statements.
use Rattle.std.specs.Prelude.{◌≡◌, Bool, false, List, [], ◌∷◌, ◌++◌, ℕ, ◌+◌, ◌<◌, length, T, ltb, eqb}
use Rattle.std.proofs.Math.Option.{Option, none, some}
use Rattle.book.specs.Choose.{choose}
use Rattle.search_rules.specs.Order.{Entry}
use Rattle.search_rules.specs.Rule.{Rule, nearest, in_drive}
use Rattle.search_rules.specs.Held.{greatest_held}
use Rattle.search_rules.specs.Keeping.{keep_by}
use Rattle.search_rules.specs.Theorems.{Sorted}

-- an aggregate exceeds a ceiling, if there is one: equal to it is not above
unfoldable pub exceeds : (ceiling : Option ℕ) → ℕ → Bool
exceeds none n = false
exceeds (some seconds) n = ltb seconds n

-- "Search uses the k-th held distance, or no ceiling until k are held; the drive search its seconds."
unfoldable pub ceiling_by : Rule → List Entry → Option ℕ
ceiling_by (nearest k) held = choose (eqb (length held) k) (some (greatest_held held)) none
ceiling_by (in_drive seconds) held = some seconds

-- what it is: the distance of the last of k held yards, which stand in yard order; none while fewer are held; and in a
-- drive its seconds, whatever is held
pub record CeilingsTrue : Type 0 where
  pub full : (before : List Entry) (e : Entry)
      → ceiling_by (nearest (length before + 1)) (before ++ (e ∷ [])) ≡ some e.distance
  pub short : (k : ℕ) (held : List Entry) → length held < k → ceiling_by (nearest k) held ≡ none
  pub drive : (seconds : ℕ) (held : List Entry) → ceiling_by (in_drive seconds) held ≡ some seconds

-- what measuring a yard answers: both its numbers, or that its aggregate is above
pub data Measured : Type 0 where
  exact : (aggregate furthest : ℕ) → Measured
  above : Measured

-- "either the true aggregate or "above", which it gives exactly when the aggregate exceeds the ceiling"; with the
-- aggregate the distance of the furthest crew, since a yard whose aggregate equals the ceiling may still enter
unfoldable pub measured_by : (ceiling : Option ℕ) → (aggregate furthest : ℕ) → Measured
measured_by ceiling n m = choose (exceeds ceiling n) above (exact n m)

-- a yard that is above changes nothing in what is held, by either rule
abbrev pub AboveKept : Type 0
AboveKept = (rule : Rule) (held : List Entry) → Sorted held → (e : Entry)
    → T (exceeds (ceiling_by rule held) e.distance) → keep_by rule e held ≡ held
