-- Worked examples of a search's ceiling, each value computed by hand. Assumes nothing: these are definitions and
-- statements.
use Rattle.std.specs.Prelude.{◌≡◌, List, [], ◌∷◌}
use Rattle.std.proofs.Math.Option.{none, some}
use Rattle.search_rules.specs.Order.{Entry}
use Rattle.search_rules.specs.Rule.{nearest, in_drive}
use Rattle.search_rules.specs.Ceiling.{ceiling_by}
use Rattle.search_rules.specs.Examples.{found}

-- two held yards, 1 and 3, with aggregates 4 and 7 and furthest crews 4 and 5 away
unfoldable pub one : List Entry
one = found 4 4 1 ∷ []

unfoldable pub two : List Entry
two = found 4 4 1 ∷ found 7 5 3 ∷ []

pub record WorkedCeilings : Type 0 where
  -- a search for two yards has none while fewer than two are held, and then the second's aggregate
  pub none_of_two : ceiling_by (nearest 2) [] ≡ none
  pub one_of_two : ceiling_by (nearest 2) one ≡ none
  pub two_of_two : ceiling_by (nearest 2) two ≡ some 7
  -- one for a single yard the first's
  pub one_of_one : ceiling_by (nearest 1) one ≡ some 4
  -- one for three has none yet
  pub two_of_three : ceiling_by (nearest 3) two ≡ none
  -- a drive's seconds, whatever is held
  pub drive-none : ceiling_by (in_drive 9) [] ≡ some 9
  pub drive-two : ceiling_by (in_drive 9) two ≡ some 9
  pub drive_of_two : ceiling_by (in_drive 2) two ≡ some 2
