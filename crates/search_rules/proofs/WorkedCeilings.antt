-- The worked ceilings hold, by computing the definitions. Assumes nothing.
use mathlib.Core.Path.{refl}
use Rattle.book.specs.Choose.{choose}
use Rattle.search_rules.specs.Held.{last_distance, greatest_held}
use Rattle.search_rules.specs.Ceiling.{ceiling_by}
use Rattle.search_rules.specs.Examples.{found}
use Rattle.search_rules.specs.CeilingExamples.{one, two, WorkedCeilings}

pub worked_ceilings : WorkedCeilings
unfolding choose last_distance greatest_held ceiling_by found one two
worked_ceilings = record {
  none_of_two = refl;
  one_of_two = refl;
  two_of_two = refl;
  one_of_one = refl;
  two_of_three = refl;
  drive-none = refl;
  drive-two = refl;
  drive_of_two = refl;
}
