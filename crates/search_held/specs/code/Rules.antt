-- A search's rule as the code has it, and what is asked. Assumes nothing: these are definitions.
use Rattle.search_rules.specs.Rule.{Rule, nearest, in_drive, Asking}
use Rattle.search_held.specs.declared.Rule.{Rule as Given}
use Rattle.search_held.specs.declared.Rule.TheVariants.{Nearest, InDrive}
use Rattle.search_held.specs.declared.Asked.{Asked}

-- the definition's rule
abbrev pub rule_of : Given → Rule
rule_of (Nearest k) = nearest k
rule_of (InDrive seconds) = in_drive seconds

-- what a search asks for, as the definition has it
abbrev pub asking_of : Asked → Asking
asking_of a = record { code = a.aggregate; rule = rule_of a.rule; wanted = a.wanted }
