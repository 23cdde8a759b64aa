-- A call that is accepted, by what it asks for. Assumes nothing: these are definitions and statements.
use Rattle.std.specs.Prelude.{◌≡◌, List, ℕ}
use Rattle.query.specs.Query.{limit_of, crews_of}
use Rattle.search_rules.specs.Rule.{Asking}
use Rattle.search_rules.specs.Books.{search_of}
use Rattle.search_rules.specs.Run.{Answer, answer}
use Rattle.search_call.specs.Call.{Want, asking_by}
use Rattle.search_call.specs.code.Accepted.{AcceptedSearch}

-- what a search of a query's crews under its limit answers
abbrev pub answer_by : (road tree query : List ℕ) → Asking → Answer
answer_by road tree query a = answer (search_of road tree a (crews_of query)) (limit_of query)

-- some call that asks for it is accepted
pub record AcceptedBy (road tree query : List ℕ) (a : Asking) (work results : ℕ) : Type 0 where
  pub want : Want
  pub is : a ≡ asking_by query want
  pub accepted : AcceptedSearch road tree query want work results
