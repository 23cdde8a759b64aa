-- What a search returns and writes, by the answer that its steps come to. Assumes nothing: these are definitions.
use Rattle.std.specs.Prelude.{List, ℕ, Result, Ok, Err}
use Rattle.std.proofs.Math.Option.{Option, none, some}
use Rattle.book.specs.Choose.{choose}
use Rattle.book.specs.Refusals.{refusal_number}
use Rattle.book.specs.declared.refusal.Refusal.{Refusal}
use Rattle.search_rules.specs.Run.{Answer, words}
use Rattle.search_call.specs.Call.{Want, Found, refused, over_start}
use Rattle.search_tree.specs.declared.Goal.{Goal}
use Rattle.search_tree.specs.declared.Goal.TheVariants.{Nearest, InDrive}
use Rattle.search_tree.specs.declared.Want.{Want as Wanted}
use Rattle.search_tree.specs.declared.Found.{Found as Returned}

-- the seconds of a drive search; none in a search for k yards
abbrev pub drive_of : Goal → Option ℕ
drive_of Nearest = none
drive_of (InDrive seconds) = some seconds

-- what a call wants, as the definition has it
abbrev pub want_of : Wanted → Want
want_of w = record { kinds = w.kinds; drive = drive_of w.goal }

-- the returned words, as the definition of a call has them
unfoldable pub found_of : Returned → Found
found_of r =
    record { refusal = r.refusal; settled = r.settled; listed = r.listed; taken = r.taken; measured = r.measured }

-- so of an answer that may be a refusal
abbrev pub found_by : Result Returned Refusal → Found
found_by (Ok r) = found_of r
found_by (Err why) = refused (refusal_number why)

-- "Settled writes (yard, distance) words into the result area and nothing after them; spent writes nothing there."
unfoldable pub written_by : Answer → List ℕ → List ℕ
written_by a results = choose a.settled (over_start (words a.listed) results) results
