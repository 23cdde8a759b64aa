-- There are two result words for each yard that a search of books lists. Assumes nothing.
use mathlib.Core.Path.{◌≡◌}
use mathlib.Core.List.{List}
use Prim.Native.Nat.{ℕ, ◌*◌, ◌≤◌}
use native.Mathlib.Omega.{arith}
use Rattle.book.specs.Bytes.{Bytes}
use Rattle.search_call.specs.Call.{Want, search_found}
use Rattle.search_call.proofs.Room.{drive-fits}
use Rattle.search_tree.specs.declared.Found.{Found as Returned}
use Rattle.search_tree.specs.Found.{found_of}
use Rattle.search_tree.proofs.Fields.{listed-is}

pub room : (road tree query : List ℕ) (want : Want) (work results : ℕ) (r : Returned) → Bytes tree
    → found_of r ≡ search_found road tree query want work results → 2 * r.listed ≤ results
room road tree query want work results r bytes e =
    omega (arith, listed-is r (search_found road tree query want work results) e, drive-fits road tree query bytes want work results)
