-- The words of a search before its first step, and what a search answers. Assumes nothing: these are definitions.
use Rattle.std.specs.Prelude.{Bool, List, [], ℕ, set}
use Rattle.book.specs.Choose.{choose}
use Rattle.search_rules.specs.Run.{Answer}
use Rattle.search_state.specs.code.State.{firsts_at}
use Rattle.search_run.specs.declared.Outcome.{Outcome}

-- "The queue starts with the root.", if it may enter: its key and its first key set
unfoldable pub put_root : (admitted : Bool) → (r n key : ℕ) → List ℕ → List ℕ
put_root admitted r n key ws = choose admitted (set (set ws 0 key) (firsts_at r n) key) ws

-- "Both return taken and measured, and settled also the number of yards listed."
unfoldable pub answer_of : Outcome → Answer
answer_of o = record {
  settled = o.settled;
  listed = choose o.settled o.progress.kept [];
  taken = o.taken;
  measured = o.progress.measured;
}
