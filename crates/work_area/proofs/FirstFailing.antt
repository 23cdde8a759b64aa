-- The work area's test, 12. Assumes nothing.
use mathlib.Core.List.{[], ◌∷◌}
use Prim.Native.Nat.{ℕ, ◌≤◌}
use Rattle.book.specs.Tests.{test, FirstFailing}
use Rattle.book.proofs.FirstFailing.{first-end, first-le}
use Rattle.work_area.specs.Work.{work_words, work_refusal}

pub work-test : (words : ℕ) → FirstFailing (test 12 (work_words ≤ words) ∷ []) (work_refusal words)
unfolding work_refusal
work-test words = first-le work_words words 12 0 _ (λ _. first-end)
