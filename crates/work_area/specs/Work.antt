-- The lent work area: "Check, build and search zero the first 16,384 words of the work area and leave any after them."
-- Assumes nothing: these are definitions.
use Rattle.std.specs.Prelude.{List, ◌++◌, ℕ, replicate, drop, leb, eqb}
use Rattle.book.specs.Choose.{choose, refuse}

-- the words that a call wants
abbrev pub work_words : ℕ
work_words = 16384

-- 12: "A lent area is too short: work below 16,384 words", of an area of so many words
unfoldable pub work_refusal : ℕ → ℕ
work_refusal words = refuse (leb work_words words) 12 0

-- the area with its first n words zero, and those after them as they were
unfoldable pub zeroed : ℕ → List ℕ → List ℕ
zeroed n work = replicate n 0 ++ drop n work

-- the area after a call: zeroed if the call is accepted; "A refusal .. changes no lent byte or word."
unfoldable pub work_after : ℕ → List ℕ → List ℕ
work_after refusal work = choose (eqb refusal 0) (zeroed work_words work) work
