-- The queue, as a word for each number: its key, or `unqueued`. Assumes nothing: these are definitions.
use Rattle.std.specs.Prelude.{Bool, List, ℕ, zero, suc, get_or, ltb}
use Rattle.book.specs.Choose.{choose}

-- The word of what is not queued: the greatest of 64 bits. Every key is far below it (`Limited` and `Decided`, of
-- specs/Theorems.antt).
abbrev pub unqueued : ℕ
unqueued = 18446744073709551615

-- a word is a key
unfoldable pub queued : ℕ → Bool
queued w = ltb w unqueued

-- the word of number v
unfoldable pub word_at : List ℕ → ℕ → ℕ
word_at ws v = get_or ws v unqueued

-- "takes the least key; at equal keys .. lower number first": the number of the least word, of the first j
unfoldable pub pick : List ℕ → ℕ → ℕ
pick ws zero = zero
pick ws (suc j) = let p = pick ws j in choose (ltb (word_at ws j) (word_at ws p)) j p
