-- A tournament tree with four children a word: the top is word 1, the children of word p are words 4 p to 4 p + 3,
-- leaf v is word 1,024 + v, and each word above the leaves is the least of its four. Words 2 and 3 and those below
-- them are not used. Assumes nothing: these are definitions.
use Rattle.std.specs.Prelude.{◌≡◌, ℕ, zero, suc, ◌+◌, ◌*◌, ◌/◌, ◌%◌, min, ◌≤◌, ◌<◌, List, length, get_or, set}

-- the number of a tree's words
abbrev pub queue_words : ℕ
queue_words = 2048

-- leaf v's word
unfoldable pub leaf : List ℕ → ℕ → ℕ
leaf t v = get_or t (1024 + v) 0

-- the top word
unfoldable pub top : List ℕ → ℕ
top t = get_or t 1 0

-- the least of the four words below word p
abbrev pub lesser_of : List ℕ → ℕ → ℕ
lesser_of t p = min (min (get_or t (4 * p) 0) (get_or t (4 * p + 1) 0)) (min (get_or t (4 * p + 2) 0) (get_or t (4 * p + 3) 0))

-- the other word of word i's pair, and the word across: that of the other pair of its four
abbrev pub other : ℕ → ℕ
other i = 2 * (i / 2) + (i + 1) % 2

abbrev pub across : ℕ → ℕ
across i = 4 * (i / 4) + (i + 2) % 4

-- the least of the three words beside word i
abbrev pub least_beside : List ℕ → ℕ → ℕ
least_beside t i = min (get_or t (other i) 0) (min (get_or t (across i) 0) (get_or t (other (across i)) 0))

-- t with word p made the least of its four
abbrev pub mend : List ℕ → ℕ → List ℕ
mend t p = set t p (lesser_of t p)

-- t with f words above word i made so, from i up
unfoldable pub repair : ℕ → List ℕ → ℕ → List ℕ
repair zero t i = t
repair (suc f) t i = repair f (mend t (i / 4)) (i / 4)

-- t with x at leaf v
unfoldable pub put_leaf : List ℕ → ℕ → ℕ → List ℕ
put_leaf t v x = repair 5 (set t (1024 + v) x) (1024 + v)

-- a tournament: each word from 1 to 511 is the least of its four
pub record Tournament (t : List ℕ) : Type 0 where
  pub size : length t ≡ queue_words
  pub least : (j : ℕ) → 1 ≤ j → j < 512 → get_or t j 0 ≡ lesser_of t j
