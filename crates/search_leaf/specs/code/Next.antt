-- The next element of a leaf's list, and the words when it is queued. Assumes nothing: these are definitions.
use Rattle.std.specs.Prelude.{◌≡◌, Bool, List, ℕ, ◌+◌, ◌≢◌, max, get_or, set, Option, Some, None}
use Rattle.tree_layout.specs.Values.{Element}
use Rattle.book.specs.Choose.{choose}
use Rattle.search_rules.specs.Queue.{unqueued, queued, word_at, pick}
use Rattle.search_rules.specs.Step.{no_element, again_key}
use Rattle.search_state.specs.code.State.{yard_keys_at, firsts_at, bounds_at, gone_at, fs_in, gone_in}
use Rattle.search_leaf.specs.code.Leaves.{words_of}
use Rattle.search_leaf.specs.declared.Next.{Next}

-- "Its list's elements leave by f .., then by place": the next of n elements
unfoldable pub next_in : List ℕ → List Bool → List Element → ℕ → Element
next_in fs gone es n = get_or es (pick (words_of fs gone es) n) no_element

-- its f, or `unqueued` if none remains
unfoldable pub next_word : List ℕ → List Bool → List Element → ℕ → ℕ
next_word fs gone es n = word_at (words_of fs gone es) (pick (words_of fs gone es) n)

-- the word of an answer: its f, or `unqueued` if there is none
abbrev pub word_in : Option Next → ℕ
word_in None = unqueued
word_in (Some e) = e.f

-- an answer is the next of n elements by its place and its f, and there is none exactly if none remains: the least word
-- is then `unqueued`, and the first element has it
abbrev pub IsNext : List ℕ → List Bool → List Element → ℕ → Option Next → Type 0
IsNext fs gone es n None = (pick (words_of fs gone es) n ≡ 0) × (unqueued ≡ next_word fs gone es n)
IsNext fs gone es n (Some e) = (e.place ≡ pick (words_of fs gone es) n) × (e.f ≡ next_word fs gone es n) × (e.f ≢ unqueued)

-- of a leaf's list of n elements, and the words and the yards' values of a search
module _ (regions junctions : ℕ) (es : List Element) (n : ℕ) (ws vs : List ℕ) where
  -- the yard that leaves next
  unfoldable pub leaving : ℕ
  leaving = (next_in (fs_in junctions vs) (gone_in regions junctions ws) es n).yard

  -- "A leaf queues its next yard": yard y of leaf r. "Its key is the greater of its bound and the leaf's first key."
  unfoldable pub yard_queued : (r y : ℕ) → List ℕ
  yard_queued r y =
      set (set ws (gone_at regions junctions + y) 0) (yard_keys_at regions junctions + y)
      (max (get_or vs (bounds_at + y) 0) (get_or ws (firsts_at regions junctions + r) 0))

-- "A leaf queues its next yard and, if any remain, itself": leaf r; "A leaf without any wanted yard queues nothing when
-- taken."
unfoldable pub leaf_queued : (regions junctions : ℕ) → List Element → ℕ → (ws vs : List ℕ) → ℕ → List ℕ
leaf_queued regions junctions es n ws vs r =
    let after = yard_queued regions junctions es n ws vs r (leaving regions junctions es n ws vs) in
    let on = set after r (again_key (get_or ws (firsts_at regions junctions + r) 0)
    (next_word (fs_in junctions vs) (gone_in regions junctions after) es n)) in
    let off = set ws r unqueued in
    choose (queued (next_word (fs_in junctions vs) (gone_in regions junctions ws) es n)) on off
