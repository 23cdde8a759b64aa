-- "The list program reads road, tree and query books from standard input.": how bytes are taken apart into books, and
-- the search that they ask for. Assumes nothing: these are definitions.
use Rattle.std.proofs.Math.Option.{Option}
use Rattle.std.specs.Prelude.{List, ℕ, ◌+◌, min, length, take, drop}
use Rattle.book.specs.Bytes.{u32_at}
use Rattle.work_area.specs.Work.{work_words}
use Rattle.search_call.specs.Call.{want_any, Found, search_found, results_after}

-- "The first two each take four bytes and as many more as those count, or what is left if that is less": where the
-- first book of some bytes ends (of fewer than four bytes it takes all)
unfoldable pub book_end : List ℕ → ℕ
book_end s = min (4 + u32_at s 0) (length s)

-- the first book, and what follows it
unfoldable pub first_book : List ℕ → List ℕ
first_book s = take (book_end s) s

unfoldable pub after_book : List ℕ → List ℕ
after_book s = drop (book_end s) s

-- the three books; "the query is all the rest"
abbrev pub road_in : List ℕ → List ℕ
road_in s = first_book s

abbrev pub tree_in : List ℕ → List ℕ
tree_in s = first_book (after_book s)

abbrev pub query_in : List ℕ → List ℕ
query_in s = after_book (after_book s)

-- what a search by them returns, for k yards or within so many seconds, with a full work area and so many result words
unfoldable pub found_in : List ℕ → (drive : Option ℕ) → ℕ → Found
found_in s drive results = search_found (road_in s) (tree_in s) (query_in s) (want_any drive) work_words results

-- the result area after it
unfoldable pub results_in : List ℕ → (drive : Option ℕ) → List ℕ → List ℕ
results_in s drive results = results_after (road_in s) (tree_in s) (query_in s) (want_any drive) work_words results
