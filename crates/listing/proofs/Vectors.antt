-- Inputs taken apart, by running the definitions. Assumes nothing.
use mathlib.Core.Path.{◌≡◌, refl}
use mathlib.Core.List.{List, [], ◌∷◌}
use Prim.Native.Nat.{ℕ}
use Rattle.book.specs.Bytes.{u16_at, u32_at}
use Rattle.listing.specs.Input.{book_end, first_book, after_book, road_in, tree_in, query_in}

-- an input's road, tree and query books
Apart : (input road tree query : List ℕ) → Type 0
Apart input road tree query = (road_in input ≡ road) × (tree_in input ≡ tree) × (query_in input ≡ query)

in_a_row : Apart (0 ∷ 0 ∷ 0 ∷ 1 ∷ 7 ∷ 0 ∷ 0 ∷ 0 ∷ 2 ∷ 1 ∷ 3 ∷ 5 ∷ 6 ∷ []) (0 ∷ 0 ∷ 0 ∷ 1 ∷ 7 ∷ []) (0 ∷ 0 ∷ 0 ∷ 2 ∷ 1 ∷ 3 ∷ []) (5 ∷ 6 ∷ [])
unfolding Apart book_end first_book after_book u32_at u16_at
in_a_row = (refl, refl, refl)

-- "or what is left if that is less"
road_past_end : Apart (0 ∷ 0 ∷ 0 ∷ 4 ∷ 1 ∷ 7 ∷ 0 ∷ []) (0 ∷ 0 ∷ 0 ∷ 4 ∷ 1 ∷ 7 ∷ 0 ∷ []) [] []
unfolding Apart book_end first_book after_book u32_at u16_at
road_past_end = (refl, refl, refl)

tree_past_end : Apart (0 ∷ 0 ∷ 0 ∷ 0 ∷ 0 ∷ 0 ∷ 1 ∷ 0 ∷ 1 ∷ []) (0 ∷ 0 ∷ 0 ∷ 0 ∷ []) (0 ∷ 0 ∷ 1 ∷ 0 ∷ 1 ∷ []) []
unfolding Apart book_end first_book after_book u32_at u16_at
tree_past_end = (refl, refl, refl)

fewer_than_four : Apart (0 ∷ 0 ∷ 0 ∷ []) (0 ∷ 0 ∷ 0 ∷ []) [] []
unfolding Apart book_end first_book after_book u32_at u16_at
fewer_than_four = (refl, refl, refl)

empty : Apart [] [] [] []
unfolding Apart book_end first_book after_book u32_at u16_at
empty = (refl, refl, refl)
