-- The yard book's definitions, run: net N's yards 1, 3, 4, and a book for each refusal. Assumes nothing.
use mathlib.Core.Path.{◌≡◌, refl}
use mathlib.Core.List.{List, [], ◌∷◌}
use Prim.Native.Nat.{ℕ}
use Rattle.book.specs.Choose.{choose, refuse, first_of}
use Rattle.book.specs.Bytes.{u8_at, u16_at, u32_at}
use Rattle.book.specs.Open.{version, open_refusal}
use Rattle.kinds.specs.Kinds.{kind_size, kind_at}
use Rattle.yard.specs.Yards.{yard_count, yards_size, yard_place, yard_at, yard_kind, kinds_set, yards_from, yards_of, yards_rise, inside, yard_body_refusal, yard_refusal, yard_refusal_in}

-- a book with this version, this yard count and three yards
abbrev three : ℕ → ℕ → ℕ → ℕ → ℕ → ℕ → List ℕ
three version count p q r s = 0 ∷ 0 ∷ 0 ∷ 9 ∷ version ∷ 0 ∷ count ∷ 0 ∷ p ∷ 0 ∷ q ∷ s ∷ r ∷ []

-- a version 2 book of yards 1 and 3 with these kinds
abbrev two : ℕ → ℕ → List ℕ
two p q = 0 ∷ 0 ∷ 0 ∷ 9 ∷ 2 ∷ 0 ∷ 2 ∷ 0 ∷ 1 ∷ p ∷ 0 ∷ 3 ∷ q ∷ []

pub examples :
    (yards_of (three 1 3 1 3 4 0) ≡ 1 ∷ 3 ∷ 4 ∷ [])
    × (yard_refusal (three 1 3 1 3 4 0) ≡ 0)
    × (yard_refusal (three 1 3 0 3 255 3) ≡ 0)
    -- fewer than five bytes; a count that isn't the length
    × (yard_refusal (0 ∷ 0 ∷ 0 ∷ 0 ∷ []) ≡ 1)
    × (yard_refusal (0 ∷ 0 ∷ 0 ∷ 2 ∷ 1 ∷ []) ≡ 1)
    -- another version; no header; no yard; 257 yards
    × (yard_refusal (three 3 3 1 3 4 0) ≡ 2)
    × (yard_refusal (three 0 3 1 3 4 0) ≡ 2)
    × (yard_refusal (0 ∷ 0 ∷ 0 ∷ 1 ∷ 1 ∷ []) ≡ 3)
    × (yard_refusal (three 1 0 1 3 4 0) ≡ 3)
    × (yard_refusal (0 ∷ 0 ∷ 0 ∷ 3 ∷ 1 ∷ 1 ∷ 1 ∷ []) ≡ 3)
    -- a yard too many, one too few, and the latter before a value out of order
    × (yard_refusal (three 1 2 1 3 4 0) ≡ 4)
    × (yard_refusal (three 1 4 1 3 4 0) ≡ 4)
    × (yard_refusal (three 1 4 4 3 1 0) ≡ 4)
    -- equal yards; a yard that falls; junction 1,024
    × (yard_refusal (three 1 3 1 3 3 0) ≡ 5)
    × (yard_refusal (three 1 3 3 1 4 0) ≡ 5)
    × (yard_refusal (three 1 3 1 3 0 4) ≡ 5)
    -- beside road books with five and with four junctions
    × (yard_refusal_in (three 1 3 1 3 4 0) 5 ≡ 0)
    × (yard_refusal_in (three 1 3 1 3 4 0) 4 ≡ 8)
    × (yard_refusal_in (three 1 3 1 3 3 0) 3 ≡ 5)
    -- in version 2 each yard has a kind: two yards with kinds 1 and 128, and the same with a kind of 0; six bytes are no
    -- three yards; version 1 has kind 255 throughout
    × (yards_of (two 1 128) ≡ 1 ∷ 3 ∷ [])
    × (yard_kind (two 1 128) 0 ∷ yard_kind (two 1 128) 1 ∷ [] ≡ 1 ∷ 128 ∷ [])
    × (yard_refusal (two 1 128) ≡ 0)
    × (yard_refusal (two 1 0) ≡ 5)
    × (yard_refusal (two 0 1) ≡ 5)
    × (yard_refusal (three 2 3 1 3 4 0) ≡ 4)
    × (yard_kind (three 1 3 1 3 4 0) 2 ≡ 255)
unfolding choose refuse first_of u8_at u16_at u32_at version open_refusal kind_size kind_at yard_count yards_size yard_place yard_at yard_kind kinds_set yards_from yards_of yards_rise inside yard_body_refusal yard_refusal yard_refusal_in
examples = (refl, refl, refl, refl, refl, refl, refl, refl, refl, refl, refl, refl, refl, refl, refl, refl, refl, refl, refl, refl, refl, refl, refl, refl, refl, refl)
