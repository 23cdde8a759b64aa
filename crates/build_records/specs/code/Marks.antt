-- What a landmark's record holds, by what building is given and a yard book. Assumes nothing: these are definitions.
use Rattle.std.specs.Prelude.{List, [], ◌++◌, ℕ, zero, suc, ◌-◌, eqb}
use Rattle.book.specs.Choose.{choose}
use Rattle.book.specs.Writing.{u16_bytes, u32_bytes}
use Rattle.yard.specs.Yards.{yards_from}
use Rattle.check_rules.specs.Truth.{least, greatest}
use Rattle.tree_encode.specs.Encode.{encode_list}
use Rattle.build_rules.specs.Cut.{Given, landmark, ranked_list}

-- the bytes of landmark l of a leaf with the yards of number `from` up to `to`
unfoldable pub leaf_bytes : Given → List ℕ → ℕ → ℕ → ℕ → List ℕ
leaf_bytes g yb from to l = u16_bytes l ++ encode_list g.version (ranked_list g l (yards_from yb (to - from) from))

-- the bytes of landmark l of an inner region
unfoldable pub inner_bytes : Given → List ℕ → ℕ → ℕ → ℕ → List ℕ
inner_bytes g yb from to l =
    u16_bytes l
    ++ (u32_bytes (least (g.d l) (yards_from yb (to - from) from))
    ++ u32_bytes (greatest (g.d l) (yards_from yb (to - from) from)))

-- the bytes of landmark l of a region with so many children
unfoldable pub mark_bytes : Given → List ℕ → ℕ → ℕ → ℕ → ℕ → List ℕ
mark_bytes g yb from to children l = choose (eqb children 0) (leaf_bytes g yb from to l) (inner_bytes g yb from to l)

-- those of n landmarks from number j on, one after the other; f gives the bytes of one
unfoldable pub landmark_bytes : (ℕ → List ℕ) → ℕ → ℕ → ℕ → List ℕ → ℕ → ℕ → List ℕ
landmark_bytes f m a s bs zero j = []
landmark_bytes f m a s bs (suc n) j = f (landmark m a s bs j) ++ landmark_bytes f m a s bs n (suc j)
