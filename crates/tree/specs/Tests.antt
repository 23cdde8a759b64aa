-- The tree book's tests 1 to 5 and 7, each number with the fact that it asks for. Assumes nothing: these are
-- definitions.
use Rattle.std.specs.Prelude.{List, [], ◌∷◌, ◌++◌, ℕ}
use Rattle.book.specs.Tests.{Test, test}
use Rattle.tree_layout.specs.Decode.{decode}
use Rattle.tree_layout.specs.Tests.{tree_layout_tests}
use Rattle.tree.specs.Facts.{TreeShape}

abbrev pub tree_tests : List ℕ → List Test
tree_tests b =
    -- 1 to 5
    tree_layout_tests b
    -- 7: "The tree's shape rules don't hold."
    ++ test 7 (TreeShape (decode b))
    ∷ []
