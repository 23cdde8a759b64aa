use mathlib.Core.Path.{◌≡◌, ap, ◌∙◌}
use Prim.Native.Nat.{ℕ, ◌+◌, ◌≤◌}
use native.Mathlib.Omega.{arith}
use lib.ListN.{length}
use Rattle.book.specs.Open.{version}
use Rattle.tree_layout.specs.Sizes.{fields_size}
use Rattle.tree_layout.specs.Decode.{landmark_count}
use Rattle.tree_layout.proofs.Accessing.{its_version, its_landmarks}
use Rattle.tree_layout.proofs.Places.{size-least}
use Rattle.tree_leaf.proofs.Listing.{leaf_room, leaf-end, leaf_tested}
use Rattle.tree_leaf.proofs.leaf_ok.Goals.{After-marks_at, Start}
use Rattle.tree_leaf.proofs.leaf_ok.Goals as goal

-- the record's fields lie in the book
inside : (c : Start) → c.args.at + fields_size (version c.args.b.now) ≤ length c.args.b.now
inside c = omega (arith, c.requires.2, size-least c.args.b.now (landmark_count c.args.b.now) c.args.at)

-- where the landmarks start
start : (c : After-marks_at) → c.marks_at.result ≡ c.args.at + fields_size (version c.args.b.now)
start c = c.marks_at.ensures ∙ ap (λ (v : ℕ). c.args.at + fields_size v) (its_version _ _ c.header-h.ensures)

pub fields-f-requires : goal.fields-f-requires
fields-f-requires c = (c.requires.0, inside (goal.at.fields-f-requires c).Start)

pub marks_at-requires : goal.marks_at-requires
marks_at-requires c = omega (arith, inside (goal.at.marks_at-requires c).Start, ap fields_size (its_version _ _ c.header-h.ensures))

pub lists_agree-requires : goal.lists_agree-requires
lists_agree-requires c =
    let m = its_landmarks _ _ c.header-h.ensures in
    let f = c.fields-f.ensures in (
      c.requires.0,
      leaf_room _ _ _ _ _ m (start (goal.at.lists_agree-requires c).After-marks_at) f c.requires.1 c.requires.2,
      leaf-end _ _ _ _ _ m (start (goal.at.lists_agree-requires c).After-marks_at) f c.requires.1 c.requires.3,
    )

pub returns : goal.returns
returns c =
    let m = its_landmarks _ _ c.header-h.ensures in
    c.lists_agree.ensures ∙ leaf_tested _ _ _ _ _ m (start (goal.at.returns c).After-marks_at) c.fields-f.ensures c.requires.1
