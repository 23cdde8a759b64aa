use mathlib.Core.Path.{◌≡◌, ap, ◌∙◌}
use Prim.Native.Nat.{ℕ, ◌+◌, ◌*◌}
use native.Mathlib.Omega.{arith}
use Rattle.book.specs.Open.{version}
use Rattle.tree_layout.specs.Sizes.{fields_size}
use Rattle.tree_layout.proofs.RecordFields.{fields_inside, mark_inside, place_is}
use Rattle.tree_layout.proofs.landmarks.mark_place.Goals.{After-marks_at}
use Rattle.tree_layout.proofs.landmarks.mark_place.Goals as goal

-- where the landmarks start
start : (c : After-marks_at) → c.marks_at.result ≡ c.args.at + fields_size (version c.args.tree.now)
start c = c.marks_at.ensures ∙ ap (λ (v : ℕ). c.args.at + fields_size v) c.version.ensures

pub mark_size-size-requires : goal.mark_size-size-requires
mark_size-size-requires c = (c.requires.0.header, fields_inside _ _ c.requires.0)

pub version-requires : goal.version-requires
version-requires c = omega (arith, c.requires.0.header)

pub marks_at-requires : goal.marks_at-requires
marks_at-requires c = omega (arith, fields_inside _ _ c.requires.0, ap fields_size c.version.ensures)

pub overflow_mul-result : goal.overflow_mul-result
overflow_mul-result c = omega (arith, mark_inside _ _ c.requires.0 _ c.requires.1 _ c.mark_size-size.ensures)

pub overflow_add-result : goal.overflow_add-result
overflow_add-result c = omega (arith, start c, mark_inside _ _ c.requires.0 _ c.requires.1 _ c.mark_size-size.ensures)

pub returns : goal.returns
returns c =
    ap (λ (x : ℕ). x + c.args.j * c.mark_size-size.result) (start c)
    ∙ place_is _ _ c.requires.0 _ c.requires.1 _ c.mark_size-size.ensures
