use Rattle.std.proofs.Common.{refl, sym, ap, ◌∙◌, get_or, rules}
use native.Mathlib.Omega.{arith}
use Rattle.tree_layout.specs.Values.{no_mark}
use Rattle.tree_layout.specs.Refusal.{all}
use Rattle.tree_layout.proofs.RecordFields.{marks-own, record-fits}
use Rattle.check_rules.specs.Truth.{kinds_list}
use Rattle.check_rules.proofs.Elements.{list-fits, list_length}
use Rattle.check_kinds.proofs.Listing.{by, list-told}
use Rattle.check_kinds.proofs.lists_true.Goals as goal

pub version-v-requires : goal.version-v-requires
version-v-requires c = omega (arith, c.requires.0.header)

pub every_mark-requires : goal.every_mark-requires
every_mark-requires c =
    let p = c.requires in (
      p.0.header,
      record-fits _ _ _ p.3 p.0,
      λ j h.
          let room = list-fits _ _ p.0 p.1 p.2 j (omega (arith, p.3, h)) _ refl in
          let size = list_length _ _ p.0 p.1 p.2 j (omega (arith, p.3, h)) _ refl _ c.version-v.ensures _ refl in
          search rules,
    )

pub returns : goal.returns
returns c =
    let p = c.requires in
    let e = marks-own c.args.tree.now c.args.f.at c.args.m p.3 in
    c.every_mark.ensures (kinds_list (by c.args.table.now)) (λ j h r g.
    list-told _ _ p.0 p.1 p.2 j (omega (arith, p.3, h)) _ c.version-v.ensures _ r (search rules) ∙ ap (λ xs. kinds_list (by c.args.table.now) (get_or xs j no_mark)) (sym e))
    ∙ ap (all (kinds_list (by c.args.table.now))) e
