use mathlib.Core.Path.{sym, ◌∙◌}
use Rattle.tree_leaf.proofs.Members.{list_fails, same-not-named, same_by_members}
use Rattle.tree_leaf.proofs.same_yards.Goals.{then-fill_members, else-fill_members}
use Rattle.tree_leaf.proofs.same_yards.Goals as goal

pub returns-then-all_in : goal.returns-then-all_in
returns-then-all_in c =
    elim c.if-fill_members.branch [
      | then-fill_members w ↦
          let r = w.if-fill_members.true in
          let p = c.requires in
          c.all_in-then-all_in.ensures
          ∙ sym (same_by_members _ _ _ _ p.2 p.4 (sym c.fill_members.ensures.0 ∙ r) _ _ p.5 (sym w.all_in.ensures ∙ sym w.value-is ∙ c.if-all_in.true) (c.fill_members.ensures.1 r))
      | else-fill_members w ↦ cc
    ]

pub returns-else-all_in : goal.returns-else-all_in
returns-else-all_in c =
    elim c.if-fill_members.branch [
      | then-fill_members w ↦
          let p = c.requires in
          c.if-all_in.false
          ∙ sym (same-not-named _ _ _ _ p.2 p.4 (sym c.fill_members.ensures.0 ∙ w.if-fill_members.true) _ p.5 (sym w.all_in.ensures ∙ sym w.value-is ∙ c.if-all_in.false))
      | else-fill_members w ↦ c.if-all_in.false ∙ sym (list_fails _ _ _ _ (sym c.fill_members.ensures.0 ∙ w.if-fill_members.false))
    ]
