use Rattle.std.proofs.Common.{sym, ap, ◌∙◌, arith, take, length, length-take}
use Rattle.search_rules.proofs.Held.{insert-length}
use Rattle.search_rules.proofs.Turns.{hold-is}
use Rattle.search_order.specs.code.Listed.{entry_in}
use Rattle.search_first.proofs.hold.Goals as goal

pub returns-clause-held : goal.returns-clause-held
returns-clause-held c = c.truncate.ensures ∙ (ap (take c.args.k) c.insert.ensures ∙ sym (hold-is _ _ _))

pub returns-clause-room : goal.returns-clause-room
returns-clause-room c =
    let size = ap length c.truncate.ensures ∙ length-take c.args.k c.insert.new.self in
    let more = ap length c.insert.ensures ∙ insert-length (entry_in c.args.e) c.args.kept.now in
    (omega (arith, size), omega (arith, size, more))
