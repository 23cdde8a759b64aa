use Rattle.std.proofs.Common.{ap, arith, length}
use Rattle.search_rules.proofs.Held.{insert-length}
use Rattle.search_order.specs.code.Listed.{entry_in}
use Rattle.search_drive.proofs.Keeping.{keep-far, keep-near}
use Rattle.search_drive.proofs.keep.Goals as goal

pub returns-then-e-seconds : goal.returns-then-e-seconds
returns-then-e-seconds c =
    record {
      held = keep-near _ _ _ _ (omega (arith, c.if-e-seconds.true)) c.insert.ensures;
      room = omega (arith, ap length c.insert.ensures, insert-length (entry_in c.args.e) c.args.kept.now);
    }

pub returns-else-e-seconds : goal.returns-else-e-seconds
returns-else-e-seconds c =
    record {
      held = keep-far _ _ _ (omega (arith, c.if-e-seconds.false));
      room = omega arith;
    }
