use borrow.Author.Tests.{not-true, not-false}
use mathlib.Core.Path.{refl, ap}
use native.Mathlib.Omega.{arith}
use lib.ListN.{length}
use Rattle.search_tree.proofs.Reporting.{listed-is, spent-found, settled-found, spent-written, settled-written}
use Rattle.search_tree.proofs.accepted.report.Goals as goal

pub returns-then-not-o : goal.returns-then-not-o
returns-then-not-o c =
    let t = not-true _ c.if-not-o.true-raw in record {
      found = spent-found _ _ t refl;
      results = spent-written _ _ t;
    }

pub write-requires : goal.write-requires
write-requires c = omega (arith, c.requires, ap length (listed-is c.args.o.now (not-false _ c.if-not-o.false-raw)))

pub returns : goal.returns
returns c =
    let t = not-false _ c.if-not-o.false-raw in record {
      found = settled-found _ _ _ t c.len-listed.ensures.count refl;
      results = settled-written _ _ _ t c.write.ensures;
    }
