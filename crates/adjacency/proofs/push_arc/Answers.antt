use mathlib.Core.Path.{refl}
use native.Mathlib.Omega.{arith}
use lib.ListN.{length-set}
use Rattle.adjacency.specs.Adjacency.{head_at, push_arc}
use Rattle.adjacency.proofs.push_arc.Goals as goal

pub bounds-adj-i-2 : goal.bounds-adj-i-2
bounds-adj-i-2 c = simp length-set (omega arith)

pub bounds-adj-i-3 : goal.bounds-adj-i-3
bounds-adj-i-3 c = simp length-set (omega arith)

pub bounds-adj-j-2 : goal.bounds-adj-j-2
bounds-adj-j-2 c = simp length-set (omega arith)

pub returns : goal.returns
unfolding push_arc head_at
returns c = refl
