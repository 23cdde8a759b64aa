use mathlib.Core.Path.{◌≡◌, refl, ap, ◌∙◌}
use mathlib.Core.List.{List, ◌++◌, append_assoc}
use Prim.Native.Nat.{ℕ}
use native.Mathlib.Omega.{arith}
use Rattle.adjacency.proofs.Linking.{few-junctions}
use Rattle.eccentricity.specs.Output.{line_of}
use Rattle.eccentricity.proofs.Printing.{row_is}
use Rattle.eccentricity.proofs.row.Goals as goal

pub furthest-requires : goal.furthest-requires
furthest-requires g c =
    let few = few-junctions c.requires.0.adjacent in
    omega (arith, few, c.junctions-n.ensures, c.distances.auto)

pub total-requires : goal.total-requires
total-requires g c =
    let few = few-junctions c.requires.0.adjacent in
    let e = c.junctions-n.ensures in
    (omega (arith, few, e, c.distances.auto), omega (arith, few, e))

pub returns-clause-added : goal.returns-clause-added
unfolding line_of
returns-clause-added g c =
    let line : c.put_number-3.new.self ≡ c.args.out.now ++ line_of c.args.u c.furthest.result c.total.result =
    simp (c.put_number-3.ensures.added, c.put_number-2.ensures.added, c.put_number.ensures.added, append_assoc)
    in
    λ b ad.
    line
    ∙ ap (λ (l : List ℕ). c.args.out.now ++ l)
    (row_is b _ _ _ _ _ _ (c.distances.ensures.row b ad) (c.junctions-n.ensures ∙ ad.count) refl c.furthest.ensures c.total.ensures)
