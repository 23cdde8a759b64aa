use mathlib.Core.Path.{refl, sym, ap, ◌∙◌}
use mathlib.Core.List.{List, ◌++◌}
use Prim.Native.Nat.{ℕ}
use native.Mathlib.Omega.{arith}
use Rattle.within.specs.code.Given.{given_by}
use Rattle.within.proofs.Texts.{line_given, refused-is, listed-is}
use Rattle.within.proofs.text_of.Goals as goal

pub returns-in_default-clause-text : goal.returns-in_default-clause-text
returns-in_default-clause-text g c =
    let missing = sym (ap given_by c.in_default.is) ∙ c.seconds_in.ensures in
    c.put_refused.ensures.added ∙ ap (λ (l : List ℕ). c.args.out.now ++ l) (refused-is _ _ refl missing)

pub overflow_add-start : goal.overflow_add-start
overflow_add-start g c =
    let given = sym (ap given_by c.in-Some.is) ∙ c.seconds_in.ensures in
    omega (arith, c.line_length-start.ensures, line_given _ _ given)

pub slice_bounds-append-count : goal.slice_bounds-append-count
slice_bounds-append-count g c =
    let given = sym (ap given_by c.in-Some.is) ∙ c.seconds_in.ensures in
    omega (arith, c.line_length-start.ensures, line_given _ _ given)

pub slice_bounds-append-start : goal.slice_bounds-append-start
slice_bounds-append-start g c =
    let given = sym (ap given_by c.in-Some.is) ∙ c.seconds_in.ensures in
    omega (arith, c.line_length-start.ensures, line_given _ _ given)

pub returns-clause-text : goal.returns-clause-text
returns-clause-text g c =
    let given = sym (ap given_by c.in-Some.is) ∙ c.seconds_in.ensures in
    c.append.ensures.text ∙ ap (λ (l : List ℕ). c.args.out.now ++ l) (listed-is _ _ _ _ given (omega (arith, c.line_length-start.ensures)) refl)
