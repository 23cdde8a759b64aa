use borrow.Author.Rules.{rules}
use mathlib.Core.Path.{ap, ◌∙◌}
use mathlib.Core.List.{List, ◌++◌, append_assoc}
use Prim.Native.Nat.{ℕ}
use native.Mathlib.Omega.{arith}
use Rattle.text.specs.Text.{refused_text}
use Rattle.outline.proofs.Outlining.{place-room, place-length, end-room, end-length, arrays_known, shaped_text, refused_text_lem}
use Rattle.outline.proofs.report.Goals as goal

pub returns-in-Err-clause-text : goal.returns-in-Err-clause-text
returns-in-Err-clause-text g c =
    c.put_refused.ensures.added
    ∙ ap (λ (l : List ℕ). c.args.out.now ++ l) (ap refused_text c.number.ensures ∙ refused_text_lem _ _ c.in-Err.ensures.answer)

pub slice_bounds-places-end : goal.slice_bounds-places-end
slice_bounds-places-end g c =
    place-room _ _ c.in-Ok.ensures.answer _ _ (search rules) c.in-Ok.ensures.places

pub slice_bounds-lines-end : goal.slice_bounds-lines-end
slice_bounds-lines-end g c =
    place-length _ _ c.in-Ok.ensures.answer _ _ (search rules) c.in-Ok.ensures.places

pub slice_bounds-ends-end : goal.slice_bounds-ends-end
slice_bounds-ends-end g c =
    end-room _ _ c.in-Ok.ensures.answer _ _ (search rules) c.in-Ok.ensures.ends

pub slice_bounds-lines-end-2 : goal.slice_bounds-lines-end-2
slice_bounds-lines-end-2 g c =
    end-length _ _ c.in-Ok.ensures.answer _ _ (search rules) c.in-Ok.ensures.ends

pub lines-requires : goal.lines-requires
lines-requires g c =
    let r = c.read in
    let h = c.header in (
      search rules,
      (
        arrays_known _ _ c.in-Ok.ensures.answer _ _ _ _ (search rules) c.in-Ok.ensures.places (search rules) c.in-Ok.ensures.ends,
        omega (arith, place-length _ _ c.in-Ok.ensures.answer _ _ (search rules) c.in-Ok.ensures.places),
        omega (
          arith,
          place-room _ _ c.in-Ok.ensures.answer _ _ (search rules) c.in-Ok.ensures.places,
          r.auto.places,
          h.ensures.short,
          c.requires,
        ),
      ),
    )

pub returns-clause-text : goal.returns-clause-text
returns-clause-text g c =
    simp (c.lines.ensures.added, c.header.ensures.added, shaped_text _ _ c.in-Ok.ensures.answer, append_assoc)

pub returns-clause-fits : goal.returns-clause-fits
returns-clause-fits g c =
    let r = c.read in
    omega (
      arith,
      c.header.ensures.short,
      c.lines.ensures.short,
      place-room _ _ c.in-Ok.ensures.answer _ _ (search rules) c.in-Ok.ensures.places,
      r.auto.places,
    )
