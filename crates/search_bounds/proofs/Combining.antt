-- The aggregate of two numbers, by the aggregate that a code names. Assumes nothing.
use mathlib.Core.Path.{◌≡◌, ap, ◌∙◌}
use Prim.Native.Nat.{ℕ, ◌+◌, max}
use native.Mathlib.Omega.{arith}
use Rattle.query.specs.code.Aggregates.{aggregate_by, code_of}
use Rattle.query.specs.declared.aggregate.Aggregate.{Aggregate}
use Rattle.query.specs.declared.aggregate.Aggregate.TheVariants.{Sum, Furthest}
use Rattle.query.proofs.Coding.{code_kept}
use Rattle.search_rules.specs.Bounds.{combine}
use Rattle.search_rules.proofs.Equations.{combine-sum, combine-max}

module _ (code a b : ℕ) (g : Aggregate) (e : g ≡ aggregate_by code) where
  pub combined-sum : g ≡ Sum → a + b ≡ combine code a b
  combined-sum s = combine-sum code a b (omega (arith, code_kept code, ap code_of e, ap code_of s))

  pub combined-most : (r : ℕ) → g ≡ Furthest → r ≡ max a b → r ≡ combine code a b
  combined-most r m f = f ∙ combine-max code a b (λ z. omega (arith, z, code_kept code, ap code_of e, ap code_of m))
