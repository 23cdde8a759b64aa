-- What exceeds a ceiling, and what measuring answers by it: the definitions' own words, for the crates above. Assumes nothing.
use mathlib.Core.Path.{◌≡◌, refl}
use mathlib.Core.Bool.{false, not}
use mathlib.Core.Option.{Option, none, some}
use Prim.Native.Nat.{ℕ, ◌≤◌}
use native.Mathlib.Omega.{arith}
use lib.Dec.{T, not_T, ltb, ltb→lt, lt→ltb, nltb→le}
use Rattle.book.proofs.Choosing.{choose_yes, choose_no}
use Rattle.search_rules.specs.Ceiling.{exceeds, Measured, exact, above, measured_by}

pub exceeds-none : (n : ℕ) → exceeds none n ≡ false
unfolding exceeds
exceeds-none n = refl

pub exceeds-some : (seconds n : ℕ) → exceeds (some seconds) n ≡ ltb seconds n
unfolding exceeds
exceeds-some seconds n = refl

-- 0 exceeds none; more than what exceeds one does so too; and what does not is no more than it
pub exceeds-zero : (c : Option ℕ) → T (not (exceeds c 0))
unfolding exceeds
exceeds-zero none = tt
exceeds-zero (some seconds) = not_T (ltb seconds 0) (λ t. omega (arith, ltb→lt seconds 0 t))

pub exceeds-more : (c : Option ℕ) {m n : ℕ} → m ≤ n → T (exceeds c m) → T (exceeds c n)
unfolding exceeds
exceeds-more none h t = t
exceeds-more (some seconds) {m} {n} h t = lt→ltb seconds n (omega (arith, ltb→lt seconds m t))

pub exceeds-not : (n seconds : ℕ) → T (not (exceeds (some seconds) n)) → n ≤ seconds
unfolding exceeds
exceeds-not n seconds t = nltb→le seconds n t

-- both answers
module _ (c : Option ℕ) (n m : ℕ) where
  pub measured-above : T (exceeds c n) → measured_by c n m ≡ above
  unfolding measured_by
  measured-above t = choose_yes (exceeds c n) above (exact n m) t

  pub measured-exact : T (not (exceeds c n)) → measured_by c n m ≡ exact n m
  unfolding measured_by
  measured-exact t = choose_no (exceeds c n) above (exact n m) t
