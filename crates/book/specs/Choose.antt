-- A choice by a test, and a list of tests of which the first that fails gives its number. Assumes nothing: these are
-- definitions.
use Rattle.std.specs.Prelude.{Bool, true, false, ℕ, zero, suc}

-- the first value if the test holds, else the second
unfoldable pub choose : {A : Type 0} → Bool → A → A → A
choose true a b = a
choose false a b = b

-- "Turned back, in this order": a test's number if it fails, else what the later tests answer
unfoldable pub refuse : Bool → ℕ → ℕ → ℕ
refuse ok number later = choose ok later number

-- of two answers the first that refuses: the later tests answer if none of the earlier ones fails
unfoldable pub first_of : ℕ → ℕ → ℕ
first_of zero later = later
first_of (suc n) later = suc n
