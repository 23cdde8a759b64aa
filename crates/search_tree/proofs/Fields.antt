-- The numbers that a search returns, by the definition's answer. Assumes nothing.
use mathlib.Core.Path.{◌≡◌, refl, ap}
use Rattle.search_call.specs.Call.{Found}
use Rattle.search_tree.specs.declared.Found.{Found as Returned}
use Rattle.search_tree.specs.Found.{found_of}

-- the number of yards listed
pub listed-is : (r : Returned) (f : Found) → found_of r ≡ f → r.listed ≡ f.listed
unfolding found_of
listed-is r f e = ap (λ (x : Found). x.listed) e

-- each of them
pub returned : (r : Returned)
    → found_of r ≡ record { refusal = r.refusal; settled = r.settled; listed = r.listed; taken = r.taken; measured = r.measured }
unfolding found_of
returned r = refl
