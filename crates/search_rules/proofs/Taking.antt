-- What holds of a state that a search comes to, for those who take its next step. Assumes nothing.
use mathlib.Core.Path.{◌≡◌, sym, ap, ◌∙◌}
use mathlib.Core.Bool.{Bool, true, false, not, ◌||◌}
use mathlib.Core.List.{List, Memᴰ as Mem}
use Prim.Native.Nat.{ℕ, suc, ◌<◌}
use native.Mathlib.Omega.{arith}
use lib.ListN.{length}
use lib.Dec.{T}
use Rattle.search_rules.specs.Instance.{Instance, size, marks}
use Rattle.search_rules.specs.Bounds.{chosen}
use Rattle.search_rules.specs.Queue.{unqueued, queued}
use Rattle.search_rules.specs.Step.{SearchState, take_yard, least_key, step, settled}
use Rattle.search_rules.specs.Run.{run}
use Rattle.search_rules.specs.Facts.{WellFormed}
use Rattle.search_rules.specs.Theorems.{Covers}
use Rattle.search_rules.proofs.Bounds.{chosen-mem}
use Rattle.search_rules.proofs.Queue.{queued-small}
use Rattle.search_rules.proofs.Theorems.{decided}
use Rattle.search_rules.proofs.Turns.{run_on}
use Rattle.search_rules.proofs.Steps.{settled_is, take-yard-is}

-- a search that isn't settled has a queued key
pub unsettled_key : (i : Instance) (st : SearchState) → T (not (settled i st)) → least_key i st < unqueued
unsettled_key i st t = go (queued (least_key i st)) _ (queued-small (least_key i st)) (rw (settled_is i st) at t)
  where
    go : (a b : Bool) → (T a → least_key i st < unqueued) → T (not (not a || b)) → least_key i st < unqueued
    go true b h t = h tt
    go false b h t = absurd t

-- a leaf's landmark is one of its own
pub chosen_in : (i : Instance) → WellFormed i → (r : ℕ) → r < size i → Mem (chosen i r) (marks i r)
chosen_in i well r h = chosen-mem i r (well.shape.marked r h)

module _ (i : Instance) (well : WellFormed i) (st : SearchState) (steps : ℕ) (is : st ≡ (run i steps).state) where
  -- before a yard is taken, fewer than all of the wanted yards are measured
  pub measured-room : T (not (settled i st)) → (y : ℕ) → step i st ≡ take_yard i st y → (ys : List ℕ) → Covers i ys → length st.measured < length ys
  measured-room t y e ys all =
      let q : (run i (suc steps)).state ≡ take_yard i st y = ap (λ o. o.state) (run_on i steps (rw is at t)) ∙ (ap (step i) (sym is) ∙ e) in
      let m : length (run i (suc steps)).state.measured ≡ suc (length st.measured) = ap (λ (s : SearchState). length s.measured) (q
      ∙ take-yard-is i st y) in
      omega (arith, (decided i well (suc steps)).measured-few ys all)
