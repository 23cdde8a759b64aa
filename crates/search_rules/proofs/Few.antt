-- A search for k yards holds and lists at most k, whatever the tree and the query say. Assumes nothing.
use mathlib.Core.Path.{◌≡◌}
use mathlib.Core.List.{List, [], ◌∷◌}
use Prim.Native.Nat.{ℕ, zero, suc, min, ◌≤◌}
use Rattle.tree_layout.specs.Values.{Element, Mark}
use native.Mathlib.Omega.{arith}
use lib.ListN.{length, length-take}
use Rattle.book.specs.Choose.{choose}
use Rattle.book.proofs.Choosing.{choose_case}
use Rattle.search_rules.specs.Order.{Entry}
use Rattle.search_rules.specs.Rule.{Rule, nearest}
use Rattle.search_rules.specs.Instance.{Instance, leaf}
use Rattle.search_rules.specs.Bounds.{chosen}
use Rattle.search_rules.specs.Queue.{queued, word_at}
use Rattle.search_rules.specs.Keeping.{keep_by, keep}
use Rattle.search_rules.specs.Held.{insert, hold, entry}
use Rattle.search_rules.specs.Step.{SearchState, next_f, open_inner, queue_next, close_leaf, open_leaf, take_region, take_yard, next_region, next_yard, step}
use Rattle.search_rules.specs.Step.{queue_yard, queue_wanted, open_whole, take_leaf}
use Rattle.search_rules.specs.Step.{settled}
use Rattle.search_rules.specs.Step.{start_search}
use Rattle.search_rules.specs.Run.{Outcome, advance, run, report, answer}

kept-few : (r : Rule) (k : ℕ) (e : Entry) (held : List Entry) → r ≡ nearest k → length (keep_by r e held) ≤ k
unfolding keep_by hold
kept-few r k e held p = rw p (omega (arith, length-take k (insert e held)))

module _ (i : Instance) (k : ℕ) (asked : i.rule ≡ nearest k) where
  Few : SearchState → Type 0
  Few st = length st.held ≤ k

  -- a region that is taken leaves the held yards
  wanted-few : (st : SearchState) (first : ℕ) (m : Mark) (es : List Element) → Few st → Few (queue_wanted i st first m es)
  unfolding Few queue_wanted queue_yard
  wanted-few st first m [] h = h
  wanted-few st first m (e ∷ es) h = wanted-few (choose (i.wants e.yard) (queue_yard i st first m e) st) first m es (choose_case Few (i.wants e.yard) (λ t. h) (λ t. h))

  region_few : (st : SearchState) (r a : ℕ) → Few st → Few (take_region i st r a)
  unfolding Few take_region take_leaf open_whole open_leaf open_inner queue_next close_leaf
  region_few st r a h = choose_case Few (leaf i r) (λ l. choose_case Few i.one_way (λ one. wanted-few _ _ _ _ h) (λ two. choose_case Few (queued (next_f i st.gone (chosen i r))) (λ t. h) (λ t. h))) (λ l. h)

  yard-few : (st : SearchState) (y : ℕ) → Few (take_yard i st y)
  unfolding Few take_yard keep
  yard-few st y = kept-few i.rule k (entry i y) st.held asked

  step-few : (st : SearchState) → Few st → Few (step i st)
  unfolding step
  step-few st h =
      let a = word_at st.region_keys (next_region i st) in
      let b = word_at st.yard_keys (next_yard i st) in
      choose_case Few (queued (min a b)) (λ q. choose_case Few _ (λ t. yard-few st (next_yard i st)) (λ t. region_few st (next_region i st) a h)) (λ q. h)

  run-few : (limit : ℕ) → Few (run i limit).state
  unfolding Few run start_search advance
  run-few zero = omega arith
  run-few (suc limit) =
      choose_case (λ (o : Outcome). Few o.state) (settled i (run i limit).state) (λ t. run-few limit) (λ t. step-few (run i limit).state (run-few limit))

  pub answer-few : (limit : ℕ) → length (answer i limit).listed ≤ k
  unfolding Few answer report
  answer-few limit = choose_case (λ (l : List Entry). length l ≤ k) (settled i (run i limit).state) (λ t. run-few limit) (λ t. omega arith)
