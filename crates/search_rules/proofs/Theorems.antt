-- What is proved of the search, in one place: `bounded`, `decided`, `right`, and the laws of an answer. Assumes nothing.
use mathlib.Core.Path.{◌≡◌, refl, ap, ◌∙◌}
use mathlib.Core.Bool.{true, not}
use mathlib.Core.List.{List, [], ◌∷◌}
use Prim.Native.Nat.{ℕ, zero, suc, ◌+◌, ◌*◌, ◌≤◌}
use native.Mathlib.Omega.{arith}
use lib.ListN.{length}
use lib.Dec.{T}
use Rattle.book.specs.Lists.{keep_if}
use Rattle.book.proofs.Choosing.{choose_yes, choose_no, T_true}
use Rattle.book.proofs.Lists.{or_left, kept-length}
use Rattle.tree.specs.Yards.{tree_yards, inners}
use Rattle.search_rules.specs.Order.{Entry}
use Rattle.search_rules.specs.Instance.{Instance, size}
use Rattle.search_rules.specs.Queue.{unqueued, queued}
use Rattle.search_rules.specs.Held.{ranked}
use Rattle.search_rules.specs.Keeping.{front}
use Rattle.search_rules.specs.Step.{least_key, settled, start_search}
use Rattle.search_rules.specs.Run.{words, advance, run, report, answer}
use Rattle.search_rules.specs.Facts.{WellFormed, SoundInstance}
use Rattle.search_rules.specs.Theorems.{TreeYards, Covers, barrens, allowance, Listing, Limited, Bounded, Decided, Right}
use Rattle.search_rules.proofs.Bounds.{bound-le, f-le, yard_bound-le}
use Rattle.search_rules.proofs.Queue.{word_key}
use Rattle.search_rules.proofs.Held.{ranked-length}
use Rattle.search_rules.proofs.Fronts.{front_length}
use Rattle.search_rules.proofs.Kept.{word_nothing, run-kept}
use Rattle.search_rules.proofs.Found.{fewer, run-listing, run-complete, run-measured}
use Rattle.search_rules.proofs.Ends.{enough, unsettled-taken, taken-within, settled-stays}
use Rattle.search_rules.proofs.Keys.{key_bound}
use Rattle.search_rules.proofs.Level.{run-within, run-bound-within}
use Rattle.search_rules.proofs.Fitting.{run_fits}
use Rattle.search_rules.proofs.Limits.{lower-most, upper-most, bound-most, weight-most, f-most, yard_bound-most, total-most}
use Rattle.search_rules.proofs.Trees.{Accepted, tree_covers}
use Rattle.search_rules.proofs.Wanted.{no_barrens, sound_yards, barrens-few}
use Rattle.search_rules.proofs.Steps.{queued_no, root_out}

-- the bounds of a true tree
pub bounded : (i : Instance) → SoundInstance i → Bounded i
bounded i sound = record {
  of_region = λ r y b. bound-le i sound.well.shape sound.metric sound.symmetric sound.truth b;
  of_element = f-le i;
  of_yard = yard_bound-le i sound.well.shape sound.metric sound.symmetric sound.truth;
  of_key = key_bound i sound;
}

-- no number that a search computes is above its limit
pub limited : (i : Instance) → WellFormed i → Limited i
limited i well = record {
  lowers = lower-most i well;
  uppers = upper-most i well;
  bounds = bound-most i well;
  weights = weight-most i well;
  fs = f-most i well;
  yard_bounds = yard_bound-most i well;
  totals = total-most i well;
}

-- any search, whatever the tree's numbers say
pub decided : (i : Instance) → WellFormed i → (limit : ℕ) → Decided i limit
decided i well limit = let was = run-kept i well limit in record {
  listing = run-listing i well limit;
  held = was.first-ranked;
  measured-once = was.once;
  measured_in = was.measured_in;
  measured-few = λ ys all. fewer (run i limit).state.measured ys was.once (λ y k. all y (was.measured_in y k));
  spent = unsettled-taken i limit;
  within = taken-within i limit;
  stays = settled-stays i limit;
  ends = λ ys all h. enough i well ys all limit (omega arith);
  queued-regions = λ r w. was.admitted r _ (word_key (run i limit).state.region_keys r _ refl w);
  queued-yards = λ y w. was.yards_in_lem y _ (word_key (run i limit).state.yard_keys y _ refl w);
  fits = run_fits i well limit;
}

-- a settled search on a true tree
pub right : (i : Instance) → SoundInstance i → (limit : ℕ) → T (settled i (run i limit).state) → Right i limit
right i sound limit t = record {
  complete = run-complete i sound limit t;
  key_within = run-within i sound limit;
  key_measured = run-measured i sound.well limit t;
  bound-within = run-bound-within i sound limit;
}

-- ---- the answer

module _ (i : Instance) (limit : ℕ) where
  pub answer-settled : (answer i limit).settled ≡ settled i (run i limit).state
  unfolding answer report
  answer-settled = refl

  pub answer-taken : (answer i limit).taken ≡ (run i limit).taken
  unfolding answer report
  answer-taken = refl

  pub answer-measured : (answer i limit).measured ≡ length (run i limit).state.measured
  unfolding answer report
  answer-measured = refl

  -- settled lists the held yards
  pub answer-listed : T (answer i limit).settled → (answer i limit).listed ≡ (run i limit).state.held
  unfolding answer report
  answer-listed t = choose_yes (settled i (run i limit).state) (run i limit).state.held [] t

  -- spent lists none, and has taken as many steps as the limit
  pub answer-spent : T (not (answer i limit).settled) → ((answer i limit).listed ≡ []) × ((answer i limit).taken ≡ limit)
  unfolding answer report
  answer-spent t = (choose_no (settled i (run i limit).state) (run i limit).state.held [] t, unsettled-taken i limit t)

-- two words for each yard listed
pub words-length : (es : List Entry) → length (words es) ≡ 2 * length es
unfolding words
words-length [] = refl
words-length (e ∷ es) = omega (arith, words-length es)

-- a settled search on a true tree lists what its rule asks for of the tree's wanted yards
pub answer-exact : (i : Instance) → SoundInstance i → (limit : ℕ) → T (answer i limit).settled → (ys : List ℕ) → TreeYards i ys
    → (answer i limit).listed ≡ front i.rule (ranked i ys)
unfolding answer report
answer-exact i sound limit t ys tree = answer-listed i limit t ∙ (run-complete i sound limit t).exact ys tree

-- whatever the limit and whatever the tree's numbers say, what is listed has true distances, distinct yards and yard order
pub answer-listing : (i : Instance) → WellFormed i → (limit : ℕ) → T (answer i limit).settled → Listing i (answer i limit).listed
answer-listing i well limit t = rw (answer-listed i limit t) (run-listing i well limit)

-- a limit of inner regions, leaves that are taken in vain, and twice the yards settles
pub answer-ends : (i : Instance) → WellFormed i → (limit : ℕ) → (ys : List ℕ) → Covers i ys → allowance i ys ≤ limit → T (answer i limit).settled
answer-ends i well limit ys all h = rw (answer-settled i limit) (enough i well ys all limit h)

-- no more are listed than there are wanted yards
pub listed-few : (i : Instance) → WellFormed i → (limit : ℕ) → T (answer i limit).settled → (ys : List ℕ) → Covers i ys
    → length (answer i limit).listed ≤ length ys
listed-few i well limit t ys all =
    let d = decided i well limit in
    omega (
      arith,
      ap length (answer-listed i limit t),
      ap length d.held,
      front_length i.rule (ranked i (run i limit).state.measured),
      ranked-length i (run i limit).state.measured,
      d.measured-few ys all,
    )

-- ---- of a tree whose book is accepted

module _ (i : Instance) (a : Accepted i.tree) (limit : ℕ) where
  -- the tree's wanted yards
  abbrev ys : List ℕ
  ys = keep_if i.wants (tree_yards i.tree)

  -- a limit of inner regions plus twice the yards settles
  allowance-two : T (not i.one_way) → allowance i ys ≡ inners i.tree + barrens i + 2 * length ys
  unfolding allowance
  allowance-two two = choose_no i.one_way (size i + length ys) (inners i.tree + barrens i + 2 * length ys) two

  allowance-one : T i.one_way → allowance i ys ≡ size i + length ys
  unfolding allowance
  allowance-one one = choose_yes i.one_way (size i + length ys) (inners i.tree + barrens i + 2 * length ys) one

  -- "regions plus yards is the limit promised to settle": on any tree, with the wanted yards alone
  pub one_way_ends : T i.one_way → WellFormed i → size i + length ys ≤ limit → T (answer i limit).settled
  one_way_ends one well h = answer-ends i well limit ys (tree_covers i a) (omega (arith, allowance-one one))

  pub accepted-ends : T (not i.one_way) → WellFormed i → inners i.tree + 2 * i.tree.yards ≤ limit → T (answer i limit).settled
  accepted-ends two well h = answer-ends i well limit ys (tree_covers i a) (omega (arith, allowance-two two, barrens-few i a, a.whole.yard-count))

  -- of a true tree plus twice the wanted yards
  pub sound_ends : T (not i.one_way) → SoundInstance i → inners i.tree + 2 * length ys ≤ limit → T (answer i limit).settled
  sound_ends two sound h = answer-ends i sound.well limit ys (tree_covers i a) (omega (arith, allowance-two two, no_barrens i sound))

  pub accepted-exact : SoundInstance i → T (answer i limit).settled → (answer i limit).listed ≡ front i.rule (ranked i ys)
  accepted-exact sound t = answer-exact i sound limit t ys (sound_yards i sound a)

  pub measured-few : WellFormed i → (answer i limit).measured ≤ length ys
  measured-few well = omega (arith, answer-measured i limit, (decided i well limit).measured-few ys (tree_covers i a))

  pub accepted-measured : WellFormed i → (answer i limit).measured ≤ i.tree.yards
  accepted-measured well = omega (arith, measured-few well, a.whole.yard-count, kept-length i.wants (tree_yards i.tree))

-- ---- of a root that may not enter the queue

module _ (i : Instance) (out : T (not (i.admits 0))) where
  -- nothing is queued
  none-least : least_key i (start_search i) ≡ unqueued
  unfolding start_search least_key
  none-least = rw (root_out i out, word_nothing (size i), word_nothing i.tree.junctions) refl

  none-settled : T (settled i (start_search i))
  unfolding settled
  none-settled = or_left (not (queued (least_key i (start_search i)))) _ (rw (none-least, queued_no) tt)

  -- the search is settled before its first step
  pub unrooted_run : (limit : ℕ) → run i limit ≡ record { state = start_search i; taken = 0 }
  unfolding run advance
  unrooted_run zero = refl
  unrooted_run (suc limit) = rw (unrooted_run limit) (choose_yes (settled i (start_search i)) _ _ none-settled)

  -- it lists nothing, with 0 taken and 0 measured
  pub unrooted_answer : (limit : ℕ) → answer i limit ≡ record { settled = true; listed = []; taken = 0; measured = 0 }
  unfolding answer report start_search
  unrooted_answer limit = rw (unrooted_run limit, T_true (settled i (start_search i)) none-settled) (λ j. record {
    settled = true;
    listed = choose_yes {A = List Entry} true [] [] tt j;
    taken = 0;
    measured = 0;
  })
