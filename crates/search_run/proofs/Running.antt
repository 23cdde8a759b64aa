-- A search's steps, and where it stops. Assumes nothing.
use mathlib.Core.Path.{◌≡◌, refl, sym, ap, ◌∙◌}
use mathlib.Core.Bool.{Bool, true, false}
use mathlib.Core.List.{List}
use Prim.Native.Nat.{ℕ, suc, ◌+◌, ◌-◌, ◌≤◌, ◌<◌}
use native.Mathlib.Numerals.{add-one}
use native.Mathlib.Omega.{arith}
use lib.ListN.{length, get_or, take}
use lib.Seq.{length-take-le}
use lib.Dec.{T}
use Rattle.book.proofs.Choosing.{true_T, false_T}
use Rattle.tree_layout.specs.Decode.{junction_count}
use Rattle.search_rules.specs.Rule.{Rule, Asking}
use Rattle.search_rules.specs.Instance.{Instance}
use Rattle.search_rules.specs.Books.{search_of}
use Rattle.search_rules.specs.Queue.{pick}
use Rattle.search_rules.specs.Step.{SearchState, least_key, step, settled}
use Rattle.search_rules.specs.Run.{Outcome as Ended, run, answer}
use Rattle.search_rules.specs.Theorems.{Allowed}
use Rattle.search_rules.proofs.Equations.{search_of_lem}
use Rattle.search_rules.proofs.Theorems.{decided}
use Rattle.search_rules.proofs.Turns.{run_on}
use Rattle.search_state.specs.code.State.{word_count, value_count, picks_in, fs_in, bounds_in, state_of, settled_by}
use Rattle.search_state.proofs.Cells.{part-all, state_by, parts_of_lem}
use Rattle.search_state.proofs.Choosing.{picked-word}
use Rattle.search_state.proofs.Settling.{settled_of}
use Rattle.search_leaf.specs.code.Ready.{Ready, Cached}
use Rattle.search_leaf.proofs.Landmarks.{well}
use Rattle.search_yard.specs.declared.Progress.{Progress}
use Rattle.search_step.specs.code.Regions.{Going, FirstLeast}
use Rattle.search_step.proofs.Opening.{regions_of_lem, junctions_are}
use Rattle.search_step.proofs.Taking.{some_region, some-junction}
use Rattle.search_run.specs.code.Answers.{answer_of}
use Rattle.search_run.proofs.Answering.{answer-is}

-- the state of a search after so many steps, none of which was taken when it was settled, with what is kept of the leaves
pub record Runs (i : Instance) (r n : ℕ) (words values : List ℕ) (st : SearchState) (taken : ℕ) : Type 0 where
  pub cached : Cached i (picks_in r n words) (fs_in n values) (bounds_in n values)
  pub is : st ≡ (run i taken).state
  pub counts : taken ≡ (run i taken).taken

-- what the steps change: of the search by every road book beside which it is ready, and within the limit
pub record Steps (tree : List ℕ) (a : Asking) (crews drives places table : List ℕ) (limit : ℕ) (words values : List ℕ) (progress : Progress)
    (taken : ℕ) : Type 0 where
  pub size : length words ≡ word_count (length places) (junction_count tree)
  pub value-size : length values ≡ value_count
  pub runs : (road : List ℕ) → Ready road tree a crews drives places table
      → Runs (search_of road tree a crews) (length places) (junction_count tree) words values
      (state_of (length places) (junction_count tree) words progress.kept progress.yards progress.measured) taken
  pub within : taken ≤ limit

-- of the yards measured so far no more are kept than the rule lets
pub kept-allowed : {tree : List ℕ} {a : Asking} {crews drives places table : List ℕ} {limit : ℕ} {words values : List ℕ} {progress : Progress} {taken : ℕ}
    → Steps tree a crews drives places table limit words values progress taken
    → (road : List ℕ) → Ready road tree a crews drives places table → Allowed a.rule progress.kept
kept-allowed {tree} {a} {crews} {drives} {places} {table} {limit} {words} {values} {progress} {taken} steps road ready =
    let i : Instance = search_of road tree a crews in
    let rule : i.rule ≡ a.rule = ap (λ (z : Instance). z.rule) (search_of_lem road tree a crews) in
    let held : progress.kept ≡ (run i taken).state.held = ap (λ (s : SearchState). s.held)
    (sym (state_by (parts_of_lem (length places) (junction_count tree) words) progress.kept progress.yards progress.measured) ∙ (steps.runs road ready).is) in
    rw (← rule, held) (decided i (well road tree a crews drives places table ready) taken).listing.allowed

-- the queue's words are the first ones
pub queue-part : (r n queue : ℕ) (ws : List ℕ) → queue ≡ r + n → length ws ≡ word_count r n → queue ≡ length (take queue ws)
queue-part r n queue ws e s = sym (length-take-le queue ws (omega arith))

pub least_of_lem : (r n : ℕ) (ws : List ℕ) (queue p : ℕ) → queue ≡ r + n → length ws ≡ word_count r n
    → p ≡ pick (take queue ws) (length (take queue ws)) → FirstLeast r n ws p
least_of_lem r n ws queue p e s h = h ∙ (ap (pick (take queue ws)) (length-take-le queue ws (omega arith) ∙ e) ∙ rw (e, part-all ws (r + n)) refl)

module _ {tree : List ℕ} {a : Asking} {crews drives places table : List ℕ} {limit : ℕ} {words values : List ℕ} {progress : Progress} {taken : ℕ}
    (steps : Steps tree a crews drives places table limit words values progress taken)
    (p : ℕ) (e : FirstLeast (length places) (junction_count tree) words p) (b : Bool) (q : b ≡ settled_by a.rule (get_or words p 0) progress.kept) where
  abbrev r : ℕ
  r = length places

  abbrev n : ℕ
  n = junction_count tree

  abbrev st : SearchState
  st = state_of r n words progress.kept progress.yards progress.measured

  module _ (road : List ℕ) (ready : Ready road tree a crews drives places table) where
    abbrev i : Instance
    i = search_of road tree a crews

    abbrev s : Runs i r n words values st taken
    s = steps.runs road ready

    -- what the test says
    settled_is : b ≡ settled i st
    settled_is =
        q ∙ (ap (λ (w : ℕ). settled_by a.rule w progress.kept)
        (picked-word r n words steps.size (some_region ready) (some-junction ready) i (regions_of_lem ready) (junctions_are ready)
        progress.kept progress.yards progress.measured p e)
        ∙ (ap (λ (k : Rule). settled_by k (least_key i st) progress.kept) (sym (ap (λ (z : Instance). z.rule) (search_of_lem road tree a crews)))
        ∙ settled_of i r n words progress.kept progress.yards progress.measured))

    -- one step more is taken
    pub going : b ≡ false → Going i r n words values st
    going z = record { value-count = steps.value-size; cached = s.cached; unsettled = record { steps = taken; is = s.is; unsettled = false_T (sym settled_is ∙ z) } }

    goes_on : b ≡ false → (words' values' : List ℕ) (progress' : Progress) → Cached i (picks_in r n words') (fs_in n values') (bounds_in n values')
        → state_of r n words' progress'.kept progress'.yards progress'.measured ≡ step i st
        → Runs i r n words' values' (state_of r n words' progress'.kept progress'.yards progress'.measured) (taken + 1)
    goes_on z words' values' progress' c t =
        let o = run_on i taken (rw s.is at (going z).unsettled.unsettled) in
        rw add-one (record {
          cached = c;
          is = t ∙ (ap (step i) s.is ∙ sym (ap (λ (x : Ended). x.state) o));
          counts = ap suc s.counts ∙ sym (ap (λ (x : Ended). x.taken) o);
        })

    -- it is settled before the limit
    pub ends-settled : b ≡ true
        → answer_of (record { progress = progress; taken = taken; settled = true }) ≡ answer i limit
    ends-settled z =
        let t : T (settled i (run i taken).state) = rw s.is at (true_T (sym settled_is ∙ z)) in
        let l : taken + (limit - taken) ≡ limit = omega (arith, steps.within) in
        let o : run i limit ≡ run i taken = rw l at ((decided i (well road tree a crews drives places table ready) taken).stays t (limit - taken)) in
        answer-is i limit r n words (record { progress = progress; taken = taken; settled = true })
        (s.is ∙ sym (ap (λ (x : Ended). x.state) o))
        (s.counts ∙ sym (ap (λ (x : Ended). x.taken) o))
        (rw (o, ← s.is) (sym z ∙ settled_is))

    -- the limit's number of steps was taken
    pub ends-limit : b ≡ false → taken ≡ limit
        → answer_of (record { progress = progress; taken = taken; settled = false }) ≡ answer i limit
    ends-limit z l = rw (← l) (answer-is i taken r n words
        (record { progress = progress; taken = taken; settled = false })
        s.is s.counts (rw (← s.is) (sym z ∙ settled_is)))

  pub steps_on : b ≡ false → taken < limit → (words' values' : List ℕ) (progress' : Progress) → length words' ≡ length words
      → length values' ≡ length values
      → ((road : List ℕ) → Ready road tree a crews drives places table
      → Cached (search_of road tree a crews) (picks_in r n words') (fs_in n values') (bounds_in n values'))
      → ((road : List ℕ) → Ready road tree a crews drives places table
      → state_of r n words' progress'.kept progress'.yards progress'.measured ≡ step (search_of road tree a crews) st)
      → Steps tree a crews drives places table limit words' values' progress' (taken + 1)
  steps_on z l words' values' progress' sw sv c t = record {
    size = sw ∙ steps.size;
    value-size = sv ∙ steps.value-size;
    runs = λ road ready. goes_on road ready z words' values' progress' (c road ready) (t road ready);
    within = omega arith;
  }
