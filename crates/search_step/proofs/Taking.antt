-- A step of a search that is ready: which yard or region is taken, and the state that it leads to. Assumes nothing.
use mathlib.Core.Path.{◌≡◌, refl, sym, ap, ◌∙◌}
use mathlib.Core.List.{List, ◌∷◌}
use Prim.Native.Nat.{ℕ, ◌+◌, ◌-◌, ◌≤◌, ◌<◌}
use native.Mathlib.Omega.{arith}
use lib.ListN.{length, get_or, set}
use Rattle.road_layout.specs.Road.{junctions}
use Rattle.tree_layout.specs.Decode.{junction_count}
use Rattle.book.specs.Lists.{keep_if}
use Rattle.book.proofs.Lists.{kept-length}
use Rattle.tree.specs.Yards.{tree_yards}
use Rattle.tree.proofs.Fielding.{laid-few}
use Rattle.search_rules.specs.Rule.{Rule, Asking}
use Rattle.search_rules.specs.Order.{Entry}
use Rattle.search_rules.specs.Instance.{Instance}
use Rattle.search_rules.specs.Books.{search_of}
use Rattle.search_rules.specs.Queue.{unqueued, word_at}
use Rattle.search_rules.specs.Held.{entry}
use Rattle.search_rules.specs.Keeping.{keep_by}
use Rattle.search_rules.specs.Step.{SearchState, next_region, next_yard, least_key, take_region, take_yard, step}
use Rattle.search_rules.specs.Facts.{WellFormed}
use Rattle.search_rules.specs.Theorems.{Sorted}
use Rattle.search_rules.proofs.Found.{run-listing}
use Rattle.search_rules.proofs.Books.{accepted_of}
use Rattle.search_rules.proofs.Equations.{search_of_lem}
use Rattle.search_rules.proofs.Steps.{least_key_is, step-yard, step_region, take-yard-is}
use Rattle.search_rules.proofs.Taking.{unsettled_key, measured-room}
use Rattle.search_rules.proofs.Trees.{Accepted, tree_covers}
use Rattle.search_state.specs.code.State.{word_count, region_keys_in, yard_keys_in, firsts_in, picks_in, fs_in, bounds_in, gone_in, newest, state_of, Unsettled}
use Rattle.search_state.proofs.Cells.{Parts, parts_of_lem, store_yard, state_by}
use Rattle.search_state.proofs.Choosing.{picked-inside, picked-word, picked_region, picked-most, picked-yard, picked_less, region_low}
use Rattle.search_state.proofs.Newest.{newest-length}
use Rattle.search_measure.specs.code.Cases.{Measurable, IsMeasurable}
use Rattle.search_yard.specs.code.Entries.{entry_on}
use Rattle.search_yard.proofs.Numbered.{entry_of_lem, same-entry}
use Rattle.search_leaf.specs.code.Ready.{Ready, Readied, Cached}
use Rattle.search_leaf.proofs.Landmarks.{well}
use Rattle.search_step.specs.code.Regions.{RegionQueued, Going, FirstLeast}
use Rattle.search_step.specs.code.Prepared.{IsPrepared}
use Rattle.search_step.proofs.Opening.{cached_by, regions_of_lem, junctions_are}

-- ---- the numbers

module _ {road tree : List ℕ} {a : Asking} {crews drives places table : List ℕ} (ready : Ready road tree a crews drives places table) where
  pub some_region : 0 < length places
  some_region = omega (arith, ready.laid.layout.regions.0, ready.laid.count)

  pub some-junction : 0 < junction_count tree
  some-junction = ready.laid.layout.junctions.0

  same-junctions : junction_count tree ≡ junctions road
  same-junctions = sym ready.passed.counts

-- the number that is picked, in the array and as a number of 16 bits
pub record Picked (tree places words : List ℕ) (p : ℕ) : Type 0 where
  pub inside : p < length words
  pub below : p < length places + junction_count tree
  pub small : p < 1535

module _ {adj tree : List ℕ} {a : Asking} {crews drives places table : List ℕ} (prepared : IsPrepared adj tree a crews drives places table) where
  abbrev rd : Ready prepared.road tree a crews drives places table
  rd = prepared.ready

  -- without the adjacency
  pub readied : Readied tree a crews drives places table
  readied = record { road = prepared.road; ready = rd }

  pub picked : {words : List ℕ} {p : ℕ} → length words ≡ word_count (length places) (junction_count tree)
      → FirstLeast (length places) (junction_count tree) words p
      → Picked tree places words p
  picked {words} {p} s e = record {
    inside = omega (arith, below);
    below = below;
    small = omega (arith, below, laid-few tree places rd.laid, rd.laid.layout.junctions.1);
  }
    where
      below : p < length places + junction_count tree
      below = picked-inside (length places) (junction_count tree) words s (some_region rd) (some-junction rd) p e

  -- a yard can be measured
  pub measurable_in : (y : ℕ) → y < junction_count tree → Measurable prepared.road adj crews drives y
  measurable_in y h = record {
    driven = record { roads = rd.passed.roads; few = rd.passed.few; there = rd.passed.there; rows = rd.driven };
    adjacent = prepared.adjacent;
    junction = omega (arith, same-junctions rd);
  }

  pub yard-measurable : (y : ℕ) → y < junction_count tree → IsMeasurable adj crews drives y
  yard-measurable y h = record { road = prepared.road; measurable = measurable_in y h }

  -- what is held by its numbers is the same beside every road book that the search is ready beside
  pub held_same : (road : List ℕ) → Ready road tree a crews drives places table → (rule : Rule) (y : ℕ) (l r : List Entry) → y < junction_count tree
      → r ≡ keep_by rule (entry_on prepared.road a.code crews y) l → r ≡ keep_by rule (entry_on road a.code crews y) l
  held_same road r rule y l x h e =
      e ∙ ap (λ (z : Entry). keep_by rule z l) (same-entry prepared.road road crews drives a.code y rd.driven r.driven (omega (arith, rd.laid.layout.junctions.1)))

-- ---- what the step does

module _ {road tree : List ℕ} {a : Asking} {crews drives places table : List ℕ} (ready : Ready road tree a crews drives places table)
    (words values : List ℕ) (held : List Entry) (measured : List ℕ) (count : ℕ) where
  abbrev i : Instance
  i = search_of road tree a crews

  abbrev r : ℕ
  r = length places

  abbrev n : ℕ
  n = junction_count tree

  abbrev st : SearchState
  st = state_of r n words held measured count

  module _ (s : length words ≡ word_count r n) (g : Going i r n words values st) (p : ℕ) (e : FirstLeast r n words p) where
    abbrev u : Unsettled i st
    u = g.unsettled

    formed : WellFormed i
    formed = well road tree a crews drives places table ready

    word : get_or words p 0 ≡ least_key i st
    word = picked-word r n words s (some_region ready) (some-junction ready) i (regions_of_lem ready) (junctions_are ready) held measured count p e

    -- ---- a region

    module _ (h : p < r) where
      next_region_lem : p ≡ next_region i st
      next_region_lem = picked_region r n words s (some_region ready) (some-junction ready) i (regions_of_lem ready) (junctions_are ready) held measured count p e h

      most : word_at st.region_keys (next_region i st) ≤ word_at st.yard_keys (next_yard i st)
      most = picked-most r n words s (some_region ready) (some-junction ready) i (regions_of_lem ready) (junctions_are ready) held measured count p e h

      key : get_or words p 0 ≡ word_at st.region_keys p
      key = word ∙ (least_key_is i st ∙ (omega (arith, most) ∙ ap (word_at st.region_keys) (sym next_region_lem)))

      low : get_or words p 0 < unqueued
      low = omega (arith, unsettled_key i st u.unsettled, word)

      pub region_queued : RegionQueued i r n words values p
      region_queued = record {
        count = s;
        value-count = g.value-count;
        cached = g.cached;
        inside = omega (arith, regions_of_lem ready);
      }

      pub region_is-taken : (words' : List ℕ)
          → ((x : List Entry) (m : List ℕ) (c : ℕ) → state_of r n words' x m c ≡ take_region i (state_of r n words x m c) p (get_or words p 0))
          → state_of r n words' held measured count ≡ step i st
      region_is-taken words' t = t held measured count ∙ sym (step_region i st p (next_yard i st) (get_or words p 0) (word_at st.yard_keys (next_yard i st))
          next_region_lem refl key refl (omega (arith, most, key, ap (word_at st.region_keys) next_region_lem)) low)

    -- ---- a yard

    module _ (h : r ≤ p) (top : (j : ℕ) → get_or words j 0 ≤ unqueued) where
      y : ℕ
      y = p - r

      next-yard : y ≡ next_yard i st
      unfolding y
      next-yard = picked-yard r n words s (some_region ready) (some-junction ready) i (regions_of_lem ready) (junctions_are ready) held measured count p e h

      yard-step : step i st ≡ take_yard i st y
      yard-step = step-yard i st (next_region i st) y (word_at st.region_keys (next_region i st)) (word_at st.yard_keys y) refl next-yard refl refl
          (omega (arith, less, ap (word_at st.yard_keys) next-yard))
          (region_low r n words s (some_region ready) (some-junction ready) i (regions_of_lem ready) (junctions_are ready) held measured count top)
        where
          less : word_at st.yard_keys (next_yard i st) < word_at st.region_keys (next_region i st)
          less = picked_less r n words s (some_region ready) (some-junction ready) i (regions_of_lem ready) (junctions_are ready) held measured count p e h

      -- what is held is in yard order
      pub yard-sorted : Sorted held
      yard-sorted = rw (ap (λ (x : SearchState). x.held) (state_by (parts_of_lem r n words) held measured count)) at (rw (← u.is) at (run-listing i formed u.steps).sorted)

      -- there is room for one more measured yard
      pub yard-room : count < 256
      yard-room =
          let m : length st.measured ≡ count = ap (λ (x : SearchState). length x.measured)
          (state_by (parts_of_lem r n words) held measured count) ∙ newest-length measured count in
          omega (
            arith,
            measured-room i formed st u.steps u.is u.unsettled y yard-step (keep_if i.wants (tree_yards i.tree))
                (tree_covers i accepted),
            kept-length i.wants (tree_yards i.tree),
            accepted.whole.yard-count,
            accepted.few-yards,
          )
        where
          accepted : Accepted i.tree
          accepted = accepted_of road tree a crews ready.passed

      yard-parts : Parts r n (set words p unqueued) (region_keys_in r n words) (set (yard_keys_in r n words) y unqueued)
          (firsts_in r n words) (picks_in r n words) (gone_in r n words)
      unfolding y
      yard-parts = store_yard (parts_of_lem r n words) p unqueued (p - r) (omega arith)
          (omega (arith, picked-inside r n words s (some_region ready) (some-junction ready) p e))

      pub yard-cached : Cached i (picks_in r n (set words p unqueued)) (fs_in n values) (bounds_in n values)
      yard-cached = cached_by yard-parts g.cached

      pub yard-is-taken : (measured' : List ℕ) (held' : List Entry) (count' : ℕ) → count' ≡ count + 1
          → newest measured' (count + 1) ≡ (p - r) ∷ newest measured count
          → held' ≡ keep_by a.rule (entry_on road a.code crews (p - r)) held
          → state_of r n (set words p unqueued) held' measured' count' ≡ step i st
      unfolding y
      yard-is-taken measured' held' count' c q t =
          state_by yard-parts held' measured' count'
          ∙ (rw (c, q, holds) refl
          ∙ sym (yard-step ∙ (ap (λ (x : SearchState). take_yard i x y) (state_by (parts_of_lem r n words) held measured count) ∙ take-yard-is i _ y)))
        where
          holds : held' ≡ keep_by i.rule (entry i y) held
          holds =
              t ∙ (ap (λ (x : Entry). keep_by a.rule x held) (entry_of_lem road tree a crews y)
              ∙ ap (λ (k : Rule). keep_by k (entry i y) held) (sym (ap (λ (z : Instance). z.rule) (search_of_lem road tree a crews))))
