-- "Ties go to the fairer yard": yard order is total, and how it stands to the order that was before it. Assumes
-- nothing: these are statements.
use Rattle.std.specs.Prelude.{◌≡◌, ◌⊎◌, ◌≢◌, ◌↔◌, Bool, ◌&&◌, ◌||◌, ℕ, zero, suc, ◌<◌, take, ltb, leb, eqb}
use mathlib.Core.List.{List, [], ◌∷◌, map, Memᴰ as Mem}
use Rattle.book.specs.Choose.{choose}
use Rattle.book.specs.Lists.{Distinct}
use Rattle.road_layout.specs.Road.{junctions}
use Rattle.adjacency.specs.Arcs.{Arc, net}
use Rattle.road.specs.Facts.{Passing}
use Rattle.search_rules.specs.Rule.{Rule, nearest, in_drive}
use Rattle.search_rules.specs.Instance.{Instance}
use Rattle.search_rules.specs.Order.{Entry, YardBefore}
use Rattle.search_rules.specs.Held.{entry}
use Rattle.search_rules.specs.Step.{SearchState, step, settled, start_search}
use Rattle.search_rules.specs.Run.{Outcome, run}
use Rattle.search_rules.specs.Walks.{TrueEntry, FirstBy, DriveBy}

-- what yard order was before: "by aggregate, then junction number"
abbrev pub NumberBefore : Entry → Entry → Type 0
NumberBefore e g = (e.distance < g.distance) ⊎ ((e.distance ≡ g.distance) × (e.yard < g.yard))

-- one of two holds, and the other does not
abbrev pub ExactlyOne : Type 0 → Type 0 → Type 0
ExactlyOne A B = (A × (B → ⊥)) ⊎ (B × (A → ⊥))

-- the aggregates of some yards, place by place
abbrev pub aggregates : List Entry → List ℕ
aggregates list = map (λ (e : Entry). e.distance) list

-- ---- the order

pub record TotalOrder : Type 0 where
  -- "of two different yards exactly one comes first"
  pub one-first : (e g : Entry) → e.yard ≢ g.yard → ExactlyOne (YardBefore e g) (YardBefore g e)
  -- no yard comes before itself, and what comes before another comes before all that come after that one
  pub not_itself : (e : Entry) → YardBefore e e → ⊥
  pub onward : (e g h : Entry) → YardBefore e g → YardBefore g h → YardBefore e h

-- ---- the lists of before, in the order that was, beside the lists of now

-- of the first k of some yards, and of those within a drive; whatever the roads
pub record AsBefore (arcs : List Arc) (crews ys : List ℕ) : Type 0 where
  -- under the maximum (code 1) the order is what it was, of any two yards with their true numbers, and so are the lists
  pub maximum : (e g : Entry) → TrueEntry arcs 1 crews e → TrueEntry arcs 1 crews g
      → YardBefore e g ↔ NumberBefore e g
  pub maximum-first : (k : ℕ) (now before : List Entry) → FirstBy YardBefore arcs 1 k crews ys now
      → FirstBy NumberBefore arcs 1 k crews ys before → now ≡ before
  pub maximum-drive : (seconds : ℕ) (now before : List Entry) → DriveBy YardBefore arcs 1 seconds crews ys now
      → DriveBy NumberBefore arcs 1 seconds crews ys before → now ≡ before
  -- under the sum (code 0; under any) the lists of before and of now have the same aggregates, place by place
  pub first : (code k : ℕ) (now before : List Entry) → FirstBy YardBefore arcs code k crews ys now
      → FirstBy NumberBefore arcs code k crews ys before → aggregates now ≡ aggregates before
  pub drive : (code seconds : ℕ) (now before : List Entry) → DriveBy YardBefore arcs code seconds crews ys now
      → DriveBy NumberBefore arcs code seconds crews ys before → aggregates now ≡ aggregates before

-- there are such lists of before: of yards, each once, and crews at the junctions of a road book that passes
pub record WereListed (road : List ℕ) (code : ℕ) (crews ys : List ℕ) : Type 0 where
  pub first : (k : ℕ) → (before : List Entry) × FirstBy NumberBefore (net road) code k crews ys before
  pub drive : (seconds : ℕ) → (before : List Entry) × DriveBy NumberBefore (net road) code seconds crews ys before

-- ---- the steps, on any tree

-- the order that was, as a test
unfoldable pub number_first : Entry → Entry → Bool
number_first e g = ltb e.distance g.distance || (eqb e.distance g.distance && ltb e.yard g.yard)

-- e put before the first that it came before
unfoldable pub insert_before : Entry → List Entry → List Entry
insert_before e [] = e ∷ []
insert_before e (h ∷ hs) = choose (number_first e h) (e ∷ h ∷ hs) (h ∷ insert_before e hs)

-- what was held of some measured yards, the last one first: "the k least so far", or each within the seconds
unfoldable pub held_before : Rule → List Entry → List Entry
held_before rule [] = []
held_before (nearest k) (e ∷ es) = take k (insert_before e (held_before (nearest k) es))
held_before (in_drive seconds) (e ∷ es) =
    let held = held_before (in_drive seconds) es in
    choose (leb e.distance seconds) (insert_before e held) held

-- a state with what was held of its measured yards
unfoldable pub with_before : Instance → SearchState → SearchState
with_before i st = record {
  region_keys = st.region_keys;
  yard_keys = st.yard_keys;
  firsts = st.firsts;
  gone = st.gone;
  held = held_before i.rule (map (entry i) st.measured);
  measured = st.measured;
}

-- a search under a step limit, by the order that was: what is held after a step is what was held
unfoldable pub run_before : Instance → ℕ → Outcome
run_before i zero = record { state = start_search i; taken = 0 }
run_before i (suc limit) = let o = run_before i limit in choose (settled i o.state) o (record {
  state = with_before i (step i o.state);
  taken = suc o.taken;
})

-- On any tree, also one "that check would refuse by 9", a search takes the steps that it took, measures the yards that
-- it measured and settles when it did, and what it holds has the same aggregates, place by place.
pub record SameSteps : Type 0 where
  pub steps : (i : Instance) (limit : ℕ)
      → run_before i limit ≡ record { state = with_before i (run i limit).state; taken = (run i limit).taken }
  pub held : (i : Instance) (limit : ℕ)
      → aggregates (run i limit).state.held ≡ aggregates (run_before i limit).state.held
  -- whether it is settled
  pub settles : (i : Instance) (limit : ℕ)
      → settled i (run i limit).state ≡ settled i (run_before i limit).state

abbrev pub TiesFair : Type 0
TiesFair = TotalOrder × SameSteps × ((arcs : List Arc) (crews ys : List ℕ) → AsBefore arcs crews ys)
    × ((road : List ℕ) → Passing road → (code : ℕ) (crews ys : List ℕ)
    → ((q : ℕ) → Mem q crews → q < junctions road) → Distinct ys → ((y : ℕ) → Mem y ys → y < junctions road)
    → WereListed road code crews ys)
