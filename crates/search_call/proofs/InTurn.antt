-- What a call returns and leaves on two areas, as a contract says it; and two calls, one after the other. Assumes nothing.
use mathlib.Core.Path.{◌≡◌, refl}
use mathlib.Core.List.{[], ◌∷◌}
use lib.ListN.{length}
use Rattle.work_area.specs.Work.{work_after}
use Rattle.search_call.specs.Call.{Call, Areas, search_refusal, search_found, results_after, found_on, call_on, areas_after}

pub found_on_lem : (c : Call) (a : Areas) → found_on c a ≡ search_found c.road c.tree c.query c.want (length a.work) (length a.results)
unfolding found_on
found_on_lem c a = refl

pub left_on : (c : Call) (a : Areas) → call_on c a ≡ record {
  work = work_after (search_refusal c.road c.tree c.query c.want (length a.work) (length a.results)) a.work;
  results = results_after c.road c.tree c.query c.want (length a.work) a.results;
}
unfolding call_on
left_on c a = refl

pub after_two : (c d : Call) (a : Areas) → areas_after (c ∷ d ∷ []) a ≡ call_on d (call_on c a)
unfolding areas_after
after_two c d a = refl
