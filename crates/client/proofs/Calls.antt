-- Two searches in turn, from what each call's contract says. Assumes nothing.
use mathlib.Core.Path.{◌≡◌, sym, ap, ◌∙◌}
use mathlib.Core.List.Memᴰ.{head}
use mathlib.Core.List.Memᴰ.{not-nil}
use mathlib.Core.List.Memᴰ.{tail}
use mathlib.Core.List.{List, [], ◌∷◌, Memᴰ as Mem}
use Prim.Native.Nat.{ℕ}
use lib.ListN.{length}
use Rattle.book.specs.Bytes.{Bytes}
use Rattle.work_area.specs.Work.{work_after}
use Rattle.search_call.specs.Call.{Want, Call, Areas, Found, search_refusal, search_found, results_after, found_on, call_on}
use Rattle.search_call.specs.Demand.{OfBytes}
use Rattle.search_call.proofs.InTurn.{found_on_lem, left_on, after_two}
use Rattle.finder.proofs.Promises.{searches_true}
use Rattle.client.specs.Calls.{call_of, areas_of, InTurn}

-- what a call's contract says of its answer and of both areas
pub record Answered (c : Call) (a : Areas) (found : Found) (after : Areas) : Type 0 where
  pub found-is : found ≡ found_on c a
  pub left_is : after ≡ call_on c a
  pub bytes : Bytes c.tree

pub answered : (road tree query : List ℕ) (want : Want) (work results : List ℕ) (f : Found) (work' results' : List ℕ)
    → f ≡ search_found road tree query want (length work) (length results)
    → work' ≡ work_after (search_refusal road tree query want (length work) (length results)) work
    → results' ≡ results_after road tree query want (length work) results → Bytes tree
    → Answered (call_of road tree query want) (areas_of work results) f (areas_of work' results')
answered road tree query want work results f work' results' e g h b = record {
  found-is = e ∙ sym (found_on_lem (call_of road tree query want) (areas_of work results));
  left_is = (λ i. record { work = g i; results = h i }) ∙ sym (left_on (call_of road tree query want) (areas_of work results));
  bytes = b;
}

two_calls : (c d : Call) → Bytes c.tree → Bytes d.tree → OfBytes (c ∷ d ∷ [])
two_calls c d p q x (head e) = rw e p
two_calls c d p q x (tail (head e)) = rw e q
two_calls c d p q x (tail (tail k)) = absurd (not-nil k)

-- one call, and another on the areas that it left
pub in_turn_lem : (c d : Call) (a mid last : Areas) (first second : Found) → Answered c a first mid → Answered d mid second last
    → InTurn c d a first second last
in_turn_lem c d a mid last first second p q =
    let both = searches_true (c ∷ d ∷ []) (two_calls c d p.bytes q.bytes) a in
    let end = q.left_is ∙ (ap (call_on d) p.left_is ∙ sym (after_two c d a)) in
    record {
      one = p.found-is;
      other = q.found-is ∙ ap (found_on d) p.left_is;
      left = end;
      promised = both;
      written = ap (λ (x : Areas). x.results) end ∙ both.results;
    }

-- the first call's tree and the work area by other names
pub in_turn_as : (road part book query : List ℕ) (want : Want) (d : Call) (work later results : List ℕ) (first second : Found) (last : Areas)
    → part ≡ book → work ≡ later → InTurn (call_of road part query want) d (areas_of work results) first second last
    → InTurn (call_of road book query want) d (areas_of later results) first second last
in_turn_as road part book query want d work later results first second last same kept x = rw (← same, ← kept) x
