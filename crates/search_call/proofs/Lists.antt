-- A list of calls on the same two areas. Assumes nothing.
use mathlib.Core.Path.{◌≡◌, refl, ap, ◌∙◌}
use mathlib.Core.Logic.{◌⊎◌, inl, inr}
use mathlib.Core.Bool.{not}
use mathlib.Core.List.Memᴰ.{head}
use mathlib.Core.List.Memᴰ.{not-nil}
use mathlib.Core.List.Memᴰ.{tail}
use mathlib.Core.List.{List, [], ◌∷◌, Memᴰ as Mem}
use mathlib.Core.List.Memᴰ.{cases_cons}
use lib.ListN.{length}
use lib.Dec.{T, eqb, eqb→eq}
use Rattle.book.specs.Choose.{choose}
use Rattle.book.proofs.Choosing.{choose_yes, choose_no, T-split}
use Rattle.book.proofs.Lists.{neqb→ne}
use Rattle.work_area.proofs.Zeroing.{after-length}
use Rattle.search_rules.specs.Order.{Entry}
use Rattle.search_call.specs.Call.{Call, Areas, Search, found_on, call_on, searches, areas_after}
use Rattle.search_call.specs.Demand.{list, settled_lists, overwritten, WorkUnread}
use Rattle.search_call.proofs.Calls.{results-written, results-kept}

-- a search of the list is one of its calls
pub call_of_lem : (calls : List Call) (a : Areas) (s : Search) → Mem s (searches calls a) → Mem s.call calls
unfolding searches
call_of_lem [] a s k = absurd (not-nil k)
call_of_lem (c ∷ cs) a s k = go (cases_cons k) (λ j. call_of_lem cs (call_on c a) s j)
  where
    go : (s ≡ record { call = c; areas = a }) ⊎ Mem s (searches cs (call_on c a)) → (Mem s (searches cs (call_on c a)) → Mem s.call cs)
        → Mem s.call (c ∷ cs)
    go (inl e) rest = head (ap (λ (x : Search). x.call) e)
    go (inr j) rest = tail (rest j)

-- all settled lists are written over the result area's start in turn
pub written_in_turn : (calls : List Call) (a : Areas) → (areas_after calls a).results ≡ overwritten (settled_lists (searches calls a)) a.results
unfolding searches areas_after settled_lists overwritten
written_in_turn [] a = refl
written_in_turn (c ∷ cs) a = written_in_turn cs (call_on c a) ∙ go (T-split (eqb (found_on c a).settled 1))
  where
    rest : List (List Entry)
    rest = settled_lists (searches cs (call_on c a))

    both : List (List Entry)
    both = choose (eqb (found_on c a).settled 1) (list (record { call = c; areas = a }) ∷ rest) rest

    go : T (eqb (found_on c a).settled 1) ⊎ T (not (eqb (found_on c a).settled 1)) → overwritten rest (call_on c a).results ≡ overwritten both a.results
    go (inl t) = rw (choose_yes (eqb (found_on c a).settled 1) (list (record {
      call = c;
      areas = a;
    }) ∷ rest) rest t) (ap (overwritten rest) (results-written c a (eqb→eq (found_on c a).settled 1 t)))
    go (inr t) = rw (choose_no (eqb (found_on c a).settled 1) (list (record {
      call = c;
      areas = a;
    }) ∷ rest) rest t) (ap (overwritten rest) (results-kept c a (neqb→ne (found_on c a).settled 1 t)))

-- ---- the work area's contents never matter

module _ (c : Call) (a b : Areas) (w : length a.work ≡ length b.work) (r : a.results ≡ b.results) where
  same-found : found_on c a ≡ found_on c b
  unfolding found_on
  same-found = rw (w, r) refl

  same-results : (call_on c a).results ≡ (call_on c b).results
  unfolding call_on
  same-results = rw (w, r) refl

  same-work : length (call_on c a).work ≡ length (call_on c b).work
  unfolding call_on
  same-work = after-length _ a.work b.work w ∙ rw (w, r) refl

pub work_unread : WorkUnread
unfolding searches areas_after
work_unread [] a b w r = (refl, r)
work_unread (c ∷ cs) a b w r =
    let (p, q) = work_unread cs (call_on c a) (call_on c b) (same-work c a b w r) (same-results c a b w r) in
    (cc (same-found c a b w r, p), q)
