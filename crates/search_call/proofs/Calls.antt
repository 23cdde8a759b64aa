-- One search call: what its tests give, what it returns, and what it leaves in the areas. Assumes nothing.
use mathlib.Core.Path.{◌≡◌, refl, sym, ap, ◌∙◌}
use mathlib.Core.Logic.{◌⊎◌, inl, inr}
use mathlib.Core.Bool.{Bool, not}
use mathlib.Core.List.{List}
use Prim.Native.Nat.{ℕ}
use native.Mathlib.Omega.{arith}
use lib.ListN.{length}
use lib.Dec.{T, eqb, eqb→eq}
use Rattle.book.specs.Choose.{choose}
use Rattle.book.proofs.Choosing.{choose_yes, choose_no, choose_case, T-split}
use Rattle.book.proofs.Lists.{eq→eqb, ne→neqb, neqb→ne, choose_positive}
use Rattle.work_area.specs.Work.{work_words, zeroed}
use Rattle.work_area.proofs.Zeroing.{accepted-zeroed, refused-kept}
use Rattle.road_layout.specs.Road.{junctions}
use Rattle.road.proofs.Theorems.{passing}
use Rattle.query.specs.Query.{QueryLayout}
use Rattle.query.proofs.CrewList.{crews-length, crews-below}
use Rattle.query.proofs.Reading.{passing as query-passing}
use Rattle.search_rules.specs.Run.{Answer, words}
use Rattle.search_call.specs.code.Accepted.{AcceptedSearch}
use Rattle.search_call.specs.Call.{Want, most_yards, search_refusal, search_answer, Found, refused, accepted, search_found, over_start}
use Rattle.search_call.specs.Call.{results_after, Call, Areas, found_on, call_on}
use Rattle.search_call.proofs.Refusing.{tree-passed, areas-passed, none-refused}

-- ---- the tests

module _ (road tree query : List ℕ) (want : Want) (work results : ℕ) where
  pub tests : search_refusal road tree query want work results ≡ 0 → AcceptedSearch road tree query want work results
  tests e =
      let (a, b, c, k, f) = none-refused road tree query want work results e in
      let (shaped, same) = tree-passed tree (junctions road) b in
      let (full, long) = areas-passed (most_yards tree query want) work results f in
      let q : QueryLayout query (junctions road) = query-passing query (junctions road) c in
      record {
        roads = a;
        shape = shaped;
        counts = same;
        asked = q;
        books = λ bytes. record {
          roads = passing road a;
          bytes = bytes;
          shaped = shaped;
          counts = sym same;
          few = omega (arith, crews-length query, q.few-crews);
          there = crews-below query (junctions road) q.placed;
        };
        some-kind = k;
        work-full = full;
        results-full = long;
      }

  -- ---- what is returned

  abbrev why : ℕ
  why = search_refusal road tree query want work results

  abbrev said : Answer
  said = search_answer road tree query want

  pub found-accepted : why ≡ 0 → search_found road tree query want work results ≡ accepted said
  unfolding search_found
  found-accepted e = choose_yes (eqb why 0) (accepted said) (refused why) (eq→eqb why 0 e)

  pub found-refused : (why ≡ 0 → ⊥) → search_found road tree query want work results ≡ refused why
  unfolding search_found
  found-refused h = choose_no (eqb why 0) (accepted said) (refused why) (ne→neqb why 0 h)

  -- the returned number is the first test's
  pub found_number : (search_found road tree query want work results).refusal ≡ why
  unfolding search_found accepted refused
  found_number = choose_case (λ (x : Found). x.refusal ≡ why) (eqb why 0) (λ t. sym (eqb→eq why 0 t)) (λ t. refl)

-- the result area after a call with so many work words
module _ (road tree query : List ℕ) (want : Want) (work : ℕ) (results : List ℕ) where
  abbrev refusal : ℕ
  refusal = search_refusal road tree query want work (length results)

  abbrev answered : Answer
  answered = search_answer road tree query want

  pub settled-writes : refusal ≡ 0 → T answered.settled → results_after road tree query want work results ≡ over_start (words answered.listed) results
  unfolding results_after
  settled-writes e t = choose_yes (eqb refusal 0) _ results (eq→eqb refusal 0 e) ∙ choose_yes answered.settled _ results t

  pub spent_keeps : refusal ≡ 0 → T (not answered.settled) → results_after road tree query want work results ≡ results
  unfolding results_after
  spent_keeps e t = choose_yes (eqb refusal 0) _ results (eq→eqb refusal 0 e) ∙ choose_no answered.settled _ results t

  pub refused_keeps : (refusal ≡ 0 → ⊥) → results_after road tree query want work results ≡ results
  unfolding results_after
  refused_keeps h = choose_no (eqb refusal 0) _ results (ne→neqb refusal 0 h)

-- both returns, field by field
pub accepted-is : (a : Answer) → accepted a ≡ record {
  refusal = 0;
  settled = choose a.settled 1 0;
  listed = length a.listed;
  taken = a.taken;
  measured = a.measured;
}
unfolding accepted
accepted-is a = refl

pub refused-is : (n : ℕ) → refused n ≡ record { refusal = n; settled = 0; listed = 0; taken = 0; measured = 0 }
unfolding refused
refused-is n = refl

settled-one : (b : Bool) → ◌≡◌ {A = ℕ} (choose b 1 0) 1 → T b
settled-one b e = (choose_positive b 1 (omega arith)).0

pub same-areas : {v w r s : List ℕ} → v ≡ w → r ≡ s → ◌≡◌ {A = Areas} (record { work = v; results = r }) (record { work = w; results = s })
same-areas e f = rw (e, f) refl

-- ---- of a call on two areas

module _ (c : Call) (a : Areas) where
  abbrev number : ℕ
  number = search_refusal c.road c.tree c.query c.want (length a.work) (length a.results)

  abbrev reply : Answer
  reply = search_answer c.road c.tree c.query c.want

  pub on_number : (found_on c a).refusal ≡ number
  unfolding found_on
  on_number = found_number c.road c.tree c.query c.want (length a.work) (length a.results)

  pub on_accepted : (found_on c a).refusal ≡ 0 → found_on c a ≡ accepted reply
  unfolding found_on
  on_accepted e = found-accepted c.road c.tree c.query c.want (length a.work) (length a.results) (sym on_number ∙ e)

  pub on_refused : ((found_on c a).refusal ≡ 0 → ⊥) → found_on c a ≡ refused (found_on c a).refusal
  unfolding found_on
  on_refused h = found-refused c.road c.tree c.query c.want (length a.work) (length a.results) (λ e. h (on_number ∙ e)) ∙ ap refused (sym on_number)

  -- what is settled is not refused
  pub on_settled : (found_on c a).settled ≡ 1 → ((found_on c a).refusal ≡ 0) × T reply.settled
  unfolding accepted refused
  on_settled e = go (T-split (eqb (found_on c a).refusal 0))
    where
      go : T (eqb (found_on c a).refusal 0) ⊎ T (not (eqb (found_on c a).refusal 0)) → ((found_on c a).refusal ≡ 0) × T reply.settled
      go (inl t) =
          let z = eqb→eq (found_on c a).refusal 0 t in
          (z, settled-one reply.settled (ap (λ (f : Found). f.settled) (sym (on_accepted z)) ∙ e))
      go (inr t) =
          let z : (found_on c a).settled ≡ 0 = ap (λ (f : Found). f.settled) (on_refused (neqb→ne (found_on c a).refusal 0 t)) in
          absurd (omega arith)

  pub settled_on : (found_on c a).refusal ≡ 0 → T reply.settled → (found_on c a).settled ≡ 1
  unfolding accepted
  settled_on e t = ap (λ (f : Found). f.settled) (on_accepted e) ∙ choose_yes reply.settled 1 0 t

  pub spent_on : (found_on c a).refusal ≡ 0 → T (not reply.settled) → (found_on c a).settled ≡ 0
  unfolding accepted
  spent_on e t = ap (λ (f : Found). f.settled) (on_accepted e) ∙ choose_no reply.settled 1 0 t

  pub on_listed : (found_on c a).refusal ≡ 0 → (found_on c a).listed ≡ length reply.listed
  unfolding accepted
  on_listed e = ap (λ (x : Found). x.listed) (on_accepted e)

  pub on_taken : (found_on c a).refusal ≡ 0 → (found_on c a).taken ≡ reply.taken
  unfolding accepted
  on_taken e = ap (λ (x : Found). x.taken) (on_accepted e)

  pub on_measured : (found_on c a).refusal ≡ 0 → (found_on c a).measured ≡ reply.measured
  unfolding accepted
  on_measured e = ap (λ (x : Found). x.measured) (on_accepted e)

  pub on_tests : (found_on c a).refusal ≡ 0 → AcceptedSearch c.road c.tree c.query c.want (length a.work) (length a.results)
  on_tests e = tests c.road c.tree c.query c.want (length a.work) (length a.results) (sym on_number ∙ e)

  -- ---- the areas

  pub work-zeroed : (found_on c a).refusal ≡ 0 → (call_on c a).work ≡ zeroed work_words a.work
  unfolding call_on
  work-zeroed e = accepted-zeroed number a.work (sym on_number ∙ e)

  pub work-kept : ((found_on c a).refusal ≡ 0 → ⊥) → (call_on c a).work ≡ a.work
  unfolding call_on
  work-kept h = refused-kept number a.work (λ e. h (on_number ∙ e))

  pub results-written : (found_on c a).settled ≡ 1 → (call_on c a).results ≡ over_start (words reply.listed) a.results
  unfolding call_on
  results-written e =
      let (z, t) = on_settled e in
      settled-writes c.road c.tree c.query c.want (length a.work) a.results (sym on_number ∙ z) t

  pub results-kept : ((found_on c a).settled ≡ 1 → ⊥) → (call_on c a).results ≡ a.results
  unfolding call_on
  results-kept h = go (T-split (eqb number 0)) (T-split reply.settled)
    where
      go : T (eqb number 0) ⊎ T (not (eqb number 0)) → T reply.settled ⊎ T (not reply.settled)
          → results_after c.road c.tree c.query c.want (length a.work) a.results ≡ a.results
      go (inl p) (inl t) = absurd (h (settled_on (on_number ∙ eqb→eq number 0 p) t))
      go (inl p) (inr t) = spent_keeps c.road c.tree c.query c.want (length a.work) a.results (eqb→eq number 0 p) t
      go (inr p) t = refused_keeps c.road c.tree c.query c.want (length a.work) a.results (neqb→ne number 0 p)

  -- a refusal changes neither area
  pub areas-kept : ((found_on c a).refusal ≡ 0 → ⊥) → call_on c a ≡ a
  areas-kept h = same-areas (work-kept h) (results-kept (λ t. h (on_settled t).0))
