-- What holds of a least way wherever it stands, step after step, and that it ends. Assumes nothing.
use mathlib.Core.Path.{◌≡◌, refl, sym, ap, ◌∙◌}
use mathlib.Core.Logic.{◌⊎◌, inl, inr, ◌≢◌}
use mathlib.Core.Bool.{not, ◌||◌}
use mathlib.Core.Option.{some}
use mathlib.Core.List.Memᴰ.{head}
use mathlib.Core.List.Memᴰ.{tail}
use mathlib.Core.List.{List, [], ◌∷◌, ◌++◌, map, map-append, Memᴰ as Mem}
use mathlib.Core.List.Memᴰ.{append_cases}
use mathlib.Core.List.Memᴰ.{cases_cons}
use mathlib.Core.List.Memᴰ.{eq_of_singleton as only}
use mathlib.Core.List.Memᴰ.{not-nil}
use Prim.Native.Nat.{ℕ, zero, suc, ◌+◌, ◌≤◌, ◌<◌}
use native.Mathlib.Decide.{ℕ_discrete}
use native.Mathlib.Nat.{add_comm}
use native.Mathlib.Omega.{arith}
use lib.ListN.{length, length-map, length-append}
use lib.Dec.{T, T_not, not_T, eqb, eqb→eq}
use Rattle.book.specs.Lists.{Distinct}
use Rattle.book.proofs.Choosing.{choose_case, choose_yes, choose_no, T-split, or_left, or_right, or_cases, eq→eqb}
use Rattle.book.proofs.Lists.{map-mem, distinct_append}
use Rattle.adjacency.specs.Arcs.{Arc}
use Rattle.road.specs.Walk.{Walk, stay, step, Least, SoundArcs}
use Rattle.road.proofs.Walks.{join, least_unique}
use Rattle.search_rules.specs.Bounds.{combine}
use Rattle.search_rules.specs.Ceiling.{exceeds}
use Rattle.search_rules.proofs.Bounds.{combine_mono, zero-combine}
use Rattle.search_rules.proofs.Exceeding.{exceeds-more, exceeds-not}
use Rattle.search_rules.proofs.Found.{fewer}
use Rattle.search_measure.specs.Way.{came_by, Walked, Stand, start_at, here, walk_back, Budget, over, reached, above, ended_by, ended, way_step, way_steps}
use Rattle.search_measure.specs.Facts.{RowOf, Comes, Ways}
use Rattle.search_measure.proofs.Lasting.{always_comes, home}

-- ---- the budget

-- the aggregate grows with the seconds, and is no less than they
combine-least : (code a b : ℕ) → b ≤ combine code a b
combine-least code a b = omega (arith, zero-combine code b, combine_mono code {a = 0} {b = a} {c = b} {e = b} (omega arith) (omega arith))

pub over_mono : (b : Budget) {s t : ℕ} → s ≤ t → T (over b s) → T (over b t)
unfolding over
over_mono b {s} {t} h o = exceeds-more b.ceiling (combine_mono b.code (omega arith) h) o

-- more seconds are over too, and fewer are not
pub over_up : (b : Budget) (x : ℕ) → T (over b x) → (t : ℕ) → x ≤ t → T (over b t)
over_up b x o t h = over_mono b h o

pub over_down : (b : Budget) (x : ℕ) → T (not (over b x)) → (t : ℕ) → t ≤ x → T (not (over b t))
over_down b x o t h = not_T (over b t) (λ u. T_not (over b x) o (over_mono b h u))

-- what is not over is within the ceiling
pub not-over : (b : Budget) (t seconds : ℕ) → T (not (over b t)) → b.ceiling ≡ some seconds → t ≤ seconds
unfolding over
not-over b t seconds o e = within (rw e at o)
  where
    within : T (not (exceeds (some seconds) (combine b.code b.spent t))) → t ≤ seconds
    within u = omega (arith, combine-least b.code b.spent t, exceeds-not (combine b.code b.spent t) seconds u)

pub ended-above : (b : Budget) (t : ℕ) → T (over b t) → ended_by b t ≡ above
unfolding ended_by
ended-above b t o = choose_yes (over b t) above (reached t) o

pub ended-reached : (b : Budget) (t : ℕ) → T (not (over b t)) → ended_by b t ≡ reached t
unfolding ended_by
ended-reached b t o = choose_no (over b t) above (reached t) o

-- ---- distinct numbers below n are no more than n

below : ℕ → List ℕ
below zero = []
below (suc n) = n ∷ below n

below_length : (n : ℕ) → length (below n) ≡ n
unfolding below
below_length zero = refl
below_length (suc n) = ap suc (below_length n)

below-has : (n v : ℕ) → v < n → Mem v (below n)
unfolding below
below-has zero v h = absurd (omega arith)
below-has (suc n) v h = go (ℕ_discrete v n) (λ k. below-has n v k)
  where
    go : Dec (v ≡ n) → (v < n → Mem v (below n)) → Mem v (n ∷ below n)
    go (yes e) rest = head e
    go (no e) rest = tail (rest (omega arith))

few-below : (n : ℕ) (vs : List ℕ) → Distinct vs → ((v : ℕ) → Mem v vs → v < n) → length vs ≤ n
few-below n vs d h = omega (arith, fewer vs (below n) d (λ v m. below-has n v (h v m)), below_length n)

-- ---- wherever it stands

-- the junctions walked on from
abbrev pub passed : Stand → List ℕ
passed s = map (λ (m : Walked). m.junction) s.behind

-- of a junction walked on from, while the walk stands where the row is x
pub record Past (arcs : List Arc) (n : ℕ) (row : ℕ → ℕ) (b : Budget) (yard x : ℕ) (m : Walked) : Type 0 where
  pub inside : m.junction < n
  pub further : x < row m.junction
  pub least : Least arcs m.junction yard m.seconds
  pub within : T (not (over b m.seconds))

pub record Standing (arcs : List Arc) (n : ℕ) (row : ℕ → ℕ) (b : Budget) (yard : ℕ) (s : Stand) : Type 0 where
  pub inside : s.place < n
  pub total : row s.place + s.seconds ≡ row yard
  pub walk : Walk arcs s.place yard s.seconds
  pub past : (m : Walked) → Mem m s.behind → Past arcs n row b yard (row s.place) m
  pub once : Distinct (passed s)

-- where it has not ended it does not stand at the crew, and is not over
module _ (arcs : List Arc) (row : ℕ → ℕ) (b : Budget) (crew : ℕ) (s : Stand) where
  pub not-ended : T (not (ended arcs row b crew s)) → (s.place ≢ crew) × T (not (over b s.seconds))
  unfolding ended
  not-ended t = (
    (λ e. T_not (over b s.seconds || eqb s.place crew) t (or_right (over b s.seconds) (eqb s.place crew) (eq→eqb s.place crew e))),
    not_T (over b s.seconds) (λ o. T_not (over b s.seconds || eqb s.place crew) t (or_left (over b s.seconds) (eqb s.place crew) o)),
  )

  pub ended-over : T (over b s.seconds) → T (ended arcs row b crew s)
  unfolding ended
  ended-over o = or_left (over b s.seconds) (eqb s.place crew) o

  pub ended-there : s.place ≡ crew → T (ended arcs row b crew s)
  unfolding ended
  ended-there e = or_right (over b s.seconds) (eqb s.place crew) (eq→eqb s.place crew e)

  pub goes_on : s.place ≢ crew → T (not (over b s.seconds)) → T (not (ended arcs row b crew s))
  unfolding ended
  goes_on z o = not_T (over b s.seconds || eqb s.place crew) (λ t. go (or_cases (over b s.seconds) (eqb s.place crew) t))
    where
      go : T (over b s.seconds) ⊎ T (eqb s.place crew) → ⊥
      go (inl u) = T_not (over b s.seconds) o u
      go (inr u) = z (eqb→eq s.place crew u)

module _ {arcs : List Arc} {n crew : ℕ} {row : ℕ → ℕ} (sound : SoundArcs n arcs) (rows : RowOf arcs n crew row) (b : Budget) (yard : ℕ) (at-yard : yard < n) where
  -- where it stands is at the least total of a walk from there to the yard
  pub stands-least : {s : Stand} → Standing arcs n row b yard s → Least arcs s.place yard s.seconds
  stands-least {s} k = record {
    walk = k.walk;
    least = λ t w. omega (arith, k.total, (rows yard at-yard).least _ (join (rows s.place k.inside).walk w));
  }

  pub standing_start : Standing arcs n row b yard (start_at yard)
  standing_start = record {
    inside = at-yard;
    total = omega arith;
    walk = stay;
    past = λ m k. absurd (not-nil k);
    once = tt;
  }

  -- it has walked on from fewer junctions than there are
  pub standing_few : {s : Stand} → Standing arcs n row b yard s → length s.behind < n
  standing_few {s} k =
      omega (arith, few-below n (s.place ∷ passed s) (apart, k.once) inside, length-map s.behind (λ (m : Walked). m.junction))
    where
      apart : Mem s.place (passed s) → ⊥
      apart j =
          let (m, i, e) = map-mem (λ (m : Walked). m.junction) s.behind s.place j in
          omega (arith, (k.past m i).further, ap row e)

      inside : (v : ℕ) → Mem v (s.place ∷ passed s) → v < n
      inside v j = go (cases_cons j)
        where
          go : (v ≡ s.place) ⊎ Mem v (passed s) → v < n
          go (inl e) = rw e k.inside
          go (inr i) =
              let (m, h, e) = map-mem (λ (m : Walked). m.junction) s.behind v i in
              rw e (k.past m h).inside

  -- it walks on
  module _ (s : Stand) (k : Standing arcs n row b yard s) (z : s.place ≢ crew) (o : T (not (over b s.seconds))) where
    taken : Comes arcs row s.place (came_by row s.place arcs)
    taken = always_comes sound rows s.place k.inside z

    falls : row (came_by row s.place arcs).from < row s.place
    falls = omega (arith, taken.falls, taken.some)

    pub standing_on : Standing arcs n row b yard (walk_back arcs row s)
    unfolding walk_back
    standing_on = record {
      inside = (sound (came_by row s.place arcs) taken.is).from;
      total = omega (arith, taken.falls, k.total);
      walk =
          let e = taken.into in
          let w : Walk arcs (came_by row s.place arcs).to yard s.seconds = rw e k.walk in
          rw (add_comm s.seconds (came_by row s.place arcs).seconds) (step (came_by row s.place arcs) taken.is w);
      past = λ m j. go m (append_cases s.behind j);
      once = rw (map-append (λ (m : Walked). m.junction) s.behind (here s ∷ [])) (distinct_append (passed s) (s.place ∷ []) k.once ((λ j. not-nil j), tt) (λ v i j. apart v i (only j)));
    }
      where
        go : (m : Walked) → Mem m s.behind ⊎ Mem m (here s ∷ []) → Past arcs n row b yard (row (came_by row s.place arcs).from) m
        go m (inl j) =
            let p = k.past m j in
            record { inside = p.inside; further = omega (arith, p.further, falls); least = p.least; within = p.within }
        go m (inr j) = rw (only j) (record { inside = k.inside; further = falls; least = stands-least k; within = o })

        apart : (v : ℕ) → Mem v (passed s) → v ≡ s.place → ⊥
        apart v i e =
            let (m, h, f) = map-mem (λ (m : Walked). m.junction) s.behind v i in
            omega (arith, (k.past m h).further, ap row (sym f ∙ e))

  -- ---- step after step

  pub steps_standing : (k : ℕ) → Standing arcs n row b yard (way_steps arcs row b crew yard k)
  unfolding way_steps way_step
  steps_standing zero = standing_start
  steps_standing (suc k) =
      let s = way_steps arcs row b crew yard k in
      let h = steps_standing k in
      choose_case (λ (x : Stand). Standing arcs n row b yard x) (ended arcs row b crew s) (λ t. h)
      (λ t. standing_on s h (not-ended arcs row b crew s t).0 (not-ended arcs row b crew s t).1)

  -- a walk that has not ended has walked on once at each step
  steps-behind : (k : ℕ) → T (ended arcs row b crew (way_steps arcs row b crew yard k)) ⊎ (length (way_steps arcs row b crew yard k).behind ≡ k)
  unfolding way_steps way_step walk_back
  steps-behind zero = inr refl
  steps-behind (suc k) =
      let s = way_steps arcs row b crew yard k in
      choose_case (λ (x : Stand). T (ended arcs row b crew x) ⊎ (length x.behind ≡ suc k)) (ended arcs row b crew s) (λ t. inl t)
      (λ t. inr (go t (steps-behind k)))
    where
      go : T (not (ended arcs row b crew (way_steps arcs row b crew yard k)))
          → T (ended arcs row b crew (way_steps arcs row b crew yard k)) ⊎ (length (way_steps arcs row b crew yard k).behind ≡ k)
          → length ((way_steps arcs row b crew yard k).behind ++ (here (way_steps arcs row b crew yard k) ∷ [])) ≡ suc k
      go t (inl u) = absurd (T_not (ended arcs row b crew (way_steps arcs row b crew yard k)) t u)
      go t (inr e) = length-append (way_steps arcs row b crew yard k).behind (here (way_steps arcs row b crew yard k) ∷ []) ∙ omega (arith, e)

  -- so as many steps as there are junctions end it
  pub steps-end : T (ended arcs row b crew (way_steps arcs row b crew yard n))
  steps-end = go (steps-behind n)
    where
      go : T (ended arcs row b crew (way_steps arcs row b crew yard n)) ⊎ (length (way_steps arcs row b crew yard n).behind ≡ n)
          → T (ended arcs row b crew (way_steps arcs row b crew yard n))
      go (inl t) = t
      go (inr e) = absurd (omega (arith, standing_few (steps_standing n)))

  -- ---- where it has ended

  module _ (at-crew : crew < n) (s : Stand) (k : Standing arcs n row b yard s) (done : T (ended arcs row b crew s)) where
    there : T (not (over b s.seconds)) → (s.place ≡ crew) × (s.seconds ≡ row yard)
    unfolding ended
    there o = go (or_cases (over b s.seconds) (eqb s.place crew) done)
      where
        go : T (over b s.seconds) ⊎ T (eqb s.place crew) → (s.place ≡ crew) × (s.seconds ≡ row yard)
        go (inl t) = absurd (T_not (over b s.seconds) o t)
        go (inr t) =
            let e : s.place ≡ crew = eqb→eq s.place crew t in
            (e, omega (arith, home sound rows at-crew, k.total, ap row e))

    pub end_ways : Ways arcs n b crew yard s (ended_by b s.seconds)
    end_ways = record {
      answers = λ t l. answers t (least_unique l (rows yard at-yard)) (T-split (over b s.seconds));
      reached-least = λ t e. least t e (T-split (over b s.seconds));
      least = λ m j. (k.past m j).least;
      within = λ m j seconds e. not-over b m.seconds seconds (k.past m j).within e;
      few = standing_few k;
    }
      where
        answers : (t : ℕ) → t ≡ row yard → T (over b s.seconds) ⊎ T (not (over b s.seconds)) → ended_by b s.seconds ≡ ended_by b t
        answers t e (inl o) = ended-above b s.seconds o ∙ sym (ended-above b t (over_mono b (omega (arith, k.total, e)) o))
        answers t e (inr o) = ap (ended_by b) ((there o).1 ∙ sym e)

        least : (t : ℕ) → ended_by b s.seconds ≡ reached t → T (over b s.seconds) ⊎ T (not (over b s.seconds)) → Least arcs crew yard t
        least t e (inl o) =
            let f = ended-above b s.seconds o in
            let z : ◌≡◌ {A = ℕ} 0 1 = cc in
            absurd (omega arith)
        least t e (inr o) =
            let f = ended-reached b s.seconds o in
            let g : s.seconds ≡ t = cc in
            rw (← g, ← (there o).0) (stands-least k)

-- ---- a walk that has ended stays as it is

pub steps-stay : (arcs : List Arc) (row : ℕ → ℕ) (b : Budget) (crew yard k j : ℕ) → k ≤ j → T (ended arcs row b crew (way_steps arcs row b crew yard k))
    → way_steps arcs row b crew yard j ≡ way_steps arcs row b crew yard k
unfolding way_steps way_step
steps-stay arcs row b crew yard k zero h t = let e : 0 ≡ k = omega arith in ap (way_steps arcs row b crew yard) e
steps-stay arcs row b crew yard k (suc j) h t = go (ℕ_discrete k (suc j)) (λ l. steps-stay arcs row b crew yard k j l t)
  where
    go : Dec (k ≡ suc j) → (k ≤ j → way_steps arcs row b crew yard j ≡ way_steps arcs row b crew yard k)
        → way_step arcs row b crew (way_steps arcs row b crew yard j) ≡ way_steps arcs row b crew yard k
    go (yes e) rest = ap (way_steps arcs row b crew yard) (sym e)
    go (no e) rest =
        let f = rest (omega arith) in
        choose_yes (ended arcs row b crew (way_steps arcs row b crew yard j)) _ _ (rw f t) ∙ f
