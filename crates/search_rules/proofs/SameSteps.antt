-- A search's steps by the order that was before: what is held had the same aggregates. Assumes nothing.
use mathlib.Core.Path.{◌≡◌, refl, sym, ap, ◌∙◌}
use mathlib.Core.Logic.{◌⊎◌, inl, inr}
use mathlib.Core.Bool.{Bool, not, ◌&&◌, ◌||◌}
use mathlib.Core.List.Memᴰ.{head}
use mathlib.Core.List.Memᴰ.{not-nil}
use mathlib.Core.List.Memᴰ.{tail}
use mathlib.Core.List.{List, [], ◌∷◌, map, Memᴰ as Mem}
use mathlib.Core.List.Memᴰ.{cases_cons}
use Prim.Native.Nat.{ℕ, zero, suc, ◌≤◌, ◌<◌, min}
use native.Mathlib.Decide.{dec_lt}
use native.Mathlib.Omega.{arith}
use lib.ListN.{length, take}
use lib.Dec.{T, T_not, ltb, leb, eqb, ltb→lt, lt→ltb, leb→le, le→leb, nleb→lt, eqb→eq}
use Rattle.book.specs.Choose.{choose}
use Rattle.book.proofs.Choosing.{choose_case, choose_yes, and_left}
use Rattle.book.proofs.Lists.{or_left, or_cases}
use Rattle.search_rules.specs.Rule.{Rule, nearest, in_drive}
use Rattle.search_rules.specs.Instance.{Instance, leaf}
use Rattle.search_rules.specs.Order.{Entry, yard_first}
use Rattle.tree_layout.specs.Values.{Element, Mark}
use Rattle.search_rules.specs.Bounds.{chosen}
use Rattle.search_rules.specs.Queue.{queued, word_at}
use Rattle.search_rules.specs.Held.{insert, hold, last_distance, greatest_held, entry}
use Rattle.search_rules.specs.Keeping.{keep_by, keep, enough, enough_by}
use Rattle.search_rules.specs.Step.{SearchState, step, settled, start_search, next_f, next_region, next_yard, least_key, take_region, take_yard, open_leaf, open_inner, queue_next, close_leaf}
use Rattle.search_rules.specs.Run.{Outcome, advance, run}
use Rattle.search_rules.specs.Fairness.{aggregates, number_first, insert_before, held_before, with_before, run_before, SameSteps}
use Rattle.search_rules.proofs.Choices.{choose-two}
use Rattle.search_rules.proofs.Wanted.{length-map}
use Rattle.search_rules.proofs.Held.{take-mem}
use Rattle.search_rules.proofs.Order.{first_before, before_first, before_le}
use Rattle.search_rules.specs.Step.{open_whole, queue_wanted, queue_yard, take_leaf}

-- ---- aggregates alone

aggregate-length : (l m : List Entry) → aggregates l ≡ aggregates m → length l ≡ length m
aggregate-length l m e = sym (length-map (λ (x : Entry). x.distance) l) ∙ ap length e ∙ length-map (λ (x : Entry). x.distance) m

-- the last of some numbers, or x
last_of : ℕ → List ℕ → ℕ
last_of x [] = x
last_of x (n ∷ ns) = last_of n ns

last_aggregate : (x : ℕ) (l : List Entry) → last_distance x l ≡ last_of x (aggregates l)
unfolding last_distance last_of
last_aggregate x [] = refl
last_aggregate x (e ∷ l) = last_aggregate e.distance l

greatest-same : (l m : List Entry) → aggregates l ≡ aggregates m → greatest_held l ≡ greatest_held m
unfolding greatest_held
greatest-same l m e = last_aggregate 0 l ∙ ap (last_of 0) e ∙ sym (last_aggregate 0 m)

enough-same : (rule : Rule) (l m : List Entry) (key : ℕ) → aggregates l ≡ aggregates m → enough_by rule l key ≡ enough_by rule m key
unfolding enough_by
enough-same (nearest k) l m key e = rw (aggregate-length l m e, greatest-same l m e) refl
enough-same (in_drive s) l m key e = refl

-- ---- numbers in rising order

-- no number is less than one before it
abbrev Rising : List ℕ → Type 0
Rising [] = Unit {0}
Rising (x ∷ xs) = ((n : ℕ) → Mem n xs → x ≤ n) × Rising xs

-- a number put before the first that it is not above
place : ℕ → List ℕ → List ℕ
place n [] = n ∷ []
place n (x ∷ xs) = choose (leb n x) (n ∷ x ∷ xs) (x ∷ place n xs)

place-mem : (n m : ℕ) (xs : List ℕ) → Mem m (place n xs) → (m ≡ n) ⊎ Mem m xs
unfolding place
place-mem n m [] = λ k. cases_cons k
place-mem n m (x ∷ xs) = choose_case (λ (l : List ℕ). Mem m l → (m ≡ n) ⊎ Mem m (x ∷ xs)) (leb n x) (λ t k. cases_cons k) (λ t k. go (cases_cons k) (place-mem n m xs))
  where
    go : (m ≡ x) ⊎ Mem m (place n xs) → (Mem m (place n xs) → (m ≡ n) ⊎ Mem m xs) → (m ≡ n) ⊎ Mem m (x ∷ xs)
    go (inl p) rest = inr (head p)
    go (inr j) rest = on (rest j)
      where
        on : (m ≡ n) ⊎ Mem m xs → (m ≡ n) ⊎ Mem m (x ∷ xs)
        on (inl p) = inl p
        on (inr k) = inr (tail k)

place-rising : (n : ℕ) (xs : List ℕ) → Rising xs → Rising (place n xs)
unfolding place
place-rising n [] r = ((λ m k. absurd (not-nil k)), tt)
place-rising n (x ∷ xs) r = choose_case Rising (leb n x)
    (λ t. ((λ m k. ahead (leb→le n x t) m (cases_cons k)), r))
    (λ t. ((λ m k. behind (nleb→lt n x t) m (place-mem n m xs k)), place-rising n xs r.1))
  where
    ahead : n ≤ x → (m : ℕ) → (m ≡ x) ⊎ Mem m xs → n ≤ m
    ahead h m (inl p) = omega arith
    ahead h m (inr k) = omega (arith, r.0 m k)

    behind : x < n → (m : ℕ) → (m ≡ n) ⊎ Mem m xs → x ≤ m
    behind h m (inl p) = omega arith
    behind h m (inr k) = r.0 m k

-- one that is above none goes to the front
place-low : (n : ℕ) (xs : List ℕ) → ((m : ℕ) → Mem m xs → n ≤ m) → place n xs ≡ n ∷ xs
unfolding place
place-low n [] h = refl
place-low n (x ∷ xs) h = choose_yes (leb n x) (n ∷ x ∷ xs) (x ∷ place n xs) (le→leb n x (h x (head refl)))

take-rising : (k : ℕ) (xs : List ℕ) → Rising xs → Rising (take k xs)
take-rising zero xs r = tt
take-rising (suc k) [] r = tt
take-rising (suc k) (x ∷ xs) r = ((λ m j. r.0 m (take-mem k m xs j)), take-rising k xs r.1)

-- ---- a yard put into its place, by either order

-- of a test that goes by the aggregate first
placed : (e h : Entry) (hs rest : List Entry) (t : Bool) → (T t → e.distance ≤ h.distance) → (e.distance < h.distance → T t)
    → Rising (aggregates (h ∷ hs)) → aggregates rest ≡ place e.distance (aggregates hs)
    → aggregates (choose t (e ∷ h ∷ hs) (h ∷ rest)) ≡ place e.distance (aggregates (h ∷ hs))
unfolding place
placed e h hs rest t yes_le less r same = choose_case (λ l. aggregates l ≡ place e.distance (aggregates (h ∷ hs))) t
    (λ u. sym (choose_yes (leb e.distance h.distance) _ _ (le→leb e.distance h.distance (yes_le u))))
    (λ u. choose_case (λ l. h.distance ∷ aggregates rest ≡ l) (leb e.distance h.distance)
    (λ v. level (omega (arith, leb→le e.distance h.distance v, not_less u (dec_lt e.distance h.distance))))
    (λ v. ap (λ (l : List ℕ). h.distance ∷ l) same))
  where
    not_less : T (not t) → Dec (e.distance < h.distance) → h.distance ≤ e.distance
    not_less u (yes p) = absurd (T_not t u (less p))
    not_less u (no p) = omega arith

    level : e.distance ≡ h.distance → h.distance ∷ aggregates rest ≡ e.distance ∷ h.distance ∷ aggregates hs
    level p =
        let low : place e.distance (aggregates hs) ≡ e.distance ∷ aggregates hs = place-low e.distance (aggregates hs) (λ m k. omega (arith, r.0 m k)) in
        ap (λ (l : List ℕ). h.distance ∷ l) (same ∙ low) ∙ rw p refl

insert-place : (e : Entry) (l : List Entry) → Rising (aggregates l) → aggregates (insert e l) ≡ place e.distance (aggregates l)
unfolding insert place
insert-place e [] r = refl
insert-place e (h ∷ hs) r = placed e h hs (insert e hs) (yard_first e h) (λ t. before_le (first_before e h t)) (λ p. before_first e h (inl p)) r
    (insert-place e hs r.1)

before_place : (e : Entry) (l : List Entry) → Rising (aggregates l) → aggregates (insert_before e l) ≡ place e.distance (aggregates l)
unfolding insert_before place number_first
before_place e [] r = refl
before_place e (h ∷ hs) r = placed e h hs (insert_before e hs) (number_first e h) (λ t. at_most (or_cases (ltb e.distance h.distance) _ t))
    (λ p. or_left (ltb e.distance h.distance) _ (lt→ltb e.distance h.distance p)) r (before_place e hs r.1)
  where
    at_most : T (ltb e.distance h.distance) ⊎ T (eqb e.distance h.distance && ltb e.yard h.yard) → e.distance ≤ h.distance
    at_most (inl t) = omega (arith, ltb→lt e.distance h.distance t)
    at_most (inr t) = omega (arith, eqb→eq e.distance h.distance (and_left (eqb e.distance h.distance) _ t))

take-aggregates : (k : ℕ) (l : List Entry) → aggregates (take k l) ≡ take k (aggregates l)
take-aggregates zero l = refl
take-aggregates (suc k) [] = refl
take-aggregates (suc k) (e ∷ l) = ap (λ (ns : List ℕ). e.distance ∷ ns) (take-aggregates k l)

-- ---- what is held

-- one more yard is kept by both orders
record Level (now before : List Entry) : Type 0 where
  pub rising : Rising (aggregates now)
  pub same : aggregates now ≡ aggregates before

module _ (e : Entry) (now before : List Entry) (l : Level now before) where
  one_more : Level (insert e now) (insert_before e before)
  one_more =
      let p = insert-place e now l.rising in
      let q = before_place e before (rw (← l.same) l.rising) in
      record { rising = rw p (place-rising e.distance (aggregates now) l.rising); same = p ∙ ap (place e.distance) l.same ∙ sym q }

  first_more : (k : ℕ) → Level (take k (insert e now)) (take k (insert_before e before))
  first_more k = record {
    rising = rw take-aggregates (take-rising k (aggregates (insert e now)) one_more.rising);
    same = take-aggregates k (insert e now) ∙ ap (take k) one_more.same ∙ sym (take-aggregates k (insert_before e before));
  }

none-held : (r : Rule) → held_before r [] ≡ []
unfolding held_before
none-held (nearest k) = refl
none-held (in_drive s) = refl

module _ (i : Instance) where
  -- a state's held yards, and those that were held of the same measured ones
  Same : SearchState → Type 0
  Same st = Level st.held (held_before i.rule (map (entry i) st.measured))

  yard-same : (r : Rule) (e : Entry) (held : List Entry) (es : List Entry) → Level held (held_before r es) → Level (keep_by r e held) (held_before r (e ∷ es))
  unfolding keep_by hold held_before
  yard-same (nearest k) e held es l = first_more e held (held_before (nearest k) es) l k
  yard-same (in_drive s) e held es l =
      choose-two Level (leb e.distance s) (λ t. one_more e held (held_before (in_drive s) es) l) (λ t. l)

  wanted-same : (st : SearchState) (first : ℕ) (m : Mark) (es : List Element) → Same st → Same (queue_wanted i st first m es)
  unfolding Same queue_wanted queue_yard
  wanted-same st first m [] h = h
  wanted-same st first m (e ∷ es) h = wanted-same (choose (i.wants e.yard) (queue_yard i st first m e) st) first m es (choose_case Same (i.wants e.yard) (λ t. h) (λ t. h))

  region_same : (st : SearchState) (r a : ℕ) → Same st → Same (take_region i st r a)
  unfolding Same take_region open_leaf open_inner queue_next close_leaf take_leaf open_whole queue_wanted queue_yard
  region_same st r a h = choose_case Same (leaf i r) (λ l. choose_case Same i.one_way (λ one. wanted-same (close_leaf i st r) (word_at st.firsts r) (chosen i r) (chosen i r).list h)
      (λ two. choose_case Same (queued (next_f i st.gone (chosen i r))) (λ t. h) (λ t. h))) (λ l. h)

  step_same : (st : SearchState) → Same st → Same (step i st)
  unfolding Same step take_yard keep
  step_same st h =
      let a = word_at st.region_keys (next_region i st) in
      let b = word_at st.yard_keys (next_yard i st) in
      choose_case Same (queued (min a b))
      (λ q. choose_case Same _ (λ t. yard-same i.rule (entry i (next_yard i st)) st.held (map (entry i) st.measured) h) (λ t. region_same st (next_region i st) a h)) (λ q. h)

  run-same : (steps : ℕ) → Same (run i steps).state
  unfolding Same run start_search advance held_before
  run-same zero = record { rising = tt; same = ap aggregates (sym (none-held i.rule)) }
  run-same (suc steps) =
      choose_case (λ (o : Outcome). Same o.state) (settled i (run i steps).state) (λ t. run-same steps) (λ t. step_same (run i steps).state (run-same steps))

  -- ---- a search by the order that was

  -- what a step holds alone goes by what was held
  wanted_before : (s t : SearchState) (first : ℕ) (m : Mark) (es : List Element) → with_before i s ≡ with_before i t
      → with_before i (queue_wanted i s first m es) ≡ with_before i (queue_wanted i t first m es)
  unfolding with_before queue_wanted queue_yard
  wanted_before s t first m [] h = h
  wanted_before s t first m (e ∷ es) h =
      wanted_before (choose (i.wants e.yard) (queue_yard i s first m e) s) (choose (i.wants e.yard) (queue_yard i t first m e) t) first m es (choose-two (λ (x y : SearchState). with_before i x ≡ with_before i y) (i.wants e.yard) (λ w. one) (λ w. h))
    where
      one : with_before i (queue_yard i s first m e) ≡ with_before i (queue_yard i t first m e)
      one = ap (λ (x : SearchState). with_before i (queue_yard i x first m e)) h

  step_before : (st : SearchState) → with_before i (step i (with_before i st)) ≡ with_before i (step i st)
  unfolding with_before step take_yard take_region open_leaf open_inner queue_next close_leaf keep next_region next_yard take_leaf open_whole queue_wanted queue_yard
  step_before st =
      let a = word_at st.region_keys (next_region i st) in
      let b = word_at st.yard_keys (next_yard i st) in
      choose-two Alike (queued (min a b)) (λ q. choose-two Alike (ltb b a) (λ t. refl) (λ t. region (next_region i st))) (λ q. refl)
    where
      Alike : SearchState → SearchState → Type 0
      Alike s t = with_before i s ≡ with_before i t

      region : (r : ℕ) → with_before i (take_region i (with_before i st) r (word_at st.region_keys r)) ≡ with_before i (take_region i st r (word_at st.region_keys r))
      region r = choose-two Alike (leaf i r) (λ l. choose-two Alike i.one_way (λ one. wanted_before (close_leaf i (with_before i st) r) (close_leaf i st r) (word_at st.firsts r) (chosen i r) (chosen i r).list refl)
          (λ two. choose-two Alike (queued (next_f i st.gone (chosen i r))) (λ t. refl) (λ t. refl))) (λ l. refl)

  settled_before : (limit : ℕ) → settled i (with_before i (run i limit).state) ≡ settled i (run i limit).state
  unfolding Same with_before settled enough least_key next_region next_yard
  settled_before limit = let st = (run i limit).state in
      ap (λ (x : Bool). not (queued (least_key i st)) || x) (sym (enough-same i.rule st.held (held_before i.rule (map (entry i) st.measured)) (least_key i st) (run-same limit).same))

  -- an outcome with what was held
  before : Outcome → Outcome
  before o = record { state = with_before i o.state; taken = o.taken }

  run_before_lem : (limit : ℕ) → run_before i limit ≡ record { state = with_before i (run i limit).state; taken = (run i limit).taken }
  unfolding before run_before run advance with_before start_search
  run_before_lem zero = λ j. record {
    state = record {
      region_keys = (start_search i).region_keys;
      yard_keys = (start_search i).yard_keys;
      firsts = (start_search i).firsts;
      gone = (start_search i).gone;
      held = sym (none-held i.rule) j;
      measured = [];
    };
    taken = 0;
  }
  run_before_lem (suc limit) = on (run_before i limit) (run_before_lem limit)
    where
      st : SearchState
      st = (run i limit).state

      next : Outcome
      next = record { state = step i st; taken = suc (run i limit).taken }

      on : (o : Outcome) → o ≡ before (run i limit)
          → choose (settled i o.state) o (record { state = with_before i (step i o.state); taken = suc o.taken })
          ≡ before (choose (settled i st) (run i limit) next)
      on o e = rw (e, settled_before limit, step_before st)
          (choose-two (λ (x y : Outcome). x ≡ before y) (settled i st) {x = before (run i limit)} {y = before next} {u = run i limit} {v = next} (λ t. refl) (λ t. refl))

pub same-steps : SameSteps
unfolding Same with_before
same-steps = record {
  steps = run_before_lem;
  held = λ i limit. (run-same i limit).same ∙ sym (ap (λ (o : Outcome). aggregates o.state.held) (run_before_lem i limit));
  settles = λ i limit. sym (settled_before i limit) ∙ sym (ap (λ (o : Outcome). settled i o.state) (run_before_lem i limit));
}
