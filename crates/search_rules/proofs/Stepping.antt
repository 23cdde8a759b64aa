-- A step by cases, and what it means that a search is settled. Assumes nothing.
use mathlib.Core.Path.{◌≡◌, refl}
use mathlib.Core.Logic.{inl, ⊎_elim}
use mathlib.Core.Bool.{Bool, true, false, not, ◌&&◌, ◌||◌}
use mathlib.Core.List.{List, Memᴰ as Mem}
use mathlib.Core.Option.{none, some}
use Prim.Native.Nat.{ℕ, ◌≤◌, ◌<◌, min}
use native.Mathlib.Omega.{arith}
use lib.ListN.{length}
use lib.Dec.{T, ltb, eqb, ltb→lt, nltb→le, eqb→eq, T_not, not_T}
use Rattle.book.proofs.Choosing.{choose_case, and_left, and_right, and_both}
use Rattle.book.proofs.Lists.{or_right, or_cases, eq→eqb}
use Rattle.search_rules.specs.Order.{Entry}
use Rattle.search_rules.specs.Instance.{Instance, size}
use Rattle.search_rules.specs.Queue.{unqueued, queued, word_at}
use Rattle.search_rules.specs.Rule.{Rule, nearest, in_drive}
use Rattle.search_rules.specs.Keeping.{enough_by, enough}
use Rattle.search_rules.specs.Held.{greatest_held}
use Rattle.search_rules.specs.Step.{SearchState, take_region, take_yard, next_region, next_yard, least_key, step, settled}
use Rattle.search_rules.specs.Theorems.{LeftOut, NotPast}
use Rattle.search_rules.proofs.Fronts.{not_past_less}
use Rattle.search_rules.proofs.Queue.{key, key_word, key_small, word_key, key_range, queued-small, not-queued, pick-least}

-- the state has an entry for each region and for each junction
pub record Sizes (i : Instance) (st : SearchState) : Type 0 where
  pub regions : length st.region_keys ≡ size i
  pub yards : length st.yard_keys ≡ i.tree.junctions
  pub firsts : length st.firsts ≡ size i
  pub gone : length st.gone ≡ i.tree.junctions

-- the key a may be taken: none queued is below it, and it is not past what ends the search
pub record Due (i : Instance) (st : SearchState) (a : ℕ) : Type 0 where
  pub regions : (v b : ℕ) → key st.region_keys v ≡ some b → a ≤ b
  pub yards : (v b : ℕ) → key st.yard_keys v ≡ some b → a ≤ b
  pub held : NotPast i.rule st.held a

-- b is past what ends a search: k are held, and all of them at distances below b; or b is above the seconds
abbrev pub Past : Rule → List Entry → ℕ → Type 0
Past (nearest k) held b = (length held ≡ k) × (greatest_held held < b)
Past (in_drive s) held b = s < b

pub past_more : (r : Rule) (held : List Entry) (a b : ℕ) → a ≤ b → Past r held a → Past r held b
past_more (nearest k) held a b h p = (p.0, omega (arith, p.1))
past_more (in_drive s) held a b h p = omega arith

-- what is past it is not also not past it
pub past_not : (r : Rule) (held : List Entry) (b : ℕ) → Past r held b → NotPast r held b → ⊥
past_not (nearest k) held b p q = omega (arith, p.1, q p.0)
past_not (in_drive s) held b p q = omega arith

-- a yard whose distance is past what ends a search is left out
pub past_out : (r : Rule) (held : List Entry) (h : Entry) → ((g : Entry) → Mem g held → g.distance ≤ greatest_held held) → Past r held h.distance
    → LeftOut r held h
past_out (nearest k) held h most p = record { full = p.0; after = λ g m. inl (omega (arith, p.1, most g m)) }
past_out (in_drive s) held h most p = p

enough_past : (r : Rule) (held : List Entry) (key b : ℕ) → T (enough_by r held key) → key ≤ b → Past r held b
unfolding enough_by
enough_past (nearest k) held key b t h =
    let past = and_right (eqb (length held) k) _ t in
    (eqb→eq (length held) k (and_left (eqb (length held) k) _ t), omega (arith, ltb→lt))
enough_past (in_drive s) held key b t h = omega (arith, ltb→lt)

not-enough : (r : Rule) (held : List Entry) (key : ℕ) → T (not (enough_by r held key)) → NotPast r held key
unfolding enough_by
not-enough (nearest k) held key t = λ full. nltb→le (greatest_held held) key (not_T (ltb (greatest_held held) key)
    (λ s. T_not (eqb (length held) k && ltb (greatest_held held) key) t (and_both (eqb (length held) k) _ (eq→eqb (length held) k full) s)))
not-enough (in_drive s) held key t = nltb→le s key t

module _ (i : Instance) (st : SearchState) (sizes : Sizes i st) where
  least_region : (v b : ℕ) → key st.region_keys v ≡ some b → word_at st.region_keys (next_region i st) ≤ b
  unfolding next_region
  least_region v b e =
      let h : v < size i = rw (← sizes.regions) (key_range st.region_keys v e) in
      omega (arith, key_word st.region_keys v e, pick-least st.region_keys (size i) v h)

  least-yard : (v b : ℕ) → key st.yard_keys v ≡ some b → word_at st.yard_keys (next_yard i st) ≤ b
  unfolding next_yard
  least-yard v b e =
      let h : v < i.tree.junctions = rw (← sizes.yards) (key_range st.yard_keys v e) in
      omega (arith, key_word st.yard_keys v e, pick-least st.yard_keys i.tree.junctions v h)

  -- settled: a key that is not below the least one is past what ends the search
  settled_past : T (settled i st) → (b : ℕ) → b < unqueued → least_key i st ≤ b → Past i.rule st.held b
  unfolding settled enough
  settled_past t b s h = ⊎_elim (λ n. absurd (omega (arith, not-queued (least_key i st) n)))
      (λ n. enough_past i.rule st.held (least_key i st) b n h) (or_cases (not (queued (least_key i st))) _ t)

  pub settled-regions : T (settled i st) → (v b : ℕ) → key st.region_keys v ≡ some b → Past i.rule st.held b
  unfolding least_key
  settled-regions t v b e = settled_past t b (key_small st.region_keys v e) (omega (arith, least_region v b e))

  pub settled-yards : T (settled i st) → (v b : ℕ) → key st.yard_keys v ≡ some b → Past i.rule st.held b
  unfolding least_key
  settled-yards t v b e = settled_past t b (key_small st.yard_keys v e) (omega (arith, least-yard v b e))

  -- not settled: the least key is queued, and not past what ends the search
  unsettled-queued : T (not (settled i st)) → least_key i st < unqueued
  unfolding settled enough
  unsettled-queued t = go (queued (least_key i st)) _ (queued-small (least_key i st)) t
    where
      go : (a b : Bool) → (T a → least_key i st < unqueued) → T (not (not a || b)) → least_key i st < unqueued
      go true b h t = h tt
      go false b h t = absurd t

  unsettled-low : T (not (settled i st)) → NotPast i.rule st.held (least_key i st)
  unfolding settled enough
  unsettled-low t = not-enough i.rule st.held (least_key i st) (not_T (enough_by i.rule st.held (least_key i st)) (λ s. T_not (settled i st) t (or_right (not (queued (least_key i st))) _ s)))

  -- A step of a search that isn't settled takes a region or a yard that is due.
  pub step_case : (P : SearchState → Type 0) → T (not (settled i st))
      → ((r a : ℕ) → key st.region_keys r ≡ some a → Due i st a → P (take_region i st r a))
      → ((y b : ℕ) → key st.yard_keys y ≡ some b → Due i st b → P (take_yard i st y))
      → P (step i st)
  unfolding step least_key
  step_case P u onRegion onYard =
      choose_case P (queued (min a b))
      (λ q. choose_case P _
      (λ s. onYard y b (word_key st.yard_keys y b refl (omega (arith, ltb→lt, low))) (record {
        regions = λ v c h. omega (arith, ltb→lt, least_region v c h);
        yards = λ v c h. least-yard v c h;
        held = not_past_less i.rule st.held b (min a b) (omega (arith, ltb→lt)) (unsettled-low u);
      }))
      (λ s. onRegion r a (word_key st.region_keys r a refl (omega (arith, nltb→le, low))) (record {
        regions = λ v c h. least_region v c h;
        yards = λ v c h. omega (arith, nltb→le, least-yard v c h);
        held = not_past_less i.rule st.held a (min a b) (omega (arith, nltb→le)) (unsettled-low u);
      })))
      (λ q. absurd (omega (arith, not-queued (min a b) q, low)))
    where
      r : ℕ
      r = next_region i st

      y : ℕ
      y = next_yard i st

      a : ℕ
      a = word_at st.region_keys r

      b : ℕ
      b = word_at st.yard_keys y

      low : min a b < unqueued
      low = unsettled-queued u
