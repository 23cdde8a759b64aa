-- The yards of a leaf's first list that are not wanted, marked one element at a time. Assumes nothing.
use mathlib.Core.Path.{◌≡◌, refl, sym, ap, ◌∙◌}
use mathlib.Core.Logic.{◌⊎◌, inl, inr}
use mathlib.Core.Bool.{not}
use mathlib.Core.List.Memᴰ
use mathlib.Core.List.Memᴰ.{head}
use mathlib.Core.List.Memᴰ.{tail}
use mathlib.Core.List.{List, [], ◌∷◌, Memᴰ as Mem}
use Prim.Native.Nat.{ℕ, ◌+◌, ◌-◌, ◌≤◌, ◌<◌}
use native.Mathlib.Decide.{ℕ_discrete}
use native.Mathlib.Nat.{sub-zero}
use lib.ListN.{length, get_or, set, length-set}
use lib.Seq.{get_or-set_same, get_or-set_other}
use lib.Dec.{T, T_not}
use Rattle.book.specs.Choose.{choose}
use Rattle.book.proofs.Choosing.{choose_case, choose_yes, choose_no, T-split}
use Rattle.kinds.specs.Kinds.{shares}
use Rattle.tree_layout.specs.Values.{Element}
use Rattle.tree_layout.specs.Sizes.{list_size}
use Rattle.tree_layout.specs.Decode.{read_list}
use Rattle.tree_layout.specs.code.Accessors.{listed_at}
use Rattle.tree_layout.specs.declared.Listed.{Listed}
use Rattle.tree_layout.proofs.Sizes.{list-zero}
use Rattle.tree_layout.proofs.Reading.{list_on, list-none}
use Rattle.tree_layout.proofs.Accessing.{listed-is}
use Rattle.search_rules.specs.Instance.{Instance}
use Rattle.search_state.proofs.Values.{Values, store_f}
use Rattle.search_leaf.specs.code.Leaves.{Near, unwanted_f, pass_over}

-- ---- with k of n elements done

-- what is marked from the place on is what is marked from the start
pub record Passing (w v : ℕ) (p : List ℕ) (n k : ℕ) (ws₀ ws : List ℕ) : Type 0 where
  pub same : length ws ≡ length ws₀
  pub rest : pass_over w (read_list v p (n - k) (list_size v k)) ws ≡ pass_over w (read_list v p n 0) ws₀

module _ (w v : ℕ) (p : List ℕ) (n : ℕ) where
  pub passing_none : (ws : List ℕ) → Passing w v p n 0 ws ws
  passing_none ws = record { same = refl; rest = simp (sub-zero, list-zero) }

  module _ (k : ℕ) (ws₀ ws : List ℕ) (s : Passing w v p n k ws₀ ws) where
    module _ (h : k < n) (e : Listed) (q : e ≡ listed_at v p k) where
      step : pass_over w (read_list v p (n - k) (list_size v k)) ws
          ≡ pass_over w (read_list v p (n - (k + 1)) (list_size v (k + 1))) (choose (shares w e.kinds) ws (set ws e.yard.number unwanted_f))
      unfolding pass_over
      step = rw (list_on v p n k h, ← listed-is v p k e q) refl

      -- a yard that is not wanted is marked
      pub passing_over : (i : ℕ) → i ≡ e.yard.number → T (not (shares w e.kinds)) → (ws' : List ℕ) → ws' ≡ set ws i unwanted_f → Passing w v p n (k + 1) ws₀ ws'
      passing_over i ei t ws' d = record {
        same = ap length d ∙ (length-set ws i unwanted_f ∙ s.same);
        rest = rw (d, ei, ← choose_no (shares w e.kinds) ws (set ws e.yard.number unwanted_f) t) (sym step ∙ s.rest);
      }

      -- another stays
      pub passing_by : T (shares w e.kinds) → (ws' : List ℕ) → ws' ≡ ws → Passing w v p n (k + 1) ws₀ ws'
      passing_by t ws' d = record {
        same = ap length d ∙ s.same;
        rest = rw d (rw (← choose_yes (shares w e.kinds) ws (set ws e.yard.number unwanted_f) t) (sym step ∙ s.rest));
      }

    pub passing_all : n ≤ k → ws ≡ pass_over w (read_list v p n 0) ws₀
    unfolding pass_over
    passing_all h = rw (list-none v p n k (list_size v k) h) at s.rest

-- ---- what is marked

module _ (w : ℕ) where
  -- the words after one element
  abbrev marked : Element → List ℕ → List ℕ
  marked e ws = choose (shares w e.kinds) ws (set ws e.yard unwanted_f)

  marked-length : (e : Element) (ws : List ℕ) → length (marked e ws) ≡ length ws
  marked-length e ws = choose_case (λ (l : List ℕ). length l ≡ length ws) (shares w e.kinds) (λ t. refl) (λ t. length-set ws e.yard unwanted_f)

  wanted-is : (e : Element) (ws : List ℕ) → T (shares w e.kinds) → marked e ws ≡ ws
  wanted-is e ws t = choose_yes (shares w e.kinds) ws (set ws e.yard unwanted_f) t

  unwanted_is : (e : Element) (ws : List ℕ) → T (not (shares w e.kinds)) → marked e ws ≡ set ws e.yard unwanted_f
  unwanted_is e ws t = choose_no (shares w e.kinds) ws (set ws e.yard unwanted_f) t

  pub pass_length : (es : List Element) (ws : List ℕ) → length (pass_over w es ws) ≡ length ws
  unfolding pass_over
  pass_length [] ws = refl
  pass_length (e ∷ es) ws = pass_length es (marked e ws) ∙ marked-length e ws

  -- the f's among some values
  pub pass_values : {n : ℕ} → n ≤ 1024 → (es : List Element) {vs fs bounds : List ℕ} → Near n es → Values n vs fs bounds
      → Values n (pass_over w es vs) (pass_over w es fs) bounds
  unfolding pass_over
  pass_values few [] near p = p
  pass_values {n} few (e ∷ es) {vs} {fs} {bounds} near p = pass_values few es (λ x m. near x (tail m)) (one (T-split (shares w e.kinds)))
    where
      one : T (shares w e.kinds) ⊎ T (not (shares w e.kinds))
          → Values n (marked e vs) (marked e fs) bounds
      one (inl t) = rw (wanted-is e vs t, wanted-is e fs t) p
      one (inr t) = rw (unwanted_is e vs t, unwanted_is e fs t)
          (store_f few p e.yard unwanted_f e.yard (near e (head refl)) refl)

  -- a yard stays as it is if each element that names it is wanted
  pub pass_stays : (es : List Element) (ws : List ℕ) (y : ℕ) → ((e : Element) → Mem e es → e.yard ≡ y → T (shares w e.kinds))
      → get_or (pass_over w es ws) y 0 ≡ get_or ws y 0
  unfolding pass_over
  pass_stays [] ws y wanted = refl
  pass_stays (e ∷ es) ws y wanted = pass_stays es _ y (λ x m q. wanted x (tail m) q) ∙ one (T-split (shares w e.kinds))
    where
      one : T (shares w e.kinds) ⊎ T (not (shares w e.kinds)) → get_or (marked e ws) y 0 ≡ get_or ws y 0
      one (inl t) = rw (wanted-is e ws t) refl
      one (inr t) = rw (unwanted_is e ws t)
          (get_or-set_other ws e.yard y unwanted_f 0 (λ q. T_not (shares w e.kinds) t (wanted e (head refl) (sym q))))

  -- a mark stays
  marked-stays : (es : List Element) (ws : List ℕ) (y : ℕ) → Near (length ws) es → get_or ws y 0 ≡ unwanted_f → get_or (pass_over w es ws) y 0 ≡ unwanted_f
  unfolding pass_over
  marked-stays [] ws y near h = h
  marked-stays (e ∷ es) ws y near h = marked-stays es (marked e ws) y (λ x m. rw (marked-length e ws) (near x (tail m))) (one (T-split (shares w e.kinds)))
    where
      set-one : Dec (y ≡ e.yard) → get_or (set ws e.yard unwanted_f) y 0 ≡ unwanted_f
      set-one (yes q) = rw q (get_or-set_same ws e.yard unwanted_f 0 (near e (head refl)))
      set-one (no q) = get_or-set_other ws e.yard y unwanted_f 0 q ∙ h

      one : T (shares w e.kinds) ⊎ T (not (shares w e.kinds)) → get_or (marked e ws) y 0 ≡ unwanted_f
      one (inl t) = rw (wanted-is e ws t) h
      one (inr t) = rw (unwanted_is e ws t) (set-one (ℕ_discrete y e.yard))

  -- a yard that some element names without a wanted kind is marked
  pub pass_marks : (es : List Element) (ws : List ℕ) → Near (length ws) es → (e : Element) → Mem e es → T (not (shares w e.kinds))
      → get_or (pass_over w es ws) e.yard 0 ≡ unwanted_f
  unfolding pass_over
  pass_marks [] ws near e m t = absurd (Memᴰ.not-nil m)
  pass_marks (x ∷ xs) ws near e (head q) t =
      rw q (rw (unwanted_is x ws (rw q at t))
      (marked-stays xs (set ws x.yard unwanted_f) x.yard (λ a k. rw length-set (near a (tail k)))
      (get_or-set_same ws x.yard unwanted_f 0 (near x (head refl)))))
  pass_marks (x ∷ xs) ws near e (tail m) t = pass_marks xs (marked x ws) (λ a k. rw (marked-length x ws) (near a (tail k))) e m t

-- of a list by which an instance's yards are wanted
module _ (i : Instance) (w : ℕ) (first : List Element) (wanted : (g : Element) → Mem g first → i.wants g.yard ≡ shares w g.kinds) (ws : List ℕ) where
  -- each yard that it names keeps its word, if it is wanted, and is marked if not
  pub passed-at : Near (length ws) first → (g : Element) → Mem g first → (y x : ℕ) → g.yard ≡ y → get_or ws y 0 ≡ x
      → get_or (pass_over w first ws) y 0 ≡ choose (i.wants y) x unwanted_f
  passed-at near g m y x q h = go (T-split (i.wants y))
    where
      is : i.wants y ≡ shares w g.kinds
      is = rw q at (wanted g m)

      go : T (i.wants y) ⊎ T (not (i.wants y)) → get_or (pass_over w first ws) y 0 ≡ choose (i.wants y) x unwanted_f
      go (inl t) = pass_stays w first ws y (λ e k p. rw (← wanted e k, p) t) ∙ (h ∙ sym (choose_yes (i.wants y) x unwanted_f t))
      go (inr t) = rw q at (pass_marks w first ws near g m (rw is at t)) ∙ sym (choose_no (i.wants y) x unwanted_f t)

  -- a yard that it does not name keeps its word
  pub passed-other : (y : ℕ) → ((g : Element) → Mem g first → g.yard ≡ y → ⊥) → get_or (pass_over w first ws) y 0 ≡ get_or ws y 0
  passed-other y other = pass_stays w first ws y (λ e k p. absurd (other e k p))
