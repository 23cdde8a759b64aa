-- Words set by yard, one element at a time. Assumes nothing.
use mathlib.Core.Path.{◌≡◌, refl, sym, ap, ◌∙◌}
use mathlib.Core.List.Memᴰ
use mathlib.Core.List.Memᴰ.{head}
use mathlib.Core.List.Memᴰ.{tail}
use mathlib.Core.List.{List, [], ◌∷◌, Memᴰ as Mem}
use Prim.Native.Nat.{ℕ, ◌+◌, ◌-◌, ◌≤◌, ◌<◌}
use native.Mathlib.Decide.{ℕ_discrete}
use native.Mathlib.Nat.{sub-zero}
use lib.ListN.{length, get_or, set, length-set}
use lib.Seq.{get_or-set_same, get_or-set_other}
use Rattle.tree_layout.specs.Values.{Element}
use Rattle.tree_layout.specs.Sizes.{list_size}
use Rattle.tree_layout.specs.Decode.{element_at, read_list}
use Rattle.tree_layout.specs.Reading.{element}
use Rattle.tree_layout.specs.code.Accessors.{listed_at}
use Rattle.tree_layout.specs.declared.Listed.{Listed}
use Rattle.tree_layout.proofs.Sizes.{list-zero}
use Rattle.tree_layout.proofs.Reading.{list_on, list-none}
use Rattle.tree_layout.proofs.Accessing.{listed-is}
use Rattle.search_bounds.specs.code.Rows.{rows_lower}
use Rattle.search_bounds.specs.code.Measures.{longest}
use Rattle.search_state.specs.code.State.{bounds_at}
use Rattle.search_state.proofs.Values.{Values, store_f, store_bound}
use Rattle.search_leaf.specs.code.Leaves.{Near, by_yard, by_yards, ShortList}
use Rattle.search_leaf.proofs.Numbering.{listed-mem}

-- ---- an element by its number

-- the yard of element number k is where the list's yards are
pub yard-near : (v : ℕ) (p : List ℕ) (n k w : ℕ) (e : Listed) → k < n → e ≡ listed_at v p k → Near w (read_list v p n 0) → e.yard.number < w
yard-near v p n k w e h q near = near (element e.distance e.yard.number e.kinds) (listed-mem v p n k h e q)

-- what is computed of it is short
module _ (table : List ℕ) (rows : ℕ) (crews : List ℕ) (v : ℕ) (p : List ℕ) (n k : ℕ) (e : Listed) (h : k < n) (q : e ≡ listed_at v p k)
    (short : ShortList table rows crews (read_list v p n 0)) where
  pub distance-short : e.distance ≤ longest
  distance-short = short.distances (element e.distance e.yard.number e.kinds) (listed-mem v p n k h e q)

  pub lower-short : (c : ℕ) → Mem c crews → rows_lower table rows e.yard.number c ≤ longest
  lower-short = short.lowers (element e.distance e.yard.number e.kinds) (listed-mem v p n k h e q)

-- ---- with k of n elements done

-- two values set by yard from the place on are those set from the start
pub record Filled (g b : Element → ℕ) (v : ℕ) (p : List ℕ) (n k : ℕ) (ws₀ ws : List ℕ) : Type 0 where
  pub same : length ws ≡ length ws₀
  pub rest : by_yards g b (read_list v p (n - k) (list_size v k)) ws ≡ by_yards g b (read_list v p n 0) ws₀

module _ (g b : Element → ℕ) (v : ℕ) (p : List ℕ) (n : ℕ) where
  pub filled_none : (ws : List ℕ) → Filled g b v p n 0 ws ws
  filled_none ws = record { same = refl; rest = simp (sub-zero, list-zero) }

  module _ (k : ℕ) (ws₀ ws : List ℕ) (f : Filled g b v p n k ws₀ ws) where
    pub filled_more : k < n → (e : Listed) → e ≡ listed_at v p k → (x y i j : ℕ)
        → x ≡ g (element e.distance e.yard.number e.kinds) → y ≡ b (element e.distance e.yard.number e.kinds)
        → i ≡ e.yard.number → j ≡ bounds_at + e.yard.number
        → Filled g b v p n (k + 1) ws₀ (set (set ws i x) j y)
    unfolding by_yards
    filled_more h e q x y i j ex ey ei ej = record {
      same = length-set (set ws i x) j y ∙ (length-set ws i x ∙ f.same);
      rest = sym step ∙ f.rest;
    }
      where
        is : element_at v p (list_size v k) ≡ element e.distance e.yard.number e.kinds
        is = sym (listed-is v p k e q)

        step : by_yards g b (read_list v p (n - k) (list_size v k)) ws
            ≡ by_yards g b (read_list v p (n - (k + 1)) (list_size v (k + 1))) (set (set ws i x) j y)
        step = rw (ex, ey, ei, ej, list_on v p n k h, is) refl

    pub filled-all : n ≤ k → ws ≡ by_yards g b (read_list v p n 0) ws₀
    unfolding by_yards
    filled-all h = rw (list-none v p n k (list_size v k) h) at f.rest

-- ---- the parts of values that are so set

pub by_yards-values : {n : ℕ} → n ≤ 1024 → (g b : Element → ℕ) (es : List Element) {vs fs bounds : List ℕ} → Near n es → Values n vs fs bounds
    → Values n (by_yards g b es vs) (by_yard g es fs) (by_yard b es bounds)
unfolding by_yards by_yard
by_yards-values few g b [] near p = p
by_yards-values few g b (e ∷ es) near p =
    let h = near e (head refl) in
    by_yards-values few g b es (λ x m. near x (tail m)) (store_bound few (store_f few p e.yard (g e) e.yard h refl) (bounds_at + e.yard) (b e) e.yard h refl)

-- ---- what the words are

module _ (g : Element → ℕ) where
  pub by_yard-length : (es : List Element) (ws : List ℕ) → length (by_yard g es ws) ≡ length ws
  unfolding by_yard
  by_yard-length [] ws = refl
  by_yard-length (e ∷ es) ws = by_yard-length es (set ws e.yard (g e)) ∙ length-set ws e.yard (g e)

  -- a word stays if each element at its place has the same
  pub by_yard-kept : (es : List Element) (ws : List ℕ) (y v : ℕ) → Near (length ws) es → get_or ws y 0 ≡ v
      → ((e : Element) → Mem e es → e.yard ≡ y → g e ≡ v)
      → get_or (by_yard g es ws) y 0 ≡ v
  unfolding by_yard
  by_yard-kept [] ws y v near h same = h
  by_yard-kept (x ∷ xs) ws y v near h same =
      by_yard-kept xs (set ws x.yard (g x)) y v (λ e m. rw length-set (near e (tail m))) (one (ℕ_discrete y x.yard)) (λ e m q. same e (tail m) q)
    where
      one : Dec (y ≡ x.yard) → get_or (set ws x.yard (g x)) y 0 ≡ v
      one (yes q) = rw q (get_or-set_same ws x.yard (g x) 0 (near x (head refl)) ∙ same x (head refl) (sym q))
      one (no q) = get_or-set_other ws x.yard y (g x) 0 q ∙ h

  -- a list that names each yard once has each element's word at its yard
  pub by_yard-at : (es : List Element) (ws : List ℕ) → Near (length ws) es → ((e h : Element) → Mem e es → Mem h es → e.yard ≡ h.yard → e ≡ h)
      → (e : Element) → Mem e es → get_or (by_yard g es ws) e.yard 0 ≡ g e
  unfolding by_yard
  by_yard-at [] ws near once e m = absurd (Memᴰ.not-nil m)
  by_yard-at (x ∷ xs) ws near once e (head q) =
      by_yard-kept xs (set ws x.yard (g x)) e.yard (g e) (λ a k. rw length-set (near a (tail k)))
      (rw q (get_or-set_same ws x.yard (g x) 0 (near x (head refl)))) (λ a k s. ap g (once a e (tail k) (head q) s))
  by_yard-at (x ∷ xs) ws near once e (tail m) =
      by_yard-at xs (set ws x.yard (g x)) (λ a k. rw length-set (near a (tail k))) (λ a b j k s. once a b (tail j) (tail k) s) e m
