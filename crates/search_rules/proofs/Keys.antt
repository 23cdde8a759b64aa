-- The keys of regions and yards as values of the tree, the roads and the query. Assumes nothing.
use mathlib.Core.Path.{◌≡◌, refl, sym, ap, ◌∙◌}
use mathlib.Core.Logic.{◌⊎◌, inl, inr}
use mathlib.Core.Bool.{true, not}
use mathlib.Core.List.Memᴰ.{head}
use mathlib.Core.List.Memᴰ.{not-nil}
use mathlib.Core.List.Memᴰ.{tail}
use mathlib.Core.List.{List, [], ◌∷◌, Memᴰ as Mem}
use mathlib.Core.List.Memᴰ.{cases_cons}
use Prim.Native.Nat.{ℕ, zero, suc, ◌+◌, ◌≤◌, ◌<◌, max}
use native.Mathlib.Decide.{ℕ_discrete}
use native.Mathlib.Omega.{arith}
use lib.Dec.{T, T_not, eqb, eqb→eq}
use Rattle.book.specs.Choose.{choose}
use Rattle.book.proofs.Choosing.{choose_case, choose_yes, and_left, and_right, and_both}
use Rattle.book.proofs.Lists.{eq→eqb}
use Rattle.tree_layout.specs.Values.{Element}
use Rattle.tree_leaf.specs.Leaf.{names}
use Rattle.tree_leaf.proofs.Named.{names-mem, mem-names, yards_of_lem, yards-from}
use Rattle.tree.specs.Yards.{on_way}
use Rattle.tree.proofs.Reaching.{way_is}
use Rattle.search_rules.specs.Instance.{Instance, size, children, marks, leaf}
use Rattle.search_rules.specs.Rule.{Rule}
use Rattle.search_rules.specs.Books.{search_of}
use Rattle.search_rules.specs.Bounds.{table_at, lower, upper, over, total, mark_bound, bound, weight, best, best_of, chosen, list_abs_diff, yard_bound}
use Rattle.search_rules.specs.Keys.{greatest_bound, first_key, is_home, home_from, home, bound_in, yard_key}
use Rattle.search_rules.specs.Facts.{Below, inside, under, Shape, SoundInstance}
use Rattle.search_rules.proofs.Bounds.{table_bound, chosen-mem, in_chosen, lower-under, bound-under, yard_bound-le}
use Rattle.search_rules.specs.Bounds.{away_bound, first_mark, lower_to, one_way_bound, one_way_yard_bound, picked, point_bound, towards_bound, two_way_bound, two_way_yard_bound, upper_from}

-- ---- the greatest bound on the way

module _ (i : Instance) where
  -- a yard's key, by its leaf
  key_is : (y : ℕ) → yard_key i y ≡ max (bound_in i (chosen i (home i y)) (chosen i (home i y)).list y) (first_key i (home i y))
  unfolding yard_key
  key_is y = refl

  -- no bound on the way is above it
  greatest_up : (n s r v : ℕ) → s ≤ v → v < s + n → T (on_way i.tree.regions v r) → bound i v ≤ greatest_bound i n s r
  unfolding greatest_bound
  greatest_up zero s r v p q t = absurd (omega arith)
  greatest_up (suc n) s r v p q t = go (ℕ_discrete v s) (λ w. greatest_up n (suc s) r v w (omega arith) t)
    where
      here : ℕ
      here = choose (on_way i.tree.regions s r) (bound i s) 0

      go : Dec (v ≡ s) → (suc s ≤ v → bound i v ≤ greatest_bound i n (suc s) r) → bound i v ≤ max here (greatest_bound i n (suc s) r)
      go (yes e) rec =
          let x : here ≡ bound i s = choose_yes (on_way i.tree.regions s r) (bound i s) 0 (rw e at t) in
          omega (arith, x, ap (bound i) e)
      go (no e) rec = omega (arith, rec (omega arith))

  -- and it is not above what none of them is above
  greatest-least : (n s r x : ℕ) → ((v : ℕ) → T (on_way i.tree.regions v r) → bound i v ≤ x) → greatest_bound i n s r ≤ x
  unfolding greatest_bound
  greatest-least zero s r x h = omega arith
  greatest-least (suc n) s r x h =
      let one : choose (on_way i.tree.regions s r) (bound i s) 0 ≤ x =
      choose_case (λ (y : ℕ). y ≤ x) (on_way i.tree.regions s r) (λ t. h s t) (λ t. omega arith) in
      omega (arith, greatest-least n (suc s) r x h)

  first-least : (r x : ℕ) → ((v : ℕ) → T (on_way i.tree.regions v r) → bound i v ≤ x) → first_key i r ≤ x
  unfolding first_key
  first-least r x h = greatest-least (size i) 0 r x h

  first_up : (r v : ℕ) → r < size i → T (on_way i.tree.regions v r) → bound i v ≤ first_key i r
  unfolding first_key
  first_up r v h t = greatest_up (size i) 0 r v (omega arith) (omega (arith, (way_is i.tree.regions v r t).0)) t

  module _ (shape : Shape i) where
    pub first-root : first_key i 0 ≡ bound i 0
    first-root = omega (arith, first_up 0 0 shape.root (shape.own_way 0 shape.root), first-least 0 (bound i 0) only)
      where
        only : (v : ℕ) → T (on_way i.tree.regions v 0) → bound i v ≤ bound i 0
        only v t = let e : v ≡ 0 = omega (arith, (way_is i.tree.regions v 0 t).0) in rw e (omega arith)

    pub first-child : (r c : ℕ) → Mem c (children i r) → first_key i c ≡ max (bound i c) (first_key i r)
    first-child r c k = omega (
      arith,
      first_up c c inside_c (shape.own_way c inside_c),
      first-least r (first_key i c) (λ v t. first_up c v inside_c ((shape.child_way r c v k).1 (inr t))),
      first-least c (max (bound i c) (first_key i r)) (λ v t. above v ((shape.child_way r c v k).0 t)),
    )
      where
        inside_c : c < size i
        inside_c = shape.range r c k

        above : (v : ℕ) → (v ≡ c) ⊎ T (on_way i.tree.regions v r) → bound i v ≤ max (bound i c) (first_key i r)
        above v (inl e) = rw e (omega arith)
        above v (inr t) = omega (arith, first_up r v (omega (arith, shape.rise r c k, inside_c)) t)

    -- ---- a yard's leaf, and its bound there

    module _ (r : ℕ) (e : Element) (h : r < size i) (l : T (leaf i r)) (k : Mem e (chosen i r).list) where
      mark_of : (s : ℕ) → s < size i → Mem (chosen i s) (marks i s)
      mark_of s g = chosen-mem i s (shape.marked s g)

      own_home : T (is_home i r e.yard)
      unfolding is_home
      own_home = and_both (leaf i r) _ l (mem-names (chosen i r).list e.yard (yards_of_lem (chosen i r).list e k))

      -- no other leaf names it
      one-home : (s : ℕ) → s < size i → T (is_home i s e.yard) → s ≡ r
      unfolding is_home
      one-home s g t =
          let x = yards-from (chosen i s).list e.yard (names-mem (chosen i s).list e.yard (and_right (leaf i s) _ t)) in
          shape.one-leaf s r (chosen i s) (chosen i r) e.yard (and_left (leaf i s) _ t) l (mark_of s g) (mark_of r h)
          (record { element = x.0; mem = x.1; names = x.2 }) (record { element = e; mem = k; names = refl })

      home-from : (n s : ℕ) → s + n ≡ size i → s ≤ r → home_from i n s e.yard ≡ r
      unfolding home_from
      home-from zero s p q = absurd (omega arith)
      home-from (suc n) s p q = choose_case (λ (x : ℕ). x ≡ r) (is_home i s e.yard) (λ t. one-home s (omega arith) t)
          (λ t. home-from n (suc s) (omega arith) (later (ℕ_discrete s r) t))
        where
          later : Dec (s ≡ r) → T (not (is_home i s e.yard)) → suc s ≤ r
          later (yes x) t = absurd (T_not (is_home i s e.yard) t (rw x own_home))
          later (no x) t = omega arith

      home-is : home i e.yard ≡ r
      unfolding home
      home-is = home-from (size i) 0 (omega arith) (omega arith)

      -- of the elements that name it only its own
      bound-from : (es : List Element) → Mem e es → ((g : Element) → Mem g es → Mem g (chosen i r).list)
          → bound_in i (chosen i r) es e.yard ≡ yard_bound i (chosen i r) e
      unfolding bound_in
      bound-from [] j sub = absurd (not-nil j)
      bound-from (g ∷ es) j sub = choose_case (λ (x : ℕ). x ≡ yard_bound i (chosen i r) e) (eqb g.yard e.yard) (λ t. ap (yard_bound i (chosen i r)) (one t))
          (λ t. bound-from es (rest t (cases_cons j)) (λ x m. sub x (tail m)))
        where
          one : T (eqb g.yard e.yard) → g ≡ e
          one t = shape.once-listed r (chosen i r) g e l (mark_of r h) (sub g (head refl)) k (eqb→eq g.yard e.yard t)

          rest : T (not (eqb g.yard e.yard)) → (e ≡ g) ⊎ Mem e es → Mem e es
          rest t (inl p) = absurd (T_not (eqb g.yard e.yard) t (eq→eqb g.yard e.yard (ap (λ (x : Element). x.yard) (sym p))))
          rest t (inr m) = m

      -- its key
      pub yard-is : yard_key i e.yard ≡ max (yard_bound i (chosen i r) e) (first_key i r)
      yard-is = key_is e.yard ∙ rw (home-is, bound-from (chosen i r).list k (λ g m. m)) refl

    -- the key of a yard below a region is not below the region's first key
    pub below_up : {r y : ℕ} → r < size i → Below i r y → first_key i r ≤ yard_key i y
    below_up {r} {y} h (inside m a l k x w) =
        let z = in_chosen i shape h l (inside m a l k x w) in
        omega (arith, ap (yard_key i) z.names, yard-is r z.element h l z.mem)
    below_up {r} {y} h (under c a l k b) = omega (arith, first-child r c k, below_up (shape.range r c k) b)

-- ---- on a true tree

module _ (i : Instance) (sound : SoundInstance i) where
  abbrev shape : Shape i
  shape = sound.well.shape

  -- no bound on the way to a yard is above the aggregate of what the table gives of it
  first_under : {r y : ℕ} → r < size i → Below i r y → first_key i r ≤ table_bound i y → first_key i (home i y) ≤ table_bound i y
  first_under {r} {y} h (inside m a l k x w) p =
      let z = in_chosen i shape h l (inside m a l k x w) in
      let e : home i y ≡ r = rw z.names at (home-is i shape r z.element h l z.mem) in
      rw e p
  first_under {r} {y} h (under c a l k b) p = first_under (shape.range r c k) b (omega (
    arith,
    first-child i shape r c k,
    bound-under i shape sound.metric sound.symmetric sound.truth b,
  ))

  -- so its key is its bound
  pub key_bound : (r : ℕ) (e : Element) → r < size i → T (leaf i r) → Mem e (chosen i r).list → Below i 0 e.yard
      → yard_key i e.yard ≡ yard_bound i (chosen i r) e
  key_bound r e h l k below = omega (
    arith,
    yard-is i shape r e h l k,
    ap (first_key i) (home-is i shape r e h l k),
    first_under shape.root below (omega (arith, first-root i shape, bound-under i shape sound.metric sound.symmetric sound.truth below)),
    lower-under i (chosen i r) e,
  )

  -- which is not above its aggregate
  pub key_low : (y : ℕ) → Below i 0 y → yard_key i y ≤ total i y
  key_low y below = go shape.root below
    where
      go : {r : ℕ} → r < size i → Below i r y → yard_key i y ≤ total i y
      go {r} h (inside m a l k x w) =
          let z = in_chosen i shape h l (inside m a l k x w) in
          omega (
            arith,
            ap (yard_key i) z.names,
            key_bound r z.element h l z.mem (rw z.names below),
            yard_bound-le i shape sound.metric sound.symmetric sound.truth r z.element h l z.mem,
            ap (total i) z.names,
          )
      go {r} h (under c a l k b) = go (shape.range r c k) b

-- ---- a search of two books: what is asked for beside the aggregate matters to no key

pub key_alone : (road tree crews : List ℕ) (code : ℕ) (r s : Rule) (v w : ℕ) (y : ℕ)
    → yard_key (search_of road tree (record { code = code; rule = r; wanted = v }) crews) y
    ≡ yard_key (search_of road tree (record { code = code; rule = s; wanted = w }) crews) y
unfolding search_of yard_key home home_from is_home bound_in first_key greatest_bound size leaf chosen best_of best weight lower upper table_at marks yard_bound list_abs_diff over bound mark_bound two_way_bound one_way_bound away_bound towards_bound upper_from lower_to picked first_mark two_way_yard_bound one_way_yard_bound point_bound
key_alone road tree crews code r s v w y = refl
