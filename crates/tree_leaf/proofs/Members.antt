-- The members of a list's yards, and the tests by it. Assumes nothing.
use mathlib.Core.Path.{◌≡◌, refl, sym, ap, ◌∙◌}
use mathlib.Core.Bool.{Bool, true, false, not, ◌&&◌, ◌||◌}
use mathlib.Core.List.{List, [], ◌∷◌}
use Prim.Native.Nat.{ℕ, zero, suc, ◌+◌, ◌-◌, ◌≤◌, ◌<◌}
use native.Mathlib.Nat.{sub-zero}
use native.Mathlib.Decide.{ℕ_discrete}
use native.Mathlib.Omega.{arith}
use borrow.Author.Tests.{eq-eqb, ne_eqb}
use lib.ListN.{length, get_or, set, replicate, length-set, length-replicate}
use lib.Seq.{get_or-set_same, get_or-set_other}
use lib.Dec.{T, leb, ltb, eqb, ltb→lt}
use Rattle.book.specs.Open.{version}
use Rattle.book.proofs.Choosing.{and_left, and_right, true_T, T_true}
use Rattle.tree_layout.specs.Sizes.{element_size, list_size, leaf_mark_size}
use Rattle.tree_layout.specs.Values.{Element}
use Rattle.tree_layout.specs.Decode.{element_at, read_list, list_part, read_lists}
use Rattle.tree_layout.specs.Refusal.{all}
use Rattle.tree_layout.proofs.Accessing.{part_length}
use Rattle.tree_layout.proofs.Reading.{all_none, all-next, list-turn, list_on, list-none}
use Rattle.tree_layout.proofs.Sizes.{list-zero, list-more}
use Rattle.tree_leaf.specs.Leaf.{names, once, in_range, named_by, first_list, same_yards, agreeing}
use Rattle.tree_leaf.specs.code.Members.{members_of, is_member, fits}
use Rattle.tree_leaf.proofs.Listing.{once_stop, once-next, range-out, range-next, same-to, same_from, first-list, agree_stop, agree_end}

-- ---- what a members has

pub members_length : (es : List Element) → length (members_of es) ≡ 1024
unfolding members_of
members_length [] = length-replicate 1024 false
members_length (e ∷ es) = length-set (members_of es) e.yard true ∙ members_length es

none_in : (n y : ℕ) → get_or (replicate n false) y false ≡ false
none_in zero y = refl
none_in (suc n) zero = refl
none_in (suc n) (suc y) = none_in n y

-- it has yard y exactly if the list names y
pub members_names : (es : List Element) (y : ℕ) → y < 1024 → get_or (members_of es) y false ≡ names es y
unfolding members_of names
members_names [] y h = none_in 1024 y
members_names (e ∷ es) y h = go (ℕ_discrete y e.yard) (members_names es y h)
  where
    go : Dec (y ≡ e.yard) → get_or (members_of es) y false ≡ names es y → get_or (set (members_of es) e.yard true) y false ≡ (eqb e.yard y || names es y)
    go (yes q) rec = rw q (get_or-set_same (members_of es) e.yard true false (omega (arith, members_length es)) ∙ sym (simp (eq-eqb e.yard e.yard refl)))
    go (no q) rec = get_or-set_other (members_of es) e.yard y true false q ∙ rec ∙ sym (simp (ne_eqb e.yard y (λ z. q (sym z))))

-- ---- a list's own test, from its last pair on

-- a pair ends where the next one stands
list_before : (v k : ℕ) → 1 ≤ k → list_size v (k - 1) + element_size v ≡ list_size v k
list_before v k h =
    let s : suc (k - 1) ≡ k = omega arith in
    sym (list-more v (k - 1)) ∙ ap (list_size v) s

and_no : (a b : Bool) → b ≡ false → (a && b) ≡ false
and_no true b e = e
and_no false b e = refl

-- a list fails if the pairs after one of it do
fails_on : (low high : ℕ) (e : Element) (es : List Element) → fits low high es ≡ false → fits low high (e ∷ es) ≡ false
unfolding fits once
fails_on low high e es f = rw (all-next (in_range low high) e es) (go (not (names es e.yard)) (once es) (in_range low high e) (all (in_range low high) es) f)
  where
    go : (a b c d : Bool) → (b && d) ≡ false → ((a && b) && (c && d)) ≡ false
    go true true c d q = and_no c d q
    go true false c d q = refl
    go false b c d q = refl

module _ (v : ℕ) (p : List ℕ) (n low high : ℕ) where
  pub fails_all : (k : ℕ) → k ≤ n → fits low high (read_list v p (n - k) (list_size v k)) ≡ false → fits low high (read_list v p n 0) ≡ false
  fails_all zero h f =
      let z = list-zero v in
      simp (sub-zero, z) at f
  fails_all (suc k) h f =
      fails_all k (omega arith)
      (rw (list-turn v p n k (list_size v k) (omega arith)) (fails_on low high (element_at v p (list_size v k)) (read_list v p (n - (k + 1)) (list_size v k + element_size v)) (later f)))
    where
      later : fits low high (read_list v p (n - suc k) (list_size v (suc k))) ≡ false → fits low high (read_list v p (n - (k + 1)) (list_size v k + element_size v)) ≡ false
      later g =
          let a : n - suc k ≡ n - (k + 1) = omega arith in
          let b : list_size v (suc k) ≡ list_size v k + element_size v = list-more v k in
          rw (← a, ← b) g

  -- no pair is done
  pub none_done : (k : ℕ) (members : List Bool) → k ≡ n → members ≡ replicate 1024 false
      → (members ≡ members_of (read_list v p (n - k) (list_size v k))) × (fits low high (read_list v p (n - k) (list_size v k)) ≡ true)
  unfolding members_of fits once
  none_done k members e f = rw (list-none v p n k (list_size v k) (omega arith)) (f, all_none (in_range low high))

  -- all are
  pub all_done : (k : ℕ) (members : List Bool) → k ≡ 0
      → (members ≡ members_of (read_list v p (n - k) (list_size v k))) × (fits low high (read_list v p (n - k) (list_size v k)) ≡ true)
      → (true ≡ fits low high (read_list v p n 0)) × (◌≡◌ {A = Bool} true true → members ≡ members_of (read_list v p n 0))
  all_done k members e d =
      let q : read_list v p (n - k) (list_size v k) ≡ read_list v p n 0 = rw e (simp (sub-zero, list-zero v)) in
      (sym (rw (← q) d.1), λ z. rw (← q) d.0)

  -- a failure, as the loop answers it
  pub failed : (members : List Bool) → fits low high (read_list v p n 0) ≡ false → (false ≡ fits low high (read_list v p n 0)) × (false ≡ true
      → members ≡ members_of (read_list v p n 0))
  failed members f = (sym f, λ z. let x : ◌≡◌ {A = ℕ} 0 1 = cc in absurd (omega arith))

  -- the pair before the k of which those after are done
  module _ (k y : ℕ) (z : 1 ≤ k) (h : k ≤ n) (e : y ≡ (element_at v p (list_size v (k - 1))).yard) where
    earlier : k - 1 < n
    earlier = omega arith

    rest-is : read_list v p (n - (k - 1 + 1)) (list_size v (k - 1) + element_size v) ≡ read_list v p (n - k) (list_size v k)
    rest-is =
        let a : n - (k - 1 + 1) ≡ n - k = omega arith in
        let b : list_size v (k - 1) + element_size v ≡ list_size v k = list_before v k z in
        rw (a, b) refl

    whole_fails : fits low high (read_list v p (n - (k - 1)) (list_size v (k - 1))) ≡ false → fits low high (read_list v p n 0) ≡ false
    whole_fails f = fails_all (k - 1) (omega arith) f

    pub fails_out : (leb low y && ltb y high) ≡ false → fits low high (read_list v p n 0) ≡ false
    unfolding fits
    fails_out q = whole_fails (and_no (once (read_list v p (n - (k - 1)) (list_size v (k - 1)))) _ (range-out v p n (k - 1) (list_size v (k - 1)) low high y earlier e q))

    module _ (members : List Bool) (d : (members ≡ members_of (read_list v p (n - k) (list_size v k)))
        × (fits low high (read_list v p (n - k) (list_size v k)) ≡ true)) (w : y < 1024) where
      named : get_or members y false ≡ names (read_list v p (n - (k - 1 + 1)) (list_size v (k - 1) + element_size v)) y
      named = rw (d.0, rest-is) (members_names (read_list v p (n - k) (list_size v k)) y w)

      pub fails_twice : get_or members y false ≡ true → fits low high (read_list v p n 0) ≡ false
      unfolding fits
      fails_twice t = whole_fails (rw (once_stop v p n (k - 1) (list_size v (k - 1)) y (n - (k - 1 + 1)) earlier e refl (sym named ∙ t)) refl)

      pub one_more : get_or members y false ≡ false → (leb low y && ltb y high) ≡ true
          → (set members y true ≡ members_of (read_list v p (n - (k - 1)) (list_size v (k - 1)))) × (fits low high (read_list v p (n - (k - 1)) (list_size v (k - 1))) ≡ true)
      unfolding fits members_of
      one_more t q = (
        rw (list-turn v p n (k - 1) (list_size v (k - 1)) earlier, ← e, rest-is, d.0) refl,
        rw (
          sym (once-next v p n (k - 1) (list_size v (k - 1)) y (n - (k - 1 + 1)) earlier e refl (sym named
              ∙ t)),
          sym (range-next v p n (k - 1) (list_size v (k - 1)) low high y earlier e q),
          rest-is,
        ) d.1,
      )

-- ---- two lists by their sets

range-below : (low high : ℕ) (e : Element) → T (in_range low high e) → e.yard < high
unfolding in_range
range-below low high e t = ltb→lt e.yard high (and_right (leb low e.yard) _ t)

-- a list's yards are below 1,024
small : (low high : ℕ) (es : List Element) → high ≤ 1024 → all (in_range low high) es ≡ true → (other : List Element)
    → all (is_member (members_of other)) es ≡ named_by other es
unfolding is_member named_by
small low high [] h a other = all_none (is_member (members_of other)) ∙ sym (all_none (λ (x : Element). names other x.yard))
small low high (e ∷ es) h a other =
    let b : T (in_range low high e && all (in_range low high) es) = true_T (sym (all-next (in_range low high) e es) ∙ a) in
    let c : get_or (members_of other) e.yard false ≡ names other e.yard = members_names other e.yard (within (and_left (in_range low high e) _ b)) in
    let d : all (is_member (members_of other)) es ≡ named_by other es = small low high es h (T-eq (and_right (in_range low high e) _ b)) other in
    all-next (is_member (members_of other)) e es ∙ joined c d ∙ sym (all-next (λ (x : Element). names other x.yard) e es)
  where
    within : T (in_range low high e) → e.yard < 1024
    within t = omega (arith, range-below low high e t)

    T-eq : {x : Bool} → T x → x ≡ true
    T-eq {x} t = T_true x t

    joined : {a b c d : Bool} → a ≡ c → b ≡ d → (a && b) ≡ (c && d)
    joined p q = rw (p, q) refl

-- a list that fails its own test
pub list_fails : (low high : ℕ) (ref es : List Element) → fits low high es ≡ false → same_yards low high ref es ≡ false
unfolding fits same_yards
list_fails low high ref es q = go (once es) (all (in_range low high) es) _ q
  where
    go : (a b c : Bool) → (a && b) ≡ false → (a && (b && c)) ≡ false
    go true true c z = let y : ◌≡◌ {A = ℕ} 0 1 = cc in absurd (omega arith)
    go true false c z = refl
    go false b c z = refl

module _ (low high : ℕ) (ref es : List Element) (h : high ≤ 1024) (f : fits low high ref ≡ true) where
  ref_range : all (in_range low high) ref ≡ true
  unfolding fits
  ref_range = T_true _ (and_right (once ref) _ (true_T f))

  module _ (g : fits low high es ≡ true) where
    es_once : once es ≡ true
    unfolding fits
    es_once = T_true _ (and_left (once es) _ (true_T g))

    es_range : all (in_range low high) es ≡ true
    unfolding fits
    es_range = T_true _ (and_right (once es) _ (true_T g))

    pub same-not-named : (named : List Bool) → named ≡ members_of ref → all (is_member named) es ≡ false → same_yards low high ref es ≡ false
    same-not-named named e q = same-to low high ref es es_once es_range (sym (small low high es h es_range ref) ∙ rw (← e) q)

    pub same_by_members : (named members : List Bool) → named ≡ members_of ref → all (is_member named) es ≡ true → members ≡ members_of es
        → same_yards low high ref es ≡ all (is_member members) ref
    same_by_members named members e q t =
        same_from low high ref es es_once es_range (sym (small low high es h es_range ref) ∙ rw (← e) q) ∙ rw t (sym (small low high ref h ref_range es))

-- ---- the first of a leaf's lists

-- its test, and what it leaves
module _ (b : List ℕ) (n m start low high : ℕ) (some : 0 < m) (r : Bool) (named : List Bool) (v : ℕ) (p : List ℕ) (edition : v ≡ version b)
    (part : p ≡ list_part (version b) b n (start + 2)) (t : r ≡ fits low high (read_list v p n 0)) (w : r ≡ true → named ≡ members_of (read_list v p n 0)) where
  pub first_fails : r ≡ false → agreeing low high (first_list (read_lists b n m start)) (read_lists b n m start) ≡ false
  first_fails q =
      let g : fits low high (read_list (version b) (list_part (version b) b n (start + 2)) n 0) ≡ false = rw (← part, ← edition) (sym t ∙ q) in
      let z : m - 0 ≡ m = omega arith in
      rw (← z) (agree_stop b n m 0 start low high (first_list (read_lists b n (m - 0) start)) (read_list (version b) (list_part (version b) b n (start + 2)) n 0) (rw z (first-list b n m start some)) some (list_fails low high (read_list (version b) (list_part (version b) b n (start + 2)) n 0) (read_list (version b) (list_part (version b) b n (start + 2)) n 0) g))

  pub first_fits : r ≡ true → (fits low high (read_list (version b) (list_part (version b) b n (start + 2)) n 0) ≡ true) × (named ≡ members_of (read_list (version b) (list_part (version b) b n (start + 2)) n 0))
  first_fits q = (rw (← part, ← edition) (sym t ∙ q), rw (← part, ← edition) (w q))

-- what is known of a list as a part of its own
module _ (b : List ℕ) (n start v : ℕ) (p : List ℕ) (edition : v ≡ version b) (part : p ≡ list_part (version b) b n (start + 2)) where
  pub part_room : start + leaf_mark_size (version b) n ≤ length b → list_size v n ≤ length p
  part_room h = rw edition (omega (arith, ap length part, part_length (version b) b n start h))

  pub part-fits : (low high : ℕ) → fits low high (read_list (version b) (list_part (version b) b n (start + 2)) n 0) ≡ true → fits low high (read_list v p n 0) ≡ true
  part-fits low high f = rw (edition, part) f

  pub part_members : (named : List Bool) → named ≡ members_of (read_list (version b) (list_part (version b) b n (start + 2)) n 0) → named ≡ members_of (read_list v p n 0)
  part_members named e = rw (edition, part) e

-- no list
pub none_agree : (b : List ℕ) (n m start low high : ℕ) → m ≡ 0 → agreeing low high (first_list (read_lists b n m start)) (read_lists b n m start) ≡ true
none_agree b n m start low high z =
    let q : m - 0 ≡ m = omega arith in
    rw (← q) (agree_end b n m 0 start low high (first_list (read_lists b n (m - 0) start)) (omega arith))
