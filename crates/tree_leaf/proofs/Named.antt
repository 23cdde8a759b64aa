-- A list and the yards that it names. Assumes nothing.
use mathlib.Core.Path.{◌≡◌, refl, sym, ap, ◌∙◌}
use mathlib.Core.Logic.{◌⊎◌, inl, inr}
use mathlib.Core.Bool.{Bool, not, ◌&&◌, ◌||◌}
use mathlib.Core.List.Memᴰ.{head}
use mathlib.Core.List.Memᴰ.{not-nil}
use mathlib.Core.List.Memᴰ.{tail}
use mathlib.Core.List.{List, [], ◌∷◌, Memᴰ as Mem}
use mathlib.Core.List.Memᴰ.{cases_cons}
use mathlib.Core.List.Memᴰ.{cast}
use Prim.Native.Nat.{ℕ, suc, ◌-◌, ◌≤◌, ◌<◌}
use native.Mathlib.Omega.{arith}
use lib.ListN.{length, get_or}
use lib.Dec.{T, leb, eqb, eqb→eq, T_not, not_T, leb→le, ltb→lt, le→leb, lt→ltb}
use Rattle.book.specs.Lists.{Distinct}
use Rattle.book.proofs.Choosing.{and_left, and_right, and_both}
use Rattle.book.proofs.Lists.{or_left, or_right, or_cases, eq→eqb}
use Rattle.tree_layout.specs.Values.{Element, Mark, Region, no_mark}
use Rattle.tree_layout.specs.Refusal.{all}
use Rattle.tree_layout.proofs.Formed.{no_mark_list}
use Rattle.tree_layout.proofs.Tests.{all-mem, all_intro}
use Rattle.tree_leaf.specs.Leaf.{names, once, in_range, named_by, first_list, same_yards, agreeing, leaf_ok, yards_in}
use Rattle.tree_leaf.specs.Facts.{LeafLists}

-- ---- a list and the yards that it names

pub names-mem : (es : List Element) (y : ℕ) → T (names es y) → Mem y (yards_in es)
unfolding names yards_in
names-mem [] y t = absurd t
names-mem (e ∷ es) y t = go (or_cases (eqb e.yard y) (names es y) t) (λ s. names-mem es y s)
  where
    go : T (eqb e.yard y) ⊎ T (names es y) → (T (names es y) → Mem y (yards_in es)) → Mem y (e.yard ∷ yards_in es)
    go (inl s) rec = head (sym (eqb→eq e.yard y s))
    go (inr s) rec = tail (rec s)

pub mem-names : (es : List Element) (y : ℕ) → Mem y (yards_in es) → T (names es y)
unfolding names yards_in
mem-names [] y k = absurd (not-nil k)
mem-names (e ∷ es) y k = go (cases_cons k) (λ j. mem-names es y j)
  where
    go : (y ≡ e.yard) ⊎ Mem y (yards_in es) → (Mem y (yards_in es) → T (names es y)) → T (eqb e.yard y || names es y)
    go (inl s) rec = or_left (eqb e.yard y) (names es y) (eq→eqb e.yard y (sym s))
    go (inr j) rec = or_right (eqb e.yard y) (names es y) (rec j)

pub yards-none : yards_in [] ≡ []
unfolding yards_in
yards-none = refl

pub yards-cons : (e : Element) (es : List Element) → yards_in (e ∷ es) ≡ e.yard ∷ yards_in es
unfolding yards_in
yards-cons e es = refl

-- the first list is that of the first landmark
pub first-list-is : (ms : List Mark) → 0 < length ms → first_list ms ≡ (get_or ms 0 no_mark).list
unfolding first_list
first-list-is [] h = absurd (omega arith)
first-list-is (m ∷ ms) h = refl

pub yards_of_lem : (es : List Element) (e : Element) → Mem e es → Mem e.yard (yards_in es)
unfolding yards_in
yards_of_lem [] e k = absurd (not-nil k)
yards_of_lem (g ∷ gs) e k = go (cases_cons k) (λ j. yards_of_lem gs e j)
  where
    go : (e ≡ g) ⊎ Mem e gs → (Mem e gs → Mem e.yard (yards_in gs)) → Mem e.yard (g.yard ∷ yards_in gs)
    go (inl s) rec = head (ap (λ (x : Element). x.yard) s)
    go (inr j) rec = tail (rec j)

pub yards-from : (es : List Element) (y : ℕ) → Mem y (yards_in es) → (e : Element) × Mem e es × (e.yard ≡ y)
unfolding yards_in
yards-from [] y k = absurd (not-nil k)
yards-from (g ∷ gs) y k = go (cases_cons k) (λ j. yards-from gs y j)
  where
    go : (y ≡ g.yard) ⊎ Mem y (yards_in gs) → (Mem y (yards_in gs) → (e : Element) × Mem e gs × (e.yard ≡ y)) → (e : Element) × Mem e (g ∷ gs) × (e.yard ≡ y)
    go (inl s) rec = (g, head refl, sym s)
    go (inr j) rec = let r = rec j in (r.0, tail r.1, r.2)

pub yards-length : (es : List Element) → length (yards_in es) ≡ length es
unfolding yards_in
yards-length [] = refl
yards-length (e ∷ es) = ap suc (yards-length es)

pub once-distinct : (es : List Element) → T (once es) → Distinct (yards_in es)
unfolding once yards_in
once-distinct [] t = tt
once-distinct (e ∷ es) t = (
  (λ k. T_not (names es e.yard) (and_left (not (names es e.yard)) (once es) t) (mem-names es e.yard k)),
  once-distinct es
      (and_right (not (names es e.yard)) (once es) t),
)

-- In such a list an element is known by its yard.
pub once-listed : (es : List Element) → Distinct (yards_in es) → (e g : Element) → Mem e es → Mem g es → e.yard ≡ g.yard → e ≡ g
unfolding yards_in
once-listed [] t e g k j s = absurd (not-nil k)
once-listed (x ∷ xs) t e g k j s = go (cases_cons k) (cases_cons j) (λ k' j'. once-listed xs t.1 e g k' j' s)
  where
    go : (e ≡ x) ⊎ Mem e xs → (g ≡ x) ⊎ Mem g xs → (Mem e xs → Mem g xs → e ≡ g) → e ≡ g
    go (inl p) (inl q) rec = p ∙ sym q
    go (inl p) (inr q) rec = absurd (t.0 (cast (ap (λ (z : Element). z.yard) (sym p) ∙ s) (yards_of_lem xs g q)))
    go (inr p) (inl q) rec = absurd (t.0 (cast (ap (λ (z : Element). z.yard) (sym q) ∙ sym s) (yards_of_lem xs e p)))
    go (inr p) (inr q) rec = rec p q

pub distinct-once : (es : List Element) → Distinct (yards_in es) → T (once es)
unfolding once yards_in
distinct-once [] t = tt
distinct-once (e ∷ es) t = and_both (not (names es e.yard)) _ (not_T (names es e.yard) (λ s. t.0 (names-mem es e.yard s))) (distinct-once es t.1)

-- every yard of a list is named by another one
pub named_by_lem : (other es : List Element) → T (named_by other es) → (y : ℕ) → Mem y (yards_in es) → Mem y (yards_in other)
unfolding named_by
named_by_lem other es t y k =
    let x = yards-from es y k in
    names-mem other y (rw x.2 at (all-mem (λ (e : Element). names other e.yard) es t x.0 x.1))

pub by_named : (other es : List Element) → ((y : ℕ) → Mem y (yards_in es) → Mem y (yards_in other)) → T (named_by other es)
unfolding named_by
by_named other es f = all_intro (λ (e : Element). names other e.yard) es (λ e k. mem-names other e.yard (f e.yard (yards_of_lem es e k)))

-- ---- a leaf's lists

-- what the test of one list says, beside the first list
pub record ListFacts (r : Region) (ref : List Element) (m : Mark) : Type 0 where
  pub once-each : Distinct (yards_in m.list)
  pub in_range_lem : (y : ℕ) → Mem y (yards_in m.list) → (r.first ≤ y) × (y < r.after)
  pub to-first : (y : ℕ) → Mem y (yards_in m.list) → Mem y (yards_in ref)
  pub from_first : (y : ℕ) → Mem y (yards_in ref) → Mem y (yards_in m.list)

-- the test of one list, as `leaf_ok` asks it
abbrev list_test : Region → List Element → Mark → Bool
list_test r ref m = same_yards r.first r.after ref m.list

same-facts : (r : Region) (ref : List Element) (m : Mark) → T (list_test r ref m) → ListFacts r ref m
unfolding same_yards in_range
same-facts r ref m t = record {
  once-each = once-distinct m.list (and_left (once m.list) _ t);
  in_range_lem = λ y k. range y (yards-from m.list y k);
  to-first = named_by_lem ref m.list (and_left (named_by ref m.list) _ t2);
  from_first = named_by_lem m.list ref (and_right (named_by ref m.list) _ t2);
}
  where
    inside : Element → Bool
    inside = in_range r.first r.after

    t1 : T (all inside m.list && (named_by ref m.list && named_by m.list ref))
    t1 = and_right (once m.list) _ t

    t2 : T (named_by ref m.list && named_by m.list ref)
    t2 = and_right (all inside m.list) _ t1

    range : (y : ℕ) → (e : Element) × Mem e m.list × (e.yard ≡ y) → (r.first ≤ y) × (y < r.after)
    range y x =
        let s = all-mem inside m.list (and_left (all inside m.list) _ t1) x.0 x.1 in
        let p = leb→le r.first x.0.yard (and_left (leb r.first x.0.yard) _ s) in
        let q = ltb→lt x.0.yard r.after (and_right (leb r.first x.0.yard) _ s) in
        (omega (arith, x.2), omega (arith, x.2))

facts-same : (r : Region) (ref : List Element) (m : Mark) → ListFacts r ref m → T (list_test r ref m)
unfolding same_yards in_range
facts-same r ref m f =
    and_both (once m.list) _ (distinct-once m.list f.once-each)
    (and_both (all (in_range r.first r.after) m.list) _ (all_intro (in_range r.first r.after) m.list (λ e k. let x = f.in_range_lem e.yard
    (yards_of_lem m.list e k) in and_both (leb r.first e.yard) _ (le→leb r.first e.yard x.0) (lt→ltb e.yard r.after x.1)))
    (and_both (named_by ref m.list) _ (by_named ref m.list f.to-first) (by_named m.list ref f.from_first)))

pub list-facts : (r : Region) → T (leaf_ok r) → (m : Mark) → Mem m r.marks → ListFacts r (first_list r.marks) m
unfolding leaf_ok agreeing
list-facts r t m k = same-facts r (first_list r.marks) m (all-mem (list_test r (first_list r.marks)) r.marks t m k)

-- the test of a leaf accepts exactly the facts of its lists
pub leaf-lists : (r : Region) → T (leaf_ok r) → LeafLists r
leaf-lists r t = record {
  same = λ m k i j y x. (list-facts r t k j).from_first y ((list-facts r t m i).to-first y x);
  once = λ m i. (list-facts r t m i).once-each;
  inside = λ m i. (list-facts r t m i).in_range_lem;
}

pub lists-leaf : (r : Region) → LeafLists r → T (leaf_ok r)
unfolding leaf_ok agreeing first_list
lists-leaf r f = all_intro (list_test r (first_list r.marks)) r.marks (λ m i. facts-same r (first_list r.marks) m (go r.marks m i (λ k j. f.same m k
    i j) (λ k j. f.same k m j i) (f.once m i) (f.inside m i)))
  where
    go : (ms : List Mark) (m : Mark) → Mem m ms → ((k : Mark) → Mem k ms → (y : ℕ) → Mem y (yards_in m.list) → Mem y (yards_in k.list)) → ((k : Mark)
        → Mem k ms → (y : ℕ) → Mem y (yards_in k.list) → Mem y (yards_in m.list))
        → Distinct (yards_in m.list) → ((y : ℕ) → Mem y (yards_in m.list) → (r.first ≤ y) × (y < r.after)) → ListFacts r (first_list ms) m
    go [] m i g h p q = absurd (not-nil i)
    go (x ∷ xs) m i g h p q = record { once-each = p; in_range_lem = q; to-first = g x (head refl); from_first = h x (head refl) }

-- the yards of a leaf's first list are in its range, each once
-- the first list is the first landmark's
pub first-from : (ms : List Mark) → first_list ms ≡ (get_or ms 0 no_mark).list
unfolding first_list
first-from [] = sym no_mark_list
first-from (m ∷ ms) = refl

-- if it has an element it is that of some landmark
pub first_mark_of : (ms : List Mark) (e : Element) → Mem e (first_list ms) → (m : Mark) × Mem m ms × (first_list ms ≡ m.list)
unfolding first_list
first_mark_of [] e k = absurd (not-nil k)
first_mark_of (m ∷ ms) e k = (m, head refl, refl)

pub first_range : (r : Region) → T (leaf_ok r) → (y : ℕ) → Mem y (yards_in (first_list r.marks)) → (r.first ≤ y) × (y < r.after)
unfolding first_list yards_in
first_range r t y k = go r.marks (list-facts r t) k
  where
    go : (ms : List Mark) → ((m : Mark) → Mem m ms → ListFacts r (first_list r.marks) m) → Mem y (yards_in (first_list ms)) → (r.first ≤ y) × (y < r.after)
    go [] h j = absurd (not-nil j)
    go (m ∷ ms) h j = (h m (head refl)).in_range_lem y j

pub first-once : (r : Region) → T (leaf_ok r) → Distinct (yards_in (first_list r.marks))
unfolding first_list yards_in
first-once r t = go r.marks (list-facts r t)
  where
    go : (ms : List Mark) → ((m : Mark) → Mem m ms → ListFacts r (first_list r.marks) m) → Distinct (yards_in (first_list ms))
    go [] h = tt
    go (m ∷ ms) h = (h m (head refl)).once-each

-- the first list of some landmarks has as many pairs as each of them
pub first-length : (m y : ℕ) (ms : List Mark) → 1 ≤ m → length ms ≡ m → ((k : Mark) → Mem k ms → length k.list ≡ y) → length (first_list ms) ≡ y
unfolding first_list
first-length m y [] h e g = absurd (omega arith)
first-length m y (k ∷ ks) h e g = g k (head refl)

-- the first list is that of a landmark
pub first_mark_lem : (ms : List Mark) → 0 < length ms → (m : Mark) × Mem m ms × (first_list ms ≡ m.list)
unfolding first_list
first_mark_lem [] h = absurd (omega arith)
first_mark_lem (m ∷ ms) h = (m, head refl, refl)
