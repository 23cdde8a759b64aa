-- What a yard book that passes is, and what its refusals say: the theorems of the yard book. Assumes nothing.
use mathlib.Core.Path.{◌≡◌, refl, sym, ◌∙◌}
use mathlib.Core.Logic.{◌⊎◌, inl, inr, ◌↔◌}
use mathlib.Core.Bool.{not, ◌&&◌}
use mathlib.Core.List.{List}
use Prim.Native.Nat.{ℕ, ◌+◌, ◌-◌, ◌≤◌, ◌<◌}
use native.Mathlib.Nat.{eq-zero-or-pos}
use native.Mathlib.Omega.{arith}
use borrow.Author.Tests.{le-leb, eq-eqb}
use lib.ListN.{length, get_or}
use lib.Dec.{T, not_T, leb→le, eqb→eq}
use Rattle.book.specs.Bytes.{u16_at}
use Rattle.book.specs.Lists.{Distinct}
use Rattle.book.specs.Open.{version}
use Rattle.kinds.specs.Kinds.{kind_size, kind_at}
use Rattle.book.proofs.Choosing.{and_left, and_right, and_both, lt-or_ge, passes, fails, passed, true_T, refuse_case, first-earlier, first-later, first-none, first_case}
use Rattle.book.proofs.Opening.{opens, open_zero, open_most}
use Rattle.yard.specs.Yards.{yard_count, yard_place, yard_at, yard_kind, yards_of, yards_rise, kinds_set, inside, yard_body_refusal, yard_refusal, yard_refusal_in, YardLayout, RisingYards}
use Rattle.yard.specs.Tests.{YardValues}
use Rattle.yard.proofs.Places.{place-room}
use Rattle.yard.proofs.Listing.{from-length, from_at, Rises, rises_facts, facts_rises, rises_distinct, inside-all, all-inside, kinds-facts, facts-kinds}

-- the list of a book's yards has as many as it counts, each where the book has it
pub yards-length : (b : List ℕ) → length (yards_of b) ≡ yard_count b
unfolding yards_of
yards-length b = from-length b (yard_count b) 0

pub yards-at : (b : List ℕ) (i : ℕ) → i < yard_count b → get_or (yards_of b) i 0 ≡ yard_at b i
unfolding yards_of
yards-at b i h =
    let z : 0 + i ≡ i = omega arith in
    rw z at (from_at b (yard_count b) 0 i h)

-- test 5 holds exactly if the yards are below 1,024 and rise, and have kinds
pub rise-values : (b : List ℕ) → T (yards_rise 0 (yards_of b) && kinds_set b (yard_count b) 0) → YardValues b
rise-values b t =
    let r = rises_facts 0 (yards_of b) (and_left (yards_rise 0 (yards_of b)) (kinds_set b (yard_count b) 0) t) in
    let s = kinds-facts b (yard_count b) 0 (and_right (yards_rise 0 (yards_of b)) (kinds_set b (yard_count b) 0) t) in
    record {
      kinds = λ i h. first i (s i h);
      below = λ i h. omega (arith, yards-at b i h, r.below i (omega (arith, yards-length b)));
      rising = λ i h. omega (arith, yards-at b i (omega arith), yards-at b (i + 1) h, r.rising i (i + 1) (omega arith) (omega (arith, yards-length b)));
    }
  where
    first : (i : ℕ) → 1 ≤ yard_kind b (0 + i) → 1 ≤ yard_kind b i
    first i h =
        let z : 0 + i ≡ i = omega arith in
        rw z at h

rising-from : (b : List ℕ) → YardValues b → T (yards_rise 0 (yards_of b))
rising-from b v =
    facts_rises 0 (yards_of b) (λ h. omega arith)
    (λ i h. omega (arith, yards-at b i (omega (arith, yards-length b)), v.below i (omega (arith, yards-length b))))
    (λ i h. omega (
      arith,
      yards-at b i (omega (arith, yards-length b)),
      yards-at b (i + 1) (omega (arith, yards-length b)),
      v.rising i (omega (arith, yards-length b)),
    ))

pub values-rise : (b : List ℕ) → YardValues b → T (yards_rise 0 (yards_of b) && kinds_set b (yard_count b) 0)
values-rise b v =
    and_both (yards_rise 0 (yards_of b)) (kinds_set b (yard_count b) 0) (rising-from b v) (facts-kinds b (yard_count b) 0 (λ k h. first k (v.kinds k h)))
  where
    first : (i : ℕ) → 1 ≤ yard_kind b i → 1 ≤ yard_kind b (0 + i)
    first i h =
        let z : 0 + i ≡ i = omega arith in
        rw z h

-- test 8 holds exactly if each yard is a junction
pub inside-yards : (b : List ℕ) (n : ℕ) → T (inside n (yards_of b)) → (i : ℕ) → i < yard_count b → yard_at b i < n
inside-yards b n t i h = omega (arith, yards-at b i h, inside-all n (yards_of b) t i (omega (arith, yards-length b)))

pub yards-within : (b : List ℕ) (n : ℕ) → ((i : ℕ) → i < yard_count b → yard_at b i < n) → T (inside n (yards_of b))
yards-within b n f =
    all-inside n (yards_of b) (λ i h. omega (arith, yards-at b i (omega (arith, yards-length b)), f i (omega (arith, yards-length b))))

-- what the tests after the opening say
record Body (b : List ℕ) : Type 0 where
  pub least : 1 ≤ yard_count b
  pub most : yard_count b ≤ 256
  pub sized : length b ≡ yard_place b (yard_count b)
  pub values : T (yards_rise 0 (yards_of b) && kinds_set b (yard_count b) 0)

body_facts : (b : List ℕ) → yard_body_refusal b ≡ 0 → Body b
unfolding yard_body_refusal
body_facts b e =
    let p = passed _ _ _ e (omega arith) in
    let q = passed _ _ _ p.1 (omega arith) in
    let r = passed _ _ _ q.1 (omega arith) in
    let s = passed _ _ _ r.1 (omega arith) in
    record { least = leb→le _ _ p.0; most = leb→le _ _ q.0; sized = eqb→eq _ _ r.0; values = s.0 }

facts_body : (b : List ℕ) → Body b → yard_body_refusal b ≡ 0
unfolding yard_body_refusal
facts_body b f =
    passes _ _ _ (true_T (le-leb _ _ f.least))
    ∙ passes _ _ _ (true_T (le-leb _ _ f.most))
    ∙ passes _ _ _ (true_T (eq-eqb _ _ f.sized))
    ∙ passes _ _ _ f.values

body_rises : (b : List ℕ) → Body b → T (yards_rise 0 (yards_of b))
body_rises b f = and_left (yards_rise 0 (yards_of b)) (kinds_set b (yard_count b) 0) f.values

-- the count that the header has
pub read_count : (b : List ℕ) → u16_at b 5 ≡ yard_count b
unfolding yard_count
read_count b = refl

-- the list of a passing book's yards
pub rising-yards : (b : List ℕ) → yard_refusal b ≡ 0 → RisingYards b (yards_of b)
unfolding yard_refusal
rising-yards b e =
    let f = body_facts b (first-none _ _ e).1 in
    let r = rises_facts 0 (yards_of b) (body_rises b f) in
    record {
      counted = yards-length b;
      each = λ i h. yards-at b i (omega (arith, yards-length b));
      below = r.below;
      rising = r.rising;
      once = λ i j h k q. same r i j h k q (lt-or_ge i j) (lt-or_ge j i);
    }
  where
    same : Rises 0 (yards_of b) → (i j : ℕ) → i < length (yards_of b) → j < length (yards_of b) → get_or (yards_of b) i 0 ≡ get_or (yards_of b) j 0
        → (i < j) ⊎ (j ≤ i) → (j < i) ⊎ (i ≤ j) → i ≡ j
    same r i j h k q (inl p) s = absurd (omega (arith, r.rising i j p k))
    same r i j h k q (inr p) (inl s) = absurd (omega (arith, r.rising j i s h))
    same r i j h k q (inr p) (inr s) = omega arith

-- each yard stands once in the list
pub distinct-yards : (b : List ℕ) → yard_refusal b ≡ 0 → Distinct (yards_of b)
unfolding yard_refusal
distinct-yards b e = rises_distinct 0 (yards_of b) (body_rises b (body_facts b (first-none _ _ e).1))

-- a book that no test turns back is laid out as 01 says
pub layout : (b : List ℕ) → yard_refusal b ≡ 0 → YardLayout b
unfolding yard_refusal
layout b e =
    let f = body_facts b (first-none _ _ e).1 in
    let v = rise-values b f.values in
    record {
      opening = opens b 2 2 (first-none _ _ e).0;
      least = f.least;
      most = f.most;
      sized = f.sized;
      below = v.below;
      rising = v.rising;
      kinds = v.kinds;
    }

-- and a book that is so laid out is not turned back
pub layout-zero : (b : List ℕ) → YardLayout b → yard_refusal b ≡ 0
unfolding yard_refusal
layout-zero b y =
    first-later _ _ (open_zero b 2 2 y.opening)
    ∙ facts_body b (record {
      least = y.least;
      most = y.most;
      sized = y.sized;
      values = values-rise b (record { below = y.below; rising = y.rising; kinds = y.kinds });
    })

-- no test fails if and only if the book is laid out as 01 says
pub yard-layout : (b : List ℕ) → yard_refusal b ≡ 0 ↔ YardLayout b
yard-layout b = (layout b, layout-zero b)

-- where a passing book has yard number i
pub yard-ends : (b : List ℕ) (i : ℕ) → yard_refusal b ≡ 0 → i < yard_count b → yard_place b i + (2 + kind_size (version b)) ≤ length b
yard-ends b i e h = omega (arith, (layout b e).sized, place-room b i (yard_count b) h)

-- a passing book has a version byte
pub five : (b : List ℕ) → yard_refusal b ≡ 0 → 5 ≤ length b
five b e = omega (arith, (layout b e).opening.headed)

-- it fits a u16's count
pub count_small : (b : List ℕ) → yard_refusal b ≡ 0 → (1 ≤ yard_count b) × (yard_count b ≤ 256)
count_small b e = ((layout b e).least, (layout b e).most)

-- the bytes that code reads of yard number i
pub read_yard-at : (b : List ℕ) (i p x : ℕ) → p ≡ yard_place b i → x ≡ u16_at b p → x ≡ yard_at b i
unfolding yard_at
read_yard-at b i p x e f = rw e at f

pub read_kind-at : (b : List ℕ) (i v p x : ℕ) → v ≡ version b → p ≡ yard_place b i → x ≡ kind_at v b (p + 2) → x ≡ yard_kind b i
unfolding yard_kind
read_kind-at b i v p x e f g = rw (e, f) at g

pub read_yard : (b : List ℕ) (i p x : ℕ) → p ≡ yard_place b i → x ≡ u16_at b p → i < yard_count b → x ≡ get_or (yards_of b) i 0
read_yard b i p x e f h = read_yard-at b i p x e f ∙ sym (yards-at b i h)

-- the yard book's own tests are 1 to 5
pub yard-most : (b : List ℕ) → yard_refusal b ≤ 5
unfolding yard_refusal yard_body_refusal
yard-most b =
    first_case (λ n. n ≤ 5) _ (λ _. omega (arith, open_most b 2 2)) (λ _.
    refuse_case (λ n. n ≤ 5) _ (λ _. omega arith) (λ _.
    refuse_case (λ n. n ≤ 5) _ (λ _. omega arith) (λ _.
    refuse_case (λ n. n ≤ 5) _ (λ _. omega arith) (λ _.
    refuse_case (λ n. n ≤ 5) _ (λ _. omega arith) (λ _. omega arith)))))

-- the last yard is a junction exactly if every yard is one
pub last_inside : (b : List ℕ) (n : ℕ) → yard_refusal b ≡ 0 → get_or (yards_of b) (yard_count b - 1) 0 < n → T (inside n (yards_of b))
last_inside b n e h =
    let r = rising-yards b e in
    let l = layout b e in
    all-inside n (yards_of b) (λ i p. below r l i p (lt-or_ge i (yard_count b - 1)))
  where
    below : RisingYards b (yards_of b) → YardLayout b → (i : ℕ) → i < length (yards_of b) → (i < yard_count b - 1) ⊎ (yard_count b - 1 ≤ i)
        → get_or (yards_of b) i 0 < n
    below r l i p (inl s) = omega (arith, r.rising i (yard_count b - 1) s (omega (arith, yards-length b, l.least)))
    below r l i p (inr s) =
        let z : i ≡ yard_count b - 1 = omega (arith, yards-length b) in
        rw z h

pub last_outside : (b : List ℕ) (n : ℕ) → yard_refusal b ≡ 0 → n ≤ get_or (yards_of b) (yard_count b - 1) 0 → T (not (inside n (yards_of b)))
last_outside b n e h =
    not_T (inside n (yards_of b)) (λ t. omega (arith, inside-all n (yards_of b) t (yard_count b - 1) (omega (arith, yards-length b, (layout b e).least))))

module _ (b : List ℕ) (n : ℕ) where
  -- the answers beside a road book
  pub own_tests : 1 ≤ yard_refusal b → yard_refusal_in b n ≡ yard_refusal b
  unfolding yard_refusal_in
  own_tests h = first-earlier _ _ h

  pub outside : yard_refusal b ≡ 0 → T (not (inside n (yards_of b))) → yard_refusal_in b n ≡ 8
  unfolding yard_refusal_in
  outside e t = first-later _ _ e ∙ fails _ _ _ t

  pub within : yard_refusal b ≡ 0 → T (inside n (yards_of b)) → yard_refusal_in b n ≡ 0
  unfolding yard_refusal_in
  within e t = first-later _ _ e ∙ passes _ _ _ t

-- a book that passes beside a road book passes its own tests, and its yards are junctions
pub passes-alone : (b : List ℕ) (n : ℕ) → yard_refusal_in b n ≡ 0 → yard_refusal b ≡ 0
unfolding yard_refusal_in
passes-alone b n e = (first-none _ _ e).0

pub yards-inside : (b : List ℕ) (n : ℕ) → yard_refusal_in b n ≡ 0 → (i : ℕ) → i < length (yards_of b) → get_or (yards_of b) i 0 < n
unfolding yard_refusal_in
yards-inside b n e = inside-all n (yards_of b) (passed _ _ _ (first-none _ _ e).1 (omega arith)).0

-- beside a road book no test fails if and only if the book is laid out as 01 says and every yard is a junction
pub yard-layout_in : (b : List ℕ) (n : ℕ) → yard_refusal_in b n ≡ 0 ↔ YardLayout b × ((i : ℕ) → i < yard_count b → yard_at b i < n)
unfolding yard_refusal_in
yard-layout_in b n = (to, from)
  where
    to : yard_refusal_in b n ≡ 0 → YardLayout b × ((i : ℕ) → i < yard_count b → yard_at b i < n)
    to e =
        let p = first-none _ _ e in
        let t = (passed _ _ _ p.1 (omega arith)).0 in
        (layout b p.0, inside-yards b n t)

    from : YardLayout b × ((i : ℕ) → i < yard_count b → yard_at b i < n) → yard_refusal_in b n ≡ 0
    from y = within b n (layout-zero b y.0) (yards-within b n y.1)

-- 8 if and only if the book passes its own tests and some yard is no junction of the road book
pub yard_eight : (b : List ℕ) (n : ℕ) → yard_refusal_in b n ≡ 8 ↔ YardLayout b × ((i : ℕ) × (i < yard_count b) × (n ≤ yard_at b i))
yard_eight b n = (to, from)
  where
    some : (e : yard_refusal b ≡ 0) → yard_refusal_in b n ≡ 8
        → (get_or (yards_of b) (yard_count b - 1) 0 < n) ⊎ (n ≤ get_or (yards_of b) (yard_count b - 1) 0)
        → (i : ℕ) × (i < yard_count b) × (n ≤ yard_at b i)
    some e q (inl h) = absurd (omega (arith, within b n e (last_inside b n e h)))
    some e q (inr h) =
        let l : yard_count b - 1 < yard_count b = omega (arith, (layout b e).least) in
        (yard_count b - 1, l, omega (arith, yards-at b (yard_count b - 1) l))

    passing : yard_refusal_in b n ≡ 8 → (yard_refusal b ≡ 0) ⊎ (1 ≤ yard_refusal b) → yard_refusal b ≡ 0
    passing q (inl e) = e
    passing q (inr h) = absurd (omega (arith, own_tests b n h, yard-most b))

    to : yard_refusal_in b n ≡ 8 → YardLayout b × ((i : ℕ) × (i < yard_count b) × (n ≤ yard_at b i))
    to q =
        let e = passing q (eq-zero-or-pos (yard_refusal b)) in
        (layout b e, some e q (lt-or_ge (get_or (yards_of b) (yard_count b - 1) 0) n))

    from : YardLayout b × ((i : ℕ) × (i < yard_count b) × (n ≤ yard_at b i)) → yard_refusal_in b n ≡ 8
    from y =
        let i = y.1.0 in
        outside b n (layout-zero b y.0)
        (not_T (inside n (yards_of b)) (λ t. omega (
          arith,
          y.1.1,
          y.1.2,
          yards-at b i y.1.1,
          inside-all n (yards_of b) t i (omega (
            arith,
            yards-length b,
            y.1.1,
          )),
        )))
