-- The lists of yard order beside those of the order that was before: under the maximum the same, else with the same aggregates. Assumes nothing.
use mathlib.Core.Path.{◌≡◌, refl, sym, ◌∙◌}
use mathlib.Core.Logic.{◌⊎◌, inl, inr}
use mathlib.Core.List.Memᴰ.{head}
use mathlib.Core.List.Memᴰ.{not-nil}
use mathlib.Core.List.Memᴰ.{tail}
use mathlib.Core.List.{List, [], ◌∷◌, Memᴰ as Mem}
use Prim.Native.Nat.{ℕ, zero, suc, ◌≤◌, ◌<◌}
use native.Mathlib.Decide.{dec_lt}
use native.Mathlib.Omega.{arith}
use lib.ListN.{length, get_or, take, get_or-map}
use lib.Seq.{ext_get_or, length-take-le}
use Rattle.book.specs.Lists.{Distinct}
use Rattle.book.proofs.Lists.{get_d_mem}
use Rattle.adjacency.specs.Arcs.{Arc}
use Rattle.road.proofs.Walks.{least_unique}
use Rattle.search_rules.specs.Rule.{nearest, in_drive}
use Rattle.search_rules.specs.Order.{Entry, FairerBefore, YardBefore}
use Rattle.search_rules.specs.Theorems.{SortedBy, OutBy}
use Rattle.search_rules.specs.Walks.{AggregateLeast, none, more, TrueEntry, FirstBy, DriveBy}
use Rattle.search_rules.specs.Fairness.{NumberBefore, aggregates, AsBefore}
use Rattle.search_rules.proofs.Wanted.{length-map}
use Rattle.search_rules.proofs.Order.{before_le, before_not}
use Rattle.search_rules.proofs.Held.{take-mem}
use Rattle.search_rules.proofs.Found.{fewer, sorted-distinct, Asked, asked-one}

-- ---- the order that was

number-le : (a b : Entry) → NumberBefore a b → a.distance ≤ b.distance
number-le a b (inl p) = omega arith
number-le a b (inr p) = omega (arith, p.0)

pub number-not : (a : Entry) → NumberBefore a a → ⊥
number-not a (inl p) = omega arith
number-not a (inr p) = omega (arith, p.1)

-- of yards whose furthest crew is as far as their aggregate it is yard order
pub number-yard : (e g : Entry) → e.furthest ≡ e.distance → g.furthest ≡ g.distance → NumberBefore e g → YardBefore e g
number-yard e g p q (inl h) = inl h
number-yard e g p q (inr h) = inr (h.0, inr (p ∙ h.0 ∙ sym q, h.1))

pub yard-number : (e g : Entry) → e.furthest ≡ e.distance → g.furthest ≡ g.distance → YardBefore e g → NumberBefore e g
yard-number e g p q (inl h) = inl h
yard-number e g p q (inr h) = inr (h.0, go h.1)
  where
    go : FairerBefore e g → e.yard < g.yard
    go (inl r) = absurd (omega (arith, h.0, p, q))
    go (inr r) = r.1

-- ---- lists in some order

module _ (A B : Entry → Entry → Type 0) where
  pub sorted_as : (l : List Entry) → ((e g : Entry) → Mem e l → Mem g l → A e g → B e g) → SortedBy A l → SortedBy B l
  sorted_as [] f s = tt
  sorted_as (h ∷ l) f s = ((λ g k. f h g (head refl) (tail k) (s.0 g k)), sorted_as l (λ e g j k. f e g (tail j) (tail k)) s.1)

  out_as : {k : ℕ} {l : List Entry} {h : Entry} → ((g : Entry) → Mem g l → A g h → B g h) → OutBy A k l h → OutBy B k l h
  out_as f o = record { full = o.full; after = λ g m. f g m (o.after g m) }

-- ---- under the maximum both orders are one

module _ (arcs : List Arc) where
  -- crews have one aggregate to a junction
  pub aggregate_unique : (code y : ℕ) {qs : List ℕ} {s t : ℕ} → AggregateLeast arcs code y qs s → AggregateLeast arcs code y qs t → s ≡ t
  aggregate_unique code y none none = refl
  aggregate_unique code y (more {t = a} {s = s} l m) (more {t = b} {s = t} k n) =
      let p : a ≡ b = least_unique l k in
      let q : s ≡ t = aggregate_unique code y m n in
      cc

  furthest-is : {crews : List ℕ} (e : Entry) → TrueEntry arcs 1 crews e → e.furthest ≡ e.distance
  furthest-is e t = aggregate_unique 1 e.yard t.furthest t.total

  module _ (A B : Entry → Entry → Type 0) (code : ℕ) (crews ys : List ℕ)
      (same : (e g : Entry) → TrueEntry arcs code crews e → TrueEntry arcs code crews g → A e g → B e g) where
    first_as : (k : ℕ) (l : List Entry) → FirstBy A arcs code k crews ys l → FirstBy B arcs code k crews ys l
    first_as k l f = record {
      sorted = sorted_as A B l (λ e g j m. same e g (f.entries e j) (f.entries g m)) f.sorted;
      entries = f.entries;
      yards = f.yards;
      number = f.number;
      rest = λ h m t. go h t (f.rest h m t);
    }
      where
        go : (h : Entry) → TrueEntry arcs code crews h → Mem h l ⊎ OutBy A k l h → Mem h l ⊎ OutBy B k l h
        go h t (inl m) = inl m
        go h t (inr o) = inr (out_as A B (λ g m. same g h (f.entries g m) t) o)

    drive_as : (seconds : ℕ) (l : List Entry) → DriveBy A arcs code seconds crews ys l → DriveBy B arcs code seconds crews ys l
    drive_as seconds l f = record {
      sorted = sorted_as A B l (λ e g j m. same e g (f.entries e j) (f.entries g m)) f.sorted;
      entries = f.entries;
      yards = f.yards;
      once = f.once;
      inside = f.inside;
      every = f.every;
    }

-- ---- two lists by distance

-- no element is nearer than one before it
abbrev Level : List Entry → Type 0
Level l = SortedBy (λ e g. e.distance ≤ g.distance) l

-- an element of the first places is no further than the last of these
front-near : (d x : Entry) (j : ℕ) (l : List Entry) → Level l → j < length l → Mem x (take (suc j) l) → x.distance ≤ (get_or l j d).distance
front-near d x j [] s h k = absurd (omega arith)
front-near d x zero (g ∷ l) s h (head p) = rw p (omega arith)
front-near d x (suc j) (g ∷ l) s h (head p) = rw p (s.0 (get_or l j d) (get_d_mem l j d (omega arith)))
front-near d x zero (g ∷ l) s h (tail k) = absurd (not-nil k)
front-near d x (suc j) (g ∷ l) s h (tail k) = front-near d x j l s.1 (omega arith) k

-- an element is in the first places, or no nearer than what stands after these
front-or : (d x : Entry) (j : ℕ) (l : List Entry) → Level l → Mem x l → Mem x (take j l) ⊎ ((get_or l j d).distance ≤ x.distance)
front-or d x zero [] s k = elim k [ ]
front-or d x (suc j) [] s k = elim k [ ]
front-or d x zero (g ∷ l) s (head p) = inr (rw p (omega arith))
front-or d x zero (g ∷ l) s (tail k) = inr (s.0 x k)
front-or d x (suc j) (g ∷ l) s (head p) = inl (head p)
front-or d x (suc j) (g ∷ l) s (tail k) = go (front-or d x j l s.1 k)
  where
    go : Mem x (take j l) ⊎ ((get_or l j d).distance ≤ x.distance) → Mem x (g ∷ take j l) ⊎ ((get_or l j d).distance ≤ x.distance)
    go (inl m) = inl (tail m)
    go (inr h) = inr h

take-distinct : (j : ℕ) (l : List Entry) → Distinct l → Distinct (take j l)
take-distinct zero l s = tt
take-distinct (suc j) [] s = tt
take-distinct (suc j) (g ∷ l) s = ((λ k. s.0 (take-mem j g l k)), take-distinct j l s.1)

-- an element is in a list, or no nearer than any of it
abbrev Joins : Entry → List Entry → Type 0
Joins x l = Mem x l ⊎ ((g : Entry) → Mem g l → g.distance ≤ x.distance)

-- at no place is the other list's element further
module _ (l m : List Entry) (s : Level l) (t : Level m) (apart : Distinct l) (joins : (x : Entry) → Mem x l → Joins x m) (d : Entry) where
  not_further : (j : ℕ) → j < length l → j < length m → (get_or m j d).distance ≤ (get_or l j d).distance
  not_further j h k = go (dec_lt (get_or l j d).distance (get_or m j d).distance)
    where
      placed : (get_or l j d).distance < (get_or m j d).distance → (x : Entry) → x.distance ≤ (get_or l j d).distance → Joins x m → Mem x (take j m)
      placed far x near (inr o) = absurd (omega (arith, o (get_or m j d) (get_d_mem m j d k)))
      placed far x near (inl i) = on (front-or d x j m t i)
        where
          on : Mem x (take j m) ⊎ ((get_or m j d).distance ≤ x.distance) → Mem x (take j m)
          on (inl i) = i
          on (inr f) = absurd (omega arith)

      go : Dec ((get_or l j d).distance < (get_or m j d).distance) → (get_or m j d).distance ≤ (get_or l j d).distance
      go (no n) = omega arith
      go (yes far) = absurd (omega (
        arith,
        length-take-le (suc j) l (omega arith),
        length-take-le j m (omega arith),
        fewer (take (suc j) l) (take j m) (take-distinct (suc j) l apart)
            (λ x i. placed far x (front-near d x j l s h i) (joins x (take-mem (suc j) x l i))),
      ))

-- two lists of one length that join each other have the same aggregates
same-aggregates : (l m : List Entry) → Level l → Level m → Distinct l → Distinct m → ((x : Entry) → Mem x l → Joins x m) → ((x : Entry) → Mem x m → Joins x l)
    → length l ≡ length m → aggregates l ≡ aggregates m
same-aggregates l m s t p q f g e = ext_get_or 0 (aggregates l) (aggregates m) (length-map distance l ∙ e ∙ sym (length-map distance m)) places
  where
    distance : Entry → ℕ
    distance x = x.distance

    none_here : Entry
    none_here = record { distance = 0; furthest = 0; yard = 0 }

    places : (j : ℕ) → j < length (aggregates l) → get_or (aggregates l) j 0 ≡ get_or (aggregates m) j 0
    places j h =
        let k : j < length l = omega (arith, length-map distance l) in
        get_or-map distance l j none_here
        ∙ omega (arith, not_further l m s t p f none_here j k (omega arith), not_further m l t s q g none_here j (omega arith) k)
        ∙ sym (get_or-map distance m j none_here)

-- ---- the laws

module _ (arcs : List Arc) (crews ys : List ℕ) where
  level_first : (A : Entry → Entry → Type 0) → ((e g : Entry) → A e g → e.distance ≤ g.distance) → (l : List Entry) → SortedBy A l → Level l
  level_first A le l s = sorted_as A (λ e g. e.distance ≤ g.distance) l (λ e g j k. le e g) s

  first-joins : (A B : Entry → Entry → Type 0) → ((e g : Entry) → B e g → e.distance ≤ g.distance) → (code k : ℕ) (l m : List Entry)
      → FirstBy A arcs code k crews ys l → FirstBy B arcs code k crews ys m → (x : Entry) → Mem x l → Joins x m
  first-joins A B le code k l m f g x i = go (g.rest x (f.yards x i) (f.entries x i))
    where
      go : Mem x m ⊎ OutBy B k m x → Joins x m
      go (inl j) = inl j
      go (inr o) = inr (λ y j. le y x (o.after y j))

  -- one of the yards, with its true numbers under the maximum
  abbrev Yard : Entry → Type 0
  Yard h = Mem h.yard ys × TrueEntry arcs 1 crews h

  first-asked : (k : ℕ) (l : List Entry) → FirstBy YardBefore arcs 1 k crews ys l → Asked Yard (nearest k) l
  first-asked k l f = record {
    sorted = f.sorted;
    among = λ h m. (f.yards h m, f.entries h m);
    allowed = omega (arith, f.number);
    rest = λ h p. f.rest h p.0 p.1;
  }

  drive-asked : (s : ℕ) (l : List Entry) → DriveBy YardBefore arcs 1 s crews ys l → Asked Yard (in_drive s) l
  drive-asked s l f = record {
    sorted = f.sorted;
    among = λ h m. (f.yards h m, f.entries h m);
    allowed = f.inside;
    rest = λ h p. go h p (dec_lt s h.distance);
  }
    where
      go : (h : Entry) → Yard h → Dec (s < h.distance) → Mem h l ⊎ (s < h.distance)
      go h p (yes far) = inr far
      go h p (no near) = inl (f.every h p.0 p.1 (omega arith))

  pub as_before : AsBefore arcs crews ys
  as_before = record {
    maximum = λ e g s t. (yard-number e g (furthest-is arcs e s) (furthest-is arcs g t), number-yard e g (furthest-is arcs e s) (furthest-is arcs g t));
    maximum-first = λ k l m f g. asked-one Yard (nearest k) l m (first-asked k l f) (first-asked k m (first_as arcs NumberBefore YardBefore 1 crews ys then k m g));
    maximum-drive = λ s l m f g. asked-one Yard (in_drive s) l m (drive-asked s l f) (drive-asked s m (drive_as arcs NumberBefore YardBefore 1 crews ys then s m g));
    first = λ code k l m f g. same-aggregates l m (level_first YardBefore (λ e g. before_le) l f.sorted) (level_first NumberBefore number-le m g.sorted)
        (sorted-distinct YardBefore (λ e h. before_not h h) l f.sorted) (sorted-distinct NumberBefore number-not m g.sorted)
        (first-joins YardBefore NumberBefore number-le code k l m f g) (first-joins NumberBefore YardBefore (λ e g. before_le) code k m l g f) (f.number ∙ sym g.number);
    drive = λ code s l m f g. let p = sorted-distinct YardBefore (λ e h. before_not h h) l f.sorted in
        let q = sorted-distinct NumberBefore number-not m g.sorted in
        let there : (x : Entry) → Mem x l → Mem x m = λ x i. g.every x (f.yards x i) (f.entries x i) (f.inside x i) in
        let back : (x : Entry) → Mem x m → Mem x l = λ x i. f.every x (g.yards x i) (g.entries x i) (g.inside x i) in
        same-aggregates l m (level_first YardBefore (λ e g. before_le) l f.sorted) (level_first NumberBefore number-le m g.sorted) p q
        (λ x i. inl (there x i)) (λ x i. inl (back x i)) (omega (arith, fewer l m p there, fewer m l q back));
  }
    where
      then : (e g : Entry) → TrueEntry arcs 1 crews e → TrueEntry arcs 1 crews g → NumberBefore e g → YardBefore e g
      then e g s t = number-yard e g (furthest-is arcs e s) (furthest-is arcs g t)
