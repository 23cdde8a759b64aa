-- There are lists in the order that was before: a search for one crew whose distances are the aggregates ranks the yards so. Assumes nothing.
use mathlib.Core.Path.{◌≡◌, refl, sym, ap, ◌∙◌}
use mathlib.Core.Logic.{◌⊎◌, inl, inr}
use mathlib.Core.Bool.{true, false}
use mathlib.Core.List.Memᴰ
use mathlib.Core.List.{List, [], ◌∷◌, map, Memᴰ as Mem}
use Prim.Native.Nat.{ℕ, ◌≤◌, ◌<◌, min}
use native.Mathlib.Omega.{arith}
use lib.ListN.{take, length-take}
use Rattle.search_rules.proofs.Bounds.{of_one}
use Rattle.book.specs.Lists.{Distinct}
use Rattle.book.proofs.Lists.{map-mem}
use Rattle.road_layout.specs.Road.{junctions}
use Rattle.adjacency.specs.Arcs.{net}
use Rattle.road.specs.Dijkstra.{dist}
use Rattle.road.specs.Facts.{Passing}
use Rattle.search_rules.specs.Rule.{Rule, nearest, in_drive}
use Rattle.search_rules.specs.Instance.{Instance}
use Rattle.search_rules.specs.Bounds.{aggregate, over, total, furthest}
use Rattle.search_rules.specs.Order.{Entry, entry_of, YardBefore}
use Rattle.search_rules.specs.Held.{entry, ranked}
use Rattle.search_rules.specs.Keeping.{front}
use Rattle.search_rules.specs.Theorems.{SortedBy, Out, OutBy, LeftOut}
use Rattle.search_rules.specs.Walks.{TrueEntry, FirstBy, DriveBy}
use Rattle.search_rules.specs.Fairness.{NumberBefore, WereListed}
use Rattle.search_rules.proofs.Wanted.{length-map}
use Rattle.search_rules.proofs.Held.{ranked-mem, ranked_in, ranked-sorted, ranked-length}
use Rattle.search_rules.proofs.Fronts.{front-mem, front-sorted, front-allowed, front_rest}
use Rattle.search_rules.proofs.Walks.{aggregate-least, aggregate-one, yards-distinct}
use Rattle.search_rules.proofs.AsBefore.{number-not, yard-number, sorted_as}

module _ (road : List ℕ) (roads : Passing road) (code : ℕ) (crews ys : List ℕ) (there : (q : ℕ) → Mem q crews → q < junctions road) (apart : Distinct ys)
    (known : (y : ℕ) → Mem y ys → y < junctions road) where
  -- a yard's two numbers
  sum : ℕ → ℕ
  sum y = aggregate code (λ q. dist road q y) crews

  most : ℕ → ℕ
  most y = aggregate 1 (λ q. dist road q y) crews

  -- a search for one crew, whose distance to a yard is the yard's aggregate
  lone : Rule → Instance
  lone r = record {
    code = 1;
    rule = r;
    crews = 0 ∷ [];
    tree = record { version = 1; junctions = 0; yards = 0; landmarks = 0; regions = [] };
    d = λ q y. sum y;
    admits = λ x. true;
    wants = λ x. true;
    one_way = false;
    towards = λ r. [];
    back = λ y. 0;
  }

  lone_entry : (r : Rule) (y : ℕ) → entry (lone r) y ≡ entry_of (sum y) (sum y) y
  unfolding entry total over furthest lone
  lone_entry r y = let p = of_one 1 (λ q. sum y) 0 in λ j. entry_of (p j) (p j) y

  -- a yard with its own numbers again
  own : Entry → Entry
  own e = entry_of e.distance (most e.yard) e.yard

  own_sorted : (l : List Entry) → SortedBy NumberBefore l → SortedBy NumberBefore (map own l)
  unfolding own
  own_sorted [] s = tt
  own_sorted (h ∷ l) s = ((λ g k. let (x, m, e) = map-mem own l g k in rw e (s.0 x m)), own_sorted l s.1)

  own_true : (y : ℕ) → y < junctions road → TrueEntry (net road) code crews (own (entry_of (sum y) (sum y) y))
  unfolding own sum most
  own_true y h = record { total = aggregate-least road roads code y h crews there; furthest = aggregate-least road roads 1 y h crews there }

  true_own : (e : Entry) → e.yard < junctions road → TrueEntry (net road) code crews e → e ≡ own (entry_of (sum e.yard) (sum e.yard) e.yard)
  unfolding own sum most
  true_own e h t =
      let p : e.distance ≡ sum e.yard = aggregate-one road roads code e.yard h there t.total in
      let q : e.furthest ≡ most e.yard = aggregate-one road roads 1 e.yard h there t.furthest in
      λ j. entry_of (p j) (q j) e.yard

  module _ (r : Rule) where
    all : List Entry
    all = ranked (lone r) ys

    list : List Entry
    list = map own (front r all)

    -- one of the front has the yard's numbers
    is_own : (e : Entry) → Mem e (front r all) → Mem e.yard ys × (e ≡ entry_of (sum e.yard) (sum e.yard) e.yard)
    unfolding all
    is_own e k = let (m, p) = ranked-mem (lone r) e ys (front-mem r e all k) in (m, p ∙ lone_entry r e.yard)

    sorted : SortedBy NumberBefore list
    unfolding all list
    sorted = own_sorted (front r all) (sorted_as YardBefore NumberBefore (front r all) number (front-sorted r all (ranked-sorted (lone r) ys apart)))
      where
        level : (e : Entry) → Mem e (front r all) → e.furthest ≡ e.distance
        level e k = let p = (is_own e k).1 in ap (λ (x : Entry). x.furthest) p ∙ sym (ap (λ (x : Entry). x.distance) p)

        number : (e g : Entry) → Mem e (front r all) → Mem g (front r all) → YardBefore e g → NumberBefore e g
        number e g j k = yard-number e g (level e j) (level g k)

    -- an element is one of the front with its own numbers
    from : (e : Entry) → Mem e list → (x : Entry) × Mem x (front r all) × (e ≡ own x)
    unfolding list
    from e k = map-mem own (front r all) e k

    yard : (e : Entry) → Mem e list → Mem e.yard ys
    unfolding own
    yard e k = let (x, m, p) = from e k in rw p (is_own x m).0

    numbers : (e : Entry) → Mem e list → TrueEntry (net road) code crews e
    numbers e k =
        let (x, m, p) = from e k in
        let q = is_own x m in
        rw (p, q.1) (own_true x.yard (known x.yard q.0))

    -- a yard with its numbers is listed, or left out of the front
    placed : (h : Entry) → Mem h.yard ys → TrueEntry (net road) code crews h
        → Mem h list ⊎ LeftOut r (front r all) (entry_of (sum h.yard) (sum h.yard) h.yard)
    unfolding all list
    placed h m t = go (front_rest r (entry_of (sum y) (sum y) y) all (ranked-sorted (lone r) ys apart) (Memᴰ.cast (sym (lone_entry r y)) (ranked_in (lone r) y ys m)))
      where
        y : ℕ
        y = h.yard

        go : Mem (entry_of (sum y) (sum y) y) (front r all) ⊎ LeftOut r (front r all) (entry_of (sum y) (sum y) y)
            → Mem h list ⊎ LeftOut r (front r all) (entry_of (sum y) (sum y) y)
        go (inl k) = inl (Memᴰ.cast (true_own h (known y m) t) (Memᴰ.map own k))
        go (inr o) = inr o

  were_first : (k : ℕ) → FirstBy NumberBefore (net road) code k crews ys (list (nearest k))
  unfolding all list own front
  were_first k = record {
    sorted = sorted (nearest k);
    entries = numbers (nearest k);
    yards = yard (nearest k);
    number = length-map own (take k (all (nearest k))) ∙ length-take k (all (nearest k)) ∙ ap (min k) (ranked-length (lone (nearest k)) ys);
    rest = λ h m t. out h (true_own h (known h.yard m) t) (placed (nearest k) h m t);
  }
    where
      own_entry : ℕ → Entry
      own_entry y = entry_of (sum y) (sum y) y

      after : (h g : Entry) → h ≡ own (own_entry h.yard) → Out k (take k (all (nearest k))) (own_entry h.yard) → Mem g (list (nearest k)) → NumberBefore g h
      after h g e o m =
          let (x, i, p) = from (nearest k) g m in
          let q = (is_own (nearest k) x i).1 in
          let level : x.furthest ≡ x.distance = ap (λ (z : Entry). z.furthest) q ∙ sym (ap (λ (z : Entry). z.distance) q) in
          let n : NumberBefore x (own_entry h.yard) = yard-number x (own_entry h.yard) level refl (o.after x i) in
          rw (p, e) n

      out : (h : Entry) → h ≡ own (own_entry h.yard) → Mem h (list (nearest k)) ⊎ Out k (take k (all (nearest k))) (own_entry h.yard)
          → Mem h (list (nearest k)) ⊎ OutBy NumberBefore k (list (nearest k)) h
      out h e (inl m) = inl m
      out h e (inr o) = inr (record { full = length-map own (take k (all (nearest k))) ∙ o.full; after = λ g m. after h g e o m })

  were_drive : (seconds : ℕ) → DriveBy NumberBefore (net road) code seconds crews ys (list (in_drive seconds))
  unfolding all list own front
  were_drive seconds = record {
    sorted = sorted (in_drive seconds);
    entries = numbers (in_drive seconds);
    yards = yard (in_drive seconds);
    once = yards-distinct NumberBefore number-not (list (in_drive seconds)) (sorted (in_drive seconds)) (λ h g m n e. is h m ∙ ap own_entry e ∙ sym (is g n));
    inside = λ e m. let (x, i, p) = from (in_drive seconds) e m in rw p (front-allowed (in_drive seconds) (all (in_drive seconds)) x i);
    every = λ h m t near. found h near (true_own h (known h.yard m) t) (placed (in_drive seconds) h m t);
  }
    where
      own_entry : ℕ → Entry
      own_entry y = own (entry_of (sum y) (sum y) y)

      is : (e : Entry) → Mem e (list (in_drive seconds)) → e ≡ own_entry e.yard
      is e m = true_own e (known e.yard (yard (in_drive seconds) e m)) (numbers (in_drive seconds) e m)

      found : (h : Entry) → h.distance ≤ seconds → h ≡ own_entry h.yard → Mem h (list (in_drive seconds)) ⊎ (seconds < sum h.yard)
          → Mem h (list (in_drive seconds))
      found h near e (inl m) = m
      found h near e (inr f) = absurd (omega (arith, ap (λ (x : Entry). x.distance) e))

pub were_listed : (road : List ℕ) → Passing road → (code : ℕ) (crews ys : List ℕ) → ((q : ℕ) → Mem q crews → q < junctions road) → Distinct ys
    → ((y : ℕ) → Mem y ys → y < junctions road) → WereListed road code crews ys
were_listed road roads code crews ys there apart known = record {
  first = λ k. (_, were_first road roads code crews ys there apart known k);
  drive = λ s. (_, were_drive road roads code crews ys there apart known s);
}
