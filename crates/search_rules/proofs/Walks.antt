-- A settled search of true books lists the first yards by the walks' own definition of distance. Assumes nothing.
use mathlib.Core.Path.{◌≡◌, refl, sym, ap, ◌∙◌}
use mathlib.Core.Logic.{◌⊎◌, inl, inr}
use mathlib.Core.List.Memᴰ.{head}
use mathlib.Core.List.Memᴰ.{tail}
use mathlib.Core.List.{List, [], ◌∷◌, map, Memᴰ as Mem}
use Prim.Native.Nat.{ℕ, ◌≤◌, ◌<◌, min}
use native.Mathlib.Omega.{arith}
use lib.ListN.{length, length-take}
use lib.Dec.{T}
use Rattle.book.specs.Lists.{Distinct, keep_if}
use Rattle.book.proofs.Lists.{map-mem}
use Rattle.road_layout.specs.Road.{junctions}
use Rattle.adjacency.specs.Arcs.{net}
use Rattle.road.specs.Dijkstra.{dist}
use Rattle.road.specs.Facts.{Passing}
use Rattle.road.proofs.Walks.{least_unique}
use Rattle.road.proofs.Theorems.{metric}
use Rattle.tree_layout.specs.Decode.{decode}
use Rattle.tree.specs.Yards.{tree_yards}
use Rattle.search_rules.specs.Rule.{Asking, nearest, in_drive}
use Rattle.search_rules.specs.Instance.{Instance}
use Rattle.search_rules.specs.Books.{search_of, Passed}
use Rattle.search_rules.specs.Bounds.{aggregate, over, total, furthest}
use Rattle.search_rules.specs.Held.{entry, ranked}
use Rattle.search_rules.specs.Keeping.{front}
use Rattle.search_rules.specs.Run.{answer}
use Rattle.search_rules.specs.Facts.{Below, SoundInstance}
use Rattle.search_rules.specs.Order.{Entry, YardBefore}
use Rattle.search_rules.specs.Theorems.{SortedBy, LeftOut, Allowed, TreeYards, Listing}
use Rattle.search_rules.specs.Walks.{AggregateLeast, none, more, TrueEntry, FirstYards, DriveYards}
use Rattle.search_rules.proofs.Order.{before_not}
use Rattle.search_rules.proofs.Held.{ranked-length}
use Rattle.search_rules.proofs.Found.{entry-same, run-complete}
use Rattle.search_rules.proofs.Theorems.{answer-settled, answer-listed, answer-listing, answer-exact}
use Rattle.search_rules.proofs.Asked.{asked-yards, asked-there}

-- yards of a list in some order whose equal yards are one are distinct
pub yards-distinct : (A : Entry → Entry → Type 0) → ((e : Entry) → A e e → ⊥) → (l : List Entry) → SortedBy A l
    → ((h g : Entry) → Mem h l → Mem g l → h.yard ≡ g.yard → h ≡ g) → Distinct (map (λ (e : Entry). e.yard) l)
yards-distinct A n [] s d = tt
yards-distinct A n (h ∷ l) s d = (
  (λ m.
      let (g, j, e) = map-mem (λ (x : Entry). x.yard) l h.yard m in
      let b : A h g = s.0 g j in
      n h (rw (← d h g (head refl) (tail j) e) at b)),
  yards-distinct A n l s.1 (λ x g a b. d x g (tail a) (tail b)),
)

-- ---- an aggregate of distances is that of the walks' least totals, and no other number is

module _ (road : List ℕ) (roads : Passing road) (code : ℕ) where
  pub aggregate-least : (y : ℕ) → y < junctions road → (qs : List ℕ) → ((q : ℕ) → Mem q qs → q < junctions road)
      → AggregateLeast (net road) code y qs (aggregate code (λ q. dist road q y) qs)
  unfolding aggregate
  aggregate-least y h [] k = none
  aggregate-least y h (q ∷ qs) k = more ((metric road roads).least q y (k q (head refl)) h) (aggregate-least y h qs (λ x j. k x (tail j)))

  pub aggregate-one : (y : ℕ) → y < junctions road → {qs : List ℕ} {s : ℕ} → ((q : ℕ) → Mem q qs → q < junctions road) → AggregateLeast (net road) code y qs s
      → s ≡ aggregate code (λ q. dist road q y) qs
  unfolding aggregate
  aggregate-one y h k none = refl
  aggregate-one y h k (more {q = q} {t = t} {s = s} {qs = qs} l a) =
      let e : t ≡ dist road q y = least_unique l ((metric road roads).least q y (k q (head refl)) h) in
      let f : s ≡ aggregate code (λ x. dist road x y) qs = aggregate-one y h (λ x j. k x (tail j)) a in
      cc

module _ (road tree : List ℕ) (a : Asking) (crews : List ℕ) (p : Passed road tree crews) where
  abbrev i : Instance
  i = search_of road tree a crews

  -- the tree book's wanted yards
  abbrev wanted : List ℕ
  wanted = keep_if i.wants (tree_yards (decode tree))

  total-is : (y : ℕ) → total i y ≡ aggregate a.code (λ q. dist road q y) crews
  unfolding total over search_of
  total-is y = refl

  pub total-least : (y : ℕ) → y < junctions road → AggregateLeast (net road) a.code y crews (total i y)
  total-least y h = rw total-is (aggregate-least road p.roads a.code y h crews p.there)

  pub total-one : (y s : ℕ) → y < junctions road → AggregateLeast (net road) a.code y crews s → s ≡ total i y
  total-one y s h l = aggregate-one road p.roads a.code y h p.there l ∙ sym (total-is y)

  furthest-is : (y : ℕ) → furthest i y ≡ aggregate 1 (λ q. dist road q y) crews
  unfolding furthest search_of
  furthest-is y = refl

  -- a yard's true numbers are those of its entry, and no others are
  pub entry_true : (y : ℕ) → y < junctions road → TrueEntry (net road) a.code crews (entry i y)
  unfolding entry
  entry_true y h = record {
    total = total-least y h;
    furthest = rw furthest-is (aggregate-least road p.roads 1 y h crews p.there);
  }

  pub true_entry : (e : Entry) → e.yard < junctions road → TrueEntry (net road) a.code crews e → e ≡ entry i e.yard
  unfolding entry
  true_entry e h t =
      let p₁ : e.distance ≡ total i e.yard = total-one e.yard e.distance h t.total in
      let p₂ : e.furthest ≡ furthest i e.yard = aggregate-one road p.roads 1 e.yard h p.there t.furthest ∙ sym (furthest-is e.yard) in
      λ j. record { distance = p₁ j; furthest = p₂ j; yard = e.yard }

  -- ---- a settled search of true books

  module _ (sound : SoundInstance i) (limit : ℕ) (t : T (answer i limit).settled) where
    yard-there : (y : ℕ) → Below i 0 y → y < junctions road
    yard-there = asked-there road tree a crews p

    ys : TreeYards i wanted
    ys = asked-yards road tree a crews p sound

    l : Listing i (answer i limit).listed
    l = answer-listing i sound.well limit t

    pub listed-entries : (e : Entry) → Mem e (answer i limit).listed → TrueEntry (net road) a.code crews e
    listed-entries e k = rw (entry-same i (l.distances e k) (l.furthests e k)) (entry_true e.yard (yard-there e.yard (l.in_tree e k)))

    pub listed-yards : (e : Entry) → Mem e (answer i limit).listed → Mem e.yard wanted
    listed-yards e k = ys.every e.yard (l.in_tree e k)

    -- a wanted yard with its numbers is listed, or the rule leaves it out
    pub listed-rest : (h : Entry) → Mem h.yard wanted → TrueEntry (net road) a.code crews h
        → Mem h (answer i limit).listed ⊎ LeftOut a.rule (answer i limit).listed h
    unfolding search_of
    listed-rest h k s = let b = ys.below h.yard k in
        rw (answer-listed i limit t, true_entry h (yard-there h.yard b) s) ((run-complete i sound limit (rw (answer-settled i limit) at t)).rest h.yard b)

    pub listed-once : Distinct (map (λ (e : Entry). e.yard) (answer i limit).listed)
    listed-once = yards-distinct YardBefore (λ e b. before_not b b) (answer i limit).listed l.sorted l.distinct

    pub listed-front : (answer i limit).listed ≡ front a.rule (ranked i wanted)
    unfolding search_of
    listed-front = answer-exact i sound limit t wanted ys

    pub listed-allowed : Allowed a.rule (answer i limit).listed
    unfolding search_of
    listed-allowed = l.allowed

module _ (road tree : List ℕ) (code k kinds : ℕ) (crews : List ℕ) where
  abbrev k-asked : Asking
  k-asked = record { code = code; rule = nearest k; wanted = kinds }

  abbrev k_search : Instance
  k_search = search_of road tree k-asked crews

  -- the first k wanted yards
  pub first-yards : (p : Passed road tree crews) → SoundInstance k_search → (limit : ℕ) → T (answer k_search limit).settled
      → FirstYards (net road) code k crews (keep_if k_search.wants (tree_yards (decode tree))) (answer k_search limit).listed
  unfolding front
  first-yards p sound limit t = record {
    sorted = (answer-listing k_search sound.well limit t).sorted;
    entries = listed-entries road tree k-asked crews p sound limit t;
    yards = listed-yards road tree k-asked crews p sound limit t;
    number = ap length (listed-front road tree k-asked crews p sound limit t) ∙ length-take k _ ∙ ap (min k) (ranked-length _ (keep_if k_search.wants (tree_yards (decode tree))));
    rest = listed-rest road tree k-asked crews p sound limit t;
  }

module _ (road tree : List ℕ) (code seconds kinds : ℕ) (crews : List ℕ) where
  abbrev drive-asked : Asking
  drive-asked = record { code = code; rule = in_drive seconds; wanted = kinds }

  abbrev drive_search : Instance
  drive_search = search_of road tree drive-asked crews

  -- the wanted yards within the drive
  pub drive-yards : (p : Passed road tree crews) → SoundInstance drive_search → (limit : ℕ) → T (answer drive_search limit).settled
      → DriveYards (net road) code seconds crews (keep_if drive_search.wants (tree_yards (decode tree))) (answer drive_search limit).listed
  drive-yards p sound limit t = record {
    sorted = (answer-listing drive_search sound.well limit t).sorted;
    entries = listed-entries road tree drive-asked crews p sound limit t;
    yards = listed-yards road tree drive-asked crews p sound limit t;
    once = listed-once road tree drive-asked crews p sound limit t;
    inside = listed-allowed road tree drive-asked crews p sound limit t;
    every = λ h k s near. found h near (listed-rest road tree drive-asked crews p sound limit t h k s);
  }
    where
      found : (h : Entry) → h.distance ≤ seconds → Mem h (answer drive_search limit).listed ⊎ (seconds < h.distance) → Mem h (answer drive_search limit).listed
      found h near (inl m) = m
      found h near (inr f) = absurd (omega arith)
