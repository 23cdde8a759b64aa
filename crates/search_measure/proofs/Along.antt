-- The walk's arrays and numbers beside the definition's state: at the start, a turn on, and at both ends. Assumes nothing.
use mathlib.Core.Path.{◌≡◌, refl, sym, ap, ◌∙◌}
use mathlib.Core.Logic.{◌≢◌}
use mathlib.Core.Bool.{not}
use mathlib.Core.List.{List, [], ◌∷◌, ◌++◌, map, map-append}
use Prim.Native.Nat.{ℕ, suc, ◌+◌, ◌≤◌, ◌<◌}
use native.Mathlib.Numerals.{add-one}
use native.Mathlib.Omega.{arith}
use lib.ListN.{length, set, take, length-append}
use lib.Seq.{take-suc-set}
use lib.Dec.{T}
use Rattle.book.proofs.Choosing.{choose_no}
use Rattle.road_layout.specs.Road.{junctions}
use Rattle.adjacency.specs.Arcs.{net}
use Rattle.adjacency.specs.Adjacency.{count_in}
use Rattle.adjacency.proofs.Linking.{few-junctions}
use Rattle.road.specs.Dijkstra.{dist}
use Rattle.road.proofs.Theorems.{net_sound, metric}
use Rattle.search_measure.specs.Way.{came_by, Walked, Stand, here, walk_back, Budget, over, Ended, reached, above, ended_by, ended, way_step, way_steps, least_way, way_answer}
use Rattle.search_measure.specs.Facts.{Ways}
use Rattle.search_measure.specs.code.Cases.{Steers, Written}
use Rattle.search_measure.proofs.Standing.{Standing, standing_few, steps_standing, steps-stay, ended-over, ended-there, goes_on, ended-above, ended-reached}
use Rattle.search_measure.proofs.Theorems.{row_of, ways_true}

abbrev stand : ℕ → ℕ → List Walked → Stand
stand v t behind = record { place = v; seconds = t; behind = behind }

-- After n steps the walk stands at v, after t seconds, and the array has the junctions walked on from.
pub record Along (road : List ℕ) (b : Budget) (crew yard : ℕ) (walked : List ℕ) (v t n : ℕ) : Type 0 where
  pub behind : List Walked
  pub stands : way_steps (net road) (dist road crew) b crew yard n ≡ record { place = v; seconds = t; behind = behind }
  pub number : n ≡ length behind
  pub written : take n walked ≡ map (λ (m : Walked). m.junction) behind

pub along_start : (road : List ℕ) (b : Budget) (crew yard : ℕ) (walked : List ℕ) → Along road b crew yard walked yard 0 0
unfolding way_steps
along_start road b crew yard walked = record { behind = []; stands = refl; number = refl; written = refl }

-- what is known of the numbers
pub record Small (adj : List ℕ) (v t n : ℕ) : Type 0 where
  pub inside : v < count_in adj
  pub short : t ≤ 67042305
  pub few : n < 1024

-- what is to be answered
pub record Answered (road : List ℕ) (b : Budget) (crew yard : ℕ) (walked : List ℕ) (e : Ended) (n : ℕ) : Type 0 where
  pub ways : Ways (net road) (junctions road) b crew yard (least_way road b crew yard) e
  pub answer : e ≡ way_answer road b crew yard
  pub written : Written (least_way road b crew yard) n walked

module _ {road adj row : List ℕ} {crew : ℕ} (st : Steers road adj row crew) (b : Budget) (yard : ℕ) (inside : yard < count_in adj) where
  below : yard < junctions road
  below = omega (arith, st.adjacent.count)

  module _ (walked : List ℕ) (v t n : ℕ) (al : Along road b crew yard walked v t n) where
    stood : Standing (net road) (junctions road) (dist road crew) b yard (stand v t al.behind)
    stood = rw al.stands at (steps_standing (net_sound road st.roads.layout) (row_of road st.roads crew st.junction) b yard below n)

    few : n < junctions road
    few = omega (arith, al.number, standing_few (net_sound road st.roads.layout) (row_of road st.roads crew st.junction) b yard below stood)

    pub along-small : Small adj v t n
    along-small = record {
      inside = omega (arith, st.adjacent.count, stood.inside);
      short = omega (arith, stood.total, (metric road st.roads).bounded crew yard st.junction below);
      few = omega (arith, few, st.adjacent.count, few-junctions st.adjacent);
    }

    -- ---- an end

    module _ (done : T (ended (net road) (dist road crew) b crew (stand v t al.behind))) where
      ends : least_way road b crew yard ≡ stand v t al.behind
      unfolding least_way
      ends = steps-stay (net road) (dist road crew) b crew yard n (junctions road) (omega (arith, few)) (rw al.stands done) ∙ al.stands

      answer : way_answer road b crew yard ≡ ended_by b t
      unfolding way_answer
      answer = ap (λ (s : Stand). ended_by b s.seconds) ends

      pub along-ends : (e : Ended) → e ≡ ended_by b t → Answered road b crew yard walked e n
      along-ends e f =
          let g : e ≡ way_answer road b crew yard = f ∙ sym answer in
          record {
            ways = rw g (ways_true road st.roads b crew yard st.junction below);
            answer = g;
            written = record { number = al.number ∙ ap (λ (s : Stand). length s.behind) (sym ends); junctions = rw ends al.written };
          }

    pub along-above : T (over b t) → Answered road b crew yard walked above n
    along-above o = along-ends (ended-over (net road) (dist road crew) b crew (stand v t al.behind) o) above (sym (ended-above b t o))

    pub along-reached : v ≡ crew → T (not (over b t)) → Answered road b crew yard walked (reached t) n
    along-reached e o = along-ends (ended-there (net road) (dist road crew) b crew (stand v t al.behind) e) (reached t) (sym (ended-reached b t o))

    -- ---- a turn on

    module _ (apart : v ≢ crew) (o : T (not (over b t))) where
      walks : way_steps (net road) (dist road crew) b crew yard (suc n) ≡ walk_back (net road) (dist road crew) (stand v t al.behind)
      unfolding way_steps way_step
      walks =
          ap (way_step (net road) (dist road crew) b crew) al.stands
          ∙ choose_no (ended (net road) (dist road crew) b crew (stand v t al.behind)) (stand v t al.behind)
          (walk_back (net road) (dist road crew) (stand v t al.behind))
          (goes_on (net road) (dist road crew) b crew (stand v t al.behind) apart o)

      pub along_on : (x w s : ℕ) → x ≡ v → w ≡ (came_by (dist road crew) v (net road)).from → s ≡ (came_by (dist road crew) v (net road)).seconds → n < length walked
          → Along road b crew yard (set walked n x) w (t + s) (n + 1)
      unfolding walk_back
      along_on x w s ex ew es room = record {
        behind = al.behind ++ (here (stand v t al.behind) ∷ []);
        stands = rw (add-one n) (walks ∙ (λ i. record { place = sym ew i; seconds = t + sym es i; behind = al.behind ++ (here (stand v t al.behind) ∷ []) }));
        number = sym (length-append al.behind (here (stand v t al.behind) ∷ []) ∙ omega (arith, al.number));
        written =
            rw (ex, add-one n) (take-suc-set walked n v room ∙ ap (λ (l : List ℕ). l ++ (v ∷ [])) al.written
            ∙ sym (map-append (λ (m : Walked). m.junction) al.behind (here (stand v t al.behind) ∷ [])));
      }
