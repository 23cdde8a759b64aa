-- A search reads nothing of its tree's version. Assumes nothing.
use mathlib.Core.Path.{◌≡◌, refl, ap, ◌∙◌}
use mathlib.Core.Bool.{false}
use mathlib.Core.List.{List, []}
use Prim.Native.Nat.{ℕ}
use Rattle.road.specs.Dijkstra.{dist}
use Rattle.kinds.specs.Kinds.{shares}
use Rattle.tree_layout.specs.Values.{region_at}
use Rattle.tree_layout.specs.Decode.{decode}
use Rattle.tree.proofs.YardKinds.{kinds-alike}
use Rattle.search_rules.specs.Rule.{Asking}
use Rattle.search_rules.specs.Books.{search_of}
use Rattle.search_rules.specs.Instance.{Instance, size, children, marks, leaf}
use Rattle.search_rules.specs.Bounds.{table_at, lower, upper, over, total, furthest, mark_bound, bound, weight, best, best_of, chosen, list_abs_diff, f, yard_bound}
use Rattle.search_rules.specs.Held.{entry}
use Rattle.search_rules.specs.Keeping.{keep, enough}
use Rattle.search_rules.specs.Step.{passed, waiting, next_place, next_f, queue_children, open_inner, queue_next, close_leaf, open_leaf, take_region, take_yard}
use Rattle.search_rules.specs.Step.{next_region, next_yard, least_key, step, settled, root_keys, start_search}
use Rattle.search_rules.specs.Run.{advance, run, report, answer}
use Rattle.search_rules.specs.Bounds.{away_bound, first_mark, lower_to, one_way_bound, one_way_yard_bound, picked, point_bound, towards_bound, two_way_bound, two_way_yard_bound, upper_from}
use Rattle.search_rules.specs.Step.{open_whole, queue_wanted, queue_yard, take_leaf}

-- the same search of a tree of a version
abbrev pub reversioned : ℕ → Instance → Instance
reversioned v i = record {
  code = i.code;
  rule = i.rule;
  crews = i.crews;
  tree = record {
    version = v;
    junctions = i.tree.junctions;
    yards = i.tree.yards;
    landmarks = i.tree.landmarks;
    regions = i.tree.regions;
  };
  d = i.d;
  admits = i.admits;
  wants = i.wants;
  one_way = i.one_way;
  towards = i.towards;
  back = i.back;
}

pub answer_reversioned : (i : Instance) (v limit : ℕ) → answer (reversioned v i) limit ≡ answer i limit
unfolding size children marks leaf table_at lower upper over total furthest mark_bound bound weight best best_of chosen list_abs_diff f yard_bound entry keep enough passed
    waiting next_place next_f queue_children open_inner queue_next close_leaf open_leaf take_region take_yard next_region next_yard least_key step settled root_keys
    start_search advance run report answer two_way_bound one_way_bound away_bound towards_bound upper_from lower_to picked first_mark two_way_yard_bound one_way_yard_bound point_bound take_leaf open_whole queue_wanted queue_yard
answer_reversioned i v limit = refl

-- two tree books whose trees differ at most in their version are searched alike
module _ (road tree tree' : List ℕ) (a : Asking) (crews : List ℕ) (js : (decode tree).junctions ≡ (decode tree').junctions)
    (ys : (decode tree).yards ≡ (decode tree').yards) (ms : (decode tree).landmarks ≡ (decode tree').landmarks)
    (rs : (decode tree).regions ≡ (decode tree').regions) where
  same_search : search_of road tree a crews ≡ reversioned (decode tree).version (search_of road tree' a crews)
  unfolding search_of
  same_search = λ i. record {
    code = a.code;
    rule = a.rule;
    crews = crews;
    tree = record { version = (decode tree).version; junctions = js i; yards = ys i; landmarks = ms i; regions = rs i };
    d = dist road;
    admits = λ r. shares a.wanted (region_at (rs i) r).kinds;
    wants = λ y. shares a.wanted (kinds-alike (decode tree) (decode tree') rs y i);
    one_way = false;
    towards = λ r. [];
    back = λ y. 0;
  }

  pub answer-alike : (limit : ℕ) → answer (search_of road tree a crews) limit ≡ answer (search_of road tree' a crews) limit
  answer-alike limit =
      ap (λ (i : Instance). answer i limit) same_search ∙ answer_reversioned (search_of road tree' a crews) (decode tree).version limit
