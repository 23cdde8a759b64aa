-- The worked examples hold, by computing the definitions. Assumes nothing.
use mathlib.Core.Path.{refl}
use Rattle.book.specs.Choose.{choose}
use Rattle.book.specs.Bytes.{u8_at, u16_at, u32_at}
use Rattle.road_layout.specs.Road.{junctions, road_count, road_at, roads_to, roads}
use Rattle.adjacency.specs.Arcs.{along, back, arcs, net}
use Rattle.road.specs.Dijkstra.{at, walked, score, nearer, pick_nearest, shorten, relax_arc, relax, walk_on, round_at, rounds, start_walk, walk_from, distances, dist}
use Rattle.search_rules.specs.Bounds.{combine}
use Rattle.search_rules.specs.Ceiling.{exceeds}
use Rattle.search_measure.specs.Way.{comes_by, came_by, walk_back, over, ended_by, ended, way_step, way_steps, least_way, way_answer}
use Rattle.search_measure.specs.Crews.{measure_from, ways_from, measure_yard, yard_ways}
use Rattle.search_measure.specs.Examples.{net_n, net_d, from4, behind4, yard4, walked4, WorkedWays, WorkedMeasures}

pub worked_ways : WorkedWays
unfolding choose u8_at u16_at u32_at junctions road_count road_at roads_to roads along back arcs net at walked score nearer pick_nearest shorten relax_arc relax walk_on
    round_at rounds start_walk walk_from distances dist combine exceeds comes_by came_by walk_back over ended_by ended way_step way_steps least_way way_answer net_n net_d from4 behind4
worked_ways = record {
  no_ceiling = refl;
  at-ceiling = refl;
  past_ceiling = refl;
  sum-at = refl;
  sum_past = refl;
  maximum-at = refl;
  maximum_past = refl;
  ends-at_the_crew = refl;
  stops_above = refl;
  stops_at_the_last = refl;
  at_the_yard = refl;
  newest-first = refl;
}

pub worked_measures : WorkedMeasures
unfolding choose u8_at u16_at u32_at junctions road_count road_at roads_to roads along back arcs net at walked score nearer pick_nearest shorten relax_arc relax walk_on
    round_at rounds start_walk walk_from distances dist combine exceeds comes_by came_by walk_back over ended_by ended way_step way_steps least_way way_answer net_n measure_from
    ways_from measure_yard yard_ways yard4 walked4
worked_measures = record {
  no_ceiling = refl;
  at-ceiling = refl;
  past_ceiling = refl;
  maximum-at = refl;
  maximum_past = refl;
  two_ways = refl;
  second_stops = refl;
  first_stops = refl;
  maximum_walks = refl;
  two-at-one = refl;
  two_past = refl;
  furthest_last = refl;
  furthest-between = refl;
  at_the_yard = refl;
  same-sum_further = refl;
  same-sum-nearer = refl;
}
