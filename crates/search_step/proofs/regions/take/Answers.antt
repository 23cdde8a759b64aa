use Rattle.search_leaf.proofs.Landmarks.{table_crews}
use Rattle.search_step.proofs.Opening.{leaf_yes, leaf_no, region_slot, leaf-ready, leaf-is-taken, inner_slots, inner-cached, inner-is-taken}
use Rattle.search_step.proofs.regions.take.Goals as goal

pub fields-f-requires : goal.fields-f-requires
fields-f-requires c =
    let s = c.requires in
    (s.0.ready.laid, region_slot s.0.ready _ _ _ (s.2 s.0.road s.0.ready))

pub take-requires : goal.take-requires
take-requires c =
    let s = c.requires in
    (s.0, λ road ready. leaf-ready ready _ _ _ (s.2 road ready) (leaf_yes ready _ _ c.fields-f.ensures c.if-f-eq0.true))

pub returns-then-f-eq0 : goal.returns-then-f-eq0
returns-then-f-eq0 c =
    let s = c.requires in
    let o = c.take.ensures in
    let f = c.fields-f.ensures in
    let t = c.if-f-eq0.true in record {
      cached = o.cached;
      state = λ road ready h m k. leaf-is-taken ready _ _ _ (s.2 road ready) (leaf_yes ready _ _ f t) _ _ _ (o.state road ready h m k);
    }

pub open_inner-requires : goal.open_inner-requires
open_inner-requires c =
    let s = c.requires in
    let ready = s.0.ready in
    (ready.laid, s.1, ready.tableed.limits, table_crews _ _ _ _ _ _ _ ready, inner_slots ready _ _ _ (s.2 s.0.road ready))

pub returns : goal.returns
returns c =
    let s = c.requires in
    let o = c.open_inner.ensures in
    let f = c.fields-f.ensures in record {
      cached = λ road ready. inner-cached ready _ _ _ (s.2 road ready) _ _ o;
      state = λ road ready. inner-is-taken ready _ _ _ (s.2 road ready) _ _ o (leaf_no ready _ _ f c.if-f-eq0.false);
    }
