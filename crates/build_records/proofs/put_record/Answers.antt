use native.Mathlib.Omega.{arith}
use Rattle.adjacency.proofs.Linking.{few-junctions}
use Rattle.yard.proofs.YardLayout.{five}
use Rattle.build_records.proofs.Numbered.{yards-few}
use Rattle.build_records.proofs.Records.{fields_room, room, ends, record_written}
use Rattle.build_records.proofs.put_record.Goals as goal

pub borders_in-list-requires : goal.borders_in-list-requires
borders_in-list-requires c =
    let p = c.requires in
    let n = few-junctions p.0.range.adjacency.adjacent in
    (p.0.range.adjacency, omega (arith, p.0.range.inside, n), omega (arith, p.0.range.inside, n))

pub version-v-requires : goal.version-v-requires
version-v-requires c = five _ c.requires.0.range.yards.passes

pub overflow_add-p : goal.overflow_add-p
overflow_add-p c = omega (arith, c.requires.0.range.inside, few-junctions c.requires.0.range.adjacency.adjacent)

pub overflow_cast-p-2 : goal.overflow_cast-p-2
overflow_cast-p-2 c = omega (arith, c.requires.0.range.inside, few-junctions c.requires.0.range.adjacency.adjacent)

pub overflow_cast-p-3 : goal.overflow_cast-p-3
overflow_cast-p-3 c = omega (arith, yards-few _ _ _ c.requires.0.range.yards)

pub put_fields-requires : goal.put_fields-requires
put_fields-requires c = fields_room _ _ _ _ _ _ 0 c.version-v.ensures _ c.requires.1

pub marks_at-start-requires : goal.marks_at-start-requires
marks_at-start-requires c = omega (arith, fields_room _ _ _ _ _ _ 0 c.version-v.ensures _ c.requires.1, c.well_formed, c.ranges)

pub put_marks-requires : goal.put_marks-requires
put_marks-requires c =
    let p = c.requires in
    let l = c.borders_in-list.ensures in (
      p.0,
      l.list,
      omega (arith, l.count, p.0.range.inside, few-junctions p.0.range.adjacency.adjacent),
      room _ _ _ _ _ _ _ c.version-v.ensures _ _ c.marks_at-start.ensures p.1 (omega (arith, c.put_fields.auto)),
    )

pub returns : goal.returns
returns c =
    let w = c.put_marks in
    let v = c.version-v.ensures in
    let s = c.marks_at-start.ensures in record {
      place = ends _ _ _ _ _ _ _ v _ s w.ensures.place;
      tree = λ road limit b. record_written _ _ _ _ _ _ _ _ _ _ _ _ _ _ _ _ v s c.kinds_of.ensures c.put_fields.ensures (w.ensures.tree road limit b);
    }
