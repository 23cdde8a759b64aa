use Rattle.build_cuts.proofs.Counting.{parted_start, parted_with, parted_without, parted_end}
use Rattle.build_cuts.proofs.ranges.part_count.Goals.{then-low-high, else-low-high}
use Rattle.build_cuts.proofs.ranges.part_count.Goals as goal

pub loop-i-init : goal.loop-i-init
loop-i-init c = parted_start _ _ _ _ c.below-low.ensures

pub loop-i-preserved : goal.loop-i-preserved
loop-i-preserved c =
    let i = c.loop-i.invariant in
    let h = c.loop-i-test.true in
    elim c.if-low-high.branch [
      | then-low-high w ↦ rw w.count-is (parted_with _ c.requires.0 _ _ _ _ _ _ i h _ c.cut_at.ensures c.below-high.ensures w.if-low-high.true)
      | else-low-high w ↦ rw w.count-is (parted_without _ c.requires.0 _ _ _ _ _ _ i h _ c.cut_at.ensures c.below-high.ensures w.if-low-high.false)
    ]

pub returns : goal.returns
returns c = parted_end _ _ _ _ _ _ c.loop-i.invariant c.loop-i-test.false
