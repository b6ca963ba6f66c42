use Rattle.std.proofs.Common.{◌+◌, ◌<◌, length, ap, ◌∙◌}
use Rattle.memory.specs.Areas.{slot_count}
use Rattle.memory.proofs.PageLaws.{out_turn, count_same, turn_fits}
use Rattle.memory.proofs.area.Area.write_all.Goals as goal

pub loop-k-preserved : goal.loop-k-preserved
loop-k-preserved c =
    let area = c.loop-k.self.bytes.now in
    let fits : c.args.i + c.loop-k.k < slot_count area = turn_fits c.args.self.now.bytes.now area c.args.i c.loop-k.k _ c.loop-k-test.true c.requires.0 c.loop-k.invariant.0 in (
      ap length c.write.ensures.bytes ∙ count_same area (c.args.i + c.loop-k.k) fits c.loop-k.power c.index-pieces-k.result (c.args.n + c.loop-k.k) ∙ c.loop-k.invariant.0,
      c.write.ensures.lender ∙ c.loop-k.invariant.1,
      out_turn c.loop-k.power _ c.args.i c.args.n c.loop-k.k c.args.pieces.now c.index-pieces-k.result area _ _ c.loop-k-test.true c.index-pieces-k.is c.write.ensures.power c.write.ensures.bytes c.loop-k.invariant.2,
    )
