use Rattle.std.proofs.Common.{refl, ◌∙◌, arith}
use Rattle.records.specs.Writing.{writes}
use Rattle.memory.proofs.Writes.{run_more, spent_more, run_end, spent_end, run_is}
use Rattle.memory.proofs.writer.write_record.Goals as goal

pub loop-w-init : goal.loop-w-init
unfolding writes
loop-w-init c = (refl, refl)

pub loop-w-preserved : goal.loop-w-preserved
loop-w-preserved c = (
  run_more c.args.piece c.args.number.n c.loop-w.w (omega arith) c.loop-w.power _ c.loop-w.slot _ _ c.store_write.ensures.power c.store_write.ensures.slot c.loop-w.invariant.0,
  spent_more c.args.piece c.args.number.n c.loop-w.w (omega arith) c.loop-w.power _ _ c.store_write.ensures.power c.loop-w.invariant.1,
)

pub returns : goal.returns
returns c =
    record {
      slot = run_end c.args.piece c.args.number.n c.loop-w.w (omega arith) c.loop-w.power _ _ c.loop-w.invariant.0 ∙ run_is (writes c.args.piece c.args.number.n) c.args.power.now c.args.slot.now;
      power = spent_end c.args.piece c.args.number.n c.loop-w.w (omega arith) _ _ c.loop-w.invariant.1;
    }
