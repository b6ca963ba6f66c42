use Rattle.std.proofs.Common.{◌≡◌, ◌-◌}
use Rattle.records.specs.Writing.{writes, writes_from}
use Rattle.memory.specs.Stores.{after_stores}
use Rattle.memory.proofs.Writes.{run}
use Rattle.memory.proofs.writer.write_record.Given as goal

abbrev pub invariant-loop-w : goal.invariant-loop-w
invariant-loop-w l =
    (run (writes_from l.piece l.number.n l.w (17 - l.w)) l.power l.slot ≡ run (writes l.piece l.number.n) l.initial.power l.initial.slot)
    × (after_stores (17 - l.w) l.power ≡ after_stores 16 l.initial.power)
