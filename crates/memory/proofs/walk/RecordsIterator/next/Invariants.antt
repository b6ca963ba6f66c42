use Rattle.std.proofs.Common.{◌≡◌, length}
use Rattle.memory.specs.Walk.{pieces_left}
use Rattle.memory.proofs.walk.RecordsIterator.next.Given as goal

abbrev pub invariant-loop-slot : goal.invariant-loop-slot
invariant-loop-slot l = pieces_left l.initial.self ≡ pieces_left l.self

abbrev pub decreases-loop-slot : goal.decreases-loop-slot
decreases-loop-slot l = length l.self.slots.now
