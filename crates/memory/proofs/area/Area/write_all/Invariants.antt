use Rattle.std.proofs.Common.{◌≡◌, ◌+◌, length, drop}
use Rattle.memory.specs.Page.{written_out}
use Rattle.memory.proofs.area.Area.write_all.Given as goal

abbrev pub invariant-loop-k : goal.invariant-loop-k
invariant-loop-k l =
    (length l.self.bytes.now ≡ length l.initial.self.bytes.now)
    × (l.self.bytes.ghost_name ≡ l.initial.self.bytes.ghost_name)
    × (written_out l.power (l.i + l.k) (l.n + l.k) (drop l.k l.pieces) l.self.bytes.now ≡ written_out l.initial.power l.i l.n l.pieces l.initial.self.bytes.now)
