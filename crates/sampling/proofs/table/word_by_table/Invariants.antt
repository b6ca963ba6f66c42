use Rattle.std.proofs.Common.{◌≡◌, ℕ, ◌<◌, take}
use Rattle.sampling.specs.declared.word.Word.TheVariants.{Going}
use Rattle.sampling.proofs.table.word_by_table.Given as goal

-- every beginning that was looked at is going
abbrev pub invariant-loop-n : goal.invariant-loop-n
invariant-loop-n g l = (k : ℕ) → k < l.n → g.J.Judge.fresh (g.J.Judge.plan l.judge) (take k l.pieces) ≡ Going
