use Rattle.std.proofs.Common.{◌≡◌, take}
use Rattle.sampling.specs.Sequential.{total}
use Rattle.sampling.proofs.sequential.total.Given as goal

abbrev pub invariant-loop-piece : goal.invariant-loop-piece
invariant-loop-piece g l = l.score ≡ total (g.P.SamplingPlan.scheme l.plan) (take l.piece-index l.pieces)
