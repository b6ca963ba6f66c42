use Rattle.std.proofs.Common.{w64, SFits, rules}
use Rattle.std.proofs.lemmas.Int.{to_z-of_z}
use Rattle.sampling.proofs.Totals.{total_step, total_fits}
use Rattle.sampling.proofs.sequential.total.Goals as goal

pub overflow_add-score : goal.overflow_add-score
overflow_add-score g c =
    let fits : SFits w64 c.points-score.result = search rules in
    rw (to_z-of_z, c.points-score.ensures)
    (total_fits (g.P.SamplingPlan.scheme c.args.plan.now) (g.P.SamplingPlan.good c.args.plan.now) (g.met.P.SamplingPlan.sound c.args.plan.now) c.args.pieces.now
    c.loop-piece.piece-index c.piece-item.result _ c.loop-piece-test.true c.requires c.piece-item.is c.loop-piece.invariant)

pub loop-piece-preserved : goal.loop-piece-preserved
loop-piece-preserved g c =
    let fits : SFits w64 c.points-score.result = search rules in
    let sum_fits = overflow_add-score g c in
    rw (to_z-of_z, to_z-of_z, c.points-score.ensures)
    (total_step (g.P.SamplingPlan.scheme c.args.plan.now) (g.P.SamplingPlan.good c.args.plan.now) (g.met.P.SamplingPlan.sound c.args.plan.now) c.args.pieces.now
    c.loop-piece.piece-index c.piece-item.result _ c.loop-piece-test.true c.requires c.piece-item.is c.loop-piece.invariant)
