use Rattle.std.proofs.Common.{refl, w64, SFits, rules}
use Rattle.std.proofs.lemmas.Int.{to_z-of_z}
use Rattle.sampling.proofs.Steps.{going_more, going_past}
use Rattle.sampling.proofs.sequential.SequentialJudge.take.Goals as goal

pub returns-in_default-Some : goal.returns-in_default-Some
returns-in_default-Some g c =
    let fits : SFits w64 c.points-points.result = search rules in
    record {
      plan_kept = refl;
      taken = going_more (g.P.SamplingPlan.scheme c.args.self.now.plan) c.args.self.now.state c.args.piece c.in_default-Some.sum c.state_at.result
          c.in_default-Some.not-Accepted-0 c.in_default-Some.not-NotAccepted-0
          (rw (to_z-of_z, c.points-points.ensures, c.in_default-Some.is-1) at c.plus-sum.ensures)
          c.state_at.ensures;
    }

pub returns-in_default-None : goal.returns-in_default-None
returns-in_default-None g c =
    let fits : SFits w64 c.points-points.result = search rules in
    record {
      plan_kept = refl;
      taken = going_past (g.P.SamplingPlan.scheme c.args.self.now.plan) c.args.self.now.state c.args.piece
          c.in_default-None.not-Accepted-0 c.in_default-None.not-NotAccepted-0
          (g.met.P.SamplingPlan.sound c.args.self.now.plan).limit_to_4000
          (rw (to_z-of_z, c.points-points.ensures, c.in_default-None.is-1) at c.plus-sum.ensures);
    }
