use Rattle.leeway.proofs.Rounded.{values_rounded}
use Rattle.leeway.proofs.WordLaws.{decided_by_leeway}
use Rattle.leeway.proofs.table.LeewayPlanSamplingPlan.line_at.Goals as goal

pub returns-clause-rounded : goal.returns-clause-rounded
returns-clause-rounded c = values_rounded c.args.self.now c.args.n

pub returns-clause-decides : goal.returns-clause-decides
returns-clause-decides c = decided_by_leeway c.args.self.now
