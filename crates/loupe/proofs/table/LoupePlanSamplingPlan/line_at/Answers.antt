use Rattle.loupe.proofs.Counted.{numbers_counted}
use Rattle.loupe.proofs.WordLaws.{decided_by_count}
use Rattle.loupe.proofs.table.LoupePlanSamplingPlan.line_at.Goals as goal

pub returns-clause-counted : goal.returns-clause-counted
returns-clause-counted c = numbers_counted c.args.self.now c.args.n

pub returns-clause-decides : goal.returns-clause-decides
returns-clause-decides c = decided_by_count c.args.self.now
