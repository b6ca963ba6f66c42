use Rattle.std.proofs.Common.{rules}
use Rattle.leeway.proofs.check.LeewayPlanTryFromLeewayNumbers.try_from.Goals as goal

pub returns : goal.returns
returns c = (search rules, search rules)
