-- The values of a leeway plan are rounded to tenths of a step.
use Rattle.std.proofs.Common.{ℕ, arith}
use Rattle.plans.proofs.RoundingLaws.{nearest_half_up, nearest_half_down}
use Rattle.leeway.specs.declared.plan.LeewayPlan.{LeewayPlan}
use Rattle.leeway.specs.Leeway.{tenth, exact_acceptance, exact_rejection, exact_curtailed, Rounded}

pub values_rounded : (p : LeewayPlan) (n : ℕ) → Rounded p n
values_rounded p n = record {
  acceptance = nearest_half_up tenth (exact_acceptance p n) (omega arith);
  rejection = nearest_half_down tenth (exact_rejection p n) (omega arith);
  curtailed = nearest_half_up tenth (exact_curtailed p) (omega arith);
}
