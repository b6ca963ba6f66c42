-- The number of each refusal.
use Rattle.std.specs.Prelude.{ℕ}
use Rattle.plans.specs.declared.refusal.PlanRefusal.{PlanRefusal}
use Rattle.plans.specs.declared.refusal.PlanRefusal.TheVariants.{ParameterRange, NoIntercept, DeviationRange, LimitRange}

abbrev pub refusal_number : PlanRefusal → ℕ
refusal_number ParameterRange = 1
refusal_number NoIntercept = 2
refusal_number DeviationRange = 3
refusal_number LimitRange = 4
