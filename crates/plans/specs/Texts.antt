-- Refusals as they are printed.
use Rattle.std.specs.Prelude.{ℕ, List, codes}
use Rattle.plans.specs.declared.refusal.PlanRefusal.{PlanRefusal}
use Rattle.plans.specs.declared.refusal.PlanRefusal.TheVariants.{ParameterRange, NoIntercept, DeviationRange, LimitRange}

abbrev pub refusal_text : PlanRefusal → List ℕ
refusal_text ParameterRange = codes "g, h_A, h_R or n_t is out of range"
refusal_text NoIntercept = codes "h_A and h_R are both zero"
refusal_text DeviationRange = codes "the standard deviation is out of range"
refusal_text LimitRange = codes "the limit is out of range, or there is no such side"
