-- Which numbers make a leeway plan, and why others make none.
use Rattle.std.specs.Prelude.{◌≡◌, false, ℤ, pos, neg_ℤ, Some, None, Option, Result, MatchResult}
use Rattle.plans.specs.declared.refusal.PlanRefusal.{PlanRefusal}
use Rattle.plans.specs.declared.refusal.PlanRefusal.TheVariants.{DeviationRange, LimitRange}
use Rattle.plans.specs.PlanChecks.{between, refuse_unless, parameters_refusal}
use Rattle.leeway.specs.declared.numbers.LeewayNumbers.{LeewayNumbers}
use Rattle.leeway.specs.declared.plan.LeewayPlan.{LeewayPlan}
use Rattle.leeway.specs.declared.plan.Side.{Side}
use Rattle.leeway.specs.declared.plan.Side.TheVariants.{Lower, Upper}

abbrev pub leeway_refusal : LeewayNumbers → Option PlanRefusal
leeway_refusal n =
    parameters_refusal 20000 n.g n.h_a n.h_r n.n_t
    (refuse_unless (between (pos 1) (pos 1000000) n.sigma) DeviationRange
    (refuse_unless (between (neg_ℤ (pos 100000000)) (pos 100000000) n.limit) LimitRange
    (refuse_unless (between (pos 0) (pos 1) n.side) LimitRange
    None)))

abbrev pub side_number : Side → ℤ
side_number Lower = pos 0
side_number Upper = pos 1

-- the side with this number; another number is no side
abbrev pub ReadsSide : ℤ → Result Side PlanRefusal → Type 0
ReadsSide number r = MatchResult r (λ side. side_number side ≡ number) (λ e. (between (pos 0) (pos 1) number ≡ false) × (e ≡ LimitRange))

abbrev pub leeway_numbers : LeewayPlan → LeewayNumbers
leeway_numbers p = record {
  g = pos p.g;
  h_a = pos p.h_a;
  h_r = pos p.h_r;
  n_t = pos p.n_t;
  sigma = pos p.sigma;
  limit = p.limit;
  side = side_number p.side;
}

-- the plan with these numbers, or the first reason why there is none
abbrev pub ReadsLeeway : LeewayNumbers → Result LeewayPlan PlanRefusal → Type 0
ReadsLeeway n r = MatchResult r (λ plan. (leeway_numbers plan ≡ n) × (leeway_refusal n ≡ None)) (λ e. leeway_refusal n ≡ Some e)
