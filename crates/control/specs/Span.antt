-- When separate control of two limits may run.
use Rattle.std.specs.Prelude.{◌≡◌, ◌*◌, Bool, ◌&&◌, List, ℤ, pos, ◌-ℤ◌, ◌*ℤ◌, None, Option, int_le, int_lt}
use Rattle.sampling.specs.declared.piece.Piece.{Piece}
use Rattle.sampling.specs.declared.word.Word.{Word}
use Rattle.sampling.specs.declared.both.Both.{Both}
use Rattle.sampling.specs.declared.sequential.Sequential.{Sequential}
use Rattle.sampling.specs.Joint.{jointly}
use Rattle.sampling.specs.States.{says_in}
use Rattle.leeway.specs.declared.plan.LeewayPlan.{LeewayPlan}
use Rattle.control.specs.declared.refusal.SpanRefusal.{SpanRefusal}
use Rattle.control.specs.declared.refusal.SpanRefusal.TheVariants.{FactorRange, LimitOrder, UnequalPlans, DeviationTooLarge}
use Rattle.plans.specs.PlanChecks.{between, refuse_unless}
use Rattle.leeway.specs.Leeway.{leeway_scheme}
use Rattle.control.specs.Separate.{lower_and_upper, equal_plans, separately}

-- a lower limit, and an upper limit above it
abbrev pub below : LeewayPlan → LeewayPlan → Bool
below lo up = lower_and_upper lo.side up.side && int_lt lo.limit up.limit

-- sigma ≤ f·(U - L); sigma counts hundredths of a step and f thousandths, so ten times sigma is compared
abbrev pub deviation_fits : LeewayPlan → LeewayPlan → ℤ → Bool
deviation_fits lo up f = int_le (pos (10 * lo.sigma)) (f *ℤ (up.limit -ℤ lo.limit))

-- the first condition that turns the span down
abbrev pub span_refusal : LeewayPlan → LeewayPlan → ℤ → Option SpanRefusal
span_refusal lo up f =
    refuse_unless (between (pos 1) (pos 1000) f) FactorRange
    (refuse_unless (below lo up) LimitOrder
    (refuse_unless (equal_plans lo up) UnequalPlans
    (refuse_unless (deviation_fits lo up f) DeviationTooLarge
    None)))

-- what the both judge says of further pieces
abbrev pub both_says : Both (Sequential LeewayPlan) (Sequential LeewayPlan) → List Piece → Word
both_says j xs =
    jointly (says_in (leeway_scheme j.first.plan) j.first.state xs) (says_in (leeway_scheme j.second.plan) j.second.state xs)

-- the judge of a span that may run: it has the two plans, and says what separate control says
pub record Spanned (lo up : LeewayPlan) (f : ℤ) (j : Both (Sequential LeewayPlan) (Sequential LeewayPlan)) : Type 0 where
  pub not_refused : span_refusal lo up f ≡ None
  pub first_plan : j.first.plan ≡ lo
  pub second_plan : j.second.plan ≡ up
  pub separate : (xs : List Piece) → both_says j xs ≡ separately lo up xs
