-- The number of each refusal of a span.
use Rattle.std.specs.Prelude.{ℕ}
use Rattle.control.specs.declared.refusal.SpanRefusal.{SpanRefusal}
use Rattle.control.specs.declared.refusal.SpanRefusal.TheVariants.{FactorRange, LimitOrder, UnequalPlans, DeviationTooLarge}

abbrev pub span_number : SpanRefusal → ℕ
span_number FactorRange = 1
span_number LimitOrder = 5
span_number UnequalPlans = 6
span_number DeviationTooLarge = 7
