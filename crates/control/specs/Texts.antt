-- Refusals of a span as they are printed.
use Rattle.std.specs.Prelude.{ℕ, List, codes}
use Rattle.control.specs.declared.refusal.SpanRefusal.{SpanRefusal}
use Rattle.control.specs.declared.refusal.SpanRefusal.TheVariants.{FactorRange, LimitOrder, UnequalPlans, DeviationTooLarge}

abbrev pub span_text : SpanRefusal → List ℕ
span_text FactorRange = codes "the factor f is out of range"
span_text LimitOrder = codes "there is no lower limit with an upper limit above it"
span_text UnequalPlans = codes "the standard deviations or the curtailments differ"
span_text DeviationTooLarge = codes "the standard deviation is too large for the distance of the limits"
