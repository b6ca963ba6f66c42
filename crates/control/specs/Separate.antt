-- Separate control of two limits by the numerical method for both at once: the
-- cumulative leeway Y sums x - L only, and is held against the values of both limits.
-- All values count tenths of a step.
use Rattle.std.specs.Prelude.{ℕ, suc, Bool, true, false, cond, ◌&&◌, List, [], ◌∷◌, ℤ, pos, ◌+ℤ◌, ◌-ℤ◌, ◌*ℤ◌, Some, None, Option, ◌==◌, int_le, nat_lt}
use Rattle.sampling.specs.declared.piece.Piece.{Piece}
use Rattle.sampling.specs.declared.word.Word.{Word}
use Rattle.sampling.specs.declared.word.Word.TheVariants.{Going, Accepted, NotAccepted}
use Rattle.leeway.specs.declared.plan.LeewayPlan.{LeewayPlan}
use Rattle.leeway.specs.declared.plan.Side.{Side}
use Rattle.leeway.specs.declared.plan.Side.TheVariants.{Lower, Upper}
use Rattle.sampling.specs.Table.{Line}
use Rattle.leeway.specs.Leeway.{leeway_scheme, leeway_word, acceptance_value, rejection_value, curtailed_value}
use Rattle.sampling.specs.Sequential.{word_on, unless_settled}
use Rattle.sampling.specs.Joint.{jointly}

abbrev pub lower_and_upper : Side → Side → Bool
lower_and_upper Lower Upper = true
lower_and_upper Lower Lower = false
lower_and_upper Upper s = false

-- equal standard deviation and curtailment
abbrev pub equal_plans : LeewayPlan → LeewayPlan → Bool
equal_plans lo up = lo.sigma == up.sigma && lo.n_t == up.n_t

abbrev pub paired : LeewayPlan → LeewayPlan → Bool
paired lo up = lower_and_upper lo.side up.side && equal_plans lo up

-- n·(U - L)
unfoldable pub spread : LeewayPlan → LeewayPlan → ℕ → ℤ
spread lo up n = ((up.limit -ℤ lo.limit) *ℤ pos 10) *ℤ pos n

-- what is left of a whole, where a value is present
abbrev pub rest_of : ℤ → Option ℤ → Option ℤ
rest_of whole None = None
rest_of whole (Some v) = Some (whole -ℤ v)

-- A_U, R_U and A_t,U
abbrev pub upper_acceptance : LeewayPlan → LeewayPlan → ℕ → ℤ
upper_acceptance lo up n = spread lo up n -ℤ acceptance_value up n

abbrev pub upper_rejection : LeewayPlan → LeewayPlan → ℕ → ℤ
upper_rejection lo up n = spread lo up n -ℤ rejection_value up n

abbrev pub upper_curtailed : LeewayPlan → LeewayPlan → ℤ
upper_curtailed lo up = spread lo up up.n_t -ℤ curtailed_value up

-- the word of each limit at piece n
abbrev pub lower_word : LeewayPlan → ℕ → ℤ → Word
lower_word lo n y = leeway_word lo n y

abbrev pub upper_word : LeewayPlan → LeewayPlan → ℕ → ℤ → Word
upper_word lo up n y =
    cond (nat_lt n up.n_t)
    (cond (int_le y (upper_acceptance lo up n)) Accepted (cond (int_le (upper_rejection lo up n) y) NotAccepted Going))
    (cond (int_le y (upper_curtailed lo up)) Accepted NotAccepted)

-- n pieces have given y, and the limits stand at l and u. Each limit, once
-- accepted, stays so; either not accepted, or both accepted, ends it
unfoldable pub separately_from : LeewayPlan → LeewayPlan → ℕ → ℤ → Word → Word → List Piece → Word
separately_from lo up n y l u [] = jointly l u
separately_from lo up n y l u (x ∷ xs) =
    let y' : ℤ = y +ℤ (x.value -ℤ lo.limit) *ℤ pos 10 in
    let l' : Word = unless_settled l (lower_word lo (suc n) y') in
    let u' : Word = unless_settled u (upper_word lo up (suc n) y') in
    unless_settled (jointly l' u') (separately_from lo up (suc n) y' l' u' xs)

-- the word of the both judge over the two plans
abbrev pub both_word : LeewayPlan → LeewayPlan → List Piece → Word
both_word lo up xs = jointly (word_on (leeway_scheme lo) xs) (word_on (leeway_scheme up) xs)

-- the word on a list of pieces from the first
abbrev pub separately : LeewayPlan → LeewayPlan → List Piece → Word
separately lo up xs = separately_from lo up 0 (pos 0) Going Going xs

-- line n for the upper limit, beside the lower limit's own
abbrev pub upper_line : LeewayPlan → LeewayPlan → ℕ → Line
upper_line lo up n =
    cond (nat_lt n up.n_t) (Some (upper_acceptance lo up n), Some (upper_rejection lo up n)) (Some (upper_curtailed lo up), None)
