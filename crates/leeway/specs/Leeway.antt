-- The leeway plan: inspection by variables at one limit.
use Rattle.std.specs.Prelude.{◌≡◌, ℕ, ◌*◌, ◌≤◌, cond, List, [], ◌∷◌, length, ℤ, pos, ◌+ℤ◌, ◌-ℤ◌, ◌*ℤ◌, neg_ℤ, ◌≤ℤ◌, Some, None, int_le, nat_lt}
use Rattle.sampling.specs.declared.word.Word.{Word}
use Rattle.sampling.specs.declared.word.Word.TheVariants.{Going, Accepted, NotAccepted}
use Rattle.sampling.specs.declared.piece.Piece.{Piece}
use Rattle.leeway.specs.declared.plan.LeewayPlan.{LeewayPlan}
use Rattle.leeway.specs.declared.plan.Side.{Side}
use Rattle.leeway.specs.declared.plan.Side.TheVariants.{Lower, Upper}
use Rattle.plans.specs.Rounding.{half_up, half_down, NearestHalfUp, NearestHalfDown}
use Rattle.sampling.specs.Table.{Line, Undecided}
use Rattle.sampling.specs.Sequential.{Scheme, word_on}

-- how far a value lies on the good side of the limit, in steps
abbrev pub leeway : Side → ℤ → ℤ → ℤ
leeway Lower limit x = x -ℤ limit
leeway Upper limit x = limit -ℤ x

-- (g·n + h)·sigma exactly: g and h count thousandths, sigma hundredths of a step,
-- so this counts hundred-thousandths of a step
unfoldable pub exact_value : LeewayPlan → ℕ → ℤ → ℤ
exact_value p n h = (pos (p.g * n) +ℤ h) *ℤ pos p.sigma

-- A(n) with h_A above the slope, R(n) with h_R below it, A_t on it
abbrev pub exact_acceptance : LeewayPlan → ℕ → ℤ
exact_acceptance p n = exact_value p n (pos p.h_a)

abbrev pub exact_rejection : LeewayPlan → ℕ → ℤ
exact_rejection p n = exact_value p n (neg_ℤ (pos p.h_r))

abbrev pub exact_curtailed : LeewayPlan → ℤ
exact_curtailed p = exact_value p p.n_t (pos 0)

-- a tenth of a step, in hundred-thousandths of a step
abbrev pub tenth : ℕ
tenth = 10000

-- A(n), R(n) and A_t in tenths of a step
abbrev pub acceptance_value : LeewayPlan → ℕ → ℤ
acceptance_value p n = half_up tenth (exact_acceptance p n)

abbrev pub rejection_value : LeewayPlan → ℕ → ℤ
rejection_value p n = half_down tenth (exact_rejection p n)

abbrev pub curtailed_value : LeewayPlan → ℤ
curtailed_value p = half_up tenth (exact_curtailed p)

abbrev pub leeway_line : LeewayPlan → ℕ → Line
leeway_line p n = cond (nat_lt n p.n_t) (Some (acceptance_value p n), Some (rejection_value p n)) (Some (curtailed_value p), None)

-- the score is the sum of the leeways in tenths of a step
abbrev pub leeway_scheme : LeewayPlan → Scheme
leeway_scheme p = record {
  last = p.n_t;
  points = λ x. leeway p.side p.limit x.value *ℤ pos 10;
  line = leeway_line p;
}

-- Y, in steps
abbrev pub cumulative_leeway : LeewayPlan → List Piece → ℤ
cumulative_leeway p [] = pos 0
cumulative_leeway p (x ∷ xs) = leeway p.side p.limit x.value +ℤ cumulative_leeway p xs

-- the word at piece n of a lot that is going; y is the cumulative leeway in tenths of a step
abbrev pub leeway_word : LeewayPlan → ℕ → ℤ → Word
leeway_word p n y =
    cond (nat_lt n p.n_t)
    (cond (int_le (acceptance_value p n) y) Accepted (cond (int_le y (rejection_value p n)) NotAccepted Going))
    (cond (int_le (curtailed_value p) y) Accepted NotAccepted)

-- where every shorter beginning is going, the cumulative leeway decides
abbrev pub DecidedByLeeway : LeewayPlan → Type 0
DecidedByLeeway p =
    (xs : List Piece) → 1 ≤ length xs → length xs ≤ p.n_t → Undecided (word_on (leeway_scheme p)) xs
    → word_on (leeway_scheme p) xs ≡ leeway_word p (length xs) (cumulative_leeway p xs *ℤ pos 10)

-- x is at least as good as y, whatever the findings
abbrev pub value_as_good : Side → Piece → Piece → Type 0
value_as_good Lower x y = y.value ≤ℤ x.value
value_as_good Upper x y = x.value ≤ℤ y.value

-- the numbers of a line are the exact values, rounded to the nearest tenth of a step
pub record Rounded (p : LeewayPlan) (n : ℕ) : Type 0 where
  pub acceptance : NearestHalfUp tenth (exact_acceptance p n) (acceptance_value p n)
  pub rejection : NearestHalfDown tenth (exact_rejection p n) (rejection_value p n)
  pub curtailed : NearestHalfUp tenth (exact_curtailed p) (curtailed_value p)
