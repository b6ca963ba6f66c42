-- Bounds of what a leeway plan computes.
use Rattle.std.proofs.Common.{ℕ, ◌+◌, ◌*◌, ◌≤◌, ℤ, pos, ◌+ℤ◌, ◌*ℤ◌, ◌≤ℤ◌, arith}
use Rattle.std.proofs.lemmas.Int.{ints}
use Rattle.sampling.specs.Table.{Exactly}
use Rattle.plans.specs.Rounding.{Within, half_up, rounded_down}
use Rattle.plans.proofs.Products.{within_scaled, within_sum, within_pos, within_quotient, slope_within}
use Rattle.leeway.specs.declared.plan.LeewayPlan.{LeewayPlan}
use Rattle.leeway.specs.Leeway.{exact_value}

pub half_up_within : (unit m : ℕ) (x : ℤ) → unit ≤ 4294967296 → Within m x → Within (m + m + 4294967296) (half_up unit x)
unfolding half_up rounded_down
half_up_within unit m x h w =
    within_quotient (m + m + 4294967296) (unit + unit) _
    (within_sum (m + m) 4294967296 (x +ℤ x) (pos unit) (within_sum m m x x w w) (within_pos 4294967296 unit h))

pub exact_within : (p : LeewayPlan) (n m : ℕ) (h : ℤ) → n ≤ 4000 → Within m h → Within ((39996000 + m) * 1000000) (exact_value p n h)
unfolding exact_value
exact_within p n m h few w =
    within_scaled _ p.sigma (39996000 + m) 1000000
    (within_sum 39996000 m _ h (slope_within p.g n p.g_high few) w) p.sigma_high

-- values keep their order as tenths
pub tens_ordered : (a b : ℤ) → Exactly (a ≤ℤ b) ((a *ℤ pos 10) ≤ℤ (b *ℤ pos 10))
tens_ordered a b = (λ h. omega (arith, ints), λ h. omega (arith, ints))
