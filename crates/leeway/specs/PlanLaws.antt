-- The leeway plan is sound.
use Rattle.std.specs.Prelude.{ℤ, pos, ◌*ℤ◌, ◌≤ℤ◌}
use Rattle.std.proofs.Common.{arith}
use Rattle.std.proofs.lemmas.Int.{ints}
use Rattle.sampling.specs.declared.piece.Piece.{Piece}
use Rattle.leeway.specs.declared.plan.LeewayPlan.{LeewayPlan}
use Rattle.leeway.specs.declared.plan.Side.{Side}
use Rattle.leeway.specs.declared.plan.Side.TheVariants.{Lower, Upper}
use Rattle.sampling.specs.Table.{Exactly}
use Rattle.sampling.specs.Sequential.{Sound}
use Rattle.plans.specs.Rounding.{Within}
use Rattle.leeway.specs.Leeway.{leeway, leeway_scheme, value_as_good}

points_within : (s : Side) (limit x : ℤ) → Within 100000000 limit → Within 100000000 x → Within 2000000000 (leeway s limit x *ℤ pos 10)
points_within Lower limit x v w =
    let vl = v.low in let vh = v.high in let wl = w.low in let wh = w.high in
    record { low = omega (arith, ints); high = omega (arith, ints) }
points_within Upper limit x v w =
    let vl = v.low in let vh = v.high in let wl = w.low in let wh = w.high in
    record { low = omega (arith, ints); high = omega (arith, ints) }

points_ordered : (s : Side) (limit : ℤ) (x y : Piece) → Exactly (value_as_good s x y) ((leeway s limit y.value *ℤ pos 10) ≤ℤ (leeway s limit x.value *ℤ pos 10))
points_ordered Lower limit x y = (λ h. omega (arith, ints), λ h. omega (arith, ints))
points_ordered Upper limit x y = (λ h. omega (arith, ints), λ h. omega (arith, ints))

in_range : (p : LeewayPlan) (x : Piece) → Within 2000000000 (leeway p.side p.limit x.value *ℤ pos 10)
in_range p x = points_within p.side p.limit x.value (record { low = p.limit_low; high = p.limit_high }) (record { low = x.low; high = x.high })

pub leeway_sound : (p : LeewayPlan) → Sound (leeway_scheme p) (value_as_good p.side)
leeway_sound p = record {
  limit_from_one = p.n_t_low;
  limit_to_4000 = p.n_t_high;
  points_low = λ x. (in_range p x).low;
  points_high = λ x. (in_range p x).high;
  more_points_better = points_ordered p.side p.limit;
}
