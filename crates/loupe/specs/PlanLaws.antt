-- The loupe plan is sound.
use Rattle.std.specs.Prelude.{pos, neg_ℤ, ◌≤ℤ◌}
use Rattle.std.proofs.Common.{arith}
use Rattle.std.proofs.lemmas.Int.{ints}
use Rattle.sampling.specs.declared.piece.Finding.{Finding}
use Rattle.sampling.specs.declared.piece.Finding.TheVariants.{Clean, Nonconforming}
use Rattle.sampling.specs.Table.{Exactly}
use Rattle.sampling.specs.Sequential.{Sound}
use Rattle.loupe.specs.declared.plan.LoupePlan.{LoupePlan}
use Rattle.loupe.specs.Loupe.{loupe_scheme, loupe_points, finding_as_good}

not_low : (f : Finding) → neg_ℤ (pos 2000000000) ≤ℤ loupe_points f
not_low Clean = omega (arith, ints)
not_low Nonconforming = omega (arith, ints)

not_high : (f : Finding) → loupe_points f ≤ℤ pos 2000000000
not_high Clean = omega (arith, ints)
not_high Nonconforming = omega (arith, ints)

points_ordered : (f g : Finding) → Exactly (finding_as_good f g) (loupe_points g ≤ℤ loupe_points f)
points_ordered Clean Clean = (λ h. omega (arith, ints), λ h. tt)
points_ordered Clean Nonconforming = (λ h. omega (arith, ints), λ h. tt)
points_ordered Nonconforming Clean = (λ h. absurd h, λ h. absurd (omega (arith, ints)))
points_ordered Nonconforming Nonconforming = (λ h. omega (arith, ints), λ h. tt)

pub loupe_sound : (p : LoupePlan) → Sound (loupe_scheme p) (λ x y. finding_as_good x.finding y.finding)
loupe_sound p = record {
  limit_from_one = p.n_t_low;
  limit_to_4000 = p.n_t_high;
  points_low = λ x. not_low x.finding;
  points_high = λ x. not_high x.finding;
  more_points_better = λ x y. points_ordered x.finding y.finding;
}
