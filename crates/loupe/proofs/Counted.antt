-- The numbers of a loupe plan are rounded to whole pieces.
use Rattle.std.proofs.Common.{ℕ, arith}
use Rattle.plans.proofs.RoundingLaws.{down_greatest, up_least}
use Rattle.loupe.specs.declared.plan.LoupePlan.{LoupePlan}
use Rattle.loupe.specs.Loupe.{whole_piece, exact_acceptance_number, exact_rejection_number, exact_curtailed_number, Counted}

pub numbers_counted : (p : LoupePlan) (n : ℕ) → Counted p n
numbers_counted p n = record {
  acceptance = down_greatest whole_piece (exact_acceptance_number p n) (omega arith);
  rejection = up_least whole_piece (exact_rejection_number p n) (omega arith);
  curtailed = down_greatest whole_piece (exact_curtailed_number p) (omega arith);
}
