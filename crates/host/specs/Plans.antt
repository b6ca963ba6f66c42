-- Plans of either kind, told apart by a number.
use Rattle.std.specs.Prelude.{◌≡◌, ℕ, Bool, true, false, cond, ℤ, pos, Option}
use Rattle.sampling.specs.Table.{Line}
use Rattle.sampling.specs.Sequential.{line_at}
use Rattle.plans.specs.declared.refusal.PlanRefusal.{PlanRefusal}
use Rattle.plans.specs.PlanChecks.{between}
use Rattle.leeway.specs.declared.numbers.LeewayNumbers.{LeewayNumbers}
use Rattle.leeway.specs.LeewayChecks.{leeway_refusal, leeway_numbers}
use Rattle.leeway.specs.Leeway.{leeway_scheme}
use Rattle.loupe.specs.declared.numbers.LoupeNumbers.{LoupeNumbers}
use Rattle.loupe.specs.LoupeChecks.{loupe_refusal, loupe_numbers}
use Rattle.loupe.specs.Loupe.{loupe_scheme}
use Rattle.host.specs.declared.plan.Plan.{Plan}
use Rattle.host.specs.declared.plan.Plan.TheVariants.{Leeway, Loupe}

-- kind 2 is a loupe plan; any other is a leeway plan's side
abbrev pub is_loupe : ℤ → Bool
is_loupe kind = between (pos 2) (pos 2) kind

-- the four numbers that a loupe plan has
abbrev pub loupe_part : LeewayNumbers → LoupeNumbers
loupe_part t = record { g = t.g; h_a = t.h_a; h_r = t.h_r; n_t = t.n_t }

-- why these numbers make no plan of this kind
abbrev pub refusal_of : LeewayNumbers → Option PlanRefusal
refusal_of t = cond (is_loupe t.side) (loupe_refusal (loupe_part t)) (leeway_refusal t)

-- the plan is of this kind and has these numbers
abbrev pub Has : LeewayNumbers → Plan → Type 0
Has t (Leeway p) = (is_loupe t.side ≡ false) × (leeway_numbers p ≡ t)
Has t (Loupe p) = (is_loupe t.side ≡ true) × (loupe_numbers p ≡ loupe_part t)

abbrev pub line_of : Plan → ℕ → Option Line
line_of (Leeway p) n = line_at (leeway_scheme p) n
line_of (Loupe p) n = line_at (loupe_scheme p) n
