-- Which numbers make a loupe plan, and why others make none.
use Rattle.std.specs.Prelude.{◌≡◌, pos, Some, None, Option, Result, MatchResult}
use Rattle.plans.specs.declared.refusal.PlanRefusal.{PlanRefusal}
use Rattle.plans.specs.PlanChecks.{parameters_refusal}
use Rattle.loupe.specs.declared.numbers.LoupeNumbers.{LoupeNumbers}
use Rattle.loupe.specs.declared.plan.LoupePlan.{LoupePlan}

abbrev pub loupe_refusal : LoupeNumbers → Option PlanRefusal
loupe_refusal n = parameters_refusal 200000 n.g n.h_a n.h_r n.n_t None

abbrev pub loupe_numbers : LoupePlan → LoupeNumbers
loupe_numbers p = record { g = pos p.g; h_a = pos p.h_a; h_r = pos p.h_r; n_t = pos p.n_t }

-- the plan with these numbers, or the first reason why there is none
abbrev pub ReadsLoupe : LoupeNumbers → Result LoupePlan PlanRefusal → Type 0
ReadsLoupe n r = MatchResult r (λ plan. (loupe_numbers plan ≡ n) × (loupe_refusal n ≡ None)) (λ e. loupe_refusal n ≡ Some e)
