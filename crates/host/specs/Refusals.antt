-- What an entry answers where it writes nothing.
use Rattle.std.specs.Prelude.{ℕ, Ok, Err, Result}
use Rattle.plans.specs.Refusals as plan
use Rattle.lookup.specs.Looked.{lookup_number}
use Rattle.host.specs.declared.refusal.Refusal.{Refusal}
use Rattle.host.specs.declared.refusal.Refusal.TheVariants.{Plan, Lookup, TooShort, NoLine}

abbrev pub refusal_number : Refusal → ℕ
refusal_number (Plan e) = plan.refusal_number e
refusal_number (Lookup e) = lookup_number e
refusal_number TooShort = 100
refusal_number NoLine = 101

-- 0, or the refusal's number
abbrev pub answer_of : Result (Unit {0}) Refusal → ℕ
answer_of (Ok u) = 0
answer_of (Err e) = refusal_number e
