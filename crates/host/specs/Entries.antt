-- What the entries for C answer and write.
use Rattle.std.specs.Prelude.{◌≡◌, ℕ, cond, List, ◌++◌, length, ℤ, Some, None, Ok, Err, Option, Result, nat_lt}
use Rattle.sampling.specs.Table.{Line}
use Rattle.plans.specs.declared.refusal.PlanRefusal.{PlanRefusal}
use Rattle.plans.specs.Refusals.{refusal_number}
use Rattle.leeway.specs.declared.numbers.LeewayNumbers.{LeewayNumbers}
use Rattle.lookup.specs.declared.entry.Entry.{Entry}
use Rattle.lookup.specs.declared.refusal.LookupRefusal.{LookupRefusal}
use Rattle.lookup.specs.Looked.{lookup_number}
use Rattle.host.specs.declared.plan.Plan.{Plan}
use Rattle.host.specs.Bytes.{stored, four_bytes, number_bytes}
use Rattle.host.specs.Plans.{Has, refusal_of, line_of}

-- 100 where the output is too short for so many bytes, else 0
abbrev pub fit_answer : ℕ → List ℕ → ℕ
fit_answer n out = cond (nat_lt (length out) n) 100 0

-- the bytes at the front of the output, where it has room; else it is as it was
abbrev pub fit_bytes : ℕ → List ℕ → List ℕ → List ℕ
fit_bytes n bytes out = cond (nat_lt (length out) n) out (stored out 0 bytes)

-- g, h_A, h_R and n_t in four bytes each
abbrev pub plan_bytes : ℕ → ℕ → ℕ → ℕ → List ℕ
plan_bytes g h_a h_r n_t = ((four_bytes g ++ four_bytes h_a) ++ four_bytes h_r) ++ four_bytes n_t

-- the lookup: its plan, or the refusal's number and the output as it was
abbrev pub LookupTold : Result Entry LookupRefusal → List ℕ → ℕ → List ℕ → Type 0
LookupTold (Ok e) out r out' = (r ≡ fit_answer 16 out) × (out' ≡ fit_bytes 16 (plan_bytes e.g e.h_a e.h_r e.n_t) out)
LookupTold (Err refusal) out r out' = (r ≡ lookup_number refusal) × (out' ≡ out)

-- 0 where nothing turns the numbers down
abbrev pub check_number : Option PlanRefusal → ℕ
check_number None = 0
check_number (Some refusal) = refusal_number refusal

-- the numbers of a plan as C hands them over, the kind standing as the side
abbrev pub typed : ℤ → ℤ → ℤ → ℤ → ℤ → ℤ → ℤ → LeewayNumbers
typed kind g h_a h_r n_t σ limit =
    record { g = g; h_a = h_a; h_r = h_r; n_t = n_t; sigma = σ; limit = limit; side = kind }

abbrev pub check_answer : LeewayNumbers → ℕ
check_answer t = check_number (refusal_of t)

-- 101 where there is no line
abbrev pub line_answer : Option Line → List ℕ → ℕ
line_answer None out = 101
line_answer (Some line) out = fit_answer 18 out

abbrev pub line_bytes : Option Line → List ℕ → List ℕ
line_bytes None out = out
line_bytes (Some line) out = fit_bytes 18 (number_bytes line.0 ++ number_bytes line.1) out

-- the line of the plan that has the numbers, or the refusal's number and the output as it was
abbrev pub LineTold : Option PlanRefusal → (Plan → Type 0) → ℕ → List ℕ → ℕ → List ℕ → Type 0
LineTold (Some refusal) fits n out r out' = (r ≡ refusal_number refusal) × (out' ≡ out)
LineTold None fits n out r out' =
    (p : Plan) × fits p × (r ≡ line_answer (line_of p n) out) × (out' ≡ line_bytes (line_of p n) out)

abbrev pub LineEntry : LeewayNumbers → ℕ → List ℕ → ℕ → List ℕ → Type 0
LineEntry t n out r out' = LineTold (refusal_of t) (Has t) n out r out'
