use Rattle.std.proofs.Common.{◌≡◌, ◌-ℤ◌, ◌*ℤ◌, ◌∙◌, ap₂, arith, rules}
use Rattle.std.proofs.lemmas.Int.{ints}
use Rattle.plans.specs.Rounding.{Within}
use Rattle.plans.proofs.Products.{within_i32, product_fits, product_passed}
use Rattle.control.proofs.limits.Limits.most_deviation.Goals as goal

steps_is : (c : goal.After-steps_between) → c.steps_between.result ≡ c.args.self.upper.limit -ℤ c.args.self.lower.limit
steps_is c = search rules

steps_within : (c : goal.After-steps_between) → Within 200000000 c.steps_between.result
steps_within c = rw (steps_is c) (record { low = omega (arith, ints); high = omega (arith, ints) })

factor_is : (c : goal.After-steps_between) → c.from.result ≡ c.args.f
factor_is c = search rules

factor_within : (c : goal.After-steps_between) → Within 2147483648 c.from.result
factor_within c = rw (factor_is c) (within_i32 c.args.f c.ranges.f)

pub overflow_mul-result : goal.overflow_mul-result
overflow_mul-result c =
    product_fits c.from.result c.steps_between.result 2147483648 200000000 (omega arith) (omega arith) (omega arith) (factor_within c) (steps_within c)

pub returns : goal.returns
returns c =
    product_passed c.from.result c.steps_between.result 2147483648 200000000 (omega arith) (omega arith) (omega arith) (factor_within c) (steps_within c)
    ∙ ap₂ (λ x y. x *ℤ y) (factor_is c) (steps_is c)
