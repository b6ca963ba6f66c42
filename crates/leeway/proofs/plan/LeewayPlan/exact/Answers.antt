use Rattle.std.proofs.Common.{◌≡◌, ◌*◌, pos, ◌+ℤ◌, ◌*ℤ◌, ◌∙◌, ap₂, arith, rules}
use Rattle.plans.specs.Rounding.{Within}
use Rattle.plans.proofs.Products.{within_pos, within_more, within_product, product_passed}
use Rattle.leeway.specs.Leeway.{exact_value}
use Rattle.leeway.proofs.plan.LeewayPlan.exact.Goals as goal

sigma_within : (c : goal.After-from) → Within 1000000 c.from.result
sigma_within c = rw c.from.ensures (within_pos 1000000 c.args.self.now.sigma c.args.self.now.sigma_high)

pub invariant_of-result : goal.invariant_of-result
invariant_of-result c =
    let is = product_passed c.with_intercept.result c.from.result 2200000000 1000000 (omega arith) (omega arith) (omega arith) c.with_intercept.ensures.within (sigma_within c) in
    let product = within_product c.with_intercept.result c.from.result 2200000000 1000000 c.with_intercept.ensures.within (sigma_within c) in
    let w = within_more 2200000000000000 3000000000000000 _ (omega arith) product in
    rw is (record { low = w.low; high = w.high })

pub returns : goal.returns
unfolding exact_value
returns c =
    let sum : c.with_intercept.result ≡ pos (c.args.self.now.g * c.args.at.n) +ℤ c.args.h = search rules in
    product_passed c.with_intercept.result c.from.result 2200000000 1000000 (omega arith) (omega arith) (omega arith) c.with_intercept.ensures.within (sigma_within c.before)
    ∙ ap₂ (λ x y. x *ℤ y) sum c.from.ensures
