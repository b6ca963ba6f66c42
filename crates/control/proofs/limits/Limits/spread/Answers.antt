use Rattle.std.proofs.Common.{◌≡◌, ◌≤◌, ℕ, ℤ, pos, ◌*ℤ◌, ap, ◌∙◌, arith, w64, to_z, of_z}
use Rattle.std.proofs.lemmas.Int.{to_z_pos}
use Rattle.plans.specs.Rounding.{Within}
use Rattle.plans.proofs.Products.{within_scaled, passed}
use Rattle.control.specs.Separate.{spread}
use Rattle.control.proofs.limits.Limits.spread.Goals as goal

product_within : (x : ℤ) (n : ℕ) → Within 2000000000 x → n ≤ 4000 → Within 8000000000000 (x *ℤ pos n)
product_within x n w few = within_scaled x n 2000000000 4000 w few

-- what the code computes, without its casts
product_is : (x : ℤ) (n : ℕ) → Within 2000000000 x → n ≤ 4000 → to_z w64 (of_z w64 (to_z w64 (of_z w64 x) *ℤ to_z w64 n)) ≡ x *ℤ pos n
product_is x n w few =
    rw (passed 2000000000 x (omega arith) w, to_z_pos w64 n (omega arith), passed 8000000000000 (x *ℤ pos n) (omega arith) (product_within x n w few))

pub returns : goal.returns
unfolding spread
returns c =
    let is = product_is c.width.result c.args.at.n c.width.ensures.within c.args.at.high in
    record {
      value = is ∙ ap (λ x. x *ℤ pos c.args.at.n) c.width.ensures.value;
      within = rw is (product_within c.width.result c.args.at.n c.width.ensures.within c.args.at.high);
    }
