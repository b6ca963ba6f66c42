-- Rounding to the nearest unit, for any unit.
use Rattle.std.proofs.Common.{◌≡◌, ℕ, zero, suc, ◌+◌, ◌*◌, ◌/◌, ◌≤◌, ℤ, pos, negsuc, ◌+ℤ◌, ◌*ℤ◌, neg_ℤ, sym, refl, suc-mul, zero-mul, mul-add, arith}
use lib.IntN.{neg_ℤ-neg_ℤ}
use Rattle.std.specs.Int.{int_div_euclid}
use Rattle.std.proofs.lemmas.Int.{ints}
use Rattle.std.proofs.lemmas.Nat.{div-add-mod', mod_below}
use Rattle.plans.specs.Rounding.{rounded_down, rounded_up, half_up, half_down, NearestHalfUp, NearestHalfDown, GreatestNotAbove, LeastNotBelow}

floor : (unit : ℕ) (x : ℤ) → 1 ≤ unit → GreatestNotAbove unit x (int_div_euclid x (pos unit))
floor unit (pos a) h =
    let split = div-add-mod' a unit in
    let low = mod_below a unit h in
    record { not_above = omega (arith, ints); greatest = omega (arith, ints) }
floor unit (negsuc a) h =
    let split = div-add-mod' a unit in
    let low = mod_below a unit h in
    let more = suc-mul (a / unit) unit in
    record { not_above = omega (arith, ints); greatest = omega (arith, ints) }

pub down_greatest : (unit : ℕ) (x : ℤ) → 1 ≤ unit → GreatestNotAbove unit x (rounded_down unit x)
unfolding rounded_down
down_greatest unit x h = floor unit x h

doubled : (q : ℤ) (u : ℕ) → q *ℤ pos (u + u) ≡ (q *ℤ pos u) +ℤ (q *ℤ pos u)
doubled (pos a) u = let e = mul-add a u u in omega (arith, ints)
doubled (negsuc a) u = let e = mul-add (suc a) u u in omega (arith, ints)

negated : (q : ℤ) (u : ℕ) → neg_ℤ q *ℤ pos u ≡ neg_ℤ (q *ℤ pos u)
negated (pos zero) u = let none = zero-mul u in omega (arith, ints)
negated (pos (suc a)) u = refl
negated (negsuc a) u = sym (neg_ℤ-neg_ℤ (pos (suc a * u)))

pub up_least : (unit : ℕ) (x : ℤ) → 1 ≤ unit → LeastNotBelow unit x (rounded_up unit x)
up_least unit x h =
    let down = down_greatest unit (neg_ℤ x) h in
    let above = down.not_above in
    let greatest = down.greatest in
    let neg = negated (rounded_down unit (neg_ℤ x)) unit in
    record { not_below = omega (arith, ints); least = omega (arith, ints) }

pub nearest_half_up : (unit : ℕ) (x : ℤ) → 1 ≤ unit → NearestHalfUp unit x (half_up unit x)
unfolding half_up rounded_down
nearest_half_up unit x h =
    let q : ℤ = int_div_euclid (x +ℤ x +ℤ pos unit) (pos (unit + unit)) in
    let floor = floor (unit + unit) (x +ℤ x +ℤ pos unit) (omega arith) in
    let from = floor.not_above in
    let before = floor.greatest in
    let double = doubled q unit in
    record { not_below = omega (arith, ints); not_above = omega (arith, ints) }

pub nearest_half_down : (unit : ℕ) (x : ℤ) → 1 ≤ unit → NearestHalfDown unit x (half_down unit x)
nearest_half_down unit x h =
    let up = nearest_half_up unit (neg_ℤ x) h in
    let below = up.not_below in
    let above = up.not_above in
    let neg = negated (half_up unit (neg_ℤ x)) unit in
    record { not_below = omega (arith, ints); not_above = omega (arith, ints) }
