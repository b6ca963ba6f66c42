-- Rounding to whole units.
use Rattle.std.specs.Prelude.{ℕ, ◌+◌, ℤ, pos, ◌+ℤ◌, ◌-ℤ◌, ◌*ℤ◌, neg_ℤ, ◌≤ℤ◌, ◌<ℤ◌}
use Rattle.std.specs.Int.{int_div_euclid}

-- x in whole units, rounded down
unfoldable pub rounded_down : ℕ → ℤ → ℤ
rounded_down unit x = int_div_euclid x (pos unit)

-- x in whole units, rounded up
abbrev pub rounded_up : ℕ → ℤ → ℤ
rounded_up unit x = neg_ℤ (rounded_down unit (neg_ℤ x))

-- x in units, rounded to the nearest; an exact half goes up
unfoldable pub half_up : ℕ → ℤ → ℤ
half_up unit x = rounded_down (unit + unit) (x +ℤ x +ℤ pos unit)

-- x in units, rounded to the nearest; an exact half goes down
abbrev pub half_down : ℕ → ℤ → ℤ
half_down unit x = neg_ℤ (half_up unit (neg_ℤ x))

-- what x has beyond r units, twice
abbrev pub twice_beyond : ℕ → ℤ → ℤ → ℤ
twice_beyond unit x r = (x -ℤ r *ℤ pos unit) +ℤ (x -ℤ r *ℤ pos unit)

-- no whole number of units is nearer to x than r, and of two equally near r is the upper
pub record NearestHalfUp (unit : ℕ) (x r : ℤ) : Type 0 where
  pub not_below : twice_beyond unit x r <ℤ pos unit
  pub not_above : neg_ℤ (pos unit) ≤ℤ twice_beyond unit x r

-- the same, and of two equally near r is the lower
pub record NearestHalfDown (unit : ℕ) (x r : ℤ) : Type 0 where
  pub not_below : twice_beyond unit x r ≤ℤ pos unit
  pub not_above : neg_ℤ (pos unit) <ℤ twice_beyond unit x r

-- r is the greatest whole number of units that is not above x
pub record GreatestNotAbove (unit : ℕ) (x r : ℤ) : Type 0 where
  pub not_above : (r *ℤ pos unit) ≤ℤ x
  pub greatest : x <ℤ ((r *ℤ pos unit) +ℤ pos unit)

-- r is the least whole number of units that is not below x
pub record LeastNotBelow (unit : ℕ) (x r : ℤ) : Type 0 where
  pub not_below : x ≤ℤ (r *ℤ pos unit)
  pub least : ((r *ℤ pos unit) -ℤ pos unit) <ℤ x

-- at most m away from 0
pub record Within (m : ℕ) (x : ℤ) : Type 0 where
  pub low : neg_ℤ (pos m) ≤ℤ x
  pub high : x ≤ℤ pos m
