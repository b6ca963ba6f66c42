-- Bounds of products and quotients of integers.
use Rattle.std.proofs.Common.{◌≡◌, ℕ, suc, ◌+◌, ◌*◌, ◌^◌, ◌<◌, ◌≤◌, ℤ, pos, negsuc, ◌+ℤ◌, ◌*ℤ◌, neg_ℤ, div-le_self, arith, w32, w64, SFits, to_z, of_z}
use lib.IntN.{*ℤ-negsuc, pos-*ℤ-pos, negsuc-*ℤ-pos}
use Rattle.std.specs.Int.{int_div_euclid}
use Rattle.std.proofs.lemmas.Int.{ints, to_z-of_z}
use Rattle.std.proofs.lemmas.Nat.{mul-le}
use Rattle.plans.specs.Rounding.{Within}

pub within_scaled : (z : ℤ) (s m k : ℕ) → Within m z → s ≤ k → Within (m * k) (z *ℤ pos s)
within_scaled (pos a) s m k w h =
    let a_le : a ≤ m = let high = w.high in omega (arith, ints) in
    let le = mul-le a s m k a_le h in
    rw (pos-*ℤ-pos a s) (record { low = omega (arith, ints); high = omega (arith, ints) })
within_scaled (negsuc a) s m k w h =
    let a_le : suc a ≤ m = let low = w.low in omega (arith, ints) in
    let le = mul-le (suc a) s m k a_le h in
    rw (negsuc-*ℤ-pos a s) (record { low = omega (arith, ints); high = omega (arith, ints) })

pub within_fits : (m : ℕ) (x : ℤ) → m < 2 ^ 63 → Within m x → SFits w64 x
within_fits m x h w = let low = w.low in let high = w.high in search (arith, ints)

pub within_more : (m k : ℕ) (x : ℤ) → m ≤ k → Within m x → Within k x
within_more m k x h w = let low = w.low in let high = w.high in record { low = omega (arith, ints); high = omega (arith, ints) }

pub within_sum : (m k : ℕ) (x y : ℤ) → Within m x → Within k y → Within (m + k) (x +ℤ y)
within_sum m k x y v w =
    let vl = v.low in let vh = v.high in let wl = w.low in let wh = w.high in
    record { low = omega (arith, ints); high = omega (arith, ints) }

pub within_neg : (m : ℕ) (x : ℤ) → Within m x → Within m (neg_ℤ x)
within_neg m x w = let low = w.low in let high = w.high in record { low = omega (arith, ints); high = omega (arith, ints) }

pub within_pos : (m n : ℕ) → n ≤ m → Within m (pos n)
within_pos m n h = record { low = omega (arith, ints); high = omega (arith, ints) }

pub within_i32 : (x : ℤ) → SFits w32 x → Within 2147483648 x
within_i32 x f = record { low = omega (arith, ints); high = omega (arith, ints) }

pub within_product : (x y : ℤ) (m k : ℕ) → Within m x → Within k y → Within (m * k) (x *ℤ y)
within_product x (pos s) m k v w = within_scaled x s m k v (let high = w.high in omega (arith, ints))
within_product x (negsuc s) m k v w =
    rw (*ℤ-negsuc x s) (within_neg (m * k) (x *ℤ pos (suc s)) (within_scaled x (suc s) m k v (let low = w.low in omega (arith, ints))))

pub within_quotient : (m d : ℕ) (x : ℤ) → Within m x → Within m (int_div_euclid x (pos d))
within_quotient m d (pos a) w =
    let high = w.high in let q = div-le_self a d in
    record { low = omega (arith, ints); high = omega (arith, ints) }
within_quotient m d (negsuc a) w =
    let low = w.low in let q = div-le_self a d in
    record { low = omega (arith, ints); high = omega (arith, ints) }

-- numbers as the code passes them on, to their bits and back
pub passed : (m : ℕ) (x : ℤ) → m < 2 ^ 63 → Within m x → to_z w64 (of_z w64 x) ≡ x
passed m x h w = to_z-of_z w64 x (within_fits m x h w)

-- the same of a product
factors_passed : (x y : ℤ) (m k : ℕ) → m < 2 ^ 63 → k < 2 ^ 63 → Within m x → Within k y → to_z w64 (of_z w64 x) *ℤ to_z w64 (of_z w64 y) ≡ x *ℤ y
factors_passed x y m k g h v w = rw (passed m x g v, passed k y h w)

pub product_fits : (x y : ℤ) (m k : ℕ) → m < 2 ^ 63 → k < 2 ^ 63 → m * k < 2 ^ 63 → Within m x → Within k y → SFits w64 (to_z w64 (of_z w64 x) *ℤ to_z w64 (of_z w64 y))
product_fits x y m k g h few v w = rw (factors_passed x y m k g h v w) (within_fits (m * k) _ few (within_product x y m k v w))

pub product_passed : (x y : ℤ) (m k : ℕ) → m < 2 ^ 63 → k < 2 ^ 63 → m * k < 2 ^ 63 → Within m x → Within k y
    → to_z w64 (of_z w64 (to_z w64 (of_z w64 x) *ℤ to_z w64 (of_z w64 y))) ≡ x *ℤ y
product_passed x y m k g h few v w = rw (factors_passed x y m k g h v w) (passed (m * k) _ few (within_product x y m k v w))

-- g·n, for any plan
pub slope_within : (g n : ℕ) → g ≤ 9999 → n ≤ 4000 → Within 39996000 (pos (g * n))
slope_within g n low few = within_pos 39996000 (g * n) (mul-le g n 9999 4000 low few)
