-- The bytes that the entries write.
use Rattle.std.specs.Prelude.{ℕ, ◌+◌, ◌/◌, ◌%◌, List, [], ◌∷◌, ◌++◌, length, take, drop, ℤ, Some, None, Option}
use Rattle.std.specs.Int.{w64}
use Rattle.std.proofs.Common.{of_z}

-- out with these bytes from a place on, and the others as they were
abbrev pub stored : List ℕ → ℕ → List ℕ → List ℕ
stored out at bytes = take at out ++ (bytes ++ drop (at + length bytes) out)

-- a number in four bytes, the lowest first
abbrev pub four_bytes : ℕ → List ℕ
four_bytes n = n % 256 ∷ n / 256 % 256 ∷ n / 65536 % 256 ∷ n / 16777216 % 256 ∷ []

abbrev pub eight_bytes : ℕ → List ℕ
eight_bytes n =
    n % 256 ∷ n / 256 % 256 ∷ n / 65536 % 256 ∷ n / 16777216 % 256
    ∷ n / 4294967296 % 256 ∷ n / 1099511627776 % 256 ∷ n / 281474976710656 % 256 ∷ n / 72057594037927936 % 256 ∷ []

-- 1 and a number with a sign in eight bytes, the lowest first; nine zeros where there is no number
abbrev pub number_bytes : Option ℤ → List ℕ
number_bytes None = 0 ∷ eight_bytes 0
number_bytes (Some v) = 1 ∷ eight_bytes (of_z w64 v)
