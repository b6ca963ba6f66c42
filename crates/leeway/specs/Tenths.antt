-- A number of tenths as it is printed, with one decimal.
use Rattle.std.specs.Prelude.{ℕ, suc, ◌/◌, ◌%◌, List, ◌++◌, ℤ, pos, negsuc, codes, decimal}

abbrev pub one_decimal : ℕ → List ℕ
one_decimal n = decimal (n / 10) ++ (codes "." ++ decimal (n % 10))

abbrev pub tenths_text : ℤ → List ℕ
tenths_text (pos n) = one_decimal n
tenths_text (negsuc n) = codes "-" ++ one_decimal (suc n)
