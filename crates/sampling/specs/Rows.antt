-- A piece as the two numbers that are typed for it.
use Rattle.std.specs.Prelude.{ℕ, List, map, ℤ, pos}
use Rattle.sampling.specs.declared.piece.Piece.{Piece}
use Rattle.sampling.specs.declared.piece.Finding.{Finding}
use Rattle.sampling.specs.declared.piece.Finding.TheVariants.{Clean, Nonconforming}
use Rattle.sampling.specs.declared.rows.Row.{Row}

-- as a byte of a record
abbrev pub finding_byte : Finding → ℕ
finding_byte Clean = 0
finding_byte Nonconforming = 1

-- 0 is clean, 1 nonconforming
abbrev pub finding_number : Finding → ℤ
finding_number Clean = pos 0
finding_number Nonconforming = pos 1

abbrev pub row_of : Piece → Row
row_of p = record { value = p.value; finding = finding_number p.finding }

abbrev pub rows_of : List Piece → List Row
rows_of ps = map row_of ps
