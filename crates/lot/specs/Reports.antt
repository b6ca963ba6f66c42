-- The sum of the values of pieces.
use Rattle.std.specs.Prelude.{List, [], ◌∷◌, ℤ, pos, ◌+ℤ◌}
use Rattle.sampling.specs.declared.piece.Piece.{Piece}

abbrev pub sum_of : List Piece → ℤ
sum_of [] = pos 0
sum_of (p ∷ ps) = p.value +ℤ sum_of ps
