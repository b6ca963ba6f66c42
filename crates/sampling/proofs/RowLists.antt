-- A list of rows against the pieces that it stands for.
use Rattle.std.proofs.Common.{◌≡◌, ℕ, zero, suc, ◌<◌, List, [], ◌∷◌, length, get_or, refl, arith}
use Rattle.sampling.specs.declared.piece.Piece.{Piece}
use Rattle.sampling.specs.declared.rows.Row.{Row}
use Rattle.sampling.specs.Rows.{row_of, rows_of}

-- each row of a list of pieces is a piece's
pub row_at : (ps : List Piece) (rows : List Row) (i : ℕ) (d : Row) → rows_of ps ≡ rows → i < length rows → (p : Piece) × (row_of p ≡ get_or rows i d)
row_at ps rows i d e h = rw (← e) (from ps i d (rw (← e) at h))
  where
    from : (ps : List Piece) (i : ℕ) (d : Row) → i < length (rows_of ps) → (p : Piece) × (row_of p ≡ get_or (rows_of ps) i d)
    from [] i d h = absurd (omega arith)
    from (p ∷ ps) zero d h = (p, refl)
    from (p ∷ ps) (suc i) d h = from ps i d (omega arith)
