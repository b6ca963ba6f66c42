-- Pieces read one after the other.
use Rattle.std.proofs.Common.{◌≡◌, ℕ, zero, suc, ◌+◌, ◌<◌, List, [], ◌∷◌, length, drop, refl, add-one, arith}
use Rattle.std.specs.Option.{MatchOption}
use Rattle.sampling.specs.declared.piece.Piece.{Piece}
use Rattle.book.specs.Meaning.{piece_at}

next_at : (ps : List Piece) (i : ℕ) → i < length ps → MatchOption (piece_at ps (suc i)) ((drop i ps ≡ []) × (drop (suc i) ps ≡ [])) (λ p. drop i ps ≡ p ∷ drop (suc i) ps)
next_at [] i h = absurd (omega arith)
next_at (x ∷ xs) zero h = refl
next_at (x ∷ xs) (suc i) h = next_at xs i (omega arith)

-- after the first i comes the piece i + 1
pub next_read : (ps : List Piece) (i : ℕ) → i < length ps → MatchOption (piece_at ps (i + 1)) ((drop i ps ≡ []) × (drop (i + 1) ps ≡ [])) (λ p. drop i ps ≡ p ∷ drop (i + 1) ps)
next_read ps i h = rw add-one (next_at ps i h)
