-- Sequential sampling by a table: each piece adds its points to the score, and
-- the score is held against the table's line until there is a sentence.
use Rattle.std.specs.Prelude.{ℕ, suc, ◌≤◌, Bool, false, cond, ◌||◌, List, [], ◌∷◌, ℤ, pos, ◌+ℤ◌, neg_ℤ, ◌≤ℤ◌, Some, None, Option, int_le, nat_le}
use Rattle.sampling.specs.declared.piece.Piece.{Piece}
use Rattle.sampling.specs.declared.word.Word.{Word}
use Rattle.sampling.specs.declared.word.Word.TheVariants.{Going, Accepted, NotAccepted}
use Rattle.sampling.specs.Table.{Line, where_true, numbered, Exactly}

-- what a plan says of single pieces and piece numbers
pub record Scheme : Type 0 where
  -- the number of the last line
  pub last : ℕ
  -- what a piece adds to the score
  pub points : Piece → ℤ
  pub line : ℕ → Line

-- a plan's line n, from 1 to its limit; otherwise nothing
abbrev pub line_at : Scheme → ℕ → Option Line
line_at t n = where_true (numbered t.last n) (t.line n)

abbrev pub reaches : Option ℤ → ℤ → Bool
reaches None score = false
reaches (Some a) score = int_le a score

abbrev pub falls_to : Option ℤ → ℤ → Bool
falls_to None score = false
falls_to (Some r) score = int_le score r

-- the word by one line; `last` says that no line follows
abbrev pub by_line : Bool → ℤ → Line → Word
by_line last score line =
    cond (reaches line.0 score) Accepted (cond (last || falls_to line.1 score) NotAccepted Going)

-- where there is no line, nothing is accepted any more
abbrev pub by_told : Bool → ℤ → Option Line → Word
by_told last score None = NotAccepted
by_told last score (Some line) = by_line last score line

-- the word at piece n of a lot that is going, with this score
unfoldable pub word_at : Scheme → ℕ → ℤ → Word
word_at t n score = by_told (nat_le t.last n) score (line_at t n)

-- a sentence stands; while the lot is going, the next word counts
abbrev pub unless_settled : Word → Word → Word
unless_settled Going next = next
unless_settled Accepted next = Accepted
unless_settled NotAccepted next = NotAccepted

-- the word on further pieces, where n pieces have made this score and the lot is going
unfoldable pub word_from : Scheme → ℕ → ℤ → List Piece → Word
word_from t n score [] = Going
word_from t n score (x ∷ xs) =
    unless_settled (word_at t (suc n) (score +ℤ t.points x)) (word_from t (suc n) (score +ℤ t.points x) xs)

-- the word on a list of pieces from the first
abbrev pub word_on : Scheme → List Piece → Word
word_on t xs = word_from t 0 (pos 0) xs

abbrev pub total : Scheme → List Piece → ℤ
total t [] = pos 0
total t (x ∷ xs) = t.points x +ℤ total t xs

-- what a plan owes, so that its judge is lawful; `good x y`: x is at least as good as y
pub record Sound (t : Scheme) (good : Piece → Piece → Type 0) : Type 0 where
  pub limit_from_one : 1 ≤ t.last
  pub limit_to_4000 : t.last ≤ 4000
  pub points_low : (x : Piece) → neg_ℤ (pos 2000000000) ≤ℤ t.points x
  pub points_high : (x : Piece) → t.points x ≤ℤ pos 2000000000
  pub more_points_better : (x y : Piece) → Exactly (good x y) (t.points y ≤ℤ t.points x)
