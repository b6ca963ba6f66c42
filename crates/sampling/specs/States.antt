-- What the state of a sequential judge means.
use Rattle.std.specs.Prelude.{◌≡◌, ◌+◌, ◌≤◌, List, ℤ, ◌+ℤ◌, Some, None, Option}
use Rattle.sampling.specs.declared.tally.Tally.{Tally}
use Rattle.sampling.specs.declared.piece.Piece.{Piece}
use Rattle.sampling.specs.declared.word.Word.{Word}
use Rattle.sampling.specs.declared.word.Word.TheVariants as word
use Rattle.sampling.specs.declared.sequential.State.{State}
use Rattle.sampling.specs.declared.sequential.State.TheVariants.{Going, Accepted, NotAccepted}
use Rattle.sampling.specs.Sequential.{Scheme, word_from}

-- the word on further pieces
abbrev pub says_in : Scheme → State → List Piece → Word
says_in t (Going tally) xs = word_from t tally.count tally.score xs
says_in t Accepted xs = word.Accepted
says_in t NotAccepted xs = word.NotAccepted

-- the tally with one more piece of these points; nothing once settled, or after 4,000 pieces
abbrev pub Plus : State → ℤ → Option Tally → Type 0
Plus (Going tally) points None = 4000 ≤ tally.count
Plus (Going tally) points (Some sum) = (sum.count ≡ tally.count + 1) × (sum.score ≡ tally.score +ℤ points)
Plus Accepted points sum = sum ≡ None
Plus NotAccepted points sum = sum ≡ None
