-- What every judge owes, whatever its plan.
use Rattle.std.specs.Prelude.{◌≡◌, ℕ, ◌≤◌, List, [], ◌∷◌, ◌++◌, length, ◌≢◌}
use Rattle.sampling.specs.declared.piece.Piece.{Piece}
use Rattle.sampling.specs.declared.word.Word.{Word}
use Rattle.sampling.specs.declared.word.Word.TheVariants.{Going, Accepted, NotAccepted}

-- two lists of equal length; each piece of the second is at least as good as its fellow in the first
pub data Piecewise (good : Piece → Piece → Type 0) : List Piece → List Piece → Type 0 where
  none : Piecewise good [] []
  more : {x y : Piece} {xs ys : List Piece} → good y x → Piecewise good xs ys → Piecewise good (x ∷ xs) (y ∷ ys)

-- `good x y`: x is at least as good as y. `says xs`: the word on the pieces xs after begin
pub record Lawful (limit : ℕ) (good : Piece → Piece → Type 0) (says : List Piece → Word) : Type 0 where
  pub limit_from_one : 1 ≤ limit
  pub limit_to_4000 : limit ≤ 4000
  pub reflexive : (x : Piece) → good x x
  pub transitive : (x y z : Piece) → good x y → good y z → good x z
  pub begins_going : says [] ≡ Going
  pub ends_by_limit : (xs : List Piece) → limit ≤ length xs → says xs ≢ Going
  pub sentence_kept : (xs ys : List Piece) → (says xs ≢ Going) → says (xs ++ ys) ≡ says xs
  pub better_accepted : (xs ys : List Piece) → Piecewise good xs ys → says xs ≡ Accepted → says ys ≡ Accepted
  pub worse_not_accepted : (xs ys : List Piece) → Piecewise good xs ys → says ys ≡ NotAccepted → says xs ≡ NotAccepted
