-- Two lots under one plan, the second at least as good piece by piece.
use Rattle.std.specs.Prelude.{◌≡◌, ℕ, ◌+◌, ◌≤◌, ◌⊎◌, List, [], ◌∷◌, length, take, ◌≢◌}
use Rattle.sampling.specs.declared.piece.Piece.{Piece}
use Rattle.sampling.specs.declared.word.Word.{Word}
use Rattle.sampling.specs.declared.word.Word.TheVariants.{Going, Accepted, NotAccepted}

-- the second is at least as good as the first, number by number, while both last
pub data WhileBothLast (good : Piece → Piece → Type 0) : List Piece → List Piece → Type 0 where
  first_ends : {ys : List Piece} → WhileBothLast good [] ys
  second_ends : {xs : List Piece} → WhileBothLast good xs []
  both : {x y : Piece} {xs ys : List Piece} → good y x → WhileBothLast good xs ys → WhileBothLast good (x ∷ xs) (y ∷ ys)

module _ (word : List Piece → Word) where
  -- the lot has this word at piece k: on the first k pieces, and on one fewer the word is going
  abbrev pub HasAt : Word → ℕ → List Piece → Type 0
  HasAt w k ps = (j : ℕ) × (k ≡ j + 1) × (k ≤ length ps) × (word (take k ps) ≡ w) × (word (take j ps) ≡ Going)

  -- it reaches k, from 1: with its sentence, or with at least k pieces
  abbrev pub Reaches : ℕ → List Piece → Type 0
  Reaches k ps = (1 ≤ k) × ((word ps ≢ Going) ⊎ (k ≤ length ps))

  -- at every k that both reach
  pub record Compared (first second : List Piece) : Type 0 where
    pub accepted_too : (k : ℕ) → Reaches k first → Reaches k second → HasAt Accepted k first → (j : ℕ) × (j ≤ k) × HasAt Accepted j second
    pub refused_too : (k : ℕ) → Reaches k first → Reaches k second → HasAt NotAccepted k second → (j : ℕ) × (j ≤ k) × HasAt NotAccepted j first
