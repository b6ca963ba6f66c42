-- The line of an acceptability table, and what it promises of a list of pieces.
use Rattle.std.specs.Prelude.{◌≡◌, ℕ, ◌<◌, ◌≤◌, Bool, cond, ◌&&◌, ◌⊎◌, List, length, take, ℤ, ◌≤ℤ◌, Some, None, Option, ◌≢◌, nat_le}
use Rattle.sampling.specs.declared.piece.Piece.{Piece}
use Rattle.sampling.specs.declared.word.Word.{Word}
use Rattle.sampling.specs.declared.word.Word.TheVariants.{Going, Accepted, NotAccepted}

-- the numbers a and r of one line; either may be absent
abbrev pub Line : Type 0
Line = Option ℤ × Option ℤ

-- a value where the test holds, else nothing
abbrev pub where_true : {A : Type 0} → Bool → A → Option A
where_true b x = cond b (Some x) None

-- piece numbers run from 1 to the limit
abbrev pub numbered : ℕ → ℕ → Bool
numbered limit n = nat_le 1 n && nat_le n limit

-- a is present and the score is at least a
abbrev pub Reaches : Option ℤ → ℤ → Type 0
Reaches None score = ⊥
Reaches (Some a) score = a ≤ℤ score

-- r is present and the score is at most r
abbrev pub FallsTo : Option ℤ → ℤ → Type 0
FallsTo None score = ⊥
FallsTo (Some r) score = score ≤ℤ r

abbrev pub Exactly : Type 0 → Type 0 → Type 0
Exactly A B = (A → B) × (B → A)

-- every shorter beginning of the list is going
abbrev pub Undecided : (List Piece → Word) → List Piece → Type 0
Undecided says xs = (k : ℕ) → k < length xs → says (take k xs) ≡ Going

-- score and line decide the word of a list of which every shorter beginning is going
pub record LinePromise (limit : ℕ) (says : List Piece → Word) (score : List Piece → ℤ) (line : ℕ → Line) : Type 0 where
  pub accepted : (xs : List Piece) → 1 ≤ length xs → length xs ≤ limit → Undecided says xs
      → Exactly (says xs ≡ Accepted) (Reaches (line (length xs)).0 (score xs))
  pub not_accepted : (xs : List Piece) → 1 ≤ length xs → length xs ≤ limit → Undecided says xs → (says xs ≢ Accepted)
      → Exactly (says xs ≡ NotAccepted) ((length xs ≡ limit) ⊎ FallsTo (line (length xs)).1 (score xs))
