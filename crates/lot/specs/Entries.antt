-- Waking, entering, and what a power cut leaves of them.
use Rattle.std.specs.Prelude.{◌≡◌, ℕ, ◌+◌, ◌⊎◌, List, [], ◌∷◌, ◌++◌, length, Ok, Err, Result, ◌≢◌}
use Rattle.sampling.specs.declared.piece.Piece.{Piece}
use Rattle.sampling.specs.declared.rows.Row.{Row}
use Rattle.sampling.specs.declared.word.Word.{Word}
use Rattle.sampling.specs.declared.word.Word.TheVariants.{Going}
use Rattle.sampling.specs.Rows.{row_of}
use Rattle.book.specs.Meaning.{Contents, all_of, pressed, IsCutOff}
use Rattle.lot.specs.declared.refusal.EntryRefusal.{EntryRefusal}
use Rattle.lot.specs.declared.refusal.EntryRefusal.TheVariants.{OutOfRange, NotGoing, NoPlaces}
use Rattle.lot.specs.declared.stopped.Stopped.{Stopped}
use Rattle.lot.specs.declared.stopped.Stopped.TheVariants.{Refused, CutOff}

abbrev pub entry_number : EntryRefusal → ℕ
entry_number OutOfRange = 9
entry_number NotGoing = 10
entry_number NoPlaces = 11

-- some piece has these two numbers
abbrev pub IsPiece : Row → Type 0
IsPiece row = (p : Piece) × (row_of p ≡ row)

-- when an entry of these numbers is turned down, and why, by the word and the places before it
abbrev pub RefusedAs : Row → Word → ℕ → EntryRefusal → Type 0
RefusedAs row word places OutOfRange = IsPiece row → ⊥
RefusedAs row word places NotGoing = IsPiece row × (word ≢ Going)
RefusedAs row word places NoPlaces = IsPiece row × (word ≡ Going) × (places ≡ 0)

-- one piece more is kept, after all that waited
pub record OneKept (before : Contents) (p : Piece) (after : Contents) : Type 0 where
  pub kept_is : after.kept ≡ all_of before ++ (p ∷ [])
  pub none_waits : after.waiting ≡ []
  pub fewer : after.places + 1 ≡ before.places

-- a lot was woken: `fresh` is what its judge says after begin, `says` what it says now
pub record Woken (fresh : List Piece → Word) (before : Contents) (says : List Piece → Word) (after : Contents) : Type 0 where
  pub pressed_is : after ≡ pressed before
  pub told : (xs : List Piece) → says xs ≡ fresh (after.kept ++ xs)

-- an entry was answered with a word and a number
pub record Entered (row : Row) (says : List Piece → Word) (before : Contents) (word : Word) (number : ℕ) (says' : List Piece → Word) (after : Contents) : Type 0 where
  pub piece : Piece
  pub typed : row_of piece ≡ row
  pub going : says [] ≡ Going
  pub kept_one : OneKept before piece after
  pub judged : (xs : List Piece) → says' xs ≡ says (piece ∷ xs)
  pub word_is : word ≡ says' []
  pub number_is : number ≡ length after.kept

-- an entry was broken off by a cut: of what waited and then its own piece, if it was admitted, a beginning is kept
abbrev pub IsBrokenOff : Row → Word → Contents → Contents → Type 0
IsBrokenOff row word before after =
    IsCutOff before before.waiting after
    ⊎ ((p : Piece) × (row_of p ≡ row) × (word ≡ Going) × IsCutOff before (before.waiting ++ (p ∷ [])) after)

-- how an entry went. `Same`: the lot is as it was. `NoCut`: no cut was asked for
abbrev pub Went : Result (Word × ℕ) Stopped → Row → (List Piece → Word) → Contents → (List Piece → Word) → Contents → (Same NoCut : Type 0) → Type 0
Went (Ok (word, number)) row says before says' after Same NoCut = Entered row says before word number says' after
Went (Err (Refused e)) row says before says' after Same NoCut = RefusedAs row (says []) before.places e × Same
Went (Err CutOff) row says before says' after Same NoCut = IsBrokenOff row (says []) before after × (NoCut → ⊥)
