-- What a book holds, and what its calls and a power cut make of that.
use Rattle.std.specs.Prelude.{◌≡◌, ℕ, zero, suc, ◌+◌, List, [], ◌∷◌, ◌++◌, take, Some, None, Ok, Err, Option, Result}
use Rattle.sampling.specs.declared.piece.Piece.{Piece}
use Rattle.book.specs.declared.refusal.PutRefusal.{PutRefusal}
use Rattle.book.specs.declared.refusal.PutRefusal.TheVariants.{NoPlaces}

abbrev pub put_number : PutRefusal → ℕ
put_number NoPlaces = 11

pub record Contents : Type 0 where
  -- the pieces that a power cut leaves, in order of entry
  pub kept : List Piece
  -- those put since and not kept yet, in order of entry
  pub waiting : List Piece
  -- how many more pieces it takes
  pub places : ℕ

abbrev pub all_of : Contents → List Piece
all_of c = c.kept ++ c.waiting

abbrev pub Blank : Contents → Type 0
Blank c = (c.kept ≡ []) × (c.waiting ≡ [])

-- the piece i of a list, from 1
abbrev pub piece_at : List Piece → ℕ → Option Piece
piece_at ps zero = None
piece_at [] (suc i) = None
piece_at (p ∷ ps) (suc zero) = Some p
piece_at (p ∷ ps) (suc (suc i)) = piece_at ps (suc i)

-- a piece was put: it stands last, no kept piece is lost or moved, and one place is taken
pub record Added (before : Contents) (p : Piece) (after : Contents) : Type 0 where
  pub joined : all_of after ≡ all_of before ++ (p ∷ [])
  pub still_kept : (more : List Piece) × (after.kept ≡ before.kept ++ more)
  pub fewer : after.places + 1 ≡ before.places

-- what a put answers, and makes of the contents; it is refused where there is no place
abbrev pub Put : Result (Unit {0}) PutRefusal → Contents → Piece → Contents → Type 0
Put (Ok u) before p after = Added before p after
Put (Err NoPlaces) before p after = before.places ≡ 0

-- every waiting piece is kept
abbrev pub pressed : Contents → Contents
pressed c = record { kept = all_of c; waiting = []; places = c.places }

-- read anew after a cut: what was kept, and then a beginning of ps; nothing waits
pub record IsCutOff (before : Contents) (ps : List Piece) (after : Contents) : Type 0 where
  pub survived : ℕ
  pub kept_is : after.kept ≡ before.kept ++ take survived ps
  pub none_waits : after.waiting ≡ []
