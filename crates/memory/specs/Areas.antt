-- An area as slots, and the records in them.
use Rattle.std.specs.Prelude.{ℕ, ◌+◌, ◌*◌, ◌/◌, min, Bool, true, ◌&&◌, List, [], ◌∷◌, ◌++◌, length, take, drop, Some, None, Option}
use Rattle.std.specs.Simd.{first_chunks}
use Rattle.sampling.specs.declared.piece.Piece.{Piece}
use Rattle.book.specs.Meaning.{Contents}
use Rattle.records.specs.Reading.{blank, record_in}

abbrev pub slot_count : List ℕ → ℕ
slot_count area = min (length area / 16) 4096

-- the whole slots of sixteen bytes, at most 4,096
unfoldable pub slots : List ℕ → List (List ℕ)
slots area = first_chunks 16 (slot_count area) area

-- the slot i, from 0
abbrev pub slot_at : List ℕ → ℕ → List ℕ
slot_at area i = take 16 (drop (16 * i) area)

-- the area with another slot i, every other byte as it was
abbrev pub with_slot : List ℕ → ℕ → List ℕ → List ℕ
with_slot area i slot = take (16 * i) area ++ (slot ++ drop (16 * i + 16) area)

-- a slot's piece, if it has one, before the pieces of the slots after it
abbrev pub before_rest : Option Piece → ℕ → (ℕ → List Piece) → List Piece
before_rest None k rest = rest k
before_rest (Some p) k rest = p ∷ rest (k + 1)

-- the pieces of the records among slots, after k records
abbrev pub records : ℕ → List (List ℕ) → List Piece
records k [] = []
records k (s ∷ ss) = before_rest (record_in s k) k (λ j. records j ss)

abbrev pub all_blank : List (List ℕ) → Bool
all_blank [] = true
all_blank (s ∷ ss) = blank s && all_blank ss

-- what a book in a blank area holds: a place for each slot
abbrev pub blank_contents : List ℕ → Contents
blank_contents area = record { kept = []; waiting = []; places = slot_count area }
