-- The FRAM book over an area.
use Rattle.std.specs.Prelude.{ℕ, ◌+◌, ◌-◌, Bool, cond, List, [], ◌∷◌, length, drop, ◌==◌, slice_index}
use Rattle.sampling.specs.declared.piece.Piece.{Piece}
use Rattle.records.specs.Writing.{writes}
use Rattle.book.specs.Meaning.{Contents}
use Rattle.memory.specs.declared.power.Power.{Power}
use Rattle.memory.specs.Areas.{slots, slot_at, with_slot, records, all_blank}
use Rattle.memory.specs.Stores.{under}

-- byte 1, the last that a record gets, is the mark's
abbrev pub marked : List ℕ → Bool
marked slot = slice_index slot 1 == 90

-- the slots before the first that is not marked
abbrev pub before_end : List (List ℕ) → List (List ℕ)
before_end [] = []
before_end (s ∷ ss) = cond (marked s) (s ∷ before_end ss) []

-- the place of that first one
abbrev pub end_of : List (List ℕ) → ℕ
end_of ss = length (before_end ss)

-- the slots from the end on, or none if a slot after the end slot is not blank
abbrev pub places_from_end : List (List ℕ) → ℕ
places_from_end ss = cond (all_blank (drop (end_of ss + 1) ss)) (length ss - end_of ss) 0

abbrev pub fram_held : List (List ℕ) → Contents
fram_held ss = record { kept = records 0 (before_end ss); waiting = []; places = places_from_end ss }

-- what the book over an area holds
abbrev pub fram_contents : List ℕ → Contents
fram_contents area = fram_held (slots area)

-- the area after a put: a record in the end slot, if there is a place
abbrev pub fram_put : Power → Piece → List ℕ → List ℕ
fram_put q p area =
    cond ((fram_contents area).places == 0) area
    (with_slot area (end_of (slots area)) (under q (writes p (length (fram_contents area).kept + 1)) (slot_at area (end_of (slots area)))))
