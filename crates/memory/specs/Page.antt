-- The page book over an area.
use Rattle.std.specs.Prelude.{ℕ, ◌+◌, ◌-◌, cond, List, [], ◌∷◌, ◌++◌, length, ◌==◌}
use Rattle.sampling.specs.declared.piece.Piece.{Piece}
use Rattle.records.specs.Writing.{writes}
use Rattle.book.specs.Meaning.{Contents}
use Rattle.memory.specs.declared.power.Power.{Power}
use Rattle.memory.specs.Areas.{slot_count, slots, slot_at, with_slot, records, all_blank}
use Rattle.memory.specs.Stores.{after_stores, under}

-- how many slots come after the last that is not blank
abbrev pub blank_tail : List (List ℕ) → ℕ
blank_tail [] = 0
blank_tail (s ∷ ss) = cond (all_blank (s ∷ ss)) (length (s ∷ ss)) (blank_tail ss)

-- every record is kept, and the blank slots at the end are places, less the waiting pieces
abbrev pub page_held : List (List ℕ) → List Piece → Contents
page_held ss waiting = record { kept = records 0 ss; waiting = waiting; places = blank_tail ss - length waiting }

-- what the book over an area holds
abbrev pub page_contents : List ℕ → List Piece → Contents
page_contents area waiting = page_held (slots area) waiting

-- pieces written one after the other into the slots from i on, with numbers from n on
abbrev pub written_out : Power → ℕ → ℕ → List Piece → List ℕ → List ℕ
written_out q i n [] area = area
written_out q i n (p ∷ ps) area = written_out (after_stores 16 q) (i + 1) (n + 1) ps (with_slot area i (under q (writes p n) (slot_at area i)))

-- the area after a press: the waiting pieces in the first blank slots of the tail
abbrev pub page_press : Power → List Piece → List ℕ → List ℕ
page_press q waiting area = written_out q (slot_count area - blank_tail (slots area)) (length (page_contents area waiting).kept + 1) waiting area

-- the area after a put: a fifth piece has the four that wait written out first
abbrev pub page_put : Power → List Piece → List ℕ → List ℕ
page_put q waiting area =
    cond ((page_contents area waiting).places == 0) area
    (cond (length waiting == 4) (page_press q waiting area) area)

-- the pieces that wait after a put
abbrev pub waiting_after : Piece → List Piece → List ℕ → List Piece
waiting_after p waiting area =
    cond ((page_contents area waiting).places == 0) waiting
    (cond (length waiting == 4) (p ∷ []) (waiting ++ (p ∷ [])))
