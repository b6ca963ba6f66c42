-- The words of the promise over whole runs: what stood before a command, which
-- event it has, and which pieces events account for.
use Rattle.std.specs.Prelude.{◌≡◌, ℕ, ◌+◌, ◌<◌, Bool, true, false, ◌⊎◌, List, [], ◌∷◌, ◌++◌, map}
use Rattle.sampling.specs.declared.piece.Piece.{Piece}
use Rattle.sampling.specs.declared.rows.Row.{Row}
use Rattle.sampling.specs.declared.word.Word.{Word}
use Rattle.sampling.specs.declared.word.Word.TheVariants as word
use Rattle.sampling.specs.Rows.{row_of}
use Rattle.lot.specs.declared.command.Command.{Command}
use Rattle.lot.specs.declared.command.Command.TheVariants.{Wake, Ask, Enter, CutBetween, CutWaking, CutEntering}
use Rattle.lot.specs.declared.moment.Event.{Event}
use Rattle.lot.specs.declared.moment.Event.TheVariants.{NotWoken, Woken, Asked, Answered, Refused, BrokenOff, Cut}
use Rattle.lot.specs.declared.moment.Moment.{Moment}
use Rattle.lot.specs.declared.refusal.EntryRefusal.{EntryRefusal}
use Rattle.lot.specs.Entries.{IsPiece, RefusedAs}

-- x stands in a list, after those of `before`
abbrev pub At : {X : Type 0} → List X → List X → X → Type 0
At {X} xs before x = (after : List X) × (xs ≡ before ++ (x ∷ after))

abbrev pub events : List Moment → List Event
events = map (λ m. m.event)

-- whether a lot is woken after an event, and after events
abbrev pub woken_by : Bool → Event → Bool
woken_by a NotWoken = a
woken_by a Woken = true
woken_by a (Asked w) = a
woken_by a (Answered row w n) = a
woken_by a (Refused e) = a
woken_by a (BrokenOff row) = false
woken_by a Cut = false

abbrev pub woken_after : Bool → List Event → Bool
woken_after a [] = a
woken_after a (e ∷ es) = woken_after (woken_by a e) es

-- the number kept and the places after some moments, from those before them
abbrev pub kept_after : ℕ → List Moment → ℕ
kept_after k [] = k
kept_after k (m ∷ ms) = kept_after m.kept ms

abbrev pub places_after : ℕ → List Moment → ℕ
places_after r [] = r
places_after r (m ∷ ms) = places_after m.places ms

-- which event a command has. Before it stood a lot, woken or not, with the word `before` on the kept pieces and
-- so many places; after it the word is `after`, on so many pieces
abbrev pub Decided : {C : Type 0} (woken : Bool) (before after : Word) (places number : ℕ) → Command C → Event → Type 0
Decided a before after places number Wake e = e ≡ Woken
Decided false before after places number Ask e = e ≡ NotWoken
Decided true before after places number Ask e = e ≡ Asked before
Decided false before after places number (Enter row) e = e ≡ NotWoken
Decided true before after places number (Enter row) e =
    (IsPiece row × (before ≡ word.Going) × (0 < places) × (e ≡ Answered row after number))
    ⊎ ((x : EntryRefusal) × RefusedAs row before places x × (e ≡ Refused x))
Decided a before after places number (CutBetween at) e = e ≡ Cut
Decided a before after places number (CutWaking stage at) e = e ≡ Cut
Decided false before after places number (CutEntering row stage at) e = e ≡ Cut
Decided true before after places number (CutEntering row stage at) e = e ≡ BrokenOff row

-- the places before and after an event; after a cut they are the book's own
abbrev pub Placed : Event → ℕ → ℕ → Type 0
Placed NotWoken r r' = r' ≡ r
Placed Woken r r' = r' ≡ r
Placed (Asked w) r r' = r' ≡ r
Placed (Answered row w n) r r' = r' + 1 ≡ r
Placed (Refused e) r r' = r' ≡ r
Placed (BrokenOff row) r r' = Unit {0}
Placed Cut r r' = Unit {0}

-- qs is ps with the piece of these numbers after it
abbrev pub OneMore : Row → List Piece → List Piece → Type 0
OneMore row ps qs = (p : Piece) × (row_of p ≡ row) × (qs ≡ ps ++ (p ∷ []))

-- the pieces kept before and after an event
abbrev pub Grown : Event → List Piece → List Piece → Type 0
Grown NotWoken ps qs = qs ≡ ps
Grown Woken ps qs = qs ≡ ps
Grown (Asked w) ps qs = qs ≡ ps
Grown (Answered row w n) ps qs = OneMore row ps qs
Grown (Refused e) ps qs = qs ≡ ps
Grown (BrokenOff row) ps qs = (qs ≡ ps) ⊎ OneMore row ps qs
Grown Cut ps qs = qs ≡ ps

-- an event that enters nothing
pub data Quiet : Event → Type 0 where
  not_woken : Quiet NotWoken
  woken : Quiet Woken
  asked : {w : Word} → Quiet (Asked w)
  refused : {e : EntryRefusal} → Quiet (Refused e)
  cut : Quiet Cut

-- the pieces that events account for, in order of entry: that of each entry answered, once, and that of each
-- entry broken off, once or not at all, and no other
pub data Accounts : List Event → List Piece → Type 0 where
  none : Accounts [] []
  answered : {row : Row} {p : Piece} {w : Word} {n : ℕ} {es : List Event} {ps : List Piece} → row_of p ≡ row → Accounts es ps → Accounts (Answered row w n ∷ es) (p ∷ ps)
  saved : {row : Row} {p : Piece} {es : List Event} {ps : List Piece} → row_of p ≡ row → Accounts es ps → Accounts (BrokenOff row ∷ es) (p ∷ ps)
  lost : {row : Row} {es : List Event} {ps : List Piece} → Accounts es ps → Accounts (BrokenOff row ∷ es) ps
  quiet : {e : Event} {es : List Event} {ps : List Piece} → Quiet e → Accounts es ps → Accounts (e ∷ es) ps

-- the word that an event tells
pub data Tells : Event → Word → Type 0 where
  asked : {w : Word} → Tells (Asked w) w
  entered : {row : Row} {w : Word} {n : ℕ} → Tells (Answered row w n) w
