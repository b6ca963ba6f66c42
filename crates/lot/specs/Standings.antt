-- One command: from what stood before it to what stands after it, and its moment.
use Rattle.std.specs.Prelude.{◌≡◌, ℕ, Bool, true, false, ◌⊎◌, List, [], ◌++◌, length}
use Rattle.sampling.specs.declared.piece.Piece.{Piece}
use Rattle.sampling.specs.declared.word.Word.{Word}
use Rattle.sampling.specs.declared.word.Word.TheVariants.{Going}
use Rattle.sampling.specs.declared.judge.Judge as judge
use Rattle.book.specs.declared.book.Book as book
use Rattle.book.specs.Meaning.{Contents}
use Rattle.lot.specs.declared.command.Command.{Command}
use Rattle.lot.specs.declared.moment.Event.{Event}
use Rattle.lot.specs.declared.moment.Event.TheVariants as event
use Rattle.lot.specs.declared.moment.Moment.{Moment}
use Rattle.lot.specs.declared.standing.Standing.{Standing}
use Rattle.lot.specs.declared.standing.Standing.TheVariants.{NotWoken, Woken}
use Rattle.lot.specs.Runs.{woken_by, Decided, Placed, Grown}

abbrev pub judge_of : {J B : Type 0} → Standing J B → J
judge_of (NotWoken judge book) = judge
judge_of (Woken lot) = lot.judge

abbrev pub book_of : {J B : Type 0} → Standing J B → B
book_of (NotWoken judge book) = book
book_of (Woken lot) = lot.book

abbrev pub is_woken : {J B : Type 0} → Standing J B → Bool
is_woken (NotWoken judge book) = false
is_woken (Woken lot) = true

-- the moment of an event
pub record Noted {J B : Type 0} (contents : B → Contents) (s : Standing J B) (e : Event) (t : Standing J B) (m : Moment) : Type 0 where
  pub same : t ≡ s
  pub event_is : m.event ≡ e
  pub kept_is : m.kept ≡ length (contents (book_of s)).kept
  pub places_is : m.places ≡ (contents (book_of s)).places

-- the word told is that on the pieces kept after it
abbrev pub Worded : (List Piece → Word) → Event → List Piece → Type 0
Worded word event.NotWoken qs = Unit {0}
Worded word event.Woken qs = Unit {0}
Worded word (event.Asked w) qs = w ≡ word qs
Worded word (event.Answered row w n) qs = w ≡ word qs
Worded word (event.Refused e) qs = Unit {0}
Worded word (event.BrokenOff row) qs = Unit {0}
Worded word event.Cut qs = Unit {0}

-- one command's moment, from the pieces ps and so many places to the pieces qs
pub record Step {C : Type 0} (word : List Piece → Word) (a : Bool) (c : Command C) (places : ℕ) (m : Moment) (ps qs : List Piece) : Type 0 where
  pub decided : Decided a (word ps) (word qs) places m.kept c m.event
  pub grown : Grown m.event ps qs
  pub while_going : (qs ≡ ps) ⊎ (word ps ≡ Going)
  pub counted : m.kept ≡ length qs
  pub placed : Placed m.event places m.places
  pub worded : Worded word m.event qs

-- under the members of a judge and of a book
module _ {J P B C : Type 0} (judge : judge.Ghosts J P) (book : book.Ghosts B C) where
  -- nothing waits, and the judge of a woken lot says what a fresh one says of the kept pieces and then the further ones
  abbrev pub Sound : Standing J B → Type 0
  Sound (NotWoken j b) = (book.contents b).waiting ≡ []
  Sound (Woken lot) = ((book.contents lot.book).waiting ≡ []) × ((xs : List Piece) → judge.says lot.judge xs ≡ judge.fresh (judge.plan lot.judge) ((book.contents lot.book).kept ++ xs))

  pub record Goes (c : Command C) (s t : Standing J B) (m : Moment) : Type 0 where
    pub sound : Sound t
    pub same_plan : judge.plan (judge_of t) ≡ judge.plan (judge_of s)
    pub woken : is_woken t ≡ woken_by (is_woken s) m.event
    pub places_are : (book.contents (book_of t)).places ≡ m.places
    pub step : Step (judge.fresh (judge.plan (judge_of s))) (is_woken s) c (book.contents (book_of s)).places m (book.contents (book_of s)).kept (book.contents (book_of t)).kept

  -- what each command does: from a sound standing it goes to a sound one, and the book's lender stays
  pub record Steps (c : Command C) (s t : Standing J B) (m : Moment) : Type 0 where
    pub goes : Sound s → Goes c s t m
    pub lender : book.lender (book_of t) ≡ book.lender (book_of s)
