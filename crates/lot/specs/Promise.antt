-- The promise over whole runs of calls and power cuts.
use Rattle.std.specs.Prelude.{◌≡◌, ℕ, ◌≤◌, false, List, [], ◌∷◌, ◌++◌, length, take, ◌≢◌}
use Rattle.sampling.specs.declared.piece.Piece.{Piece}
use Rattle.sampling.specs.declared.word.Word.{Word}
use Rattle.sampling.specs.declared.word.Word.TheVariants.{Going}
use Rattle.lot.specs.declared.command.Command.{Command}
use Rattle.lot.specs.declared.moment.Moment.{Moment}
use Rattle.lot.specs.Runs.{At, events, woken_after, kept_after, places_after, Decided, Placed, Grown, Accounts, Tells}
use Rattle.lot.specs.Compared.{WhileBothLast, Compared}

-- A script was run on a blank book of so many places, under a judge whose word on a list of pieces is `word`.
-- At each moment the kept pieces are the first of those kept in the end, as many as the moment says
pub record Promise {C : Type 0} (limit : ℕ) (good : Piece → Piece → Type 0) (word : List Piece → Word) (places : ℕ) (script : List (Command C)) (log : List Moment) (kept : List Piece) : Type 0 where
  -- one moment for each command, and what stood before it decides its event
  pub one_each : length log ≡ length script
  pub decided : (before : List Moment) (m : Moment) → At log before m
      → (done : List (Command C)) × (c : Command C) × At script done c × (length done ≡ length before)
      × Decided (woken_after false (events before)) (word (take (kept_after 0 before) kept)) (word (take m.kept kept)) (places_after places before) m.kept c m.event
  -- each event keeps its own piece or none, and no other; what is kept in the end was kept at the last moment
  pub grown : (before : List Moment) (m : Moment) → At log before m → Grown m.event (take (kept_after 0 before) kept) (take m.kept kept)
  pub in_the_end : kept_after 0 log ≡ length kept
  -- so the pieces kept are those that the events so far account for; their number never falls
  pub accounted : (before : List Moment) (m : Moment) → At log before m → Accounts (events (before ++ (m ∷ []))) (take m.kept kept)
  pub all_accounted : Accounts (events log) kept
  pub counted : (before : List Moment) (m : Moment) → At log before m → m.kept ≤ length kept
  pub never_fewer : (before between : List Moment) (m n : Moment) → At log (before ++ (m ∷ between)) n → m.kept ≤ n.kept
  -- every word told is the judge's on exactly the pieces then kept; a sentence is final, and nothing is kept after it
  pub worded : (before : List Moment) (m : Moment) (w : Word) → At log before m → Tells m.event w → w ≡ word (take m.kept kept)
  pub final : (before between : List Moment) (m n : Moment) (v w : Word) → At log (before ++ (m ∷ between)) n → Tells m.event v → Tells n.event w → (v ≢ Going) → w ≡ v
  pub closed : (before between : List Moment) (m n : Moment) → At log (before ++ (m ∷ between)) n → (word (take m.kept kept) ≢ Going) → n.kept ≡ m.kept
  -- never more pieces than the limit, and with so many a sentence
  pub at_most : length kept ≤ limit
  pub ended : (before : List Moment) (m : Moment) → At log before m → limit ≤ m.kept → word (take m.kept kept) ≢ Going
  -- the places fall by one with each answered entry and change otherwise only at a cut
  pub placed : (before : List Moment) (m : Moment) → At log before m → Placed m.event (places_after places before) m.places
  -- against any other list of pieces under the same plan, in either role
  pub as_second : (other : List Piece) → WhileBothLast good other kept → Compared word other kept
  pub as_first : (other : List Piece) → WhileBothLast good kept other → Compared word kept other
