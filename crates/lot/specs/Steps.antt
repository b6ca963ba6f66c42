-- The steps of an entry, each with or without a power cut in it.
use Rattle.std.specs.Prelude.{◌≡◌, [], ◌∷◌, ◌++◌, Some, None, Option, Ok, Err, Result}
use Rattle.sampling.specs.declared.piece.Piece.{Piece}
use Rattle.book.specs.Meaning.{Contents, Added, pressed, IsCutOff}
use Rattle.lot.specs.declared.stage.PressStage.{PressStage}
use Rattle.lot.specs.declared.stage.PressStage.TheVariants as press_stage
use Rattle.lot.specs.declared.stage.Stage.{Stage}
use Rattle.lot.specs.declared.stage.Stage.TheVariants.{BeforePut, InPut, BetweenPutAndPress, InPress, BeforeAnswer}
use Rattle.lot.specs.declared.refusal.EntryRefusal.TheVariants.{NoPlaces}
use Rattle.lot.specs.declared.stopped.CutOff as cut_off
use Rattle.lot.specs.declared.stopped.Stopped.{Stopped}
use Rattle.lot.specs.declared.stopped.Stopped.TheVariants.{Refused, CutOff}

-- a put, up to where a cut falls in it or after it. `Same`: the book is as it was. `NoCut`: no cut was asked for
abbrev pub PutOrCut : Result (Unit {0}) Stopped → Contents → Piece → Contents → (Same NoCut : Type 0) → Type 0
PutOrCut (Ok u) before p after Same NoCut = Added before p after
PutOrCut (Err (Refused e)) before p after Same NoCut = (e ≡ NoPlaces) × (before.places ≡ 0) × Same
PutOrCut (Err CutOff) before p after Same NoCut = IsCutOff before (before.waiting ++ (p ∷ [])) after × (NoCut → ⊥)

abbrev pub PressedOrCut : Result (Unit {0}) cut_off.CutOff → Contents → Contents → Type 0 → Type 0
PressedOrCut (Ok u) before after NoCut = after ≡ pressed before
PressedOrCut (Err c) before after NoCut = IsCutOff before before.waiting after × (NoCut → ⊥)

-- what of an entry's cut falls in its press or after it
abbrev pub in_press : {C : Type 0} → Option (Stage × C) → Option (PressStage × C)
in_press None = None
in_press (Some (BeforePut, at)) = None
in_press (Some (InPut, at)) = None
in_press (Some (BetweenPutAndPress, at)) = None
in_press (Some (InPress, at)) = Some (press_stage.InPress, at)
in_press (Some (BeforeAnswer, at)) = Some (press_stage.AfterPress, at)
