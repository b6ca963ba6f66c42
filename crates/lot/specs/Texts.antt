-- Refusals as they are printed.
use Rattle.std.specs.Prelude.{ℕ, List, codes}
use Rattle.lot.specs.declared.refusal.EntryRefusal.{EntryRefusal}
use Rattle.lot.specs.declared.refusal.EntryRefusal.TheVariants.{OutOfRange, NotGoing, NoPlaces}

abbrev pub refusal_text : EntryRefusal → List ℕ
refusal_text OutOfRange = codes "the value or the finding is out of range"
refusal_text NotGoing = codes "the lot has its sentence"
refusal_text NoPlaces = codes "the book has no place left"
