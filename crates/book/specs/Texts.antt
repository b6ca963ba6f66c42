-- Refusals as they are printed.
use Rattle.std.specs.Prelude.{ℕ, List, codes}
use Rattle.book.specs.declared.refusal.PutRefusal.{PutRefusal}
use Rattle.book.specs.declared.refusal.PutRefusal.TheVariants.{NoPlaces}

abbrev pub refusal_text : PutRefusal → List ℕ
refusal_text NoPlaces = codes "the book has no place left"
