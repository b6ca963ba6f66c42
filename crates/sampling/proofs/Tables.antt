-- The word of any tabled judge, from its score and line alone.
use Rattle.std.proofs.Common.{◌≡◌, ℕ, List, take, drop, sym, ap, ◌∙◌, take-append-drop}
use Rattle.sampling.specs.declared.piece.Piece.{Piece}
use Rattle.sampling.specs.declared.word.Word.{Word}
use Rattle.sampling.specs.declared.word.Word.TheVariants.{Going}
use Rattle.sampling.specs.Lawful.{Lawful}

module _ {limit : ℕ} {good : Piece → Piece → Type 0} {says : List Piece → Word} (lawful : Lawful limit good says) where
  -- a settled beginning settles the list
  pub settled_whole : (xs : List Piece) (n : ℕ) → (says (take n xs) ≡ Going → ⊥) → says (take n xs) ≡ says xs
  settled_whole xs n ne = sym (lawful.sentence_kept (take n xs) (drop n xs) ne) ∙ ap says (take-append-drop n xs)
