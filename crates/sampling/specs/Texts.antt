-- What is printed.
use Rattle.std.specs.Prelude.{ℕ, List, codes}
use Rattle.sampling.specs.declared.piece.Finding.{Finding}
use Rattle.sampling.specs.declared.piece.Finding.TheVariants.{Clean, Nonconforming}
use Rattle.sampling.specs.declared.word.Word.{Word}
use Rattle.sampling.specs.declared.word.Word.TheVariants.{Going, Accepted, NotAccepted}

abbrev pub word_text : Word → List ℕ
word_text Going = codes "going"
word_text Accepted = codes "accepted"
word_text NotAccepted = codes "not accepted"

abbrev pub finding_text : Finding → List ℕ
finding_text Clean = codes "clean"
finding_text Nonconforming = codes "nonconforming"

abbrev pub out_of_range_text : List ℕ
out_of_range_text = codes "the value or the finding is out of range"
