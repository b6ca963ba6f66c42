-- The word of two judges as one.
use Rattle.sampling.specs.declared.word.Word.{Word}
use Rattle.sampling.specs.declared.word.Word.TheVariants.{Going, Accepted, NotAccepted}

-- accepted when both are, not accepted when either is, else going
abbrev pub jointly : Word → Word → Word
jointly NotAccepted w = NotAccepted
jointly Going NotAccepted = NotAccepted
jointly Going Going = Going
jointly Going Accepted = Going
jointly Accepted w = w
