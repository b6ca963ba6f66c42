use Rattle.std.proofs.Common.{refl}
use Rattle.sampling.specs.Sequential.{word_from}
use Rattle.sampling.proofs.sequential.SequentialJudge.word.Goals as goal

pub returns-in-Going : goal.returns-in-Going
unfolding word_from
returns-in-Going g c = rw c.in-Going.is refl
