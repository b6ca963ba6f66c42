use Rattle.memory.specs.declared.power.Power.TheVariants.{Failing}
use Rattle.memory.specs.FramBook.{bytes_of}
use Rattle.memory.proofs.FramLaws.{fram_cut}
use Rattle.memory.proofs.fram.FramBookBook.put_cut.Goals as goal

pub returns-clause-cut : goal.returns-clause-cut
returns-clause-cut c = rw c.put_under.ensures.area (fram_cut (bytes_of c.args.self.now) c.args.piece (Failing c.args.cut))
