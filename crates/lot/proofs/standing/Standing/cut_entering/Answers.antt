use Rattle.lot.proofs.Moves.{broken_goes}
use Rattle.lot.proofs.standing.Standing.cut_entering.Goals as goal

pub returns-in-Woken : goal.returns-in-Woken
returns-in-Woken g c = let e = c.enter_cut-judge.ensures in broken_goes g.J.Judge g.B.Book c.in-Woken.is e.left e.plan e.lender c.noted-in-Woken.ensures
