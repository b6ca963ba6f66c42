use Rattle.lot.proofs.Moves.{entered_goes}
use Rattle.lot.proofs.standing.Standing.enter.Goals as goal

pub returns-in-Ok : goal.returns-in-Ok
returns-in-Ok g c = let e = c.in-Ok.ensures in entered_goes g.J.Judge g.B.Book c.in-Woken.is e.entered e.plan e.lender c.noted.ensures
