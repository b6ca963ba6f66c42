use Rattle.lot.proofs.CutLaws.{cut_after_entry}
use Rattle.lot.proofs.lot.Lot+J+B+Open.enter_cut.Goals as goal
use Rattle.lot.proofs.lot.Lot+J+B+Open.enter_cut.Goals.{in-Err-CutOff, in_default}

pub returns-clause-left : goal.returns-clause-left
returns-clause-left g c = elim c.match-entry.branch [
  | in-Err-CutOff w ↦ rw (c.apart.ensures.1, w.self-is) (rw w.in-Err-CutOff.field-0-is at w.in-Err-CutOff.ensures.went).0
  | in_default w ↦ rw (c.apart.ensures.1, w.self-is) (cut_after_entry g.J.Judge.says g.B.Book.contents c.args.row c.args.self c.entry.new.self _ _ c.entry.result c.entry.ensures.went w.idle_cut.ensures.cut)
]
