use Rattle.sampling.proofs.RowLists.{row_at}
use Rattle.sampling.proofs.table.pieces_of.Goals as goal

pub returns-in_default : goal.returns-in_default
returns-in_default c = λ ps e. let p = row_at ps c.args.rows.now c.loop-row.row-index _ e c.loop-row-test.true in c.in_default.ensures p.0 p.1
