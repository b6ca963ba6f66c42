use Rattle.std.proofs.Common.{◌≡◌, take, vec_items}
use Rattle.sampling.specs.Rows.{rows_of}
use Rattle.sampling.proofs.table.pieces_of.Given as goal

abbrev pub invariant-loop-row : goal.invariant-loop-row
invariant-loop-row l = rows_of (vec_items l.pieces) ≡ take l.row-index l.rows
