-- A walk over slots for the records in them.
use Rattle.std.specs.Prelude.{List}
use Rattle.sampling.specs.declared.piece.Piece.{Piece}
use Rattle.memory.specs.declared.walk.Records.{Records}
use Rattle.memory.specs.Areas.{records}

-- the pieces still to come
abbrev pub pieces_left : Records → List Piece
pieces_left r = records r.before r.slots.now
