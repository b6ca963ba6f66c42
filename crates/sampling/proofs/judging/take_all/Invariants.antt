use Rattle.std.proofs.Common.{◌≡◌, List, ◌++◌, take}
use Rattle.sampling.specs.declared.piece.Piece.{Piece}
use Rattle.sampling.proofs.judging.take_all.Given as goal

-- the plan is kept, and the judge says what it said before of the pieces taken and then the list
abbrev pub invariant-loop-piece : goal.invariant-loop-piece
invariant-loop-piece g l =
    (g.J.Judge.plan l.judge ≡ g.J.Judge.plan l.initial.judge)
    × ((xs : List Piece) → g.J.Judge.says l.judge xs ≡ g.J.Judge.says l.initial.judge (take l.piece-index l.pieces ++ xs))
