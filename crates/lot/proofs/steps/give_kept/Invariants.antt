use Rattle.std.proofs.Common.{◌≡◌, List, ◌++◌}
use Rattle.sampling.specs.declared.piece.Piece.{Piece}
use Rattle.lot.proofs.steps.give_kept.Given as goal

-- the judge was given the pieces so far
abbrev pub invariant-loop-kept : goal.invariant-loop-kept
invariant-loop-kept g l = record {
  plan : g.J.Judge.plan l.judge ≡ g.J.Judge.plan l.initial.judge;
  says : (xs : List Piece) → g.J.Judge.says l.judge xs ≡ g.J.Judge.says l.initial.judge (l.yielded ++ xs);
}
