use Rattle.std.proofs.Common.{◌∙◌}
use Rattle.sampling.proofs.Tables.{settled_whole}
use Rattle.sampling.proofs.table.word_by_table.Goals as goal

pub returns-in_default : goal.returns-in_default
returns-in_default g c =
    c.by_own_line.ensures ∙ settled_whole (g.met.J.Judge.lawful (g.J.Judge.plan c.args.judge.now)) c.args.pieces.now _ (λ e. c.in_default.not-Going (c.by_own_line.ensures ∙ e))
