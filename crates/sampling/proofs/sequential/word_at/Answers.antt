use Rattle.std.proofs.Common.{sym, ◌∙◌, w64, SFits, rules}
use Rattle.std.proofs.lemmas.Int.{to_z-of_z}
use Rattle.sampling.proofs.Steps.{word_by_line, word_past_table}
use Rattle.sampling.proofs.sequential.word_at.Goals as goal

pub returns-in-Some : goal.returns-in-Some
returns-in-Some g c =
    let fits : SFits w64 c.args.tally.score = search rules in
    c.by_line.ensures ∙ rw (to_z-of_z, c.last.ensures) (word_by_line (g.P.SamplingPlan.scheme c.args.plan.now) c.args.tally.count c.args.tally.score c.in-Some.line (sym c.in-Some.is ∙ c.line_at.ensures))

pub returns-in-None : goal.returns-in-None
returns-in-None g c = word_past_table (g.P.SamplingPlan.scheme c.args.plan.now) c.args.tally.count c.args.tally.score (sym c.in-None.is ∙ c.line_at.ensures)
