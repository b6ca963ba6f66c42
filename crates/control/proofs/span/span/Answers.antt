use Rattle.std.proofs.Common.{w32, SFits}
use Rattle.std.proofs.lemmas.Int.{to_z-of_z}
use Rattle.control.proofs.SpanLaws.{spanned}
use Rattle.control.proofs.span.span.Goals as goal

pub returns : goal.returns
returns c =
    let fits : SFits w32 c.args.f = c.ranges.f in
    spanned c.args.lower c.args.upper c.args.f (simp to_z-of_z at c.in_ok-check.ensures)
    c.new.result c.new-2.result c.new.ensures.same_plan c.new-2.ensures.same_plan c.new.ensures.begun c.new-2.ensures.begun
