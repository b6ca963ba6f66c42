use Rattle.host.proofs.entries.write_line.Goals as goal

pub returns : goal.returns
returns c =
    let made = c.in_ok-plan.ensures in
    rw made.1 (c.in_ok-plan.plan, made.0, c.write_line_of.ensures.answer, c.write_line_of.ensures.bytes)
