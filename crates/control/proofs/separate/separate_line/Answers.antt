use Rattle.std.proofs.Common.{arith}
use Rattle.plans.proofs.Products.{passed}
use Rattle.control.proofs.SeparateLaws.{line_within}
use Rattle.control.proofs.separate.separate_line.Goals as goal

pub rest_of-requires : goal.rest_of-requires
rest_of-requires c =
    let within = line_within c.args.upper.now c.in_ok-at.at.n c.in_ok-at.at.high in
    (rw (passed 8000000000000 c.spread-whole.result (omega arith) c.spread-whole.ensures.within) c.spread-whole.ensures.within, rw c.line-a.ensures within.0)

pub rest_of-requires-2 : goal.rest_of-requires-2
rest_of-requires-2 c =
    let within = line_within c.args.upper.now c.in_ok-at.at.n c.in_ok-at.at.high in
    (rw (passed 8000000000000 c.spread-whole.result (omega arith) c.spread-whole.ensures.within) c.spread-whole.ensures.within, rw c.line-a.ensures within.1)
