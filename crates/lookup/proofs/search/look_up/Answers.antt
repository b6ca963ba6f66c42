use Rattle.std.proofs.Common.{◌≡◌, rules}
use Rattle.lookup.specs.Looked.{looked_up}
use Rattle.lookup.proofs.Ranges.{looked_in_range}
use Rattle.lookup.proofs.search.look_up.Goals as goal

pub returns-clause-in_range : goal.returns-clause-in_range
returns-clause-in_range c =
    let answer : c.ok_or.result ≡ looked_up c.args.q_pr c.args.q_cr = search rules in
    rw answer (looked_in_range c.args.q_pr c.args.q_cr)
