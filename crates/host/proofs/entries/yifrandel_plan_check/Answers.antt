use Rattle.std.proofs.Common.{w32, SFits, ◌∙◌}
use Rattle.std.proofs.lemmas.Int.{to_z-of_z}
use Rattle.host.proofs.entries.yifrandel_plan_check.Goals as goal

pub returns : goal.returns
returns c =
    let kind : SFits w32 c.args.kind = c.ranges.kind in
    let g : SFits w32 c.args.g = c.ranges.g in
    let h_a : SFits w32 c.args.h_a = c.ranges.h_a in
    let h_r : SFits w32 c.args.h_r = c.ranges.h_r in
    let n_t : SFits w32 c.args.n_t = c.ranges.n_t in
    let sigma : SFits w32 c.args.sigma = c.ranges.sigma in
    let limit : SFits w32 c.args.limit = c.ranges.limit in
    c.answer.ensures ∙ simp to_z-of_z at c.check_plan.ensures
