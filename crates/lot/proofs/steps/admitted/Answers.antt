use Rattle.std.proofs.Common.{◌∙◌}
use Rattle.std.proofs.lemmas.Result.{err_from_is_err_and}
use Rattle.lot.proofs.steps.admitted.Goals as goal

pub returns-in_err-while_going : goal.returns-in_err-while_going
returns-in_err-while_going g c =
    let r = c.from_residual-in_err-while_going in
    let p = err_from_is_err_and r.result r.ensures.1 in
    let w = c.in_err-while_going.ensures in
    rw (p.1, p.2, w.0) (λ places. ((c.in_ok-piece.piece, c.in_ok-piece.ensures), λ e. w.1 (c.word.ensures ∙ e)))
