use Rattle.std.proofs.Common.{refl}
use Rattle.std.proofs.lemmas.Result.{err_from_is_err_and}
use Rattle.lot.proofs.CutLaws.{kept_one}
use Rattle.lot.proofs.lot.Lot+J+B+Open.entry.Goals as goal

pub returns-in_err-piece-clause-went : goal.returns-in_err-piece-clause-went
returns-in_err-piece-clause-went g c =
    let r = c.from_residual in
    let p = err_from_is_err_and r.result r.ensures.1 in
    rw (p.1, p.2) (c.in_err-piece.ensures _, refl)

pub returns-clause-went : goal.returns-clause-went
returns-clause-went g c =
    let a = c.in_ok-piece.ensures in
    record {
      piece = c.in_ok-piece.piece;
      typed = a.0;
      going = a.1;
      kept_one = kept_one _ _ _ c.in_ok-piece.piece c.in_ok-put.ensures.put c.in_ok-press.ensures.pressed;
      judged = c.judged-word.ensures.says;
      word_is = c.judged-word.ensures.word;
      number_is = c.count.ensures.value;
    }
