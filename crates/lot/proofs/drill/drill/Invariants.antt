use Rattle.std.proofs.Common.{◌≡◌, length, take, drop}
use Rattle.lot.specs.Standings.{judge_of, book_of, is_woken, Sound}
use Rattle.lot.proofs.RunLaws.{Run}
use Rattle.lot.proofs.drill.drill.Given as goal

-- from a sound standing: the standing is sound, under the plan that it began with, and the log is that of a run to what is kept
abbrev pub invariant-loop-i : goal.invariant-loop-i
invariant-loop-i g l =
    let J = g.J.Judge in
    let B = g.B.Book in
    record {
      lender : B.lender (book_of l.standing) ≡ B.lender (book_of l.initial.standing);
      same_length : length l.log ≡ length l.initial.log;
      rest : drop l.i l.log ≡ drop l.i l.initial.log;
      run : Sound J B l.initial.standing → record {
        sound : Sound J B l.standing;
        same_plan : J.plan (judge_of l.standing) ≡ J.plan (judge_of l.initial.standing);
        so_far : Run (J.fresh (J.plan (judge_of l.initial.standing))) (B.contents (book_of l.initial.standing)).kept (B.contents (book_of l.initial.standing)).places (take l.i l.within) (is_woken l.standing) (B.contents (book_of l.standing)).places (take l.i l.log) (B.contents (book_of l.standing)).kept;
      };
    }
