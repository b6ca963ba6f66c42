use Rattle.std.proofs.Common.{◌≡◌, ◌+◌, ◌<◌, ◌≤◌, length, take, drop, sym, refl, ap, ◌∙◌, arith, drop-set-lt, length-take}
use lib.Seq.{take-length}
use Rattle.std.proofs.lemmas.List.{length-set, take_more_set, drop-drop}
use Rattle.lot.specs.Runs.{places_after}
use Rattle.lot.proofs.Moves.{nothing_waits}
use Rattle.lot.proofs.RunLaws.{start, next, read_more, cut_to, run_places, promised}
use Rattle.lot.proofs.drill.drill.Goals as goal

pub loop-i-init : goal.loop-i-init
loop-i-init g c = record { lender = refl; same_length = refl; rest = refl; run = λ empty. record { sound = empty; same_plan = refl; so_far = start } }

pub loop-i-preserved : goal.loop-i-preserved
loop-i-preserved g c =
    let e = c.step.ensures in
    let inv = c.loop-i.invariant in
    let log = c.loop-i.log in
    let i = c.loop-i.i in
    let m = c.step.result.1 in
    let within = take c.min.result c.args.script.now in
    let here : i < length within = c.loop-i-test.true in
    let few : length within ≤ length log = simp length-take (omega (arith, c.min.ensures, inv.same_length)) in
    let low : i < length log = omega arith in
    record {
      lender = e.lender ∙ inv.lender;
      same_length = length-set log i m ∙ inv.same_length;
      rest = drop-set-lt (i + 1) log i m (omega arith) ∙ sym (drop-drop 1 i log) ∙ ap (drop 1) inv.rest ∙ drop-drop 1 i c.args.log.now;
      run = λ empty.
          let old = inv.run empty in
          let went = e.goes old.sound in
          let more = read_more within i c.index-within-i.result here c.index-within-i.is in
          record {
            sound = went.sound;
            same_plan = went.same_plan ∙ old.same_plan;
            so_far = rw (take_more_set log i m low, more, went.woken, went.places_are) (next old.so_far (rw old.same_plan at went.step));
          };
    }

pub returns : goal.returns
returns g c =
    let a = c.apart.ensures in
    let inv = c.loop-i.invariant in
    let log = c.loop-i.log in
    let script = c.args.script.now in
    let n = c.min.result in
    let all : length (take n script) ≡ n = simp length-take (omega (arith, c.min.ensures)) in
    let i : c.loop-i.i ≡ n = omega (arith, all, c.loop-i.auto.i-end, c.loop-i-test.false) in
    let at_last = cut_to script log n (c.min.ensures ∙ rw inv.same_length) in
    let at_first = cut_to script c.args.log.now n c.min.ensures in
    let J = g.J.Judge in
    let B = g.B.Book in
    let read : take c.loop-i.i (take n script) ≡ take (length c.args.log.now) script = ap (λ k. take k (take n script)) (i ∙ sym all) ∙ take-length (take n script) ∙ at_first.0 in
    let logged : take c.loop-i.i log ≡ take (length script) log = rw i at_last.1 in
    record {
      promise = λ blank. rw (a.1, ← read, ← logged) (promised _ (g.met.J.Judge.lawful (J.plan c.args.judge)) (rw blank.0 at (inv.run blank.1).so_far));
      rest = sym at_last.2 ∙ rw i at inv.rest ∙ at_first.2;
      left = λ blank.
          let old = inv.run blank.1 in (
            ap J.plan a.0 ∙ old.same_plan,
            ap (λ b. (B.contents b).waiting) a.1 ∙ nothing_waits J B c.loop-i.standing old.sound,
            ap (places_after (B.contents c.args.book).places) (sym logged) ∙ run_places _ old.so_far ∙ ap (λ b. (B.contents b).places) (sym a.1),
          );
      lender = ap B.lender a.1 ∙ inv.lender;
    }
