use Rattle.std.proofs.Common.{◌∙◌, drop, refl, w64, SFits, rules}
use Rattle.std.proofs.lemmas.Int.{to_z-of_z}
use Rattle.lot.proofs.Sums.{sum_fits, sum_is}
use Rattle.lot.proofs.report.sum_of_kept.Goals as goal

pub sum-requires-clause-fits : goal.sum-requires-clause-fits
sum-requires-clause-fits g c =
    let e = c.of.ensures.from_the_first in
    let m = c.map.ensures in
    sum_fits (λ s. drop s.given (g.B.Book.contents s.book.now).kept) _ c.map.result m.source m.closure (λ x r q k. (refl, k.met)) (g.B.Book.contents c.args.book.now).kept (rw (e.0, e.1) refl) c.of.ensures.few

pub returns : goal.returns
returns g c =
    let e = c.of.ensures.from_the_first in
    let m = c.map.ensures in
    let fits : SFits w64 c.sum.result = search rules in
    to_z-of_z w64 c.sum.result fits ∙ sum_is (λ s. drop s.given (g.B.Book.contents s.book.now).kept) _ c.map.result m.source m.closure (λ x r q k. (refl, k.met)) (g.B.Book.contents c.args.book.now).kept (rw (e.0, e.1) refl) c.sum.result c.sum.ensures.ran
