use Rattle.std.proofs.Common.{◌≡◌, pos, ◌∙◌, w32, SFits, to_z, of_z, rules}
use Rattle.std.proofs.lemmas.Int.{to_z-of_z}
use Rattle.records.proofs.Ranges.{one_answer, piece_answers, told_ok}
use Rattle.records.proofs.reading.piece_of.Goals as goal

pub returns : goal.returns
returns c =
    let fits : SFits w32 c.from-finding.result = search rules in
    let value : to_z w32 (of_z w32 c.args.value) ≡ c.args.value = to_z-of_z w32 _ c.ranges.value in
    let finding : to_z w32 (of_z w32 c.from-finding.result) ≡ pos c.args.finding = to_z-of_z w32 _ fits ∙ c.from-finding.ensures in
    one_answer _ _ _ (rw c.ok.ensures.value (told_ok _ _ (rw (value, finding) at c.try_from.ensures))) (piece_answers c.args.value c.args.finding)
