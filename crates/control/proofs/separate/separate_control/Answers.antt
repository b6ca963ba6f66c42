use Rattle.std.proofs.Common.{◌≡◌, true, Some, sym, ap, ◌∙◌, ap₂}
use Rattle.control.specs.Separate.{paired, both_word}
use Rattle.control.proofs.SeparateLaws.{control_is_both}
use Rattle.control.proofs.separate.separate_control.Goals as goal

pub returns : goal.returns
returns c =
    let pair : paired c.args.lower c.args.upper ≡ true = sym c.are_paired.ensures ∙ c.if-not-are_paired.false in
    let word : c.word_on.result ≡ both_word c.args.lower c.args.upper c.args.pieces.now
    = c.word_on.ensures.word ∙ ap₂ (λ lo up. both_word lo up c.args.pieces.now) c.new.ensures.same_plan c.new-2.ensures.same_plan in
    record {
      both = rw pair (ap Some word);
      separate = control_is_both c.args.lower c.args.upper c.args.pieces.now c.word_on.result pair word;
    }
