use Rattle.std.proofs.Common.{◌≡◌, Some, None, Option, refl, ◌∙◌}
use Rattle.std.specs.Option.{option_map}
use Rattle.std.proofs.lemmas.Iterator.Consumers.{nth_from_yields_List, YieldsList-from_first}
use Rattle.sampling.specs.declared.piece.Piece.{Piece}
use Rattle.memory.specs.Walk.{pieces_left}
use Rattle.memory.proofs.scans.nth_piece.Goals as goal

itself : (r : Option Piece) → r ≡ option_map (λ x. x) r
itself None = refl
itself (Some p) = refl

pub returns : goal.returns
returns c =
    itself c.nth.result ∙ nth_from_yields_List c.nth.result c.nth.new.self c.args.n c.nth.ensures.ran (YieldsList-from_first (λ x. x) pieces_left _ c.of.ensures)
