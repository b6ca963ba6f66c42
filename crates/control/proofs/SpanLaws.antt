-- A span that no condition turns down.
use Rattle.std.proofs.Common.{◌≡◌, true, List, ℤ, None, ◌∙◌, ap₂, arith}
use Rattle.sampling.specs.declared.piece.Piece.{Piece}
use Rattle.sampling.specs.declared.sequential.Sequential.{Sequential}
use Rattle.sampling.specs.Joint.{jointly}
use Rattle.sampling.specs.Sequential.{word_on}
use Rattle.sampling.specs.States.{says_in}
use Rattle.leeway.specs.declared.plan.LeewayPlan.{LeewayPlan}
use Rattle.leeway.specs.Leeway.{leeway_scheme}
use Rattle.leeway.specs.declared.plan.Side.TheVariants.{Lower, Upper}
use Rattle.control.specs.Separate.{lower_and_upper}
use Rattle.control.specs.Span.{Spanned, span_refusal}
use Rattle.control.proofs.SeparateLaws.{sides, separate_is_both}

module _ (lo up : LeewayPlan) (f : ℤ) (passes : span_refusal lo up f ≡ None) where
  paired_limits : (lo.side ≡ Lower) × (up.side ≡ Upper) × (lo.n_t ≡ up.n_t)
  paired_limits =
      let order : lower_and_upper lo.side up.side ≡ true = grind arith in
      let side = sides lo.side up.side order in
      (side.0, side.1, grind arith)

  pub spanned : (first second : Sequential LeewayPlan) → first.plan ≡ lo → second.plan ≡ up
      → ((xs : List Piece) → says_in (leeway_scheme lo) first.state xs ≡ word_on (leeway_scheme lo) xs)
      → ((xs : List Piece) → says_in (leeway_scheme up) second.state xs ≡ word_on (leeway_scheme up) xs)
      → Spanned lo up f (record { first = first; second = second })
  spanned first second p q a b =
      let pair = paired_limits in
      record {
        not_refused = passes;
        first_plan = p;
        second_plan = q;
        separate = λ xs.
            ap₂ (λ m n. jointly (says_in (leeway_scheme m) first.state xs) (says_in (leeway_scheme n) second.state xs)) p q
            ∙ ap₂ jointly (a xs) (b xs) ∙ separate_is_both lo up pair.0 pair.1 pair.2 xs;
      }
