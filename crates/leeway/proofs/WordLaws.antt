-- The words of a leeway plan by its cumulative leeway.
use Rattle.std.proofs.Common.{◌≡◌, ℕ, ◌≤◌, List, [], ◌∷◌, length, ℤ, pos, ◌+ℤ◌, ◌*ℤ◌, sym, refl, ap, ◌∙◌, inl, inr, arith}
use Rattle.std.proofs.lemmas.Bool.{cases_lt, lt-ltb, le-ltb, lt-leb, le-leb}
use Rattle.std.proofs.lemmas.Int.{ints}
use Rattle.sampling.specs.declared.piece.Piece.{Piece}
use Rattle.sampling.specs.Sequential.{total, word_at}
use Rattle.sampling.specs.SequentialLaws.{decided_by_line, line_inside}
use Rattle.leeway.specs.declared.plan.LeewayPlan.{LeewayPlan}
use Rattle.leeway.specs.Leeway.{leeway, leeway_scheme, leeway_word, cumulative_leeway, DecidedByLeeway}

leeway_total : (p : LeewayPlan) (xs : List Piece) → total (leeway_scheme p) xs ≡ cumulative_leeway p xs *ℤ pos 10
leeway_total p [] = refl
leeway_total p (x ∷ xs) =
    let rest = leeway_total p xs in
    ap (λ s. leeway p.side p.limit x.value *ℤ pos 10 +ℤ s) rest ∙ omega (arith, ints)

pub leeway_at : (p : LeewayPlan) (n : ℕ) (y : ℤ) → 1 ≤ n → n ≤ p.n_t → word_at (leeway_scheme p) n y ≡ leeway_word p n y
leeway_at p n y low high = line_inside (leeway_scheme p) n y low high ∙ elim (cases_lt n p.n_t) [
  | inl below ↦ rw (lt-ltb n p.n_t below, lt-leb p.n_t n below)
  | inr last ↦ rw (le-ltb n p.n_t last, le-leb p.n_t n last)
]

pub decided_by_leeway : (p : LeewayPlan) → DecidedByLeeway p
decided_by_leeway p xs some few u =
    decided_by_line (leeway_scheme p) xs some few u
    ∙ sym (line_inside (leeway_scheme p) (length xs) (total (leeway_scheme p) xs) some few)
    ∙ leeway_at p (length xs) (total (leeway_scheme p) xs) some few
    ∙ ap (leeway_word p (length xs)) (leeway_total p xs)
