-- The words of a loupe plan by its nonconforming pieces.
use Rattle.std.proofs.Common.{◌≡◌, ℕ, ◌≤◌, List, [], ◌∷◌, length, ℤ, pos, ◌+ℤ◌, neg_ℤ, sym, refl, ap, ◌∙◌, inl, inr, arith}
use lib.Signed.{le_z}
use Rattle.std.proofs.lemmas.Bool.{cases_Bool, cases_lt, lt-ltb, le-ltb, lt-leb, le-leb}
use Rattle.std.proofs.lemmas.Int.{ints}
use Rattle.sampling.specs.declared.piece.Piece.{Piece}
use Rattle.sampling.specs.Table.{where_true}
use Rattle.sampling.specs.Sequential.{total, word_at, reaches}
use Rattle.sampling.specs.SequentialLaws.{decided_by_line, line_inside}
use Rattle.loupe.specs.declared.plan.LoupePlan.{LoupePlan}
use Rattle.loupe.specs.Loupe.{loupe_scheme, loupe_word, nonconforming, counts_as, acceptance_number, rejection_number, curtailed_number, DecidedByCount}

neg_ordered : (x y : ℤ) → le_z (neg_ℤ x) (neg_ℤ y) ≡ le_z y x
neg_ordered x y = grind (arith, ints)

-- an absent A is a negative one
reached_count : (a : ℤ) (d : ℕ) → reaches (where_true (le_z (pos 0) a) (neg_ℤ a)) (neg_ℤ (pos d)) ≡ le_z (pos d) a
reached_count a d = elim (cases_Bool (le_z (pos 0) a)) [
  | inl there ↦ rw there (neg_ordered a (pos d))
  | inr absent ↦ rw absent (grind (arith, ints))
]

loupe_at : (p : LoupePlan) (n d : ℕ) → 1 ≤ n → n ≤ p.n_t → word_at (loupe_scheme p) n (neg_ℤ (pos d)) ≡ loupe_word p n (pos d)
loupe_at p n d low high = line_inside (loupe_scheme p) n (neg_ℤ (pos d)) low high ∙ elim (cases_lt n p.n_t) [
  | inl below ↦ rw (lt-ltb n p.n_t below, lt-leb p.n_t n below, reached_count (acceptance_number p n) d, neg_ordered (pos d) (rejection_number p n))
  | inr last ↦ rw (le-ltb n p.n_t last, le-leb p.n_t n last, neg_ordered (curtailed_number p) (pos d))
]

loupe_total : (p : LoupePlan) (xs : List Piece) → total (loupe_scheme p) xs ≡ neg_ℤ (pos (nonconforming xs))
loupe_total p [] = refl
loupe_total p (x ∷ xs) =
    let rest = loupe_total p xs in
    ap (λ s. neg_ℤ (pos (counts_as x.finding)) +ℤ s) rest ∙ omega (arith, ints)

pub decided_by_count : (p : LoupePlan) → DecidedByCount p
decided_by_count p xs some few u =
    decided_by_line (loupe_scheme p) xs some few u
    ∙ sym (line_inside (loupe_scheme p) (length xs) (total (loupe_scheme p) xs) some few)
    ∙ ap (word_at (loupe_scheme p) (length xs)) (loupe_total p xs)
    ∙ loupe_at p (length xs) (nonconforming xs) some few
