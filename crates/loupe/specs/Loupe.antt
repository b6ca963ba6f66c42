-- The loupe plan: inspection by attributes.
use Rattle.std.specs.Prelude.{◌≡◌, ℕ, ◌+◌, ◌*◌, ◌≤◌, cond, List, [], ◌∷◌, length, ℤ, pos, ◌-ℤ◌, neg_ℤ, Some, None, int_le, nat_lt}
use Rattle.sampling.specs.declared.piece.Piece.{Piece}
use Rattle.sampling.specs.declared.piece.Finding.{Finding}
use Rattle.sampling.specs.declared.piece.Finding.TheVariants.{Clean, Nonconforming}
use Rattle.loupe.specs.declared.plan.LoupePlan.{LoupePlan}
use Rattle.plans.specs.Rounding.{rounded_down, rounded_up, GreatestNotAbove, LeastNotBelow}
use Rattle.sampling.specs.declared.word.Word.{Word}
use Rattle.sampling.specs.declared.word.Word.TheVariants.{Going, Accepted, NotAccepted}
use Rattle.sampling.specs.Table.{Line, Undecided, where_true}
use Rattle.sampling.specs.Sequential.{Scheme, word_on}

-- g and h count ten-thousandths of a piece
abbrev pub whole_piece : ℕ
whole_piece = 10000

-- A(n), R(n) and A_t exactly
abbrev pub exact_acceptance_number : LoupePlan → ℕ → ℤ
exact_acceptance_number p n = pos (p.g * n) -ℤ pos p.h_a

abbrev pub exact_rejection_number : LoupePlan → ℕ → ℤ
exact_rejection_number p n = pos (p.g * n + p.h_r)

abbrev pub exact_curtailed_number : LoupePlan → ℤ
exact_curtailed_number p = pos (p.g * p.n_t)

-- A(n), R(n) and A_t count nonconforming pieces
abbrev pub acceptance_number : LoupePlan → ℕ → ℤ
acceptance_number p n = rounded_down whole_piece (exact_acceptance_number p n)

abbrev pub rejection_number : LoupePlan → ℕ → ℤ
rejection_number p n = rounded_up whole_piece (exact_rejection_number p n)

abbrev pub curtailed_number : LoupePlan → ℤ
curtailed_number p = rounded_down whole_piece (exact_curtailed_number p)

-- fewer nonconforming pieces are better, so the score is minus their number; A is absent where it is negative
abbrev pub line_below : LoupePlan → ℕ → Line
line_below p n = (where_true (int_le (pos 0) (acceptance_number p n)) (neg_ℤ (acceptance_number p n)), Some (neg_ℤ (rejection_number p n)))

abbrev pub loupe_line : LoupePlan → ℕ → Line
loupe_line p n = cond (nat_lt n p.n_t) (line_below p n) (Some (neg_ℤ (curtailed_number p)), None)

abbrev pub counts_as : Finding → ℕ
counts_as Clean = 0
counts_as Nonconforming = 1

abbrev pub loupe_points : Finding → ℤ
loupe_points f = neg_ℤ (pos (counts_as f))

abbrev pub loupe_scheme : LoupePlan → Scheme
loupe_scheme p = record {
  last = p.n_t;
  points = λ x. loupe_points x.finding;
  line = loupe_line p;
}

-- D
abbrev pub nonconforming : List Piece → ℕ
nonconforming [] = 0
nonconforming (x ∷ xs) = counts_as x.finding + nonconforming xs

-- the word at piece n of a lot that is going, with d nonconforming pieces
abbrev pub loupe_word : LoupePlan → ℕ → ℤ → Word
loupe_word p n d =
    cond (nat_lt n p.n_t)
    (cond (int_le d (acceptance_number p n)) Accepted (cond (int_le (rejection_number p n) d) NotAccepted Going))
    (cond (int_le d (curtailed_number p)) Accepted NotAccepted)

-- where every shorter beginning is going, the number of nonconforming pieces decides
abbrev pub DecidedByCount : LoupePlan → Type 0
DecidedByCount p =
    (xs : List Piece) → 1 ≤ length xs → length xs ≤ p.n_t → Undecided (word_on (loupe_scheme p)) xs
    → word_on (loupe_scheme p) xs ≡ loupe_word p (length xs) (pos (nonconforming xs))

-- a clean piece is at least as good as any, a nonconforming one as another such
abbrev pub finding_as_good : Finding → Finding → Type 0
finding_as_good Clean y = Unit {0}
finding_as_good Nonconforming Clean = ⊥
finding_as_good Nonconforming Nonconforming = Unit {0}

-- A(n) and A_t are rounded down to whole pieces, R(n) up
pub record Counted (p : LoupePlan) (n : ℕ) : Type 0 where
  pub acceptance : GreatestNotAbove whole_piece (exact_acceptance_number p n) (acceptance_number p n)
  pub rejection : LeastNotBelow whole_piece (exact_rejection_number p n) (rejection_number p n)
  pub curtailed : GreatestNotAbove whole_piece (exact_curtailed_number p) (curtailed_number p)
