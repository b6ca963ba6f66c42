-- The piece of two numbers, and that there is no other.
use Rattle.std.proofs.Common.{◌≡◌, ℕ, Bool, true, false, cond, T, eqb, ℤ, pos, neg_ℤ, ◌≤ℤ◌, Some, None, Option, sym, refl, ap, ◌∙◌, arith, MatchOption, MatchResult, Ok, Err, Result}
use Rattle.std.specs.Result.{result_ok}
use mathlib.Core.HLevel.{is_prop→PathP}
use lib.Signed.{le_z}
use Rattle.std.proofs.Props.{props}
use Rattle.std.proofs.lemmas.Bool.{eqb-true}
use Rattle.sampling.specs.declared.piece.Finding.{Finding}
use Rattle.sampling.specs.declared.piece.Finding.TheVariants.{Clean, Nonconforming}
use Rattle.sampling.specs.declared.piece.Piece.{Piece}
use Rattle.sampling.specs.declared.rows.Row.{Row}
use Rattle.sampling.specs.Rows.{row_of, finding_number}
use Rattle.records.specs.Reading.{piece_if, in_range, piece_of}

same_piece : (p q : Piece) → p.value ≡ q.value → p.finding ≡ q.finding → p ≡ q
same_piece p q e f = λ i. record {
  value = e i;
  finding = f i;
  low = is_prop→PathP (λ j. neg_ℤ (pos 100000000) ≤ℤ e j) (λ j. hlevel props) p.low q.low i;
  high = is_prop→PathP (λ j. e j ≤ℤ pos 100000000) (λ j. hlevel props) p.high q.high i;
}

-- an answer for a row: the piece that has it, or nothing where none has
abbrev pub Answers : Row → Option Piece → Type 0
Answers row r = MatchOption r ((p : Piece) → row_of p ≡ row → ⊥) (λ p. row_of p ≡ row)

-- the same, where a refusal stands in place of nothing
pub told_ok : {E : Type 0} (row : Row) (r : Result Piece E) → MatchResult r (λ p. row_of p ≡ row) (λ _. (p : Piece) → row_of p ≡ row → ⊥) → Answers row (result_ok r)
told_ok row (Ok p) m = m
told_ok row (Err e) m = m

finding_told : (f g : Finding) → finding_number f ≡ finding_number g → f ≡ g
finding_told Clean Clean e = refl
finding_told Clean Nonconforming e = absurd (grind arith)
finding_told Nonconforming Clean e = absurd (grind arith)
finding_told Nonconforming Nonconforming e = refl

pub row_told : (p q : Piece) → row_of p ≡ row_of q → p ≡ q
row_told p q e = same_piece p q (ap (λ (r : Row). r.value) e) (finding_told p.finding q.finding (ap (λ (r : Row). r.finding) e))

pub one_answer : (row : Row) (r s : Option Piece) → Answers row r → Answers row s → r ≡ s
one_answer row None None a b = refl
one_answer row None (Some q) a b = absurd (a q b)
one_answer row (Some p) None a b = absurd (b p a)
one_answer row (Some p) (Some q) a b = ap Some (row_told p q (a ∙ sym b))

T_of : (b : Bool) → T b → b ≡ true
T_of true t = refl
T_of false t = absurd t

module _ (z : ℤ) (f : Finding) where
  row : Row
  row = record { value = z; finding = finding_number f }

  by_tests : (low high : Bool) (l : le_z (neg_ℤ (pos 100000000)) z ≡ low) (h : le_z z (pos 100000000) ≡ high) → Answers row (piece_if z f low high l h)
  unfolding row
  by_tests true true l h = refl
  by_tests true false l h = λ p e.
      let t = T_of _ p.high.le in
      let v = ap (λ (r : Row). r.value) e in
      let x : true ≡ false = sym t ∙ ap (λ y. le_z y (pos 100000000)) v ∙ h in absurd (grind arith)
  by_tests false high l h = λ p e.
      let t = T_of _ p.low.le in
      let v = ap (λ (r : Row). r.value) e in
      let x : true ≡ false = sym t ∙ ap (λ y. le_z (neg_ℤ (pos 100000000)) y) v ∙ l in absurd (grind arith)

  ranged : Answers row (in_range z f)
  ranged = by_tests _ _ refl refl

pub piece_answers : (z : ℤ) (b : ℕ) → Answers (record { value = z; finding = pos b }) (piece_of z b)
unfolding piece_of row
piece_answers z b = by (eqb b 0) (eqb b 1) refl refl
  where
    told : (f : Finding) → pos b ≡ finding_number f → Answers (record { value = z; finding = pos b }) (in_range z f)
    told f e = rw e (ranged z f)

    by : (x y : Bool) → eqb b 0 ≡ x → eqb b 1 ≡ y → Answers (record { value = z; finding = pos b }) (cond x (in_range z Clean) (cond y (in_range z Nonconforming) None))
    by true y e g = told Clean (ap pos (eqb-true b 0 e))
    by false true e g = told Nonconforming (ap pos (eqb-true b 1 g))
    by false false e g = λ p h. no_finding p.finding (ap (λ (r : Row). r.finding) h)
      where
        no_finding : (f : Finding) → finding_number f ≡ pos b → ⊥
        no_finding Clean h = grind arith
        no_finding Nonconforming h = grind arith
