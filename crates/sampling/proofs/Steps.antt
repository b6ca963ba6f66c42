-- One step of sequential sampling, as the code takes it.
use Rattle.std.proofs.Common.{◌≡◌, ℕ, suc, ◌≤◌, false, leb, List, ◌∷◌, ℤ, Some, None, refl, ap, ◌∙◌, add-one, arith}
use Rattle.std.proofs.lemmas.Bool.{lt-leb, and_right}
use Rattle.sampling.specs.declared.piece.Piece.{Piece}
use Rattle.sampling.specs.declared.tally.Tally.{Tally}
use Rattle.sampling.specs.declared.word.Word.TheVariants.{NotAccepted}
use Rattle.sampling.specs.declared.sequential.State.{State}
use Rattle.sampling.specs.declared.sequential.State.TheVariants as state
use Rattle.sampling.specs.Table.{Line}
use Rattle.sampling.specs.Sequential.{Scheme, line_at, by_line, by_told, word_at, word_from, unless_settled}
use Rattle.sampling.specs.States.{says_in, Plus}

pub word_by_line : (t : Scheme) (n : ℕ) (score : ℤ) (line : Line) → Some line ≡ line_at t n → by_line (leb t.last n) score line ≡ word_at t n score
unfolding word_at
word_by_line t n score line e = ap (by_told (leb t.last n) score) e

pub word_past_table : (t : Scheme) (n : ℕ) (score : ℤ) → None ≡ line_at t n → NotAccepted ≡ word_at t n score
unfolding word_at
word_past_table t n score e = ap (by_told (leb t.last n) score) e

-- past the limit there is no line
no_line : (t : Scheme) (n : ℕ) → t.last ≤ n → None ≡ line_at t (suc n)
no_line t n h =
    let e : leb (suc n) t.last ≡ false = lt-leb (suc n) t.last (omega arith) in
    rw (and_right (leb 1 (suc n)) (leb (suc n) t.last) e)

pub going_more : (t : Scheme) (s : State) (x : Piece) (sum : Tally) (r : State)
    → (s ≡ state.Accepted → ⊥) → (s ≡ state.NotAccepted → ⊥) → Plus s (t.points x) (Some sum)
    → ((xs : List Piece) → says_in t r xs ≡ unless_settled (word_at t sum.count sum.score) (word_from t sum.count sum.score xs))
    → (xs : List Piece) → says_in t r xs ≡ says_in t s (x ∷ xs)
unfolding word_from
going_more t (state.Going tally) x sum r a b e h xs = h xs ∙ rw (e.0, e.1, add-one)
going_more t state.Accepted x sum r a b e h xs = absurd (a refl)
going_more t state.NotAccepted x sum r a b e h xs = absurd (b refl)

pub going_past : (t : Scheme) (s : State) (x : Piece)
    → (s ≡ state.Accepted → ⊥) → (s ≡ state.NotAccepted → ⊥) → t.last ≤ 4000 → Plus s (t.points x) None
    → (xs : List Piece) → NotAccepted ≡ says_in t s (x ∷ xs)
unfolding word_from
going_past t (state.Going tally) x a b few e xs =
    rw (← word_past_table t (suc tally.count) _ (no_line t tally.count (omega arith)))
going_past t state.Accepted x a b few e xs = absurd (a refl)
going_past t state.NotAccepted x a b few e xs = absurd (b refl)
