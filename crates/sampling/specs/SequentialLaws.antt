-- The judge of any sound plan is lawful, and keeps its line's promise.
use Rattle.std.specs.Prelude.{◌≡◌, ℕ, suc, ◌+◌, ◌<◌, ◌≤◌, Bool, true, false, ◌||◌, ◌⊎◌, List, [], ◌∷◌, ◌++◌, length, take, ℤ, pos, ◌+ℤ◌, ◌≤ℤ◌, Some, None, Option, ◌≢◌, nat_le, refl}
use Rattle.std.proofs.Common.{sym, ◌∙◌, ap, ⊎_elim}
use native.Mathlib.Omega.{arith}
use Rattle.std.proofs.Math.Path.{ap₂}
use Rattle.std.proofs.Math.Logic.{inl, inr}
use Rattle.std.proofs.lemmas.Int.{ints}
use Rattle.std.proofs.lemmas.Bool.{le-leb, leb-true, cases_lt, or_cases, or_right}
use Rattle.sampling.specs.declared.piece.Piece.{Piece}
use Rattle.sampling.specs.declared.word.Word.{Word}
use Rattle.sampling.specs.declared.word.Word.TheVariants.{Going, Accepted, NotAccepted}
use Rattle.sampling.specs.Lawful.{Lawful, Piecewise, none, more}
use Rattle.sampling.specs.Table.{Line, LinePromise, Reaches, FallsTo, Exactly, Undecided}
use Rattle.sampling.specs.Sequential.{Scheme, Sound, reaches, falls_to, by_line, by_told, line_at, word_at, word_from, word_on, unless_settled, total}
use Rattle.sampling.specs.Words.{accepted≢going, not_accepted≢going, not_accepted≢accepted, was_accepted, was_not_accepted, was_going}

reaches_more : (a : Option ℤ) (s s' : ℤ) → s ≤ℤ s' → reaches a s ≡ true → reaches a s' ≡ true
reaches_more None s s' h e = e
reaches_more (Some a) s s' h e = grind (arith, ints)

falls_less : (r : Option ℤ) (s s' : ℤ) → s ≤ℤ s' → falls_to r s' ≡ true → falls_to r s ≡ true
falls_less None s s' h e = e
falls_less (Some r) s s' h e = grind (arith, ints)

not_true : (b : Bool) → (b ≢ true) → b ≡ false
not_true true h = absurd (h refl)
not_true false h = refl

told_more : (last : Bool) (l : Option Line) (s s' : ℤ) → s ≤ℤ s' → by_told last s l ≡ Accepted → by_told last s' l ≡ Accepted
told_more last None s s' h e = e
told_more last (Some line) s s' h e = rw (reaches_more line.0 s s' h (was_accepted (reaches line.0 s) (last || falls_to line.1 s) e))

or_less : (last : Bool) (r : Option ℤ) (s s' : ℤ) → s ≤ℤ s' → (last || falls_to r s') ≡ true → (last || falls_to r s) ≡ true
or_less true r s s' h e = refl
or_less false r s s' h e = falls_less r s s' h e

told_less : (last : Bool) (l : Option Line) (s s' : ℤ) → s ≤ℤ s' → by_told last s' l ≡ NotAccepted → by_told last s l ≡ NotAccepted
told_less last None s s' h e = e
told_less last (Some line) s s' h e =
    let w = was_not_accepted (reaches line.0 s') (last || falls_to line.1 s') e in
    let low : reaches line.0 s ≡ false = not_true (reaches line.0 s) (λ up. true≢ (reaches_more line.0 s s' h up) w.0) in
    rw (low, or_less last line.1 s s' h w.1)
  where
    true≢ : {b : Bool} → b ≡ true → b ≢ false
    true≢ p q = grind arith

told_last : (l : Option Line) (s : ℤ) → by_told true s l ≢ Going
told_last None s e = not_accepted≢going e
told_last (Some line) s e = let w = was_going (reaches line.0 s) true e in grind arith

module _ (t : Scheme) where
  at_more : (n : ℕ) (s s' : ℤ) → s ≤ℤ s' → word_at t n s ≡ Accepted → word_at t n s' ≡ Accepted
  unfolding word_at
  at_more n s s' h e = told_more (nat_le t.last n) (line_at t n) s s' h e

  at_less : (n : ℕ) (s s' : ℤ) → s ≤ℤ s' → word_at t n s' ≡ NotAccepted → word_at t n s ≡ NotAccepted
  unfolding word_at
  at_less n s s' h e = told_less (nat_le t.last n) (line_at t n) s s' h e

  pub at_limit : (n : ℕ) (s : ℤ) → t.last ≤ n → word_at t n s ≢ Going
  unfolding word_at
  at_limit n s h e = told_last (line_at t n) s (rw (le-leb t.last n h) at e)

settles : (v w : Word) → (v ≢ Going) → unless_settled v w ≡ v
settles Going w ne = absurd (ne refl)
settles Accepted w ne = refl
settles NotAccepted w ne = refl

pub both_going : (v w : Word) → unless_settled v w ≡ Going → (v ≡ Going) × (w ≡ Going)
both_going Going w e = (refl, e)
both_going Accepted w e = absurd (accepted≢going e)
both_going NotAccepted w e = absurd (not_accepted≢going e)

stays : (v w w' : Word) → (unless_settled v w ≢ Going) → ((w ≢ Going) → w' ≡ w) → unless_settled v w' ≡ unless_settled v w
stays Going w w' ne h = h ne
stays Accepted w w' ne h = refl
stays NotAccepted w w' ne h = refl

-- the first word of two lists, and what follows it
accepted_step : (v v' w w' : Word) → (v ≡ Accepted → v' ≡ Accepted) → (v' ≡ NotAccepted → v ≡ NotAccepted) → (w ≡ Accepted → w' ≡ Accepted) → unless_settled v w ≡ Accepted → unless_settled v' w' ≡ Accepted
accepted_step Going Going w w' p q r e = r e
accepted_step Going Accepted w w' p q r e = refl
accepted_step Going NotAccepted w w' p q r e = absurd (not_accepted≢going (sym (q refl)))
accepted_step Accepted v' w w' p q r e = rw (p refl)
accepted_step NotAccepted v' w w' p q r e = absurd (not_accepted≢accepted e)

not_accepted_step : (v v' w w' : Word) → (v ≡ Accepted → v' ≡ Accepted) → (v' ≡ NotAccepted → v ≡ NotAccepted) → (w' ≡ NotAccepted → w ≡ NotAccepted) → unless_settled v' w' ≡ NotAccepted → unless_settled v w ≡ NotAccepted
not_accepted_step Going Going w w' p q r e = r e
not_accepted_step Going Accepted w w' p q r e = absurd (not_accepted≢accepted (sym e))
not_accepted_step Going NotAccepted w w' p q r e = absurd (not_accepted≢going (sym (q refl)))
not_accepted_step Accepted v' w w' p q r e = absurd (not_accepted≢accepted (sym e ∙ ap (λ v. unless_settled v w') (p refl)))
not_accepted_step NotAccepted v' w w' p q r e = refl

module _ (t : Scheme) where
  ends : (xs : List Piece) (n : ℕ) (s : ℤ) → n < t.last → t.last ≤ n + length xs → word_from t n s xs ≢ Going
  unfolding word_from
  ends [] n s below h e = omega arith
  ends (x ∷ xs) n s below h e =
      let w = both_going (word_at t (suc n) (s +ℤ t.points x)) (word_from t (suc n) (s +ℤ t.points x) xs) e in
      elim (cases_lt (suc n) t.last) [
        | inl early ↦ ends xs (suc n) (s +ℤ t.points x) early (omega arith) w.1
        | inr last ↦ at_limit t (suc n) (s +ℤ t.points x) last w.0
      ]

  kept : (xs ys : List Piece) (n : ℕ) (s : ℤ) → (word_from t n s xs ≢ Going) → word_from t n s (xs ++ ys) ≡ word_from t n s xs
  unfolding word_from
  kept [] ys n s ne = absurd (ne refl)
  kept (x ∷ xs) ys n s ne =
      stays (word_at t (suc n) (s +ℤ t.points x)) (word_from t (suc n) (s +ℤ t.points x) xs) (word_from t (suc n) (s +ℤ t.points x) (xs ++ ys)) ne
      (kept xs ys (suc n) (s +ℤ t.points x))

  module _ {good : Piece → Piece → Type 0} (sound : Sound t good) where
    accepts : {xs ys : List Piece} → Piecewise good xs ys → (n : ℕ) (s s' : ℤ) → s ≤ℤ s' → word_from t n s xs ≡ Accepted → word_from t n s' ys ≡ Accepted
    unfolding word_from
    accepts none n s s' h e = e
    accepts (more {x} {y} {xs} {ys} g r) n s s' h e =
        let p : t.points x ≤ℤ t.points y = (sound.more_points_better y x).0 g in
        let q : (s +ℤ t.points x) ≤ℤ (s' +ℤ t.points y) = omega (arith, ints) in
        accepted_step _ _ (word_from t (suc n) (s +ℤ t.points x) xs) (word_from t (suc n) (s' +ℤ t.points y) ys)
        (at_more t (suc n) (s +ℤ t.points x) (s' +ℤ t.points y) q) (at_less t (suc n) (s +ℤ t.points x) (s' +ℤ t.points y) q)
        (accepts r (suc n) (s +ℤ t.points x) (s' +ℤ t.points y) q) e

    refuses : {xs ys : List Piece} → Piecewise good xs ys → (n : ℕ) (s s' : ℤ) → s ≤ℤ s' → word_from t n s' ys ≡ NotAccepted → word_from t n s xs ≡ NotAccepted
    unfolding word_from
    refuses none n s s' h e = e
    refuses (more {x} {y} {xs} {ys} g r) n s s' h e =
        let p : t.points x ≤ℤ t.points y = (sound.more_points_better y x).0 g in
        let q : (s +ℤ t.points x) ≤ℤ (s' +ℤ t.points y) = omega (arith, ints) in
        not_accepted_step _ _ (word_from t (suc n) (s +ℤ t.points x) xs) (word_from t (suc n) (s' +ℤ t.points y) ys)
        (at_more t (suc n) (s +ℤ t.points x) (s' +ℤ t.points y) q) (at_less t (suc n) (s +ℤ t.points x) (s' +ℤ t.points y) q)
        (refuses r (suc n) (s +ℤ t.points x) (s' +ℤ t.points y) q) e

begins : (t : Scheme) → word_on t [] ≡ Going
unfolding word_from
begins t = refl

pub sequential_lawful : (t : Scheme) (good : Piece → Piece → Type 0) → Sound t good → Lawful t.last good (word_on t)
sequential_lawful t good sound = record {
  limit_from_one = sound.limit_from_one;
  limit_to_4000 = sound.limit_to_4000;
  reflexive = λ x. (sound.more_points_better x x).1 (omega (arith, ints));
  transitive = λ x y z p q.
      let a : t.points y ≤ℤ t.points x = (sound.more_points_better x y).0 p in
      let b : t.points z ≤ℤ t.points y = (sound.more_points_better y z).0 q in
      (sound.more_points_better x z).1 (omega (arith, ints));
  begins_going = begins t;
  ends_by_limit = λ xs h. let one = sound.limit_from_one in ends t xs 0 (pos 0) (omega arith) (omega arith);
  sentence_kept = λ xs ys. kept t xs ys 0 (pos 0);
  better_accepted = λ xs ys p. accepts t sound p 0 (pos 0) (pos 0) (omega (arith, ints));
  worse_not_accepted = λ xs ys p. refuses t sound p 0 (pos 0) (pos 0) (omega (arith, ints));
}

-- the promise of the line

pub going_last : (w : Word) → unless_settled w Going ≡ w
going_last Going = refl
going_last Accepted = refl
going_last NotAccepted = refl

module _ (t : Scheme) where
  -- with every shorter beginning going, the last piece's line decides
  decided : (x : Piece) (xs : List Piece) (n : ℕ) (s : ℤ) → Undecided (word_from t n s) (x ∷ xs)
      → word_from t n s (x ∷ xs) ≡ word_at t (n + length (x ∷ xs)) (s +ℤ total t (x ∷ xs))
  unfolding word_from
  decided x [] n s u =
      going_last (word_at t (suc n) (s +ℤ t.points x)) ∙ ap₂ (word_at t) (omega arith) (omega (arith, ints))
  decided x (y ∷ ys) n s u =
      let first = both_going (word_at t (suc n) (s +ℤ t.points x)) Going (u 1 (omega arith)) in
      rw first.0
      (decided y ys (suc n) (s +ℤ t.points x)
      (λ k h. (both_going (word_at t (suc n) (s +ℤ t.points x)) (word_from t (suc n) (s +ℤ t.points x) (take k (y ∷ ys))) (u (suc k) (omega arith))).1)
      ∙ ap₂ (word_at t) (omega arith) (omega (arith, ints)))

  pub line_inside : (n : ℕ) (s : ℤ) → 1 ≤ n → n ≤ t.last → word_at t n s ≡ by_line (nat_le t.last n) s (t.line n)
  unfolding word_at
  line_inside n s low high = rw (le-leb 1 n low, le-leb n t.last high)

pub reached : (a : Option ℤ) (s : ℤ) → Exactly (reaches a s ≡ true) (Reaches a s)
reached None s = (λ e. absurd (grind arith), λ h. absurd h)
reached (Some a) s = (λ e. grind (arith, ints), λ h. grind (arith, ints))

pub fell : (r : Option ℤ) (s : ℤ) → Exactly (falls_to r s ≡ true) (FallsTo r s)
fell None s = (λ e. absurd (grind arith), λ h. absurd h)
fell (Some r) s = (λ e. grind (arith, ints), λ h. grind (arith, ints))

by_line_accepts : (last : Bool) (s : ℤ) (line : Line) → Exactly (by_line last s line ≡ Accepted) (Reaches line.0 s)
by_line_accepts last s line = (
  λ e. (reached line.0 s).0 (was_accepted (reaches line.0 s) (last || falls_to line.1 s) e),
  λ h. rw ((reached line.0 s).1 h),
)

by_line_refuses : (n limit : ℕ) (s : ℤ) (line : Line) → n ≤ limit → (by_line (nat_le limit n) s line ≢ Accepted)
    → Exactly (by_line (nat_le limit n) s line ≡ NotAccepted) ((n ≡ limit) ⊎ FallsTo line.1 s)
by_line_refuses n limit s line h ne = (down, up)
  where
    down : by_line (nat_le limit n) s line ≡ NotAccepted → (n ≡ limit) ⊎ FallsTo line.1 s
    down e = ⊎_elim (λ last. inl (let l : limit ≤ n = leb-true limit n last in omega arith)) (λ low. inr ((fell line.1 s).0 low))
        (or_cases (nat_le limit n) (falls_to line.1 s) (was_not_accepted (reaches line.0 s) (nat_le limit n || falls_to line.1 s) e).1)

    low : reaches line.0 s ≡ false
    low = not_true (reaches line.0 s) (λ e. ne (rw e))

    up : (n ≡ limit) ⊎ FallsTo line.1 s → by_line (nat_le limit n) s line ≡ NotAccepted
    up (inl e) = rw (low, le-leb limit n (omega arith))
    up (inr f) = rw (low, or_right (nat_le limit n) (falls_to line.1 s) ((fell line.1 s).1 f))

module _ (t : Scheme) where
  pub decided_by_line : (xs : List Piece) → 1 ≤ length xs → length xs ≤ t.last → Undecided (word_on t) xs
      → word_on t xs ≡ by_line (nat_le t.last (length xs)) (total t xs) (t.line (length xs))
  decided_by_line [] low high u = absurd (omega arith)
  decided_by_line (x ∷ xs) low high u =
      decided t x xs 0 (pos 0) u
      ∙ ap₂ (word_at t) (omega arith) (omega (arith, ints))
      ∙ line_inside t (length (x ∷ xs)) (total t (x ∷ xs)) low high

pub sequential_promise : (t : Scheme) → LinePromise t.last (word_on t) (total t) t.line
sequential_promise t = record {
  accepted = λ xs low high u. rw (decided_by_line t xs low high u) (by_line_accepts (nat_le t.last (length xs)) (total t xs) (t.line (length xs)));
  not_accepted = λ xs low high u ne.
      let e = decided_by_line t xs low high u in
      rw e (by_line_refuses (length xs) t.last (total t xs) (t.line (length xs)) high (rw e at ne));
}
