-- How the words on two lists of pieces compare, from the judge's laws alone.
use Rattle.std.proofs.Common.{◌≡◌, ℕ, zero, suc, ◌≤◌, ◌⊎◌, List, ◌++◌, length, take, drop, sym, refl, ap, ◌∙◌, inl, inr, arith}
use Rattle.std.proofs.lemmas.List.{take-append-drop, take-take, take_all}
use Rattle.std.proofs.lemmas.Bool.{cases_lt}
use Rattle.sampling.specs.declared.piece.Piece.{Piece}
use Rattle.sampling.specs.declared.word.Word.{Word}
use Rattle.sampling.specs.declared.word.Word.TheVariants.{Going, Accepted, NotAccepted}
use Rattle.sampling.specs.Lawful.{Lawful, Piecewise, none, more}
use Rattle.sampling.specs.Words.{accepted≢going, not_accepted≢going, not_accepted≢accepted}
use Rattle.lot.specs.Compared.{HasAt, Reaches, Compared, WhileBothLast, first_ends, second_ends, both}

going? : (w : Word) → (w ≡ Going) ⊎ (w ≡ Going → ⊥)
going? Going = inl refl
going? Accepted = inr accepted≢going
going? NotAccepted = inr not_accepted≢going

settled_as : (w : Word) → (w ≡ Going → ⊥) → (w ≡ Accepted) ⊎ (w ≡ NotAccepted)
settled_as Going ne = absurd (ne refl)
settled_as Accepted ne = inl refl
settled_as NotAccepted ne = inr refl

-- the first k of both, piece by piece
paired : {good : Piece → Piece → Type 0} {xs ys : List Piece} (k : ℕ) → WhileBothLast good xs ys → k ≤ length xs → k ≤ length ys → Piecewise good (take k xs) (take k ys)
paired zero r p q = none
paired (suc k) first_ends p q = absurd (omega arith)
paired (suc k) second_ends p q = absurd (omega arith)
paired (suc k) (both g r) p q = more g (paired k r (omega arith) (omega arith))

-- a longer beginning begins with a shorter one
begins_with : (m n : ℕ) (ps : List Piece) → m ≤ n → take n ps ≡ take m ps ++ drop m (take n ps)
begins_with m n ps h = sym (take-append-drop m (take n ps)) ∙ ap (λ zs. zs ++ drop m (take n ps)) (take-take m n ps h)

module _ {limit : ℕ} {good : Piece → Piece → Type 0} {word : List Piece → Word} (law : Lawful limit good word) where
  -- a word that is no longer going stays
  later : (m n : ℕ) (ps : List Piece) → m ≤ n → (word (take m ps) ≡ Going → ⊥) → word (take n ps) ≡ word (take m ps)
  later m n ps h ne = ap word (begins_with m n ps h) ∙ law.sentence_kept (take m ps) (drop m (take n ps)) ne

  -- a word that is no longer going came at some piece
  came : (n : ℕ) (ps : List Piece) (w : Word) → n ≤ length ps → word (take n ps) ≡ w → (w ≡ Going → ⊥) → (j : ℕ) × (j ≤ n) × HasAt word w j ps
  came zero ps w within e ne = absurd (ne (sym e ∙ law.begins_going))
  came (suc n) ps w within e ne = elim (going? (word (take n ps))) [
    | inl h ↦ (suc n, omega arith, (n, omega arith, within, e, h))
    | inr h ↦ let r = came n ps w (omega arith) (sym (later n (suc n) ps (omega arith) h) ∙ e) ne in (r.0, omega (arith, r.1), r.2)
  ]

  module _ (first second : List Piece) (r : WhileBothLast good first second) where
    -- an earlier end of the better one is an acceptance
    accepted_before : (k n : ℕ) → n ≤ k → k ≤ length first → n ≤ length second → word (take k first) ≡ Accepted → (word (take n second) ≡ Going → ⊥) → word (take n second) ≡ Accepted
    accepted_before k n le p q e ne = elim (settled_as (word (take n second)) ne) [
      | inl h ↦ h
      | inr h ↦
          let f : word (take n first) ≡ NotAccepted = law.worse_not_accepted (take n first) (take n second) (paired n r (omega arith) q) h in
          absurd (not_accepted≢accepted (sym f ∙ sym (later n k first le (λ g. not_accepted≢going (sym f ∙ g))) ∙ e))
    ]

    -- an earlier end of the worse one is a refusal
    refused_before : (k n : ℕ) → n ≤ k → k ≤ length second → n ≤ length first → word (take k second) ≡ NotAccepted → (word (take n first) ≡ Going → ⊥) → word (take n first) ≡ NotAccepted
    refused_before k n le p q e ne = elim (settled_as (word (take n first)) ne) [
      | inr h ↦ h
      | inl h ↦
          let f : word (take n second) ≡ Accepted = law.better_accepted (take n first) (take n second) (paired n r q (omega arith)) h in
          absurd (not_accepted≢accepted (sym e ∙ later n k second le (λ g. accepted≢going (sym f ∙ g)) ∙ f))
    ]

    accepted_at : (k : ℕ) → Reaches word k second → k ≤ length first → word (take k first) ≡ Accepted → (j : ℕ) × (j ≤ k) × HasAt word Accepted j second
    accepted_at k q long e = elim (cases_lt (length second) k) [
      | inr fits ↦ came k second Accepted fits (law.better_accepted (take k first) (take k second) (paired k r long fits) e) accepted≢going
      | inl short ↦
          let n : ℕ = length second in
          let whole : take n second ≡ second = take_all n second (omega arith) in
          let ne : word second ≡ Going → ⊥ = elim q.1 [ inl h ↦ h | inr h ↦ absurd (omega arith) ] in
          let c = came n second Accepted (omega arith) (accepted_before k n (omega arith) long (omega arith) e (λ g. ne (sym (ap word whole) ∙ g))) accepted≢going in
          (c.0, omega (arith, c.1), c.2)
    ]

    refused_at : (k : ℕ) → Reaches word k first → k ≤ length second → word (take k second) ≡ NotAccepted → (j : ℕ) × (j ≤ k) × HasAt word NotAccepted j first
    refused_at k q long e = elim (cases_lt (length first) k) [
      | inr fits ↦ came k first NotAccepted fits (law.worse_not_accepted (take k first) (take k second) (paired k r fits long) e) not_accepted≢going
      | inl short ↦
          let n : ℕ = length first in
          let whole : take n first ≡ first = take_all n first (omega arith) in
          let ne : word first ≡ Going → ⊥ = elim q.1 [ inl h ↦ h | inr h ↦ absurd (omega arith) ] in
          let c = came n first NotAccepted (omega arith) (refused_before k n (omega arith) long (omega arith) e (λ g. ne (sym (ap word whole) ∙ g))) not_accepted≢going in
          (c.0, omega (arith, c.1), c.2)
    ]

    pub compared : Compared word first second
    compared = record { accepted_too = λ k p q h. accepted_at k q h.2 h.3; refused_too = λ k p q h. refused_at k p h.2 h.3 }
