-- Two lawful judges as one are lawful.
use Rattle.std.specs.Prelude.{◌≡◌, ℕ, max, ◌⊎◌, List, ◌++◌, ◌≢◌, refl}
use Rattle.std.proofs.Common.{inl, inr, arith}
use Rattle.sampling.specs.declared.piece.Piece.{Piece}
use Rattle.sampling.specs.declared.word.Word.{Word}
use Rattle.sampling.specs.declared.word.Word.TheVariants.{Going, Accepted, NotAccepted}
use Rattle.sampling.specs.Lawful.{Lawful, Piecewise, none, more}
use Rattle.sampling.specs.Joint.{jointly}
use Rattle.sampling.specs.Words.{accepted≢going, not_accepted≢going}

left : {G H : Piece → Piece → Type 0} {xs ys : List Piece} → Piecewise (λ x y. G x y × H x y) xs ys → Piecewise G xs ys
left none = none
left (more g r) = more g.0 (left r)

right : {G H : Piece → Piece → Type 0} {xs ys : List Piece} → Piecewise (λ x y. G x y × H x y) xs ys → Piecewise H xs ys
right none = none
right (more g r) = more g.1 (right r)

both_accepted : (v w : Word) → jointly v w ≡ Accepted → (v ≡ Accepted) × (w ≡ Accepted)
both_accepted Accepted w e = (refl, e)
both_accepted Going Going e = absurd (grind arith)
both_accepted Going Accepted e = absurd (grind arith)
both_accepted Going NotAccepted e = absurd (grind arith)
both_accepted NotAccepted w e = absurd (grind arith)

either_not_accepted : (v w : Word) → jointly v w ≡ NotAccepted → (v ≡ NotAccepted) ⊎ (w ≡ NotAccepted)
either_not_accepted NotAccepted w e = inl refl
either_not_accepted Accepted w e = inr e
either_not_accepted Going NotAccepted e = inr refl
either_not_accepted Going Going e = absurd (grind arith)
either_not_accepted Going Accepted e = absurd (grind arith)

pub second_not_accepted : (v : Word) → jointly v NotAccepted ≡ NotAccepted
second_not_accepted Going = refl
second_not_accepted Accepted = refl
second_not_accepted NotAccepted = refl

pub either_going : (v w : Word) → jointly v w ≡ Going → (v ≡ Going) ⊎ (w ≡ Going)
either_going Going w e = inl refl
either_going Accepted w e = inr e
either_going NotAccepted w e = absurd (not_accepted≢going e)

-- a joint word that is not going stays, if each part's does
stays : (v w v' w' : Word) → (jointly v w ≢ Going) → ((v ≢ Going) → v' ≡ v) → ((w ≢ Going) → w' ≡ w) → jointly v' w' ≡ jointly v w
stays NotAccepted w v' w' ne p q = rw (p not_accepted≢going)
stays Accepted w v' w' ne p q = rw (p accepted≢going) (q ne)
stays Going NotAccepted v' w' ne p q = rw (q not_accepted≢going) (second_not_accepted v')
stays Going Going v' w' ne p q = absurd (ne refl)
stays Going Accepted v' w' ne p q = absurd (ne refl)

pub joint_lawful : {m n : ℕ} {G H : Piece → Piece → Type 0} {s t : List Piece → Word}
    → Lawful m G s → Lawful n H t
    → Lawful (max m n) (λ x y. G x y × H x y) (λ xs. jointly (s xs) (t xs))
joint_lawful {m} {n} {G} {H} {s} {t} a b = record {
  limit_from_one = let p = a.limit_from_one in omega arith;
  limit_to_4000 = let p = a.limit_to_4000 in let q = b.limit_to_4000 in omega arith;
  reflexive = λ x. (a.reflexive x, b.reflexive x);
  transitive = λ x y z p q. (a.transitive x y z p.0 q.0, b.transitive x y z p.1 q.1);
  begins_going = rw (a.begins_going, b.begins_going);
  ends_by_limit = λ xs long e. elim (either_going (s xs) (t xs) e) [
    | inl h ↦ a.ends_by_limit xs (omega arith) h
    | inr h ↦ b.ends_by_limit xs (omega arith) h
  ];
  sentence_kept = λ xs ys ne. stays (s xs) (t xs) (s (xs ++ ys)) (t (xs ++ ys)) ne (a.sentence_kept xs ys) (b.sentence_kept xs ys);
  better_accepted = λ xs ys p e.
      let h = both_accepted (s xs) (t xs) e in rw (a.better_accepted xs ys (left p) h.0, b.better_accepted xs ys (right p) h.1);
  worse_not_accepted = λ xs ys p e. elim (either_not_accepted (s ys) (t ys) e) [
    | inl h ↦ rw (a.worse_not_accepted xs ys (left p) h)
    | inr h ↦ rw (b.worse_not_accepted xs ys (right p) h) (second_not_accepted (s xs))
  ];
}
