-- The three words are told apart.
use Rattle.std.specs.Prelude.{◌≡◌, Bool, true, false, cond, ◌≢◌, refl}
use Rattle.std.proofs.Common.{arith}
use Rattle.sampling.specs.declared.word.Word.{Word}
use Rattle.sampling.specs.declared.word.Word.TheVariants.{Going, Accepted, NotAccepted}

pub accepted≢going : Accepted ≡ Going → ⊥
accepted≢going e = grind arith

pub not_accepted≢going : NotAccepted ≡ Going → ⊥
not_accepted≢going e = grind arith

pub not_accepted≢accepted : NotAccepted ≡ Accepted → ⊥
not_accepted≢accepted e = grind arith

-- the word by two tests, read backwards
pub was_accepted : (a b : Bool) → cond a Accepted (cond b NotAccepted Going) ≡ Accepted → a ≡ true
was_accepted true b e = refl
was_accepted false true e = absurd (grind arith)
was_accepted false false e = absurd (grind arith)

pub was_not_accepted : (a b : Bool) → cond a Accepted (cond b NotAccepted Going) ≡ NotAccepted → (a ≡ false) × (b ≡ true)
was_not_accepted true b e = absurd (grind arith)
was_not_accepted false true e = (refl, refl)
was_not_accepted false false e = absurd (grind arith)

pub was_going : (a b : Bool) → cond a Accepted (cond b NotAccepted Going) ≡ Going → (a ≡ false) × (b ≡ false)
was_going true b e = absurd (grind arith)
was_going false true e = absurd (grind arith)
was_going false false e = (refl, refl)

pub going_else : (w : Word) → (w ≢ Accepted) → (w ≢ NotAccepted) → w ≡ Going
going_else Going a n = refl
going_else Accepted a n = absurd (a refl)
going_else NotAccepted a n = absurd (n refl)
