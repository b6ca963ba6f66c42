-- Bytes that are all the same.
use Rattle.std.proofs.Common.{◌≡◌, ℕ, zero, suc, ◌<◌, true, eqb, List, [], ◌∷◌, length, get_or, arith}
use Rattle.std.proofs.lemmas.Bool.{and_parts, eqb-true}
use Rattle.records.specs.Reading.{all_are}

pub all_at : (b : ℕ) (xs : List ℕ) (i : ℕ) → all_are b xs ≡ true → i < length xs → get_or xs i 0 ≡ b
all_at b [] i a h = absurd (omega arith)
all_at b (x ∷ xs) zero a h = eqb-true x b (and_parts (eqb x b) (all_are b xs) a).0
all_at b (x ∷ xs) (suc i) a h = all_at b xs i (and_parts (eqb x b) (all_are b xs) a).1 (omega arith)
