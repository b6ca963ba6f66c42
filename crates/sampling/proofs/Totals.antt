-- The score of a list, piece by piece.
use Rattle.std.proofs.Common.{◌≡◌, ℕ, zero, suc, ◌+◌, ◌*◌, ◌<◌, ◌≤◌, List, [], ◌∷◌, length, get_or, take, ℤ, pos, ◌+ℤ◌, neg_ℤ, ◌≤ℤ◌, sym, ap, ◌∙◌, ap₂, add-one, arith, length-take, w64, SFits}
use lib.IntN.{+ℤ_assoc}
use Rattle.std.proofs.lemmas.Int.{ints}
use Rattle.sampling.specs.declared.piece.Piece.{Piece}
use Rattle.sampling.specs.Sequential.{Scheme, Sound, total}

more_from : (t : Scheme) (xs : List Piece) (i : ℕ) (d : Piece) → i < length xs → total t (take (suc i) xs) ≡ total t (take i xs) +ℤ t.points (get_or xs i d)
more_from t [] i d h = absurd (omega arith)
more_from t (x ∷ xs) zero d h = omega (arith, ints)
more_from t (x ∷ xs) (suc i) d h = ap (λ s. t.points x +ℤ s) (more_from t xs i d (omega arith)) ∙ sym (+ℤ_assoc (t.points x) (total t (take i xs)) (t.points (get_or xs i d)))

pub total_more : (t : Scheme) (xs : List Piece) (i : ℕ) (d : Piece) → i < length xs → total t (take (i + 1) xs) ≡ total t (take i xs) +ℤ t.points (get_or xs i d)
total_more t xs i d h = rw add-one (more_from t xs i d h)

pub record Bounded (n : ℕ) (s : ℤ) : Type 0 where
  pub low : neg_ℤ (pos (2000000000 * n)) ≤ℤ s
  pub high : s ≤ℤ pos (2000000000 * n)

pub total_bounded : (t : Scheme) (good : Piece → Piece → Type 0) → Sound t good → (xs : List Piece) → Bounded (length xs) (total t xs)
total_bounded t good sound [] = record { low = omega (arith, ints); high = omega (arith, ints) }
total_bounded t good sound (x ∷ xs) =
    let r = total_bounded t good sound xs in
    let l = sound.points_low x in
    let h = sound.points_high x in
    let rl = r.low in
    let rh = r.high in
    record { low = omega (arith, ints); high = omega (arith, ints) }

-- one turn of the loop that adds the points up
module _ (t : Scheme) (good : Piece → Piece → Type 0) (sound : Sound t good) (xs : List Piece) (i : ℕ) (x : Piece) (b : ℤ)
    (here : i < length xs) (few : length xs ≤ 4000) (is : x ≡ get_or xs i x) (so_far : b ≡ total t (take i xs)) where
  pub total_step : b +ℤ t.points x ≡ total t (take (i + 1) xs)
  total_step = ap₂ (λ s y. s +ℤ t.points y) so_far is ∙ sym (total_more t xs i x here)

  pub total_fits : SFits w64 (b +ℤ t.points x)
  total_fits =
      let bounds = total_bounded t good sound (take (i + 1) xs) in
      let long : length (take (i + 1) xs) ≤ 4000 = simp length-take (omega arith) in
      let low = bounds.low in
      let high = bounds.high in
      rw total_step (search (arith, ints))
