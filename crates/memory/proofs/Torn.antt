-- What a record's writing leaves in its slot, wherever the power fails in it.
use Rattle.std.proofs.Common.{◌≡◌, ℕ, zero, suc, ◌<◌, ◌≤◌, Bool, true, not, ◌&&◌, eqb, ◌⊎◌, List, [], ◌∷◌, length, get_or, set, sym, refl, ap, ◌∙◌, subst, inl, inr, ⊎_elim, arith}
use Rattle.std.proofs.lemmas.List.{get_or-set_other, length-set}
use Rattle.std.proofs.lemmas.Bool.{eqb-false, not-true, and_parts, cases_lt, cases_eq}
use Rattle.sampling.specs.declared.piece.Piece.{Piece}
use Rattle.records.specs.Writing.{image, writes}
use Rattle.records.proofs.RoundTrip.{spread, spread_is}
use Rattle.memory.specs.declared.power.Power.{Power}
use Rattle.memory.specs.declared.power.Power.TheVariants.{On, Failing, Off}
use Rattle.memory.specs.Stores.{after_stores, applied, cut_at, under}

pub whole : (p : Piece) (n : ℕ) (s : List ℕ) → length s ≡ 16 → applied (writes p n) s ≡ image p n
unfolding spread writes
whole p n s e = subst (λ t. applied (writes p n) t ≡ image p n) (spread_is 16 s e) refl

-- all but byte 1 written, and byte 1 torn
last_torn : (p : Piece) (n t : ℕ) (s : List ℕ) → length s ≡ 16 → cut_at 15 t (writes p n) s ≡ set (image p n) 1 t
unfolding spread writes
last_torn p n t s e = subst (λ u. cut_at 15 t (writes p n) u ≡ set (image p n) 1 t) (spread_is 16 s e) refl

-- whether none of the first m writes is to the place j
avoids : ℕ → ℕ → List (ℕ × ℕ) → Bool
avoids j zero ws = true
avoids j (suc m) [] = true
avoids j (suc m) (w ∷ ws) = not (eqb j w.0) && avoids j m ws

untouched : (j t : ℕ) (ws : List (ℕ × ℕ)) (k m : ℕ) (s : List ℕ) → k < m → avoids j m ws ≡ true → get_or (cut_at k t ws s) j 0 ≡ get_or s j 0
unfolding avoids
untouched j t [] zero m s h a = refl
untouched j t [] (suc k) m s h a = refl
untouched j t (w ∷ ws) k zero s h a = absurd (omega arith)
untouched j t (w ∷ ws) zero (suc m) s h a =
    get_or-set_other s w.0 j t 0 (eqb-false _ _ (not-true _ (and_parts (not (eqb j w.0)) (avoids j m ws) a).0))
untouched j t (w ∷ ws) (suc k) (suc m) s h a =
    let b = and_parts (not (eqb j w.0)) (avoids j m ws) a in
    untouched j t ws k m (set s w.0 w.1) (omega arith) b.1 ∙ get_or-set_other s w.0 j w.1 0 (eqb-false _ _ (not-true _ b.0))

late : (k t : ℕ) (ws : List (ℕ × ℕ)) (s : List ℕ) → length ws ≤ k → cut_at k t ws s ≡ applied ws s
late zero t [] s h = refl
late (suc k) t [] s h = refl
late zero t (w ∷ ws) s h = absurd (omega arith)
late (suc k) t (w ∷ ws) s h = late k t ws (set s w.0 w.1) (omega arith)

mark_last : (p : Piece) (n : ℕ) → avoids 1 15 (writes p n) ≡ true
unfolding avoids writes
mark_last p n = refl

sixteen : (p : Piece) (n : ℕ) → length (writes p n) ≡ 16
unfolding writes
sixteen p n = refl

length-applied : (ws : List (ℕ × ℕ)) (s : List ℕ) → length (applied ws s) ≡ length s
length-applied [] s = refl
length-applied (w ∷ ws) s = length-applied ws (set s w.0 w.1) ∙ length-set s w.0 w.1

length-cut : (ws : List (ℕ × ℕ)) (k t : ℕ) (s : List ℕ) → length (cut_at k t ws s) ≡ length s
length-cut [] zero t s = refl
length-cut [] (suc k) t s = refl
length-cut (w ∷ ws) zero t s = length-set s w.0 t
length-cut (w ∷ ws) (suc k) t s = length-cut ws k t (set s w.0 w.1) ∙ length-set s w.0 w.1

pub length-under : (q : Power) (ws : List (ℕ × ℕ)) (s : List ℕ) → length (under q ws s) ≡ length s
length-under On ws s = length-applied ws s
length-under (Failing cut) ws s = length-cut ws cut.stores cut.torn s
length-under Off ws s = refl

pub stays_off : (m : ℕ) → after_stores m Off ≡ Off
unfolding after_stores
stays_off zero = refl
stays_off (suc m) = stays_off m

goes_off : (k t m : ℕ) → k < m → after_stores m (Failing (record { stores = k; torn = t })) ≡ Off
unfolding after_stores
goes_off k t zero h = absurd (omega arith)
goes_off zero t (suc m) h = stays_off m
goes_off (suc k) t (suc m) h = goes_off k t m (omega arith)

pub stays_on : (m : ℕ) → after_stores m On ≡ On
unfolding after_stores
stays_on zero = refl
stays_on (suc m) = stays_on m

-- the slot holds the whole record, or its byte 1 is still not the mark's and the power is off
abbrev pub AllOrNothing : Piece → ℕ → Power → List ℕ → Type 0
AllOrNothing p n q s = (under q (writes p n) s ≡ image p n) ⊎ ((get_or (under q (writes p n) s) 1 0 ≡ 90 → ⊥) × (after_stores 16 q ≡ Off))

module _ (p : Piece) (n : ℕ) (s : List ℕ) (e : length s ≡ 16) (u : get_or s 1 0 ≡ 90 → ⊥) where
  at_cut : (k t : ℕ) → AllOrNothing p n (Failing (record { stores = k; torn = t })) s
  at_cut k t =
      ⊎_elim (λ h. inr (λ q. u (sym (untouched 1 t (writes p n) k 15 s h (mark_last p n)) ∙ q), goes_off k t 16 (omega arith)))
      (λ h. ⊎_elim
      (λ l. let f : k ≡ 15 = omega arith in
      let g : cut_at k t (writes p n) s ≡ set (image p n) 1 t = ap (λ j. cut_at j t (writes p n) s) f ∙ last_torn p n t s e in
      ⊎_elim (λ z. inl (g ∙ ap (set (image p n) 1) z)) (λ z. inr (λ q. z (sym (ap (λ x. get_or x 1 0) g) ∙ q), goes_off k t 16 l)) (cases_eq t 90))
      (λ l. inl (late k t (writes p n) s (rw sixteen l) ∙ whole p n s e))
      (cases_lt k 16))
      (cases_lt k 15)

  pub all_or_nothing : (q : Power) → AllOrNothing p n q s
  all_or_nothing On = inl (whole p n s e)
  all_or_nothing (Failing cut) = at_cut cut.stores cut.torn
  all_or_nothing Off = inr (u, stays_off 16)
