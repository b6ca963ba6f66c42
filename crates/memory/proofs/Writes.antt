-- A record written under any power supply.
use Rattle.std.proofs.Common.{◌≡◌, ℕ, zero, suc, ◌+◌, ◌-◌, ◌<◌, List, [], ◌∷◌, get_or, set, sym, refl, ap, ◌∙◌, arith}
use Rattle.sampling.specs.declared.piece.Piece.{Piece}
use Rattle.records.specs.Writing.{image, place_of_write, writes_from}
use Rattle.memory.specs.declared.power.Power.{Power}
use Rattle.memory.specs.declared.power.Power.TheVariants.{On, Failing, Off}
use Rattle.memory.specs.Stores.{stored, spent, after_stores, applied, cut_at, under}

-- stores one after another
pub run : List (ℕ × ℕ) → Power → List ℕ → List ℕ
run [] q s = s
run (w ∷ ws) q s = run ws (spent q) (stored q s w.0 w.1)

off_is : (ws : List (ℕ × ℕ)) (s : List ℕ) → run ws Off s ≡ s
unfolding run
off_is [] s = refl
off_is (w ∷ ws) s = off_is ws s

failing : ℕ → ℕ → Power
failing k t = Failing (record { stores = k; torn = t })

failing_is : (ws : List (ℕ × ℕ)) (k t : ℕ) (s : List ℕ) → run ws (failing k t) s ≡ cut_at k t ws s
unfolding run failing
failing_is [] zero t s = refl
failing_is [] (suc k) t s = refl
failing_is (w ∷ ws) zero t s = off_is ws (set s w.0 t)
failing_is (w ∷ ws) (suc k) t s = failing_is ws k t (set s w.0 w.1)

on_is : (ws : List (ℕ × ℕ)) (s : List ℕ) → run ws On s ≡ applied ws s
unfolding run
on_is [] s = refl
on_is (w ∷ ws) s = on_is ws (set s w.0 w.1)

pub run_is : (ws : List (ℕ × ℕ)) (q : Power) (s : List ℕ) → run ws q s ≡ under q ws s
unfolding failing
run_is ws On s = on_is ws s
run_is ws (Failing cut) s = failing_is ws cut.stores cut.torn s
run_is ws Off s = off_is ws s

-- one turn of the record writer, at write w
module _ (p : Piece) (n w : ℕ) (h : w < 17) where
  left_over : 17 - w ≡ suc (17 - (w + 1))
  left_over = omega arith

  pub run_more : (q q' : Power) (s s' r : List ℕ) → q' ≡ spent q → s' ≡ stored q s (place_of_write w) (get_or (image p n) (place_of_write w) 0)
      → run (writes_from p n w (17 - w)) q s ≡ r → run (writes_from p n (w + 1) (17 - (w + 1))) q' s' ≡ r
  unfolding run
  run_more q q' s s' r k e inv = rw (k, e) (sym (ap (λ m. run (writes_from p n w m) q s) left_over) ∙ inv)

  pub spent_more : (q q' r : Power) → q' ≡ spent q → after_stores (17 - w) q ≡ r → after_stores (17 - (w + 1)) q' ≡ r
  unfolding after_stores
  spent_more q q' r k inv = rw k (sym (ap (λ m. after_stores m q) left_over) ∙ inv)

-- past the last write
module _ (p : Piece) (n w : ℕ) (h : 16 < w) where
  none_left : 17 - w ≡ 0
  none_left = omega arith

  pub run_end : (q : Power) (s r : List ℕ) → run (writes_from p n w (17 - w)) q s ≡ r → s ≡ r
  unfolding run
  run_end q s r inv = sym (ap (λ m. run (writes_from p n w m) q s) none_left) ∙ inv

  pub spent_end : (q r : Power) → after_stores (17 - w) q ≡ r → q ≡ r
  unfolding after_stores
  spent_end q r inv = sym (ap (λ m. after_stores m q) none_left) ∙ inv
