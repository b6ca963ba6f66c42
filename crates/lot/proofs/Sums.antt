-- Values added up.
use Rattle.std.proofs.Common.{◌≡◌, ℕ, ◌*◌, ◌≤◌, List, [], ◌∷◌, length, map, take, Option, None, refl, ℤ, pos, ◌+ℤ◌, neg_ℤ, ◌≤ℤ◌, sym, ap, ◌∙◌, subst, arith, length-take, w64, SFits}
use lib.IntN.{+ℤ_assoc}
use denote.Param.Members.{Mut, Called}
use Rattle.std.specs.declared.iter.Map.{Map}
use Rattle.std.specs.Iterator.{Yields, Drains, YieldsFirstBy}
use Rattle.std.specs.Iterator.Adapters.{map_source, map_callee}
use Rattle.std.specs.Iterator.Runs.{EachRunFrom, YieldsRun}
use Rattle.std.specs.List.{fold, take-map}
use Rattle.std.proofs.lemmas.Int.{ints}
use Rattle.std.proofs.lemmas.Iterator.{YieldsList, YieldsList-from_map, maps}
use Rattle.std.proofs.lemmas.Iterator.Consumers.{YieldsList-at, YieldsList-from_first, YieldsList-so_far, YieldsList-end}
use Rattle.std.proofs.lemmas.List.{map-id}
use Rattle.sampling.specs.declared.piece.Piece.{Piece}
use Rattle.lot.specs.Reports.{sum_of}

folded : (a : ℤ) (ps : List Piece) → fold ◌+ℤ◌ a (map (λ p. p.value) ps) ≡ a +ℤ sum_of ps
folded a [] = omega (arith, ints)
folded a (x ∷ xs) = folded (a +ℤ x.value) xs ∙ +ℤ_assoc a x.value (sum_of xs)

record Bounded (n : ℕ) (s : ℤ) : Type 0 where
  low : neg_ℤ (pos (100000000 * n)) ≤ℤ s
  high : s ≤ℤ pos (100000000 * n)

bounded : (ps : List Piece) → Bounded (length ps) (sum_of ps)
bounded [] = record { low = omega (arith, ints); high = omega (arith, ints) }
bounded (x ∷ xs) =
    let r = bounded xs in
    let l = x.low in
    let h = x.high in
    let rl = r.low in
    let rh = r.high in
    record { low = omega (arith, ints); high = omega (arith, ints) }

fits : (ps : List Piece) → length ps ≤ 4096 → SFits w64 (sum_of ps)
fits ps few =
    let b = bounded ps in
    let low = b.low in
    let high = b.high in
    search (arith, ints)

summed : (ps : List Piece) → fold ◌+ℤ◌ (pos 0) (map (λ p. p.value) ps) ≡ sum_of ps
summed ps = folded (pos 0) ps ∙ omega (arith, ints)

-- a chain over the pieces ps that maps each to its value
module _ {S F : Type 0} (rest : S → List Piece) (g : Mut F (Piece × Unit {0}) ℤ) (s : Map S F) {u : S} {f : F} (source : map_source s ≡ u) (callee : map_callee s ≡ f) (called : (x : Piece) (r : ℤ) (q : F) → Called g f (x, tt) r q → (q ≡ f) × (r ≡ x.value)) (ps : List Piece) (begun : rest u ≡ ps) where
  abbrev steps : Map S F → Option ℤ → Map S F → Type 0
  steps = maps (YieldsFirstBy (λ x. x) rest) g

  road : YieldsList steps (λ r. r) s (map (λ p. p.value) ps)
  road = YieldsList-from_map g (λ p. p.value) (YieldsList-at source (YieldsList-from_first (λ x. x) rest ps begun)) callee called

  -- the sum fits, however far the chain has come
  pub sum_fits : length ps ≤ 4096 → EachRunFrom steps s (λ r. SFits w64 (fold ◌+ℤ◌ (pos 0) r.items))
  unfolding YieldsRun
  sum_fits few = λ r _ at.
      let n = length r.items in
      let so_far = sym (map-id r.items) ∙ YieldsList-so_far road r.items r.gave.0.0 (subst (λ t. Yields steps t r.items r.gave.0.0) at r.gave.0.1) ∙ take-map (λ p. p.value) n ps in
      let long : length (take n ps) ≤ 4096 = simp length-take (omega arith) in
      rw (so_far, summed) (fits (take n ps) long)

  pub sum_is : (r : ℤ) → ((xs : List ℤ) × (Unit {0} → Drains steps s xs) × (r ≡ fold ◌+ℤ◌ (pos 0) xs)) → r ≡ sum_of ps
  sum_is r (xs, drains, is) = let d = drains tt in is ∙ ap (fold ◌+ℤ◌ (pos 0)) (sym (map-id xs) ∙ (YieldsList-end road xs d.1.0 d.1.1 None d.0 refl d.1.2).0) ∙ summed ps
