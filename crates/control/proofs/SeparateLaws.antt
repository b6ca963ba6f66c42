-- The both judge over a lower and an upper leeway judge says what separate control says.
use Rattle.std.proofs.Common.{◌≡◌, ℕ, suc, ◌<◌, ◌≤◌, true, cond, List, [], ◌∷◌, ℤ, pos, ◌+ℤ◌, ◌-ℤ◌, ◌*ℤ◌, neg_ℤ, IfSome, Some, sym, refl, ap, ◌∙◌, ap₂, inl, inr, arith}
use lib.IntN.{*ℤ_comm, suc_ℤ-*ℤ, zero-*ℤ}
use lib.Signed.{le_z}
use Rattle.std.proofs.lemmas.Int.{ints}
use Rattle.std.proofs.lemmas.Bool.{cases_lt, le-leb, lt-leb, lt-ltb, le-ltb}
use Rattle.sampling.specs.declared.piece.Piece.{Piece}
use Rattle.sampling.specs.declared.word.Word.{Word}
use Rattle.sampling.specs.declared.word.Word.TheVariants.{Going, Accepted, NotAccepted}
use Rattle.leeway.specs.declared.plan.LeewayPlan.{LeewayPlan}
use Rattle.leeway.specs.declared.plan.Side.{Side}
use Rattle.leeway.specs.declared.plan.Side.TheVariants.{Lower, Upper}
use Rattle.leeway.specs.Leeway.{leeway_scheme, leeway_line, leeway, acceptance_value, rejection_value, curtailed_value, exact_value, tenth}
use Rattle.sampling.specs.Sequential.{word_at, word_from, word_on, unless_settled}
use Rattle.sampling.specs.Joint.{jointly}
use Rattle.sampling.specs.Table.{where_true}
use Rattle.plans.specs.Rounding.{Within, half_up}
use Rattle.plans.proofs.Products.{within_more, within_pos, within_neg}
use Rattle.leeway.proofs.Bounds.{half_up_within, exact_within}
use Rattle.leeway.proofs.WordLaws.{leeway_at}
use Rattle.control.specs.Separate.{spread, lower_word, upper_word, separately_from, separately, lower_and_upper, paired}
use Rattle.sampling.specs.SequentialLaws.{line_inside, at_limit, both_going, going_last}
use Rattle.sampling.specs.JointLaws.{either_going, second_not_accepted}

-- a ≤ w - y exactly where y ≤ w - a
swapped : (w a y : ℤ) → le_z a (w -ℤ y) ≡ le_z y (w -ℤ a)
swapped w a y = grind (arith, ints)

swapped_back : (w r y : ℤ) → le_z (w -ℤ y) r ≡ le_z (w -ℤ r) y
swapped_back w r y = grind (arith, ints)

spread_more : (lo up : LeewayPlan) (n : ℕ) → spread lo up (suc n) ≡ spread lo up n +ℤ (up.limit -ℤ lo.limit) *ℤ pos 10
unfolding spread
spread_more lo up n =
    *ℤ_comm ((up.limit -ℤ lo.limit) *ℤ pos 10) (pos (suc n))
    ∙ suc_ℤ-*ℤ (pos n) ((up.limit -ℤ lo.limit) *ℤ pos 10)
    ∙ ap (λ z. z +ℤ (up.limit -ℤ lo.limit) *ℤ pos 10) (*ℤ_comm (pos n) ((up.limit -ℤ lo.limit) *ℤ pos 10))

spread_none : (lo up : LeewayPlan) → spread lo up 0 ≡ pos 0
unfolding spread
spread_none lo up = *ℤ_comm ((up.limit -ℤ lo.limit) *ℤ pos 10) (pos 0) ∙ zero-*ℤ ((up.limit -ℤ lo.limit) *ℤ pos 10)

-- the upper limit's word is its judge's
upper_at : (lo up : LeewayPlan) (n : ℕ) (y : ℤ) → 1 ≤ n → n ≤ up.n_t → word_at (leeway_scheme up) n (spread lo up n -ℤ y) ≡ upper_word lo up n y
upper_at lo up n y low high = line_inside (leeway_scheme up) n (spread lo up n -ℤ y) low high ∙ elim (cases_lt n up.n_t) [
  | inl below ↦ rw (lt-ltb n up.n_t below, lt-leb up.n_t n below, swapped (spread lo up n) (acceptance_value up n) y, swapped_back (spread lo up n) (rejection_value up n) y)
  | inr last ↦
      let at : n ≡ up.n_t = omega arith in
      rw (le-ltb n up.n_t last, le-leb up.n_t n last, swapped (spread lo up n) (curtailed_value up) y)
      (ap (λ m. cond (le_z y (spread lo up m -ℤ curtailed_value up)) Accepted NotAccepted) at)
]

regrouped : (l w r : Word) → unless_settled (unless_settled l w) r ≡ unless_settled l (unless_settled w r)
regrouped Going w r = refl
regrouped Accepted w r = refl
regrouped NotAccepted w r = refl

-- once the joint word is settled, what each limit would say next does not matter
settled_jointly : (l u r s : Word) → unless_settled (jointly l u) (jointly (unless_settled l r) (unless_settled u s)) ≡ jointly (unless_settled l r) (unless_settled u s)
settled_jointly NotAccepted u r s = refl
settled_jointly Accepted NotAccepted r s = refl
settled_jointly Accepted Accepted r s = refl
settled_jointly Accepted Going r s = refl
settled_jointly Going NotAccepted r s = sym (second_not_accepted r)
settled_jointly Going Accepted r s = refl
settled_jointly Going Going r s = refl

same_settled : (v w r : Word) → (v ≡ Going → w ≡ r) → unless_settled v w ≡ unless_settled v r
same_settled Going w r h = h refl
same_settled Accepted w r h = refl
same_settled NotAccepted w r h = refl

at_end : (l u : Word) → jointly l u ≡ jointly (unless_settled l Going) (unless_settled u Going)
at_end l u = sym (ap₂ jointly (going_last l) (going_last u))

module _ (lo up : LeewayPlan) (is_lower : lo.side ≡ Lower) (is_upper : up.side ≡ Upper) (same : lo.n_t ≡ up.n_t) where
  -- the score of each judge after one more piece
  lower_score : (x : Piece) (y : ℤ) → y +ℤ leeway lo.side lo.limit x.value *ℤ pos 10 ≡ y +ℤ (x.value -ℤ lo.limit) *ℤ pos 10
  lower_score x y = rw is_lower

  upper_score : (x : Piece) (n : ℕ) (y : ℤ) → (spread lo up n -ℤ y) +ℤ leeway up.side up.limit x.value *ℤ pos 10 ≡ spread lo up (suc n) -ℤ (y +ℤ (x.value -ℤ lo.limit) *ℤ pos 10)
  unfolding spread
  upper_score x n y = rw (is_upper, spread_more lo up n) (omega (arith, ints))

  -- at the curtailment both limits have their word
  not_last : (n : ℕ) (y : ℤ) (l u : Word) → n < lo.n_t
      → jointly (unless_settled l (lower_word lo (suc n) y)) (unless_settled u (upper_word lo up (suc n) y)) ≡ Going → suc n < lo.n_t
  not_last n y l u below going = elim (cases_lt (suc n) lo.n_t) [
    | inl early ↦ early
    | inr last ↦ absurd (elim (either_going (unless_settled l (lower_word lo (suc n) y)) (unless_settled u (upper_word lo up (suc n) y)) going) [
      | inl e ↦ at_limit (leeway_scheme lo) (suc n) y last (leeway_at lo (suc n) y (omega arith) below ∙ (both_going l (lower_word lo (suc n) y) e).1)
      | inr e ↦ at_limit (leeway_scheme up) (suc n) (spread lo up (suc n) -ℤ y) (omega arith) (upper_at lo up (suc n) y (omega arith) (omega arith) ∙ (both_going u (upper_word lo up (suc n) y) e).1)
    ])
  ]

  separate_from : (xs : List Piece) (n : ℕ) (y : ℤ) (l u : Word) → n < lo.n_t → jointly l u ≡ Going
      → separately_from lo up n y l u xs
      ≡ jointly (unless_settled l (word_from (leeway_scheme lo) n y xs)) (unless_settled u (word_from (leeway_scheme up) n (spread lo up n -ℤ y) xs))
  unfolding separately_from word_from
  separate_from [] n y l u below going = at_end l u
  separate_from (x ∷ xs) n y l u below going =
      let y' : ℤ = y +ℤ (x.value -ℤ lo.limit) *ℤ pos 10 in
      let s' : ℤ = spread lo up (suc n) -ℤ y' in
      let l' : Word = unless_settled l (lower_word lo (suc n) y') in
      let u' : Word = unless_settled u (upper_word lo up (suc n) y') in
      let r : Word = word_from (leeway_scheme lo) (suc n) y' xs in
      let s : Word = word_from (leeway_scheme up) (suc n) s' xs in
      same_settled (jointly l' u') (separately_from lo up (suc n) y' l' u' xs) (jointly (unless_settled l' r) (unless_settled u' s))
      (λ going'. separate_from xs (suc n) y' l' u' (not_last n y' l u below going') going')
      ∙ settled_jointly l' u' r s
      ∙ ap₂ jointly (regrouped l (lower_word lo (suc n) y') r) (regrouped u (upper_word lo up (suc n) y') s)
      ∙ sym (rw (lower_score x y, upper_score x n y, leeway_at lo (suc n) y' (omega arith) below, upper_at lo up (suc n) y' (omega arith) (omega arith)) refl)

  pub separate_is_both : (xs : List Piece) → jointly (word_on (leeway_scheme lo) xs) (word_on (leeway_scheme up) xs) ≡ separately lo up xs
  separate_is_both xs =
      sym (separate_from xs 0 (pos 0) Going Going (let h = lo.n_t_low in omega arith) refl
      ∙ ap (λ s. jointly (word_on (leeway_scheme lo) xs) (word_from (leeway_scheme up) 0 s xs)) (rw (spread_none lo up)))

pub sides : (s t : Side) → lower_and_upper s t ≡ true → (s ≡ Lower) × (t ≡ Upper)
sides Lower Upper e = (refl, refl)
sides Lower Lower e = absurd (grind arith)
sides Upper t e = absurd (grind arith)

pub control_is_both : (lo up : LeewayPlan) (xs : List Piece) (w : Word) → paired lo up ≡ true
    → w ≡ jointly (word_on (leeway_scheme lo) xs) (word_on (leeway_scheme up) xs) → Some w ≡ where_true (paired lo up) (separately lo up xs)
control_is_both lo up xs w e is =
    let order : lower_and_upper lo.side up.side ≡ true = grind arith in
    let side = sides lo.side up.side order in
    let last : lo.n_t ≡ up.n_t = grind arith in
    rw e (ap Some (is ∙ separate_is_both lo up side.0 side.1 last xs))

-- the line of a leeway plan is far from overflow
pub line_within : (p : LeewayPlan) (n : ℕ) → n ≤ 4000 → IfSome (leeway_line p n).0 (Within 4000000000000000) × IfSome (leeway_line p n).1 (Within 4000000000000000)
line_within p n few = elim (cases_lt n p.n_t) [
  | inl below ↦ rw (lt-ltb n p.n_t below) (up n (pos p.h_a) few (within_pos 20000 p.h_a p.h_a_high), down)
  | inr last ↦ rw (le-ltb n p.n_t last) (up p.n_t (pos 0) p.n_t_high (within_pos 20000 0 (omega arith)), tt)
]
  where
    rounded : (x : ℤ) → Within 40016000000000 x → Within 4000000000000000 (half_up tenth x)
    rounded x w = within_more 80036294967296 4000000000000000 _ (omega arith) (half_up_within tenth 40016000000000 x (omega arith) w)

    up : (n : ℕ) (h : ℤ) → n ≤ 4000 → Within 20000 h → Within 4000000000000000 (half_up tenth (exact_value p n h))
    up n h few w = rounded (exact_value p n h) (exact_within p n 20000 h few w)

    down : Within 4000000000000000 (rejection_value p n)
    down = within_neg 4000000000000000 _ (rounded _ (within_neg 40016000000000 _
        (exact_within p n 20000 (neg_ℤ (pos p.h_r)) few (within_neg 20000 _ (within_pos 20000 p.h_r p.h_r_high)))))
