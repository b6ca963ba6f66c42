-- Records among slots.
use Rattle.std.proofs.Common.{◌≡◌, ℕ, zero, suc, ◌+◌, ◌<◌, ◌≤◌, Bool, true, false, cond, ◌&&◌, eqb, List, [], ◌∷◌, ◌++◌, length, get_or, Some, None, Option, refl, ap, ◌∙◌, append-nil, arith, ne_eqb}
use Rattle.std.specs.List.{list_all}
use Rattle.std.proofs.lemmas.Bool.{and_parts, eqb-true}
use Rattle.sampling.specs.declared.piece.Piece.{Piece}
use Rattle.records.specs.Writing.{image}
use Rattle.records.specs.Reading.{all_are, blank, value_in, piece_of, record_in}
use Rattle.records.proofs.RoundTrip.{round_trip}
use Rattle.std.specs.Prelude.{slice_get}
use Rattle.book.specs.Meaning.{piece_at}
use Rattle.memory.specs.Areas.{before_rest, records, all_blank}

rest-append : (o : Option Piece) (k : ℕ) (f g : ℕ → List Piece) (h : ℕ → List Piece) → ((j : ℕ) → g j ≡ f j ++ h (j + length (f j)))
    → before_rest o k g ≡ before_rest o k f ++ h (k + length (before_rest o k f))
rest-append None k f g h e = e k
rest-append (Some p) k f g h e = ap (λ ps. p ∷ ps) (e (k + 1) ∙ ap (λ j. f (k + 1) ++ h j) (omega arith))

pub records-append : (k : ℕ) (xs ys : List (List ℕ)) → records k (xs ++ ys) ≡ records k xs ++ records (k + length (records k xs)) ys
records-append k [] ys = ap (λ j. records j ys) (omega arith)
records-append k (x ∷ xs) ys = rest-append (record_in x k) k (λ j. records j xs) (λ j. records j (xs ++ ys)) (λ j. records j ys) (λ j. records-append j xs ys)

rest_few : (o : Option Piece) (k n : ℕ) (f : ℕ → List Piece) → ((j : ℕ) → length (f j) ≤ n) → length (before_rest o k f) ≤ suc n
rest_few None k n f h = let g = h k in omega arith
rest_few (Some p) k n f h = let g = h (k + 1) in omega arith

-- one slot has at most one record
pub records_few : (k : ℕ) (xs : List (List ℕ)) → length (records k xs) ≤ length xs
records_few k [] = omega arith
records_few k (x ∷ xs) = rest_few (record_in x k) k (length xs) (λ j. records j xs) (λ j. records_few j xs)

-- a slot without the whole mark is no record
pub unmarked : (s : List ℕ) (k : ℕ) → (get_or s 1 0 ≡ 90 → ⊥) → record_in s k ≡ None
unmarked s k u =
    let e = ne_eqb (get_or s 1 0) 90 u in
    rw e (by (blank s) (eqb (get_or s 0 0) 165))
  where
    by : (b m : Bool) → cond b None (cond (m && false) (piece_of (value_in s) (get_or s 8 0)) None) ≡ None
    by true m = refl
    by false true = refl
    by false false = refl

pub blank_unmarked : (s : List ℕ) → blank s ≡ true → get_or s 1 0 ≡ 90 → ⊥
blank_unmarked [] e h = omega arith
blank_unmarked (x ∷ []) e h = omega arith
blank_unmarked (x ∷ y ∷ s) e h =
    let a = (and_parts (eqb y 255) (all_are 255 s) (and_parts (eqb x 255) (eqb y 255 && all_are 255 s) e).1).0 in
    let b = eqb-true y 255 a in
    omega arith

pub all_counted : (ss : List (List ℕ)) → list_all blank ss ≡ all_blank ss
all_counted [] = refl
all_counted (s ∷ ss) = ap (λ b. blank s && b) (all_counted ss)

-- blank slots have no records
pub blanks_empty : (k : ℕ) (ss : List (List ℕ)) → all_blank ss ≡ true → records k ss ≡ []
blanks_empty k [] e = refl
blanks_empty k (s ∷ ss) e =
    let a = and_parts (blank s) (all_blank ss) e in
    ap (λ o. before_rest o k (λ j. records j ss)) (unmarked s k (blank_unmarked s a.0)) ∙ blanks_empty k ss a.1

-- the record of the next piece adds that piece
pub record_adds : (k : ℕ) (p : Piece) (front rest : List (List ℕ)) → k ≡ length (records 0 front) → k < 4096
    → records 0 (front ++ (image p (k + 1) ∷ rest)) ≡ records 0 front ++ (p ∷ records (k + 1) rest)
record_adds k p front rest e h =
    records-append 0 front (image p (k + 1) ∷ rest)
    ∙ ap (λ j. records 0 front ++ records j (image p (k + 1) ∷ rest)) (omega arith)
    ∙ ap (λ o. records 0 front ++ before_rest o k (λ j. records j rest)) (round_trip p k h)

-- a slot that is no record adds nothing
pub spoiled_skipped : (front rest : List (List ℕ)) (t : List ℕ) → (get_or t 1 0 ≡ 90 → ⊥) → all_blank rest ≡ true → records 0 (front ++ (t ∷ rest)) ≡ records 0 front
spoiled_skipped front rest t u b =
    records-append 0 front (t ∷ rest)
    ∙ ap (λ o. records 0 front ++ before_rest o (0 + length (records 0 front)) (λ j. records j rest)) (unmarked t (0 + length (records 0 front)) u)
    ∙ ap (λ ps. records 0 front ++ ps) (blanks_empty (0 + length (records 0 front)) rest b)
    ∙ append-nil (records 0 front)

-- a piece by its place from 0, and from 1
place_from_one : (ps : List Piece) (i : ℕ) → slice_get ps i ≡ piece_at ps (suc i)
place_from_one [] i = refl
place_from_one (p ∷ ps) zero = refl
place_from_one (p ∷ ps) (suc i) = place_from_one ps i

pub piece_got : (ps : List Piece) (i n : ℕ) → n + 1 ≡ i → slice_get ps n ≡ piece_at ps i
piece_got ps zero n e = absurd (omega arith)
piece_got ps (suc i) n e = let f : n ≡ i = omega arith in rw f (place_from_one ps i)
