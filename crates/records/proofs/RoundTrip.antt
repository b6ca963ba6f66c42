-- A record reads back as the piece that was written, and nothing else reads as it.
use Rattle.std.proofs.Common.{◌≡◌, ℕ, zero, suc, ◌+◌, ◌*◌, ◌/◌, ◌%◌, ◌^◌, ◌<◌, Bool, true, false, cond, ◌&&◌, eqb, List, [], ◌∷◌, length, get_or, take, drop, ℤ, pos, negsuc, neg_ℤ, ◌≤ℤ◌, Some, None, sym, refl, ap, ◌∙◌, subst, arith, w32, SFits, to_z, of_z, eq-eqb}
use native.Mathlib.Nat.{div-div-eq-div-mul}
use Rattle.std.proofs.lemmas.List.{get_or-take, get_or-drop, length-take, length-drop}
use Rattle.std.proofs.lemmas.Int.{to_z-of_z, of_z-to_z, ints}
use Rattle.std.proofs.lemmas.Bool.{and_parts, eqb-true}
use Rattle.sampling.specs.declared.piece.Finding.{Finding}
use Rattle.sampling.specs.declared.piece.Finding.TheVariants.{Clean, Nonconforming}
use Rattle.sampling.specs.declared.piece.Piece.{Piece}
use Rattle.sampling.specs.declared.rows.Row.{Row}
use Rattle.sampling.specs.Rows.{finding_byte, finding_number}
use Rattle.records.specs.Writing.{image}
use Rattle.records.specs.Reading.{all_are, blank, number_in, value_in, piece_of, formed, record_in}
use Rattle.records.proofs.Bytes.{all_at}
use Rattle.records.proofs.Ranges.{Answers, one_answer, piece_answers}

fits : (z : ℤ) → neg_ℤ (pos 100000000) ≤ℤ z → z ≤ℤ pos 100000000 → SFits w32 z
fits (pos n) l h = record { sfits = omega (arith, ints) }
fits (negsuc n) l h = record { sfits = omega (arith, ints) }

bits_fit : (z : ℤ) → neg_ℤ (pos 100000000) ≤ℤ z → z ≤ℤ pos 100000000 → of_z w32 z < 2 ^ 32
bits_fit (pos n) l h = omega (arith, ints)
bits_fit (negsuc n) l h = omega (arith, ints)

-- a number from its two and its four lowest bytes
two_bytes : (v : ℕ) → v % 256 + v / 256 % 256 * 256 + v / 65536 * 65536 ≡ v
two_bytes v = let e : v / 256 / 256 ≡ v / 65536 = div-div-eq-div-mul v 256 256 in omega arith

four_bytes : (v : ℕ) → v < 2 ^ 32 → v % 256 + v / 256 % 256 * 256 + v / 65536 % 256 * 65536 + v / 16777216 % 256 * 16777216 ≡ v
four_bytes v h =
    let t = two_bytes v in
    let e : v / 65536 / 256 ≡ v / 16777216 = div-div-eq-div-mul v 65536 256 in
    let s : v / 16777216 < 256 = omega arith in
    let m : v / 16777216 % 256 ≡ v / 16777216 = omega arith in
    let u : v / 65536 ≡ v / 65536 % 256 + v / 16777216 * 256 = omega arith in
    omega arith

number_back : (p : Piece) (n : ℕ) → n < 65536 → number_in (image p n) ≡ n
number_back p n h = omega arith

value_back : (p : Piece) (n : ℕ) → value_in (image p n) ≡ p.value
value_back p n = ap (to_z w32) (four_bytes (of_z w32 p.value) (bits_fit _ p.low p.high)) ∙ to_z-of_z w32 p.value (fits _ p.low p.high)

pub piece_back : (p : Piece) → piece_of p.value (finding_byte p.finding) ≡ Some p
piece_back p = one_answer _ _ _ (piece_answers p.value (finding_byte p.finding)) (same p.finding)
  where
    same : (f : Finding) → ◌≡◌ {A = Row} (record { value = p.value; finding = finding_number f }) (record { value = p.value; finding = pos (finding_byte f) })
    same Clean = refl
    same Nonconforming = refl

formed_back : (p : Piece) (k : ℕ) → k < 4096 → formed (image p (k + 1)) k ≡ true
formed_back p k h = let e = eq-eqb (number_in (image p (k + 1))) (k + 1) (number_back p (k + 1) (omega arith)) in cc

-- what was written is read again
pub round_trip : (p : Piece) (k : ℕ) → k < 4096 → record_in (image p (k + 1)) k ≡ Some p
round_trip p k h =
    let a = formed_back p k h in
    let b = value_back p (k + 1) in
    let c = piece_back p in
    cc

-- the byte of a finding, from the finding's number
byte_told : (f : Finding) (b : ℕ) → finding_number f ≡ pos b → finding_byte f ≡ b
byte_told Clean b e = omega (arith, ints)
byte_told Nonconforming b e = omega (arith, ints)

from_parts : (z : ℤ) (b : ℕ) (p : Piece) → piece_of z b ≡ Some p → (p.value ≡ z) × (finding_byte p.finding ≡ b)
from_parts z b p e =
    let a : Answers (record { value = z; finding = pos b }) (Some p) = subst (Answers (record { value = z; finding = pos b })) e (piece_answers z b) in
    (ap (λ (r : Row). r.value) a, byte_told p.finding b (ap (λ (r : Row). r.finding) a))

digits : (a b c d v : ℕ) → a < 256 → b < 256 → c < 256 → d < 256 → v ≡ a + b * 256 + c * 65536 + d * 16777216
    → (v % 256 ≡ a) × (v / 256 % 256 ≡ b) × (v / 65536 % 256 ≡ c) × (v / 16777216 % 256 ≡ d) × (v < 2 ^ 32)
digits a b c d v ha hb hc hd e =
    let q1 : v / 256 ≡ b + c * 256 + d * 65536 = omega arith in
    let q2 : v / 65536 ≡ c + d * 256 = omega arith in
    let q3 : v / 16777216 ≡ d = omega arith in
    (omega arith, omega arith, omega arith, omega arith, omega arith)

two_digits : (a b n : ℕ) → a < 256 → b < 256 → a + b * 256 ≡ n → (n % 256 ≡ a) × (n / 256 % 256 ≡ b)
two_digits a b n ha hb e = (omega arith, omega arith)

-- a list of n elements, by its elements
unfoldable pub spread : ℕ → List ℕ → List ℕ
spread zero s = []
spread (suc n) s = get_or s 0 0 ∷ spread n (drop 1 s)

pub spread_is : (n : ℕ) (s : List ℕ) → length s ≡ n → spread n s ≡ s
unfolding spread
spread_is zero [] e = refl
spread_is zero (x ∷ xs) e = absurd (omega arith)
spread_is (suc n) [] e = absurd (omega arith)
spread_is (suc n) (x ∷ xs) e = ap (λ t. x ∷ t) (spread_is n xs (omega arith))

listed : List ℕ → List ℕ
listed s = get_or s 0 0 ∷ get_or s 1 0 ∷ get_or s 2 0 ∷ get_or s 3 0 ∷ get_or s 4 0 ∷ get_or s 5 0 ∷ get_or s 6 0 ∷ get_or s 7 0 ∷ get_or s 8 0 ∷ get_or s 9 0 ∷ get_or s 10 0 ∷ get_or s 11 0 ∷ get_or s 12 0 ∷ get_or s 13 0 ∷ get_or s 14 0 ∷ get_or s 15 0 ∷ []

listed_is : (s : List ℕ) → length s ≡ 16 → s ≡ listed s
unfolding spread listed
listed_is s e = subst (λ t. t ≡ listed t) (spread_is 16 s e) refl

-- a slot that is a record has the record's form
formed_by : (s : List ℕ) (k : ℕ) (p : Piece) → record_in s k ≡ Some p → (formed s k ≡ true) × (piece_of (value_in s) (get_or s 8 0) ≡ Some p)
formed_by s k p h = by (blank s) (formed s k) h
  where
    by : (b f : Bool) → cond b None (cond f (piece_of (value_in s) (get_or s 8 0)) None) ≡ Some p → (f ≡ true) × (piece_of (value_in s) (get_or s 8 0) ≡ Some p)
    by false true h = (refl, h)
    by true f h = absurd (grind arith)
    by false false h = absurd (grind arith)

-- a slot that is read as a piece holds the bytes of that piece's record, and no others
pub read_image : (s : List ℕ) (k : ℕ) (p : Piece) → length s ≡ 16 → ((i : ℕ) → get_or s i 0 < 256) → record_in s k ≡ Some p → s ≡ image p (k + 1)
unfolding listed
read_image s k p len fit h =
    let a = formed_by s k p h in
    let m1 = and_parts (eqb (get_or s 0 0) 165) (eqb (get_or s 1 0) 90 && (eqb (number_in s) (k + 1) && all_are 0 (take 7 (drop 9 s)))) a.0 in
    let m2 = and_parts (eqb (get_or s 1 0) 90) (eqb (number_in s) (k + 1) && all_are 0 (take 7 (drop 9 s))) m1.1 in
    let m3 = and_parts (eqb (number_in s) (k + 1)) (all_are 0 (take 7 (drop 9 s))) m2.1 in
    let e0 = eqb-true (get_or s 0 0) 165 m1.0 in
    let e1 = eqb-true (get_or s 1 0) 90 m2.0 in
    let n = two_digits (get_or s 2 0) (get_or s 3 0) (k + 1) (fit 2) (fit 3) (eqb-true (number_in s) (k + 1) m3.0) in
    let e2 = n.0 in
    let e3 = n.1 in
    let parts = from_parts (value_in s) (get_or s 8 0) p a.1 in
    let d = digits (get_or s 4 0) (get_or s 5 0) (get_or s 6 0) (get_or s 7 0) (get_or s 4 0 + get_or s 5 0 * 256 + get_or s 6 0 * 65536 + get_or s 7 0 * 16777216) (fit 4) (fit 5) (fit 6) (fit 7) refl in
    let v : of_z w32 p.value ≡ get_or s 4 0 + get_or s 5 0 * 256 + get_or s 6 0 * 65536 + get_or s 7 0 * 16777216 = ap (of_z w32) parts.0 ∙ of_z-to_z w32 _ d.4 in
    let e4 : of_z w32 p.value % 256 ≡ get_or s 4 0 = ap (λ x. x % 256) v ∙ d.0 in
    let e5 : of_z w32 p.value / 256 % 256 ≡ get_or s 5 0 = ap (λ x. x / 256 % 256) v ∙ d.1 in
    let e6 : of_z w32 p.value / 65536 % 256 ≡ get_or s 6 0 = ap (λ x. x / 65536 % 256) v ∙ d.2 in
    let e7 : of_z w32 p.value / 16777216 % 256 ≡ get_or s 7 0 = ap (λ x. x / 16777216 % 256) v ∙ d.3 in
    let z : (j : ℕ) → j < 7 → get_or s (9 + j) 0 ≡ 0 = λ j l. sym (get_or-drop 9 s j 0) ∙ sym (get_or-take 7 (drop 9 s) j 0 l) ∙ all_at 0 (take 7 (drop 9 s)) j m3.1 (simp (length-take, length-drop) (omega arith)) in
    let e8 = parts.1 in
    let e9 : get_or s 9 0 ≡ 0 = z 0 (omega arith) in
    let e10 : get_or s 10 0 ≡ 0 = z 1 (omega arith) in
    let e11 : get_or s 11 0 ≡ 0 = z 2 (omega arith) in
    let e12 : get_or s 12 0 ≡ 0 = z 3 (omega arith) in
    let e13 : get_or s 13 0 ≡ 0 = z 4 (omega arith) in
    let e14 : get_or s 14 0 ≡ 0 = z 5 (omega arith) in
    let e15 : get_or s 15 0 ≡ 0 = z 6 (omega arith) in
    listed_is s len ∙ cc (e0, e1, e2, e3, e4, e5, e6, e7, e8, e9, e10, e11, e12, e13, e14, e15)
