-- An area cut into slots, and one slot of it replaced.
use Rattle.std.proofs.Common.{◌≡◌, ℕ, zero, suc, ◌+◌, ◌-◌, ◌*◌, ◌/◌, ◌<◌, ◌≤◌, min, List, [], ◌∷◌, ◌++◌, length, get_or, take, drop, set, refl, ap, ◌∙◌, ap₂, append_assoc, arith, take-add}
use borrow.Rule.Slice.PartMut.{put_mid}
use Rattle.std.proofs.lemmas.List.{length-append, length-take, length-drop, length-take-le, drop-drop, take_at, drop_at}
use Rattle.std.specs.Simd.{first_chunks}
use Rattle.memory.specs.Areas.{slot_count, slots, slot_at, with_slot}

take_chunked : (m k : ℕ) (xs : List ℕ) → m ≤ k → take m (first_chunks 16 k xs) ≡ first_chunks 16 m xs
take_chunked zero k xs h = refl
take_chunked (suc m) zero xs h = absurd (omega arith)
take_chunked (suc m) (suc k) xs h = ap (λ ss. take 16 xs ∷ ss) (take_chunked m k (drop 16 xs) (omega arith))

pub length-chunked : (k : ℕ) (xs : List ℕ) → length (first_chunks 16 k xs) ≡ k
length-chunked zero xs = refl
length-chunked (suc k) xs = ap suc (length-chunked k (drop 16 xs))

chunk_at : (k i : ℕ) (xs : List ℕ) → i < k → get_or (first_chunks 16 k xs) i [] ≡ slot_at xs i
chunk_at zero i xs h = absurd (omega arith)
chunk_at (suc k) zero xs h = refl
chunk_at (suc k) (suc i) xs h =
    let e : 16 * suc i ≡ 16 + 16 * i = omega arith in
    rw e (chunk_at k i (drop 16 xs) (omega arith) ∙ ap (take 16) (drop-drop (16 * i) 16 xs))

-- a later slot replaced, past the first
replaced_later : (xs s : List ℕ) (i : ℕ) → with_slot xs (suc i) s ≡ take 16 xs ++ with_slot (drop 16 xs) i s
replaced_later xs s i =
    let e : 16 * suc i ≡ 16 + 16 * i = omega arith in
    let f : 16 + 16 * i + 16 ≡ 16 + (16 * i + 16) = omega arith in
    rw (e, f, take-add 16 (16 * i) xs, ← drop-drop (16 * i + 16) 16 xs) (append_assoc (take 16 xs) (take (16 * i) (drop 16 xs)) (s ++ drop (16 * i + 16) (drop 16 xs)))

chunked_set : (k i : ℕ) (xs s : List ℕ) → i < k → 16 * k ≤ length xs → length s ≡ 16 → first_chunks 16 k (with_slot xs i s) ≡ set (first_chunks 16 k xs) i s
chunked_set zero i xs s h f l = absurd (omega arith)
chunked_set (suc k) zero xs s h f l =
    ap₂ (λ t ss. t ∷ ss) (take_at s (drop 16 xs) 16 l) (ap (first_chunks 16 k) (drop_at s (drop 16 xs) 16 l))
chunked_set (suc k) (suc i) xs s h f l =
    let first : length (take 16 xs) ≡ 16 = length-take-le 16 xs (omega arith) in
    let d = length-drop 16 xs in
    ap (first_chunks 16 (suc k)) (replaced_later xs s i)
    ∙ ap₂ (λ t ss. t ∷ ss)
    (take_at (take 16 xs) (with_slot (drop 16 xs) i s) 16 first)
    (ap (first_chunks 16 k) (drop_at (take 16 xs) (with_slot (drop 16 xs) i s) 16 first) ∙ chunked_set k i (drop 16 xs) s (omega arith) (omega arith) l)

pub cut_short : (area : List ℕ) (n : ℕ) (whole : List (List ℕ)) → whole ≡ first_chunks 16 (length area / 16) area → n ≡ slot_count area → take n whole ≡ slots area
unfolding slots
cut_short area n whole e f = rw (e, f) (take_chunked (slot_count area) (length area / 16) area (omega arith))

pub length_slots : (area : List ℕ) → length (slots area) ≡ slot_count area
unfolding slots
length_slots area = length-chunked (slot_count area) area

pub slots_fit : (area : List ℕ) → 16 * slot_count area ≤ length area
slots_fit area = omega arith

module _ (area : List ℕ) (i : ℕ) (h : i < slot_count area) where
  pub slot_is : get_or (slots area) i [] ≡ slot_at area i
  unfolding slots
  slot_is = chunk_at (slot_count area) i area h

  fits : 16 * i + 16 ≤ length area
  fits = fit i (slot_count area) (length area) h (slots_fit area)
    where
      fit : (i s l : ℕ) → i < s → 16 * s ≤ l → 16 * i + 16 ≤ l
      fit i s l a b = omega arith

  pub slot_length : length (slot_at area i) ≡ 16
  slot_length = let f = fits in simp (length-take, length-drop) (omega arith)

  module _ (s : List ℕ) (l : length s ≡ 16) where
    pub same_length : length (with_slot area i s) ≡ length area
    same_length = let f = fits in simp (length-append, length-take, length-drop) (omega arith)

    -- one slot is another, the others are as they were
    pub slots_set : slots (with_slot area i s) ≡ set (slots area) i s
    unfolding slots
    slots_set = ap (λ n. first_chunks 16 (min (n / 16) 4096) (with_slot area i s)) same_length ∙ chunked_set (slot_count area) i area s h (slots_fit area) l

-- what a writing into the part of a slot leaves
pub part_written : (area : List ℕ) (i end : ℕ) (ys : List ℕ) (F : List ℕ → List ℕ) → end ≡ 16 * i + 16 → ys ≡ F (take (end - 16 * i) (drop (16 * i) area))
    → put_mid (16 * i) (end - 16 * i) area ys ≡ with_slot area i (F (slot_at area i))
part_written area i end ys F h e =
    let k : end - 16 * i ≡ 16 = omega arith in
    let f : ys ≡ F (slot_at area i) = e ∙ ap (λ n. F (take n (drop (16 * i) area))) k in
    rw (k, f) (ap (λ t. take (16 * i) area ++ (F (slot_at area i) ++ t)) (drop-drop 16 (16 * i) area))
