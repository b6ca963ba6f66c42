-- What writing out the waiting pieces makes of a page book's contents.
use Rattle.std.proofs.Common.{◌≡◌, ℕ, suc, ◌+◌, ◌-◌, ◌<◌, ◌≤◌, Bool, true, false, cond, ◌&&◌, eqb, T, List, [], ◌∷◌, ◌++◌, length, get_or, reverse, take, drop, set, sym, refl, ap, ◌∙◌, subst, ap₂, ⊎_elim, append_assoc, append-nil, arith, length-append, length-drop, take-append-drop, eq-eqb, ne_eqb}
use lib.Seq.{set_at, set-get_or, get_or_at}
use Rattle.std.specs.List.{prefix_len, suffix_len}
use Rattle.std.proofs.lemmas.List.Folds.{prefix_len-append}
use Rattle.std.proofs.lemmas.List.{length-reverse, reverse-append, get_or-drop, length_push, drop_more, length-take-le}
use Rattle.std.proofs.lemmas.Bool.{and_parts, cases_eq}
use Rattle.sampling.specs.declared.piece.Piece.{Piece}
use Rattle.records.specs.Writing.{image, writes}
use Rattle.records.specs.Reading.{blank}
use Rattle.memory.specs.declared.power.Power.{Power}
use Rattle.memory.specs.declared.power.Power.TheVariants.{On, Off}
use Rattle.memory.specs.Areas.{slot_count, slots, slot_at, with_slot, records, all_blank}
use Rattle.memory.specs.Stores.{after_stores, under}
use Rattle.memory.specs.Page.{blank_tail, page_contents, written_out, page_press}
use Rattle.book.specs.Meaning.{pressed}
use Rattle.memory.proofs.Chunks.{length_slots, slot_is, slot_length, same_length, slots_set}
use Rattle.memory.proofs.RecordLists.{records-append, records_few, blank_unmarked, blanks_empty, record_adds, spoiled_skipped}
use Rattle.memory.proofs.Torn.{whole, all_or_nothing, length-under, stays_on, stays_off}

-- the same writing, on slots
out_slots : Power → ℕ → ℕ → List Piece → List (List ℕ) → List (List ℕ)
out_slots q i n [] ss = ss
out_slots q i n (p ∷ ps) ss = out_slots (after_stores 16 q) (i + 1) (n + 1) ps (set ss i (under q (writes p n) (get_or ss i [])))

pub count_same : (area : List ℕ) (i : ℕ) (h : i < slot_count area) (q : Power) (p : Piece) (n : ℕ) → length (with_slot area i (under q (writes p n) (slot_at area i))) ≡ length area
count_same area i h q p n = same_length area i h (under q (writes p n) (slot_at area i)) (length-under q (writes p n) (slot_at area i) ∙ slot_length area i h)

out_is : (ps : List Piece) (q : Power) (i n : ℕ) (area : List ℕ) → i + length ps ≤ slot_count area → slots (written_out q i n ps area) ≡ out_slots q i n ps (slots area)
unfolding out_slots
out_is [] q i n area h = refl
out_is (p ∷ ps) q i n area h =
    let l : i < slot_count area = omega arith in
    let new = under q (writes p n) (slot_at area i) in
    let sized : length new ≡ 16 = length-under q (writes p n) (slot_at area i) ∙ slot_length area i l in
    let same : length (with_slot area i new) ≡ length area = count_same area i l q p n in
    out_is ps (after_stores 16 q) (i + 1) (n + 1) (with_slot area i new) (rw same (omega arith))
    ∙ ap (out_slots (after_stores 16 q) (i + 1) (n + 1) ps) (slots_set area i l new sized ∙ ap (λ s. set (slots area) i (under q (writes p n) s)) (sym (slot_is area i l)))

off_out : (ps : List Piece) (i n : ℕ) (ss : List (List ℕ)) → out_slots Off i n ps ss ≡ ss
unfolding out_slots
off_out [] i n ss = refl
off_out (p ∷ ps) i n ss =
    ap (λ q. out_slots q (i + 1) (n + 1) ps (set ss i (get_or ss i []))) (stays_off 16) ∙ off_out ps (i + 1) (n + 1) (set ss i (get_or ss i [])) ∙ set-get_or ss i []

-- blank slots at the end count
tail_least : (xs bs : List (List ℕ)) → all_blank bs ≡ true → length bs ≤ blank_tail (xs ++ bs)
tail_least [] [] e = omega arith
tail_least [] (b ∷ bs) e = rw e (omega arith)
tail_least (x ∷ xs) bs e = by (all_blank (x ∷ (xs ++ bs))) (tail_least xs bs e) (length-append xs bs)
  where
    by : (a : Bool) → length bs ≤ blank_tail (xs ++ bs) → length (xs ++ bs) ≡ length xs + length bs → length bs ≤ cond a (suc (length (xs ++ bs))) (blank_tail (xs ++ bs))
    by true h l = omega arith
    by false h l = h

not_all : (xs bs : List (List ℕ)) (x : List ℕ) → blank x ≡ false → all_blank (xs ++ (x ∷ bs)) ≡ false
not_all [] bs x e = rw e refl
not_all (y ∷ ys) bs x e = ap (λ b. blank y && b) (not_all ys bs x e) ∙ by (blank y)
  where
    by : (b : Bool) → b && false ≡ false
    by true = refl
    by false = refl

pub tail_all : (bs : List (List ℕ)) → all_blank bs ≡ true → blank_tail bs ≡ length bs
tail_all [] e = refl
tail_all (b ∷ bs) e = rw e refl

-- and no others
tail_exact : (xs bs : List (List ℕ)) (x : List ℕ) → blank x ≡ false → all_blank bs ≡ true → blank_tail (xs ++ (x ∷ bs)) ≡ length bs
tail_exact [] bs x e f = rw (not_all [] bs x e) (tail_all bs f)
tail_exact (y ∷ ys) bs x e f = rw (not_all (y ∷ ys) bs x e) (tail_exact ys bs x e f)

pub tail_few : (ss : List (List ℕ)) → blank_tail ss ≤ length ss
tail_few [] = omega arith
tail_few (s ∷ ss) = by (all_blank (s ∷ ss)) (tail_few ss)
  where
    by : (b : Bool) → blank_tail ss ≤ length ss → cond b (suc (length ss)) (blank_tail ss) ≤ suc (length ss)
    by true h = omega arith
    by false h = omega arith

tail_short : (ss : List (List ℕ)) → all_blank ss ≡ false → blank_tail ss < length ss
tail_short [] e = absurd (subst T e tt)
tail_short (s ∷ ss) e = rw e (let f = tail_few ss in omega arith)

-- the blank slots at the end, counted from the last one back
pub tail_back : (ss : List (List ℕ)) → suffix_len blank ss ≡ blank_tail ss
tail_back [] = refl
tail_back (x ∷ xs) =
    ap (prefix_len blank) (reverse-append (x ∷ []) xs) ∙ prefix_len-append blank (reverse xs) (x ∷ [])
    ∙ ap₂ (λ n l. cond (eqb n l) (l + cond (blank x) 1 0) n) (tail_back xs) (length-reverse xs)
    ∙ by (blank x) (all_blank xs) refl
  where
    by : (a b : Bool) → all_blank xs ≡ b → cond (eqb (blank_tail xs) (length xs)) (length xs + cond a 1 0) (blank_tail xs) ≡ cond (a && b) (suc (length xs)) (blank_tail xs)
    by a true e = rw (tail_all xs e) (ap (λ c. cond c (length xs + cond a 1 0) (length xs)) (eq-eqb (length xs) (length xs) refl) ∙ one a)
      where
        one : (a : Bool) → length xs + cond a 1 0 ≡ cond (a && true) (suc (length xs)) (length xs)
        one true = omega arith
        one false = omega arith
    by a false e = ap (λ c. cond c (length xs + cond a 1 0) (blank_tail xs)) (ne_eqb (blank_tail xs) (length xs) (λ z. let s = tail_short xs e in omega arith)) ∙ none a
      where
        none : (a : Bool) → blank_tail xs ≡ cond (a && false) (suc (length xs)) (blank_tail xs)
        none true = refl
        none false = refl

-- the slots after the last that is not blank
tail_blank : (ss : List (List ℕ)) → all_blank (drop (length ss - blank_tail ss) ss) ≡ true
tail_blank [] = refl
tail_blank (s ∷ ss) = by (all_blank (s ∷ ss)) refl (tail_blank ss) (tail_few ss)
  where
    by : (b : Bool) → all_blank (s ∷ ss) ≡ b → all_blank (drop (length ss - blank_tail ss) ss) ≡ true → blank_tail ss ≤ length ss
        → all_blank (drop (suc (length ss) - cond b (suc (length ss)) (blank_tail ss)) (s ∷ ss)) ≡ true
    by true e h f = let z : suc (length ss) - suc (length ss) ≡ 0 = omega arith in rw z e
    by false e h f = let z : suc (length ss) - blank_tail ss ≡ suc (length ss - blank_tail ss) = omega arith in rw z h

image_written : (p : Piece) (n : ℕ) → blank (image p n) ≡ false
image_written p n = refl

-- blank slots of sixteen bytes
abbrev Sized : List (List ℕ) → Type 0
Sized ss = (i : ℕ) → i < length ss → length (get_or ss i []) ≡ 16

rest_sized : (s : List ℕ) (ss : List (List ℕ)) → Sized (s ∷ ss) → Sized ss
rest_sized s ss h i l = h (suc i) (omega arith)

-- after writing out: a beginning of the pieces is kept, and no more slots are used than there are pieces
record Survived (front tail : List (List ℕ)) (ps : List Piece) (ss : List (List ℕ)) : Type 0 where
  pub number : ℕ
  pub kept_is : records 0 ss ≡ records 0 front ++ take number ps
  pub left : length tail ≤ blank_tail ss + length ps

-- the next record, with the slots after it
module _ (front rest : List (List ℕ)) (b t : List ℕ) where
  next_set : set (front ++ (b ∷ rest)) (length front) t ≡ front ++ (t ∷ rest)
  next_set = set_at front b rest t (length front) refl

  next_get : get_or (front ++ (b ∷ rest)) (length front) [] ≡ b
  next_get = get_or_at front b rest [] (length front) refl

  next_front : front ++ (t ∷ rest) ≡ (front ++ (t ∷ [])) ++ rest
  next_front = sym (append_assoc front (t ∷ []) rest)

module _ (front rest : List (List ℕ)) (b : List ℕ) (p : Piece) (ps : List Piece) (k : ℕ) (q : Power) where
  -- the first piece written, the others to come
  first_out : (q' : Power) (t : List ℕ) → after_stores 16 q ≡ q' → under q (writes p (k + 1)) b ≡ t
      → out_slots q (length front) (k + 1) (p ∷ ps) (front ++ (b ∷ rest)) ≡ out_slots q' (length (front ++ (t ∷ []))) (k + 1 + 1) ps ((front ++ (t ∷ [])) ++ rest)
  unfolding out_slots
  first_out q' t e f =
      rw (e, next_get front rest b b, f, next_set front rest b t, next_front front rest b t, length_push front t) refl

kept_front : (front tail : List (List ℕ)) → all_blank tail ≡ true → records 0 (front ++ tail) ≡ records 0 front
kept_front front tail e =
    records-append 0 front tail ∙ ap (λ ps. records 0 front ++ ps) (blanks_empty (0 + length (records 0 front)) tail e) ∙ append-nil (records 0 front)

one_more : (front : List (List ℕ)) (p : Piece) (k : ℕ) → k ≡ length (records 0 front) → k < 4096 → records 0 (front ++ (image p (k + 1) ∷ [])) ≡ records 0 front ++ (p ∷ [])
one_more front p k e h = record_adds k p front [] e h

-- under any power supply
survives : (ps : List Piece) (q : Power) (front tail : List (List ℕ)) (k : ℕ) → all_blank tail ≡ true → Sized tail → length ps ≤ length tail → k ≡ length (records 0 front) → k + length ps ≤ 4096
    → Survived front tail ps (out_slots q (length front) (k + 1) ps (front ++ tail))
unfolding out_slots
survives [] q front tail k b z f e h =
    record { number = 0; kept_is = kept_front front tail b ∙ sym (append-nil (records 0 front)); left = let l = tail_least front tail b in omega arith }
survives (p ∷ ps) q front [] k b z f e h = absurd (omega arith)
survives (p ∷ ps) q front (s ∷ rest) k b z f e h =
    let bs = and_parts (blank s) (all_blank rest) b in
    ⊎_elim
    (λ w. whole_case w (survives ps (after_stores 16 q) (front ++ (image p (k + 1) ∷ [])) rest (k + 1) bs.1 (rest_sized s rest z) (omega arith) (counted w) (omega arith)))
    (λ u. torn_case u.0 u.1 bs.1)
    (all_or_nothing p (k + 1) s (z 0 (omega arith)) (blank_unmarked s bs.0) q)
  where
    counted : under q (writes p (k + 1)) s ≡ image p (k + 1) → k + 1 ≡ length (records 0 (front ++ (image p (k + 1) ∷ [])))
    counted w = sym (ap length (one_more front p k e (omega arith)) ∙ length_push (records 0 front) p ∙ ap (λ n. n + 1) (sym e))

    whole_case : under q (writes p (k + 1)) s ≡ image p (k + 1)
        → Survived (front ++ (image p (k + 1) ∷ [])) rest ps (out_slots (after_stores 16 q) (length (front ++ (image p (k + 1) ∷ []))) (k + 1 + 1) ps ((front ++ (image p (k + 1) ∷ [])) ++ rest))
        → Survived front (s ∷ rest) (p ∷ ps) (out_slots q (length front) (k + 1) (p ∷ ps) (front ++ (s ∷ rest)))
    whole_case w r =
        let o = first_out front rest s p ps k q (after_stores 16 q) (image p (k + 1)) refl w in
        record {
          number = suc r.number;
          kept_is = ap (records 0) o ∙ r.kept_is ∙ ap (λ xs. xs ++ take r.number ps) (one_more front p k e (omega arith)) ∙ append_assoc (records 0 front) (p ∷ []) (take r.number ps);
          left = rw o (let l = r.left in omega arith);
        }

    torn_case : (get_or (under q (writes p (k + 1)) s) 1 0 ≡ 90 → ⊥) → after_stores 16 q ≡ Off → all_blank rest ≡ true
        → Survived front (s ∷ rest) (p ∷ ps) (out_slots q (length front) (k + 1) (p ∷ ps) (front ++ (s ∷ rest)))
    torn_case u off c =
        let t = under q (writes p (k + 1)) s in
        let o = first_out front rest s p ps k q Off t off refl ∙ off_out ps (length (front ++ (t ∷ []))) (k + 1 + 1) ((front ++ (t ∷ [])) ++ rest) in
        let l = tail_least (front ++ (t ∷ [])) rest c in
        record {
          number = 0;
          kept_is = ap (records 0) (o ∙ sym (next_front front rest t t)) ∙ spoiled_skipped front rest t u c ∙ sym (append-nil (records 0 front));
          left = rw o (omega arith);
        }

-- with the power on
all_written : (ps : List Piece) (front tail : List (List ℕ)) (k : ℕ) → all_blank tail ≡ true → Sized tail → length ps ≤ length tail → k ≡ length (records 0 front) → k + length ps ≤ 4096 → blank_tail (front ++ tail) ≡ length tail
    → (records 0 (out_slots On (length front) (k + 1) ps (front ++ tail)) ≡ records 0 front ++ ps) × (blank_tail (out_slots On (length front) (k + 1) ps (front ++ tail)) + length ps ≡ length tail)
unfolding out_slots
all_written [] front tail k b z f e h c = (kept_front front tail b ∙ sym (append-nil (records 0 front)), omega arith)
all_written (p ∷ ps) front [] k b z f e h c = absurd (omega arith)
all_written (p ∷ ps) front (s ∷ rest) k b z f e h c =
    let bs = and_parts (blank s) (all_blank rest) b in
    let t = image p (k + 1) in
    let w : under On (writes p (k + 1)) s ≡ t = whole p (k + 1) s (z 0 (omega arith)) in
    let o = first_out front rest s p ps k On On t (stays_on 16) w in
    let m = one_more front p k e (omega arith) in
    let r = all_written ps (front ++ (t ∷ [])) rest (k + 1) bs.1 (rest_sized s rest z) (omega arith) (sym (ap length m ∙ length_push (records 0 front) p ∙ ap (λ n. n + 1) (sym e))) (omega arith) (ap blank_tail (sym (next_front front rest t t)) ∙ tail_exact front rest t (image_written p (k + 1)) bs.1) in
    (ap (records 0) o ∙ r.0 ∙ ap (λ xs. xs ++ ps) m ∙ append_assoc (records 0 front) (p ∷ []) ps, rw o (let l = r.1 in omega arith))

-- the area's used slots and its blank tail
module _ (area : List ℕ) where
  used : ℕ
  used = slot_count area - blank_tail (slots area)

  front : List (List ℕ)
  front = take used (slots area)

  tail : List (List ℕ)
  tail = drop used (slots area)

  few_blank : blank_tail (slots area) ≤ slot_count area
  few_blank = rw (← length_slots area) (tail_few (slots area))

  apart : slots area ≡ front ++ tail
  unfolding front tail
  apart = sym (take-append-drop used (slots area))

  front_length : length front ≡ used
  unfolding front used
  front_length = length-take-le used (slots area) (rw length_slots (omega arith))

  tail_length : length tail ≡ blank_tail (slots area)
  unfolding tail used
  tail_length = length-drop used (slots area) ∙ ap (λ n. n - used) (length_slots area) ∙ (let f = few_blank in omega arith)

  tail_is_blank : all_blank tail ≡ true
  unfolding tail used
  tail_is_blank = ap (λ n. all_blank (drop (n - blank_tail (slots area)) (slots area))) (sym (length_slots area)) ∙ tail_blank (slots area)

  tail_sized : Sized tail
  unfolding tail used
  tail_sized i h =
      let l = tail_length in
      let f = few_blank in
      let g : used + i < slot_count area = omega arith in
      ap length (get_or-drop used (slots area) i [] ∙ slot_is area (used + i) g) ∙ slot_length area (used + i) g

  kept_is_front : records 0 (slots area) ≡ records 0 front
  kept_is_front = ap (records 0) apart ∙ kept_front front tail tail_is_blank

  -- kept pieces and blank slots together
  pub page_few : length (records 0 (slots area)) + blank_tail (slots area) ≤ 4096
  unfolding used
  page_few =
      let a = records_few 0 front in
      let b = front_length in
      let c = few_blank in
      rw kept_is_front (omega arith)

  module _ (ws : List Piece) (fit : length ws ≤ blank_tail (slots area)) where
    pub press_numbers : (slot_count area - blank_tail (slots area) + length ws ≤ slot_count area) × (length (records 0 (slots area)) + length ws ≤ 4096)
    unfolding used
    press_numbers = let a = few_blank in let b = page_few in (omega arith, omega arith)

    out : (q : Power) → slots (page_press q ws area) ≡ out_slots q (length front) (length (records 0 front) + 1) ws (front ++ tail)
    unfolding used
    out q =
        out_is ws q used (length (records 0 (slots area)) + 1) area press_numbers.0
        ∙ ap₂ (λ i n. out_slots q i (n + 1) ws (slots area)) (sym front_length) (ap length kept_is_front)
        ∙ ap (out_slots q (length front) (length (records 0 front) + 1) ws) apart

    fits_tail : length ws ≤ length tail
    fits_tail = rw tail_length fit

    few : length (records 0 front) + length ws ≤ 4096
    few = rw (← kept_is_front) press_numbers.1

    pub press_cut : (q : Power) → (n : ℕ) × (records 0 (slots (page_press q ws area)) ≡ records 0 (slots area) ++ take n ws) × (blank_tail (slots area) ≤ blank_tail (slots (page_press q ws area)) + length ws)
    press_cut q =
        let r = survives ws q front tail (length (records 0 front)) tail_is_blank tail_sized fits_tail refl few in
        (r.number, ap (records 0) (out q) ∙ r.kept_is ∙ ap (λ ps. ps ++ take r.number ws) (sym kept_is_front), rw (out q, ← tail_length) r.left)

    pub press_on : page_contents (page_press On ws area) [] ≡ pressed (page_contents area ws)
    press_on =
        let r = all_written ws front tail (length (records 0 front)) tail_is_blank tail_sized fits_tail refl few (sym (ap blank_tail apart) ∙ sym tail_length) in
        ap₂ (λ ps n. record { kept = ps; waiting = []; places = n })
        (ap (records 0) (out On) ∙ r.0 ∙ ap (λ ps. ps ++ ws) (sym kept_is_front))
        (ap (λ ss. blank_tail ss - 0) (out On) ∙ (let a = r.1 in let b = tail_length in omega arith))

-- one turn of writing out
pub out_turn : (q q' : Power) (i n k : ℕ) (ps : List Piece) (p : Piece) (area area' r : List ℕ) → k < length ps → p ≡ get_or ps k p → q' ≡ after_stores 16 q
    → area' ≡ with_slot area (i + k) (under q (writes p (n + k)) (slot_at area (i + k)))
    → written_out q (i + k) (n + k) (drop k ps) area ≡ r → written_out q' (i + (k + 1)) (n + (k + 1)) (drop (k + 1) ps) area' ≡ r
out_turn q q' i n k ps p area area' r h e f g inv =
    let a : i + (k + 1) ≡ i + k + 1 = omega arith in
    let b : n + (k + 1) ≡ n + k + 1 = omega arith in
    rw (a, b, f, g) (sym (ap (λ xs. written_out q (i + k) (n + k) xs area) (drop_more ps k p h ∙ ap (λ x. x ∷ drop (k + 1) ps) (sym e))) ∙ inv)

pub turn_fits : (old area : List ℕ) (i k l : ℕ) → k < l → i + l ≤ slot_count old → length area ≡ length old → i + k < slot_count area
turn_fits old area i k l h f g = rw g (omega arith)

-- a blank slot for one more after a full page was written out
pub place_left : (area new : List ℕ) (ws left : List Piece) (q : Power) → length ws ≤ blank_tail (slots area) → (blank_tail (slots area) - length ws ≡ 0 → ⊥)
    → new ≡ cond (eqb (length ws) 4) (page_press q ws area) area → left ≡ cond (eqb (length ws) 4) [] ws
    → length left + 1 ≤ blank_tail (slots new)
place_left area new ws left q b n e f =
    rw (e, f)
    (⊎_elim
    (λ h. rw (eq-eqb (length ws) 4 h) (let r = (press_cut area ws b q).2 in after _ _ _ h n r))
    (λ h. rw (ne_eqb (length ws) 4 h) (before _ _ n))
    (cases_eq (length ws) 4))
  where
    after : (l t t' : ℕ) → l ≡ 4 → (t - l ≡ 0 → ⊥) → t ≤ t' + l → 0 + 1 ≤ t'
    after l t t' h n r = omega arith

    before : (l t : ℕ) → (t - l ≡ 0 → ⊥) → l + 1 ≤ t
    before l t n = omega arith
