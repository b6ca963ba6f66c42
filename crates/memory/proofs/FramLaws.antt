-- What a put into the end slot makes of a FRAM book's contents.
use Rattle.std.proofs.Common.{◌≡◌, ℕ, suc, ◌+◌, ◌-◌, ◌<◌, ◌≤◌, Bool, true, false, cond, eqb, List, [], ◌∷◌, ◌++◌, length, get_or, take, drop, set, Ok, Err, Result, sym, refl, ap, ◌∙◌, subst, ap₂, ⊎_elim, append-nil, arith, eq-eqb, ne_eqb}
use lib.Seq.{set_at, drop-append-add}
use Rattle.std.proofs.lemmas.List.{length-set, get_or_at, length_push}
use Rattle.std.specs.List.{prefix_len}
use Rattle.std.proofs.lemmas.Bool.{and_parts, eqb-false, cases_eq}
use Rattle.sampling.specs.declared.piece.Piece.{Piece}
use Rattle.records.specs.Writing.{image, writes}
use Rattle.records.specs.Reading.{blank}
use Rattle.book.specs.Meaning.{Contents, Added, Put, IsCutOff}
use Rattle.book.specs.declared.refusal.PutRefusal.{PutRefusal}
use Rattle.book.specs.declared.refusal.PutRefusal.TheVariants.{NoPlaces}
use Rattle.memory.specs.declared.power.Power.{Power}
use Rattle.memory.specs.declared.power.Power.TheVariants.{On}
use Rattle.memory.specs.Areas.{slot_count, slots, slot_at, with_slot, records, all_blank}
use Rattle.memory.specs.Stores.{under}
use Rattle.memory.specs.Fram.{marked, before_end, end_of, places_from_end, fram_held, fram_contents, fram_put}
use Rattle.memory.proofs.Chunks.{length_slots, slot_is, slot_length, slots_set}
use Rattle.memory.proofs.RecordLists.{blank_unmarked, records_few, record_adds}
use Rattle.memory.proofs.Torn.{whole, all_or_nothing, length-under}

-- the end slot and the slots after it
abbrev pub Ended : List (List ℕ) → Type 0
Ended ss = (s : List ℕ) × (rest : List (List ℕ)) × (ss ≡ before_end ss ++ (s ∷ rest)) × (marked s ≡ false)

pub ended : (ss : List (List ℕ)) → end_of ss < length ss → Ended ss
ended [] h = absurd (omega arith)
ended (x ∷ xs) h = by (marked x) refl (ended xs)
  where
    by : (b : Bool) → marked x ≡ b → (end_of xs < length xs → Ended xs) → Ended (x ∷ xs)
    by true e go =
        let f : before_end (x ∷ xs) ≡ x ∷ before_end xs = ap (λ b. cond b (x ∷ before_end xs) []) e in
        let l = ap length f in
        let r = go (omega arith) in
        (r.0, r.1, ap (λ ys. x ∷ ys) r.2 ∙ ap (λ zs. zs ++ (r.0 ∷ r.1)) (sym f), r.3)
    by false e go =
        let f : before_end (x ∷ xs) ≡ [] = ap (λ b. cond b (x ∷ before_end xs) []) e in
        (x, xs, ap (λ zs. zs ++ (x ∷ xs)) (sym f), e)

-- only marked slots stand before the end
pub end_past : (ss ys : List (List ℕ)) → before_end (before_end ss ++ ys) ≡ before_end ss ++ before_end ys
end_past [] ys = refl
end_past (x ∷ xs) ys = by (marked x) refl (end_past xs ys)
  where
    by : (b : Bool) → marked x ≡ b → before_end (before_end xs ++ ys) ≡ before_end xs ++ before_end ys → before_end (cond (marked x) (x ∷ before_end xs) [] ++ ys) ≡ cond (marked x) (x ∷ before_end xs) [] ++ before_end ys
    by true e past = rw e (ap (λ b. cond b (x ∷ before_end (before_end xs ++ ys)) []) e ∙ ap (λ zs. x ∷ zs) past)
    by false e past = rw e refl

-- blank slots are not marked
blanks_end : (ss : List (List ℕ)) → all_blank ss ≡ true → before_end ss ≡ []
blanks_end [] e = refl
blanks_end (s ∷ ss) e =
    ap (λ b. cond b (s ∷ before_end ss) []) (ne_eqb (get_or s 1 0) 90 (blank_unmarked s (and_parts (blank s) (all_blank ss) e).0))

rest_blank : (ss : List (List ℕ)) → all_blank ss ≡ true → all_blank (drop 1 ss) ≡ true
rest_blank [] e = refl
rest_blank (s ∷ ss) e = (and_parts (blank s) (all_blank ss) e).1

-- the slots after the end slot, which is now t
module _ (ss rest : List (List ℕ)) (s t : List ℕ) (split : ss ≡ before_end ss ++ (s ∷ rest)) where
  placed : set ss (end_of ss) t ≡ before_end ss ++ (t ∷ rest)
  placed = ap (λ xs. set xs (end_of ss) t) split ∙ set_at (before_end ss) s rest t (end_of ss) refl

  after_it : (x : List ℕ) → drop (end_of ss + 1) (before_end ss ++ (x ∷ rest)) ≡ rest
  after_it x = drop-append-add (before_end ss) (x ∷ rest) 1

  after_old : drop (end_of ss + 1) ss ≡ rest
  after_old = ap (drop (end_of ss + 1)) split ∙ after_it s

  -- t is not marked: the book has what it had
  module _ (u : marked t ≡ false) where
    same_front : before_end (set ss (end_of ss) t) ≡ before_end ss
    same_front = ap before_end placed ∙ end_past ss (t ∷ rest) ∙ ap (λ b. before_end ss ++ cond b (t ∷ before_end rest) []) u ∙ append-nil (before_end ss)

    same_places : places_from_end (set ss (end_of ss) t) ≡ places_from_end ss
    same_places =
        ap (λ zs. cond (all_blank (drop (length zs + 1) (set ss (end_of ss) t))) (length (set ss (end_of ss) t) - length zs) 0) same_front
        ∙ ap₂ (λ zs n. cond (all_blank zs) (n - end_of ss) 0) (ap (drop (end_of ss + 1)) placed ∙ after_it t ∙ sym after_old) (length-set ss (end_of ss) t)

    pub torn_same : fram_held (set ss (end_of ss) t) ≡ fram_held ss
    torn_same = ap₂ (λ zs n. record { kept = records 0 zs; waiting = []; places = n }) same_front same_places

  -- t is the record of the next piece
  module _ (p : Piece) (k : ℕ) (is : t ≡ image p (k + 1)) (e : k ≡ length (records 0 (before_end ss))) (few : k < 4096) (b : all_blank rest ≡ true) where
    more_front : before_end (set ss (end_of ss) t) ≡ before_end ss ++ (t ∷ [])
    more_front =
        ap before_end placed ∙ end_past ss (t ∷ rest)
        ∙ ap (λ m. before_end ss ++ cond m (t ∷ before_end rest) []) (ap marked is)
        ∙ ap (λ zs. before_end ss ++ (t ∷ zs)) (blanks_end rest b)

    pub one_kept : records 0 (before_end (set ss (end_of ss) t)) ≡ records 0 (before_end ss) ++ (p ∷ [])
    one_kept = ap (records 0) (more_front ∙ ap (λ x. before_end ss ++ (x ∷ [])) is) ∙ record_adds k p (before_end ss) [] e few

    end_moves : end_of (set ss (end_of ss) t) ≡ end_of ss + 1
    end_moves = ap length more_front ∙ length_push (before_end ss) t

    still_blank : all_blank (drop (end_of ss + 1 + 1) (set ss (end_of ss) t)) ≡ true
    still_blank =
        ap all_blank (ap (drop (end_of ss + 1 + 1)) placed ∙ ap (λ n. drop n (before_end ss ++ (t ∷ rest))) (omega arith) ∙ drop-append-add (before_end ss) (t ∷ rest) 2)
        ∙ rest_blank rest b

    old_places : places_from_end ss ≡ length ss - end_of ss
    old_places = ap (λ zs. cond (all_blank zs) (length ss - end_of ss) 0) after_old ∙ ap (λ m. cond m (length ss - end_of ss) 0) b

    new_places : places_from_end (set ss (end_of ss) t) ≡ length ss - (end_of ss + 1)
    new_places =
        ap (λ n. cond (all_blank (drop (n + 1) (set ss (end_of ss) t))) (length (set ss (end_of ss) t) - n) 0) end_moves
        ∙ ap (λ m. cond m (length (set ss (end_of ss) t) - (end_of ss + 1)) 0) still_blank
        ∙ ap (λ n. n - (end_of ss + 1)) (length-set ss (end_of ss) t)

    pub whole_adds : end_of ss < length ss → Added (fram_held ss) p (fram_held (set ss (end_of ss) t))
    whole_adds h =
        let n = new_places in
        let o = old_places in
        record {
          joined = append-nil _ ∙ one_kept ∙ ap (λ ps. ps ++ (p ∷ [])) (sym (append-nil (records 0 (before_end ss))));
          still_kept = (p ∷ [], one_kept);
          fewer = omega arith;
        }

has_place : (ss : List (List ℕ)) → (places_from_end ss ≡ 0 → ⊥) → (end_of ss < length ss) × (all_blank (drop (end_of ss + 1) ss) ≡ true)
has_place ss n = by (all_blank (drop (end_of ss + 1) ss)) n
  where
    by : (b : Bool) → (cond b (length ss - end_of ss) 0 ≡ 0 → ⊥) → (end_of ss < length ss) × (b ≡ true)
    by true n = (pos (length ss) (end_of ss) n, refl)
      where
        pos : (l e : ℕ) → (l - e ≡ 0 → ⊥) → e < l
        pos l e n = omega arith
    by false n = absurd (n refl)

pub end_few : (ss : List (List ℕ)) → end_of ss ≤ length ss
end_few [] = omega arith
end_few (x ∷ xs) = by (marked x) (end_few xs)
  where
    by : (b : Bool) → end_of xs ≤ length xs → length (cond b (x ∷ before_end xs) []) ≤ suc (length xs)
    by true h = omega arith
    by false h = omega arith

-- the slots before the end, counted
pub end_counted : (ss : List (List ℕ)) → prefix_len marked ss ≡ end_of ss
end_counted [] = refl
end_counted (x ∷ xs) = by (marked x) (end_counted xs)
  where
    by : (b : Bool) → prefix_len marked xs ≡ end_of xs → cond b (1 + prefix_len marked xs) 0 ≡ length (cond b (x ∷ before_end xs) [])
    by true h = omega arith
    by false h = refl

-- the slots before the end are the first ones
pub front_is : (ss : List (List ℕ)) → take (end_of ss) ss ≡ before_end ss
front_is [] = refl
front_is (x ∷ xs) = by (marked x) (front_is xs)
  where
    by : (b : Bool) → take (end_of xs) xs ≡ before_end xs → take (length (cond b (x ∷ before_end xs) [])) (x ∷ xs) ≡ cond b (x ∷ before_end xs) []
    by true h = ap (λ zs. x ∷ zs) h
    by false h = refl

few_slots : (area : List ℕ) → length (slots area) ≤ 4096
few_slots area = let l = length_slots area in rw l (omega arith)

-- kept pieces and places together
pub fram_few : (area : List ℕ) → length (records 0 (before_end (slots area)) ++ []) + places_from_end (slots area) ≤ 4096
fram_few area =
    let a = append-nil (records 0 (before_end (slots area))) in
    rw a (by (all_blank (drop (end_of (slots area) + 1) (slots area))) _ _ _ (records_few 0 (before_end (slots area))) (end_few (slots area)) (few_slots area))
  where
    by : (b : Bool) (k e l : ℕ) → k ≤ e → e ≤ l → l ≤ 4096 → k + cond b (l - e) 0 ≤ 4096
    by true k e l f g h = omega arith
    by false k e l f g h = omega arith

pub fram_numbers : (area : List ℕ) → (places_from_end (slots area) ≡ 0 → ⊥) → (end_of (slots area) < slot_count area) × (length (records 0 (before_end (slots area))) < 4096)
fram_numbers area n =
    let h = (has_place (slots area) n).0 in
    (rw (← length_slots area) h, below _ _ _ (records_few 0 (before_end (slots area))) h (few_slots area))
  where
    below : (k e l : ℕ) → k ≤ e → e < l → l ≤ 4096 → k < 4096
    below k e l f g h = omega arith

module _ (area : List ℕ) (p : Piece) where
  ss : List (List ℕ)
  ss = slots area

  kept_count : ℕ
  kept_count = length (records 0 (before_end (slots area)))

  new : Power → List ℕ
  new q = under q (writes p (kept_count + 1)) (slot_at area (end_of (slots area)))

  module _ (n : places_from_end (slots area) ≡ 0 → ⊥) where
    written : (q : Power) → slots (fram_put q p area) ≡ set (slots area) (end_of (slots area)) (new q)
    unfolding kept_count new
    written q =
        let h = (fram_numbers area n).0 in
        ap slots (ap (λ b. cond b area (with_slot area (end_of (slots area)) (new q))) (ne_eqb (places_from_end (slots area)) 0 n))
        ∙ slots_set area (end_of (slots area)) h (new q) (length-under q (writes p (kept_count + 1)) (slot_at area (end_of (slots area))) ∙ slot_length area (end_of (slots area)) h)

    split : Ended (slots area)
    split = ended (slots area) (has_place (slots area) n).0

    old_slot : slot_at area (end_of (slots area)) ≡ split.0
    old_slot =
        sym (slot_is area (end_of (slots area)) (fram_numbers area n).0)
        ∙ ap (λ xs. get_or xs (end_of (slots area)) []) split.2
        ∙ get_or_at (before_end (slots area)) split.0 split.1 [] (end_of (slots area)) refl

    not_marked : get_or (slot_at area (end_of (slots area))) 1 0 ≡ 90 → ⊥
    not_marked = eqb-false _ _ (ap marked old_slot ∙ split.3)

    adds : (q : Power) → new q ≡ image p (kept_count + 1) → Added (fram_contents area) p (fram_contents (fram_put q p area))
    unfolding kept_count
    adds q e =
        let h = has_place (slots area) n in
        rw (written q)
        (whole_adds (slots area) split.1 split.0 (new q) split.2 p kept_count e refl (fram_numbers area n).1
        (sym (ap all_blank (after_old (slots area) split.1 split.0 (new q) split.2)) ∙ h.1) h.0)

    nothing_added : (q : Power) → (get_or (new q) 1 0 ≡ 90 → ⊥) → fram_contents (fram_put q p area) ≡ fram_contents area
    nothing_added q u = ap fram_held (written q) ∙ torn_same (slots area) split.1 split.0 (new q) split.2 (ne_eqb _ _ u)

    pub fram_adds : Added (fram_contents area) p (fram_contents (fram_put On p area))
    unfolding new
    fram_adds = adds On (whole p (kept_count + 1) (slot_at area (end_of (slots area))) (slot_length area (end_of (slots area)) (fram_numbers area n).0))

    cut_in_put : (q : Power) → IsCutOff (fram_contents area) (p ∷ []) (fram_contents (fram_put q p area))
    unfolding new
    cut_in_put q =
        ⊎_elim (λ e. record { survived = 1; kept_is = sym (append-nil _) ∙ (adds q e).joined ∙ ap (λ ps. ps ++ (p ∷ [])) (append-nil _); none_waits = refl })
        (λ u. record { survived = 0; kept_is = ap (λ (c : Contents). c.kept) (nothing_added q u.0) ∙ sym (append-nil _); none_waits = refl })
        (all_or_nothing p (kept_count + 1) (slot_at area (end_of (slots area))) (slot_length area (end_of (slots area)) (fram_numbers area n).0) not_marked q)

  pub fram_cut : (q : Power) → IsCutOff (fram_contents area) (p ∷ []) (fram_contents (fram_put q p area))
  fram_cut q = ⊎_elim (λ e. record { survived = 0; kept_is = ap (λ (c : Contents). c.kept) (ap fram_contents (refused e)) ∙ sym (append-nil _); none_waits = refl }) (λ n. cut_in_put n q) (cases_eq (places_from_end (slots area)) 0)
    where
      refused : places_from_end (slots area) ≡ 0 → fram_put q p area ≡ area
      refused e = ap (λ b. cond b area (with_slot area (end_of (slots area)) (under q (writes p (length (records 0 (before_end (slots area))) + 1)) (slot_at area (end_of (slots area)))))) (eq-eqb (places_from_end (slots area)) 0 e)

pub fram_puts : (area : List ℕ) (p : Piece) (new : List ℕ) (r : Result (Unit {0}) PutRefusal) → r ≡ cond (eqb (places_from_end (slots area)) 0) (Err NoPlaces) (Ok tt) → new ≡ fram_put On p area
    → Put r (fram_contents area) p (fram_contents new)
fram_puts area p new r e f =
    rw (e, f)
    (⊎_elim
    (λ z. rw (eq-eqb (places_from_end (slots area)) 0 z) z)
    (λ n. subst (λ b. Put (cond b (Err NoPlaces) (Ok tt)) (fram_contents area) p (fram_contents (fram_put On p area))) (sym (ne_eqb (places_from_end (slots area)) 0 n)) (fram_adds area p n))
    (cases_eq (places_from_end (slots area)) 0))

-- a blank area is a blank book
pub fram_blank : (area : List ℕ) → all_blank (slots area) ≡ true → fram_contents area ≡ record { kept = []; waiting = []; places = slot_count area }
fram_blank area e =
    let none = blanks_end (slots area) e in
    ap₂ (λ ps n. record { kept = ps; waiting = []; places = n })
    (ap (records 0) none)
    (ap (λ zs. cond (all_blank (drop (length zs + 1) (slots area))) (length (slots area) - length zs) 0) none
    ∙ ap (λ b. cond b (length (slots area) - 0) 0) (rest_blank (slots area) e)
    ∙ (let l = length_slots area in omega arith))
