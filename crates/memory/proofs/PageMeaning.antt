-- What the page book's calls mean.
use Rattle.std.proofs.Common.{◌≡◌, ℕ, ◌+◌, ◌-◌, ◌≤◌, Bool, true, false, cond, eqb, List, [], ◌∷◌, ◌++◌, length, take, Ok, Err, Result, sym, refl, ap, ◌∙◌, ap₂, ⊎_elim, append_assoc, append-nil, arith, length-append, take_all, eq-eqb, ne_eqb}
use lib.Seq.{take-append-le, take-append_seam}
use Rattle.std.proofs.lemmas.List.{length_push}
use Rattle.std.proofs.lemmas.Bool.{cases_eq, cases_lt}
use Rattle.sampling.specs.declared.piece.Piece.{Piece}
use Rattle.book.specs.Meaning.{Contents, Added, Put, pressed, IsCutOff}
use Rattle.book.specs.declared.refusal.PutRefusal.{PutRefusal}
use Rattle.book.specs.declared.refusal.PutRefusal.TheVariants.{NoPlaces}
use Rattle.memory.specs.declared.power.Power.{Power}
use Rattle.memory.specs.declared.power.Power.TheVariants.{On}
use Rattle.memory.specs.Areas.{slot_count, slots, records, all_blank}
use Rattle.memory.specs.Page.{blank_tail, page_contents, page_press, page_put, waiting_after}
use Rattle.memory.proofs.Chunks.{length_slots}
use Rattle.memory.proofs.RecordLists.{blanks_empty}
use Rattle.memory.proofs.PageLaws.{page_few, press_on, press_cut, tail_all}

-- one piece more waits
joins : (area : List ℕ) (ws : List Piece) (p : Piece) → (blank_tail (slots area) - length ws ≡ 0 → ⊥) → Added (page_contents area ws) p (page_contents area (ws ++ (p ∷ [])))
joins area ws p n =
    record {
      joined = sym (append_assoc (records 0 (slots area)) ws (p ∷ []));
      still_kept = ([], sym (append-nil (records 0 (slots area))));
      fewer = rw (length_push ws p) (omega arith);
    }

-- the four are kept and a fifth waits
follows : (area new : List ℕ) (ws : List Piece) (p : Piece) → page_contents new [] ≡ pressed (page_contents area ws) → (blank_tail (slots area) - length ws ≡ 0 → ⊥) → Added (page_contents area ws) p (page_contents new (p ∷ []))
follows area new ws p e n =
    let k : records 0 (slots new) ≡ records 0 (slots area) ++ ws = ap (λ (c : Contents). c.kept) e in
    let t : blank_tail (slots new) - 0 ≡ blank_tail (slots area) - length ws = ap (λ (c : Contents). c.places) e in
    record { joined = ap (λ ps. ps ++ (p ∷ [])) k; still_kept = (ws, k); fewer = omega arith }

module _ (area : List ℕ) (ws : List Piece) (p : Piece) (fit : length ws ≤ blank_tail (slots area)) where
  taken : (blank_tail (slots area) - length ws ≡ 0 → ⊥) → (b : Bool) → Added (page_contents area ws) p (page_contents (cond b (page_press On ws area) area) (cond b (p ∷ []) (ws ++ (p ∷ []))))
  taken n true = follows area (page_press On ws area) ws p (press_on area ws fit) n
  taken n false = joins area ws p n

  pub page_puts : (new : List ℕ) (left : List Piece) (r : Result (Unit {0}) PutRefusal)
      → r ≡ cond (eqb (blank_tail (slots area) - length ws) 0) (Err NoPlaces) (Ok tt) → new ≡ page_put On ws area → left ≡ waiting_after p ws area
      → Put r (page_contents area ws) p (page_contents new left)
  page_puts new left r e f g =
      rw (e, f, g)
      (⊎_elim
      (λ z. rw (eq-eqb (blank_tail (slots area) - length ws) 0 z) z)
      (λ n. rw (ne_eqb (blank_tail (slots area) - length ws) 0 n) (taken n (eqb (length ws) 4)))
      (cases_eq (blank_tail (slots area) - length ws) 0))

  -- a beginning of ws is one of ws with a piece after it
  begins : (n : ℕ) → (m : ℕ) × (take n ws ≡ take m (ws ++ (p ∷ [])))
  begins n =
      ⊎_elim
      (λ h. (n, sym (take-append-le n ws (p ∷ []) (omega arith))))
      (λ h. (length ws, take_all n ws h ∙ sym (take-append_seam ws (p ∷ []))))
      (cases_lt n (length ws))

  untouched : IsCutOff (page_contents area ws) (ws ++ (p ∷ [])) (page_contents area [])
  untouched = record { survived = 0; kept_is = sym (append-nil (records 0 (slots area))); none_waits = refl }

  cut_full : (q : Power) (b : Bool) → IsCutOff (page_contents area ws) (ws ++ (p ∷ [])) (page_contents (cond b (page_press q ws area) area) [])
  cut_full q true =
      let r = press_cut area ws fit q in
      let m = begins r.0 in
      record { survived = m.0; kept_is = r.1 ∙ ap (λ ps. records 0 (slots area) ++ ps) m.1; none_waits = refl }
  cut_full q false = untouched

  pub page_cut_put : (q : Power) → IsCutOff (page_contents area ws) (ws ++ (p ∷ [])) (page_contents (page_put q ws area) [])
  page_cut_put q =
      ⊎_elim
      (λ z. rw (eq-eqb (blank_tail (slots area) - length ws) 0 z) untouched)
      (λ n. rw (ne_eqb (blank_tail (slots area) - length ws) 0 n) (cut_full q (eqb (length ws) 4)))
      (cases_eq (blank_tail (slots area) - length ws) 0)

pub page_cut_press : (area : List ℕ) (ws : List Piece) → length ws ≤ blank_tail (slots area) → (q : Power) → IsCutOff (page_contents area ws) ws (page_contents (page_press q ws area) [])
page_cut_press area ws fit q = let r = press_cut area ws fit q in record { survived = r.0; kept_is = r.1; none_waits = refl }

pub page_cut_idle : (area : List ℕ) (ws : List Piece) → IsCutOff (page_contents area ws) ws (page_contents area [])
page_cut_idle area ws = record { survived = 0; kept_is = sym (append-nil (records 0 (slots area))); none_waits = refl }

-- kept, waiting and places together
pub page_within : (area : List ℕ) (ws : List Piece) → length ws ≤ blank_tail (slots area) → length (records 0 (slots area) ++ ws) + (blank_tail (slots area) - length ws) ≤ 4096
page_within area ws fit = let f = page_few area in rw length-append (omega arith)

-- a blank area is a blank book
pub page_blank : (area : List ℕ) → all_blank (slots area) ≡ true → page_contents area [] ≡ record { kept = []; waiting = []; places = slot_count area }
page_blank area e =
    ap₂ (λ ps n. record { kept = ps; waiting = []; places = n })
    (blanks_empty 0 (slots area) e)
    (let t = tail_all (slots area) e in let l = length_slots area in omega arith)
