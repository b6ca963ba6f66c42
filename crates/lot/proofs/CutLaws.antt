-- What a power cut leaves after a put or a press.
use Rattle.std.proofs.Common.{◌≡◌, ℕ, ◌+◌, List, [], ◌∷◌, ◌++◌, length, take, sym, ap, ◌∙◌, subst, inl, inr, ⊎_elim, append_assoc, append-nil, arith, take_all, Ok, Err, Result}
use Rattle.std.proofs.Math.Seq.{take-nil}
use lib.Seq.{take-append-le, take-append_seam, take-append-add, take-length}
use Rattle.std.proofs.lemmas.List.{append_cancel_left}
use Rattle.std.proofs.lemmas.Bool.{cases_lt}
use Rattle.sampling.specs.declared.piece.Piece.{Piece}
use Rattle.book.specs.Meaning.{Contents, Added, pressed, IsCutOff}
use Rattle.lot.specs.declared.lot.Lot.{Lot}
use Rattle.lot.specs.declared.lot.Open.{Open}
use Rattle.lot.specs.declared.stopped.Stopped.{Stopped}
use Rattle.lot.specs.declared.stopped.Stopped.TheVariants.{Refused, CutOff}
use Rattle.sampling.specs.declared.rows.Row.{Row}
use Rattle.sampling.specs.declared.word.Word.{Word}
use Rattle.lot.specs.Entries.{OneKept, IsBrokenOff, Went}
use Rattle.lot.specs.Steps.{PutOrCut}
use Rattle.sampling.specs.Rows.{row_of}
use Rattle.sampling.specs.declared.word.Word.TheVariants.{Going}

-- a beginning of ps is one of ps with a piece after it
begins : (n : ℕ) (ps : List Piece) (p : Piece) → (m : ℕ) × (take n ps ≡ take m (ps ++ (p ∷ [])))
begins n ps p =
    ⊎_elim
    (λ h. (n, sym (take-append-le n ps (p ∷ []) (omega arith))))
    (λ h. (length ps, take_all n ps h ∙ sym (take-append_seam ps (p ∷ []))))
    (cases_lt n (length ps))

-- of nothing, nothing survives
pub cut_none : (before after : Contents) (ps : List Piece) → ps ≡ [] → IsCutOff before ps after → after.kept ≡ before.kept
cut_none before after ps e c = c.kept_is ∙ ap (λ xs. before.kept ++ xs) (ap (take c.survived) e ∙ take-nil c.survived) ∙ append-nil before.kept

-- before a put
pub cut_before_put : (before after : Contents) (p : Piece) → IsCutOff before before.waiting after → IsCutOff before (before.waiting ++ (p ∷ [])) after
cut_before_put before after p c =
    let m = begins c.survived before.waiting p in
    record { survived = m.0; kept_is = c.kept_is ∙ ap (λ xs. before.kept ++ xs) m.1; none_waits = c.none_waits }

-- after a put
pub cut_after_put : (before mid after : Contents) (p : Piece) → Added before p mid → IsCutOff mid mid.waiting after → IsCutOff before (before.waiting ++ (p ∷ [])) after
cut_after_put before mid after p a c =
    let more = a.still_kept.0 in
    let joined : more ++ mid.waiting ≡ before.waiting ++ (p ∷ []) =
    append_cancel_left before.kept _ _ (sym (append_assoc before.kept more mid.waiting) ∙ ap (λ xs. xs ++ mid.waiting) (sym a.still_kept.1) ∙ a.joined ∙ append_assoc before.kept before.waiting (p ∷ [])) in
    record {
      survived = length more + c.survived;
      kept_is =
          c.kept_is ∙ ap (λ xs. xs ++ take c.survived mid.waiting) a.still_kept.1 ∙ append_assoc before.kept more (take c.survived mid.waiting)
          ∙ ap (λ xs. before.kept ++ xs) (sym (take-append-add more mid.waiting c.survived) ∙ ap (take (length more + c.survived)) joined);
      none_waits = c.none_waits;
    }

-- after a press
pub cut_after_press : (before mid after : Contents) → mid ≡ pressed before → IsCutOff mid mid.waiting after → IsCutOff before before.waiting after
cut_after_press before mid after e c =
    record {
      survived = length before.waiting;
      kept_is = cut_none mid after mid.waiting (ap (λ (x : Contents). x.waiting) e) c ∙ ap (λ (x : Contents). x.kept) e ∙ ap (λ xs. before.kept ++ xs) (sym (take-length before.waiting));
      none_waits = c.none_waits;
    }

-- a put and a press
pub kept_one : (before mid after : Contents) (p : Piece) → Added before p mid → after ≡ pressed mid → OneKept before p after
kept_one before mid after p a e =
    record {
      kept_is = ap (λ (x : Contents). x.kept) e ∙ a.joined;
      none_waits = ap (λ (x : Contents). x.waiting) e;
      fewer = ap (λ (x : Contents). x.places + 1) e ∙ a.fewer;
    }

-- a lot with its own book put back
pub same_lot : {J B S : Type 0} {lot : Lot J B S} {b : B} → b ≡ lot.book → ◌≡◌ {A = Lot J B S} (record { judge = lot.judge; book = b; state = lot.state }) lot
same_lot {J} {B} {S} {lot} e = ap (λ x. let r : Lot J B S = record { judge = lot.judge; book = x; state = lot.state } in r) e

-- an entry whose put came to no end
pub put_stopped : {J B : Type 0} (says : J → List Piece → Word) (contents : B → Contents) (row : Row) (lot : Lot J B Open) (p : Piece) (b : B) (NoCut : Type 0) (e : Stopped) → row_of p ≡ row → says lot.judge [] ≡ Going
    → PutOrCut (Err e) (contents lot.book) p (contents b) (b ≡ lot.book) NoCut
    → Went (Err e) row (says lot.judge) (contents lot.book) (says lot.judge) (contents b) (◌≡◌ {A = Lot J B Open} (record { judge = lot.judge; book = b; state = lot.state }) lot) NoCut
put_stopped says contents row lot p b NoCut (Refused e) typed going (is, full, same) = (rw is ((p, typed), going, full), same_lot same)
put_stopped says contents row lot p b NoCut CutOff typed going (cut, asked) = (inr (p, typed, going, cut), asked)

-- a cut after a cut
cut_again : (before mid after : Contents) (ps : List Piece) → IsCutOff before ps mid → IsCutOff mid mid.waiting after → IsCutOff before ps after
cut_again before mid after ps a c = record { survived = a.survived; kept_is = cut_none mid after _ a.none_waits c ∙ a.kept_is; none_waits = c.none_waits }

-- a cut after an entry, however it went
pub cut_after_entry : {J B : Type 0} (says : J → List Piece → Word) (contents : B → Contents) (row : Row) (lot lot₁ : Lot J B Open) (NoCut : Type 0) (after : Contents) (r : Result (Word × ℕ) Stopped)
    → Went r row (says lot.judge) (contents lot.book) (says lot₁.judge) (contents lot₁.book) (lot₁ ≡ lot) NoCut
    → IsCutOff (contents lot₁.book) (contents lot₁.book).waiting after → IsBrokenOff row (says lot.judge []) (contents lot.book) after
cut_after_entry says contents row lot lot₁ NoCut after (Ok (w, n)) e c =
    let p = e.piece in
    let before = contents lot.book in
    let all = cut_none (contents lot₁.book) after _ e.kept_one.none_waits c ∙ e.kept_one.kept_is ∙ append_assoc before.kept before.waiting (p ∷ []) in
    inr (
      p,
      e.typed,
      e.going,
      record {
        survived = length (before.waiting ++ (p ∷ []));
        kept_is = all ∙ ap (λ xs. before.kept ++ xs) (sym (take-length (before.waiting ++ (p ∷ []))));
        none_waits = c.none_waits;
      },
    )
cut_after_entry says contents row lot lot₁ NoCut after (Err (Refused x)) (cause, same) c = inl (subst (λ (l : Lot _ _ Open). IsCutOff (contents l.book) (contents l.book).waiting after) same c)
cut_after_entry says contents row lot lot₁ NoCut after (Err CutOff) (left, asked) c = elim left [
  | inl h ↦ inl (cut_again (contents lot.book) (contents lot₁.book) after _ h c)
  | inr h ↦ inr (h.0, h.1, h.2, cut_again (contents lot.book) (contents lot₁.book) after _ h.3 c)
]
