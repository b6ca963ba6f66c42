-- What each command's calls come to.
use Rattle.std.proofs.Common.{◌≡◌, ℕ, zero, suc, ◌<◌, ◌⊎◌, List, [], ◌∷◌, ◌++◌, take, sym, refl, ap, ◌∙◌, inl, inr, append_assoc, append-nil, arith}
use Rattle.sampling.specs.declared.piece.Piece.{Piece}
use Rattle.sampling.specs.declared.rows.Row.{Row}
use Rattle.sampling.specs.declared.word.Word.{Word}
use Rattle.sampling.specs.declared.word.Word.TheVariants.{Going}
use Rattle.sampling.specs.declared.judge.Judge as judge
use Rattle.book.specs.declared.book.Book as book
use Rattle.book.specs.Meaning.{Contents, IsCutOff}
use Rattle.lot.specs.declared.command.Command.TheVariants.{Enter, CutEntering}
use Rattle.lot.specs.declared.lot.Lot.{Lot}
use Rattle.lot.specs.declared.lot.Open.{Open}
use Rattle.lot.specs.declared.moment.Event.TheVariants as event
use Rattle.lot.specs.declared.moment.Moment.{Moment}
use Rattle.lot.specs.declared.stage.Stage.{Stage}
use Rattle.lot.specs.declared.standing.Standing.{Standing}
use Rattle.lot.specs.declared.standing.Standing.TheVariants.{NotWoken, Woken}
use Rattle.lot.specs.Entries.{Entered, IsBrokenOff}
use Rattle.lot.specs.Runs.{Grown}
use Rattle.lot.specs.Standings.{book_of, Noted, Sound, Steps}
use Rattle.lot.proofs.CutLaws.{cut_none}

-- of one piece, that one survives or nothing
one_taken : (n : ℕ) (p : Piece) → (take n (p ∷ []) ≡ []) ⊎ (take n (p ∷ []) ≡ p ∷ [])
one_taken zero p = inl refl
one_taken (suc zero) p = inr refl
one_taken (suc (suc n)) p = inr refl

cut_one : (before after : Contents) (ps : List Piece) (p : Piece) → ps ≡ p ∷ [] → IsCutOff before ps after → (after.kept ≡ before.kept) ⊎ (after.kept ≡ before.kept ++ (p ∷ []))
cut_one before after ps p e c = elim (one_taken c.survived p) [
  | inl h ↦ inl (c.kept_is ∙ ap (λ xs. before.kept ++ xs) (ap (take c.survived) e ∙ h) ∙ append-nil before.kept)
  | inr h ↦ inr (c.kept_is ∙ ap (λ xs. before.kept ++ xs) (ap (take c.survived) e ∙ h))
]

module _ {J P B C : Type 0} (judge : judge.Ghosts J P) (book : book.Ghosts B C) where
  pub nothing_waits : (s : Standing J B) → Sound judge book s → (book.contents (book_of s)).waiting ≡ []
  nothing_waits (NotWoken j b) h = h
  nothing_waits (Woken lot) h = h.0

  -- an entry that was answered
  pub entered_goes : {row : Row} {s t : Standing J B} {lot lot' : Lot J B Open} {w : Word} {k : ℕ} {m : Moment} → s ≡ Woken lot → Entered row (judge.says lot.judge) (book.contents lot.book) w k (judge.says lot'.judge) (book.contents lot'.book)
      → judge.plan lot'.judge ≡ judge.plan lot.judge → book.lender lot'.book ≡ book.lender lot.book → Noted book.contents (Woken lot') (event.Answered row w k) t m → Steps judge book (Enter row) s t m
  entered_goes {lot = lot} {lot' = lot'} {w = w} is e same lent n =
      rw (is, n.same)
      (record {
        lender = lent;
        goes = λ old.
            let p = e.piece in
            let one = e.kept_one in
            let grown : (book.contents lot'.book).kept ≡ (book.contents lot.book).kept ++ (p ∷ []) = one.kept_is ∙ rw (old.0, append-nil) in
            let heard : (xs : List Piece) → judge.says lot'.judge xs ≡ judge.fresh (judge.plan lot.judge) ((book.contents lot'.book).kept ++ xs) = λ xs. e.judged xs ∙ old.1 (p ∷ xs) ∙ rw (grown, append_assoc) in
            let word : w ≡ judge.fresh (judge.plan lot.judge) (book.contents lot'.book).kept = e.word_is ∙ heard [] ∙ rw append-nil in
            let going : judge.fresh (judge.plan lot.judge) (book.contents lot.book).kept ≡ Going = rw append-nil at (sym (old.1 []) ∙ e.going) in
            let room : 0 < (book.contents lot.book).places = omega (arith, one.fewer) in
            record {
              sound = (one.none_waits, λ xs. heard xs ∙ rw same);
              same_plan = same;
              woken = rw n.event_is refl;
              places_are = sym n.places_is;
              step = record {
                decided = rw (n.event_is, n.kept_is) (inl ((p, e.typed), going, room, rw (word, e.number_is)));
                grown = rw n.event_is (p, e.typed, grown);
                while_going = inr going;
                counted = n.kept_is;
                placed = rw (n.event_is, n.places_is) one.fewer;
                worded = rw n.event_is word;
              };
            };
      })

  -- an entry that a cut broke off
  pub broken_goes : {row : Row} {stage : Stage} {at : C} {s t : Standing J B} {lot : Lot J B Open} {j : J} {b : B} {m : Moment} → s ≡ Woken lot → IsBrokenOff row (judge.says lot.judge []) (book.contents lot.book) (book.contents b)
      → judge.plan j ≡ judge.plan lot.judge → book.lender b ≡ book.lender lot.book → Noted book.contents (NotWoken j b) (event.BrokenOff row) t m → Steps judge book (CutEntering row stage at) s t m
  broken_goes {row = row} {lot = lot} {b = b} is left same lent n =
      rw (is, n.same)
      (record {
        lender = lent;
        goes = λ old.
            let before = book.contents lot.book in
            let word = judge.fresh (judge.plan lot.judge) in
            let all : ((book.contents b).waiting ≡ []) × Grown (event.BrokenOff row) before.kept (book.contents b).kept × (((book.contents b).kept ≡ before.kept) ⊎ (word before.kept ≡ Going)) = elim left [
              | inl cut ↦ let kept = cut_none before (book.contents b) _ old.0 cut in (cut.none_waits, inl kept, inl kept)
              | inr h ↦ elim (cut_one before (book.contents b) _ h.0 (ap (λ xs. xs ++ (h.0 ∷ [])) old.0) h.3) [
                | inl e ↦ (h.3.none_waits, inl e, inl e)
                | inr e ↦ (h.3.none_waits, inr (h.0, h.1, e), inr (rw append-nil at (sym (old.1 []) ∙ h.2)))
              ]
            ] in
            record {
              sound = all.0;
              same_plan = same;
              woken = rw n.event_is refl;
              places_are = sym n.places_is;
              step = record {
                decided = rw n.event_is refl;
                grown = rw n.event_is all.1;
                while_going = all.2;
                counted = n.kept_is;
                placed = rw n.event_is tt;
                worded = rw n.event_is tt;
              };
            };
      })
