-- A run of commands, moment after moment, and that it keeps the promise.
use Rattle.std.proofs.Common.{◌≡◌, ℕ, ◌+◌, ◌<◌, ◌≤◌, min, Bool, false, ◌⊎◌, List, [], ◌∷◌, ◌++◌, length, get_or, take, drop, sym, refl, ap, ◌∙◌, subst, inl, inr, arith}
use lib.Seq.{take-length, drop-length}
use Rattle.std.proofs.lemmas.List.{append-nil, append_assoc, append_cancel_left, map-append, take_at, take_all, drop_all, take_more, same_from_push, length-append}
use Rattle.std.proofs.lemmas.Bool.{cases_lt}
use Rattle.sampling.specs.declared.piece.Piece.{Piece}
use Rattle.sampling.specs.declared.word.Word.{Word}
use Rattle.sampling.specs.declared.word.Word.TheVariants.{Going}
use Rattle.sampling.specs.Lawful.{Lawful}
use Rattle.lot.specs.declared.command.Command.{Command}
use Rattle.lot.specs.declared.moment.Event.{Event}
use Rattle.lot.specs.declared.moment.Event.TheVariants.{NotWoken, Woken, Asked, Answered, Refused, BrokenOff, Cut}
use Rattle.lot.specs.declared.moment.Moment.{Moment}
use Rattle.lot.specs.Runs as runs
use Rattle.lot.specs.Runs.{At, events, woken_by, woken_after, kept_after, places_after, Decided, Placed, OneMore, Grown, Accounts, Tells}
use Rattle.lot.specs.Standings.{Worded, Step}
use Rattle.lot.specs.Promise.{Promise}
use Rattle.lot.proofs.Comparing.{compared}

-- a run through these commands that began not woken, with the pieces `from` and so many places: whether it ended
-- woken, its places, its log, and the pieces kept
pub data Run {C : Type 0} (word : List Piece → Word) (from : List Piece) (places : ℕ) : List (Command C) → Bool → ℕ → List Moment → List Piece → Type 0 where
  start : Run word from places [] false places [] from
  next : {cs : List (Command C)} {a : Bool} {r : ℕ} {log : List Moment} {c : Command C} {m : Moment} {ps qs : List Piece}
      → Run word from places cs a r log ps → Step word a c r m ps qs → Run word from places (cs ++ (c ∷ [])) (woken_by a m.event) m.places (log ++ (m ∷ [])) qs

-- the pieces that one event accounts for stand at the end
one : (e : Event) (ps qs : List Piece) → Grown e ps qs → (more : List Piece) × (qs ≡ ps ++ more) × Accounts (e ∷ []) more × (length more ≤ 1)
one NotWoken ps qs h = ([], h ∙ sym (append-nil ps), runs.quiet runs.not_woken runs.none, omega arith)
one Woken ps qs h = ([], h ∙ sym (append-nil ps), runs.quiet runs.woken runs.none, omega arith)
one (Asked w) ps qs h = ([], h ∙ sym (append-nil ps), runs.quiet runs.Quiet.asked runs.none, omega arith)
one (Answered row w n) ps qs h = (h.0 ∷ [], h.2, runs.answered h.1 runs.none, omega arith)
one (Refused e) ps qs h = ([], h ∙ sym (append-nil ps), runs.quiet runs.refused runs.none, omega arith)
one (BrokenOff row) ps qs h = elim h [
  | inl e ↦ ([], e ∙ sym (append-nil ps), runs.lost runs.none, omega arith)
  | inr e ↦ (e.0 ∷ [], e.2, runs.saved e.1 runs.none, omega arith)
]
one Cut ps qs h = ([], h ∙ sym (append-nil ps), runs.quiet runs.cut runs.none, omega arith)

accounts-append : {es fs : List Event} {ps qs : List Piece} → Accounts es ps → Accounts fs qs → Accounts (es ++ fs) (ps ++ qs)
accounts-append runs.none b = b
accounts-append (runs.answered i a) b = runs.answered i (accounts-append a b)
accounts-append (runs.saved i a) b = runs.saved i (accounts-append a b)
accounts-append (runs.lost a) b = runs.lost (accounts-append a b)
accounts-append (runs.quiet q a) b = runs.quiet q (accounts-append a b)

split_last : {X : Type 0} (xs : List X) → (xs ≡ []) ⊎ ((ys : List X) × (z : X) × (xs ≡ ys ++ (z ∷ [])))
split_last [] = inl refl
split_last (x ∷ xs) = elim (split_last xs) [
  | inl e ↦ inr ([], x, ap (λ zs. x ∷ zs) e)
  | inr e ↦ inr (x ∷ e.0, e.1, ap (λ zs. x ∷ zs) e.2)
]

-- one more of a list that is read in order
pub read_more : {X : Type 0} (xs : List X) (i : ℕ) (x : X) → i < length xs → x ≡ get_or xs i x → take (i + 1) xs ≡ take i xs ++ (x ∷ [])
read_more xs i x within read = take_more xs i x within ∙ ap (λ y. take i xs ++ (y ∷ [])) (sym read)

-- as much of two lists as the shorter has
pub cut_to : {X Y : Type 0} (xs : List X) (ys : List Y) (n : ℕ) → n ≡ min (length xs) (length ys) → (take n xs ≡ take (length ys) xs) × (take n ys ≡ take (length xs) ys) × (drop n ys ≡ drop (length xs) ys)
cut_to xs ys n e = elim (cases_lt (length xs) (length ys)) [
  | inl h ↦
      let is : n ≡ length xs = omega arith in
      (ap (λ k. take k xs) is ∙ take-length xs ∙ sym (take_all (length ys) xs (omega arith)), ap (λ k. take k ys) is, ap (λ k. drop k ys) is)
  | inr h ↦
      let is : n ≡ length ys = omega arith in
      (ap (λ k. take k xs) is, ap (λ k. take k ys) is ∙ take-length ys ∙ sym (take_all (length xs) ys h), ap (λ k. drop k ys) is ∙ drop-length ys ∙ sym (drop_all (length xs) ys h))
]

nothing_at : {X : Type 0} (before after : List X) (m : X) → [] ≡ before ++ (m ∷ after) → ⊥
nothing_at before after m e = omega (arith, simp length-append at (ap length e))

word_at : (word : List Piece → Word) (qs : List Piece) {e : Event} {w : Word} → Tells e w → Worded word e qs → w ≡ word qs
word_at word qs runs.Tells.asked h = h
word_at word qs runs.entered h = h

woken_next : (a : Bool) (es : List Event) (e : Event) → woken_after a (es ++ (e ∷ [])) ≡ woken_by (woken_after a es) e
woken_next a [] e = refl
woken_next a (x ∷ xs) e = woken_next (woken_by a x) xs e

kept_next : (k : ℕ) (ms : List Moment) (m : Moment) → kept_after k (ms ++ (m ∷ [])) ≡ m.kept
kept_next k [] m = refl
kept_next k (x ∷ xs) m = kept_next x.kept xs m

places_next : (r : ℕ) (ms : List Moment) (m : Moment) → places_after r (ms ++ (m ∷ [])) ≡ m.places
places_next r [] m = refl
places_next r (x ∷ xs) m = places_next x.places xs m

-- where nothing came while the word was not going, nothing comes with one step more
still : (word : List Piece → Word) (qs more ps qs' grew : List Piece) → ps ≡ qs ++ more → qs' ≡ ps ++ grew → (more ≡ []) ⊎ (word qs ≡ Going) → (qs' ≡ ps) ⊎ (word ps ≡ Going) → (more ++ grew ≡ []) ⊎ (word qs ≡ Going)
still word qs more ps qs' grew all step old new = elim old [
  | inr g ↦ inr g
  | inl none ↦ elim new [
    | inl same ↦ inl (ap (λ zs. zs ++ grew) none ∙ append_cancel_left ps grew [] (sym step ∙ same ∙ sym (append-nil ps)))
    | inr g ↦ inr (ap word (sym (all ∙ ap (λ zs. qs ++ zs) none ∙ append-nil qs)) ∙ g)
  ]
]

module _ {C : Type 0} (word : List Piece → Word) where
  -- a moment of a run: the run before it, its command and its step, and what the run kept from then on
  record Seen (from : List Piece) (places : ℕ) (script : List (Command C)) (before : List Moment) (m : Moment) (kept : List Piece) : Type 0 where
    done : List (Command C)
    command : Command C
    was : Bool
    room : ℕ
    ps : List Piece
    qs : List Piece
    more : List Piece
    run : Run word from places done was room before ps
    step : Step word was command room m ps qs
    place : At script done command
    all : kept ≡ qs ++ more
    while_going : (more ≡ []) ⊎ (word qs ≡ Going)

  seen : {from : List Piece} {places : ℕ} {script : List (Command C)} {a : Bool} {r : ℕ} {log : List Moment} {kept : List Piece} → Run word from places script a r log kept → (before : List Moment) (m : Moment) → At log before m → Seen from places script before m kept
  seen start before m (after, e) = absurd (nothing_at before after m e)
  seen {from} {places} (next {cs} {a} {r = room} {log} {c} {m = n} {ps} {qs} r s) before m (after, e) = elim (split_last after) [
    | inl h ↦
        let same = same_from_push log before n m (e ∙ ap (λ zs. before ++ (m ∷ zs)) h) in
        record {
          done = cs;
          command = c;
          was = a;
          room = room;
          ps = ps;
          qs = qs;
          more = [];
          run = subst (λ l. Run word from places cs a room l ps) same.0 r;
          step = subst (λ x. Step word a c room x ps qs) same.1 s;
          place = ([], refl);
          all = sym (append-nil qs);
          while_going = inl refl;
        }
    | inr h ↦
        let same = same_from_push log (before ++ (m ∷ h.0)) n h.1 (e ∙ ap (λ zs. before ++ (m ∷ zs)) h.2 ∙ sym (append_assoc before (m ∷ h.0) (h.1 ∷ []))) in
        let old = seen r before m (h.0, same.0) in
        let grew = one n.event ps qs s.grown in
        record {
          done = old.done;
          command = old.command;
          was = old.was;
          room = old.room;
          ps = old.ps;
          qs = old.qs;
          more = old.more ++ grew.0;
          run = old.run;
          step = old.step;
          place = (old.place.0 ++ (c ∷ []), ap (λ zs. zs ++ (c ∷ [])) old.place.1 ∙ append_assoc old.done (old.command ∷ old.place.0) (c ∷ []));
          all = grew.1 ∙ ap (λ zs. zs ++ grew.0) old.all ∙ append_assoc old.qs old.more grew.0;
          while_going = still word old.qs old.more ps qs grew.0 old.all grew.1 old.while_going s.while_going;
        }
  ]

  all_accounted : {places : ℕ} {script : List (Command C)} {a : Bool} {r : ℕ} {log : List Moment} {kept : List Piece} → Run word [] places script a r log kept → Accounts (events log) kept
  all_accounted start = runs.none
  all_accounted (next {log} {m} {ps} {qs} r s) =
      let grew = one m.event ps qs s.grown in
      rw (map-append (λ x. x.event) log (m ∷ []), grew.1) (accounts-append (all_accounted r) grew.2)

  run_woken : {from : List Piece} {places : ℕ} {script : List (Command C)} {a : Bool} {r : ℕ} {log : List Moment} {kept : List Piece} → Run word from places script a r log kept → woken_after false (events log) ≡ a
  run_woken start = refl
  run_woken (next {a} {log} {m} r s) = ap (woken_after false) (map-append (λ x. x.event) log (m ∷ [])) ∙ woken_next false (events log) m.event ∙ ap (λ b. woken_by b m.event) (run_woken r)

  run_long : {from : List Piece} {places : ℕ} {script : List (Command C)} {a : Bool} {r : ℕ} {log : List Moment} {kept : List Piece} → Run word from places script a r log kept → length log ≡ length script
  run_long start = refl
  run_long (next {cs} {log} {c} {m} r s) = simp length-append (omega (arith, run_long r))

  -- the places and the number kept are those of the last moment, or the first ones
  pub run_places : {from : List Piece} {places : ℕ} {script : List (Command C)} {a : Bool} {r : ℕ} {log : List Moment} {kept : List Piece} → Run word from places script a r log kept → places_after places log ≡ r
  run_places start = refl
  run_places {places = places} (next {log} {m} r s) = places_next places log m

  run_kept : {places : ℕ} {script : List (Command C)} {a : Bool} {r : ℕ} {log : List Moment} {kept : List Piece} → Run word [] places script a r log kept → kept_after 0 log ≡ length kept
  run_kept start = refl
  run_kept (next {log} {m} r s) = kept_next 0 log m ∙ s.counted

  module _ {limit : ℕ} {good : Piece → Piece → Type 0} (law : Lawful limit good word) where
    run_short : {places : ℕ} {script : List (Command C)} {a : Bool} {r : ℕ} {log : List Moment} {kept : List Piece} → Run word [] places script a r log kept → length kept ≤ limit
    run_short start = let l = law.limit_from_one in omega arith
    run_short (next {m} {ps} {qs} r s) = elim s.while_going [
      | inl same ↦ rw same (run_short r)
      | inr g ↦ elim (cases_lt (length ps) limit) [
        | inl low ↦ let grew = one m.event ps qs s.grown in omega (arith, grew.3, simp length-append at (ap length grew.1))
        | inr high ↦ absurd (law.ends_by_limit ps high g)
      ]
    ]

    module _ {places : ℕ} {script : List (Command C)} {a : Bool} {room : ℕ} {log : List Moment} {kept : List Piece} (r : Run word [] places script a room log kept) where
      -- the pieces kept after a moment, and before it
      taken : (before : List Moment) (m : Moment) (s : Seen [] places script before m kept) → take m.kept kept ≡ s.qs
      taken before m s = ap (take m.kept) s.all ∙ take_at s.qs s.more m.kept (sym s.step.counted)

      taken_before : (before : List Moment) (m : Moment) (s : Seen [] places script before m kept) → take (kept_after 0 before) kept ≡ s.ps
      taken_before before m s =
          let grew = one m.event s.ps s.qs s.step.grown in
          let whole : kept ≡ s.ps ++ (grew.0 ++ s.more) = s.all ∙ ap (λ zs. zs ++ s.more) grew.1 ∙ append_assoc s.ps grew.0 s.more in
          ap (take (kept_after 0 before)) whole ∙ take_at s.ps (grew.0 ++ s.more) (kept_after 0 before) (sym (run_kept s.run))

      -- two moments, one after the other
      record Two (m n : Moment) : Type 0 where
        ps : List Piece
        qs : List Piece
        gap : List Piece
        first : m.kept ≡ length ps
        second : n.kept ≡ length qs
        first_word : Worded word m.event ps
        second_word : Worded word n.event qs
        then : take m.kept kept ≡ ps
        all : qs ≡ ps ++ gap
        while_going : (gap ≡ []) ⊎ (word ps ≡ Going)

      two : (before between : List Moment) (m n : Moment) → At log (before ++ (m ∷ between)) n → Two m n
      two before between m n at =
          let s = seen r (before ++ (m ∷ between)) n at in
          let t = seen s.run before m (between, refl) in
          let grew = one n.event s.ps s.qs s.step.grown in
          let gap : List Piece = t.more ++ grew.0 in
          let all : s.qs ≡ t.qs ++ gap = grew.1 ∙ ap (λ zs. zs ++ grew.0) t.all ∙ append_assoc t.qs t.more grew.0 in
          let whole : kept ≡ t.qs ++ (gap ++ s.more) = s.all ∙ ap (λ zs. zs ++ s.more) all ∙ append_assoc t.qs gap s.more in
          record {
            ps = t.qs;
            qs = s.qs;
            gap = gap;
            first = t.step.counted;
            second = s.step.counted;
            first_word = t.step.worded;
            second_word = s.step.worded;
            then = ap (take m.kept) whole ∙ take_at t.qs (gap ++ s.more) m.kept (sym t.step.counted);
            all = all;
            while_going = still word t.qs t.more s.ps s.qs grew.0 t.all grew.1 t.while_going s.step.while_going;
          }

      pub promised : Promise limit good word places script log kept
      promised = record {
        one_each = run_long r;
        decided = λ before m at.
            let s = seen r before m at in
            (s.done, s.command, s.place, sym (run_long s.run), rw (taken before m s, taken_before before m s, run_woken s.run, run_places s.run) s.step.decided);
        grown = λ before m at. let s = seen r before m at in rw (taken before m s, taken_before before m s) s.step.grown;
        in_the_end = run_kept r;
        accounted = λ before m at. let s = seen r before m at in rw (taken before m s) (all_accounted (next s.run s.step));
        all_accounted = all_accounted r;
        counted = λ before m at. let s = seen r before m at in omega (arith, s.step.counted, simp length-append at (ap length s.all));
        never_fewer = λ before between m n at.
            let t = two before between m n at in
            omega (arith, t.first, t.second, simp length-append at (ap length t.all));
        worded = λ before m w at a. let s = seen r before m at in rw (taken before m s) (word_at word s.qs a s.step.worded);
        final = λ before between m n v w at a a' ne.
            let t = two before between m n at in
            let first : v ≡ word t.ps = word_at word t.ps a t.first_word in
            word_at word t.qs a' t.second_word ∙ ap word t.all ∙ law.sentence_kept t.ps t.gap (λ g. ne (first ∙ g)) ∙ sym first;
        closed = λ before between m n at ne.
            let t = two before between m n at in
            elim t.while_going [
              | inl none ↦ t.second ∙ ap length (t.all ∙ ap (λ zs. t.ps ++ zs) none ∙ append-nil t.ps) ∙ sym t.first
              | inr g ↦ absurd (ne (ap word t.then ∙ g))
            ];
        at_most = run_short r;
        ended = λ before m at long going.
            let s = seen r before m at in
            law.ends_by_limit s.qs (omega (arith, s.step.counted)) (sym (ap word (taken before m s)) ∙ going);
        placed = λ before m at. let s = seen r before m at in rw (run_places s.run) s.step.placed;
        as_second = λ other w. compared law other kept w;
        as_first = λ other w. compared law kept other w;
      }
