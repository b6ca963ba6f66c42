-- Every printed plan is in range: one test, computed over the whole table, and carried to each cell.
use Rattle.std.proofs.Common.{◌≡◌, ℕ, zero, suc, Bool, true, ◌&&◌, List, [], ◌∷◌, get_or, pos, ◌+ℤ◌, IfSome, IfOk, Some, None, Option, refl}
use lib.Signed.{le_z}
use Rattle.std.specs.List.{list_all}
use Rattle.std.specs.Option.{ok_or}
use Rattle.std.proofs.lemmas.Bool.{and_parts}
use Rattle.plans.specs.PlanChecks.{between}
use Rattle.lookup.specs.declared.entry.Entry.{Entry}
use Rattle.lookup.specs.declared.refusal.LookupRefusal.TheVariants.{NotListed}
use Rattle.lookup.specs.Master.{row_values, column_values, cells}
use Rattle.lookup.specs.Looked.{InRange, cell_at, place_of, looked_up}

abbrev fits : Entry → Bool
fits e =
    between (pos 1) (pos 9999) (pos e.g)
    && (between (pos 0) (pos 20000) (pos e.h_a)
    && (between (pos 0) (pos 20000) (pos e.h_r)
    && (between (pos 1) (pos 4000) (pos e.n_t)
    && le_z (pos 1) (pos e.h_a +ℤ pos e.h_r))))

fits_in_range : (e : Entry) → fits e ≡ true → InRange e
fits_in_range e t others =
    let p = and_parts (between (pos 1) (pos 9999) (pos e.g)) _ t in
    let q = and_parts (between (pos 0) (pos 20000) (pos e.h_a)) _ p.1 in
    let r = and_parts (between (pos 0) (pos 20000) (pos e.h_r)) _ q.1 in
    let s = and_parts (between (pos 1) (pos 4000) (pos e.n_t)) _ r.1 in
    rw (p.0, q.0, r.0, s.0, s.1)

abbrev cell_fits : Option Entry → Bool
cell_fits None = true
cell_fits (Some e) = fits e

passes_at : {A : Type 0} (f : A → Bool) (xs : List A) (i : ℕ) (d : A) → f d ≡ true → list_all f xs ≡ true → f (get_or xs i d) ≡ true
passes_at f [] i d h t = h
passes_at f (x ∷ xs) zero d h t = (and_parts (f x) (list_all f xs) t).0
passes_at f (x ∷ xs) (suc i) d h t = passes_at f xs i d h (and_parts (f x) (list_all f xs) t).1

all_fit : list_all (list_all cell_fits) cells ≡ true
all_fit = refl

cell_in_range : (o : Option Entry) → cell_fits o ≡ true → IfSome o InRange
cell_in_range None t = tt
cell_in_range (Some e) t = fits_in_range e t

at_in_range : (row column : Option ℕ) → IfSome (cell_at cells row column) InRange
at_in_range None column = tt
at_in_range (Some i) None = tt
at_in_range (Some i) (Some j) =
    cell_in_range (get_or (get_or cells i []) j None)
    (passes_at cell_fits (get_or cells i []) j None refl (passes_at (list_all cell_fits) cells i [] refl all_fit))

made_from : (o : Option Entry) → IfSome o InRange → IfOk (ok_or o NotListed) InRange
made_from None h = tt
made_from (Some e) h = h

pub looked_in_range : (p q : ℕ) → IfOk (looked_up p q) InRange
looked_in_range p q = made_from (cell_at cells (place_of row_values p) (place_of column_values q)) (at_in_range (place_of row_values p) (place_of column_values q))
