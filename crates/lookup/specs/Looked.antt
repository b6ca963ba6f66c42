-- What the lookup answers.
use Rattle.std.specs.Prelude.{◌≡◌, ℕ, List, [], pos, Some, None, Option, Result, ◌==◌, slice_index_or, position}
use Rattle.std.specs.Option.{ok_or}
use Rattle.plans.specs.declared.refusal.PlanRefusal.{PlanRefusal}
use Rattle.plans.specs.PlanChecks.{parameters_refusal}
use Rattle.lookup.specs.declared.entry.Entry.{Entry}
use Rattle.lookup.specs.declared.refusal.LookupRefusal.{LookupRefusal}
use Rattle.lookup.specs.declared.refusal.LookupRefusal.TheVariants.{NotListed}
use Rattle.lookup.specs.Master.{row_values, column_values, cells}

abbrev pub lookup_number : LookupRefusal → ℕ
lookup_number NotListed = 8

-- where a value first stands in a list
abbrev pub place_of : List ℕ → ℕ → Option ℕ
place_of xs v = position (λ x. x == v) xs

-- the cell in a row and a column, where both are listed
abbrev pub cell_at : List (List (Option Entry)) → Option ℕ → Option ℕ → Option Entry
cell_at cs None column = None
cell_at cs (Some i) None = None
cell_at cs (Some i) (Some j) = slice_index_or (slice_index_or cs i []) j None

-- an empty cell is no plan
abbrev pub looked_up : ℕ → ℕ → Result Entry LookupRefusal
looked_up q_pr q_cr = ok_or (cell_at cells (place_of row_values q_pr) (place_of column_values q_cr)) NotListed

-- no leeway plan with these numbers is turned down for its parameters or its intercepts
abbrev pub InRange : Entry → Type 0
InRange e =
    (others : Option PlanRefusal)
    → parameters_refusal 20000 (pos e.g) (pos e.h_a) (pos e.h_r) (pos e.n_t) others ≡ others
