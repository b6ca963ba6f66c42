-- A refusal of the lookup as it is printed.
use Rattle.std.specs.Prelude.{ℕ, List, codes}
use Rattle.lookup.specs.declared.refusal.LookupRefusal.{LookupRefusal}
use Rattle.lookup.specs.declared.refusal.LookupRefusal.TheVariants.{NotListed}

abbrev pub lookup_text : LookupRefusal → List ℕ
lookup_text NotListed = codes "the master table has no plan for these two qualities"
