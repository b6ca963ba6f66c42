-- What a slot holds.
use Rattle.std.specs.Prelude.{◌≡◌, ℕ, ◌+◌, ◌*◌, Bool, true, false, cond, ◌&&◌, T, List, take, drop, ℤ, pos, neg_ℤ, Some, None, Option, ◌==◌, int_le, slice_index, refl}
use Rattle.std.proofs.Common.{sym, subst, to_z}
use Rattle.std.specs.List.{list_all}
use Rattle.std.specs.Int.Signed.{le_z_yes}
use Rattle.std.specs.Int.{w32}
use Rattle.sampling.specs.declared.piece.Finding.{Finding}
use Rattle.sampling.specs.declared.piece.Finding.TheVariants.{Clean, Nonconforming}
use Rattle.sampling.specs.declared.piece.Piece.{Piece}

abbrev pub all_are : ℕ → List ℕ → Bool
all_are b xs = list_all (λ x. x == b) xs

abbrev pub blank : List ℕ → Bool
blank slot = all_are 255 slot

-- the number, lowest byte first
abbrev pub number_in : List ℕ → ℕ
number_in slot = slice_index slot 2 + slice_index slot 3 * 256

-- the value, lowest byte first, signed
abbrev pub value_in : List ℕ → ℤ
value_in slot = to_z w32 (slice_index slot 4 + slice_index slot 5 * 256 + slice_index slot 6 * 65536 + slice_index slot 7 * 16777216)

-- the piece of a value and a finding, if both tests of the value's range say so
abbrev pub piece_if : (z : ℤ) → Finding → (low high : Bool) → int_le (neg_ℤ (pos 100000000)) z ≡ low → int_le z (pos 100000000) ≡ high → Option Piece
piece_if z f false high l h = None
piece_if z f true false l h = None
piece_if z f true true l h = Some (record { value = z; finding = f; low = le_z_yes (subst T (sym l) tt); high = le_z_yes (subst T (sym h) tt) })

abbrev pub in_range : ℤ → Finding → Option Piece
in_range z f = piece_if z f (int_le (neg_ℤ (pos 100000000)) z) (int_le z (pos 100000000)) refl refl

-- the piece of a value and a finding's byte, where both are in range
unfoldable pub piece_of : ℤ → ℕ → Option Piece
piece_of z b = cond (b == 0) (in_range z Clean) (cond (b == 1) (in_range z Nonconforming) None)

-- whether all but value and finding are as in a record after k records
abbrev pub formed : List ℕ → ℕ → Bool
formed slot k = slice_index slot 0 == 165 && (slice_index slot 1 == 90 && (number_in slot == k + 1 && all_are 0 (take 7 (drop 9 slot))))

-- the piece of a slot that is a record after k records
abbrev pub record_in : List ℕ → ℕ → Option Piece
record_in slot k = cond (blank slot) None (cond (formed slot k) (piece_of (value_in slot) (slice_index slot 8)) None)
