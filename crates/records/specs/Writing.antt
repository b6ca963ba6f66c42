-- The sixteen bytes of a record, and the order in which they are written.
use Rattle.std.specs.Prelude.{ℕ, zero, suc, ◌+◌, ◌-◌, ◌/◌, ◌%◌, Bool, cond, ◌&&◌, List, [], ◌∷◌, Some, None, Option, nat_le, nat_lt, slice_index}
use Rattle.std.specs.Int.{w32}
use Rattle.std.proofs.Common.{of_z}
use Rattle.sampling.specs.declared.piece.Piece.{Piece}
use Rattle.sampling.specs.Rows.{finding_byte}

-- the mark 0xA5 0x5A, the number and the value lowest byte first, the finding, and zeros
abbrev pub image : Piece → ℕ → List ℕ
image p n =
    165 ∷ 90
    ∷ (n % 256) ∷ (n / 256 % 256)
    ∷ (of_z w32 p.value % 256) ∷ (of_z w32 p.value / 256 % 256) ∷ (of_z w32 p.value / 65536 % 256) ∷ (of_z w32 p.value / 16777216 % 256)
    ∷ finding_byte p.finding
    ∷ 0 ∷ 0 ∷ 0 ∷ 0 ∷ 0 ∷ 0 ∷ 0 ∷ []

-- bytes 2 to 15 rising, then byte 0, then byte 1
abbrev pub place_of_write : ℕ → ℕ
place_of_write w = cond (nat_lt w 15) (w + 1) (w - 15)

abbrev pub writable : ℕ → ℕ → Bool
writable n w = nat_le 1 n && (nat_le n 4096 && (nat_le 1 w && nat_le w 16))

-- write w of the piece with the number n: its place and byte
abbrev pub write_of : Piece → ℕ → ℕ → Option (ℕ × ℕ)
write_of p n w = cond (writable n w) (Some (place_of_write w, slice_index (image p n) (place_of_write w))) None

-- so many writes from the write w on
abbrev pub writes_from : Piece → ℕ → ℕ → ℕ → List (ℕ × ℕ)
writes_from p n w zero = []
writes_from p n w (suc j) = (place_of_write w, slice_index (image p n) (place_of_write w)) ∷ writes_from p n (w + 1) j

-- the sixteen writes of a record, in their order
unfoldable pub writes : Piece → ℕ → List (ℕ × ℕ)
writes p n = writes_from p n 1 16
