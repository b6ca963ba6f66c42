-- Stores under a power supply that may fail at any of them.
use Rattle.std.specs.Prelude.{ℕ, zero, suc, List, [], ◌∷◌, slice_set}
use Rattle.memory.specs.declared.power.Power.{Power}
use Rattle.memory.specs.declared.power.Power.TheVariants.{On, Failing, Off}

-- the byte that a store leaves with so many whole stores to come
abbrev pub left_by : ℕ → ℕ → ℕ → ℕ
left_by zero torn byte = torn
left_by (suc k) torn byte = byte

-- one store
abbrev pub stored : Power → List ℕ → ℕ → ℕ → List ℕ
stored On slot place byte = slice_set slot place byte
stored (Failing cut) slot place byte = slice_set slot place (left_by cut.stores cut.torn byte)
stored Off slot place byte = slot

-- the supply with one store fewer to come
abbrev pub one_less : ℕ → ℕ → Power
one_less zero torn = Off
one_less (suc k) torn = Failing (record { stores = k; torn = torn })

abbrev pub spent : Power → Power
spent On = On
spent (Failing cut) = one_less cut.stores cut.torn
spent Off = Off

unfoldable pub after_stores : ℕ → Power → Power
after_stores zero q = q
after_stores (suc n) q = after_stores n (spent q)

-- writes, each a place and a byte, done one after another
abbrev pub applied : List (ℕ × ℕ) → List ℕ → List ℕ
applied [] slot = slot
applied (w ∷ ws) slot = applied ws (slice_set slot w.0 w.1)

-- the first k writes done, the byte of the next torn, the rest not done
abbrev pub cut_at : ℕ → ℕ → List (ℕ × ℕ) → List ℕ → List ℕ
cut_at k torn [] slot = slot
cut_at zero torn (w ∷ ws) slot = slice_set slot w.0 torn
cut_at (suc k) torn (w ∷ ws) slot = cut_at k torn ws (slice_set slot w.0 w.1)

-- what writes leave under a power supply
abbrev pub under : Power → List (ℕ × ℕ) → List ℕ → List ℕ
under On ws slot = applied ws slot
under (Failing cut) ws slot = cut_at cut.stores cut.torn ws slot
under Off ws slot = slot
