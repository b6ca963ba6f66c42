-- Bytes stored one part after the other.
use Rattle.std.proofs.Common.{◌≡◌, ℕ, ◌+◌, List, ◌++◌, length, drop, sym, ap, ◌∙◌, ap₂, append_assoc, arith, length-append}
use lib.Seq.{take-append_seam, drop-append_seam}
use Rattle.std.proofs.lemmas.List.{drop-drop}
use Rattle.host.specs.Bytes.{stored}

dropped_on : (a d : List ℕ) (k : ℕ) → drop (length a + k) (a ++ d) ≡ drop k d
dropped_on a d k = sym (drop-drop k (length a) (a ++ d)) ∙ ap (drop k) (drop-append_seam a d)

-- a part after the first n bytes
pub stored_next : (out a b : List ℕ) (n : ℕ) → n ≡ length a → stored (stored out 0 a) n b ≡ stored out 0 (a ++ b)
stored_next out a b n e =
    rw (e, take-append_seam a (drop (0 + length a) out), dropped_on a (drop (0 + length a) out) (length b), drop-drop (length b) (0 + length a) out)
    (ap (λ m. a ++ (b ++ drop m out)) (let l = length-append a b in omega arith) ∙ sym (append_assoc a b (drop (0 + length (a ++ b)) out)))

-- one more call of `store`, after those that wrote the bytes a
pub stored_on : (out s t a b x y : List ℕ) (n : ℕ) → s ≡ stored out 0 a → t ≡ stored s n b → a ≡ x → b ≡ y → n ≡ length x → t ≡ stored out 0 (x ++ y)
stored_on out s t a b x y n p q e f l =
    q ∙ ap₂ (λ s b. stored s n b) (p ∙ ap (stored out 0) e) f ∙ stored_next out x y n l
