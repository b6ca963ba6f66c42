-- The worked examples, as facts of the definitions.
use Rattle.std.specs.Prelude.{◌≡◌, ℕ, ◌+◌, T, List, [], ◌∷◌, take, pos, neg_ℤ, Some, None, nat_le}
use Rattle.std.proofs.Common.{lit≤}
use Rattle.sampling.specs.declared.piece.Piece.{Piece}
use Rattle.sampling.specs.declared.piece.Finding.TheVariants.{Clean}
use Rattle.sampling.specs.declared.word.Word.{Word}
use Rattle.sampling.specs.declared.word.Word.TheVariants.{Going, Accepted, NotAccepted}
use Rattle.leeway.specs.declared.plan.LeewayPlan.{LeewayPlan}
use Rattle.leeway.specs.declared.plan.Side.{Side}
use Rattle.leeway.specs.declared.plan.Side.TheVariants.{Lower, Upper}
use Rattle.loupe.specs.declared.plan.LoupePlan.{LoupePlan}
use Rattle.leeway.specs.Leeway.{leeway_scheme, acceptance_value, rejection_value}
use Rattle.control.specs.declared.refusal.SpanRefusal.TheVariants.{DeviationTooLarge}
use Rattle.control.specs.Span.{span_refusal}
use Rattle.loupe.specs.Loupe.{loupe_line, rejection_number, curtailed_number}
use Rattle.sampling.specs.Sequential.{word_on}
use Rattle.sampling.specs.Joint.{jointly}

-- a clean piece of this value
abbrev pub reading : (v : ℕ) → T (nat_le v 100000000) → Piece
reading v small = record { value = pos v; finding = Clean; low = record { le = tt }; high = record { le = small } }

-- output voltages in millivolts
abbrev pub voltages : List Piece
voltages =
    reading 5930 tt ∷ reading 5909 tt ∷ reading 5921 tt ∷ reading 5924 tt ∷ reading 5927 tt
    ∷ reading 5939 tt ∷ reading 5914 tt ∷ reading 5916 tt ∷ reading 5932 tt ∷ []

-- the plan of these numbers; that they are in range is computed
abbrev pub InRange : ℕ → ℕ → ℕ → ℕ → ℕ → Type 0
InRange most g h_a h_r n_t =
    T (nat_le 1 g) × T (nat_le g 9999) × T (nat_le h_a most) × T (nat_le h_r most) × T (nat_le 1 (h_a + h_r)) × T (nat_le 1 n_t) × T (nat_le n_t 4000)

abbrev pub leeway_plan : (side : Side) (g h_a h_r n_t σ l : ℕ) → InRange 20000 g h_a h_r n_t → T (nat_le 1 σ) × T (nat_le σ 1000000) × T (nat_le l 100000000) → LeewayPlan
leeway_plan side g h_a h_r n_t σ l ok place = record {
  g = g;
  h_a = h_a;
  h_r = h_r;
  n_t = n_t;
  sigma = σ;
  limit = pos l;
  side = side;
  g_low = lit≤ ok.0;
  g_high = lit≤ ok.1;
  h_a_high = lit≤ ok.2;
  h_r_high = lit≤ ok.3;
  not_both_zero = lit≤ ok.4;
  n_t_low = lit≤ ok.5;
  n_t_high = lit≤ ok.6;
  sigma_low = lit≤ place.0;
  sigma_high = lit≤ place.1;
  limit_low = record { le = tt };
  limit_high = record { le = place.2 };
}

abbrev pub loupe_plan : (g h_a h_r n_t : ℕ) → InRange 200000 g h_a h_r n_t → LoupePlan
loupe_plan g h_a h_r n_t ok = record {
  g = g;
  h_a = h_a;
  h_r = h_r;
  n_t = n_t;
  g_low = lit≤ ok.0;
  g_high = lit≤ ok.1;
  h_a_high = lit≤ ok.2;
  h_r_high = lit≤ ok.3;
  not_both_zero = lit≤ ok.4;
  n_t_low = lit≤ ok.5;
  n_t_high = lit≤ ok.6;
}

-- the plans of the output voltage, with limits 5900 and 6000, under any standard deviation
abbrev pub lower_spread : (σ : ℕ) → T (nat_le 1 σ) × T (nat_le σ 1000000) → LeewayPlan
lower_spread σ ok = leeway_plan Lower 1621 2812 3914 49 σ 5900 (tt, tt, tt, tt, tt, tt, tt) (ok.0, ok.1, tt)

abbrev pub upper_spread : (σ : ℕ) → T (nat_le 1 σ) × T (nat_le σ 1000000) → LeewayPlan
upper_spread σ ok = leeway_plan Upper 2315 3826 5258 49 σ 6000 (tt, tt, tt, tt, tt, tt, tt) (ok.0, ok.1, tt)

abbrev pub lower_voltage : LeewayPlan
lower_voltage = lower_spread 1200 (tt, tt)

abbrev pub upper_voltage : LeewayPlan
upper_voltage = upper_spread 1200 (tt, tt)

-- a twentieth of a step is an exact half of a tenth
abbrev pub halves : LeewayPlan
halves = leeway_plan Lower 1000 0 2000 10 5 0 (tt, tt, tt, tt, tt, tt, tt) (tt, tt, tt)

-- one piece decides
abbrev pub one_piece : LeewayPlan
one_piece = leeway_plan Lower 1000 1000 1000 1 100 0 (tt, tt, tt, tt, tt, tt, tt) (tt, tt, tt)

abbrev pub insulators : LoupePlan
insulators = loupe_plan 957 17500 22470 98 (tt, tt, tt, tt, tt, tt, tt)

abbrev pub upper_word_on : List Piece → Word
upper_word_on xs = word_on (leeway_scheme upper_voltage) xs

abbrev pub lot_word_on : List Piece → Word
lot_word_on xs = jointly (word_on (leeway_scheme lower_voltage) xs) (upper_word_on xs)

-- values in tenths of a step
pub record WorkedExamples : Type 0 where
  pub lower_A_1 : acceptance_value lower_voltage 1 ≡ pos 532
  pub lower_R_1 : rejection_value lower_voltage 1 ≡ neg_ℤ (pos 275)
  pub lower_A_4 : acceptance_value lower_voltage 4 ≡ pos 1116
  pub upper_A_1 : acceptance_value upper_voltage 1 ≡ pos 737
  pub upper_going_at_1 : upper_word_on (take 1 voltages) ≡ Going
  pub upper_accepted_at_2 : upper_word_on (take 2 voltages) ≡ Accepted
  pub lot_going_at_8 : lot_word_on (take 8 voltages) ≡ Going
  pub lot_accepted_at_9 : lot_word_on (take 9 voltages) ≡ Accepted
  pub loupe_no_A_18 : (loupe_line insulators 18).0 ≡ None
  pub loupe_A_19 : (loupe_line insulators 19).0 ≡ Some (neg_ℤ (pos 0))
  pub loupe_R_2 : rejection_number insulators 2 ≡ pos 3
  pub loupe_R_8 : rejection_number insulators 8 ≡ pos 4
  pub loupe_A_t : curtailed_number insulators ≡ pos 9
  pub half_goes_up : acceptance_value halves 1 ≡ pos 1
  pub half_goes_down : rejection_value halves 1 ≡ neg_ℤ (pos 1)
  pub span_2200_passes : span_refusal (lower_spread 2200 (tt, tt)) (upper_spread 2200 (tt, tt)) (pos 220) ≡ None
  pub span_2201_refused : span_refusal (lower_spread 2201 (tt, tt)) (upper_spread 2201 (tt, tt)) (pos 220) ≡ Some DeviationTooLarge
  pub leeway_1_accepted : word_on (leeway_scheme one_piece) (reading 1 tt ∷ []) ≡ Accepted
  pub leeway_0_not_accepted : word_on (leeway_scheme one_piece) (reading 0 tt ∷ []) ≡ NotAccepted
