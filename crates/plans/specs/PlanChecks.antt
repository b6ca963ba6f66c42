-- Which parameters make a plan of either kind, and why others make none.
use Rattle.std.specs.Prelude.{◌≡◌, ℕ, ◌≤◌, Bool, cond, ◌&&◌, ℤ, pos, ◌+ℤ◌, Some, Option, int_le}
use Rattle.plans.specs.declared.refusal.PlanRefusal.{PlanRefusal}
use Rattle.plans.specs.declared.refusal.PlanRefusal.TheVariants.{ParameterRange, NoIntercept}
use Rattle.plans.specs.declared.parameters.Parameters.{Parameters}

abbrev pub between : ℤ → ℤ → ℤ → Bool
between low high x = int_le low x && int_le x high

abbrev pub refuse_unless : {A : Type 0} → Bool → A → Option A → Option A
refuse_unless fit refusal others = cond fit others (Some refusal)

-- the first condition that turns g, h_A, h_R and n_t down, where no h may pass `most`; `others` is asked after these
abbrev pub parameters_refusal : ℕ → ℤ → ℤ → ℤ → ℤ → Option PlanRefusal → Option PlanRefusal
parameters_refusal most g h_a h_r n_t others =
    refuse_unless (between (pos 1) (pos 9999) g) ParameterRange
    (refuse_unless (between (pos 0) (pos most) h_a) ParameterRange
    (refuse_unless (between (pos 0) (pos most) h_r) ParameterRange
    (refuse_unless (between (pos 1) (pos 4000) n_t) ParameterRange
    (refuse_unless (int_le (pos 1) (h_a +ℤ h_r)) NoIntercept
    others))))

-- these parameters have these numbers, and no condition above turns them down
pub record Accepts (most : ℕ) (g h_a h_r n_t : ℤ) (p : Parameters) : Type 0 where
  pub same_g : pos p.g ≡ g
  pub same_h_a : pos p.h_a ≡ h_a
  pub same_h_r : pos p.h_r ≡ h_r
  pub same_n_t : pos p.n_t ≡ n_t
  pub h_a_high : p.h_a ≤ most
  pub h_r_high : p.h_r ≤ most
  pub asks_others : (others : Option PlanRefusal) → parameters_refusal most g h_a h_r n_t others ≡ others
