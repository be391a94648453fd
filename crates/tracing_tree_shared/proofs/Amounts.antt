-- What is left under the lock shows how many calls were accepted, and the two settings.
use Rattle.std.proofs.Common.{◌≡◌, ◌∙◌, ℕ, ◌+◌, ◌*◌, ◌<◌, ◌==◌, ◌||◌, Bool, true, false, leb, refl, sym, ap, arith}
use Rattle.tracing_tree_shared.specs.Amounts.{settings_code, full_amount}

pub below : (ansi targets : Bool) → settings_code ansi targets < 4
below false false = omega arith
below true false = omega arith
below false true = omega arith
below true true = omega arith

abbrev ansi_of : ℕ → Bool
ansi_of code = code == 1 || code == 3

abbrev targets_of : ℕ → Bool
targets_of code = leb 2 code

ansi_back : (ansi targets : Bool) → ansi_of (settings_code ansi targets) ≡ ansi
ansi_back false false = refl
ansi_back true false = refl
ansi_back false true = refl
ansi_back true true = refl

targets_back : (ansi targets : Bool) → targets_of (settings_code ansi targets) ≡ targets
targets_back false false = refl
targets_back true false = refl
targets_back false true = refl
targets_back true true = refl

-- what two counts of one total have in common
pub record IsSame (accepted counted : ℕ) (ansi targets ansi' targets' : Bool) : Type 0 where
  pub count : accepted ≡ counted
  pub ansi_is : ansi ≡ ansi'
  pub targets_is : targets ≡ targets'

pub same : (left accepted counted : ℕ) (ansi targets ansi' targets' : Bool) → left + 4 * accepted ≡ full_amount ansi targets
    → left + 4 * counted ≡ full_amount ansi' targets' → IsSame accepted counted ansi targets ansi' targets'
same left accepted counted ansi targets ansi' targets' e h =
    let low = below ansi targets in
    let low' = below ansi' targets' in
    let code : settings_code ansi targets ≡ settings_code ansi' targets' = omega (arith, e, h, low, low') in
    record {
      count = omega (arith, e, h, low, low');
      ansi_is = sym (ansi_back ansi targets) ∙ ap ansi_of code ∙ ansi_back ansi' targets';
      targets_is = sym (targets_back ansi targets) ∙ ap targets_of code ∙ targets_back ansi' targets';
    }
