-- The causes for which a call may be refused, by their names.
use Rattle.std.specs.Prelude.{Bool, [], ◌∷◌, Option, option_map}
use Rattle.std.specs.Bool.{then_some}
use Rattle.tracing_tree_base.specs.declared.context.Id.{Id}
use Rattle.tracing_tree_base.specs.declared.context.Refusal.{Refusal}
use Rattle.tracing_tree_base.specs.declared.context.Refusal.TheVariants.{NotHeld, TooWide, TooMany, Timer as TimerFault, Failed}
use Rattle.tracing_tree_layer.specs.Layered.Refused.{first_of_all}

-- the causes that apply to a call
pub record Causes : Type 0 where
  pub failed : Bool
  pub not_held : Option Id
  pub too_many : Bool
  pub too_wide : Bool
  pub timer_faults : Bool

-- of several causes the first of these
abbrev pub first_cause : Causes → Option Refusal
first_cause causes = first_of_all (
    then_some causes.failed Failed
    ∷ option_map NotHeld causes.not_held
    ∷ then_some causes.too_many TooMany
    ∷ then_some causes.too_wide TooWide
    ∷ then_some causes.timer_faults TimerFault
    ∷ [])
