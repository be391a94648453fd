-- A receiver that leaves out events below a level.
use Rattle.std.specs.Prelude.{◌≡◌, Bool, true, false, Result, Ok}
use Rattle.tracing_tree_base.specs.declared.context.Refusal.{Refusal}
use Rattle.tracing_tree_base.specs.declared.style.Level.{Level}
use Rattle.tracing_tree_layer.specs.declared.call.Call.{Call}
use Rattle.tracing_tree_layer.specs.declared.call.Reply.{Reply}
use Rattle.tracing_tree_layer.specs.declared.call.Reply.TheVariants.{Done}
use Rattle.ttree_source.specs.Levels.{is_shown}

-- a receiver, and the minimum level of the events that it gets
pub record LeveledCalls (C : Type 0) : Type 0 where
  pub receiver : C
  pub min_level : Level

module _ {C : Type 0} where
  -- the receiver answers the call, or the call is accepted and nothing happens
  abbrev pub PassesOn : Bool → (C → C → Type 0) → Result Reply Refusal → LeveledCalls C
      → LeveledCalls C → Type 0
  PassesOn true Answers answer old new =
      Answers old.receiver new.receiver × (new.min_level ≡ old.min_level)
  PassesOn false Answers answer old new = (answer ≡ Ok Done) × (new ≡ old)

  abbrev pub leveled_answers : (Call → Result Reply Refusal → C → C → Type 0) → Call
      → Result Reply Refusal → LeveledCalls C → LeveledCalls C → Type 0
  leveled_answers answers call answer old new =
      PassesOn (is_shown old.min_level call) (answers call answer) answer old new

  abbrev pub leveled_flushes : (C → C → Type 0) → LeveledCalls C → LeveledCalls C → Type 0
  leveled_flushes flushes old new =
      flushes old.receiver new.receiver × (new.min_level ≡ old.min_level)
