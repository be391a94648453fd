-- What timers do with strings.
use Rattle.std.specs.Prelude.{◌≡◌, ◌≢◌, ℕ, List, [], ◌++◌, Option, None, Result, Ok, Err, IsSomeAnd, ⊤}
use Rattle.tracing_tree_base.specs.declared.context.Refusal.{Refusal}
use Rattle.tracing_tree_base.specs.declared.context.Refusal.TheVariants as Refused
use Rattle.tracing_tree_time.specs.declared.timer.TimeFault.{TimeFault}
use Rattle.tracing_tree_time.specs.declared.timer.TimeFault.TheVariants.{Memory, Fault}

-- a timer appended what it states, or changed nothing: its value is invalid, or memory ran out
abbrev pub AppendsStated : Option (List ℕ) → List ℕ → List ℕ → Result (Unit {0}) TimeFault → Type 0
AppendsStated stated old new (Ok done) = IsSomeAnd stated (λ text. new ≡ old ++ text)
AppendsStated stated old new (Err Memory) = new ≡ old
AppendsStated stated old new (Err Fault) = (stated ≡ None) × (new ≡ old)

-- a timer runs out of memory only if it has a nonempty string
abbrev pub AsksForText : Option (List ℕ) → Result (Unit {0}) TimeFault → Type 0
AsksForText stated (Ok done) = ⊤
AsksForText stated (Err Memory) = IsSomeAnd stated (λ text. text ≢ [])
AsksForText stated (Err Fault) = ⊤

-- a fault of a timer as a refusal of a call
abbrev pub RefusesFault : TimeFault → Refusal → Type 0
RefusesFault Memory refusal = refusal ≡ Refused.Memory
RefusesFault Fault refusal = refusal ≡ Refused.Timer
