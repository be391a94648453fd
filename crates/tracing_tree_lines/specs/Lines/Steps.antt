-- What one line does to a layer, and what lines do to it one after another.
use Rattle.std.specs.Prelude.{◌≡◌, ℕ, true, false, List, Option, Some, option_map, IfSome, Result, Ok, Err}
use Rattle.serde_json.specs.Data.{Data}
use Rattle.tracing_tree_base.specs.declared.context.Context.{Context}
use Rattle.tracing_tree_base.specs.declared.context.Refusal.{Refusal}
use Rattle.tracing_tree_layer.specs.Layered.Seen.{Seen}
use Rattle.tracing_tree_layer.specs.Layer.Layers.{LayeredView, Changes, Flushes}
use Rattle.tracing_tree_layer.specs.Layered.Answered.{IsAnswered}
use Rattle.tracing_tree_lines.specs.Lines.Spelled.{input_lines, is_skipped, call_named, SpellsCall, SpellsNothing}
use Rattle.tracing_tree_lines.specs.Lines.Runs.{RunsOver, CountsEnd, MakesCalls}
use Rattle.tracing_tree_lines.specs.Lines.Reads.{TakesLine, HasNoLine}
use Rattle.tracing_tree_layer.specs.declared.call.Call.{Call}
use Rattle.tracing_tree_layer.specs.declared.call.Reply.{Reply}
use Rattle.tracing_tree_lines.specs.declared.lines.Judged.{Judged}
use Rattle.tracing_tree_lines.specs.declared.lines.Judged.TheVariants.{End, Skipped, Accepted}
use Rattle.tracing_tree_lines.specs.declared.lines.LineCause.{LineCause}
use Rattle.tracing_tree_lines.specs.declared.lines.LineCause.TheVariants.{Settings as NoSettings, NotACall, Read, Memory, Refused}
use Rattle.tracing_tree_lines.specs.declared.lines.LineFault.{LineFault}

-- the answers that a call may get, and the effect of each on a receiver
abbrev pub Answering : Type 0 → Type 1
Answering S = Call → Result Reply Refusal → S → S → Type 0

-- an encoded call got this answer
pub record Answers {S : Type 0} (Answered : Answering S) (Spells : Call → Type 0)
    (answer : Result Reply Refusal) (old new : S) : Type 0 where
  pub call : Call
  pub spelled : Spells call
  pub answered : Answered call answer old new

-- the encoded call was made; if no call is encoded, or memory ran out before, nothing has changed
abbrev pub MakesSpelled : {S : Type 0} → Answering S → (Call → Type 0) → Result Reply LineCause
    → S → S → Type 0
MakesSpelled Answered Spells (Ok reply) old new = Answers Answered Spells (Ok reply) old new
MakesSpelled Answered Spells (Err NoSettings) old new = ⊥
MakesSpelled Answered Spells (Err NotACall) old new =
    ((call : Call) → ¬ Spells call) × (new ≡ old)
MakesSpelled Answered Spells (Err Read) old new = ⊥
MakesSpelled Answered Spells (Err Memory) old new = new ≡ old
MakesSpelled Answered Spells (Err (Refused refusal)) old new =
    Answers Answered Spells (Err refusal) old new

-- the same of the call with this word
abbrev pub MakesNamed : {S : Type 0} → Answering S → List ℕ → Data → Context
    → Result Reply LineCause → S → S → Type 0
MakesNamed Answered word value context =
    MakesSpelled Answered (λ call. call_named word value context ≡ Some call)

-- the first line of the input encodes a call, and the call got this answer
pub record MakesCall (known left : Option (List ℕ)) (answer : Result Reply Refusal)
    (old new : Seen) : Type 0 where
  pub line : List ℕ
  pub first : TakesLine known left line
  pub judged : is_skipped line ≡ false
  pub made : Answers IsAnswered (SpellsCall line) answer old new

-- the first line of the input is skipped
pub record SkipsLine (known left : Option (List ℕ)) : Type 0 where
  pub line : List ℕ
  pub first : TakesLine known left line
  pub blank : is_skipped line ≡ true

-- the first line of the input encodes nothing
pub record FailsLine (known left : Option (List ℕ)) : Type 0 where
  pub line : List ℕ
  pub first : TakesLine known left line
  pub nothing : SpellsNothing line

-- the outcome of the first line of the input; if no call was made, nothing has changed
abbrev pub JudgesLine : Option (List ℕ) → Option (List ℕ) → Result Judged LineCause → Seen → Seen
    → Type 0
JudgesLine known left (Ok End) old new = HasNoLine known × (new ≡ old)
JudgesLine known left (Ok Skipped) old new = SkipsLine known left × (new ≡ old)
JudgesLine known left (Ok Accepted) old new =
    (reply : Reply) × MakesCall known left (Ok reply) old new
JudgesLine known left (Err NoSettings) old new = ⊥
JudgesLine known left (Err NotACall) old new = FailsLine known left × (new ≡ old)
JudgesLine known left (Err Read) old new = new ≡ old
JudgesLine known left (Err Memory) old new = new ≡ old
JudgesLine known left (Err (Refused refusal)) old new = MakesCall known left (Err refusal) old new

-- the writer may have flushed before the first line of the input was judged
pub record ShowsAndJudges {W FT : Type 0} (see : LayeredView W FT → Seen)
    (known left : Option (List ℕ)) (result : Result Judged LineCause)
    (old new : LayeredView W FT) : Type 0 where
  pub shown : LayeredView W FT
  pub flushed : Changes see Flushes old shown
  pub judged : Changes see (JudgesLine known left result) shown new

-- a run over what is left of the input, if that is known, and the count of the writer's faults
pub record EndsLines {W FT : Type 0} (see : LayeredView W FT → Seen) (known : Option (List ℕ))
    (accepted : ℕ) (fault : Option LineFault) (old new : LayeredView W FT) : Type 0 where
  pub ran : IfSome known (λ input.
      RunsOver (input_lines input) accepted fault (see old) (see new).writer
      (MakesCalls see old new))
  pub counted : CountsEnd (option_map (λ fault. fault.cause) fault) (see old).writer.faults
      (see new).writer.faults
