-- Lines of calls.
use Rattle.std.specs.Prelude.{ℕ, ℤ, pos, Bool, true, false, ◌&&◌, if◌then◌else◌, not, List, [], ◌∷◌, Option, Some, None, Result, Ok, Err, is_none, option_map, bytes_eq, codes}
use Rattle.std.specs.List.{list_any}
use Rattle.std.specs.Ordering.{int_eq}
use Rattle.json.specs.Json.{Json}
use Rattle.jiff_core.specs.declared.timestamp.Timestamp.{Timestamp}
use Rattle.serde_json.specs.Data.{Data}
use Rattle.serde_json.specs.Read.{read}
use Rattle.serde_json.specs.Written.{has_float}
use Rattle.tracing_tree_base.specs.declared.context.Moment.{Moment}
use Rattle.tracing_tree_layer.specs.declared.call.Call.{Call}
use Rattle.tracing_tree_layer.specs.declared.call.Reply.{Reply}
use Rattle.tracing_tree_lines.specs.declared.lines.LineCause.{LineCause}
use Rattle.tracing_tree_lines.specs.declared.lines.LineCause.TheVariants.{Settings as NoSettings, NotACall, Read, Memory, Refused}
use Rattle.tracing_tree_lines.specs.Lines.Spelled.{◌>>=◌, is_skipped, object_call, read_or, signed_value, whole_value}
use Rattle.ttree_source.specs.First.{call_words}
use Rattle.ttree_source.specs.Levels.{level_in}
use Rattle.ttree_source.specs.Moments.{instant_at, into_range}
use Rattle.ttree_source.specs.Source.{Step}
use Rattle.ttree_source.specs.Values.{text_at}
use Rattle.ttree_source.specs.declared.notes.Problem.{Problem}
use Rattle.ttree_source.specs.declared.notes.Problem.TheVariants.{Call as IsNoCall, CallName, Level as NoLevel, Member}

-- the instant at these nanoseconds since 1970, if there is one
abbrev pub instant_of : ℤ → Option Timestamp
instant_of n = if int_eq (into_range n) n then Some (instant_at n) else None

-- the moment that an object encodes
abbrev pub moment_in : Data → Option Moment
moment_in value = do
  mono ← read_or (Some 0) whole_value (codes "mono") value
  nanos ← read_or (Some (pos 0)) signed_value (codes "wall") value
  wall ← instant_of nanos
  Some (record { mono = mono; wall = wall })

-- the call that an object encodes
abbrev pub value_call : Data → Option Call
value_call value =
    if has_float value then None else moment_in value >>= object_call value

-- the call that a line encodes
abbrev pub line_call : List ℕ → Option Call
line_call line = read line >>= value_call

-- the calls of a line: a blank one has none
abbrev pub line_calls : List ℕ → Option (List Call)
line_calls line =
    if is_skipped line then Some [] else option_map (λ call. call ∷ []) (line_call line)

abbrev pub call_lines_takes : Unit {0} → List ℕ → Option Json → Option (Step (Unit {0}))
call_lines_takes s line value =
    option_map (λ calls. record { calls = calls; source = s }) (line_calls line)

abbrev pub call_lines_ends : Unit {0} → List Call
call_lines_ends s = []

abbrev pub call_lines_ended : Unit {0} → Unit {0}
call_lines_ended s = s

-- whether a line is known, by what came of making its call
abbrev pub is_known : Result Reply LineCause → Result Bool LineCause
is_known (Ok reply) = Ok true
is_known (Err NoSettings) = Err NoSettings
is_known (Err NotACall) = Ok false
is_known (Err Read) = Err Read
is_known (Err Memory) = Err Memory
is_known (Err (Refused refusal)) = Err (Refused refusal)

-- what an object lacks that has this name of a call
abbrev pub problem_of_named : List ℕ → Json → Problem
problem_of_named name value =
    if not (list_any (bytes_eq name) call_words) then CallName
    else if bytes_eq name (codes "event") && is_none (level_in value) then NoLevel
    else Member

-- what an object lacks that isn't a call: its name, a name that there is, an event's level, or else
-- a member
abbrev pub problem_of_call : Json → Problem
problem_of_call value = named (text_at (codes "call") value) where
  named : Option (List ℕ) → Problem
  named None = IsNoCall
  named (Some name) = problem_of_named name value

abbrev pub call_lines_problem : Option Json → Problem
call_lines_problem None = IsNoCall
call_lines_problem (Some value) = problem_of_call value
