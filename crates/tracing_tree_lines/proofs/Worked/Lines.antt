-- Worked examples of the program's lines.
use Rattle.std.specs.Prelude.{◌≡◌, ℕ, true, false, List, [], ◌∷◌, Option, Some, None, option_map, refl, codes, pos, encode_utf8_all}
use Rattle.std.proofs.Common.{inl, inr, arith}
use Rattle.std.specs.Char.{encode_utf8}
use Rattle.serde_json.proofs.OnLiterals.{serde_json_on_literals}
use Rattle.serde_json.specs.Data.{string, object, member, no_members}
use Rattle.serde_json.specs.Read.{read}
use Rattle.serde_json.specs.Written.{has_float}
use Rattle.tracing_tree_time.specs.Clock.{Timer, no_timer, local_timer, uptime_timer}
use Rattle.tracing_tree_base.specs.declared.context.Moment.{Moment}
use Rattle.tracing_tree_layer.specs.declared.call.Call.{Call}
use Rattle.tracing_tree_layer.specs.Layer.Layers.{LayeredView}
use Rattle.tracing_tree_layer.specs.Layered.State.{State, opening_state}
use Rattle.tracing_tree_layer.specs.Layered.Step.{state_after}
use Rattle.tracing_tree_layer.specs.declared.call.Reply.TheVariants.{Span}
use Rattle.tracing_tree_output.specs.declared.output.Output.{Ghosts as Output}
use Rattle.tracing_tree_spans.specs.Registry.Ids.{id_of}
use Rattle.tracing_tree_lines.specs.Lines.Runs.{LeavesRun, opened_with, seen_over}
use Rattle.tracing_tree_lines.proofs.CallsMade.{accepted_more, none_made}
use Rattle.tracing_tree_lines.specs.declared.lines.LineCause.TheVariants.{Settings as NoSettings, NotACall}
use Rattle.tracing_tree_lines.specs.Lines.Spelled.{Asked, object_settings, object_call, SpellsCall, SpellsNothing, input_lines, is_skipped, ◌>>=◌}
use Rattle.tracing_tree_layer.proofs.WorkedCalls.{plain, lined, start_of_1970, outside, inside, made, warned, closed}

-- what a first line sets
abbrev settings_of : List ℕ → Option Asked
settings_of line = read line >>= object_settings

-- only lines
pub lines_on : settings_of (codes "{\"indent_lines\":true}") ≡ Some (record lined { ansi = false }, no_timer)
unfolding serde_json_on_literals
lines_on = refl

-- all settings unchanged
pub no_settings : settings_of (codes "{}") ≡ Some (plain, no_timer)
unfolding serde_json_on_literals
no_settings = refl

-- a null counts as absent
pub null_setting : settings_of (codes "{\"indent_lines\":null}") ≡ Some (plain, no_timer)
unfolding serde_json_on_literals
null_setting = refl

-- a wraparound of 0
pub no_wraparound : settings_of (codes "{\"wraparound\":0}") ≡ None
unfolding serde_json_on_literals
no_wraparound = refl

-- an unknown key
pub unknown_setting : settings_of (codes "{\"colour\":true}") ≡ None
unfolding serde_json_on_literals
unknown_setting = refl

-- not an object
pub array_settings : settings_of (codes "[]") ≡ None
unfolding serde_json_on_literals
array_settings = refl

-- an empty string
pub nothing_at_all : settings_of (codes "") ≡ None
unfolding serde_json_on_literals
nothing_at_all = refl

-- a timer
pub local_setting : settings_of (codes "{\"timer\":{\"kind\":\"local\",\"offset\":19800}}") ≡ Some (plain, local_timer false (λ nanos. pos 19800))
unfolding serde_json_on_literals
local_setting = refl

-- another timer, with decimals
pub late_epoch : settings_of (codes "{\"timer\":{\"kind\":\"uptime\",\"epoch\":5,\"higher_precision\":true}}") ≡ Some (plain, uptime_timer true 5)
unfolding serde_json_on_literals
late_epoch = refl

-- a key that doesn't belong to the timer
pub needless_precision : settings_of (codes "{\"timer\":{\"kind\":\"none\",\"higher_precision\":true}}") ≡ None
unfolding serde_json_on_literals
needless_precision = refl

-- the default moment
abbrev pub no_moment : Moment
no_moment = record { mono = 0; wall = start_of_1970 }

-- what a line encodes at that moment
abbrev pub spelled_at_start : List ℕ → Option Call
spelled_at_start line = read line >>= (λ value. object_call value no_moment)

-- a new root
pub new_root : spelled_at_start (codes "{\"call\":\"new\",\"name\":\"a\"}") ≡ Some (made (codes "a") outside)
unfolding serde_json_on_literals
new_root = refl

-- a new child
pub new_child : spelled_at_start (codes "{\"call\":\"new\",\"name\":\"b\",\"current\":1}") ≡ Some (made (codes "b") (inside 1))
unfolding serde_json_on_literals
new_child = refl

-- an event
pub warning : spelled_at_start (codes "{\"call\":\"event\",\"level\":\"WARN\",\"fields\":[[\"message\",\"x\"]],\"current\":2}") ≡ Some (warned (codes "x") (inside 2))
unfolding serde_json_on_literals
warning = refl

-- a close
pub close_two : spelled_at_start (codes "{\"call\":\"close\",\"id\":2}") ≡ Some (closed 2)
unfolding serde_json_on_literals
close_two = refl

-- a truncated line
pub cut_short : spelled_at_start (codes "{\"call\":") ≡ None
unfolding serde_json_on_literals
cut_short = refl

-- an event without a level
pub no_level : spelled_at_start (codes "{\"call\":\"event\"}") ≡ None
unfolding serde_json_on_literals
no_level = refl

-- a float
pub float_id : spelled_at_start (codes "{\"call\":\"close\",\"id\":1.0}") ≡ None
unfolding serde_json_on_literals
float_id = refl

-- a negative id
pub negative_id : spelled_at_start (codes "{\"call\":\"new\",\"name\":\"a\",\"current\":-1}") ≡ None
unfolding serde_json_on_literals
negative_id = refl

-- an unknown key
pub unused_key : spelled_at_start (codes "{\"call\":\"new\",\"name\":\"a\",\"id\":\"z\"}") ≡ Some (made (codes "a") outside)
unfolding serde_json_on_literals
unused_key = refl

-- a line with a float under any key encodes no call
pub float_anywhere : option_map has_float (read (codes "{\"call\":\"new\",\"name\":\"a\",\"x\":1.5}")) ≡ Some true
unfolding serde_json_on_literals
float_anywhere = refl

-- the first line of calls encodes the first call
pub first_line : SpellsCall (codes "{\"call\":\"new\",\"name\":\"a\"}") (made (codes "a") outside)
unfolding serde_json_on_literals encode_utf8
first_line = record {
  text = (codes "{\"call\":\"new\",\"name\":\"a\"}", (refl, refl));
  value = object (member (codes "call") (string (codes "new")) (member (codes "name") (string (codes "a")) no_members));
  moment = no_moment;
  reads = refl;
  no_float = refl;
  timed = record { mono = refl; wall = refl };
  spelled = refl;
}

-- lines
pub three_lines : input_lines (codes "a\n\nb\n") ≡ codes "a" ∷ [] ∷ codes "b" ∷ []
three_lines = refl

pub blank_line : is_skipped (codes " \t\r") ≡ true
blank_line = refl

-- a writer in memory, which is what it holds
abbrev in_memory : Output (List ℕ)
in_memory = record {
  contents = λ bytes. Some bytes;
  fault_count = λ bytes. 0;
  WHOLE = true;
  holds_back = λ bytes. false;
  stuck = λ bytes. false;
}

-- an input without lines has the fault of the settings
no_first_line : {A : Type 0} {x : A} {xs : List A} → [] ≡ x ∷ xs → ⊥
no_first_line e = cc

pub empty_input : LeavesRun in_memory [] 0 (Some (record { line = 1; cause = NoSettings })) [] []
empty_input = inl (NoSettings, (λ settings timer others begins. no_first_line begins.1), refl, refl, refl)

-- ---- whole inputs

-- only settings
pub settings_alone : LeavesRun in_memory (codes "{}") 0 None [] []
unfolding serde_json_on_literals encode_utf8
settings_alone = inr (
  plain,
  no_timer,
  [],
  (codes "{}", refl, ((codes "{}", (refl, refl)), refl)),
  opened_with plain no_timer [],
  refl,
  record {
    judged = 0;
    within = omega arith;
    cause = None;
    blamed = refl;
    counted = omega arith;
    unjudged = λ last. tt;
    calls = [];
    spelled = tt;
    count = refl;
    taken = refl;
    all = λ none. refl;
    ends = tt;
    front = [];
    left = refl;
    appends = refl;
    made = none_made (seen_over in_memory) (opened_with plain no_timer []);
  },
)

not_some : {A B : Type 0} {x : A} → Some x ≡ None → B
not_some e = cc

not_none : {A B : Type 0} {x : A} → None ≡ Some x → B
not_none e = cc

-- a truncated line encodes nothing
pub cut_short_spells_nothing : SpellsNothing (codes "{\"call\":")
unfolding serde_json_on_literals
cut_short_spells_nothing = (refl, λ call spelled. not_none spelled.reads)

-- what the first call leaves
abbrev after_first : LayeredView (List ℕ) Timer
after_first =
    let opened : LayeredView (List ℕ) Timer = opened_with lined no_timer [] in
    let state : State = state_after lined no_timer (opening_state (Some (id_of 1))) (made (codes "a") outside) in
    record {
      forest = state.forest;
      layer = record opened.layer { writer = encode_utf8_all (codes "┐a \n"); last = state.last };
    }

-- the run ends at such a line, with what was drawn before it
pub ended_early : LeavesRun in_memory (codes "{\"indent_lines\":true}\n{\"call\":\"new\",\"name\":\"a\"}\n{\"call\":") 1
    (Some (record { line = 3; cause = NotACall })) [] (encode_utf8_all (codes "┐a \n"))
unfolding serde_json_on_literals encode_utf8
ended_early = inr (
  lined,
  no_timer,
  codes "{\"call\":\"new\",\"name\":\"a\"}" ∷ codes "{\"call\":" ∷ [],
  (codes "{\"indent_lines\":true}", refl, ((codes "{\"indent_lines\":true}", (refl, refl)), refl)),
  after_first,
  refl,
  record {
    judged = 1;
    within = omega arith;
    cause = Some NotACall;
    blamed = refl;
    counted = omega arith;
    unjudged = λ last. absurd (omega (arith, last));
    calls = made (codes "a") outside ∷ [];
    spelled = (first_line, tt);
    count = refl;
    taken = refl;
    all = λ none. not_some none;
    ends = cut_short_spells_nothing;
    front = [];
    left = refl;
    appends = refl;
    made = accepted_more (seen_over in_memory) [] (made (codes "a") outside) (Span (id_of 1)) (opened_with lined no_timer []) (opened_with lined no_timer []) after_first
        (none_made (seen_over in_memory) (opened_with lined no_timer []))
        (record { changed = record { allowed = (refl, refl); left = refl; written = (refl, refl) }; fixed = refl });
  },
)
