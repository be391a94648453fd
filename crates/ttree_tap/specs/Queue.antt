-- The calls that weren't returned yet. With --failed only what failed is returned.
use Rattle.std.specs.Prelude.{ℕ, ◌==◌, ◌&&◌, ◌||◌, Bool, true, false, not, if◌then◌else◌, List, [], ◌∷◌, ◌++◌, length, take, Option, Some, None}
use Rattle.std.specs.List.{starts_with}
use Rattle.tracing_tree_base.specs.declared.field.Field.{Field}
use Rattle.tracing_tree_layer.specs.declared.call.Call.{Call}
use Rattle.tracing_tree_layer.specs.declared.call.Call.TheVariants.{New, Clone, Record, Event, Close}
use Rattle.ttree_source.specs.Marks.{is_empty}
use Rattle.ttree_tap.specs.declared.queue.Line.{Line}
use Rattle.ttree_tap.specs.declared.queue.Role.{Role}
use Rattle.ttree_tap.specs.declared.queue.Role.TheVariants.{Good, End, Failure, Output, Comment, Opening, Closing}

-- Whether only what failed is returned, the calls to return, those that are held until a failure
-- comes, for each open span that is held (the innermost first) how many calls are held up to its
-- own, the lines since the last result or since a span opened, and whether the last result failed.
pub record QueueState : Type 0 where
  pub is_failed_only : Bool
  pub ready : List Call
  pub held : List Call
  pub opens : List ℕ
  pub lines : List Line
  pub is_after_failure : Bool

abbrev pub empty_queue : Bool → QueueState
empty_queue is_failed_only = record {
  is_failed_only = is_failed_only;
  ready = [];
  held = [];
  opens = [];
  lines = [];
  is_after_failure = false;
}

abbrev pub readied : Call → QueueState → QueueState
readied call q = record q { ready = q.ready ++ call ∷ [] }

abbrev pub held_too : Call → QueueState → QueueState
held_too call q = record q { held = q.held ++ call ∷ [] }

-- how many calls are held up to that of the innermost span
abbrev pub base_of : List ℕ → ℕ
base_of [] = 0
base_of (base ∷ others) = base

-- what is held since the innermost span opened is left out, and so are the lines since then
abbrev pub let_go : QueueState → QueueState
let_go q = record q { held = take (base_of q.opens) q.held; lines = [] }

-- ---- the lines before a test

-- a string is a part of another
abbrev pub has_part : List ℕ → List ℕ → Bool
has_part part [] = is_empty part
has_part part (byte ∷ rest) =
    starts_with (λ a b. a == b) (byte ∷ rest) part || has_part part rest

abbrev pub value_in : List Field → List ℕ
value_in [] = []
value_in (field ∷ others) = field.value

-- what an event says
abbrev pub message_of : Call → List ℕ
message_of (Event event context) = value_in event.fields
message_of (New attributes context) = []
message_of (Clone id) = []
message_of (Record id record_of_it) = []
message_of (Close id context) = []

-- a comment that has the name of a test belongs to it, as the kernel's do
abbrev pub is_named : List ℕ → Line → Bool
is_named name line =
    line.is_comment && not (is_empty name) && has_part name (message_of line.call)

abbrev pub claimed_line : Bool → Line → List Call
claimed_line is_named line = if is_named || not line.is_comment then line.call ∷ [] else []

-- Of the lines before a test, output belongs to it, and so does each comment from the first that
-- has its name on. Other comments belong to what came before them.
abbrev pub claimed_lines : Bool → List ℕ → List Line → List Call
claimed_lines was_named name [] = []
claimed_lines was_named name (line ∷ others) =
    claimed_line (was_named || is_named name line) line
    ++ claimed_lines (was_named || is_named name line) name others

-- the lines that belong to the test of this name are held
unfoldable pub claimed : List ℕ → QueueState → QueueState
claimed name q = record q { held = q.held ++ claimed_lines false name q.lines; lines = [] }

-- ---- calls

-- a result that didn't fail is left out, and so are the lines before it
abbrev pub good_added : QueueState → QueueState
good_added q = record (let_go q) { is_after_failure = false }

-- the result of a span with a failure is returned
abbrev pub end_added : Call → QueueState → QueueState
end_added call q = if length q.opens == 0 then readied call (good_added q) else good_added q

-- a failure, the spans that it is in, and the lines that belong to it are returned
abbrev pub failure_after : Call → QueueState → QueueState
failure_after call q = record q {
  ready = (q.ready ++ q.held) ++ call ∷ [];
  held = [];
  opens = [];
  is_after_failure = true;
}

-- what fails without a name has no comments
abbrev pub failure_added : Call → QueueState → QueueState
failure_added call q = failure_after call (claimed [] q)

abbrev pub line_kept : Bool → Call → QueueState → QueueState
line_kept is_comment call q =
    record q { lines = q.lines ++ (record { call = call; is_comment = is_comment }) ∷ [] }

-- lines after a failure belong to it; other lines are kept until the next test
abbrev pub line_added : Bool → Call → QueueState → QueueState
line_added is_comment call q =
    if q.is_after_failure then readied call q else line_kept is_comment call q

abbrev pub opening_after : Call → QueueState → QueueState
opening_after call q = record (held_too call q) {
  opens = length (q.held ++ call ∷ []) ∷ q.opens;
  is_after_failure = false;
}

-- a span is held until something in it fails
abbrev pub opening_added : Call → QueueState → QueueState
opening_added call q = opening_after call (claimed [] q)

-- a span is left out if it is still held when it closes
abbrev pub closing_added_to : List ℕ → Call → QueueState → QueueState
closing_added_to [] call q = readied call (let_go q)
closing_added_to (base ∷ others) call q = let_go (record q { opens = others })

abbrev pub failed_added : Role → Call → QueueState → QueueState
failed_added Good call q = good_added q
failed_added End call q = end_added call q
failed_added Failure call q = failure_added call q
failed_added Output call q = line_added false call q
failed_added Comment call q = line_added true call q
failed_added Opening call q = opening_added call q
failed_added Closing call q = closing_added_to q.opens call q

-- adds a call
unfoldable pub call_added : Role → Call → QueueState → QueueState
call_added role call q = if q.is_failed_only then failed_added role call q else readied call q

-- the innermost span is held, so its close leaves it out
abbrev pub is_held : QueueState → Bool
is_held q = q.is_failed_only && not (length q.opens == 0)
