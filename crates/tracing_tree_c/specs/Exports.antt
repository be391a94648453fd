-- The answers and effects of the functions that C calls.
use Rattle.std.specs.Prelude.{◌<◌, ◌≤◌, ◌++◌, ◌⊎◌, List, [], drop, length, ◌≡◌, ◌≢◌, ℕ, Bool, None, Some, Result, Ok, Err}
use Rattle.tracing_tree_base.specs.declared.context.Refusal.{Refusal}
use Rattle.tracing_tree_base.specs.declared.context.Refusal.TheVariants.{NotHeld, TooWide, TooMany, Memory, Timer as TimerFault, Writer, Failed}
use Rattle.tracing_tree_time.specs.Clock.{Timer}
use Rattle.tracing_tree_layer.specs.declared.call.Reply.{Reply}
use Rattle.tracing_tree_layer.specs.declared.call.Reply.TheVariants.{Span, Closed}
use Rattle.tracing_tree_c.specs.Owned.{Contents}
use Rattle.tracing_tree_c.specs.Trees.{Makes, current_id, seen_tree}
use Rattle.tracing_tree_c.specs.Settings.{CanOpen, new_tree_seen, timer_of}
use Rattle.tracing_tree_c.specs.declared.foreign.Unreadable.TheVariants as Fault
use Rattle.tracing_tree_c.specs.declared.drawing.Drawing.{Drawing}
use Rattle.tracing_tree_c.specs.declared.settings.SettingsRef.{SettingsRef}
use Rattle.tracing_tree_c.specs.declared.outcome.Opening.{Opening}
use Rattle.tracing_tree_c.specs.declared.outcome.Opening.TheVariants.{Opened, There, OtherSize, Unknown, Starved}
use Rattle.tracing_tree_c.specs.declared.outcome.Outcome.{Outcome}
use Rattle.tracing_tree_c.specs.declared.outcome.Outcome.TheVariants.{Missing, NotRead, Answered}

-- the number of each outcome
abbrev pub refusal_status : Refusal → ℕ
refusal_status (NotHeld id) = 1
refusal_status TooWide = 2
refusal_status TooMany = 3
refusal_status Memory = 4
refusal_status TimerFault = 5
refusal_status Writer = 4
refusal_status Failed = 6

abbrev pub status_of : Outcome → ℕ
status_of Missing = 7
status_of (NotRead Fault.NotUtf8) = 8
status_of (NotRead Fault.Unknown) = 9
status_of (NotRead Fault.Starved) = 4
status_of (Answered (Ok reply)) = 0
status_of (Answered (Err refusal)) = refusal_status refusal

-- the id of a new span, in place of the old value
abbrev pub id_after : Outcome → ℕ → ℕ
id_after (Answered (Ok (Span id))) before = id.0
id_after outcome before = before

-- whether a span closed, in place of the old value
abbrev pub went_after : Outcome → Bool → Bool
went_after (Answered (Ok (Closed went))) before = went
went_after outcome before = before

-- the answer to an act, and what it leaves
abbrev pub Answers : Type 0 → Type 0 → Type 0 → (Result Reply Refusal → Drawing → Drawing → Type 0)
    → ℕ → Contents → Contents → Type 0
Answers IsKnown IsText IsSmall Does status old new =
    (outcome : Outcome) × (status ≡ status_of outcome)
    × Makes IsKnown IsText IsSmall Does outcome old new

-- the same, with the value that it stores for C
abbrev pub AnswersWith : {A : Type 0} → (Outcome → A → A) → Type 0 → Type 0 → Type 0
    → (Result Reply Refusal → Drawing → Drawing → Type 0) → ℕ → A → A → Contents → Contents → Type 0
AnswersWith after IsKnown IsText IsSmall Does status before later old new =
    (outcome : Outcome) × (status ≡ status_of outcome) × (later ≡ after outcome before)
    × Makes IsKnown IsText IsSmall Does outcome old new

abbrev pub IsOpened : SettingsRef → Contents → Type 0
IsOpened given None = ⊥
IsOpened given (Some new) =
    (timer : Timer) × (timer_of given ≡ Some timer) × (seen_tree new ≡ new_tree_seen given timer)
    × (new.entered ≡ [])

abbrev pub opening_status : Opening → ℕ
opening_status Opened = 0
opening_status There = 10
opening_status OtherSize = 11
opening_status Unknown = 12
opening_status Starved = 4

-- A tree is made. Or nothing has changed: a tree exists already, the settings have another size or
-- are invalid, or memory ran out.
abbrev pub Opens : SettingsRef → Opening → Contents → Contents → Type 0
Opens given Opened old new = (old ≡ None) × CanOpen given × IsOpened given new
Opens given There old new = (old ≢ None) × (new ≡ old)
Opens given OtherSize old new = (old ≡ None) × (given.size ≢ 56) × (new ≡ None)
Opens given Unknown old new =
    (old ≡ None) × (given.size ≡ 56) × (CanOpen given → ⊥) × (new ≡ None)
Opens given Starved old new = (old ≡ None) × CanOpen given × (new ≡ None)

abbrev pub AnswersOpening : SettingsRef → ℕ → Contents → Contents → Type 0
AnswersOpening given status old new =
    (opening : Opening) × (status ≡ opening_status opening) × Opens given opening old new

-- A text is at the front of the buffer, followed by the rest that it held, if all of it fits;
-- otherwise the buffer is unchanged.
pub record IsCopied (text : List ℕ) (count : ℕ) (before after : List ℕ) : Type 0 where
  pub counted : count ≡ length text
  pub fits : length text ≤ length before → after ≡ text ++ drop (length text) before
  pub lacks : length before < length text → after ≡ before

-- the same; or memory ran out, and nothing is there
abbrev pub IsWritten : List ℕ → ℕ → List ℕ → List ℕ → Type 0
IsWritten text count before after =
    IsCopied text count before after ⊎ ((count ≡ 0) × (after ≡ before))

-- the text of the last call is copied; the tree stays
abbrev pub Copies : ℕ → List ℕ → List ℕ → Contents → Contents → Type 0
Copies count before after None new = (count ≡ 0) × (after ≡ before) × (new ≡ None)
Copies count before after (Some old) new =
    IsCopied old.layered.layer.writer.bytes count before after × (new ≡ Some old)

-- the id of the innermost entered span that is live, or 0; the tree stays
abbrev pub IsCurrent : ℕ → Contents → Contents → Type 0
IsCurrent id None new = (id ≡ 0) × (new ≡ None)
IsCurrent id (Some old) new = (id ≡ current_id old) × (new ≡ Some old)
