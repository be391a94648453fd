-- What a tracer is, the calls that it makes, and what each of its methods leaves.
use Rattle.std.specs.Prelude.{◌≡◌, ℕ, zero, suc, ◌-◌, List, [], ◌∷◌, ◌++◌, length, take, slice_get, Option, None, Some, Result, Ok, Err, Bool}
use Rattle.tracing_tree_base.specs.declared.context.Id.{Id}
use Rattle.tracing_tree_base.specs.declared.context.Moment.{Moment}
use Rattle.tracing_tree_base.specs.declared.context.Context.{Context}
use Rattle.tracing_tree_base.specs.declared.context.Refusal.{Refusal}
use Rattle.tracing_tree_base.specs.declared.field.Field.{Field}
use Rattle.tracing_tree_base.specs.declared.style.Level.{Level}
use Rattle.tracing_tree_spans.specs.declared.registry.Parent.TheVariants.{Current}
use Rattle.tracing_tree_layer.specs.declared.call.Call.{Call}
use Rattle.tracing_tree_layer.specs.declared.call.Call.TheVariants.{New, Record, Event, Close}
use Rattle.tracing_tree_layer.specs.declared.call.Reply.{Reply}
use Rattle.tracing_tree_layer.specs.declared.call.Reply.TheVariants.{Span, Done, Closed}
use Rattle.tracing_tree_tracer.specs.declared.tracer.TraceFault.{TraceFault}
use Rattle.tracing_tree_tracer.specs.declared.tracer.TraceFault.TheVariants.{NoSpan, NoMoment, Memory, Refused}
use Rattle.tracing_tree_tracer.specs.Values.{message_field}

-- the origin of all that a tracer reports: the target and the thread
pub record Emitter : Type 0 where
  pub target : List ℕ
  pub thread_id : ℕ
  pub thread_name : Option (List ℕ)

-- a tracer: its receiver of calls, its clock, its origin, and the spans that are open, outermost
-- first
pub record TracerView (C N : Type 0) : Type 0 where
  pub layered : C
  pub clock : N
  pub emitter : Emitter
  pub spans : List Id

-- the current span: the last of those that are open
abbrev pub current_of : List Id → Option Id
current_of spans = slice_get spans (length spans - 1)

-- the ancestors of the current span
abbrev pub outer_of : List Id → List Id
outer_of spans = take (length spans - 1) spans

-- ---- the calls

-- the context of a call in this current span
abbrev pub context_in : Emitter → Option Id → Moment → Context
context_in emitter current moment = record {
  current = current;
  thread_id = emitter.thread_id;
  thread_name = emitter.thread_name;
  moment = moment;
}

abbrev pub open_call : Emitter → List Id → List ℕ → List Field → Moment → Call
open_call emitter spans name fields moment =
    New (record { name = name; target = emitter.target; parent = Current; fields = fields })
    (context_in emitter (current_of spans) moment)

abbrev pub event_call : Emitter → List Id → Level → List ℕ → List Field → Moment → Call
event_call emitter spans level message fields moment =
    Event (record {
      level = level;
      target = emitter.target;
      parent = Current;
      fields = message_field message ∷ fields;
    }) (context_in emitter (current_of spans) moment)

-- a span is left before it is closed
abbrev pub close_call : Emitter → List Id → Id → Moment → Call
close_call emitter spans id moment =
    Close id (context_in emitter (current_of (outer_of spans)) moment)

abbrev pub record_call : List Field → Id → Call
record_call fields id = Record id (record { fields = fields })

-- ---- the outcome of a call

-- the open spans after a span was opened, if it was
abbrev pub after_open : List Id → Result Id TraceFault → List Id
after_open spans (Ok id) = spans ++ id ∷ []
after_open spans (Err fault) = spans

-- the open spans after the current one was closed, if it was
abbrev pub after_close : List Id → Result Bool TraceFault → List Id
after_close spans (Ok went) = outer_of spans
after_close spans (Err fault) = spans

-- the answer of a method, as the reply for its value
abbrev pub reply_as : {A : Type 0} → (A → Reply) → Result A TraceFault → Result Reply TraceFault
reply_as reply (Ok value) = Ok (reply value)
reply_as reply (Err fault) = Err fault

abbrev pub done : Unit {0} → Reply
done nothing = Done

-- a call was made and answered this way, or no call was made: the clock had no moment, possible
-- only if it may report no moment, or memory ran out
abbrev pub CameOf : (Result Reply Refusal → Type 0) → Type 0 → Type 0 → Result Reply TraceFault
    → Type 0
CameOf MadeWith Silent Unmade (Ok reply) = MadeWith (Ok reply)
CameOf MadeWith Silent Unmade (Err (Refused refusal)) = MadeWith (Err refusal)
CameOf MadeWith Silent Unmade (Err NoSpan) = ⊥
CameOf MadeWith Silent Unmade (Err NoMoment) = Silent × Unmade
CameOf MadeWith Silent Unmade (Err Memory) = Unmade

-- In what follows, `answers` says what the receiver may answer to a call, and what that leaves.
module _ {C : Type 0} (answers : Call → Result Reply Refusal → C → C → Type 0) where
  -- this call was made and answered this way
  abbrev pub Made : Call → C → C → Result Reply Refusal → Type 0
  Made call old new answer = answers call answer old new

  -- the call at a moment that the clock may report was made and answered this way
  abbrev pub MadeAt : (Option Moment → Type 0) → (Moment → Call) → C → C → Result Reply Refusal
      → Type 0
  MadeAt reads call old new answer =
      (moment : Moment) × reads (Some moment) × Made (call moment) old new answer

module _ {C N : Type 0} where
  -- what a method that makes one call leaves: these open spans, and nothing else changed if it made
  -- no call
  pub record Leaves (MadeFrom : C → C → Result Reply Refusal → Type 0) (Silent : Type 0)
      (spans : List Id) (answer : Result Reply TraceFault) (old new : TracerView C N) : Type 0 where
    pub made : CameOf (MadeFrom old.layered new.layered) Silent (new.layered ≡ old.layered) answer
    pub left : new ≡ record old { layered = new.layered; spans = spans }

module _ {C N : Type 0} (answers : Call → Result Reply Refusal → C → C → Type 0)
    (reads : N → Option Moment → Type 0) where
  -- a span was opened
  abbrev pub IsOpened : List ℕ → List Field → Result Id TraceFault → TracerView C N
      → TracerView C N → Type 0
  IsOpened name fields answer old new =
      Leaves (MadeAt answers (reads old.clock) (open_call old.emitter old.spans name fields))
      (reads old.clock None) (after_open old.spans answer) (reply_as Span answer) old new

  -- an event was reported
  abbrev pub IsEmitted : Level → List ℕ → List Field → Result (Unit {0}) TraceFault
      → TracerView C N → TracerView C N → Type 0
  IsEmitted level message fields answer old new =
      Leaves (MadeAt answers (reads old.clock) (event_call old.emitter old.spans level message
      fields))
      (reads old.clock None) old.spans (reply_as done answer) old new

  -- this span, which is the current one, was closed, if there is one
  abbrev pub IsClosedAs : Option Id → Result Bool TraceFault → TracerView C N
      → TracerView C N → Type 0
  IsClosedAs None answer old new = (answer ≡ Err NoSpan) × (new ≡ old)
  IsClosedAs (Some id) answer old new =
      Leaves (MadeAt answers (reads old.clock) (close_call old.emitter old.spans id))
      (reads old.clock None) (after_close old.spans answer) (reply_as Closed answer) old new

  abbrev pub IsClosed : Result Bool TraceFault → TracerView C N → TracerView C N → Type 0
  IsClosed answer old new = IsClosedAs (current_of old.spans) answer old new

  -- after this close the others follow, unless it was refused
  abbrev pub ThenCloses : (Result (Unit {0}) TraceFault → TracerView C N → TracerView C N → Type 0)
      → Result Bool TraceFault → Result (Unit {0}) TraceFault → TracerView C N → TracerView C N
      → Type 0
  ThenCloses Others (Ok went) answer between new = Others answer between new
  ThenCloses Others (Err fault) answer between new = (answer ≡ Err fault) × (new ≡ between)

  -- this count of spans was closed, each the current one, or as many as could be
  abbrev pub AreClosed : ℕ → Result (Unit {0}) TraceFault → TracerView C N → TracerView C N
      → Type 0
  AreClosed zero answer old new = (answer ≡ Ok tt) × (new ≡ old)
  AreClosed (suc n) answer old new =
      (first : Result Bool TraceFault) × (between : TracerView C N)
      × IsClosed first old between × ThenCloses (AreClosed n) first answer between new

  -- open spans were closed until this count was left
  abbrev pub AreClosedTo : ℕ → Result (Unit {0}) TraceFault → TracerView C N → TracerView C N
      → Type 0
  AreClosedTo depth answer old new = AreClosed (length old.spans - depth) answer old new

module _ {C N : Type 0} (answers : Call → Result Reply Refusal → C → C → Type 0) where
  -- fields were appended to those of the current span, if there is one
  abbrev pub IsRecordedAs : List Field → Option Id → Result (Unit {0}) TraceFault → TracerView C N
      → TracerView C N → Type 0
  IsRecordedAs fields None answer old new = (answer ≡ Err NoSpan) × (new ≡ old)
  IsRecordedAs fields (Some id) answer old new =
      Leaves (Made answers (record_call fields id)) ⊥ old.spans (reply_as done answer) old new

  abbrev pub IsRecorded : List Field → Result (Unit {0}) TraceFault → TracerView C N
      → TracerView C N → Type 0
  IsRecorded fields answer old new = IsRecordedAs fields (current_of old.spans) answer old new
