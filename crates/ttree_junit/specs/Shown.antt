-- Each case of a document is shown once.
use Rattle.std.specs.Prelude.{◌≡◌, ℕ, Bool, true, false, List, [], ◌∷◌, ◌++◌, flat_map, Option, Some, None, codes, ⊤}
use Rattle.tracing_tree_base.specs.declared.context.Id.{Id}
use Rattle.tracing_tree_base.specs.declared.context.Moment.{Moment}
use Rattle.tracing_tree_base.specs.declared.style.Level.{Level}
use Rattle.tracing_tree_base.specs.declared.style.Level.TheVariants.{Info}
use Rattle.tracing_tree_layer.specs.declared.call.Call.{Call}
use Rattle.tracing_tree_layer.specs.declared.call.Call.TheVariants.{New, Clone, Record, Event, Close}
use Rattle.ttree_source.specs.Calls.{close_call, event_call, message_field, span_call}
use Rattle.ttree_junit.specs.Case.{bare_case_fields, case_end_fields, is_bare, level_of_outcome, outcome_of, time_fields}
use Rattle.ttree_junit.specs.Plain.{plain_calls}
use Rattle.ttree_junit.specs.Reading.{row_calls, tally_fields}
use Rattle.ttree_junit.specs.Said.{Said, Said.TestCase, Said.SuiteFailure, Said.SuiteOutput, Said.Around}
use Rattle.ttree_junit.specs.States.{CaseState}
use Rattle.ttree_junit.specs.declared.reading.Tally.{Tally}

-- a case with nothing more to show is one event, with its outcome and its name
abbrev pub IsCaseEvent : Moment → CaseState → List Call → Type 0
IsCaseEvent moment case calls =
    (at : Option Id)
    × (calls
    ≡ event_call moment (level_of_outcome (outcome_of case)) (bare_case_fields case) at ∷ [])

-- any other is one span of its name: the events of its parts, and its outcome last
abbrev pub IsCaseSpan : Moment → CaseState → List Call → Type 0
IsCaseSpan moment case calls =
    (id : Id) × (at : Option Id)
    × (calls ≡ span_call moment case.name case.fields at ∷ []
    ++ row_calls moment (Some id) case.rows
    ++ event_call moment (level_of_outcome (outcome_of case)) (case_end_fields case) (Some id)
    ∷ close_call moment id at ∷ [])

abbrev pub IsCaseShown : Bool → Moment → CaseState → List Call → Type 0
IsCaseShown true moment case calls = IsCaseEvent moment case calls
IsCaseShown false moment case calls = IsCaseSpan moment case calls

-- the calls that show what is said
abbrev pub Shows : Moment → Said → List Call → Type 0
Shows moment (TestCase case) calls = IsCaseShown (is_bare case) moment case calls
Shows moment (SuiteFailure rows) calls = (at : Option Id) × (calls ≡ row_calls moment at rows)
Shows moment (SuiteOutput rows) calls = (at : Option Id) × (calls ≡ row_calls moment at rows)
Shows moment (Around text) calls = calls ≡ plain_calls moment text

-- What else is called: a suite or a class opens or closes, or a suite gets a property; a suite with
-- a time ends; or the cases are counted.
abbrev pub is_event : Call → Bool
is_event (New attributes context) = false
is_event (Clone id) = false
is_event (Record id fields) = false
is_event (Event event context) = true
is_event (Close id context) = false

pub data Item : Type 0 where
  Shown : Said → List Call → Item
  Frame : Call → Item
  SuiteEnd : Option ℕ → Option Id → Call → Item
  Counts : Tally → Level → Call → Item

abbrev pub said_in : Item → List Said
said_in (Shown said calls) = said ∷ []
said_in (Frame call) = []
said_in (SuiteEnd time at call) = []
said_in (Counts tally level call) = []

abbrev pub calls_in : Item → List Call
calls_in (Shown said calls) = calls
calls_in (Frame call) = call ∷ []
calls_in (SuiteEnd time at call) = call ∷ []
calls_in (Counts tally level call) = call ∷ []

abbrev pub IsRight : Moment → Item → Type 0
IsRight moment (Shown said calls) = Shows moment said calls
IsRight moment (Frame call) = is_event call ≡ false
IsRight moment (SuiteEnd time at call) =
    call ≡ event_call moment Info (message_field (codes "end") ∷ time_fields time) at
IsRight moment (Counts tally level call) = call ≡ event_call moment level (tally_fields tally) None

abbrev pub AllRight : Moment → List Item → Type 0
AllRight moment [] = ⊤
AllRight moment (item ∷ items) = IsRight moment item × AllRight moment items

-- The calls show what the document says, in the same order: nothing is lost, and nothing is there
-- twice. Each other event ends a suite or counts the cases.
pub record ShowsEachOnce (moment : Moment) (said : List Said) (calls : List Call) : Type 0 where
  pub items : List Item
  pub calls_are : flat_map calls_in items ≡ calls
  pub said_is : flat_map said_in items ≡ said
  pub right : AllRight moment items
