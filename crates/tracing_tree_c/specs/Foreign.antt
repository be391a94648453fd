-- What C passes, as contracts see it.
use Rattle.std.specs.Prelude.{◌≡◌, ℕ, ◌≤◌, List, [], length, map, Option, None, Some, Result, Ok, Err, IsTrue, IsUtf8, if◌then◌else◌, ◌==◌, IsSome}
use Rattle.std.specs.List.{AllByRecursion}
use Rattle.tracing_tree_spans.specs.Registry.Ids.{id_of}
use Rattle.tracing_tree_base.specs.declared.context.Id.{Id}
use Rattle.tracing_tree_base.specs.declared.field.Field.{Field}
use Rattle.tracing_tree_base.specs.declared.style.Level.{Level}
use Rattle.tracing_tree_base.specs.declared.style.Level.TheVariants.{Trace, Debug, Info, Warn, Error}
use Rattle.tracing_tree_spans.specs.declared.registry.Parent.{Parent}
use Rattle.tracing_tree_spans.specs.declared.registry.Parent.TheVariants.{Root, Current, Of}
use Rattle.tracing_tree_base.specs.declared.context.Context.{Context}
use Rattle.tracing_tree_layer.specs.declared.call.Call.{Call}
use Rattle.tracing_tree_layer.specs.declared.call.Call.TheVariants.{New, Event, Record, Close}
use Rattle.tracing_tree_c.specs.declared.foreign.AttributesRef.{AttributesRef}
use Rattle.tracing_tree_c.specs.declared.foreign.ContextRef.{ContextRef}
use Rattle.tracing_tree_c.specs.declared.foreign.EventRef.{EventRef}
use Rattle.tracing_tree_c.specs.declared.foreign.FieldRef.{FieldRef}
use Rattle.tracing_tree_c.specs.declared.foreign.TimeRef.{TimeRef}
use Rattle.tracing_tree_c.specs.declared.foreign.Unreadable.{Unreadable}
use Rattle.tracing_tree_c.specs.declared.foreign.Unreadable.TheVariants.{Unknown, NotUtf8, Starved}

-- The result of reading: the value that was passed, whose kinds are known and whose strings are
-- UTF-8; or a kind is unknown, or a string isn't UTF-8; or memory ran out before that was known,
-- which never happens for small values.
abbrev pub Reads : {A : Type 0} → Type 0 → Type 0 → Type 0 → (A → Type 0) → Result A Unreadable
    → Type 0
Reads IsKnown IsText IsSmall IsThis (Ok a) = IsKnown × IsText × IsThis a
Reads IsKnown IsText IsSmall IsThis (Err Unknown) = IsKnown → ⊥
Reads IsKnown IsText IsSmall IsThis (Err NotUtf8) = IsText → ⊥
Reads IsKnown IsText IsSmall IsThis (Err Starved) = IsSmall → ⊥

-- a string that is kept without allocating
abbrev pub IsSmallText : List ℕ → Type 0
IsSmallText bytes = length bytes ≤ 16

-- ---- fields

abbrev pub IsUtf8Field : FieldRef → Type 0
IsUtf8Field field = IsUtf8 field.name.now × IsUtf8 field.value.now

abbrev pub IsSmallField : FieldRef → Type 0
IsSmallField field = IsSmallText field.name.now × IsSmallText field.value.now

abbrev pub foreign_field : FieldRef → Field
foreign_field field = record { name = field.name.now; value = field.value.now }

abbrev pub IsUtf8Fields : List FieldRef → Type 0
IsUtf8Fields fields = AllByRecursion IsUtf8Field fields

abbrev pub HasNoFields : List FieldRef → Type 0
HasNoFields fields = fields ≡ []

abbrev pub foreign_fields : List FieldRef → List Field
foreign_fields fields = map foreign_field fields

-- ---- strings of the time

abbrev pub IsUtf8Time : TimeRef → Type 0
IsUtf8Time time = IsUtf8 time.moment.now × IsUtf8 time.elapsed.now

abbrev pub IsSmallTime : TimeRef → Type 0
IsSmallTime time = IsSmallText time.moment.now × IsSmallText time.elapsed.now

-- ---- kinds

abbrev pub level_of_number : ℕ → Option Level
level_of_number number =
    if number == 0 then Some Trace
    else if number == 1 then Some Debug
    else if number == 2 then Some Info
    else if number == 3 then Some Warn
    else if number == 4 then Some Error
    else None

abbrev pub parent_of : ℕ → ℕ → Option Parent
parent_of kind id =
    if kind == 0 then Some Root
    else if kind == 1 then Some Current
    else if kind == 2 then Some (Of (id_of id))
    else None

-- ids begin at 1, so 0 means no span
abbrev pub foreign_current : ℕ → Option Id
foreign_current id = if id == 0 then None else Some (id_of id)

-- ---- contexts

abbrev pub thread_name_of : ContextRef → Option (List ℕ)
thread_name_of context =
    if context.has_thread_name then Some context.thread_name.now else None

abbrev pub IsUtf8Context : ContextRef → Type 0
IsUtf8Context context = IsTrue context.has_thread_name → IsUtf8 context.thread_name.now

abbrev pub IsSmallContext : ContextRef → Type 0
IsSmallContext context = IsTrue context.has_thread_name → IsSmallText context.thread_name.now

pub record IsContextOf (given : ContextRef) (context : Context) : Type 0 where
  pub current : context.current ≡ foreign_current given.current
  pub thread_id : context.thread_id ≡ given.thread_id
  pub thread_name : context.thread_name ≡ thread_name_of given
  pub mono : context.moment.mono ≡ given.mono
  pub wall : context.moment.wall.nanosecond ≡ given.wall

-- ---- calls

abbrev pub IsKnownNew : AttributesRef → Type 0
IsKnownNew given = IsSome (parent_of given.parent_kind given.parent)

pub record IsUtf8New (given : AttributesRef) (fields : List FieldRef)
    (when : ContextRef) : Type 0 where
  pub name : IsUtf8 given.name.now
  pub target : IsUtf8 given.target.now
  pub fields_too : IsUtf8Fields fields
  pub context : IsUtf8Context when

pub record IsSmallNew (given : AttributesRef) (fields : List FieldRef)
    (when : ContextRef) : Type 0 where
  pub name : IsSmallText given.name.now
  pub target : IsSmallText given.target.now
  pub no_fields : HasNoFields fields
  pub context : IsSmallContext when

pub record IsNewOf (given : AttributesRef) (fields : List FieldRef) (when : ContextRef)
    (call : Call) : Type 0 where
  pub parent : Parent
  pub context : Context
  pub is_parent : parent_of given.parent_kind given.parent ≡ Some parent
  pub is_context : IsContextOf when context
  pub is_call : call ≡ New (record {
    name = given.name.now;
    target = given.target.now;
    parent = parent;
    fields = foreign_fields fields;
  }) context

abbrev pub IsKnownEvent : EventRef → Type 0
IsKnownEvent given =
    IsSome (level_of_number given.level) × IsSome (parent_of given.parent_kind given.parent)

pub record IsUtf8Event (given : EventRef) (fields : List FieldRef)
    (when : ContextRef) : Type 0 where
  pub target : IsUtf8 given.target.now
  pub fields_too : IsUtf8Fields fields
  pub context : IsUtf8Context when

pub record IsEventOf (given : EventRef) (fields : List FieldRef) (when : ContextRef)
    (call : Call) : Type 0 where
  pub level : Level
  pub parent : Parent
  pub context : Context
  pub is_level : level_of_number given.level ≡ Some level
  pub is_parent : parent_of given.parent_kind given.parent ≡ Some parent
  pub is_context : IsContextOf when context
  pub is_call : call ≡ Event (record {
    level = level;
    target = given.target.now;
    parent = parent;
    fields = foreign_fields fields;
  }) context

abbrev pub IsRecordOf : ℕ → List FieldRef → Call → Type 0
IsRecordOf id fields call = call ≡ Record (id_of id) (record { fields = foreign_fields fields })

pub record IsCloseOf (id : ℕ) (when : ContextRef) (call : Call) : Type 0 where
  pub context : Context
  pub is_context : IsContextOf when context
  pub is_call : call ≡ Close (id_of id) context
