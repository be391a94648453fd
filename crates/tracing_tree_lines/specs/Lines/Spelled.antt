-- Which settings and which calls the program's lines encode.
use Rattle.std.specs.Prelude.{◌≡◌, ℕ, ◌==◌, ◌&&◌, ◌||◌, Bool, false, not, IsTrue, if◌then◌else◌, ℤ, pos, neg_ℤ, int_le, List, [], ◌∷◌, length, Option, Some, None, is_some, option_map, option_and_then, codes, bytes_eq, filter, IsUtf8}
use Rattle.std.specs.Option.{option_map_or, option_flatten}
use Rattle.std.specs.Bool.{then_some}
use Rattle.std.specs.List.{list_any, list_all, slice_split, AllZip}
use Rattle.serde_json.specs.Data.{Data, null, number, string, Items, no_items, item, Members, no_members, member}
use Rattle.serde_json.specs.Find.{get, as_bool, as_str, as_number, as_u64, as_i64, as_array, as_object}
use Rattle.serde_json.specs.Read.{read}
use Rattle.serde_json.specs.Written.{has_float}
use Rattle.tracing_tree_drawing.specs.Format.Settings.{Settings, default_settings}
use Rattle.tracing_tree_base.specs.Style.{level_named}
use Rattle.tracing_tree_spans.specs.Registry.Ids.{id_of}
use Rattle.tracing_tree_time.specs.Clock.{Timer, no_timer, utc_timer, local_timer, uptime_timer}
use Rattle.tracing_tree_base.specs.declared.context.Id.{Id}
use Rattle.tracing_tree_base.specs.declared.context.Context.{Context}
use Rattle.tracing_tree_base.specs.declared.field.Field.{Field}
use Rattle.tracing_tree_spans.specs.declared.registry.Parent.{Parent}
use Rattle.tracing_tree_spans.specs.declared.registry.Parent.TheVariants.{Root, Current, Of}
use Rattle.tracing_tree_base.specs.declared.context.Moment.{Moment}
use Rattle.tracing_tree_layer.specs.declared.call.Call.{Call}
use Rattle.tracing_tree_layer.specs.declared.call.Call.TheVariants.{New, Clone, Record, Event, Close}
use Rattle.tracing_tree_spans.specs.declared.registry.Attributes.{Attributes}
use Rattle.tracing_tree_spans.specs.declared.registry.Event.{Event as MadeEvent}

-- the next step's result for a value, if there is one
infixl 20 ◌>>=◌
abbrev pub ◌>>=◌ : {A B : Type 0} → Option A → (A → Option B) → Option B
o >>= next = option_and_then next o

-- ---- lines

-- the lines of an input: those that line ends end, and what follows the last line end, unless that
-- is empty
abbrev pub without_empty_last : List (List ℕ) → List (List ℕ)
without_empty_last [] = []
without_empty_last (line ∷ []) = if length line == 0 then [] else line ∷ []
without_empty_last (line ∷ next ∷ more) = line ∷ without_empty_last (next ∷ more)

abbrev pub input_lines : List ℕ → List (List ℕ)
input_lines text = without_empty_last (slice_split (λ byte. byte == 10) text)

-- a line of only spaces, tabs and carriage returns
abbrev pub is_skipped : List ℕ → Bool
is_skipped line = list_all (λ byte. (byte == 32) || (byte == 9) || (byte == 13)) line

-- ---- keys

-- a null counts as absent
abbrev pub unless_null : Data → Option Data
unless_null null = None
unless_null value = Some value

-- the value of a key as it is read, or `absent` if the key is absent; `None` if the value can't be
-- read, or if a key without a default is missing
abbrev pub read_or : {A : Type 0} → Option A → (Data → Option A) → List ℕ → Data → Option A
read_or absent reader key value = option_map_or reader (get key value >>= unless_null) absent

-- the keys of the members whose value isn't null
abbrev pub present_keys : Members → List (List ℕ)
present_keys no_members = []
present_keys (member key value others) =
    if is_some (unless_null value) then key ∷ present_keys others else present_keys others

-- an object has only these keys
abbrev pub has_only_keys : List (List ℕ) → Data → Bool
has_only_keys keys value =
    option_map_or (λ members. list_all (λ key. list_any (bytes_eq key) keys) (present_keys members))
    (as_object value) false

-- ---- values

abbrev pub whole_value : Data → Option ℕ
whole_value value = option_and_then as_u64 (as_number value)

-- a whole number from -2^63 to 2^63 - 1
abbrev pub signed_value : Data → Option ℤ
signed_value value = option_and_then as_i64 (as_number value)

abbrev pub id_value : Data → Option Id
id_value value = option_map id_of (whole_value value)

-- the value of the first of these choices that has this name
abbrev pub chosen : {A : Type 0} → List (List ℕ × A) → List ℕ → Option A
chosen [] text = None
chosen (choice ∷ others) text = if bytes_eq choice.0 text then Some choice.1 else chosen others text

-- ---- settings

-- what a settings line sets
abbrev pub Asked : Type 0
Asked = Settings × Timer

-- a whole number other than 0
abbrev pub positive_value : Data → Option ℕ
positive_value value = option_and_then (λ n. then_some (not (n == 0)) n) (whole_value value)

-- the seconds of an offset, from -25:59:59 to 25:59:59
abbrev pub offset_value : Data → Option ℤ
offset_value value =
    option_and_then (λ z. then_some (int_le (neg_ℤ (pos 93_599)) z && int_le z (pos 93_599)) z)
    (signed_value value)

-- a timer, if the object has no other keys than `kind` and these
abbrev pub under_keys : List (List ℕ) → Data → Option Timer → Option Timer
under_keys keys value timer = if has_only_keys (codes "kind" ∷ keys) value then timer else None

-- the timers by their kinds, as an object encodes them
abbrev pub timers_in : Data → List (List ℕ × Option Timer)
timers_in value =
    let higher = read_or (Some false) as_bool (codes "higher_precision") value in
    let offset = read_or None offset_value (codes "offset") value in
    let epoch = read_or (Some 0) whole_value (codes "epoch") value in
    let local = offset >>= (λ z. option_map (λ high. local_timer high (λ nanos. z)) higher) in
    let uptime = epoch >>= (λ n. option_map (λ high. uptime_timer high n) higher) in
    (codes "none", under_keys [] value (Some no_timer))
    ∷ (codes "utc", under_keys (codes "higher_precision" ∷ []) value (option_map utc_timer higher))
    ∷ (codes "local", under_keys (codes "higher_precision" ∷ codes "offset" ∷ []) value local)
    ∷ (codes "uptime", under_keys (codes "higher_precision" ∷ codes "epoch" ∷ []) value uptime)
    ∷ []

abbrev pub timer_value : Data → Option Timer
timer_value value = do
  kind ← read_or None as_str (codes "kind") value
  option_flatten (chosen (timers_in value) kind)

-- what a value that is read by `reader` changes in the settings
abbrev pub sets : {A : Type 0} → (Data → Option A) → (A → Settings → Settings) → Data → Asked
    → Option Asked
sets reader change value asked = option_map (λ read. (change read asked.0, asked.1)) (reader value)

-- all settings: each key, and what its value sets
abbrev pub all_settings : List (List ℕ × (Data → Asked → Option Asked))
all_settings =
    (codes "indent_amount", sets whole_value (λ n s. record s { indent_amount = n }))
    ∷ (codes "wraparound", sets positive_value (λ n s. record s { wraparound = n }))
    ∷ (codes "timer", λ value asked. option_map (λ timer. (asked.0, timer)) (timer_value value))
    ∷ (codes "ansi", sets as_bool (λ on s. record s { ansi = on }))
    ∷ (codes "indent_lines", sets as_bool (λ on s. record s { indent_lines = on }))
    ∷ (codes "targets", sets as_bool (λ on s. record s { targets = on }))
    ∷ (codes "thread_ids", sets as_bool (λ on s. record s { render_thread_ids = on }))
    ∷ (codes "thread_names", sets as_bool (λ on s. record s { render_thread_names = on }))
    ∷ (codes "verbose_entry", sets as_bool (λ on s. record s { verbose_entry = on }))
    ∷ (codes "verbose_exit", sets as_bool (λ on s. record s { verbose_exit = on }))
    ∷ (codes "span_retrace", sets as_bool (λ on s. record s { span_retrace = on }))
    ∷ (codes "deferred_spans", sets as_bool (λ on s. record s { deferred_spans = on }))
    ∷ (codes "close_retrace", sets as_bool (λ on s. record s { close_retrace = on }))
    ∷ (codes "span_modes", sets as_bool (λ on s. record s { span_modes = on }))
    ∷ (codes "bracketed_fields", sets as_bool (λ on s. record s { bracketed_fields = on }))
    ∷ []

-- what a key with a value makes of the settings; `None` if no setting has the key, or if the value
-- can't be read
abbrev pub with_setting : List ℕ → Data → Asked → Option Asked
with_setting key value asked = chosen all_settings key >>= (λ setting. setting value asked)

-- what a member makes of the settings: a null changes nothing, whatever its key
abbrev pub with_member : List ℕ → Data → Asked → Option Asked
with_member key value asked =
    option_map_or (λ present. with_setting key present asked) (unless_null value) (Some asked)

-- what the members of an object make of the settings, one after another
abbrev pub with_members : Members → Asked → Option Asked
with_members no_members asked = Some asked
with_members (member key value others) asked = with_member key value asked >>= with_members others

-- the settings of a line that sets nothing: those of a layer, but without colours, and no timer
abbrev pub unnamed_settings : Asked
unnamed_settings = (record default_settings { ansi = false }, no_timer)

-- what a settings object encodes: each key that is present is a setting's and can be read, and an
-- absent key means its default; `read` keeps the last of members with one key
abbrev pub object_settings : Data → Option Asked
object_settings value = as_object value >>= (λ members. with_members members unnamed_settings)

-- the line, which is UTF-8, encodes settings
abbrev pub is_settings : List ℕ → Bool
is_settings line = is_some (read line >>= object_settings)

-- the first line is UTF-8, and encodes these settings and this timer
abbrev pub SpellsSettings : List ℕ → Settings → Timer → Type 0
SpellsSettings line settings timer =
    IsUtf8 line × ((read line >>= object_settings) ≡ Some (settings, timer))

-- ---- calls

-- `"root"`, `"current"` or an id
abbrev pub parent_value : Data → Option Parent
parent_value (string text) = chosen ((codes "root", Root) ∷ (codes "current", Current) ∷ []) text
parent_value (number n) = option_map (λ i. Of (id_of i)) (as_u64 n)
parent_value value = None

-- a name and its value
abbrev pub pair_field : Items → Option Field
pair_field (item (string name) (item (string text) no_items)) =
    Some (record { name = name; value = text })
pair_field items = None

-- an array of two strings
abbrev pub field_value : Data → Option Field
field_value value = option_and_then pair_field (as_array value)

-- the fields that the items encode; `None` if an item isn't a field
abbrev pub item_fields : Items → Option (List Field)
item_fields no_items = Some []
item_fields (item first others) = do
  field ← field_value first
  fields ← item_fields others
  Some (field ∷ fields)

abbrev pub fields_value : Data → Option (List Field)
fields_value value = option_and_then item_fields (as_array value)

-- the moment has the parts that the object encodes
pub record IsMomentIn (value : Data) (moment : Moment) : Type 0 where
  pub mono : read_or (Some 0) whole_value (codes "mono") value ≡ Some moment.mono
  pub wall : read_or (Some (pos 0)) signed_value (codes "wall") value ≡ Some moment.wall.nanosecond

-- The context of each call, at the moment encoded. A current span and a name may be absent; the
-- outer `None` is a value that can't be read.
abbrev pub context_in : Data → Moment → Option Context
context_in value moment = do
  current ← read_or (Some None) (λ v. option_map Some (id_value v)) (codes "current") value
  thread ← read_or (Some 1) whole_value (codes "thread") value
  name ← read_or (Some None) (λ v. option_map Some (as_str v)) (codes "thread_name") value
  Some (record { current = current; thread_id = thread; thread_name = name; moment = moment })

abbrev pub id_in : Data → Option Id
id_in value = read_or None id_value (codes "id") value

abbrev pub attributes_in : Data → Option Attributes
attributes_in value = do
  name ← read_or None as_str (codes "name") value
  target ← read_or (Some []) as_str (codes "target") value
  parent ← read_or (Some Current) parent_value (codes "parent") value
  fields ← read_or (Some []) fields_value (codes "fields") value
  Some (record { name = name; target = target; parent = parent; fields = fields })

abbrev pub record_in : Data → Option Call
record_in value = do
  i ← id_in value
  fields ← read_or (Some []) fields_value (codes "fields") value
  Some (Record i (record { fields = fields }))

abbrev pub event_in : Data → Option MadeEvent
event_in value = do
  level ← read_or None (λ v. as_str v >>= level_named) (codes "level") value
  target ← read_or (Some []) as_str (codes "target") value
  parent ← read_or (Some Current) parent_value (codes "parent") value
  fields ← read_or (Some []) fields_value (codes "fields") value
  Some (record { level = level; target = target; parent = parent; fields = fields })

-- the call of this name
abbrev pub call_named : List ℕ → Data → Context → Option Call
call_named name value context =
    if bytes_eq name (codes "new") then option_map (λ a. New a context) (attributes_in value)
    else (if bytes_eq name (codes "clone") then option_map Clone (id_in value)
    else (if bytes_eq name (codes "record") then record_in value
    else (if bytes_eq name (codes "event") then option_map (λ e. Event e context) (event_in value)
    else (if bytes_eq name (codes "close") then option_map (λ i. Close i context) (id_in value)
    else None))))

-- The call that an object without floats encodes, at the moment encoded. The context must be
-- readable even if the call takes no context. Keys that the call doesn't have are ignored.
abbrev pub object_call : Data → Moment → Option Call
object_call value moment = do
  context ← context_in value moment
  name ← read_or None as_str (codes "call") value
  call_named name value context

-- the line is UTF-8, and encodes this call
pub record SpellsCall (line : List ℕ) (call : Call) : Type 0 where
  pub text : IsUtf8 line
  pub value : Data
  pub moment : Moment
  pub reads : read line ≡ Some value
  pub no_float : has_float value ≡ false
  pub timed : IsMomentIn value moment
  pub spelled : object_call value moment ≡ Some call

-- these lines encode these calls, in order, and each other line is skipped
abbrev pub SpellCalls : List (List ℕ) → List Call → Type 0
SpellCalls lines calls = AllZip SpellsCall (filter (λ line. not (is_skipped line)) lines) calls

-- a line that encodes no call, and isn't skipped
abbrev pub SpellsNothing : List ℕ → Type 0
SpellsNothing line = IsTrue (not (is_skipped line)) × ((call : Call) → ¬ (SpellsCall line call))
