-- The values of a line's object at the keys of a call, as far as a call is read from it.
use Rattle.std.specs.Prelude.{◌≡◌, ℕ, true, false, List, [], ◌∷◌, Option, Some, None, Result, Ok, Err, IsUtf8, codes, bytes_eq, if◌then◌else◌}
use Rattle.std.specs.Option.{option_map_or}
use Rattle.json.specs.Json as json
use Rattle.json.specs.declared.error.Error.{Error}
use Rattle.json.specs.declared.error.Error.TheVariants.{Invalid, OutOfMemory, TooLong, DuplicateKey}
use Rattle.serde_json.specs.Data.{Num, unsigned, negative, float, Data, null, boolean, number, string, array, object, Items, no_items, item, Members, no_members, member}
use Rattle.serde_json.specs.Find.{get}
use Rattle.serde_json.specs.Read.{of_json, read}
use Rattle.serde_json.specs.Written.{has_float}
use Rattle.tracing_tree_base.specs.declared.field.Field.{Field}
use Rattle.tracing_tree_lines.specs.Lines.Borrowed.{data_of, members_data, is_whole, members_are_whole}
use Rattle.tracing_tree_lines.specs.Lines.Spelled.{item_fields, SpellsCall}
use Rattle.tracing_tree_lines.specs.Lines.Values.{IsUnlessMemory}
use Rattle.tracing_tree_layer.specs.declared.call.Call.{Call}
use Rattle.tracing_tree_lines.specs.declared.lines.LineCause.{LineCause}
use Rattle.tracing_tree_lines.specs.declared.lines.LineCause.TheVariants.{NotACall, Memory}
use Rattle.tracing_tree_lines.specs.declared.lines.part.Part.{Part}
use Rattle.tracing_tree_lines.specs.declared.lines.part.Part.TheVariants.{Absent, Text, Whole, Negative, Other}
use Rattle.tracing_tree_lines.specs.declared.lines.part.FieldsPart.{FieldsPart}
use Rattle.tracing_tree_lines.specs.declared.lines.part.FieldsPart.TheVariants as Listed
use Rattle.tracing_tree_lines.specs.declared.lines.parts.Parts.{Parts}

-- ---- what is read of a value

-- the field of a name and a value
abbrev pub field_of : List ℕ → List ℕ → Field
field_of name value = record { name = name; value = value }

-- fields as an array of pairs
abbrev pub field_data : Field → Data
field_data field = array (item (string field.name) (item (string field.value) no_items))

abbrev pub fields_data : List Field → Items
fields_data [] = no_items
fields_data (field ∷ others) = item (field_data field) (fields_data others)

-- A call is read from nulls, strings, whole numbers and, at the key `fields`, arrays of pairs of
-- strings. Each other value counts as `false`.
abbrev pub readable_number : Num → Data
readable_number (unsigned n) = number (unsigned n)
readable_number (negative z) = number (negative z)
readable_number (float x) = boolean false

abbrev pub readable_fields : Option (List Field) → Data
readable_fields None = boolean false
readable_fields (Some fields) = array (fields_data fields)

-- what is read of a value at another key than `fields`
abbrev pub readable_word : Data → Data
readable_word null = null
readable_word (boolean b) = boolean false
readable_word (number n) = readable_number n
readable_word (string s) = string s
readable_word (array ds) = boolean false
readable_word (object ms) = boolean false

-- what is read of the value at `fields`
abbrev pub readable_list : Data → Data
readable_list null = null
readable_list (boolean b) = boolean false
readable_list (number n) = boolean false
readable_list (string s) = boolean false
readable_list (array ds) = readable_fields (item_fields ds)
readable_list (object ms) = boolean false

-- what is read of a value at this key
abbrev pub readable : List ℕ → Data → Data
readable key value =
    if bytes_eq key (codes "fields") then readable_list value else readable_word value

-- the data of a part
abbrev pub part_data : Part → Data
part_data Absent = null
part_data (Text text) = string text.now
part_data (Whole n) = number (unsigned n)
part_data (Negative z) = number (negative z)
part_data Other = boolean false

-- the number with these digits is whole, and the part holds it; or it isn't whole, and nothing is
-- read
abbrev pub IsNumberPart : List ℕ → Option Part → Type 0
IsNumberPart text (Some part) =
    (is_whole (json.number text) ≡ true)
    × (part_data part ≡ readable_word (data_of (json.number text)))
IsNumberPart text None =
    (is_whole (json.number text) ≡ false)
    × (boolean false ≡ readable_word (data_of (json.number text)))

abbrev pub listed_data : FieldsPart → Data
listed_data Listed.Absent = null
listed_data (Listed.Fields fields) = array (fields_data fields)
listed_data Listed.Other = boolean false

-- ---- the values at the keys of calls

-- an object with these values at the keys of calls
abbrev pub keyed : (call i name level target parent fields current thread thread_name mono wall :
    Data) → Members
keyed call i name level target parent fields current thread thread_name mono wall =
    member (codes "call") call (member (codes "id") i (member (codes "name") name
    (member (codes "level") level (member (codes "target") target (member (codes "parent") parent
    (member (codes "fields") fields (member (codes "current") current (member (codes "thread")
    thread
    (member (codes "thread_name") thread_name (member (codes "mono") mono
    (member (codes "wall") wall no_members)))))))))))

abbrev pub parts_members : Parts → Members
parts_members p =
    keyed (part_data p.call) (part_data p.id) (part_data p.name) (part_data p.level)
    (part_data p.target) (part_data p.parent) (listed_data p.fields) (part_data p.current)
    (part_data p.thread) (part_data p.thread_name) (part_data p.mono) (part_data p.wall)

abbrev pub parts_data : Parts → Data
parts_data p = object (parts_members p)

-- nothing at each key
abbrev pub no_parts : Members
no_parts = keyed null null null null null null null null null null null null

-- the value at `key` becomes `value`, if the object has the key
abbrev pub with_key : List ℕ → Data → Members → Members
with_key key value no_members = no_members
with_key key value (member other old ms) =
    member other (if bytes_eq key other then value else old) (with_key key value ms)

-- what is read of the value at a key
abbrev pub readable_at : List ℕ → Data → Data
readable_at key value = option_map_or (readable key) (get key value) null

-- what is read of an object, for these keys
abbrev pub readable_members : Members → Data → Members
readable_members no_members value = no_members
readable_members (member key old ms) value =
    member key (readable_at key value) (readable_members ms value)

-- what is read of an object at the keys of calls
abbrev pub call_members : Data → Members
call_members value = readable_members no_parts value

-- the parts hold what is read of an object with these members, and whether it is whole
pub record ArePartsOf (members : json.Members) (parts : Parts) : Type 0 where
  pub kept : parts_members parts ≡ call_members (object (members_data members no_members))
  pub whole : parts.is_whole ≡ members_are_whole members

-- ---- lines

-- a line is UTF-8, and an object with these parts
pub record IsObjectLine (line : List ℕ) (parts : Parts) : Type 0 where
  pub text : IsUtf8 line
  pub members : json.Members
  pub reads : read line ≡ of_json (json.object members)
  pub kept : ArePartsOf members parts

-- a line that isn't UTF-8 or not an object encodes no call
abbrev pub ReadsObject : {A : Type 0} → List ℕ → Parts → Result A LineCause → Type 0
ReadsObject line parts (Ok done) = IsObjectLine line parts
ReadsObject line parts (Err cause) =
    IsUnlessMemory NotACall ((call : Call) → ¬ SpellsCall line call) cause

-- a line without floats has these parts
pub record HasParts (line : List ℕ) (parts : Parts) : Type 0 where
  pub text : IsUtf8 line
  pub value : Data
  pub reads : read line ≡ Some value
  pub no_float : has_float value ≡ false
  pub kept : parts_members parts ≡ call_members value

abbrev pub ReadsParts : {A : Type 0} → List ℕ → Parts → Result A LineCause → Type 0
ReadsParts line parts (Ok done) = HasParts line parts
ReadsParts line parts (Err cause) =
    IsUnlessMemory NotACall ((call : Call) → ¬ SpellsCall line call) cause

-- the cause of an error of the reader
abbrev pub cause_of : Error → LineCause
cause_of Invalid = NotACall
cause_of OutOfMemory = Memory
cause_of TooLong = NotACall
cause_of DuplicateKey = NotACall
