-- What reading a line takes of its tokens, and two truth values: whether each number that was read
-- before is whole, and whether each number that was read by then is.
use Rattle.std.specs.Prelude.{◌≡◌, ℕ, ◌&&◌, Bool, true, false, List, length, Option, Some, None, Result, Ok, Err}
use Rattle.json.specs.Token.{Token}
use Rattle.json.specs.Json as json
use Rattle.json.specs.declared.token.Token.{Token as ReadToken}
use Rattle.json.specs.declared.token.Token.TheVariants as Read
use Rattle.serde_json.specs.Data.{string, array, Items, item}
use Rattle.serde_json.specs.Find.{as_str}
use Rattle.tracing_tree_base.specs.declared.field.Field.{Field}
use Rattle.tracing_tree_lines.specs.Lines.Borrowed.{data_of, items_data, is_whole, items_are_whole, members_are_whole}
use Rattle.tracing_tree_lines.specs.Lines.Parts.{part_data, listed_data, parts_members, readable, readable_word, readable_list, with_key, ArePartsOf}
use Rattle.tracing_tree_lines.specs.Lines.Spelled.{field_value, pair_field}
use Rattle.tracing_tree_lines.specs.Lines.Values.{IsUnlessMemory}
use Rattle.tracing_tree_lines.specs.declared.lines.LineCause.{LineCause}
use Rattle.tracing_tree_lines.specs.declared.lines.LineCause.TheVariants.{NotACall}
use Rattle.tracing_tree_lines.specs.declared.lines.part.Part.{Part}
use Rattle.tracing_tree_lines.specs.declared.lines.part.FieldsPart.{FieldsPart}
use Rattle.tracing_tree_lines.specs.declared.lines.parts.Parts.{Parts}
use Rattle.tracing_tree_lines.specs.declared.lines.pair.Texts.{Texts}
use Rattle.tracing_tree_lines.specs.declared.lines.pair.Texts.TheVariants.{None as NoText, One, Two, Other as OtherItems}

-- ---- any value

-- the tokens of a value were taken, in which arrays and objects nest no deeper than `depth`
pub record IsValueTaken (depth : ℕ) (old new : List Token) (before after : Bool) : Type 0 where
  pub value : json.Json
  pub taken : json.value depth old ≡ Some (value, new)
  pub whole : after ≡ (before && is_whole value)

-- the tokens of an array after its bracket were taken
pub record AreItemsTaken (depth : ℕ) (old new : List Token) (before after : Bool) : Type 0 where
  pub items : json.Items
  pub taken : json.items (json.value depth) (length old) old ≡ Some (items, new)
  pub whole : after ≡ (before && items_are_whole items)

-- the tokens of an object after its brace were taken
pub record AreMembersTaken (depth : ℕ) (old new : List Token) (before after : Bool) : Type 0 where
  pub members : json.Members
  pub taken : json.members (json.value depth) (length old) old ≡ Some (members, new)
  pub whole : after ≡ (before && members_are_whole members)

-- ---- fields

-- the tokens of a value were taken, and this is its field, if it is one
pub record IsItemTaken (old new : List Token) (before after : Bool) (field : Option Field) : Type 0
  where
    pub passed : IsValueTaken 125 old new before after
    pub is : field ≡ field_value (data_of passed.value)

-- the field of an array of these strings and then these items, if it is a pair
abbrev pub pair_with : Texts → Items → Option Field
pair_with NoText rest = pair_field rest
pair_with (One name) rest = pair_field (item (string name.now) rest)
pair_with (Two name text) rest = pair_field (item (string name.now) (item (string text.now) rest))
pair_with OtherItems rest = None

-- the tokens of a value in a pair were taken, and this is its string, if it is one
pub record IsTextTaken (old new : List Token) (before after : Bool) (text : Option (List ℕ))
    : Type 0 where
  pub passed : IsValueTaken 124 old new before after
  pub is : text ≡ as_str (data_of passed.value)

-- the tokens of an array after its bracket were taken, and this is its field, if it is a pair
pub record IsPairTaken (old new : List Token) (before after : Bool) (field : Option Field) : Type 0
  where
    pub passed : AreItemsTaken 124 old new before after
    pub is : field ≡ pair_field (items_data passed.items)

-- the tokens of an array after its bracket were taken, and this is read of it
pub record AreFieldsTaken (old new : List Token) (before after : Bool) (list : FieldsPart) : Type 0
  where
    pub passed : AreItemsTaken 125 old new before after
    pub kept : listed_data list ≡ readable_list (array (items_data passed.items))

abbrev pub TakesFields : List Token → List Token → Bool → Bool → Result FieldsPart LineCause
    → Type 0
TakesFields old new before after (Ok list) = AreFieldsTaken old new before after list
TakesFields old new before after (Err cause) =
    IsUnlessMemory NotACall (json.items (json.value 125) (length old) old ≡ None) cause

-- the tokens of the value at `fields` were taken, and this is read of it
pub record IsListTaken (old new : List Token) (before after : Bool) (list : FieldsPart) : Type 0
  where
    pub passed : IsValueTaken 126 old new before after
    pub kept : listed_data list ≡ readable_list (data_of passed.value)

abbrev pub TakesList : List Token → List Token → Bool → Bool → Result FieldsPart LineCause → Type 0
TakesList old new before after (Ok list) = IsListTaken old new before after list
TakesList old new before after (Err cause) =
    IsUnlessMemory NotACall (json.value 126 old ≡ None) cause

-- ---- members

-- the tokens of the value at another key were taken, and this is read of it
pub record IsTaken (old new : List Token) (before after : Bool) (part : Part) : Type 0 where
  pub passed : IsValueTaken 126 old new before after
  pub kept : part_data part ≡ readable_word (data_of passed.value)

-- the tokens of the value at this key were taken, and what is read of it is put there
pub record IsMemberTaken (key : List ℕ) (old new : List Token) (before after : Parts) : Type 0 where
  pub passed : IsValueTaken 126 old new before.is_whole after.is_whole
  pub put : parts_members after
      ≡ with_key key (readable key (data_of passed.value)) (parts_members before)

abbrev pub TakesMember : {A : Type 0} → List ℕ → List Token → List Token → Parts → Parts
    → Result A LineCause → Type 0
TakesMember key old new before after (Ok done) = IsMemberTaken key old new before after
TakesMember key old new before after (Err cause) =
    IsUnlessMemory NotACall (json.value 126 old ≡ None) cause

-- the tokens of an object after its brace were taken, and the parts hold what is read of it
pub record ArePartsTaken (old new : List Token) (parts : Parts) : Type 0 where
  pub members : json.Members
  pub taken : json.members (json.value 126) (length old) old ≡ Some (members, new)
  pub kept : ArePartsOf members parts

abbrev pub TakesParts : {A : Type 0} → List Token → List Token → Parts → Result A LineCause
    → Type 0
TakesParts old new parts (Ok done) = ArePartsTaken old new parts
TakesParts old new parts (Err cause) =
    IsUnlessMemory NotACall (json.members (json.value 126) (length old) old ≡ None) cause

-- the brace of an object
abbrev pub opens_object : ReadToken → Bool
opens_object Read.BeginObject = true
opens_object Read.EndObject = false
opens_object Read.BeginArray = false
opens_object Read.EndArray = false
opens_object (Read.Key s) = false
opens_object (Read.String s) = false
opens_object (Read.Number s) = false
opens_object (Read.Bool b) = false
opens_object Read.Null = false
opens_object Read.Bad = false
