-- The data of a JSON value.
use Rattle.std.specs.Prelude.{◌≡◌, ℕ, ◌&&◌, Bool, true, false, not, List, Option, Some, None, Result, Ok, Err}
use Rattle.json.specs.Json as json
use Rattle.serde_json.specs.Data.{Num, Data, null, boolean, number, string, array, object, Items, no_items, item, Members, no_members, put}
use Rattle.serde_json.specs.Find.{is_float}
use Rattle.serde_json.specs.Read.{number_of, read}
use Rattle.serde_json.specs.Written.{has_float}
use Rattle.tracing_tree_lines.specs.Lines.Values.{IsUnlessMemory}
use Rattle.tracing_tree_lines.specs.Lines.Spelled.{SpellsCall}
use Rattle.tracing_tree_layer.specs.declared.call.Call.{Call}
use Rattle.tracing_tree_lines.specs.declared.lines.LineCause.{LineCause}
use Rattle.tracing_tree_lines.specs.declared.lines.LineCause.TheVariants.{NotACall}

-- ---- numbers

-- a number out of range becomes a value that no part of a call is read from
abbrev pub number_data : Option Num → Data
number_data None = boolean false
number_data (Some n) = number n

-- a number in range that isn't a float
abbrev pub is_whole_number : Option Num → Bool
is_whole_number None = false
is_whole_number (Some n) = not (is_float n)

-- ---- values

-- the data of a value; of members with one key, the last counts
abbrev mutual
  pub data_of : json.Json → Data
  data_of json.null = null
  data_of (json.boolean b) = boolean b
  data_of (json.number s) = number_data (number_of s)
  data_of (json.string s) = string s
  data_of (json.array js) = array (items_data js)
  data_of (json.object ms) = object (members_data ms no_members)

  pub items_data : json.Items → Items
  items_data json.no_items = no_items
  items_data (json.item j js) = item (data_of j) (items_data js)

  pub members_data : json.Members → Members → Members
  members_data json.no_members found = found
  members_data (json.member k j ms) found = members_data ms (put k (data_of j) found)

-- each number in it is whole
abbrev mutual
  pub is_whole : json.Json → Bool
  is_whole json.null = true
  is_whole (json.boolean b) = true
  is_whole (json.number s) = is_whole_number (number_of s)
  is_whole (json.string s) = true
  is_whole (json.array js) = items_are_whole js
  is_whole (json.object ms) = members_are_whole ms

  pub items_are_whole : json.Items → Bool
  items_are_whole json.no_items = true
  items_are_whole (json.item j js) = is_whole j && items_are_whole js

  pub members_are_whole : json.Members → Bool
  members_are_whole json.no_members = true
  members_are_whole (json.member k j ms) = is_whole j && members_are_whole ms

-- ---- lines

-- a line has a value without floats, or encodes no call
pub record HasNoFloat (line : List ℕ) : Type 0 where
  pub value : Data
  pub reads : read line ≡ Some value
  pub no_float : has_float value ≡ false

abbrev pub RefusesFloat : {A : Type 0} → List ℕ → Result A LineCause → Type 0
RefusesFloat line (Ok done) = HasNoFloat line
RefusesFloat line (Err cause) =
    IsUnlessMemory NotACall ((call : Call) → ¬ SpellsCall line call) cause
