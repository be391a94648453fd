-- An object's members as fields, and those of objects in it under both names.
use Rattle.std.specs.Prelude.{ℕ, ◌&&◌, ◌||◌, Bool, if◌then◌else◌, List, [], ◌∷◌, ◌++◌, codes, bytes_eq}
use Rattle.std.specs.List.{list_any}
use Rattle.json.specs.Json.{Json, null, boolean, number, string, array, object, Members, no_members, member}
use Rattle.tracing_tree_base.specs.declared.field.Field.{Field}
use Rattle.ttree_source.specs.Marks.{begins}
use Rattle.ttree_source.specs.Calls.{shown_text}
use Rattle.ttree_source.specs.JsonText.{json_text}

-- a field with this value, in its drawn form
abbrev pub drawn_field : List ℕ → List ℕ → List Field
drawn_field name value = (record { name = shown_text name; value = value }) ∷ []

-- an object without members is a field
abbrev pub empty_fields : List ℕ → Members → List Field
empty_fields name no_members = drawn_field name (codes "{}")
empty_fields name (member _ _ _) = []

-- an object in an object has `.` between the keys
abbrev pub inner_name : List ℕ → List ℕ → List ℕ
inner_name name key = name ++ codes "." ++ key

-- a value of this name as fields
abbrev mutual
  pub value_fields : List ℕ → Json → List Field
  value_fields name null = drawn_field name (codes "null")
  value_fields name (boolean b) = drawn_field name (if b then codes "true" else codes "false")
  value_fields name (number text) = drawn_field name text
  value_fields name (string text) = drawn_field name (shown_text text)
  value_fields name (array items) = drawn_field name (shown_text (json_text (array items)))
  value_fields name (object members) = empty_fields name members ++ inner_fields name members

  pub inner_fields : List ℕ → Members → List Field
  inner_fields name no_members = []
  inner_fields name (member key value others) =
      value_fields (inner_name name key) value ++ inner_fields name others

-- the keys of the members that aren't fields, and that journald wrote the line
pub record Used : Type 0 where
  pub keys : List (List ℕ)
  pub is_of_journal : Bool

-- what journald adds to each line, and what the syslog protocol does
abbrev pub journal_keys : List (List ℕ)
journal_keys =
    codes "SYSLOG_FACILITY" ∷ codes "SYSLOG_PID" ∷ codes "SYSLOG_RAW" ∷ codes "SYSLOG_TIMESTAMP" ∷
    []

abbrev pub is_added : List ℕ → Bool
is_added key = begins (codes "_") key || list_any (bytes_eq key) journal_keys

abbrev pub is_used : Used → List ℕ → Bool
is_used used key = list_any (bytes_eq key) used.keys || (used.is_of_journal && is_added key)

-- a member as fields, unless it is used or added
abbrev pub member_fields : Used → List ℕ → Json → List Field
member_fields used key value = if is_used used key then [] else value_fields key value

-- an object's members as fields, except those that are used or added
abbrev pub members_fields : Used → Members → List Field
members_fields used no_members = []
members_fields used (member key value others) =
    member_fields used key value ++ members_fields used others
