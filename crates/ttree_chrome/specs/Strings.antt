-- The strings that identify processes and threads, in order of appearance.
use Rattle.std.specs.Prelude.{ℕ, ℤ, ◌==◌, Bool, false, List, [], ◌∷◌, ◌++◌, slice_get, Option, Some, None, unwrap_or}
use Rattle.std.specs.Option.{option_eq}
use Rattle.std.specs.Ordering.{int_cmp, int_eq, nat_cmp}
use Rattle.std.specs.declared.cmp.Ordering.{Ordering}
use Rattle.std.specs.declared.cmp.Ordering.TheVariants.{Less, Greater}
use Rattle.tracing_tree_base.specs.Field.{rendered_field, whole_field}
use Rattle.tracing_tree_base.specs.declared.field.Field.{Field}
use Rattle.ttree_source.specs.Calls.{shown_text}
use Rattle.ttree_chrome.specs.Keys.{Keys, found_key, key_number, with_key}
use Rattle.ttree_chrome.specs.declared.element.Ident.{Ident}
use Rattle.ttree_chrome.specs.declared.element.Ident.TheVariants.{Number, Name}
use Rattle.ttree_chrome.specs.declared.strings.Label.{Label}
use Rattle.ttree_chrome.specs.declared.strings.Label.TheVariants.{Number as ByNumber, Name as ByName}

-- The numbers of the strings, and the strings by their numbers.
pub record StringsState : Type 0 where
  pub keys : Keys
  pub texts : List (List ℕ)

abbrev pub no_strings : StringsState
no_strings = record { keys = []; texts = [] }

-- the number of a string: a new one gets the next
abbrev pub string_number : List ℕ → StringsState → ℕ
string_number text s = key_number text s.keys

abbrev pub added_as : Option ℕ → List ℕ → StringsState → StringsState
added_as (Some number) text s = s
added_as None text s = record s { keys = with_key text s.keys; texts = s.texts ++ text ∷ [] }

-- the strings, and this one
abbrev pub string_taken : List ℕ → StringsState → StringsState
string_taken text s = added_as (found_key text s.keys) text s

-- what identifies a process or a thread
abbrev pub label_of : Option Ident → StringsState → Option Label
label_of None s = None
label_of (Some (Number number)) s = Some (ByNumber number)
label_of (Some (Name text)) s = Some (ByName (string_number text s))

-- the strings, and one that identifies a process or a thread
abbrev pub ident_taken : Option Ident → StringsState → StringsState
ident_taken None s = s
ident_taken (Some (Number number)) s = s
ident_taken (Some (Name text)) s = string_taken text s

abbrev pub label_eq : Label → Label → Bool
label_eq (ByNumber one) (ByNumber other) = int_eq one other
label_eq (ByNumber one) (ByName other) = false
label_eq (ByName one) (ByNumber other) = false
label_eq (ByName one) (ByName other) = one == other

-- two processes, or two threads of one process, are the same
abbrev pub same_label : Option Label → Option Label → Bool
same_label one other = option_eq label_eq one other

-- by number, and then strings in order of appearance
abbrev pub label_cmp : Label → Label → Ordering
label_cmp (ByNumber one) (ByNumber other) = int_cmp one other
label_cmp (ByNumber one) (ByName other) = Less
label_cmp (ByName one) (ByNumber other) = Greater
label_cmp (ByName one) (ByName other) = nat_cmp one other

-- what a process or a thread is identified by, as a field
abbrev pub label_field : List ℕ → Label → List (List ℕ) → Field
label_field name (ByNumber number) texts = whole_field name number
label_field name (ByName number) texts =
    rendered_field name (shown_text (unwrap_or (slice_get texts number) []))
