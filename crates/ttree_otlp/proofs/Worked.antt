-- Worked examples of the definitions.
use Rattle.std.proofs.Common.{◌≡◌, ℕ, List, [], refl}
use Rattle.std.specs.Prelude.{codes, true, false}
use Rattle.json.specs.Json.{Json, boolean, number, string, array, object, no_items, item, no_members, member}
use Rattle.tracing_tree_base.specs.declared.style.Level.TheVariants.{Trace, Debug, Info, Warn, Error}
use Rattle.ttree_otlp.specs.AnyValue.{any_text}
use Rattle.ttree_otlp.specs.Draw.{kind_text}
use Rattle.ttree_otlp.specs.Item.{parent_of, id_number}
use Rattle.ttree_otlp.specs.Named.{kind_at, level_of_severity, status_is_error}
use Rattle.ttree_otlp.specs.Read.{count_at, id_of}

-- {"key": value}
abbrev one : List ℕ → Json → Json
one key value = object (member key value no_members)

-- ids in upper case are those in lower case, and zeros are an absent id
lower_case : id_of (codes "00FF") ≡ codes "00ff"
lower_case = refl

zeros : id_of (codes "0000000000000000") ≡ []
zeros = refl

-- a time as a string of digits, or as a number; any other is 0
time_of_string : count_at (codes "endTimeUnixNano") (one (codes "endTimeUnixNano") (string (codes "1795950699994563272"))) ≡ 1795950699994563272
time_of_string = refl

time_of_number : count_at (codes "kind") (one (codes "kind") (number (codes "3"))) ≡ 3
time_of_number = refl

time_of_word : count_at (codes "kind") (one (codes "kind") (string (codes "-3"))) ≡ 0
time_of_word = refl

-- levels
levels : (level_of_severity 0 ≡ Info) × (level_of_severity 4 ≡ Trace) × (level_of_severity 8 ≡ Debug) × (level_of_severity 12 ≡ Info) × (level_of_severity 16 ≡ Warn) × (level_of_severity 17 ≡ Error)
levels = (refl, refl, refl, refl, refl, refl)

-- a status with code 2 is a failure
failure : (status_is_error (one (codes "code") (number (codes "2"))) ≡ true) × (status_is_error (one (codes "code") (number (codes "1"))) ≡ false)
failure = (refl, refl)

-- names of enumerations mean their numbers
names : (status_is_error (one (codes "code") (string (codes "STATUS_CODE_ERROR"))) ≡ true) × (kind_at (one (codes "kind") (string (codes "SPAN_KIND_SERVER"))) ≡ 2)
names = (refl, refl)

-- a span that is its own parent is a root
own_parent : (parent_of (codes "a") (codes "a") ≡ []) × (parent_of (codes "a") (codes "b") ≡ codes "b")
own_parent = (refl, refl)

kinds : (kind_text 2 ≡ codes "server") × (kind_text 1 ≡ [])
kinds = (refl, refl)

-- ids are ordered by their digits
order_of_ids : id_number (codes "0ff") ≡ 255
order_of_ids = refl

-- values
integer : any_text (one (codes "intValue") (string (codes "8080"))) ≡ codes "8080"
integer = refl

nothing : any_text (object no_members) ≡ codes "null"
nothing = refl

list : any_text (one (codes "arrayValue") (one (codes "values") (array (item (one (codes "intValue") (string (codes "7"))) (item (one (codes "boolValue") (boolean true)) no_items))))) ≡ codes "[7,true]"
list = refl
