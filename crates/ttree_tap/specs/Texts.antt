-- What is shown of results, plans and verdicts.
use Rattle.std.specs.Prelude.{ℕ, ◌-◌, ◌==◌, ◌&&◌, Bool, if◌then◌else◌, List, [], ◌∷◌, ◌++◌, length, Option, Some, None, option_and_then, codes, bytes_eq, decimal}
use Rattle.tracing_tree_base.specs.declared.context.Id.{Id}
use Rattle.tracing_tree_base.specs.declared.field.Field.{Field}
use Rattle.ttree_source.specs.Counts.{one_more}
use Rattle.ttree_source.specs.Marks.{after_mark, is_empty}
use Rattle.ttree_source.specs.Calls.{shown_text}
use Rattle.ttree_tap.specs.declared.line.Directive.{Directive}
use Rattle.ttree_tap.specs.declared.line.Directive.TheVariants.{Absent, Skip, Todo, Time}
use Rattle.ttree_tap.specs.declared.tally.Verdict.{Verdict}
use Rattle.ttree_source.specs.Length.{length_text}
use Rattle.ttree_tap.specs.Length.{milliseconds}
use Rattle.ttree_tap.specs.Line.{described, directive_of, elapsed_of, label_part, reason_of, tail_of}
use Rattle.ttree_tap.specs.Strings.{without_leading}
use Rattle.ttree_tap.specs.Tally.{verdict_word}

-- the verdict's word, and what it is on unless the span says that
abbrev pub end_text : Verdict → List ℕ → List ℕ
end_text verdict label =
    if is_empty label then verdict_word verdict else verdict_word verdict ++ codes " " ++ label

abbrev pub value_field : List ℕ → List ℕ → List Field
value_field name value =
    if is_empty value then [] else record { name = name; value = shown_text value } ∷ []

abbrev pub result_end_fields : List ℕ → List ℕ → List Field
result_end_fields reason elapsed =
    value_field (codes "reason") reason ++ value_field (codes "time") elapsed

abbrev pub plan_text : ℕ → ℕ → List ℕ
plan_text count ran = codes "planned " ++ decimal count ++ codes ", ran " ++ decimal ran

abbrev pub no_plan_text : ℕ → List ℕ
no_plan_text ran = codes "no plan, ran " ++ decimal ran

-- the numbers from `first` up to `last`
abbrev pub missing_text : ℕ → ℕ → List ℕ
missing_text first last =
    if first == last then codes "missing " ++ decimal first
    else codes "missing " ++ decimal first ++ codes " to " ++ decimal last

-- what the note of a result says
abbrev pub directive_in : List ℕ → Directive
directive_in rest = directive_of (tail_of (described rest))

-- a description without its note; a `#` that isn't a note belongs to the description
abbrev pub name_as : Directive → List ℕ → List ℕ → List ℕ
name_as Absent text label = text
name_as Skip text label = label
name_as Todo text label = label
name_as Time text label = label

abbrev pub result_name : List ℕ → List ℕ
result_name rest = name_as (directive_in rest) (described rest) (label_part (described rest))

abbrev pub reason_as : Directive → List ℕ → List ℕ
reason_as Skip tail = reason_of tail
reason_as Todo tail = reason_of tail
reason_as Time tail = []
reason_as Absent tail = []

abbrev pub reason_in : List ℕ → List ℕ
reason_in rest = reason_as (directive_in rest) (tail_of (described rest))

abbrev pub length_if : Option ℕ → List ℕ
length_if (Some nanoseconds) = length_text nanoseconds
length_if None = []

abbrev pub elapsed_text : List ℕ → List ℕ
elapsed_text rest = length_if (elapsed_of (tail_of (described rest)))

abbrev pub subtest_label : List ℕ → List ℕ → List ℕ
subtest_label name description =
    if bytes_eq description name then [] else description

-- a test without a description is shown by its number
abbrev pub leaf_label : List ℕ → ℕ → List ℕ
leaf_label description number =
    if is_empty description then decimal number else description

-- what is shown after the verdict: nothing for a subtest of this name
abbrev pub label_of : Option Id → List ℕ → List ℕ → ℕ → List ℕ
label_of (Some span) name description number = subtest_label name description
label_of None name description number = leaf_label description number

abbrev pub time_fields : Option ℕ → List Field
time_fields time = value_field (codes "time") (length_if time)

abbrev pub good_text : Option ℕ → List ℕ → List ℕ
good_text (Some nanoseconds) text = codes "ok"
good_text None text = text

abbrev pub duration_of : List ℕ → Option ℕ
duration_of rest =
    option_and_then (λ t. milliseconds (without_leading 32 t))
    (after_mark (codes "duration_ms:") rest)

-- a block begins two columns deeper than its result
abbrev pub begins_block : ℕ → List ℕ → Bool
begins_block column text =
    bytes_eq (without_leading 32 text) (codes "---")
    && (length text - length (without_leading 32 text) == one_more (one_more column))

abbrev pub unfinished_text : List ℕ → List ℕ
unfinished_text name = codes "unfinished " ++ name
