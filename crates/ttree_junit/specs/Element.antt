-- The elements of JUnit XML, and their attributes.
use Rattle.std.specs.Prelude.{ℕ, ◌||◌, Bool, if◌then◌else◌, List, [], ◌∷◌, codes, bytes_eq}
use Rattle.tracing_tree_base.specs.declared.field.Field.{Field}
use Rattle.ttree_source.specs.Marks.{begins}
use Rattle.ttree_junit.specs.declared.element.Element.{Element}
use Rattle.ttree_junit.specs.declared.element.Element.TheVariants.{Suite, Case, Failure, Rerun, Skipped, Output, Property, Other}

-- what an element of this name is
abbrev pub element_named : List ℕ → Element
element_named name =
    if bytes_eq name (codes "testsuite") then Suite
    else if bytes_eq name (codes "testcase") then Case
    else if bytes_eq name (codes "failure") then Failure
    else if bytes_eq name (codes "error") then Failure
    else if bytes_eq name (codes "flakyFailure") then Rerun
    else if bytes_eq name (codes "flakyError") then Rerun
    else if bytes_eq name (codes "rerunFailure") then Rerun
    else if bytes_eq name (codes "rerunError") then Rerun
    else if bytes_eq name (codes "skipped") then Skipped
    else if bytes_eq name (codes "system-out") then Output
    else if bytes_eq name (codes "system-err") then Output
    else if bytes_eq name (codes "property") then Property
    else Other

-- what an element is outside of parts: no suite or case is in a case, and `skipped` is in one
abbrev pub role_in : Element → Bool → Element
role_in Suite in_case = if in_case then Other else Suite
role_in Case in_case = if in_case then Other else Case
role_in Failure in_case = Failure
role_in Rerun in_case = if in_case then Rerun else Other
role_in Skipped in_case = if in_case then Skipped else Other
role_in Output in_case = Output
role_in Property in_case = Property
role_in Other in_case = Other

-- what an element is by its position: in a part of a case, only characters count
abbrev pub role_of : Element → Bool → Bool → Element
role_of element in_case in_part = if in_part then Other else role_in element in_case

-- an element of this name is of a report in JUnit XML
abbrev pub is_of_report : List ℕ → Bool
is_of_report name =
    bytes_eq name (codes "testsuites") || bytes_eq name (codes "testsuite")
    || bytes_eq name (codes "testcase")

-- a document begins here
abbrev pub begins_document : List ℕ → Bool
begins_document text =
    begins (codes "<testsuite") text || begins (codes "<testcase") text
    || begins (codes "<?xml") text || begins (codes "<!--") text
    || begins (codes "<!DOCTYPE") text

-- the value of the first attribute of this name, or an empty string
abbrev pub attribute_in : List ℕ → List Field → List ℕ
attribute_in name [] = []
attribute_in name (attribute ∷ others) =
    if bytes_eq attribute.name name then attribute.value else attribute_in name others

-- a case of this status wasn't run
abbrev pub is_off : List ℕ → Bool
is_off status =
    bytes_eq status (codes "disabled") || bytes_eq status (codes "notrun")
    || bytes_eq status (codes "skipped")
