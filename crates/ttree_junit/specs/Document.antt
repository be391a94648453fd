-- What a document means.
use Rattle.std.specs.Prelude.{ℕ, zero, suc, ◌||◌, Bool, true, if◌then◌else◌, List, length, Option, Some, None, Result, Ok, Err}
use Rattle.tracing_tree_base.specs.declared.context.Moment.{Moment}
use Rattle.tracing_tree_layer.specs.declared.call.Call.{Call}
use Rattle.xml.specs.Reading.{Reading}
use Rattle.xml.specs.Token.{ReadStep}
use Rattle.xml.specs.Xml.{next_plain_step, next_step}
use Rattle.xml.specs.Xml.{at_start as document_start}
use Rattle.xml.specs.declared.reader.Unfinished.{Unfinished}
use Rattle.xml.specs.declared.reader.Unfinished.TheVariants.{Tag, Comment, Cdata, Instruction, Doctype}
use Rattle.ttree_junit.specs.Element.{begins_document}
use Rattle.ttree_junit.specs.Junit.{JunitState}
use Rattle.ttree_junit.specs.Reading.{at_start, cdata_added, is_open, report_finished, taken}
use Rattle.ttree_junit.specs.declared.reading.Selection.{Selection}

-- the part of a document that is read, and whether it is truncated
pub record ReadDocument : Type 0 where
  pub state : JunitState
  pub is_cut : Bool

-- the end of a document: it is truncated if an element is open
abbrev pub at_end : JunitState → ReadDocument
at_end s = record { state = s; is_cut = is_open s }

-- of what a document ends in, only a CDATA section has characters that are shown
abbrev pub rest_taken : Unfinished → List ℕ → JunitState → JunitState
rest_taken Cdata rest s = cdata_added rest s
rest_taken Tag rest s = s
rest_taken Comment rest s = s
rest_taken Instruction rest s = s
rest_taken Doctype rest s = s

abbrev pub read_next : Result (Option ReadStep) Unfinished → List ℕ → JunitState
    → (Reading → JunitState → ReadDocument) → ReadDocument
read_next (Ok (Some step)) rest s others = others step.after (taken step.token s)
read_next (Ok None) rest s others = at_end s
read_next (Err unfinished) rest s others = record {
  state = rest_taken unfinished rest s;
  is_cut = true;
}

-- the next token: outside of all elements, what doesn't begin a document is plain text
abbrev pub step_of : Reading → JunitState → Result (Option ReadStep) Unfinished
step_of reading s =
    if is_open s || begins_document reading.rest then next_step reading else next_plain_step reading

abbrev pub read_within : ℕ → Reading → JunitState → ReadDocument
read_within zero reading s = at_end s
read_within (suc tokens) reading s =
    read_next (step_of reading s) reading.rest s (λ rest t. read_within tokens rest t)

-- A document that is read. Each token has a byte or more.
abbrev pub read_document : Selection → ℕ → Moment → List ℕ → ReadDocument
read_document selection next moment text =
    read_within (length text) (document_start text) (at_start selection next moment)

-- the document in its drawn form: what is open at its end closes
abbrev pub document_state : Selection → ℕ → Moment → List ℕ → JunitState
document_state selection next moment text = report_finished (read_document selection next moment
    text).state

abbrev pub document_calls : Selection → ℕ → Moment → List ℕ → List Call
document_calls selection next moment text = (document_state selection next moment text).calls

abbrev pub is_cut : Selection → ℕ → Moment → List ℕ → Bool
is_cut selection next moment text = (read_document selection next moment text).is_cut
