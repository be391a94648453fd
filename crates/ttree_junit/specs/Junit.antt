-- What is known of a document while it is read.
use Rattle.std.specs.Prelude.{ℕ, Bool, List, Option}
use Rattle.tracing_tree_base.specs.declared.context.Moment.{Moment}
use Rattle.tracing_tree_layer.specs.declared.call.Call.{Call}
use Rattle.ttree_junit.specs.States.{CaseState, PartState, TagState}
use Rattle.ttree_junit.specs.declared.element.Element.{Element}
use Rattle.ttree_junit.specs.declared.reading.Class.{Class}
use Rattle.ttree_junit.specs.declared.reading.Selection.{Selection}
use Rattle.ttree_junit.specs.declared.reading.Suite.{Suite}
use Rattle.ttree_junit.specs.declared.reading.Tally.{Tally}

-- What is shown, the id of the next span, the moment of all calls, the text around the document, an
-- element of a report has begun, the elements that are open, the tag that is read, the suites that
-- are open, the span of a class, the case and the part that are read, the counts of cases by their
-- ends, and the calls. What is innermost comes last.
pub record JunitState : Type 0 where
  pub selection : Selection
  pub next : ℕ
  pub moment : Moment
  pub outside : List ℕ
  pub is_report : Bool
  pub elements : List Element
  pub tag : TagState
  pub suites : List Suite
  pub class : Option Class
  pub in_case : Bool
  pub case : CaseState
  pub in_part : Bool
  pub part : PartState
  pub tally : Tally
  pub calls : List Call
