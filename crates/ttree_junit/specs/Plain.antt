-- The lines around a document.
use Rattle.std.specs.Prelude.{ℕ, zero, suc, ◌==◌, if◌then◌else◌, List, [], ◌∷◌, ◌++◌, length, None}
use Rattle.tracing_tree_base.specs.declared.context.Moment.{Moment}
use Rattle.tracing_tree_layer.specs.declared.call.Call.{Call}
use Rattle.ttree_source.specs.Traces.{plain_event}
use Rattle.ttree_junit.specs.Lines.{after_line, is_blank_text, text_first_line}

-- a line is an event at the root; a blank one isn't shown
abbrev pub plain_line : Moment → List ℕ → List Call
plain_line moment line = if is_blank_text line then [] else plain_event moment line None ∷ []

abbrev pub plain_within : ℕ → Moment → List ℕ → List Call
plain_within zero moment text = []
plain_within (suc turns) moment text =
    if length text == 0 then []
    else plain_line moment (text_first_line text) ++ plain_within turns moment (after_line text)

-- The lines of a string that isn't part of a document. Each turn reads a byte or more.
abbrev pub plain_calls : Moment → List ℕ → List Call
plain_calls moment text = plain_within (length text) moment text
