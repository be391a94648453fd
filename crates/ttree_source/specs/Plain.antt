-- Lines of no format.
use Rattle.std.specs.Prelude.{ℕ, List, [], ◌∷◌, Option, Some, None, if◌then◌else◌}
use Rattle.json.specs.Json.{Json}
use Rattle.tracing_tree_base.specs.declared.context.Moment.{Moment}
use Rattle.tracing_tree_layer.specs.declared.call.Call.{Call}
use Rattle.tracing_tree_lines.specs.Lines.Spelled.{is_skipped}
use Rattle.ttree_source.specs.Source.{Step}
use Rattle.ttree_source.specs.Traces.{plain_event}
use Rattle.ttree_source.specs.declared.notes.Problem.{Problem}
use Rattle.ttree_source.specs.declared.notes.Problem.TheVariants.{Object}

-- each line is an event at the root, except for a blank one
abbrev pub plain_takes : Moment → List ℕ → Option Json → Option (Step Moment)
plain_takes moment line value = Some (record {
  calls = if is_skipped line then [] else plain_event moment line None ∷ [];
  source = moment;
})

abbrev pub plain_ends : Moment → List Call
plain_ends moment = []

abbrev pub plain_ended : Moment → Moment
plain_ended moment = moment

abbrev pub plain_problem : Option Json → Problem
plain_problem value = Object
