-- With `close_retrace`, a span whose parent is off the current branch is retraced before it closes.
use Rattle.std.specs.Prelude.{Bool, false, not, ◌&&◌, Option}
use Rattle.std.specs.Option.{option_map_or}
use Rattle.std.specs.List.{list_any}
use Rattle.tracing_tree_drawing.specs.Format.Settings.{Settings, retraces}
use Rattle.tracing_tree_spans.specs.Registry.Ids.{same_id}
use Rattle.tracing_tree_spans.specs.Registry.Forest.{Forest, is_printed, parent_of, path_of_any}
use Rattle.tracing_tree_base.specs.declared.context.Id.{Id}

-- a printed span with a parent that isn't on the current branch is retraced before it closes
abbrev pub retraces_before_close : Settings → Forest → Option Id → Id → Bool
retraces_before_close settings forest last i =
    settings.close_retrace && retraces settings && is_printed forest i
    && option_map_or (λ parent. not (list_any (same_id parent) (path_of_any forest last)))
    (parent_of forest i) false
