-- The fields of a line.
use Rattle.std.specs.Prelude.{List, [], ◌∷◌}
use Rattle.tracing_tree_base.specs.declared.field.Field.{Field}
use Rattle.tracing_tree_lines.specs.declared.lines.field_list.Storage.{Storage}

-- which fields a list has, wherever they are stored
abbrev pub kept_fields : Storage → List Field
kept_fields Storage.None = []
kept_fields (Storage.One field) = field ∷ []
kept_fields (Storage.Many list) = list.items
