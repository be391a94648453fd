-- The bytes of a string, wherever it is stored.
use Rattle.std.specs.Prelude.{ℕ, List, string_bytes}
use Rattle.tracing_tree_base.specs.declared.text.Storage.{Storage}
use Rattle.tracing_tree_base.specs.declared.text.Storage.TheVariants.{Short, Long}

abbrev pub kept_bytes : Storage → List ℕ
kept_bytes (Short text) = text.bytes
kept_bytes (Long text) = string_bytes text
