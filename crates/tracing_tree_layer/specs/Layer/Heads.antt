-- What precedes the fields of a span, in parts. No public contract names these.
use Rattle.std.specs.Prelude.{ℕ, if◌then◌else◌, List, [], ◌++◌, codes}
use Rattle.tracing_tree_drawing.specs.Format.Settings.{Settings}
use Rattle.tracing_tree_base.specs.Style.{styled}
use Rattle.tracing_tree_base.specs.declared.style.Style.TheVariants.{Dimmed, BoldGreen}
use Rattle.tracing_tree_layer.specs.Layer.Block.{shown_brace}

module _ (settings : Settings) where
  -- the target and two colons, if targets are on
  abbrev pub shown_target : List ℕ → List ℕ
  shown_target target =
      if settings.targets then styled settings.ansi Dimmed target ++ codes "::" else []

  -- target, name and a brace, or a space instead of the brace
  abbrev pub span_head : List ℕ → List ℕ → List ℕ
  span_head target name =
      shown_target target ++ styled settings.ansi BoldGreen name
      ++ shown_brace settings (codes "{") (codes " ")
