-- The strings of styles and levels.
use Rattle.std.specs.Prelude.{◌≡◌, ℕ, Bool, true, false, if◌then◌else◌, List, [], ◌∷◌, ◌++◌, Option, codes, bytes_eq, find, Result}
use Rattle.std.specs.Result.{result_ok}
use Rattle.tracing_tree_base.specs.declared.style.Style.{Style}
use Rattle.tracing_tree_base.specs.declared.style.Style.TheVariants.{Plain, Dimmed, BoldGreen, BoldPurple, BoldBlue, BoldWarn, BoldRed}
use Rattle.tracing_tree_base.specs.declared.style.Level.{Level}
use Rattle.tracing_tree_base.specs.declared.style.ParseLevelError.{ParseLevelError}
use Rattle.tracing_tree_base.specs.declared.style.Level.TheVariants.{Trace, Debug, Info, Warn, Error}

-- ---- styles

-- the code of a style in its escape sequence; `styled` leaves a string in the plain style
-- unchanged, so the code of `Plain` is never written
abbrev pub style_code : Style → List ℕ
style_code Plain = codes "0"
style_code Dimmed = codes "2"
style_code BoldGreen = codes "1;32"
style_code BoldPurple = codes "1;35"
style_code BoldBlue = codes "1;34"
style_code BoldWarn = codes "1;38;2;252;234;160"
style_code BoldRed = codes "1;31"

-- a string between the sequence that starts a style and the one that ends it
abbrev pub painted : Style → List ℕ → List ℕ
painted style text = 27 ∷ 91 ∷ style_code style ++ 109 ∷ text ++ 27 ∷ codes "[0m"

-- a string in a style; unchanged without colours, and in the plain style
abbrev pub styled : Bool → Style → List ℕ → List ℕ
styled false style text = text
styled true Plain text = text
styled true style text = painted style text

-- ---- levels

abbrev pub level_text : Level → List ℕ
level_text Trace = codes "TRACE"
level_text Debug = codes "DEBUG"
level_text Info = codes "INFO"
level_text Warn = codes "WARN"
level_text Error = codes "ERROR"

-- the level that has this name, if one has it
abbrev pub level_named : List ℕ → Option Level
level_named name =
    find (λ level. bytes_eq (level_text level) name) (Trace ∷ Debug ∷ Info ∷ Warn ∷ Error ∷ [])

-- a string was read as the level that has this name
abbrev pub ReadsLevel : List ℕ → Result Level ParseLevelError → Type 0
ReadsLevel name result = result_ok result ≡ level_named name

-- a level in its colour, right in five places
abbrev pub color_level_text : Level → List ℕ
color_level_text Trace = painted BoldPurple (codes "TRACE")
color_level_text Debug = painted BoldBlue (codes "DEBUG")
color_level_text Info = painted BoldGreen (codes " INFO")
color_level_text Warn = painted BoldWarn (codes " WARN")
color_level_text Error = painted BoldRed (codes "ERROR")

-- a level as an event shows it
abbrev pub shown_level : Bool → Level → List ℕ
shown_level ansi level = if ansi then color_level_text level else level_text level
