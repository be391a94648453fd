-- Names of the characters that a drawing is made of.
use Rattle.std.specs.Prelude.{ℕ}
use Prim.Native.Char.{code}

abbrev pub space : ℕ
space = code " "

-- `─`
abbrev pub horizontal : ℕ
horizontal = code "─"

-- `│`
abbrev pub vertical : ℕ
vertical = code "│"

-- `┌`
abbrev pub corner_down_right : ℕ
corner_down_right = code "┌"

-- `┐`
abbrev pub corner_down_left : ℕ
corner_down_left = code "┐"

-- `└`
abbrev pub corner_up_right : ℕ
corner_up_right = code "└"

-- `┘`
abbrev pub corner_up_left : ℕ
corner_up_left = code "┘"

-- `├`
abbrev pub branch : ℕ
branch = code "├"
