-- A length of time in its drawn form.
use Rattle.std.specs.Prelude.{ℕ, ◌/◌, ◌%◌, nat_le, if◌then◌else◌, List, ◌++◌, codes, decimal}
use Rattle.tracing_tree_time.specs.Clock.{micro_unit}

-- `count` thousandths of a unit
abbrev pub thousandths_text : ℕ → List ℕ
thousandths_text count =
    decimal (count / 1000) ++ codes "." ++ decimal (count / 100 % 10) ++ decimal (count / 10 % 10)
    ++ decimal (count % 10)

-- a length in nanoseconds, as seconds, milliseconds or microseconds, truncated to three decimals
abbrev pub length_text : ℕ → List ℕ
length_text nanoseconds =
    if nat_le 1_000_000_000 nanoseconds
    then thousandths_text (nanoseconds / 1_000_000) ++ codes "s"
    else if nat_le 1_000_000 nanoseconds
    then thousandths_text (nanoseconds / 1000) ++ codes "ms"
    else thousandths_text nanoseconds ++ micro_unit
