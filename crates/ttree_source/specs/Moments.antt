-- When a line happened, as it says.
use Rattle.std.specs.Prelude.{ℕ, ◌-◌, ◌^◌, min, ℤ, pos, negsuc, neg_ℤ, List, Option, Some, None, Result, Ok, Err}
use Rattle.std.specs.Int.{int_max, int_min}
use Rattle.std.proofs.Common.{arith}
use Rattle.std.proofs.lemmas.Int.{ints, clamps}
use Rattle.jiff.specs.Words.{parse_timestamp}
use Rattle.jiff_core.specs.Timestamp.{IsTimestampNanos}
use Rattle.jiff_core.specs.declared.error.Error.{Error}
use Rattle.jiff_core.specs.declared.timestamp.Timestamp.{Timestamp}
use Rattle.tracing_tree_base.specs.declared.context.Moment.{Moment}

-- these nanoseconds since 1970, or the nearest that an instant may have
abbrev pub into_range : ℤ → ℤ
into_range n =
    int_max (neg_ℤ (pos 377_705_023_201_000_000_000)) (int_min n (pos 253_402_207_200_999_999_999))

pub is_in_range : (n : ℤ) → IsTimestampNanos (into_range n)
is_in_range n = (omega (arith, ints, clamps), omega (arith, ints, clamps))

abbrev pub instant_at : ℤ → Timestamp
instant_at n = record { nanosecond = into_range n; in_range = is_in_range n }

-- nanoseconds since 1970, as a moment has them: 0 before then, and at most what a u64 holds
abbrev pub since_1970 : ℤ → ℕ
since_1970 (pos n) = min n (2 ^ 64 - 1)
since_1970 (negsuc n) = 0

abbrev pub moment_at : ℤ → Moment
moment_at n = record { mono = since_1970 n; wall = instant_at n }

abbrev pub moment_read : Result ℤ Error → Option Moment
moment_read (Ok n) = Some (moment_at n)
moment_read (Err error) = None

-- the moment that a string encodes, in the format of RFC 3339
abbrev pub moment_of : List ℕ → Option Moment
moment_of text = moment_read (parse_timestamp text)

abbrev pub moment_or : Option Moment → Moment → Moment
moment_or (Some moment) before = moment
moment_or None before = before

-- the moment of a line by the string of its time; that of the line before if it has no moment
abbrev pub moment_after : Option (List ℕ) → Moment → Moment
moment_after (Some text) before = moment_or (moment_of text) before
moment_after None before = before
