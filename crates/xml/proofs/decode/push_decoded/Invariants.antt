use Rattle.std.proofs.Common.{◌≡◌, ◌-◌, ◌++◌, length, string_bytes}
use denote.Text.{Utf8}
use denote.Shadow.{shadow}
use Rattle.xml.specs.Decoded.{decoded, decoded_within}
use Rattle.xml.proofs.decode.push_decoded.Given as goal

-- what is written, and then what the rest means, is everything
abbrev pub invariant-loop-turn : goal.invariant-loop-turn
invariant-loop-turn l =
    shadow (Utf8 l.rest)
    × (string_bytes l.fn.out ++ decoded l.until l.fn.text
    ≡ string_bytes l.out ++ decoded_within (length l.fn.text - l._turn) l.until l.rest)
