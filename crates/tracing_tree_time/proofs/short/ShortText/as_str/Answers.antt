use Rattle.std.proofs.lemmas.Str.{IsUtf8-from_ascii}
use Rattle.tracing_tree_time.proofs.short.ShortText.as_str.Goals as goal

-- an ASCII string is always UTF-8
pub returns-in-Err : goal.returns-in-Err
returns-in-Err c = absurd (c.in-Err.ensures.cases.0 (IsUtf8-from_ascii _ c.self.invariant.1))
