-- The kinds of calls and their words.
use Rattle.std.specs.Prelude.{◌≡◌, ℕ, List, Option, Some, None, codes}
use Rattle.serde_json.specs.Data.{Data}
use Rattle.serde_json.specs.Find.{as_str}
use Rattle.tracing_tree_base.specs.declared.context.Context.{Context}
use Rattle.tracing_tree_lines.specs.Lines.Spelled.{read_or, ◌>>=◌, call_named}
use Rattle.tracing_tree_lines.specs.declared.lines.call.Kind.{Kind}
use Rattle.tracing_tree_lines.specs.declared.lines.call.Kind.TheVariants.{New, Clone, Record, Event, Close}

-- the word that names a kind
abbrev pub word_of : Kind → List ℕ
word_of New = codes "new"
word_of Clone = codes "clone"
word_of Record = codes "record"
word_of Event = codes "event"
word_of Close = codes "close"

-- the kind that a value names; if it names no kind, it isn't the word of a call
abbrev pub IsKindIn : Data → Option Kind → Type 0
IsKindIn value (Some kind) = read_or None as_str (codes "call") value ≡ Some (word_of kind)
IsKindIn value None =
    (context : Context)
    → (read_or None as_str (codes "call") value >>= (λ word. call_named word value context)) ≡ None
