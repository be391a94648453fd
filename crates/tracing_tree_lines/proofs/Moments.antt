-- A value encodes at most one moment, and what calls it encodes.
use Rattle.std.specs.Prelude.{◌≡◌, ℕ, false, List, Option, Some, None, codes, refl, Result}
use Rattle.std.proofs.Common.{sym, ap, ◌∙◌}
use Rattle.std.proofs.lemmas.Option.{same_Some, none-some}
use Rattle.std.proofs.Props.{props}
use mathlib.Core.HLevel.{is_prop→PathP}
use Rattle.serde_json.specs.Data.{Data}
use Rattle.serde_json.specs.Find.{as_str}
use Rattle.serde_json.specs.Written.{has_float}
use Rattle.jiff_core.specs.Timestamp.{IsTimestampNanos}
use Rattle.jiff_core.specs.declared.timestamp.Timestamp.{Timestamp}
use Rattle.tracing_tree_base.specs.declared.context.Context.{Context}
use Rattle.tracing_tree_base.specs.declared.context.Moment.{Moment}
use Rattle.tracing_tree_lines.specs.Lines.Values.{ValueSpells}
use Rattle.tracing_tree_lines.specs.Lines.Steps.{Answering, MakesNamed, MakesSpelled}
use Rattle.tracing_tree_lines.proofs.MadeCalls.{spelled_as}
use Rattle.tracing_tree_layer.specs.declared.call.Reply.{Reply}
use Rattle.tracing_tree_lines.specs.Lines.CallKinds.{IsKindIn}
use Rattle.tracing_tree_lines.specs.Lines.Spelled.{◌>>=◌, IsMomentIn, context_in, read_or, call_named, object_call}
use Rattle.tracing_tree_layer.specs.declared.call.Call.{Call}
use Rattle.tracing_tree_lines.specs.declared.lines.LineCause.{LineCause}

same_instant : (a b : Timestamp) → a.nanosecond ≡ b.nanosecond → a ≡ b
same_instant a b e = λ i. record {
  nanosecond = e i;
  in_range = is_prop→PathP (λ j. IsTimestampNanos (e j)) (λ j. Prim.hlevel props) a.in_range b.in_range i;
}

same_parts : (a b : Moment) → a.mono ≡ b.mono → a.wall ≡ b.wall → a ≡ b
same_parts a b mono wall = λ i. record { mono = mono i; wall = wall i }

-- a value encodes at most one moment
pub same_moment : (value : Data) (a b : Moment) → IsMomentIn value a → IsMomentIn value b → a ≡ b
same_moment value a b first second =
    same_parts a b (same_Some a.mono b.mono (sym first.mono ∙ second.mono))
    (same_instant a.wall b.wall (same_Some a.wall.nanosecond b.wall.nanosecond (sym first.wall ∙ second.wall)))

absent_then : {A B : Type 0} (first : Option A) (next : A → Option B) → ((x : A) → next x ≡ None) → first >>= next ≡ None
absent_then None next none = refl
absent_then (Some x) next none = none x

-- if no kind of call is named, there is no call
pub no_kind : (value : Data) (moment : Moment) → IsKindIn value None → object_call value moment ≡ None
no_kind value moment none =
    absent_then (context_in value moment) (λ context. read_or None as_str (codes "call") value >>= (λ name. call_named name value context)) none

-- the call of a value, once its context and its word are known
pub object_call_at : (value : Data) (context : Context) (word : List ℕ) → context_in value context.moment ≡ Some context
    → read_or None as_str (codes "call") value ≡ Some word → object_call value context.moment ≡ call_named word value context
object_call_at value context word spelled named = rw (spelled, named)

no_call : (value : Data) (absent : Option Call) (call : Call) → absent ≡ None → absent ≡ Some call → ⊥
no_call value absent call is other = none-some call (sym is ∙ other)

pub reads_none : (value : Data) → ((moment : Moment) → IsMomentIn value moment → object_call value moment ≡ None) → (call : Call) → ¬ ValueSpells value call
reads_none value nothing call s = none-some call (sym (nothing s.moment s.timed) ∙ s.spelled)

-- the call of a value is that with its word
pub made_named : {S : Type 0} (Answered : Answering S) (value : Data) (context : Context) (word : List ℕ) (result : Result Reply LineCause) (old new : S) → has_float value ≡ false
    → IsMomentIn value context.moment → context_in value context.moment ≡ Some context → read_or None as_str (codes "call") value ≡ Some word
    → MakesNamed Answered word value context result old new → MakesSpelled Answered (ValueSpells value) result old new
made_named Answered value context word result old new whole timed spelled named made =
    let at = object_call_at value context word spelled named in
    spelled_as Answered (λ call. call_named word value context ≡ Some call) (ValueSpells value) result old new
    (λ call is. record { no_float = whole; moment = context.moment; timed = timed; spelled = at ∙ is })
    (λ call s. sym at ∙ ap (object_call value) (same_moment value context.moment s.moment timed s.timed) ∙ s.spelled) made
