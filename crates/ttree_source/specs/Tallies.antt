-- Counts of calls by kind.
use Rattle.std.specs.Prelude.{◌≡◌, true, ◌+◌, List, [], ◌∷◌, ◌++◌, Option, MatchOption, Result, Ok, Err}
use Rattle.tracing_tree_base.specs.declared.context.Refusal.{Refusal}
use Rattle.tracing_tree_base.specs.declared.context.Refusal.TheVariants.{TooMany}
use Rattle.tracing_tree_spans.specs.Registry.Ids.{id_of}
use Rattle.tracing_tree_layer.specs.declared.call.Call.{Call}
use Rattle.tracing_tree_layer.specs.declared.call.Call.TheVariants.{New, Clone, Record, Event, Close}
use Rattle.tracing_tree_layer.specs.declared.call.Reply.{Reply}
use Rattle.tracing_tree_layer.specs.declared.call.Reply.TheVariants.{Span, Cloned, Done, Closed}
use Rattle.tracing_tree_lines.specs.declared.lines.LineFault.{LineFault}
use Rattle.ttree_source.specs.declared.tally.Tally.{Tally}

abbrev pub nothing_counted : Tally
nothing_counted = record { spans = 0; clones = 0; records = 0; events = 0; closes = 0 }

-- one call more, by its kind
abbrev pub call_counted : Call → Tally → Tally
call_counted (New attributes context) tally = record tally { spans = tally.spans + 1 }
call_counted (Clone id) tally = record tally { clones = tally.clones + 1 }
call_counted (Record id values) tally = record tally { records = tally.records + 1 }
call_counted (Event event context) tally = record tally { events = tally.events + 1 }
call_counted (Close id context) tally = record tally { closes = tally.closes + 1 }

abbrev pub counted_all : List Call → Tally → Tally
counted_all [] tally = tally
counted_all (call ∷ calls) tally = counted_all calls (call_counted call tally)

-- the reply to a call that is counted: spans get the ids 1, 2 and so on, and each close removes one
abbrev pub tally_reply : Call → Tally → Reply
tally_reply (New attributes context) tally = Span (id_of (tally.spans + 1))
tally_reply (Clone id) tally = Cloned id
tally_reply (Record id values) tally = Done
tally_reply (Event event context) tally = Done
tally_reply (Close id context) tally = Closed true

-- an accepted call is counted, and a refused one isn't
abbrev pub IsCounted : Call → Result Reply Refusal → Tally → Tally → Type 0
IsCounted call (Ok reply) old new = (new ≡ call_counted call old) × (reply ≡ tally_reply call old)
IsCounted call (Err refusal) old new = (new ≡ old) × (refusal ≡ TooMany)

-- all of these calls were counted, or a first part if something ended the run
abbrev pub CountsCalls : Option LineFault → List Call → Tally → Type 0
CountsCalls fault calls tally =
    MatchOption fault (tally ≡ counted_all calls nothing_counted) (λ _.
    (made rest : List Call) × (made ++ rest ≡ calls) × (tally ≡ counted_all made nothing_counted))
