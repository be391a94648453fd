-- What a line does, as effects.
use Rattle.std.proofs.Common.{◌≡◌, ℕ, ◌==◌, ◌-◌, ◌^◌, Bool, true, false, ◌||◌, if◌then◌else◌, List, [], ◌∷◌, ◌++◌, flat_map, Option, Some, None, codes, refl, sym, ap, ◌∙◌, true≢false}
use Rattle.std.specs.Prelude.{⊤}
use Rattle.std.specs.List.{AllByRecursion}
use Rattle.json.specs.Json.{Json, Items, no_items, item, document}
use Rattle.json.specs.Find.{get}
use Rattle.ttree_otlp.specs.Item.{parent_of, event_note, failed_note, link_note, log_note, log_time, span_read, unfinished_note}
use Rattle.ttree_otlp.specs.Named.{status_is_error}
use Rattle.ttree_otlp.specs.Read.{count_at, id_at, items_at, service_in}
use Rattle.ttree_source.specs.Blanks.{first_byte}
use Rattle.ttree_source.specs.Marks.{is_empty}
use Rattle.ttree_otlp.specs.Gather.{GatheredState, end_taken, event_taken, events_taken, is_export, line_taken_as, lines_taken, links_taken, log_added, log_taken, logs_taken, lost, next_line, note_known, notes_taken, object_taken, of_service, otlp_line_taken, resource_taken, resources_taken, row_gathered, row_place, scope_taken, scopes_taken, span_added, span_taken, spans_taken, status_taken, trace_seen, trace_seen_as, value_taken}
use Rattle.ttree_otlp.specs.Keyed.{key_of, kept_at}
use Rattle.ttree_otlp.specs.Ties.{has_space}
use Rattle.ttree_otlp.specs.declared.item.Item.{Item}
use Rattle.ttree_otlp.specs.declared.item.Shape.{Shape}
use Rattle.ttree_otlp.specs.declared.item.Shape.TheVariants.{Span, Note}
use Rattle.ttree_otlp.proofs.Order.Gathered.{all_joined, raw_joined, served}
use Rattle.ttree_otlp.proofs.Order.Effects.{Effect, IsPlain, Known, Line, Lost, Row, Seen, Serves, all_done, done_joined, put, raw}
use Rattle.ttree_otlp.proofs.Order.Once.{trace_id}

-- the traces of rows have no space in their ids
abbrev pub AreClear : List Effect → List ℕ → Type 0
AreClear [] service = ⊤
AreClear (Row row ∷ es) service = (has_space (row service).trace ≡ false) × AreClear es service
AreClear (Seen trace time ∷ es) service = AreClear es service
AreClear (Known trace id start ∷ es) service = AreClear es service
AreClear (Lost ∷ es) service = AreClear es service
AreClear (Serves other ∷ es) service = AreClear es other
AreClear (Line ∷ es) service = AreClear es service

pub clear_parts : (es fs : List Effect) (service : List ℕ) → AreClear (es ++ fs) service → AreClear es service × AreClear fs (served es service)
clear_parts [] fs service h = (tt, h)
clear_parts (Row row ∷ es) fs service h = let parts = clear_parts es fs service h.1 in ((h.0, parts.0), parts.1)
clear_parts (Seen trace time ∷ es) fs service h = clear_parts es fs service h
clear_parts (Known trace id start ∷ es) fs service h = clear_parts es fs service h
clear_parts (Lost ∷ es) fs service h = clear_parts es fs service h
clear_parts (Serves other ∷ es) fs service h = clear_parts es fs other h
clear_parts (Line ∷ es) fs service h = clear_parts es fs service h

served_joined : (es fs : List Effect) (service : List ℕ) → served (es ++ fs) service ≡ served fs (served es service)
served_joined [] fs service = refl
served_joined (Row row ∷ es) fs service = served_joined es fs service
served_joined (Seen trace time ∷ es) fs service = served_joined es fs service
served_joined (Known trace id start ∷ es) fs service = served_joined es fs service
served_joined (Lost ∷ es) fs service = served_joined es fs service
served_joined (Serves other ∷ es) fs service = served_joined es fs other
served_joined (Line ∷ es) fs service = served_joined es fs service

service_done : (es : List Effect) (s : GatheredState) → (all_done es s).service ≡ served es s.service
service_done [] s = refl
service_done (Row row ∷ es) s = service_done es (put (row s.service) s)
service_done (Seen trace time ∷ es) s = service_done es (trace_seen trace time s) ∙ ap (served es) (by (kept_at (key_of trace []) s.known)) where
  by : (o : Option ℕ) → (trace_seen_as o trace time s).service ≡ s.service
  by (Some first) = refl
  by None = refl
service_done (Known trace id start ∷ es) s = service_done es (note_known (key_of trace id) start s)
service_done (Lost ∷ es) s = service_done es (lost s)
service_done (Serves other ∷ es) s = service_done es (of_service other s)
service_done (Line ∷ es) s = service_done es (next_line s)

-- ---- in a resource

-- these effects, and the service stays that of the resource
record Runs (f : GatheredState → GatheredState) : Type 0 where
  effects : List Effect
  is : (s : GatheredState) → f s ≡ all_done effects s
  plain : (service : List ℕ) → AreClear effects service → AllByRecursion IsPlain effects
  steady : (service : List ℕ) → served effects service ≡ service

nothing_runs : Runs (λ s. s)
nothing_runs = record { effects = []; is = λ s. refl; plain = λ service h. tt; steady = λ service. refl }

both_run : (f g : GatheredState → GatheredState) → Runs f → Runs g → Runs (λ s. g (f s))
both_run f g a b = record {
  effects = a.effects ++ b.effects;
  is = λ s. b.is (f s) ∙ ap (all_done b.effects) (a.is s) ∙ sym (done_joined a.effects b.effects s);
  plain = λ service h. let parts = clear_parts a.effects b.effects service h in
      all_joined IsPlain a.effects b.effects (a.plain service parts.0) (b.plain (served a.effects service) parts.1);
  steady = λ service. served_joined a.effects b.effects service ∙ b.steady (served a.effects service) ∙ a.steady service;
}

either_runs : (b : Bool) (f g : GatheredState → GatheredState) → Runs f → Runs g → Runs (λ s. if b then f s else g s)
either_runs true f g x y = x
either_runs false f g x y = y

lost_runs : Runs lost
lost_runs = record { effects = Lost ∷ []; is = λ s. refl; plain = λ service h. (tt, tt); steady = λ service. refl }

row_runs : (row : List ℕ → Item) → ((service : List ℕ) → trace_id (row service).shape ≡ None) → Runs (λ s. put (row s.service) s)
row_runs row h = record { effects = Row row ∷ []; is = λ s. refl; plain = λ service k. (h, tt); steady = λ service. refl }

-- a row of an event, a link and so on
abbrev row_of : List ℕ → List ℕ → ℕ → ℕ → Shape → Item
row_of trace parent order time shape = record { trace = trace; parent = parent; place = row_place order shape 0; time = time; shape = shape }

link_runs : (trace span : List ℕ) (time : ℕ) (value : Json) → Runs (λ s. row_gathered trace span 0 time (Note (link_note s.service value)) s)
link_runs trace span time value = row_runs (λ service. row_of trace span 0 time (Note (link_note service value))) (λ service. refl)

links_run : (trace span : List ℕ) (time : ℕ) (links : Items) → Runs (links_taken trace span time links)
links_run trace span time no_items = nothing_runs
links_run trace span time (item value others) =
    both_run (λ s. row_gathered trace span 0 time (Note (link_note s.service value)) s) (links_taken trace span time others) (link_runs trace span time value) (links_run trace span time others)

event_runs : (trace span : List ℕ) (value : Json) → Runs (event_taken trace span value)
event_runs trace span value =
    let time = count_at (codes "timeUnixNano") value in
    row_runs (λ service. row_of trace span time time (Note (event_note service value))) (λ service. refl)

events_run : (trace span : List ℕ) (events : Items) → Runs (events_taken trace span events)
events_run trace span no_items = nothing_runs
events_run trace span (item value others) = both_run (event_taken trace span value) (events_taken trace span others) (event_runs trace span value) (events_run trace span others)

end_runs : (trace span : List ℕ) (end : ℕ) → Runs (end_taken trace span end)
end_runs trace span end =
    either_runs (end == 0) (λ s. row_gathered trace span (2 ^ 64 - 1) 0 (Note (unfinished_note s.service)) s) (λ s. s)
    (row_runs (λ service. row_of trace span (2 ^ 64 - 1) 0 (Note (unfinished_note service))) (λ service. refl)) nothing_runs

status_runs : (trace span : List ℕ) (end : ℕ) (status : Option Json) → Runs (status_taken trace span end status)
status_runs trace span end None = nothing_runs
status_runs trace span end (Some status) =
    either_runs (status_is_error status) (λ s. row_gathered trace span (2 ^ 64 - 1) end (Note (failed_note s.service status)) s) (λ s. s)
    (row_runs (λ service. row_of trace span (2 ^ 64 - 1) end (Note (failed_note service status))) (λ service. refl)) nothing_runs

notes_run : (trace span : List ℕ) (value : Json) → Runs (notes_taken trace span value)
notes_run trace span value =
    let links = links_taken trace span (count_at (codes "startTimeUnixNano") value) (items_at (codes "links") value) in
    let events = events_taken trace span (items_at (codes "events") value) in
    let end = end_taken trace span (count_at (codes "endTimeUnixNano") value) in
    let status = status_taken trace span (count_at (codes "endTimeUnixNano") value) (get (codes "status") value) in
    both_run (λ s. end (events (links s))) status
    (both_run (λ s. events (links s)) end
    (both_run links events (links_run trace span _ (items_at (codes "links") value)) (events_run trace span (items_at (codes "events") value)))
    (end_runs trace span (count_at (codes "endTimeUnixNano") value)))
    (status_runs trace span (count_at (codes "endTimeUnixNano") value) (get (codes "status") value))

span_added_runs : (trace id : List ℕ) (value : Json) → (id ≡ [] → ⊥) → Runs (span_added trace id value)
span_added_runs trace id value full =
    let start = count_at (codes "startTimeUnixNano") value in
    let notes = notes_run trace id value in
    let row : List ℕ → Item = λ service. row_of trace (parent_of id (id_at (codes "parentSpanId") value)) start start (Span (span_read service value)) in
    let inside : GatheredState → GatheredState = λ s. note_known (key_of trace id) start (trace_seen trace start s) in
    record {
      effects = Seen trace start ∷ Known trace id start ∷ (notes.effects ++ Row row ∷ []);
      is = λ s.
          let t : GatheredState = notes_taken trace id value (inside s) in
          let u : GatheredState = all_done notes.effects (inside s) in
          let same : t ≡ u = notes.is (inside s) in
          let service : s.service ≡ u.service =
          sym (service_done (Seen trace start ∷ Known trace id start ∷ notes.effects) s ∙ notes.steady s.service) in
          (λ i. put (row (service i)) (same i)) ∙ sym (done_joined notes.effects (Row row ∷ []) (inside s));
      plain = λ service h.
          let parts = clear_parts notes.effects (Row row ∷ []) service h in
          (parts.1.0, ((parts.1.0, full), all_joined IsPlain notes.effects (Row row ∷ []) (notes.plain service parts.0) ((λ service. refl), tt)));
      steady = λ service. served_joined notes.effects (Row row ∷ []) service ∙ notes.steady service;
    }

not_empty : (id : List ℕ) → is_empty id ≡ false → id ≡ [] → ⊥
not_empty id h e = true≢false (sym (ap is_empty e) ∙ h)

span_runs : (value : Json) → Runs (span_taken value)
span_runs value = by (is_empty (id_at (codes "traceId") value)) (is_empty (id_at (codes "spanId") value)) refl where
  by : (a b : Bool) → is_empty (id_at (codes "spanId") value) ≡ b
      → Runs (λ s. if a || b then lost s else span_added (id_at (codes "traceId") value) (id_at (codes "spanId") value) value s)
  by true b is = lost_runs
  by false true is = lost_runs
  by false false is = span_added_runs (id_at (codes "traceId") value) (id_at (codes "spanId") value) value (not_empty (id_at (codes "spanId") value) is)

spans_run : (spans : Items) → Runs (spans_taken spans)
spans_run no_items = nothing_runs
spans_run (item value others) = both_run (span_taken value) (spans_taken others) (span_runs value) (spans_run others)

log_added_runs : (trace span : List ℕ) (value : Json) → Runs (log_added trace span value)
log_added_runs trace span value = row_runs (λ service. row_of trace span (log_time value) (log_time value) (Note (log_note service value))) (λ service. refl)

log_in_trace_runs : (trace span : List ℕ) (value : Json) → Runs (λ s. log_added trace span value (trace_seen trace (log_time value) s))
log_in_trace_runs trace span value =
    let row : List ℕ → Item = λ service. row_of trace span (log_time value) (log_time value) (Note (log_note service value)) in
    record {
      effects = Seen trace (log_time value) ∷ Row row ∷ [];
      is = λ s. refl;
      plain = λ service h. (h.0, ((λ service. refl), tt));
      steady = λ service. refl;
    }

log_runs : (value : Json) → Runs (log_taken value)
log_runs value =
    either_runs (is_empty (id_at (codes "traceId") value)) (log_added [] [] value) (λ s. log_added (id_at (codes "traceId") value) (id_at (codes "spanId") value) value (trace_seen (id_at (codes "traceId") value) (log_time value) s))
    (log_added_runs [] [] value) (log_in_trace_runs (id_at (codes "traceId") value) (id_at (codes "spanId") value) value)

logs_run : (logs : Items) → Runs (logs_taken logs)
logs_run no_items = nothing_runs
logs_run (item value others) = both_run (log_taken value) (logs_taken others) (log_runs value) (logs_run others)

scope_runs : (value : Json) → Runs (scope_taken value)
scope_runs value =
    let spans = items_at (codes "spans") value in
    let logs = items_at (codes "logRecords") value in
    both_run (spans_taken spans) (logs_taken logs) (spans_run spans) (logs_run logs)

scopes_run : (scopes : Items) → Runs (scopes_taken scopes)
scopes_run no_items = nothing_runs
scopes_run (item value others) = both_run (scope_taken value) (scopes_taken others) (scope_runs value) (scopes_run others)

-- ---- resources and lines

-- these effects, whose rows are the same whatever service was read before
pub record Reads (f : GatheredState → GatheredState) : Type 0 where
  pub effects : List Effect
  pub is : (s : GatheredState) → f s ≡ all_done effects s
  pub plain : (service : List ℕ) → AreClear effects service → AllByRecursion IsPlain effects
  pub fresh : (service other : List ℕ) → raw effects service ≡ raw effects other

nothing_reads : Reads (λ s. s)
nothing_reads = record { effects = []; is = λ s. refl; plain = λ service h. tt; fresh = λ service other. refl }

lost_reads : Reads lost
lost_reads = record { effects = Lost ∷ []; is = λ s. refl; plain = λ service h. (tt, tt); fresh = λ service other. refl }

line_reads : Reads next_line
line_reads = record { effects = Line ∷ []; is = λ s. refl; plain = λ service h. (tt, tt); fresh = λ service other. refl }

both_read : (f g : GatheredState → GatheredState) → Reads f → Reads g → Reads (λ s. g (f s))
both_read f g a b = record {
  effects = a.effects ++ b.effects;
  is = λ s. b.is (f s) ∙ ap (all_done b.effects) (a.is s) ∙ sym (done_joined a.effects b.effects s);
  plain = λ service h. let parts = clear_parts a.effects b.effects service h in
      all_joined IsPlain a.effects b.effects (a.plain service parts.0) (b.plain (served a.effects service) parts.1);
  fresh = λ service other. raw_joined a.effects b.effects service
      ∙ (λ i. a.fresh service other i ++ b.fresh (served a.effects service) (served a.effects other) i) ∙ sym (raw_joined a.effects b.effects other);
}

service_reads : (service : List ℕ) (f : GatheredState → GatheredState) → Runs f → Reads (λ s. f (of_service service s))
service_reads service f a = record {
  effects = Serves service ∷ a.effects;
  is = λ s. a.is (of_service service s);
  plain = λ other h. (tt, a.plain service h);
  fresh = λ before other. refl;
}

resource_reads : (value : Json) → Reads (resource_taken value)
resource_reads value =
    let spans = items_at (codes "scopeSpans") value in
    let old_spans = items_at (codes "instrumentationLibrarySpans") value in
    let logs = items_at (codes "scopeLogs") value in
    let old_logs = items_at (codes "instrumentationLibraryLogs") value in
    service_reads (service_in value) (λ s. scopes_taken old_logs (scopes_taken logs (scopes_taken old_spans (scopes_taken spans s))))
    (both_run (λ s. scopes_taken logs (scopes_taken old_spans (scopes_taken spans s))) (scopes_taken old_logs)
    (both_run (λ s. scopes_taken old_spans (scopes_taken spans s)) (scopes_taken logs)
    (both_run (scopes_taken spans) (scopes_taken old_spans) (scopes_run spans) (scopes_run old_spans))
    (scopes_run logs))
    (scopes_run old_logs))

resources_read : (resources : Items) → Reads (resources_taken resources)
resources_read no_items = nothing_reads
resources_read (item value others) = both_read (resource_taken value) (resources_taken others) (resource_reads value) (resources_read others)

object_reads : (value : Json) → Reads (object_taken value)
object_reads value =
    let spans = items_at (codes "resourceSpans") value in
    let logs = items_at (codes "resourceLogs") value in
    both_read (resources_taken spans) (resources_taken logs) (resources_read spans) (resources_read logs)

value_reads : (value : Option Json) → Reads (value_taken value)
value_reads None = lost_reads
value_reads (Some value) = by (is_export value) where
  by : (b : Bool) → Reads (λ s. if b then object_taken value s else lost s)
  by true = object_reads value
  by false = lost_reads

pub reads_line : (line : List ℕ) → Reads (otlp_line_taken line)
reads_line line = by (first_byte line) where
  by : (byte : Option ℕ) → Reads (λ s. line_taken_as byte line (next_line s))
  by None = line_reads
  by (Some byte) = both_read next_line (value_taken (document line)) line_reads (value_reads (document line))

abbrev pub effects_of : List ℕ → List Effect
effects_of line = (reads_line line).effects

pub lines_done : (lines : List (List ℕ)) (s : GatheredState) → lines_taken lines s ≡ all_done (flat_map effects_of lines) s
lines_done [] s = refl
lines_done (line ∷ lines) s =
    lines_done lines (otlp_line_taken line s) ∙ ap (all_done (flat_map effects_of lines)) ((reads_line line).is s) ∙ sym (done_joined (effects_of line) (flat_map effects_of lines) s)
