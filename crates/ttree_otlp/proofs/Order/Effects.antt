-- What an input does to what was gathered, one effect at a time.
use Rattle.std.proofs.Common.{◌≡◌, ℕ, Bool, true, false, cond, min, ◌||◌, List, [], ◌∷◌, ◌++◌, length, map, Option, Some, None, is_some, refl, sym, ap, ◌∙◌, append_assoc, append-nil}
use Rattle.std.specs.Prelude.{⊤}
use Rattle.std.specs.List.{AllByRecursion}
use Rattle.std.proofs.lemmas.List.{map-append}
use Rattle.ttree_otlp.specs.Gather.{GatheredState, lost, next_line, note_known, of_service, row_gathered, row_place, trace_seen, trace_seen_as}
use Rattle.ttree_otlp.specs.Keyed.{key_of, kept_at, with_kept}
use Rattle.ttree_otlp.specs.Ties.{has_space, unnumbered}
use Rattle.ttree_otlp.specs.declared.item.Item.{Item}
use Rattle.ttree_otlp.specs.declared.item.Shape.TheVariants.{Trace}
use Rattle.ttree_otlp.proofs.Order.Keys.{is_key, kept_with, one_key}
use Rattle.ttree_otlp.proofs.Order.Once.{also, once, put_once, trace_id}
use Rattle.ttree_otlp.proofs.Order.TraceKeys.{span_keys, trace_keys}

-- a row of the resource's service, a trace at a time, a span at its start, and so on
pub data Effect : Type 0 where
  Row : (List ℕ → Item) → Effect
  Seen : List ℕ → ℕ → Effect
  Known : List ℕ → List ℕ → ℕ → Effect
  Lost : Effect
  Serves : List ℕ → Effect
  Line : Effect

abbrev pub put : Item → GatheredState → GatheredState
put row s = record s { items = s.items ++ (record row { place = record row.place { index = length s.items } }) ∷ [] }

abbrev pub done : Effect → GatheredState → GatheredState
done (Row row) s = put (row s.service) s
done (Seen trace time) s = trace_seen trace time s
done (Known trace id start) s = note_known (key_of trace id) start s
done Lost s = lost s
done (Serves service) s = of_service service s
done Line s = next_line s

abbrev pub all_done : List Effect → GatheredState → GatheredState
all_done [] s = s
all_done (effect ∷ effects) s = all_done effects (done effect s)

pub done_joined : (es fs : List Effect) (s : GatheredState) → all_done (es ++ fs) s ≡ all_done fs (all_done es s)
done_joined [] fs s = refl
done_joined (e ∷ es) fs s = done_joined es fs (done e s)

abbrev pub trace_row : List ℕ → ℕ → Item
trace_row trace time = record { trace = []; parent = []; place = row_place time (Trace trace) 0; time = time; shape = Trace trace }

-- the rows, with a trace's row each time that it is seen
abbrev pub raw : List Effect → List ℕ → List Item
raw [] service = []
raw (Row row ∷ effects) service = unnumbered (row service) ∷ raw effects service
raw (Seen trace time ∷ effects) service = trace_row trace time ∷ raw effects service
raw (Known trace id start ∷ effects) service = raw effects service
raw (Lost ∷ effects) service = raw effects service
raw (Serves other ∷ effects) service = raw effects other
raw (Line ∷ effects) service = raw effects service

-- traces' ids have no space, spans have ids, and other rows aren't those of traces
abbrev pub IsPlain : Effect → Type 0
IsPlain (Row row) = (service : List ℕ) → trace_id (row service).shape ≡ None
IsPlain (Seen trace time) = has_space trace ≡ false
IsPlain (Known trace id start) = (has_space trace ≡ false) × (id ≡ [] → ⊥)
IsPlain Lost = ⊤
IsPlain (Serves service) = ⊤
IsPlain Line = ⊤

-- ---- rows

abbrev Reads : (List ℕ → Bool) → List (List ℕ × ℕ) → Type 0
Reads seen known = (trace : List ℕ) → has_space trace ≡ false → seen trace ≡ is_some (kept_at (key_of trace []) known)

pub some_if : {V : Type 0} (b : Bool) (v : V) (o : Option V) → is_some (cond b (Some v) o) ≡ b || is_some o
some_if true v o = refl
some_if false v o = refl

reads_again : (seen : List ℕ → Bool) (trace : List ℕ) (time : ℕ) (known : List (List ℕ × ℕ)) → is_some (kept_at (key_of trace []) known) ≡ true → Reads seen known → Reads seen (with_kept (key_of trace []) time known)
reads_again seen trace time known here h other plain =
    h other plain ∙ by (is_key (key_of other []) (key_of trace [])) refl ∙ sym (ap is_some (kept_with (key_of other []) (key_of trace []) time known) ∙ some_if (is_key (key_of other []) (key_of trace [])) time _)
  where
    by : (b : Bool) → is_key (key_of other []) (key_of trace []) ≡ b → is_some (kept_at (key_of other []) known) ≡ b || is_some (kept_at (key_of other []) known)
    by true same = ap (λ k. is_some (kept_at k known)) (one_key (key_of other []) (key_of trace []) same) ∙ here
    by false same = refl

reads_also : (seen : List ℕ → Bool) (trace : List ℕ) (time : ℕ) (known : List (List ℕ × ℕ)) → Reads seen known → Reads (also trace seen) (with_kept (key_of trace []) time known)
reads_also seen trace time known h other plain =
    (λ i. sym (trace_keys other trace) i || h other plain i)
    ∙ sym (ap is_some (kept_with (key_of other []) (key_of trace []) time known) ∙ some_if (is_key (key_of other []) (key_of trace [])) time _)

reads_span : (seen : List ℕ → Bool) (trace id : List ℕ) (start : ℕ) (known : List (List ℕ × ℕ)) → has_space trace ≡ false → (id ≡ [] → ⊥) → Reads seen known → Reads seen (with_kept (key_of trace id) start known)
reads_span seen trace id start known plain full h other clear =
    h other clear
    ∙ sym (ap is_some (kept_with (key_of other []) (key_of trace id) start known) ∙ ap (λ b. is_some (cond b (Some start) (kept_at (key_of other []) known))) (span_keys other trace id clear plain full))

bare_more : (items : List Item) (row : Item) (others : List Item) → map unnumbered (items ++ row ∷ []) ++ others ≡ map unnumbered items ++ unnumbered row ∷ others
bare_more items row others = ap (λ (l : List Item). l ++ others) (map-append unnumbered items (row ∷ [])) ∙ append_assoc (map unnumbered items) (unnumbered row ∷ []) others

pub items_done : (es : List Effect) (s : GatheredState) (seen : List ℕ → Bool) → Reads seen s.known → AllByRecursion IsPlain es
    → map unnumbered (all_done es s).items ≡ map unnumbered s.items ++ once (raw es s.service) seen
items_done [] s seen h k = sym (append-nil (map unnumbered s.items))
items_done (Row row ∷ es) s seen h k =
    items_done es (put (row s.service) s) seen h k.1 ∙ bare_more s.items _ (once (raw es s.service) seen)
    ∙ ap (λ o. map unnumbered s.items ++ put_once o (unnumbered (row s.service)) (once (raw es s.service)) seen) (sym (k.0 s.service))
items_done (Seen trace time ∷ es) s seen h k =
    by (kept_at (key_of trace []) s.known) refl (λ t seen' h'. items_done es t seen' h' k.1)
  where
    by : (o : Option ℕ) → kept_at (key_of trace []) s.known ≡ o
        → ((t : GatheredState) (seen' : List ℕ → Bool) → Reads seen' t.known → map unnumbered (all_done es t).items ≡ map unnumbered t.items ++ once (raw es t.service) seen')
        → map unnumbered (all_done es (trace_seen_as o trace time s)).items
        ≡ map unnumbered s.items ++ cond (seen trace) (once (raw es s.service) seen) (trace_row trace time ∷ once (raw es s.service) (also trace seen))
    by (Some earliest) is others =
        let here = ap is_some is in
        others (note_known (key_of trace []) (min earliest time) s) seen (reads_again seen trace (min earliest time) s.known here h)
        ∙ ap (λ b. map unnumbered s.items ++ cond b (once (raw es s.service) seen) (trace_row trace time ∷ once (raw es s.service) (also trace seen))) (sym (h trace k.0 ∙ here))
    by None is others =
        let here = ap is_some is in
        others (row_gathered [] [] time time (Trace trace) (note_known (key_of trace []) time s)) (also trace seen) (reads_also seen trace time s.known h)
        ∙ bare_more s.items _ (once (raw es s.service) (also trace seen))
        ∙ ap (λ b. map unnumbered s.items ++ cond b (once (raw es s.service) seen) (trace_row trace time ∷ once (raw es s.service) (also trace seen))) (sym (h trace k.0 ∙ here))
items_done (Known trace id start ∷ es) s seen h k = items_done es (note_known (key_of trace id) start s) seen (reads_span seen trace id start s.known k.0.0 k.0.1 h) k.1
items_done (Lost ∷ es) s seen h k = items_done es (lost s) seen h k.1
items_done (Serves service ∷ es) s seen h k = items_done es (of_service service s) seen h k.1
items_done (Line ∷ es) s seen h k = items_done es (next_line s) seen h k.1
