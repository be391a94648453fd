-- Where the calls of a test are placed: its span in its parent, and its lines in its span.
use Rattle.std.proofs.Common.{◌≡◌, ℕ, Bool, true, false, List, [], ◌∷◌, ◌++◌, Option, Some, None, refl, sym, ap, subst, ◌∙◌, append_assoc}
use Rattle.std.proofs.lemmas.List.{append-nil}
use Rattle.std.specs.Prelude.{◌&&◌, bytes_eq, if◌then◌else◌, is_some, option_and_then}
use Rattle.tracing_tree_base.specs.declared.context.Id.{Id}
use Rattle.tracing_tree_base.specs.declared.style.Level.{Level}
use Rattle.tracing_tree_layer.specs.declared.call.Call.{Call}
use Rattle.tracing_tree_layer.specs.declared.call.Call.TheVariants.{New, Clone, Record, Event, Close}
use Rattle.ttree_go_test.specs.declared.go_test.running.Kind.{Kind}
use Rattle.ttree_go_test.specs.declared.go_test.running.Running.{Running}
use Rattle.tracing_tree_lines.specs.Lines.Spelled.{is_skipped}
use Rattle.ttree_source.specs.Marks.{is_empty}
use Rattle.ttree_source.specs.Calls.{event_call, message_field, span_call}
use Rattle.ttree_go_test.specs.Texts.{ends_line, is_frame, without_line_end}
use Rattle.ttree_go_test.specs.Nesting.{ArePlacedCalls, IsPlacedCall}
use Rattle.ttree_go_test.specs.GoTest.{GoState, Held, new_running, begun_in, fails_as, frame_printed, framed, held_test, holds, is_framing, test_kept, level_of_line, line_reported, part_line_emitted, more_printed, end_noted, held_opened, opened_as, part_emitted, printed, said, span_of_test, started, string_printed, tests_of, text_printed, emitted_with_last}
use Rattle.ttree_go_test.proofs.Laws.Accounts.{Holds, held_holds, holder, started_holds}
use Rattle.ttree_go_test.proofs.Laws.Printing.{opened_cut, part_cut, started_cut, string_cut}
use Rattle.ttree_go_test.proofs.Laws.Stored.{same_bytes}
use Rattle.ttree_go_test.proofs.Laws.WellKept.{IsWell, emptied, filled, found, found_back, found_filled}

-- A test afterwards is nested as before, and these calls are placed in it.
pub record Places (h k : Held) : Type 0 where
  pub more : List Call
  pub calls : k.state.calls ≡ h.state.calls ++ more
  pub parent : k.one.parent ≡ h.one.parent
  pub keeps : is_some h.one.span ≡ true → k.one.span ≡ h.one.span
  pub placed : ArePlacedCalls h.one.parent k.one.span more

later_call : (parent own later : Option Id) (call : Call) → (is_some own ≡ true → later ≡ own) → IsPlacedCall parent own call → IsPlacedCall parent later call
later_call parent own later (New attributes context) keeps h = h
later_call parent own later (Event event context) keeps h = (h.0 ∙ sym (keeps h.1), ap is_some (keeps h.1) ∙ h.1)
later_call parent own later (Clone id) keeps h = h
later_call parent own later (Record id fields) keeps h = h
later_call parent own later (Close id context) keeps h = h

placed_later : (parent own later : Option Id) (calls : List Call) → (is_some own ≡ true → later ≡ own) → ArePlacedCalls parent own calls → ArePlacedCalls parent later calls
placed_later parent own later [] keeps h = tt
placed_later parent own later (call ∷ calls) keeps h = (later_call parent own later call keeps h.0, placed_later parent own later calls keeps h.1)

placed_both : (parent own : Option Id) (a b : List Call) → ArePlacedCalls parent own a → ArePlacedCalls parent own b → ArePlacedCalls parent own (a ++ b)
placed_both parent own [] b h k = k
placed_both parent own (call ∷ a) b h k = (h.0, placed_both parent own a b h.1 k)

stays : (h : Held) → Places h h
stays h = record { more = []; calls = sym (append-nil h.state.calls); parent = refl; keeps = λ _. refl; placed = tt }

then_places : (h k l : Held) → Places h k → Places k l → Places h l
then_places h k l a b = record {
  more = a.more ++ b.more;
  calls = b.calls ∙ ap (λ calls. calls ++ b.more) a.calls ∙ append_assoc h.state.calls a.more b.more;
  parent = b.parent ∙ a.parent;
  keeps = λ some. b.keeps (ap is_some (a.keeps some) ∙ some) ∙ a.keeps some;
  placed = placed_both h.one.parent l.one.span a.more b.more (placed_later h.one.parent k.one.span l.one.span a.more b.keeps a.placed)
      (let P : Option Id → Type 0 = λ parent. ArePlacedCalls parent l.one.span b.more in subst P a.parent b.placed);
}

opened_by : (h : Held) (span : Option Id) → h.one.span ≡ span → Places h (opened_as span h)
opened_by h (Some id) is = stays h
opened_by h None is = record {
  more = span_call h.state.moment h.one.name [] h.one.parent ∷ [];
  calls = refl;
  parent = refl;
  keeps = λ some. let e : false ≡ true = sym (ap is_some is) ∙ some in cc;
  placed = (refl, tt);
}

opened_places : (h : Held) → Places h (held_opened h)
opened_places h = opened_by h h.one.span refl

has_span : (h : Held) → is_some (held_opened h).one.span ≡ true
has_span h = by h.one.span refl where
  by : (span : Option Id) → h.one.span ≡ span → is_some (opened_as span h).one.span ≡ true
  by None is = refl
  by (Some id) is = ap is_some is

said_places : (level : Level) (text : List ℕ) (h : Held) → is_some h.one.span ≡ true → Places h (said level text h)
said_places level text h some = by (is_skipped text) where
  by : (b : Bool) → Places h (record h { state = if b then h.state else emitted_with_last h.one.span (event_call h.state.moment level (message_field text ∷ []) h.one.span) h.state })
  by true = stays h
  by false = record {
    more = event_call h.state.moment level (message_field text ∷ []) h.one.span ∷ [];
    calls = refl;
    parent = refl;
    keeps = λ _. refl;
    placed = ((refl, some), tt);
  }

framed_by : (b : Bool) (line : List ℕ) (h : Held) → Places h (if b then record h { one = end_noted line h.one } else h)
framed_by true line h = record { more = []; calls = sym (append-nil h.state.calls); parent = refl; keeps = λ _. refl; placed = tt }
framed_by false line h = stays h

framed_places : (line : List ℕ) (h : Held) → Places h (framed line h)
framed_places line h = framed_by (is_empty h.one.test) line h

line_places : (level : Level) (text : List ℕ) (h : Held) → Places h (line_reported level text h)
line_places level text h = by (is_frame h.one.test (without_line_end text)) where
  line : List ℕ
  line = without_line_end text

  by : (b : Bool) → Places h (if b then framed line h else said level line (held_opened h))
  by true = framed_places line h
  by false = then_places h (held_opened h) (said level line (held_opened h)) (opened_places h) (said_places level line (held_opened h) (has_span h))

emitted_places : (h : Held) → Places h (part_line_emitted h)
emitted_places h =
    let bare : Held = record h { one = record h.one { part = []; is_error = false } } in
    let line = line_places (level_of_line h.one.is_error) h.one.part bare in
    record { more = line.more; calls = line.calls; parent = line.parent; keeps = line.keeps; placed = line.placed }

pub part_places : (h : Held) → Places h (part_emitted h)
part_places h = by (is_empty h.one.part) where
  by : (b : Bool) → Places h (if b then h else part_line_emitted h)
  by true = stays h
  by false = emitted_places h

text_places : (is_error : Bool) (text : List ℕ) (h : Held) → Places h (text_printed is_error text h)
text_places is_error text h = by (ends_line text) where
  more : Held
  more = more_printed is_error text h

  first : Places h more
  first = record { more = []; calls = sym (append-nil h.state.calls); parent = refl; keeps = λ _. refl; placed = tt }

  by : (b : Bool) → Places h (if b then part_line_emitted more else more)
  by true = then_places h more (part_line_emitted more) first (emitted_places more)
  by false = first

string_places : (kind : Kind) (text : List ℕ) (h : Held) → Places h (string_printed kind text h)
string_places kind text h = by (is_framing kind h.one.test text) where
  by : (b : Bool) → Places h (if b then frame_printed text h else text_printed (fails_as kind) text h)
  by true = then_places h (part_emitted h) (frame_printed text h) (part_places h) (framed_places (without_line_end text) (part_emitted h))
  by false = text_places (fails_as kind) text h

abbrev span_of_it : Option Running → Option Id
span_of_it o = option_and_then (λ (one : Running). one.span) o

-- The calls of a string: the span of what takes it opens in its parent, and the lines are events in
-- that span.
pub record PrintsIn (path name : List ℕ) (parent : Option Id) (s t : GoState) : Type 0 where
  pub more : List Call
  pub calls : t.calls ≡ s.calls ++ more
  pub placed : ArePlacedCalls parent (span_of_test (tests_of path t) name) more

-- the span of what is put back
kept_span : (path name : List ℕ) (s : GoState) (h k : Held) → Holds path name s h → k.one.path ≡ h.one.path → k.one.test ≡ h.one.test → k.state.packages ≡ h.state.packages →
    span_of_test (tests_of path (test_kept k)) name ≡ k.one.span
unfolding test_kept
kept_span path name s h k is same_path same_test same_packages =
    let all : (test_kept k).packages ≡ filled path name k.one (emptied path name s.packages) =
    ap (λ x. filled x k.one.test k.one k.state.packages) (same_path ∙ is.path_is) ∙ ap (λ x. filled path x k.one k.state.packages) (same_test ∙ is.test_is)
    ∙ ap (filled path name k.one) (same_packages ∙ is.packages) in
    ap (λ packages. span_of_it (found path name packages)) all
    ∙ ap span_of_it (found_back path name path name k.one s.packages)
    ∙ ap (λ b. span_of_it (if b && bytes_eq name name then Some k.one else found path name s.packages)) (same_bytes path path refl)
    ∙ ap (λ b. span_of_it (if b then Some k.one else found path name s.packages)) (same_bytes name name refl)

pub prints_in : (kind : Kind) (path test text : List ℕ) (s : GoState) → IsWell s.packages →
    PrintsIn path (holder path test s) (held_test path test s).one.parent s (printed kind path test text s)
unfolding test_kept held_test
prints_in kind path test text s w =
    let name : List ℕ = holder path test s in
    let h : Held = started (held_test path test s) in
    let k : Held = string_printed kind text h in
    let is = started_holds path name s (held_test path test s) (held_holds path test s w) in
    let cuts = string_cut kind text h in
    let places = string_places kind text h in
    let own : span_of_test (tests_of path (test_kept k)) name ≡ k.one.span = kept_span path name s h k is cuts.path cuts.test cuts.sends.packages in
    let P : Option Id → Type 0 = λ span. ArePlacedCalls h.one.parent span places.more in
    record { more = places.more; calls = places.calls; placed = subst P (sym own) places.placed }

-- another test starts after it
other_span : (path name test : List ℕ) (s : GoState) → bytes_eq name test ≡ false → span_of_test (tests_of path (test_kept (holds (new_running path test) s))) name ≡ span_of_test (tests_of path s) name
unfolding test_kept
other_span path name test s differs =
    ap span_of_it (found_filled path name path test (new_running path test) s.packages)
    ∙ ap (λ b. span_of_it (if bytes_eq path path && b then Some (new_running path test) else found path name s.packages)) differs
    ∙ by (bytes_eq path path) where
      by : (b : Bool) → span_of_it (if b && false then Some (new_running path test) else found path name s.packages) ≡ span_of_it (found path name s.packages)
      by true = refl
      by false = refl

-- what is open when a test starts
pub opens_in : (path test : List ℕ) (s : GoState) → IsWell s.packages → (is_empty test ≡ false → bytes_eq (holder path test s) test ≡ false) →
    PrintsIn path (holder path test s) (held_test path test s).one.parent s (begun_in path test (started (held_opened (part_emitted (held_test path test s)))))
unfolding test_kept held_test
opens_in path test s w differs =
    let name : List ℕ = holder path test s in
    let h : Held = held_test path test s in
    let k : Held = started (held_opened (part_emitted h)) in
    let is = held_holds path test s w in
    let cuts = started_cut [] h (held_opened (part_emitted h)) (opened_cut [] h (part_emitted h) (part_cut h)) in
    let places = then_places h (part_emitted h) (held_opened (part_emitted h)) (part_places h) (opened_places (part_emitted h)) in
    let own : span_of_test (tests_of path (test_kept k)) name ≡ k.one.span = kept_span path name s h k is cuts.path cuts.test cuts.sends.packages in
    let t : GoState = begun_in path test k in
    let P : Option Id → Type 0 = λ span. ArePlacedCalls h.one.parent span places.more in
    record {
      more = places.more;
      calls = same_calls (is_empty test) k ∙ places.calls;
      placed = subst P (sym (by k (is_empty test) refl ∙ own)) places.placed;
    } where
      same_calls : (b : Bool) (k : Held) → (if b then test_kept k else test_kept (holds (new_running path test) (test_kept k))).calls ≡ k.state.calls
      same_calls true k = refl
      same_calls false k = refl

      by : (k : Held) (b : Bool) → is_empty test ≡ b → span_of_test (tests_of path (if b then test_kept k else test_kept (holds (new_running path test) (test_kept k)))) (holder path test s) ≡ span_of_test (tests_of path (test_kept k)) (holder path test s)
      by k true is = refl
      by k false is = other_span path (holder path test s) test (test_kept k) (differs is)
