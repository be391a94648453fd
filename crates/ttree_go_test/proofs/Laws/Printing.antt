-- What one string does to a test, and its end: the text is cut into lines, and each line is an event.
use Rattle.std.proofs.Common.{◌≡◌, ℕ, Bool, true, false, List, [], ◌∷◌, ◌++◌, Option, Some, None, refl, sym, ap, ◌∙◌, append_assoc, arith}
use Rattle.std.proofs.lemmas.Bool.Decides.{nat_tests}
use Rattle.std.proofs.lemmas.Grind.{flat_map-append}
use Rattle.std.proofs.lemmas.List.{append-nil}
use Rattle.std.specs.Prelude.{not, ◌&&◌, flat_map, map, if◌then◌else◌, codes}
use Rattle.tracing_tree_base.specs.declared.context.Id.{Id}
use Rattle.tracing_tree_base.specs.declared.field.Field.{Field}
use Rattle.tracing_tree_base.specs.declared.style.Level.{Level}
use Rattle.tracing_tree_layer.specs.declared.call.Call.{Call}
use Rattle.tracing_tree_lines.specs.Lines.Spelled.{is_skipped}
use Rattle.ttree_source.specs.Marks.{is_empty}
use Rattle.ttree_source.specs.Calls.{close_call, event_call, message_field, shown_text, span_call}
use Rattle.ttree_go_test.specs.Texts.{ends_line, is_frame, without_line_end}
use Rattle.ttree_go_test.specs.declared.go_test.running.Kind.{Kind}
use Rattle.ttree_go_test.specs.declared.go_test.running.Running.{Running}
use Rattle.ttree_go_test.specs.declared.go_test.tally.Ending.{Ending}
use Rattle.ttree_go_test.specs.declared.go_test.tally.Ending.TheVariants.{Passed, Failed, Skipped, Unfinished}
use Rattle.ttree_go_test.specs.GoTest.{GoState, Held, test_end_fields, text_event_emitted, fails_as, held_finished, frame_printed, framed, is_framing, level_of_ending, level_of_line, line_reported, part_line_emitted, more_printed, end_noted, held_opened, opened_as, part_emitted, quiet_emitted, said, span_ended, started, string_printed, text_printed, emitted_with_last, ending_word}
use Rattle.ttree_go_test.specs.Printed.{Shown, Shown.Line, Shown.End, Shown.NamedEnd, Shown.Built, Shown.Plain, call_message, lines_in, messages, shown_message, shown_messages, unless_blank}

-- the message of a line, if it is shown
shown_if : Bool → List ℕ → List (List ℕ)
shown_if b line = if b then shown_text line ∷ [] else []

abbrev pub sent : GoState → List (List ℕ)
sent s = messages s.calls

-- a state afterwards runs the same tests, and has sent these messages
pub record Sends (s t : GoState) (more : List (List ℕ)) : Type 0 where
  pub packages : t.packages ≡ s.packages
  pub builds : t.builds ≡ s.builds
  pub sent_too : sent t ≡ sent s ++ more

-- a test afterwards is the same test, and has said this
record Says (h k : Held) (more : List (List ℕ)) : Type 0 where
  path : k.one.path ≡ h.one.path
  test : k.one.test ≡ h.one.test
  part : k.one.part ≡ h.one.part
  has_begun : k.one.has_begun ≡ h.one.has_begun
  sends : Sends h.state k.state more

pub none_sent : (s : GoState) → Sends s s []
none_sent s = record { packages = refl; builds = refl; sent_too = sym (append-nil (sent s)) }

none_said : (h : Held) → Says h h []
none_said h = record { path = refl; test = refl; part = refl; has_begun = refl; sends = none_sent h.state }

pub then_sends : (s t u : GoState) (one two : List (List ℕ)) → Sends s t one → Sends t u two → Sends s u (one ++ two)
then_sends s t u one two h k = record {
  packages = k.packages ∙ h.packages;
  builds = k.builds ∙ h.builds;
  sent_too = k.sent_too ∙ ap (λ all. all ++ two) h.sent_too ∙ append_assoc (sent s) one two;
}

then_says : (h k l : Held) (one two : List (List ℕ)) → Says h k one → Says k l two → Says h l (one ++ two)
then_says h k l one two a b = record {
  path = b.path ∙ a.path;
  test = b.test ∙ a.test;
  part = b.part ∙ a.part;
  has_begun = b.has_begun ∙ a.has_begun;
  sends = then_sends h.state k.state l.state one two a.sends b.sends;
}

-- one more call
pub call_sends : (last : Option Id) (call : Call) (s : GoState) → Sends s (emitted_with_last last call s) (call_message call)
call_sends last call s = record {
  packages = refl;
  builds = refl;
  sent_too = flat_map-append call_message s.calls (call ∷ []) ∙ ap (λ more. sent s ++ more) (append-nil (call_message call));
}

event_sends : (level : Level) (text : List ℕ) (rest : List Field) (parent : Option Id) (s : GoState) →
    Sends s (text_event_emitted level text rest parent s) (shown_if (not (is_skipped text)) text)
unfolding shown_if
event_sends level text rest parent s = by (is_skipped text) where
  by : (b : Bool) → Sends s (if b then s else emitted_with_last parent (event_call s.moment level (message_field text ∷ rest) parent) s) (if not b then shown_text text ∷ [] else [])
  by true = none_sent s
  by false = call_sends parent (event_call s.moment level (message_field text ∷ rest) parent) s

opened_by : (span : Option Id) (h : Held) → Says h (opened_as span h) []
opened_by (Some id) h = none_said h
opened_by None h =
    let sends = call_sends h.one.span (span_call h.state.moment h.one.name [] h.one.parent) h.state in
    record {
      path = refl;
      test = refl;
      part = refl;
      has_begun = refl;
      sends = record { packages = refl; builds = refl; sent_too = sends.sent_too };
    }

opened_says : (h : Held) → Says h (held_opened h) []
opened_says h = opened_by h.one.span h

said_says : (level : Level) (text : List ℕ) (h : Held) → Says h (said level text (held_opened h)) (shown_if (not (is_skipped text)) text)
said_says level text h =
    then_says h (held_opened h) (said level text (held_opened h)) [] (shown_if (not (is_skipped text)) text) (opened_says h)
    (record { path = refl; test = refl; part = refl; has_begun = refl; sends = event_sends level text [] (held_opened h).one.span (held_opened h).state })

framed_by : (b : Bool) (line : List ℕ) (h : Held) → Says h (if b then record h { one = end_noted line h.one } else h) []
framed_by true line h = record { path = refl; test = refl; part = refl; has_begun = refl; sends = none_sent h.state }
framed_by false line h = none_said h

framed_says : (line : List ℕ) (h : Held) → Says h (framed line h) []
framed_says line h = framed_by (is_empty h.one.test) line h

-- a line of a test
abbrev pub line_of_its : Running → List ℕ → Shown
line_of_its one text = Line (record { path = one.path; test = one.test; text = text })

line_says : (level : Level) (text : List ℕ) (h : Held) → Says h (line_reported level text h) (shown_message (line_of_its h.one text))
unfolding shown_if
line_says level text h = by (is_skipped (without_line_end text)) (is_frame h.one.test (without_line_end text)) (said_says level (without_line_end text) h) where
  by : (skipped frames : Bool) → Says h (said level (without_line_end text) (held_opened h)) (if not skipped then shown_text (without_line_end text) ∷ [] else []) →
      Says h (if frames then framed (without_line_end text) h else said level (without_line_end text) (held_opened h))
      (if not skipped && not frames then shown_text (without_line_end text) ∷ [] else [])
  by true true h' = framed_says (without_line_end text) h
  by false true h' = framed_says (without_line_end text) h
  by true false h' = h'
  by false false h' = h'

-- lines of a test
abbrev pub lines_of_its : Running → List (List ℕ) → List Shown
lines_of_its one lines = map (line_of_its one) lines

abbrev pub joined : List (List ℕ) → List ℕ
joined lines = flat_map (λ line. line) lines

-- What a string does to a test: its text is cut into lines, and these are shown.
pub record Cuts (text : List ℕ) (h k : Held) : Type 0 where
  pub lines : List (List ℕ)
  pub path : k.one.path ≡ h.one.path
  pub test : k.one.test ≡ h.one.test
  pub begins : h.one.has_begun ≡ true → k.one.has_begun ≡ true
  pub cut : joined lines ++ k.one.part ≡ h.one.part ++ text
  pub sends : Sends h.state k.state (shown_messages (lines_of_its h.one lines))

-- the pending text is a line
line_cut : (h : Held) → Cuts [] h (part_line_emitted h)
line_cut h =
    let bare : Held = record h { one = record h.one { part = []; is_error = false } } in
    let says = line_says (level_of_line h.one.is_error) h.one.part bare in
    record {
      lines = h.one.part ∷ [];
      path = says.path;
      test = says.test;
      begins = λ b. says.has_begun ∙ b;
      cut = ap (λ part. (h.one.part ++ []) ++ part) says.part ∙ append-nil (h.one.part ++ []);
      sends = record {
        packages = says.sends.packages;
        builds = says.sends.builds;
        sent_too = says.sends.sent_too ∙ ap (λ more. sent h.state ++ more) (sym (append-nil (shown_message (line_of_its h.one h.one.part))));
      };
    }

pub no_cut : (h : Held) → Cuts [] h h
no_cut h = record {
  lines = [];
  path = refl;
  test = refl;
  begins = λ b. b;
  cut = sym (append-nil h.one.part);
  sends = none_sent h.state;
}

pub part_cut : (h : Held) → Cuts [] h (part_emitted h)
part_cut h = by (is_empty h.one.part) where
  by : (b : Bool) → Cuts [] h (if b then h else part_line_emitted h)
  by true = no_cut h
  by false = line_cut h

pub nil_if_empty : (text : List ℕ) → is_empty text ≡ true → text ≡ []
nil_if_empty [] h = refl
nil_if_empty (b ∷ text) h = grind (arith, nat_tests)

-- nothing is pending afterwards
pub part_none : (h : Held) → (part_emitted h).one.part ≡ []
part_none h = by (is_empty h.one.part) refl where
  by : (b : Bool) → is_empty h.one.part ≡ b → (if b then h else part_line_emitted h).one.part ≡ []
  by true is = nil_if_empty h.one.part is
  by false is = (line_says (level_of_line h.one.is_error) h.one.part (record h { one = record h.one { part = []; is_error = false } })).part

-- a string that isn't a frame
text_cut : (is_error : Bool) (text : List ℕ) (h : Held) → Cuts text h (text_printed is_error text h)
text_cut is_error text h = by (ends_line text) where
  more : Held
  more = more_printed is_error text h

  by : (b : Bool) → Cuts text h (if b then part_line_emitted more else more)
  by true =
      let cuts = line_cut more in
      record {
        lines = cuts.lines;
        path = cuts.path;
        test = cuts.test;
        begins = cuts.begins;
        cut = cuts.cut ∙ append-nil (h.one.part ++ text);
        sends = cuts.sends;
      }
  by false = record {
    lines = [];
    path = refl;
    test = refl;
    begins = λ b. b;
    cut = refl;
    sends = none_sent h.state;
  }

-- a frame ends a line
frame_cut : (text : List ℕ) (h : Held) → Cuts [] h (frame_printed text h)
frame_cut text h =
    let last : Held = part_emitted h in
    let cuts = part_cut h in
    let says = framed_says (without_line_end text) last in
    record {
      lines = cuts.lines;
      path = says.path ∙ cuts.path;
      test = says.test ∙ cuts.test;
      begins = λ b. says.has_begun ∙ cuts.begins b;
      cut = ap (λ part. joined cuts.lines ++ part) says.part ∙ cuts.cut;
      sends = record {
        packages = says.sends.packages ∙ cuts.sends.packages;
        builds = says.sends.builds ∙ cuts.sends.builds;
        sent_too = says.sends.sent_too ∙ append-nil (sent last.state) ∙ cuts.sends.sent_too;
      };
    }

pub string_cut : (kind : Kind) (text : List ℕ) (h : Held) → Cuts (if is_framing kind h.one.test text then [] else text) h (string_printed kind text h)
string_cut kind text h = by (is_framing kind h.one.test text) where
  by : (b : Bool) → Cuts (if b then [] else text) h (if b then frame_printed text h else text_printed (fails_as kind) text h)
  by true = frame_cut text h
  by false = text_cut (fails_as kind) text h

blank_or : (b : Bool) (text : List ℕ) → shown_if (not b) text
    ≡ (if b then [] else shown_text text ∷ [])
unfolding shown_if
blank_or true text = refl
blank_or false text = refl

with_more : (s t : GoState) (a b : List (List ℕ)) → a ≡ b → Sends s t a → Sends s t b
with_more s t a b e h = record { packages = h.packages; builds = h.builds; sent_too = h.sent_too ∙ ap (λ more. sent s ++ more) e }

-- an event shows its line, unless that is blank
pub event_shows : (level : Level) (text : List ℕ) (rest : List Field) (parent : Option Id) (s : GoState) → Sends s (text_event_emitted level text rest parent s) (unless_blank text)
event_shows level text rest parent s =
    with_more s (text_event_emitted level text rest parent s) (shown_if (not (is_skipped text)) text) (unless_blank text) (blank_or (is_skipped text) text) (event_sends level text rest parent s)

pub said_shows : (level : Level) (text : List ℕ) (h : Held) → Sends h.state (said level text (held_opened h)).state (unless_blank text)
said_shows level text h =
    with_more h.state (said level text (held_opened h)).state (shown_if (not (is_skipped text)) text) (unless_blank text) (blank_or (is_skipped text) text) (said_says level text h).sends

-- its span opens
pub opened_cut : (text : List ℕ) (h k : Held) → Cuts text h k → Cuts text h (held_opened k)
opened_cut text h k cuts =
    let says = opened_says k in
    record {
      lines = cuts.lines;
      path = says.path ∙ cuts.path;
      test = says.test ∙ cuts.test;
      begins = λ b. says.has_begun ∙ cuts.begins b;
      cut = ap (λ part. joined cuts.lines ++ part) says.part ∙ cuts.cut;
      sends = record {
        packages = says.sends.packages ∙ cuts.sends.packages;
        builds = says.sends.builds ∙ cuts.sends.builds;
        sent_too = says.sends.sent_too ∙ append-nil (sent k.state) ∙ cuts.sends.sent_too;
      };
    }

-- it has started
pub started_cut : (text : List ℕ) (h k : Held) → Cuts text h k → Cuts text h (started k)
started_cut text h k cuts = record {
  lines = cuts.lines;
  path = cuts.path;
  test = cuts.test;
  begins = λ _. refl;
  cut = cuts.cut;
  sends = cuts.sends;
}

-- what is shown that no test prints
abbrev pub other_in : Shown → List Shown
other_in (Line one) = []
other_in (End ending) = []
other_in (NamedEnd ending name) = []
other_in (Built path string) = Built path string ∷ []
other_in (Plain line) = Plain line ∷ []

abbrev pub others_in : List Shown → List Shown
others_in items = flat_map other_in items

pub no_other_lines : (one : Running) (lines : List (List ℕ)) → others_in (lines_of_its one lines) ≡ []
no_other_lines one [] = refl
no_other_lines one (line ∷ lines) = no_other_lines one lines

pub no_others_then : (a b : List Shown) → others_in a ≡ [] → others_in b ≡ [] → others_in (a ++ b) ≡ []
no_others_then a b h k = flat_map-append other_in a b ∙ ap (λ x. x ++ others_in b) h ∙ k

-- ---- ends

quiet_by : (ending : Ending) (name : List ℕ) (rest : List Field) (parent : Option Id) (s : GoState) →
    Sends s (quiet_emitted ending name rest parent s) (shown_message (NamedEnd ending name))
unfolding shown_if
quiet_by Passed name rest parent s = event_sends (level_of_ending Passed) (ending_word Passed ++ codes " " ++ name) rest parent s
quiet_by Failed name rest parent s = event_sends (level_of_ending Failed) (ending_word Failed ++ codes " " ++ name) rest parent s
quiet_by Skipped name rest parent s = event_sends (level_of_ending Skipped) (ending_word Skipped ++ codes " " ++ name) rest parent s
quiet_by Unfinished name rest parent s = event_sends (level_of_ending Unfinished) (ending_word Unfinished ++ codes " " ++ name) rest parent s

-- the end of a test without a span is named
pub quiet_sends : (ending : Ending) (name : List ℕ) (rest : List Field) (parent : Option Id) (s : GoState) →
    Sends s (quiet_emitted ending name rest parent s) (shown_messages (NamedEnd ending name ∷ []))
quiet_sends ending name rest parent s = quiet_by ending name rest parent s

end_by : (ending : Ending) (rest : List Field) (parent : Option Id) (s : GoState) →
    Sends s (text_event_emitted (level_of_ending ending) (ending_word ending) rest parent s) (shown_message (End ending))
unfolding shown_if
end_by Passed rest parent s =
    event_sends (level_of_ending Passed) (ending_word Passed) rest parent s
end_by Failed rest parent s =
    event_sends (level_of_ending Failed) (ending_word Failed) rest parent s
end_by Skipped rest parent s =
    event_sends (level_of_ending Skipped) (ending_word Skipped) rest parent s
end_by Unfinished rest parent s = event_sends (level_of_ending Unfinished) (ending_word Unfinished) rest parent s

-- what shows an end
pub record Ends (s t : GoState) : Type 0 where
  pub ends : List Shown
  pub no_line : lines_in ends ≡ []
  pub sends : Sends s t (shown_messages ends)
  pub no_other : others_in ends ≡ []

span_ends : (ending : Ending) (rest : List Field) (span : Option Id) (h : Held) → Ends h.state (span_ended ending rest span h)
span_ends ending rest (Some id) h =
    let event : GoState = text_event_emitted (level_of_ending ending) (ending_word ending) rest
    (Some id) h.state in
    let close : Call = close_call h.state.moment id h.one.parent in
    record {
      ends = End ending ∷ [];
      no_line = refl;
      no_other = refl;
      sends = then_sends h.state event (emitted_with_last h.one.parent close event) (shown_message (End ending)) [] (end_by ending rest (Some id) h.state) (call_sends h.one.parent close event);
    }
span_ends ending rest None h = record {
  ends = NamedEnd ending h.one.name ∷ [];
  no_line = refl;
  no_other = refl;
  sends = quiet_sends ending h.one.name rest h.one.parent h.state;
}

-- What the end of a test does: its pending text is shown as a line, and then the end.
pub record Finishes (h : Held) (t : GoState) : Type 0 where
  pub lines : List (List ℕ)
  pub cut : joined lines ≡ h.one.part
  pub ends : List Shown
  pub no_line : lines_in ends ≡ []
  pub no_other : others_in ends ≡ []
  pub sends : Sends h.state t (shown_messages (lines_of_its h.one lines ++ ends))

pub finished_shows : (ending : Ending) (elapsed : Option (List ℕ)) (h : Held) → Finishes h (held_finished ending elapsed h)
finished_shows ending elapsed h =
    let last : Held = part_emitted h in
    let cuts = part_cut h in
    let rest : List Field = test_end_fields elapsed last.one in
    let ended = span_ends ending rest last.one.span last in
    let sends = then_sends h.state last.state (span_ended ending rest last.one.span last) (shown_messages (lines_of_its h.one cuts.lines)) (shown_messages ended.ends) cuts.sends ended.sends in
    record {
      lines = cuts.lines;
      cut = sym (append-nil (joined cuts.lines)) ∙ ap (λ part. joined cuts.lines ++ part) (sym (part_none h)) ∙ cuts.cut ∙ append-nil h.one.part;
      ends = ended.ends;
      no_line = ended.no_line;
      no_other = ended.no_other;
      sends = record {
        packages = sends.packages;
        builds = sends.builds;
        sent_too = sends.sent_too ∙ ap (λ more. sent h.state ++ more) (sym (flat_map-append shown_message (lines_of_its h.one cuts.lines) ended.ends));
      };
    }
