-- What a package that passes leaves: no test that is counted as unfinished.
use Rattle.std.proofs.Common.{◌≡◌, ℕ, Bool, true, false, List, [], ◌∷◌, ◌++◌, Option, Some, None, refl, ◌∙◌}
use Rattle.std.specs.Prelude.{if◌then◌else◌, codes}
use Rattle.tracing_tree_base.specs.declared.context.Id.{Id}
use Rattle.tracing_tree_base.specs.declared.field.Field.{Field}
use Rattle.tracing_tree_base.specs.declared.style.Level.{Level}
use Rattle.tracing_tree_lines.specs.Lines.Spelled.{is_skipped}
use Rattle.ttree_source.specs.Marks.{is_empty}
use Rattle.ttree_source.specs.Calls.{event_call, message_field}
use Rattle.ttree_go_test.specs.Names.{without}
use Rattle.ttree_go_test.specs.Texts.{is_frame, without_line_end}
use Rattle.ttree_go_test.specs.declared.go_test.running.Running.{Running}
use Rattle.ttree_go_test.specs.declared.go_test.tally.Ending.{Ending}
use Rattle.ttree_go_test.specs.declared.go_test.tally.Ending.TheVariants.{Passed}
use Rattle.ttree_go_test.specs.GoTest.{GoState, Held, Tests, all_left_over, end_counted, test_end_fields, test_or_package_ended, text_event_emitted, held_finished, framed, holds, left_one, left_over, level_of_ending, level_of_line, line_reported, part_line_emitted, end_noted, noted_left, held_opened, opened_as, package_counted, package_ended, part_emitted, test_placed, running_as, said, span_ended, tests_of, emitted_with_last, without_package, ending_word, build_over}

-- the tests that are counted as unfinished
count : GoState → ℕ
count s = s.tally.unfinished

if_same : (b : Bool) (s t : GoState) (n : ℕ) → count s ≡ n → count t ≡ n → count (if b then s else t) ≡ n
if_same true s t n h k = h
if_same false s t n h k = k

held_same : (b : Bool) (h k : Held) (n : ℕ) → count h.state ≡ n → count k.state ≡ n → count (if b then h else k).state ≡ n
held_same true h k n i j = i
held_same false h k n i j = j

event_same : (level : Level) (text : List ℕ) (rest : List Field) (parent : Option Id) (s : GoState) → count (text_event_emitted level text rest parent s) ≡ count s
unfolding count
event_same level text rest parent s =
    if_same (is_skipped text) s (emitted_with_last parent (event_call s.moment level (message_field text ∷ rest) parent) s) (count s) refl refl

opened_by : (span : Option Id) (h : Held) → count (opened_as span h).state ≡ count h.state
unfolding count
opened_by (Some id) h = refl
opened_by None h = refl

said_same : (level : Level) (text : List ℕ) (h : Held) → count (said level text (held_opened h)).state ≡ count h.state
said_same level text h = event_same level text [] (held_opened h).one.span (held_opened h).state ∙ opened_by h.one.span h

line_same : (level : Level) (text : List ℕ) (h : Held) → count (line_reported level text h).state ≡ count h.state
line_same level text h =
    let line = without_line_end text in
    held_same (is_frame h.one.test line) (framed line h) (said level line (held_opened h)) (count h.state)
    (held_same (is_empty h.one.test) (record h { one = end_noted line h.one }) h (count h.state) refl refl) (said_same level line h)

part_same : (h : Held) → count (part_emitted h).state ≡ count h.state
part_same h =
    held_same (is_empty h.one.part) h (part_line_emitted h) (count h.state) refl
    (line_same (level_of_line h.one.is_error) h.one.part (record h { one = record h.one { part = []; is_error = false } }))

span_same : (ending : Ending) (rest : List Field) (span : Option Id) (h : Held) → count (span_ended ending rest span h) ≡ count h.state
unfolding count
span_same ending rest (Some id) h = event_same (level_of_ending ending) (ending_word ending) rest (Some id) h.state
span_same ending rest None h = event_same (level_of_ending ending) (ending_word ending ++ codes " " ++ h.one.name) rest h.one.parent h.state

finished_same : (ending : Ending) (elapsed : Option (List ℕ)) (h : Held) → count (held_finished ending elapsed h) ≡ count h.state
finished_same ending elapsed h =
    let last = part_emitted h in
    span_same ending (test_end_fields elapsed last.one) last.one.span last ∙ part_same h

noted_by : (b : Bool) (one : Running) (s : GoState) → count (if b then package_counted Passed one.path s else end_counted Passed one.path one.test s) ≡ count s
unfolding count
noted_by true one s = refl
noted_by false one s = refl

left_same : (one : Running) (s : GoState) → count (left_one Passed one s) ≡ count s
left_same one s =
    let h : Held = holds one (noted_left Passed one s) in
    if_same one.has_begun (held_finished Passed None h) s (count s) (finished_same Passed None h ∙ noted_by (is_empty one.test) one s) refl

over_same : (root : Option Id) (earlier tests : Tests) (s : GoState) → count (left_over Passed root earlier tests s) ≡ count s
over_same root earlier [] s = refl
over_same root earlier (test ∷ later) s =
    let rest : GoState = left_over Passed root (earlier ++ test ∷ []) later s in
    left_same (test_placed root earlier test.1) rest ∙ over_same root (earlier ++ test ∷ []) later s

-- each test that still runs when its package passes has passed
pub none_unfinished : (path : List ℕ) (elapsed : Option (List ℕ)) (s : GoState) → (test_or_package_ended Passed path [] elapsed s).tally.unfinished ≡ s.tally.unfinished
unfolding count package_ended
none_unfinished path elapsed s =
    let at : GoState = package_counted Passed path (build_over path s) in
    let tests : Tests = tests_of path at in
    finished_same Passed elapsed (holds (running_as path [] tests) (all_left_over Passed path at))
    ∙ over_same (running_as path [] tests).span [] (without [] tests) (without_package path at)
