-- What makes Go's tests fail: each definition of what a line does either keeps `has_failed` or sets
-- it.
use Rattle.std.proofs.Common.{◌≡◌, ℕ, Bool, true, false, List, [], ◌∷◌, ◌++◌, Option, Some, None, refl, sym, ap, subst, ◌∙◌, arith}
use Rattle.std.proofs.lemmas.Bool.Decides.{nat_tests}
use Rattle.std.proofs.lemmas.Slice.Eq.{bytes_eq-Decides}
use Rattle.std.specs.Prelude.{⊤, ◌||◌, ◌&&◌, not, if◌then◌else◌, cond, bytes_eq, codes, length, unwrap_or, drop, option_map, ◌==◌}
use Rattle.std.specs.List.{list_any}
use Rattle.std.specs.Ordering.{is_eq, match_ordering, nat_cmp}
use Rattle.std.specs.Cmp.Lexicographic.{slice_cmp}
use Rattle.std.specs.declared.cmp.Ordering.{Ordering}
use Rattle.std.specs.declared.cmp.Ordering.TheVariants.{Less, Equal, Greater}
use Rattle.std.specs.Str.{is_utf8}
use Rattle.json.specs.Json.{Json, document}
use Rattle.tracing_tree_base.specs.declared.context.Id.{Id}
use Rattle.tracing_tree_base.specs.declared.context.Moment.{Moment}
use Rattle.tracing_tree_base.specs.declared.field.Field.{Field}
use Rattle.tracing_tree_base.specs.declared.style.Level.{Level}
use Rattle.tracing_tree_base.specs.declared.style.Level.TheVariants.{Warn, Error}
use Rattle.tracing_tree_lines.specs.Lines.Spelled.{is_skipped}
use Rattle.ttree_source.specs.Counts.{one_more}
use Rattle.ttree_source.specs.Marks.{after_mark, begins, is_empty}
use Rattle.ttree_source.specs.Source.{Interpreted, interpret, interpret_line, interpreted_step}
use Rattle.ttree_source.specs.Calls.{event_call, message_field}
use Rattle.ttree_source.specs.Values.{text_at}
use Rattle.ttree_go_test.specs.Failures.{has_begun, is_fail, reports_failure, package_runs, some_failed, emits_failure}
use Rattle.ttree_go_test.specs.Names.{named, put, without}
use Rattle.ttree_go_test.specs.Texts.{ends_line, is_frame, is_package_frame, own_name, up_to_space, without_line_end}
use Rattle.ttree_go_test.specs.declared.go_test.builds.Build.{Build}
use Rattle.ttree_go_test.specs.declared.go_test.running.Kind.{Kind}
use Rattle.ttree_go_test.specs.declared.go_test.running.Running.{Running}
use Rattle.ttree_go_test.specs.declared.go_test.tally.Ending.{Ending}
use Rattle.ttree_go_test.specs.declared.go_test.tally.Ending.TheVariants.{Passed, Failed, Skipped, Unfinished}
use Rattle.ttree_go_test.specs.GoTest.{GoState, Held, Tests, above_held, acted, acted_for, all_ended, all_left_over, new_running, begun_in, build_last, build_over, build_printed, build_printed_if, build_said, build_emitted, builds_said, builds_emitted, built_after, end_counted, elapsed_fields, elapsed_in, test_end_fields, test_or_package_ended, text_event_emitted, failed_counted, fails_as, held_finished, frame_printed, framed, go_takes, handed_out, any_failed, held_test, holds, is_aside, is_framing, test_kept, output_kind, left_as, left_one, left_over, level_of_ending, level_of_build, level_of_line, level_of_text, line_reported, part_line_emitted, more_printed, moved, end_noted, noted_left, nothing_run, one_ended, only_closed, held_opened, opened_as, owner, package_counted, package_ended, package_failed, package_left, package_of, package_over, package_started, packages_left, part_emitted, test_placed, printed, printed_if, quiet_emitted, ran, running_as, said, span_ended, started, string_printed, takes_failure, takes_heading, takes_json, takes_plain, takes_text, test_ended, test_of, tests_of, text_printed, texts_emitted, at_action_time, emitted_with_last, emitted_of_build, without_build, without_heading, without_package, ending_word}

-- ---- names

-- no name is empty, of the list or of a test
abbrev AreFull : Tests → Type 0
AreFull [] = ⊤
AreFull (e ∷ es) = (is_empty e.0 ≡ false) × (is_empty e.1.test ≡ false) × AreFull es

-- only the first name may be empty, and then its test has no name either
abbrev pub AreNamed : Tests → Type 0
AreNamed [] = ⊤
AreNamed (e ∷ es) = (is_empty e.0 ≡ is_empty e.1.test) × AreFull es

abbrev pub AllNamed : List (List ℕ × Tests) → Type 0
AllNamed [] = ⊤
AllNamed (e ∷ es) = AreNamed e.1 × AllNamed es

named_of_full : (es : Tests) → AreFull es → AreNamed es
named_of_full [] h = tt
named_of_full (e ∷ es) h = (h.0 ∙ sym h.1, h.2)

full : (x : ℕ) (xs : List ℕ) → is_empty (x ∷ xs) ≡ false
full x xs = grind (arith, nat_tests)

abbrev cmp : List ℕ → List ℕ → Ordering
cmp = slice_cmp nat_cmp

less_full : (a b : List ℕ) → cmp a b ≡ Less → is_empty b ≡ false
less_full [] [] h = cc
less_full (x ∷ xs) [] h = cc
less_full a (y ∷ ys) h = full y ys

greater_full : (a b : List ℕ) → cmp a b ≡ Greater → is_empty a ≡ false
greater_full [] [] h = cc
greater_full [] (y ∷ ys) h = cc
greater_full (x ∷ xs) b h = full x xs

equal_both : (a b : List ℕ) → cmp a b ≡ Equal → is_empty a ≡ is_empty b
equal_both [] [] h = refl
equal_both [] (y ∷ ys) h = cc
equal_both (x ∷ xs) [] h = cc
equal_both (x ∷ xs) (y ∷ ys) h = full x xs ∙ sym (full y ys)

full_put : (name : List ℕ) (one : Running) (es : Tests) → is_empty name ≡ false → is_empty one.test ≡ false → AreFull es → AreFull (put name one es)
full_put name one [] n t h = (n, t, tt)
full_put name one (e ∷ es) n t h = by (cmp name e.0) (full_put name one es n t h.2) where
  by : (at : Ordering) → AreFull (put name one es) → AreFull (match_ordering at ((name, one) ∷ e ∷ es) ((e.0, one) ∷ es) (e ∷ put name one es))
  by Less others = (n, t, h)
  by Equal others = (h.0, t, h.2)
  by Greater others = (h.0, h.1, others)

named_put : (name : List ℕ) (one : Running) (es : Tests) → is_empty name ≡ is_empty one.test → AreNamed es → AreNamed (put name one es)
named_put name one [] n h = (n, tt)
named_put name one (e ∷ es) n h = by (cmp name e.0) refl where
  by : (at : Ordering) → cmp name e.0 ≡ at → AreNamed (match_ordering at ((name, one) ∷ e ∷ es) ((e.0, one) ∷ es) (e ∷ put name one es))
  by Less is = let b : is_empty e.0 ≡ false = less_full name e.0 is in (n, (b, sym h.0 ∙ b, h.1))
  by Equal is = (sym (equal_both name e.0 is) ∙ n, h.1)
  by Greater is = let a : is_empty name ≡ false = greater_full name e.0 is in (h.0, full_put name one es a (sym n ∙ a) h.1)

full_without : (name : List ℕ) (es : Tests) → AreFull es → AreFull (without name es)
full_without name [] h = tt
full_without name (e ∷ es) h = by (is_eq (cmp name e.0)) (full_without name es h.2) where
  by : (here : Bool) → AreFull (without name es) → AreFull (cond here es (e ∷ without name es))
  by true others = h.2
  by false others = (h.0, h.1, others)

named_without : (name : List ℕ) (es : Tests) → AreNamed es → AreNamed (without name es)
named_without name [] h = tt
named_without name (e ∷ es) h = by (is_eq (cmp name e.0)) where
  by : (here : Bool) → AreNamed (cond here es (e ∷ without name es))
  by true = named_of_full es h.1
  by false = (h.0, full_without name es h.1)

-- what is left without the package
full_inner : (es : Tests) → AreNamed es → AreFull (without [] es)
full_inner [] h = tt
full_inner (([], one) ∷ es) h = h.1
full_inner ((x ∷ xs, one) ∷ es) h = (full x xs, sym h.0 ∙ full x xs, full_without [] es h.1)

-- the package has no name
full_not_package : (es : Tests) (one : Running) → AreFull es → named [] es ≡ Some one → is_empty one.test ≡ true
full_not_package [] one h is = cc
full_not_package (([], other) ∷ es) one h is = cc
full_not_package ((x ∷ xs, other) ∷ es) one h is = full_not_package es one h.2 is

package_named : (es : Tests) (one : Running) → AreNamed es → named [] es ≡ Some one → is_empty one.test ≡ true
package_named [] one h is = cc
package_named (([], other) ∷ es) one h is = by other one (sym h.0) is where
  by : (a b : Running) → is_empty a.test ≡ true → Some a ≡ Some b → is_empty b.test ≡ true
  by a b t e = let P : Option Running → Type 0 = λ o. elim o as (λ _. Type 0) [ Some r ↦ is_empty r.test ≡ true | None ↦ ⊤ ] in subst P e t
package_named ((x ∷ xs, other) ∷ es) one h is = full_not_package es one h.1 is

-- ---- packages

all_put : (path : List ℕ) (tests : Tests) (es : List (List ℕ × Tests)) → AreNamed tests → AllNamed es → AllNamed (put path tests es)
all_put path tests [] t h = (t, tt)
all_put path tests (e ∷ es) t h = by (cmp path e.0) (all_put path tests es t h.1) where
  by : (at : Ordering) → AllNamed (put path tests es) → AllNamed (match_ordering at ((path, tests) ∷ e ∷ es) ((e.0, tests) ∷ es) (e ∷ put path tests es))
  by Less others = (t, h)
  by Equal others = (t, h.1)
  by Greater others = (h.0, others)

all_without : (path : List ℕ) (es : List (List ℕ × Tests)) → AllNamed es → AllNamed (without path es)
all_without path [] h = tt
all_without path (e ∷ es) h = by (is_eq (cmp path e.0)) (all_without path es h.1) where
  by : (here : Bool) → AllNamed (without path es) → AllNamed (cond here es (e ∷ without path es))
  by true others = h.1
  by false others = (h.0, others)

all_found : (path : List ℕ) (es : List (List ℕ × Tests)) → AllNamed es → AreNamed (unwrap_or (named path es) [])
all_found path [] h = tt
all_found path (e ∷ es) h = by (is_eq (cmp path e.0)) (all_found path es h.1) where
  by : (here : Bool) → AreNamed (unwrap_or (named path es) []) → AreNamed (unwrap_or (cond here (Some e.1) (named path es)) [])
  by true others = h.0
  by false others = others

-- ---- what a definition does to `has_failed`

-- it stays, and so do the names
record Stays (s t : GoState) : Type 0 where
  failed : AllNamed s.packages → any_failed t ≡ any_failed s
  named_too : AllNamed s.packages → AllNamed t.packages

-- it is set if this holds, and otherwise it stays
record Goes (b : Bool) (s t : GoState) : Type 0 where
  failed : AllNamed s.packages → any_failed t ≡ (any_failed s || b)
  named_too : AllNamed s.packages → AllNamed t.packages

or_false : (a : Bool) → (a || false) ≡ a
or_false true = refl
or_false false = refl

or_true : (a : Bool) → (a || true) ≡ true
or_true true = refl
or_true false = refl

or_assoc : (a b c : Bool) → ((a || b) || c) ≡ (a || (b || c))
or_assoc true b c = refl
or_assoc false b c = refl

same : (s : GoState) → Stays s s
same s = record { failed = λ w. refl; named_too = λ w. w }

then_stays : (s t u : GoState) → Stays s t → Stays t u → Stays s u
then_stays s t u h k = record { failed = λ w. k.failed (h.named_too w) ∙ h.failed w; named_too = λ w. k.named_too (h.named_too w) }

goes_of : (s t : GoState) → Stays s t → Goes false s t
goes_of s t h = record { failed = λ w. h.failed w ∙ sym (or_false (any_failed s)); named_too = h.named_too }

goes_stays : (b : Bool) (s t u : GoState) → Goes b s t → Stays t u → Goes b s u
goes_stays b s t u h k = record { failed = λ w. k.failed (h.named_too w) ∙ h.failed w; named_too = λ w. k.named_too (h.named_too w) }

stays_goes : (b : Bool) (s t u : GoState) → Stays s t → Goes b t u → Goes b s u
stays_goes b s t u h k = record {
  failed = λ w. k.failed (h.named_too w) ∙ ap (λ f. f || b) (h.failed w);
  named_too = λ w. k.named_too (h.named_too w);
}

goes_then : (a b : Bool) (s t u : GoState) → Goes a s t → Goes b t u → Goes (a || b) s u
goes_then a b s t u h k = record {
  failed = λ w. k.failed (h.named_too w) ∙ ap (λ f. f || b) (h.failed w) ∙ or_assoc (any_failed s) a b;
  named_too = λ w. k.named_too (h.named_too w);
}

stays_if : (b : Bool) (s t u : GoState) → Stays s t → Stays s u → Stays s (if b then t else u)
stays_if true s t u h k = h
stays_if false s t u h k = k

goes_if : (b f : Bool) (s t u : GoState) → Goes f s t → Goes f s u → Goes f s (if b then t else u)
goes_if true f s t u h k = h
goes_if false f s t u h k = k

held_if : (b : Bool) (s : GoState) (h k : Held) → Stays s h.state → Stays s k.state → Stays s (if b then h else k).state
held_if true s h k i j = i
held_if false s h k i j = j

-- ---- what is drawn

event_stays : (level : Level) (text : List ℕ) (rest : List Field) (parent : Option Id) (s : GoState) → Stays s (text_event_emitted level text rest parent s)
event_stays level text rest parent s =
    stays_if (is_skipped text) s s (emitted_with_last parent (event_call s.moment level (message_field text ∷ rest) parent) s) (same s) (record { failed = λ w. refl; named_too = λ w. w })

opened_by : (span : Option Id) (h : Held) → Stays h.state (opened_as span h).state
opened_by (Some id) h = same h.state
opened_by None h = record { failed = λ w. refl; named_too = λ w. w }

opened_stays : (h : Held) → Stays h.state (held_opened h).state
opened_stays h = opened_by h.one.span h

said_stays : (level : Level) (text : List ℕ) (h : Held) → Stays h.state (said level text (held_opened h)).state
said_stays level text h =
    then_stays h.state (held_opened h).state (said level text (held_opened h)).state (opened_stays h) (event_stays level text [] (held_opened h).one.span (held_opened h).state)

framed_stays : (line : List ℕ) (h : Held) → Stays h.state (framed line h).state
framed_stays line h = held_if (is_empty h.one.test) h.state (record h { one = end_noted line h.one }) h (same h.state) (same h.state)

line_stays : (level : Level) (text : List ℕ) (h : Held)
    → Stays h.state (line_reported level text h).state
line_stays level text h =
    let line = without_line_end text in
    held_if (is_frame h.one.test line) h.state (framed line h) (said level line (held_opened h)) (framed_stays line h) (said_stays level line h)

emitted_line_stays : (h : Held) → Stays h.state (part_line_emitted h).state
emitted_line_stays h = line_stays (level_of_line h.one.is_error) h.one.part (record h { one = record h.one { part = []; is_error = false } })

part_stays : (h : Held) → Stays h.state (part_emitted h).state
part_stays h = held_if (is_empty h.one.part) h.state h (part_line_emitted h) (same h.state) (emitted_line_stays h)

span_stays : (ending : Ending) (rest : List Field) (span : Option Id) (h : Held) → Stays h.state (span_ended ending rest span h)
span_stays ending rest (Some id) h =
    let event = event_stays (level_of_ending ending) (ending_word ending) rest (Some id) h.state in
    record { failed = event.failed; named_too = event.named_too }
span_stays ending rest None h = event_stays (level_of_ending ending) (ending_word ending ++ codes " " ++ h.one.name) rest h.one.parent h.state

finished_stays : (ending : Ending) (elapsed : Option (List ℕ)) (h : Held) → Stays h.state (held_finished ending elapsed h)
finished_stays ending elapsed h =
    let last = part_emitted h in
    let rest = test_end_fields elapsed last.one in
    then_stays h.state last.state (span_ended ending rest last.one.span last) (part_stays h) (span_stays ending rest last.one.span last)

-- ---- what runs

without_stays : (path : List ℕ) (s : GoState) → Stays s (without_package path s)
without_stays path s = record { failed = λ w. refl; named_too = λ w. all_without path s.packages w }

held_stays : (path test : List ℕ) (s : GoState) → Stays s (held_test path test s).state
unfolding held_test
held_stays path test s =
    let tests : Tests = tests_of path s in
    let name : List ℕ = owner tests test in
    record {
      failed = λ w. refl;
      named_too = λ w. all_put path (without name tests) (without path s.packages) (named_without name tests (all_found path s.packages w)) (all_without path s.packages w);
    }

kept_stays : (h : Held) → Stays h.state (test_kept h)
unfolding test_kept
kept_stays h =
    let tests : Tests = tests_of h.one.path h.state in
    record {
      failed = λ w. refl;
      named_too = λ w. all_put h.one.path (put h.one.test h.one tests) (without h.one.path h.state.packages)
          (named_put h.one.test h.one tests refl (all_found h.one.path h.state.packages w)) (all_without h.one.path h.state.packages w);
    }

-- ---- counts

one_more_counts : (n : ℕ) → not (one_more n == 0) ≡ true
one_more_counts n = grind (arith, nat_tests)

failed_test : (path test : List ℕ) (s : GoState) → Goes true s (failed_counted path test s)
failed_test path test s = record {
  failed = λ w. ap (λ b. b || not (s.tally.packages_failed == 0)) (one_more_counts s.tally.failed) ∙ sym (or_true (any_failed s));
  named_too = λ w. w;
}

failed_package : (path : List ℕ) (s : GoState) → Goes true s (package_failed path (one_ended s))
failed_package path s = record {
  failed = λ w. ap (λ b. not (s.tally.failed == 0) || b) (one_more_counts s.tally.packages_failed) ∙ or_true (not (s.tally.failed == 0)) ∙ sym (or_true (any_failed s));
  named_too = λ w. w;
}

-- an end that doesn't count as a failure of a test
is_calm : Ending → Bool
is_calm Passed = true
is_calm Failed = false
is_calm Skipped = true
is_calm Unfinished = true

calm_stays : (ending : Ending) (path test : List ℕ) (s : GoState) → is_calm ending ≡ true → Stays s (end_counted ending path test s)
unfolding is_calm
calm_stays Passed path test s e = record { failed = λ w. refl; named_too = λ w. w }
calm_stays Failed path test s e = cc
calm_stays Skipped path test s e = record { failed = λ w. refl; named_too = λ w. w }
calm_stays Unfinished path test s e = record { failed = λ w. refl; named_too = λ w. w }

calm_left : (ending : Ending) → is_calm (left_as ending) ≡ true
unfolding is_calm
calm_left Passed = refl
calm_left Failed = refl
calm_left Skipped = refl
calm_left Unfinished = refl

-- ---- what is left

noted_by : (b : Bool) (ending : Ending) (one : Running) (s : GoState) → b ≡ false → is_calm ending ≡ true →
    Stays s (if b then package_counted ending one.path s
    else end_counted ending one.path one.test s)
noted_by true ending one s e calm = cc
noted_by false ending one s e calm = calm_stays ending one.path one.test s calm

-- a test without a reported end isn't a failure
left_stays : (ending : Ending) (one : Running) (s : GoState) → is_empty one.test ≡ false → is_calm ending ≡ true → Stays s (left_one ending one s)
left_stays ending one s full calm =
    let noted_too : GoState = noted_left ending one s in
    stays_if one.has_begun s (held_finished ending None (holds one noted_too)) s
    (then_stays s noted_too (held_finished ending None (holds one noted_too)) (noted_by (is_empty one.test) ending one s full calm) (finished_stays ending None (holds one noted_too)))
    (same s)

left_over_stays : (ending : Ending) (root : Option Id) (earlier tests : Tests) (s : GoState) → AreFull tests → is_calm ending ≡ true → Stays s (left_over ending root earlier tests s)
left_over_stays ending root earlier [] s h calm = same s
left_over_stays ending root earlier (test ∷ later) s h calm =
    let rest : GoState = left_over ending root (earlier ++ test ∷ []) later s in
    then_stays s rest (left_one ending (test_placed root earlier test.1) rest) (left_over_stays ending root (earlier ++ test ∷ []) later s h.2 calm)
    (left_stays ending (test_placed root earlier test.1) rest h.1 calm)

all_left_stays : (ending : Ending) (path : List ℕ) (s : GoState) → is_calm ending ≡ true → AllNamed s.packages → Stays s (all_left_over ending path s)
all_left_stays ending path s calm w =
    let tests : Tests = tests_of path s in
    then_stays s (without_package path s) (all_left_over ending path s) (without_stays path s)
    (left_over_stays ending (running_as path [] tests).span [] (without [] tests) (without_package path s) (full_inner tests (all_found path s.packages w)) calm)

package_stays : (ending : Ending) (path : List ℕ) (elapsed : Option (List ℕ)) (s : GoState) → Stays (package_counted ending path s) (package_ended ending path elapsed s)
unfolding package_ended
package_stays ending path elapsed s =
    let counted_too : GoState = package_counted ending path s in
    let last : Held = holds (running_as path [] (tests_of path counted_too)) (all_left_over (left_as ending) path counted_too) in
    record {
      failed = λ w. (then_stays counted_too last.state (held_finished ending elapsed last) (all_left_stays (left_as ending) path counted_too (calm_left ending) w) (finished_stays ending elapsed last)).failed w;
      named_too = λ w. (then_stays counted_too last.state (held_finished ending elapsed last) (all_left_stays (left_as ending) path counted_too (calm_left ending) w) (finished_stays ending elapsed last)).named_too w;
    }

test_stays : (ending : Ending) (test : List ℕ) (elapsed : Option (List ℕ)) (h : Held) → Stays h.state (test_ended ending test elapsed h)
test_stays ending test elapsed h =
    let parent : Held = held_opened h in
    let name : List ℕ = own_name parent.one.test test in
    let quiet : Held = record parent { state = quiet_emitted ending name (elapsed_fields elapsed) parent.one.span parent.state } in
    stays_if (bytes_eq h.one.test test) h.state (held_finished ending elapsed h) (test_kept quiet) (finished_stays ending elapsed h)
    (then_stays h.state quiet.state (test_kept quiet)
    (then_stays h.state parent.state quiet.state (opened_stays h) (event_stays (level_of_ending ending) (ending_word ending ++ codes " " ++ name) (elapsed_fields elapsed) parent.one.span parent.state))
    (kept_stays quiet))

-- an end fails something exactly if it is counted as a failure
ended_as : (f : Bool) (ending : Ending) (path test : List ℕ) (elapsed : Option (List ℕ)) (s : GoState) → Goes f s (end_counted ending path test s) → ((t : GoState) → Goes f t (package_counted ending path t)) →
    Goes f s (test_or_package_ended ending path test elapsed s)
ended_as f ending path test elapsed s of_test of_package =
    let at : GoState = end_counted ending path test s in
    let h : Held = held_test path test at in
    let over : GoState = build_over path s in
    goes_if (is_empty test) f s (package_ended ending path elapsed over) (test_ended ending test elapsed h)
    (stays_goes f s over (package_ended ending path elapsed over) (record { failed = λ w. refl; named_too = λ w. w })
    (goes_stays f over (package_counted ending path over) (package_ended ending path elapsed over) (of_package over) (package_stays ending path elapsed over)))
    (goes_stays f s at (test_ended ending test elapsed h) of_test
    (then_stays at h.state (test_ended ending test elapsed h) (held_stays path test at) (test_stays ending test elapsed h)))

-- ---- a test begins or prints

full_again : (a test : List ℕ) → (is_empty test || not (bytes_eq a test)) ≡ false → is_empty a ≡ false
full_again [] [] h = let e : true ≡ false = h in cc
full_again [] (y ∷ ys) h = let e : true ≡ false = (rw (full y ys) at h) in cc
full_again (x ∷ xs) test h = full x xs

above_by : (path test : List ℕ) (s : GoState) (b : Bool) → (is_empty test || not (bytes_eq (held_test path test s).one.test test)) ≡ b →
    Stays s (if b then held_test path test s else held_test path test (left_one Unfinished (held_test path test s).one (held_test path test s).state)).state
unfolding is_calm
above_by path test s true e = held_stays path test s
above_by path test s false e =
    let h : Held = held_test path test s in
    let left : GoState = left_one Unfinished h.one h.state in
    then_stays s left (held_test path test left).state
    (then_stays s h.state left (held_stays path test s) (left_stays Unfinished h.one h.state (full_again h.one.test test e) refl))
    (held_stays path test left)

above_stays : (path test : List ℕ) (s : GoState) → Stays s (above_held path test s).state
unfolding above_held
above_stays path test s = above_by path test s (is_empty test || not (bytes_eq (held_test path test s).one.test test)) refl

started_stays : (path : List ℕ) (s : GoState) → Stays s (package_started path s)
started_stays path s =
    let h : Held = started (held_test path [] s) in
    then_stays s h.state (test_kept h) (held_stays path [] s) (kept_stays h)

begun_stays : (path test : List ℕ) (h : Held) → Stays h.state (begun_in path test h)
begun_stays path test h =
    stays_if (is_empty test) h.state (test_kept h) (test_kept (holds (new_running path test) (test_kept h))) (kept_stays h)
    (then_stays h.state (test_kept h) (test_kept (holds (new_running path test) (test_kept h))) (kept_stays h) (kept_stays (holds (new_running path test) (test_kept h))))

ran_stays : (path test : List ℕ) (s : GoState) → Stays s (ran path test s)
ran_stays path test s =
    let h : Held = above_held path test s in
    let last : Held = part_emitted h in
    then_stays s (held_opened last).state (ran path test s)
    (then_stays s last.state (held_opened last).state (then_stays s h.state last.state (above_stays path test s) (part_stays h)) (opened_stays last))
    (begun_stays path test (started (held_opened last)))

text_stays : (is_error : Bool) (text : List ℕ) (h : Held) → Stays h.state (text_printed is_error text h).state
text_stays is_error text h =
    let more : Held = more_printed is_error text h in
    held_if (ends_line text) h.state (part_line_emitted more) more (emitted_line_stays more) (same h.state)

string_stays : (kind : Kind) (text : List ℕ) (h : Held) → Stays h.state (string_printed kind text h).state
string_stays kind text h =
    let last : Held = part_emitted h in
    held_if (is_framing kind h.one.test text) h.state (frame_printed text h) (text_printed (fails_as kind) text h)
    (then_stays h.state last.state (frame_printed text h).state (part_stays h) (framed_stays (without_line_end text) last)) (text_stays (fails_as kind) text h)

printed_stays : (kind : Kind) (path test text : List ℕ) (s : GoState) → Stays s (printed kind path test text s)
printed_stays kind path test text s =
    let h : Held = started (held_test path test s) in
    let line : Held = string_printed kind text h in
    then_stays s h.state (test_kept line) (held_stays path test s) (then_stays h.state line.state (test_kept line) (string_stays kind text h) (kept_stays line))

-- ---- builds

build_said_stays : (level : Level) (text : List ℕ) (h : Held) → Stays h.state (build_said level text h).state
build_said_stays level text h =
    let line = without_line_end (without_heading text) in
    held_if (is_skipped line) h.state h (said (level_of_build level line) line (held_opened h)) (same h.state) (said_stays (level_of_build level line) line h)

builds_said_stay : (level : Level) (texts : List (List ℕ)) (h : Held) → Stays h.state (builds_said level texts h).state
builds_said_stay level [] h = same h.state
builds_said_stay level (text ∷ later) h =
    let first : Held = build_said level text h in
    then_stays h.state first.state (builds_said level later first).state (build_said_stays level text h) (builds_said_stay level later first)

texts_stay : (level : Level) (build : Build) (s : GoState) → Stays s (texts_emitted level build s)
texts_stay level build s =
    let h : Held = held_test build.path [] s in
    let all : Held = builds_said level build.texts h in
    then_stays s h.state (test_kept all) (held_stays build.path [] s) (then_stays h.state all.state (test_kept all) (builds_said_stay level build.texts h) (kept_stays all))

build_by : (level : Level) (build : Option Build) (s : GoState) → Stays s (emitted_of_build level build s)
build_by level None s = same s
build_by level (Some build) s = texts_stay level build s

build_stays : (level : Level) (path : List ℕ) (s : GoState) → Stays s (build_emitted level path s)
build_stays level path s =
    then_stays s (without_build path s) (build_emitted level path s) (record { failed = λ w. refl; named_too = λ w. w }) (build_by level (named path s.builds) (without_build path s))

closed_stays : (span : Option Id) (h : Held) → Stays h.state (only_closed span h)
closed_stays None h = same h.state
closed_stays (Some id) h = record { failed = λ w. refl; named_too = λ w. w }

last_stays : (build : Build) (s : GoState) → Stays s (build_last build s)
last_stays build s =
    let h : Held = holds (new_running build.path []) s in
    let all : Held = builds_said Warn build.texts h in
    then_stays s all.state (build_last build s) (builds_said_stay Warn build.texts h) (closed_stays all.one.span all)

builds_stay : (builds : List (List ℕ × Build)) (s : GoState) → Stays s (builds_emitted builds s)
builds_stay [] s = same s
builds_stay (one ∷ others) s =
    let first : GoState = build_last one.1 s in
    then_stays s first (builds_emitted others first) (last_stays one.1 s) (builds_stay others first)

-- ---- lines

plain_stays : (line : List ℕ) (s : GoState) → Stays s (takes_plain line s)
plain_stays line s =
    let h : Held = held_test s.building [] s in
    let event : Held = said Error line (held_opened h) in
    stays_if (is_package_frame line) s s (if is_aside line s then text_event_emitted (level_of_text line) line [] s.last s else test_kept event) (same s)
    (stays_if (is_aside line s) s (text_event_emitted (level_of_text line) line [] s.last s) (test_kept event) (event_stays (level_of_text line) line [] s.last s)
    (then_stays s h.state (test_kept event) (held_stays s.building [] s)
    (then_stays h.state event.state (test_kept event) (said_stays Error line h)
    (kept_stays event))))

failure_by : (b : Bool) (rest line : List ℕ) (s : GoState) → Goes b s (takes_failure (if b then Some rest else None) line s)
failure_by true rest line s =
    let at : GoState = record s { building = [] } in
    let path : List ℕ = up_to_space rest in
    stays_goes true s at (package_ended Failed path None at) (record { failed = λ w. refl; named_too = λ w. w })
    (goes_stays true at (package_counted Failed path at) (package_ended Failed path None at) (failed_package path at) (package_stays Failed path None at))
failure_by false rest line s = goes_of s (takes_plain line s) (plain_stays line s)

-- a heading isn't a failure
other_mark : (b : ℕ) (x y : Bool) → ((35 == b) && x) ≡ true → ((70 == b) && y) ≡ false
other_mark b x y h = grind (arith, nat_tests)

heading_is_calm : (line : List ℕ) → begins (codes "# ") line ≡ true → begins (codes "FAIL\t") line ≡ false
heading_is_calm [] h = refl
heading_is_calm (b ∷ rest) h = other_mark b _ _ h

heading_by : (b : Bool) (rest line : List ℕ) (s : GoState) → begins (codes "# ") line ≡ b → Goes (begins (codes "FAIL\t") line) s (takes_heading (if b then Some rest else None) line s)
heading_by true rest line s e =
    let at : GoState = record s { building = built_after rest s.building } in
    let P : Bool → Type 0 = λ b. Goes b s at in
    subst P (sym (heading_is_calm line e)) (goes_of s at (record { failed = λ w. refl; named_too = λ w. w }))
heading_by false rest line s e = failure_by (begins (codes "FAIL\t") line) (drop (length (codes "FAIL\t")) line) line s

-- a blank line is passed over
unless_blank : (b f : Bool) (s t : GoState) → Goes f s t → Goes (if b then false else f) s (if b then s else t)
unless_blank true f s t h = goes_of s s (same s)
unless_blank false f s t h = h

text_goes : (line : List ℕ) (s : GoState) → Goes (reports_failure line None) s (takes_text line s)
text_goes line s =
    unless_blank (is_skipped line) (begins (codes "FAIL\t") line) s (takes_heading (after_mark (codes "# ") line) line s)
    (heading_by (begins (codes "# ") line) (drop (length (codes "# ")) line) line s refl)

-- a line of JSON, if it is known
abbrev GoesIf : Bool → GoState → Option GoState → Type 0
GoesIf b s None = b ≡ false
GoesIf b s (Some t) = Goes b s t

goes_by : (b f : Bool) (s : GoState) (x y : Option GoState) → (b ≡ true → GoesIf f s x) → (b ≡ false → GoesIf f s y) → GoesIf f s (if b then x else y)
goes_by true f s x y h k = h refl
goes_by false f s x y h k = k refl

as_false : (f : Bool) (s t : GoState) → f ≡ false → Stays s t → Goes f s t
as_false f s t e h = let P : Bool → Type 0 = λ b. Goes b s t in subst P (sym e) (goes_of s t h)

not_fail : (action word : List ℕ) → bytes_eq action word ≡ true → bytes_eq word (codes "fail") ≡ false → bytes_eq action (codes "fail") ≡ false
not_fail action word is other =
    let e : action ≡ word = (bytes_eq-Decides action word).0 is in
    ap (λ (a : List ℕ). bytes_eq a (codes "fail")) e ∙ other

neither_fail : (action one two : List ℕ) → (bytes_eq action one || bytes_eq action two) ≡ true → bytes_eq one (codes "fail") ≡ false → bytes_eq two (codes "fail") ≡ false →
    bytes_eq action (codes "fail") ≡ false
neither_fail action one two is a b = by (bytes_eq action one) refl where
  by : (c : Bool) → bytes_eq action one ≡ c → bytes_eq action (codes "fail") ≡ false
  by true e = not_fail action one e a
  by false e = not_fail action two (rw e at is) b

printed_if_goes : (f : Bool) (kind : Kind) (path test : List ℕ) (text : Option (List ℕ)) (s : GoState) → f ≡ false → GoesIf f s (printed_if kind path test text s)
printed_if_goes f kind path test None s e = e
printed_if_goes f kind path test (Some text) s e =
    let built : GoState = build_emitted Warn path s in
    as_false f s (printed kind path test text built) e (then_stays s built (printed kind path test text built) (build_stays Warn path s) (printed_stays kind path test text built))

build_printed_goes : (f : Bool) (path : List ℕ) (text : Option (List ℕ)) (s : GoState) → f ≡ false → GoesIf f s (build_printed_if path text s)
build_printed_goes f path None s e = e
build_printed_goes f path (Some text) s e = as_false f s (build_printed path text s) e (record { failed = λ w. refl; named_too = λ w. w })

goes_choice : (b f : Bool) (s x y : GoState) → (b ≡ true → Goes f s x) → (b ≡ false → Goes f s y) → Goes f s (if b then x else y)
goes_choice true f s x y h k = h refl
goes_choice false f s x y h k = k refl

as_true : (f : Bool) (s t : GoState) → f ≡ true → Goes true s t → Goes f s t
as_true f s t e h = let P : Bool → Type 0 = λ b. Goes b s t in subst P (sym e) h

moved_goes : (action path test : List ℕ) (elapsed : Option (List ℕ)) (s : GoState) → Goes (bytes_eq action (codes "fail")) s (moved action path test elapsed s)
moved_goes action path test elapsed s =
    let f : Bool = bytes_eq action (codes "fail") in
    goes_choice (bytes_eq action (codes "run")) f s (ran path test s) _ (λ is. as_false f s (ran path test s) (not_fail action (codes "run") is refl) (ran_stays path test s))
    (λ _. goes_choice (bytes_eq action (codes "pass") || bytes_eq action (codes "bench")) f s (test_or_package_ended Passed path test elapsed s) _
    (λ is. let no : f ≡ false = neither_fail action (codes "pass") (codes "bench") is refl refl in
    ended_as f Passed path test elapsed s (as_false f s (end_counted Passed path test s) no (record { failed = λ w. refl; named_too = λ w. w }))
    (λ t. as_false f t (one_ended t) no (record { failed = λ w. refl; named_too = λ w. w })))
    (λ _. goes_choice f f s (test_or_package_ended Failed path test elapsed s) _
    (λ is. ended_as f Failed path test elapsed s (as_true f s (failed_counted path test s) is (failed_test path test s))
    (λ t. as_true f t (package_failed path (one_ended t)) is (failed_package path t)))
    (λ none. goes_choice (bytes_eq action (codes "skip")) f s
    (test_or_package_ended Skipped path test elapsed s) _
    (λ _. ended_as f Skipped path test elapsed s (as_false f s (end_counted Skipped path test s) none (record { failed = λ w. refl; named_too = λ w. w }))
    (λ t. as_false f t (one_ended t) none (record { failed = λ w. refl; named_too = λ w. w })))
    (λ _. goes_choice (bytes_eq action (codes "start")) f s (package_started path s) s (λ _. as_false f s (package_started path s) none (started_stays path s))
    (λ _. as_false f s s none (same s))))))

acted_goes : (action path test : List ℕ) (value : Json) (s : GoState) → GoesIf (bytes_eq action (codes "fail")) s (acted action path test value s)
acted_goes action path test value s =
    let f : Bool = bytes_eq action (codes "fail") in
    let built : GoState = build_emitted Warn path s in
    goes_by (bytes_eq action (codes "build-output")) f s _ _ (λ is. build_printed_goes f path (text_at (codes "Output") value) s (not_fail action (codes "build-output") is refl))
    (λ _. goes_by (bytes_eq action (codes "output")) f s _ _ (λ is. printed_if_goes f (output_kind value) path test (text_at (codes "Output") value) s (not_fail action (codes "output") is refl))
    (λ _. goes_by (bytes_eq action (codes "build-fail")) f s _ _ (λ is. as_false f s (build_emitted Error path s) (not_fail action (codes "build-fail") is refl) (build_stays Error path s))
    (λ _. stays_goes f s built (moved action path test (elapsed_in value) built) (build_stays Warn path s) (moved_goes action path test (elapsed_in value) built))))

json_goes : (action path : Option (List ℕ)) (value : Json) (s : GoState) → GoesIf (is_fail action path) s (acted_for action path value s)
json_goes (Some action) (Some path) value s = acted_goes action path (test_of value) value s
json_goes (Some action) None value s = refl
json_goes None path value s = refl

handed_goes : (b : Bool) (s at : GoState) (o : Option GoState) → Stays s at → GoesIf b at o → Goes b s (interpreted_step s (option_map handed_out o)).source
handed_goes b s at None h e = as_false b s s e (same s)
handed_goes b s at (Some t) h k =
    let all = stays_goes b s at t h k in
    record { failed = all.failed; named_too = all.named_too }

step_goes : (line : List ℕ) (value : Option Json) (s : GoState) → Goes (reports_failure line value) s (interpreted_step s (go_takes s line value)).source
step_goes line None s =
    let all = text_goes line s in
    record { failed = all.failed; named_too = all.named_too }
step_goes line (Some value) s =
    handed_goes (is_fail (text_at (codes "Action") value) (package_of value)) s (at_action_time value s) (takes_json value (at_action_time value s))
    (record { failed = λ w. refl; named_too = λ w. w }) (json_goes (text_at (codes "Action") value) (package_of value) value (at_action_time value s))

interpreted_if : (b f g : Bool) (s : GoState) (h k : Interpreted GoState) → Goes f s h.source → Goes g s k.source → Goes (if b then f else g) s (if b then h else k).source
interpreted_if true f g s h k i j = i
interpreted_if false f g s h k i j = j

line_goes : (line : List ℕ) (s : GoState) → Goes (emits_failure line) s (interpret_line go_takes s line).source
line_goes line s =
    interpreted_if (is_utf8 line) (reports_failure line (document line)) false s (interpreted_step s (go_takes s line (document line))) (interpreted_step s None) (step_goes line (document line) s) (goes_of s s (same s))

lines_go : (lines : List (List ℕ)) (s : GoState) → Goes (list_any emits_failure lines) s (interpret go_takes s lines).source
lines_go [] s = goes_of s s (same s)
lines_go (line ∷ lines) s =
    let after : GoState = (interpret_line go_takes s line).source in
    goes_then (emits_failure line) (list_any emits_failure lines) s after (interpret go_takes after lines).source (line_goes line s) (lines_go lines after)

-- ---- the end

unfinished_by : (b : Bool) (one : Running) (s : GoState) → b ≡ true → Goes true s (if b then package_counted Unfinished one.path s else end_counted Unfinished one.path one.test s)
unfinished_by true one s e = failed_package one.path s
unfinished_by false one s e = cc

left_by : (b : Bool) (one : Running) (s : GoState) → is_empty one.test ≡ true →
    Goes b s (if b then held_finished Unfinished None
    (holds one (noted_left Unfinished one s)) else s)
left_by true one s e =
    let noted_too : GoState = noted_left Unfinished one s in
    goes_stays true s noted_too (held_finished Unfinished None (holds one noted_too)) (unfinished_by (is_empty one.test) one s e) (finished_stays Unfinished None (holds one noted_too))
left_by false one s e = goes_of s s (same s)

over_by : (b : Bool) (own : Running) (s : GoState) → own.has_begun ≡ b → is_empty own.test ≡ true →
    Goes b s (if b then left_one Unfinished own s else only_closed own.span (holds own s))
over_by true own s is e = let P : Bool → Type 0 = λ b. Goes b s (left_one Unfinished own s) in subst P is (left_by own.has_begun own s e)
over_by false own s is e = goes_of s (only_closed own.span (holds own s)) (closed_stays own.span (holds own s))

package_by : (tests : Tests) (s : GoState) (own : Option Running) → AreNamed tests → named [] tests ≡ own → Goes (has_begun own) s (package_left tests s)
unfolding is_calm
package_by tests s None h is =
    rw is (goes_of s (left_over Unfinished None [] (without [] tests) s) (left_over_stays Unfinished None [] (without [] tests) s (full_inner tests h) refl))
package_by tests s (Some own) h is =
    let rest : GoState = left_over Unfinished own.span [] (without [] tests) s in
    rw is (stays_goes own.has_begun s rest (package_over own rest) (left_over_stays Unfinished own.span [] (without [] tests) s (full_inner tests h) refl)
    (over_by own.has_begun own rest refl (package_named tests own h is)))

packages_go : (packages : List (List ℕ × Tests)) (s : GoState) → AllNamed packages → Goes (list_any package_runs packages) s (packages_left packages s)
packages_go [] s h = goes_of s s (same s)
packages_go ((path, tests) ∷ others) s h =
    let after : GoState = package_left tests s in
    goes_then (package_runs (path, tests)) (list_any package_runs others) s after (packages_left others after) (package_by tests s (named [] tests) h.0 refl) (packages_go others after h.1)

-- tests have failed exactly if a line reports a failure, or a package still ran
pub some_failed_after : (next : ℕ) (moment : Moment) (lines : List (List ℕ)) →
    any_failed (all_ended (interpret go_takes (nothing_run next moment) lines).source) ≡ some_failed lines (interpret go_takes (nothing_run next moment) lines).source
some_failed_after next moment lines =
    let interpreted = lines_go lines (nothing_run next moment) in
    let s : GoState = (interpret go_takes (nothing_run next moment) lines).source in
    let at : GoState = record s { builds = []; packages = [] } in
    let left : GoState = packages_left s.packages at in
    let all = goes_stays (list_any package_runs s.packages) at left (builds_emitted s.builds left) (packages_go s.packages at (interpreted.named_too tt)) (builds_stay s.builds left) in
    all.failed tt ∙ ap (λ b. b || list_any package_runs s.packages) (interpreted.failed tt)
