-- What runs after any lines is stored under its own path and name, in order.
use Rattle.std.proofs.Common.{◌≡◌, ℕ, Bool, true, false, List, [], ◌∷◌, Option, Some, None, refl, ap, ◌∙◌}
use Rattle.std.specs.Prelude.{◌||◌, bytes_eq, codes, if◌then◌else◌, option_map}
use Rattle.std.specs.Str.{is_utf8}
use Rattle.json.specs.Json.{Json, document}
use Rattle.tracing_tree_base.specs.declared.context.Id.{Id}
use Rattle.tracing_tree_base.specs.declared.context.Moment.{Moment}
use Rattle.tracing_tree_base.specs.declared.field.Field.{Field}
use Rattle.tracing_tree_base.specs.declared.style.Level.{Level}
use Rattle.tracing_tree_base.specs.declared.style.Level.TheVariants.{Warn, Error}
use Rattle.ttree_go_test.specs.declared.go_test.builds.Build.{Build}
use Rattle.ttree_go_test.specs.declared.go_test.tally.Ending.{Ending}
use Rattle.ttree_go_test.specs.declared.go_test.tally.Ending.TheVariants.{Passed, Failed, Skipped}
use Rattle.tracing_tree_lines.specs.Lines.Spelled.{is_skipped}
use Rattle.ttree_source.specs.Marks.{after_mark, is_empty}
use Rattle.ttree_go_test.specs.Names.{named}
use Rattle.ttree_source.specs.Source.{interpret, interpret_line, interpreted_step}
use Rattle.ttree_source.specs.Calls.{event_call, message_field}
use Rattle.ttree_go_test.specs.Texts.{is_package_frame, up_to_space, without_line_end}
use Rattle.ttree_source.specs.Values.{text_at}
use Rattle.ttree_go_test.specs.GoTest.{GoState, Held, acted, acted_for, build_printed_if, build_said, build_emitted, builds_said, elapsed_in, test_or_package_ended, text_event_emitted, go_takes, handed_out, held_test, is_aside, test_kept, output_kind, level_of_text, moved, nothing_run, held_opened, opened_as, package_ended, package_of, printed_if, ran, said, takes_failure, takes_heading, takes_json, takes_plain, takes_text, test_of, texts_emitted, at_action_time, emitted_with_last, emitted_of_build, without_build, without_heading, build_over, level_of_build, package_started}
use Rattle.ttree_go_test.proofs.Laws.WellKept.{IsWell, emptied, filled, well_emptied, well_filled}
use Rattle.ttree_go_test.proofs.Laws.Accounts.{Holds, held_holds, holder}
use Rattle.ttree_go_test.proofs.Laws.Actions.{printed_accounts, ran_accounts, test_accounts, started_accounts}
use Rattle.ttree_go_test.proofs.Laws.Leaving.{package_accounts}

-- ---- an event changes nothing of it

pub record Same (h k : Held) : Type 0 where
  pub path : k.one.path ≡ h.one.path
  pub test : k.one.test ≡ h.one.test
  pub part : k.one.part ≡ h.one.part
  pub begun : k.one.has_begun ≡ h.one.has_begun
  pub packages : k.state.packages ≡ h.state.packages

same : (h : Held) → Same h h
same h = record { path = refl; test = refl; part = refl; begun = refl; packages = refl }

then_same : (h k l : Held) → Same h k → Same k l → Same h l
then_same h k l a b = record {
  path = b.path ∙ a.path;
  test = b.test ∙ a.test;
  part = b.part ∙ a.part;
  begun = b.begun ∙ a.begun;
  packages = b.packages ∙ a.packages;
}

opened_by : (span : Option Id) (h : Held) → Same h (opened_as span h)
opened_by (Some id) h = same h
opened_by None h = record { path = refl; test = refl; part = refl; begun = refl; packages = refl }

pub event_same : (level : Level) (text : List ℕ) (rest : List Field) (parent : Option Id) (s : GoState) → (text_event_emitted level text rest parent s).packages ≡ s.packages
event_same level text rest parent s = by (is_skipped text) where
  by : (b : Bool) → (if b then s else emitted_with_last parent (event_call s.moment level (message_field text ∷ rest) parent) s).packages ≡ s.packages
  by true = refl
  by false = refl

pub said_same : (level : Level) (text : List ℕ) (h : Held)
    → Same h (said level text (held_opened h))
said_same level text h =
    then_same h (held_opened h) (said level text (held_opened h)) (opened_by h.one.span h)
    (record { path = refl; test = refl; part = refl; begun = refl; packages = event_same level text [] (held_opened h).one.span (held_opened h).state })

build_said_same : (level : Level) (text : List ℕ) (h : Held) → Same h (build_said level text h)
build_said_same level text h = by (is_skipped line) where
  line : List ℕ
  line = without_line_end (without_heading text)

  by : (b : Bool) → Same h (if b then h else said (level_of_build level line) line (held_opened h))
  by true = same h
  by false = said_same (level_of_build level line) line h

pub builds_said_same : (level : Level) (texts : List (List ℕ)) (h : Held) → Same h (builds_said level texts h)
builds_said_same level [] h = same h
builds_said_same level (text ∷ later) h =
    then_same h (build_said level text h) (builds_said level later (build_said level text h)) (build_said_same level text h) (builds_said_same level later (build_said level text h))

pub kept_well : (path name : List ℕ) (s : GoState) (h k : Held) → IsWell s.packages → Holds path name s h → Same h k → IsWell (test_kept k).packages
unfolding test_kept
kept_well path name s h k w is like =
    let p : k.one.path ≡ path = like.path ∙ is.path_is in
    let n : k.one.test ≡ name = like.test ∙ is.test_is in
    let all : (test_kept k).packages ≡ filled path name k.one (emptied path name s.packages) =
    ap (λ x. filled x k.one.test k.one k.state.packages) p ∙ ap (λ x. filled path x k.one k.state.packages) n ∙ ap (filled path name k.one) (like.packages ∙ is.packages) in
    rw all (well_filled path name k.one (emptied path name s.packages) (p, n, λ not_begun. like.part ∙ is.begins (sym_of like.begun not_begun), λ not_begun. is.of_package (sym_of like.begun not_begun)) (well_emptied path name s.packages w)) where
      sym_of : k.one.has_begun ≡ h.one.has_begun → k.one.has_begun ≡ false → h.one.has_begun ≡ false
      sym_of e f = cc

texts_well : (level : Level) (build : Build) (s : GoState) → IsWell s.packages → IsWell (texts_emitted level build s).packages
texts_well level build s w =
    kept_well build.path (holder build.path [] s) s (held_test build.path [] s) (builds_said level build.texts (held_test build.path [] s)) w (held_holds build.path [] s w)
    (builds_said_same level build.texts (held_test build.path [] s))

build_well : (level : Level) (path : List ℕ) (s : GoState) → IsWell s.packages → IsWell (build_emitted level path s).packages
build_well level path s w = by (named path s.builds) where
  by : (o : Option Build) → IsWell (emitted_of_build level o (without_build path s)).packages
  by None = w
  by (Some build) = texts_well level build (without_build path s) w

-- ---- lines

well_if : (b : Bool) (s t : GoState) → IsWell s.packages → IsWell t.packages → IsWell (if b then s else t).packages
well_if true s t h k = h
well_if false s t h k = k

plain_well : (line : List ℕ) (s : GoState) → IsWell s.packages → IsWell (takes_plain line s).packages
plain_well line s w =
    well_if (is_package_frame line) s _ w
    (well_if (is_aside line s) (text_event_emitted (level_of_text line) line [] s.last s) (test_kept (said Error line (held_opened (held_test s.building [] s)))) aside
    (kept_well s.building (holder s.building [] s) s (held_test s.building [] s) (said Error line (held_opened (held_test s.building [] s))) w (held_holds s.building [] s w) (said_same Error line (held_test s.building [] s)))) where
      aside : IsWell (text_event_emitted (level_of_text line) line [] s.last s).packages
      aside = rw (event_same (level_of_text line) line [] s.last s) w

failure_well : (rest : Option (List ℕ)) (line : List ℕ) (s : GoState) → IsWell s.packages → IsWell (takes_failure rest line s).packages
failure_well (Some rest) line s w = (package_accounts Failed (up_to_space rest) None (record s { building = [] }) w).well
failure_well None line s w = plain_well line s w

heading_well : (rest : Option (List ℕ)) (line : List ℕ) (s : GoState) → IsWell s.packages → IsWell (takes_heading rest line s).packages
heading_well (Some rest) line s w = w
heading_well None line s w = failure_well (after_mark (codes "FAIL\t") line) line s w

text_well : (line : List ℕ) (s : GoState) → IsWell s.packages → IsWell (takes_text line s).packages
text_well line s w = well_if (is_skipped line) s (takes_heading (after_mark (codes "# ") line) line s) w (heading_well (after_mark (codes "# ") line) line s w)

ended_well : (ending : Ending) (path test : List ℕ) (elapsed : Option (List ℕ)) (s : GoState) → IsWell s.packages → IsWell (test_or_package_ended ending path test elapsed s).packages
ended_well ending path test elapsed s w =
    well_if (is_empty test) (package_ended ending path elapsed (build_over path s)) _ (package_accounts ending path elapsed (build_over path s) w).well (test_accounts ending path test elapsed s w).well

moved_well : (action path test : List ℕ) (elapsed : Option (List ℕ)) (s : GoState) → IsWell s.packages → IsWell (moved action path test elapsed s).packages
moved_well action path test elapsed s w =
    well_if (bytes_eq action (codes "run")) (ran path test s) _ (ran_accounts path test s w).well
    (well_if (bytes_eq action (codes "pass") || bytes_eq action (codes "bench")) (test_or_package_ended Passed path test elapsed s) _ (ended_well Passed path test elapsed s w)
    (well_if (bytes_eq action (codes "fail")) (test_or_package_ended Failed path test elapsed s) _ (ended_well Failed path test elapsed s w)
    (well_if (bytes_eq action (codes "skip")) (test_or_package_ended Skipped path test elapsed s) _ (ended_well Skipped path test elapsed s w)
    (well_if (bytes_eq action (codes "start")) (package_started path s) s (started_accounts path s w).well w))))

abbrev IfWell : Option GoState → Type 0
IfWell None = Unit {0}
IfWell (Some t) = IsWell t.packages

either_well : (b : Bool) (x y : Option GoState) → IfWell x → IfWell y → IfWell (if b then x else y)
either_well true x y h k = h
either_well false x y h k = k

acted_well : (action path : List ℕ) (value : Json) (s : GoState) → IsWell s.packages → IfWell (acted action path (test_of value) value s)
acted_well action path value s w =
    either_well (bytes_eq action (codes "build-output")) (build_printed_if path output s) _ (built output)
    (either_well (bytes_eq action (codes "output")) (printed_if (output_kind value) path (test_of value) output s) _ (prints output)
    (either_well (bytes_eq action (codes "build-fail")) (Some (build_emitted Error path s)) _ (build_well Error path s w)
    (moved_well action path (test_of value) (elapsed_in value) (build_emitted Warn path s) (build_well Warn path s w)))) where
      output : Option (List ℕ)
      output = text_at (codes "Output") value

      built : (o : Option (List ℕ)) → IfWell (build_printed_if path o s)
      built None = tt
      built (Some text) = w

      prints : (o : Option (List ℕ)) → IfWell (printed_if (output_kind value) path (test_of value) o s)
      prints None = tt
      prints (Some text) = (printed_accounts (output_kind value) path (test_of value) text (build_emitted Warn path s) (build_well Warn path s w)).well

json_well : (action path : Option (List ℕ)) (value : Json) (s : GoState) → IsWell s.packages → IfWell (acted_for action path value s)
json_well (Some action) (Some path) value s w = acted_well action path value s w
json_well (Some action) None value s w = tt
json_well None path value s w = tt

handed_well : (s : GoState) (o : Option GoState) → IsWell s.packages → IfWell o → IsWell (interpreted_step s (option_map handed_out o)).source.packages
handed_well s None w h = w
handed_well s (Some t) w h = h

value_well : (line : List ℕ) (value : Option Json) (s : GoState) → IsWell s.packages → IsWell (interpreted_step s (go_takes s line value)).source.packages
value_well line None s w = text_well line s w
value_well line (Some value) s w =
    handed_well s (takes_json value (at_action_time value s)) w (json_well (text_at (codes "Action") value) (package_of value) value (at_action_time value s) w)

line_well : (line : List ℕ) (s : GoState) → IsWell s.packages → IsWell (interpret_line go_takes s line).source.packages
line_well line s w = by (is_utf8 line) where
  by : (b : Bool) → IsWell (if b then interpreted_step s (go_takes s line (document line)) else interpreted_step s None).source.packages
  by true = value_well line (document line) s w
  by false = w

lines_well : (lines : List (List ℕ)) (s : GoState) → IsWell s.packages → IsWell (interpret go_takes s lines).source.packages
lines_well [] s w = w
lines_well (line ∷ lines) s w = lines_well lines (interpret_line go_takes s line).source (line_well line s w)

handed_calls : (s : GoState) (o : Option GoState) → s.calls ≡ [] → (interpreted_step s (option_map handed_out o)).source.calls ≡ []
handed_calls s None h = h
handed_calls s (Some t) h = refl

value_calls : (line : List ℕ) (value : Option Json) (s : GoState) → s.calls ≡ [] → (interpreted_step s (go_takes s line value)).source.calls ≡ []
value_calls line None s h = refl
value_calls line (Some value) s h = handed_calls s (takes_json value (at_action_time value s)) h

line_calls : (line : List ℕ) (s : GoState) → s.calls ≡ [] → (interpret_line go_takes s line).source.calls ≡ []
line_calls line s h = by (is_utf8 line) where
  by : (b : Bool) → (if b then interpreted_step s (go_takes s line (document line)) else interpreted_step s None).source.calls ≡ []
  by true = value_calls line (document line) s h
  by false = h

lines_calls : (lines : List (List ℕ)) (s : GoState) → s.calls ≡ [] → (interpret go_takes s lines).source.calls ≡ []
lines_calls [] s h = h
lines_calls (line ∷ lines) s h = lines_calls lines (interpret_line go_takes s line).source (line_calls line s h)

-- all calls were returned
pub reached_calls : (next : ℕ) (moment : Moment) (lines : List (List ℕ)) → (interpret go_takes (nothing_run next moment) lines).source.calls ≡ []
reached_calls next moment lines = lines_calls lines (nothing_run next moment) refl

-- after any lines
pub reached_well : (next : ℕ) (moment : Moment) (lines : List (List ℕ)) → IsWell (interpret go_takes (nothing_run next moment) lines).source.packages
reached_well next moment lines = lines_well lines (nothing_run next moment) (record { all = tt; sorted = tt })
