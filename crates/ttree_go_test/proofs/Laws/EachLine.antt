-- Each line that tests print in a run is shown once.
use Rattle.std.proofs.Common.{◌≡◌, ℕ, Bool, true, false, List, [], ◌∷◌, ◌++◌, Option, Some, None, refl, sym, ap, ◌∙◌, append_assoc}
use Rattle.std.proofs.lemmas.Grind.{flat_map-append}
use Rattle.std.proofs.lemmas.List.{append-nil}
use Rattle.std.specs.Prelude.{◌||◌, bytes_eq, codes, if◌then◌else◌, option_and_then, option_map, cond, flat_map, map}
use Rattle.std.specs.Str.{is_utf8}
use Rattle.json.specs.Json.{Json, document}
use Rattle.tracing_tree_base.specs.declared.context.Moment.{Moment}
use Rattle.tracing_tree_base.specs.declared.style.Level.{Level}
use Rattle.tracing_tree_layer.specs.declared.call.Call.{Call}
use Rattle.ttree_go_test.specs.declared.go_test.builds.Build.{Build}
use Rattle.ttree_go_test.specs.declared.go_test.running.Kind.{Kind}
use Rattle.ttree_go_test.specs.declared.go_test.tally.Ending.{Ending}
use Rattle.ttree_go_test.specs.declared.go_test.tally.Ending.TheVariants.{Passed, Failed, Skipped}
use Rattle.tracing_tree_base.specs.declared.style.Level.TheVariants.{Warn, Error}
use Rattle.ttree_source.specs.Marks.{is_empty}
use Rattle.ttree_go_test.specs.Names.{named}
use Rattle.ttree_source.specs.Source.{Interpreted, calls_of, interpret, interpret_line, interpreted_step}
use Rattle.ttree_source.specs.Values.{text_at}
use Rattle.ttree_source.specs.Calls.{shown_text}
use Rattle.tracing_tree_base.specs.declared.field.Field.{Field}
use Rattle.ttree_go_test.specs.GoTest.{GoState, acted, acted_for, all_ended, build_last, build_over, build_printed_if, build_emitted, builds_emitted, elapsed_in, test_or_package_ended, go_ends, go_takes, handed_out, output_kind, more_text, moved, nothing_run, package_ended, package_of, package_started, packages_left, printed, printed_if, ran, takes_json, tally_call, tally_fields, test_of, at_action_time, build_printed, takes_text}
use Rattle.ttree_go_test.specs.Printed.{Print, Printed, ShowsEachLine, Shown, call_message, field_message, line_in, lines_in, messages, print_in, print_of, print_with, shown_message, shown_messages, text_added, text_by, test_text, texts_added, BuildPrint, Shown.Built, build_prints, build_prints_in, build_prints_with, built_by, built_of, plain_in, plains_in, plain_line, plain_of, print_by, strings_of}
use Rattle.ttree_go_test.proofs.Laws.Printing.{Sends, sent}
use Rattle.std.proofs.lemmas.Map.Text.{is_eq-slice_cmp}
use Rattle.ttree_go_test.proofs.Laws.Stored.{AllAfter, IsSorted, bytes_same, none_after}
use Rattle.ttree_go_test.proofs.Laws.AllAccounts.{All, build_printed_all, build_emitted_all, built_items, built_nothing, cut_then, no_lines, no_plains, of_tests, plain_nothing, same_holder, text_all, last_sends, texts_waiting, then_all, waiting}
use Rattle.ttree_go_test.proofs.Laws.WellKept.{IsWell}
use Rattle.ttree_go_test.proofs.Laws.Accounts.{Accounts, holder, lines_then, pending, same_accounts}
use Rattle.ttree_go_test.proofs.Laws.Actions.{printed_accounts, ran_accounts, started_accounts, test_accounts, text_by_kind}
use Rattle.ttree_go_test.proofs.Laws.Leaving.{package_accounts, packages_leave}

-- ---- an action

no_sends : (s : GoState) → Sends s s []
no_sends s = record { packages = refl; builds = refl; sent_too = sym (append-nil (sent s)) }

account_if : (b : Bool) (s t u : GoState) → Accounts [] s t → Accounts [] s u → Accounts [] s (if b then t else u)
account_if true s t u h k = h
account_if false s t u h k = k

over_accounts : (ending : Ending) (path : List ℕ) (elapsed : Option (List ℕ)) (s : GoState) → IsWell s.packages → Accounts [] s (package_ended ending path elapsed (build_over path s))
over_accounts ending path elapsed s w =
    let all = package_accounts ending path elapsed (build_over path s) w in
    record { items = all.items; cut = all.cut; sends = all.sends; builds = all.builds; no_other = all.no_other; well = all.well }

ended_accounts : (ending : Ending) (path test : List ℕ) (elapsed : Option (List ℕ)) (s : GoState) → IsWell s.packages → Accounts [] s (test_or_package_ended ending path test elapsed s)
ended_accounts ending path test elapsed s w =
    account_if (is_empty test) s (package_ended ending path elapsed (build_over path s)) _ (over_accounts ending path elapsed s w) (test_accounts ending path test elapsed s w)

moved_accounts : (action path test : List ℕ) (elapsed : Option (List ℕ)) (s : GoState) → IsWell s.packages → Accounts [] s (moved action path test elapsed s)
moved_accounts action path test elapsed s w =
    account_if (bytes_eq action (codes "run")) s (ran path test s) _ (ran_accounts path test s w)
    (account_if (bytes_eq action (codes "pass") || bytes_eq action (codes "bench")) s (test_or_package_ended Passed path test elapsed s) _ (ended_accounts Passed path test elapsed s w)
    (account_if (bytes_eq action (codes "fail")) s (test_or_package_ended Failed path test elapsed s) _ (ended_accounts Failed path test elapsed s w)
    (account_if (bytes_eq action (codes "skip")) s (test_or_package_ended Skipped path test elapsed s) _ (ended_accounts Skipped path test elapsed s w)
    (account_if (bytes_eq action (codes "start")) s (package_started path s) s (started_accounts path s w)
    (same_accounts s s w (no_sends s))))))

-- what a line does: it shows this, or it is unknown and adds nothing
abbrev AllIf : List Printed → List BuildPrint → GoState → Option GoState → Type 0
AllIf texts builds s None = ((q m : List ℕ) → test_text q m texts ≡ []) × (builds ≡ [])
AllIf texts builds s (Some t) = All texts builds [] s t

convert : (a b : List Printed) (c d : List BuildPrint) (s t : GoState) → ((q m : List ℕ) → test_text q m a ≡ test_text q m b) → c ≡ d → All a c [] s t → All b d [] s t
convert a b c d s t same alike h = record {
  items = h.items;
  cut = λ q m. h.cut q m ∙ ap (λ text. pending q m s ++ text) (same q m);
  sends = h.sends;
  built = λ q. h.built q ∙ ap (λ x. waiting q s ++ strings_of q x) alike;
  plain = h.plain;
  well = h.well;
  ordered = h.ordered;
}

-- no string is printed by another action
no_print : (action : List ℕ) (path string : Option (List ℕ)) (value : Json) → bytes_eq action (codes "output") ≡ false → print_with (Some action) path string value ≡ None
no_print action None string value is = none string where
  none : (string : Option (List ℕ)) → print_with (Some action) None string value ≡ None
  none None = refl
  none (Some text) = refl
no_print action (Some path) None value is = refl
no_print action (Some path) (Some text) value is =
    ap (λ b. if b then Some (record { path = path; test = test_of value; kind = output_kind value; string = text }) else None) is

-- and no string is of a build
no_build_print : (action path : List ℕ) (string : Option (List ℕ)) → bytes_eq action (codes "build-output") ≡ false → build_prints_with (Some action) (Some path) string ≡ []
no_build_print action path None is = refl
no_build_print action path (Some string) is = ap (λ b. if b then record { path = path; string = string } ∷ [] else []) is

not_both : (action : List ℕ) → bytes_eq action (codes "build-output") ≡ true → bytes_eq action (codes "output") ≡ false
not_both action is = ap (λ a. bytes_eq a (codes "output")) (bytes_same action (codes "build-output") is)

module _ (action path : List ℕ) (value : Json) (s : GoState) (w : IsWell s.packages) (ordered : IsSorted s.builds) where
  abbrev output : Option (List ℕ)
  output = text_at (codes "Output") value

  abbrev texts_with : Option (List ℕ) → List Printed
  texts_with string = text_added s (print_with (Some action) (Some path) string value)

  abbrev builds_with : Option (List ℕ) → List BuildPrint
  builds_with string = build_prints_with (Some action) (Some path) string

  -- another action than `output` adds no text
  no_text_with : (string : Option (List ℕ)) → bytes_eq action (codes "output") ≡ false → (q m : List ℕ) → test_text q m [] ≡ test_text q m (texts_with string)
  no_text_with string is q m = ap (λ print. test_text q m (text_added s print)) (sym (no_print action (Some path) string value is))

  a_build_prints : (string : Option (List ℕ)) → bytes_eq action (codes "build-output") ≡ true → AllIf (texts_with string) (builds_with string) s (build_printed_if path string s)
  a_build_prints None is = (λ q m. refl, refl)
  a_build_prints (Some string) is =
      convert [] (texts_with (Some string)) (record { path = path; string = string } ∷ []) (builds_with (Some string)) s (build_printed path string s)
      (no_text_with (Some string) (not_both action is)) (ap (λ b. if b then record { path = path; string = string } ∷ [] else []) (sym is)) (build_printed_all path string s w ordered)

  a_test_prints : (string : Option (List ℕ)) → bytes_eq action (codes "output") ≡ true → bytes_eq action (codes "build-output") ≡ false →
      AllIf (texts_with string) (builds_with string) s (printed_if (output_kind value) path (test_of value) string s)
  a_test_prints None is other = (λ q m. refl, refl)
  a_test_prints (Some string) is other =
      let kind : Kind = output_kind value in
      let test : List ℕ = test_of value in
      let built : GoState = build_emitted Warn path s in
      let t : GoState = printed kind path test string built in
      let first = build_emitted_all Warn path s w ordered in
      let texts : List Printed = text_by_kind kind path (holder path test built) string in
      let print : Print = record { path = path; test = test; kind = kind; string = string } in
      let name : holder path test built ≡ holder path test s = same_holder Warn path test s w in
      convert texts (texts_with (Some string)) [] (builds_with (Some string)) s t
      (λ q m. ap (λ n. test_text q m (text_by_kind kind path n string)) name ∙ ap (λ b. test_text q m (text_added s (if b then Some print else None))) (sym is))
      (sym (no_build_print action path (Some string) other))
      (then_all [] texts [] [] [] [] s built t first (of_tests texts built t first.ordered (printed_accounts kind path test string built first.well)))

  a_build_fails : (level : Level) (string : Option (List ℕ)) → bytes_eq action (codes "output") ≡ false → bytes_eq action (codes "build-output") ≡ false →
      All (texts_with string) (builds_with string) [] s (build_emitted level path s)
  a_build_fails level string no_output other =
      convert [] (texts_with string) [] (builds_with string) s (build_emitted level path s) (no_text_with string no_output) (sym (no_build_print action path string other)) (build_emitted_all level path s w ordered)

  a_test_moves : (string : Option (List ℕ)) → bytes_eq action (codes "output") ≡ false → bytes_eq action (codes "build-output") ≡ false →
      All (texts_with string) (builds_with string) [] s (moved action path (test_of value) (elapsed_in value) (build_emitted Warn path s))
  a_test_moves string no_output other =
      let built : GoState = build_emitted Warn path s in
      let t : GoState = moved action path (test_of value) (elapsed_in value) built in
      let first = build_emitted_all Warn path s w ordered in
      convert [] (texts_with string) [] (builds_with string) s t (no_text_with string no_output) (sym (no_build_print action path string other))
      (then_all [] [] [] [] [] [] s built t first (of_tests [] built t first.ordered (moved_accounts action path (test_of value) (elapsed_in value) built first.well)))

  acted_all : AllIf (texts_with output) (builds_with output) s (acted action path (test_of value) value s)
  acted_all = by (bytes_eq action (codes "build-output")) refl (bytes_eq action (codes "output")) refl (bytes_eq action (codes "build-fail")) where
    by : (a : Bool) → bytes_eq action (codes "build-output") ≡ a → (b : Bool) → bytes_eq action (codes "output") ≡ b → (c : Bool) → AllIf (texts_with output) (builds_with output) s
        (if a then build_printed_if path output s else if b then printed_if (output_kind value) path (test_of value) output s else if c then Some (build_emitted Error path s)
        else Some (moved action path (test_of value) (elapsed_in value) (build_emitted Warn path s)))
    by true is b other c = a_build_prints output is
    by false is true other c = a_test_prints output other is
    by false is false other true = a_build_fails Error output other is
    by false is false other false = a_test_moves output other is

json_all : (action path : Option (List ℕ)) (value : Json) (s : GoState) → IsWell s.packages → IsSorted s.builds →
    AllIf (text_added s (print_with action path (text_at (codes "Output") value) value)) (build_prints_with action path (text_at (codes "Output") value)) s (acted_for action path value s)
json_all (Some action) (Some path) value s w ordered = acted_all action path value s w ordered
json_all (Some action) None value s w ordered = (λ q m. refl, refl)
json_all None path value s w ordered = (λ q m. refl, refl)

-- ---- a line

-- Between two states these calls show all that isn't pending.
record Runs (texts : List Printed) (builds : List BuildPrint) (plains : List (List ℕ)) (s t : GoState) (calls : List Call) : Type 0 where
  items : List Shown
  cut : (q m : List ℕ) → test_text q m (lines_in items) ++ pending q m t ≡ pending q m s ++ test_text q m texts
  events : messages calls ≡ shown_messages items
  built : (q : List ℕ) → built_of q items ++ waiting q t ≡ waiting q s ++ strings_of q builds
  plain : plains_in items ≡ plains
  no_calls : t.calls ≡ []
  well : IsWell t.packages
  ordered : IsSorted t.builds

-- nothing of it changes
still_runs : (texts : List Printed) (builds : List BuildPrint) (s : GoState) → ((q m : List ℕ) → test_text q m texts ≡ []) → builds ≡ [] → s.calls ≡ [] → IsWell s.packages → IsSorted s.builds → Runs texts builds [] s s []
still_runs texts builds s none no_builds no_calls w ordered = record {
  items = [];
  cut = λ q m. sym (ap (λ text. pending q m s ++ text) (none q m) ∙ append-nil (pending q m s));
  events = refl;
  built = λ q. sym (ap (λ x. waiting q s ++ strings_of q x) no_builds ∙ append-nil (waiting q s));
  plain = refl;
  no_calls = no_calls;
  well = w;
  ordered = ordered;
}

-- its calls are handed out
handed_all : (texts : List Printed) (builds : List BuildPrint) (plains : List (List ℕ)) (s t : GoState) → s.calls ≡ [] → All texts builds plains s t → Runs texts builds plains s (handed_out t).source (handed_out t).calls
handed_all texts builds plains s t no_calls h = record {
  items = h.items;
  cut = h.cut;
  events = h.sends ∙ ap (λ calls. messages calls ++ shown_messages h.items) no_calls;
  built = h.built;
  plain = h.plain;
  no_calls = refl;
  well = h.well;
  ordered = h.ordered;
}

handed_runs : (texts : List Printed) (builds : List BuildPrint) (value : Json) (s : GoState) (o : Option GoState) → s.calls ≡ [] → IsWell s.packages → IsSorted s.builds → AllIf texts builds (at_action_time value s) o →
    Runs texts builds [] s (interpreted_step s (option_map handed_out o)).source (interpreted_step s (option_map handed_out o)).calls
handed_runs texts builds value s None no_calls w ordered h = still_runs texts builds s h.0 h.1 no_calls w ordered
handed_runs texts builds value s (Some t) no_calls w ordered h =
    let all = handed_all texts builds [] (at_action_time value s) t no_calls h in
    record { items = all.items; cut = all.cut; events = all.events; built = all.built; plain = all.plain; no_calls = all.no_calls; well = all.well; ordered = all.ordered }

value_runs : (line : List ℕ) (s : GoState) (o : Option Json) → s.calls ≡ [] → IsWell s.packages → IsSorted s.builds →
    Runs (text_added s (option_and_then print_in o)) (build_prints_in o) (plain_of line o) s (interpreted_step s (go_takes s line o)).source (interpreted_step s (go_takes s line o)).calls
value_runs line s None no_calls w ordered = handed_all [] [] (plain_of line None) s (takes_text line s) no_calls (text_all line s w ordered)
value_runs line s (Some value) no_calls w ordered =
    handed_runs (text_added s (print_in value)) (build_prints_in (Some value)) value s (takes_json value (at_action_time value s)) no_calls w ordered
    (json_all (text_at (codes "Action") value) (package_of value) value
    (at_action_time value s) w ordered)

line_runs : (line : List ℕ) (s : GoState) → s.calls ≡ [] → IsWell s.packages → IsSorted s.builds →
    Runs (text_added s (print_of line)) (build_prints line) (plain_line line) s (interpret_line go_takes s line).source (interpret_line go_takes s line).calls
line_runs line s no_calls w ordered = by (is_utf8 line) where
  interpreted : Bool → Interpreted GoState
  interpreted b = if b then interpreted_step s (go_takes s line (document line)) else interpreted_step s None

  by : (b : Bool) → Runs (text_added s (if b then option_and_then print_in (document line) else None)) (if b then build_prints_in (document line) else [])
      (if b then plain_of line (document line) else []) s (interpreted b).source (interpreted b).calls
  by true = value_runs line s (document line) no_calls w ordered
  by false = still_runs [] [] s (λ q m. refl) refl no_calls w ordered

-- ---- lines

messages_then : (one two : List Call) (a b : List Shown) → messages one ≡ shown_messages a → messages two ≡ shown_messages b → messages (one ++ two) ≡ shown_messages (a ++ b)
messages_then one two a b h k =
    flat_map-append call_message one two ∙ ap (λ more. more ++ messages two) h ∙ ap (λ more. shown_messages a ++ more) k ∙ sym (flat_map-append shown_message a b)

then_runs : (a b : List Printed) (c d : List BuildPrint) (e f : List (List ℕ)) (s t u : GoState) (one two : List Call) → Runs a c e s t one → Runs b d f t u two → Runs (a ++ b) (c ++ d) (e ++ f) s u (one ++ two)
then_runs a b c d e f s t u one two h k = record {
  items = h.items ++ k.items;
  cut = λ q m. ap (λ text. text ++ pending q m u) (lines_then q m h.items k.items)
      ∙ cut_then (test_text q m (lines_in h.items)) (test_text q m (lines_in k.items)) (pending q m s) (pending q m t) (pending q m u) (test_text q m a) (test_text q m b) (h.cut q m) (k.cut q m)
      ∙ ap (λ text. pending q m s ++ text) (sym (flat_map-append (text_by q m) a b));
  events = messages_then one two h.items k.items h.events k.events;
  built = λ q. ap (λ front. front ++ waiting q u) (flat_map-append (built_by q) h.items k.items)
      ∙ cut_then (built_of q h.items) (built_of q k.items) (waiting q s) (waiting q t) (waiting q u) (strings_of q c) (strings_of q d) (h.built q) (k.built q)
      ∙ ap (λ rest. waiting q s ++ rest) (sym (flat_map-append (print_by q) c d));
  plain = flat_map-append plain_in h.items k.items ∙ ap (λ front. front ++ plains_in k.items) h.plain ∙ ap (λ rest. e ++ rest) k.plain;
  no_calls = k.no_calls;
  well = k.well;
  ordered = k.ordered;
}

lines_run : (lines : List (List ℕ)) (s : GoState) → s.calls ≡ [] → IsWell s.packages → IsSorted s.builds →
    Runs (texts_added s lines) (flat_map build_prints lines) (flat_map plain_line lines) s (interpret go_takes s lines).source (interpret go_takes s lines).calls
lines_run [] s no_calls w ordered = still_runs [] [] s (λ q m. refl) refl no_calls w ordered
lines_run (line ∷ lines) s no_calls w ordered =
    let interpreted : Interpreted GoState = interpret_line go_takes s line in
    let rest : Interpreted GoState = interpret go_takes interpreted.source lines in
    let first = line_runs line s no_calls w ordered in
    then_runs (text_added s (print_of line)) (texts_added interpreted.source lines) (build_prints line) (flat_map build_prints lines) (plain_line line) (flat_map plain_line lines)
    s interpreted.source rest.source interpreted.calls rest.calls first (lines_run lines interpreted.source first.no_calls first.well first.ordered)

-- ---- the end

no_message : (s : GoState) → call_message (tally_call s) ≡ []
no_message s = by (is_empty s.failing.packages) (is_empty s.failing.tests) where
  fields : Bool → Bool → List Field
  fields a b =
      (if a then [] else record { name = codes "failed_packages"; value = shown_text (s.failing.packages ++ more_text s.tally.packages_failed) } ∷ [])
      ++ (if b then [] else record { name = codes "failed_tests"; value = shown_text (s.failing.tests ++ more_text s.tally.failed) } ∷ [])

  by : (a b : Bool) → field_message (tally_fields s.tally ++ fields a b) ≡ []
  by true true = refl
  by true false = refl
  by false true = refl
  by false false = refl

-- what builds printed is shown
record BuildsShow (builds : List (List ℕ × Build)) (s t : GoState) : Type 0 where
  items : List Shown
  built : (q : List ℕ) → built_of q items ≡ texts_waiting (named q builds)
  no_line : lines_in items ≡ []
  no_plain : plains_in items ≡ []
  sends : sent t ≡ sent s ++ shown_messages items

one_and : (q path : List ℕ) (build : Build) (others : List (List ℕ × Build)) → AllAfter path others →
    (if bytes_eq q path then build.texts else []) ++ texts_waiting (named q others) ≡ texts_waiting (named q ((path, build) ∷ others))
one_and q path build others after =
    by (bytes_eq q path) refl ∙ ap (λ b. texts_waiting (cond b (Some build) (named q others))) (sym (is_eq-slice_cmp q path)) where
      by : (b : Bool) → bytes_eq q path ≡ b → (if b then build.texts else []) ++ texts_waiting (named q others) ≡ texts_waiting (cond (bytes_eq q path) (Some build) (named q others))
      by true is =
          ap (λ p. build.texts ++ texts_waiting (named p others)) (bytes_same q path is)
          ∙ ap (λ o. build.texts ++ texts_waiting o) (none_after path others after)
          ∙ append-nil build.texts
          ∙ ap (λ b. texts_waiting (cond b (Some build) (named q others))) (sym is)
      by false is = ap (λ b. texts_waiting (cond b (Some build) (named q others))) (sym is)

builds_show : (builds : List (List ℕ × Build)) (s : GoState) → IsSorted builds → BuildsShow builds s (builds_emitted builds s)
builds_show [] s h = record { items = []; built = λ q. refl; no_line = refl; no_plain = refl; sends = sym (append-nil (sent s)) }
builds_show ((path, build) ∷ others) s h =
    let at : GoState = build_last build s in
    let here : List Shown = map (Built path) build.texts in
    let rest = builds_show others at h.1 in
    record {
      items = here ++ rest.items;
      built = λ q. flat_map-append (built_by q) here rest.items
          ∙ ap (λ front. front ++ built_of q rest.items) (built_items q path build.texts)
          ∙ ap (λ more. (if bytes_eq q path then build.texts else []) ++ more) (rest.built q)
          ∙ one_and q path build others h.0;
      no_line = flat_map-append line_in here rest.items ∙ ap (λ x. x ++ lines_in rest.items) (no_lines path build.texts) ∙ rest.no_line;
      no_plain = flat_map-append plain_in here rest.items ∙ ap (λ x. x ++ plains_in rest.items) (no_plains path build.texts) ∙ rest.no_plain;
      sends = rest.sends ∙ ap (λ more. more ++ shown_messages rest.items) (last_sends path build s)
          ∙ append_assoc (sent s) (shown_messages here) (shown_messages rest.items)
          ∙ ap (λ more. sent s ++ more) (sym (flat_map-append shown_message here rest.items));
    }

-- what the end shows is all that is pending
record EndShows (s : GoState) (calls : List Call) : Type 0 where
  items : List Shown
  text : (q m : List ℕ) → test_text q m (lines_in items) ≡ pending q m s
  built : (q : List ℕ) → built_of q items ≡ waiting q s
  plain : plains_in items ≡ []
  events : messages calls ≡ shown_messages items

end_shows : (s : GoState) → s.calls ≡ [] → IsWell s.packages → IsSorted s.builds → EndShows s (go_ends s)
end_shows s no_calls w ordered =
    let none : GoState = record s { builds = []; packages = [] } in
    let left : GoState = packages_left s.packages none in
    let leaves = packages_leave s.packages none w.all w.sorted in
    let builds = builds_show s.builds left ordered in
    let ends : GoState = all_ended s in
    record {
      items = leaves.items ++ builds.items;
      text = λ q m. lines_then q m leaves.items builds.items ∙ ap (λ x. test_text q m (lines_in leaves.items) ++ test_text q m x) builds.no_line
          ∙ append-nil (test_text q m (lines_in leaves.items)) ∙ leaves.text q m;
      built = λ q. flat_map-append (built_by q) leaves.items builds.items ∙ ap (λ x. x ++ built_of q builds.items) (built_nothing q leaves.items leaves.no_other) ∙ builds.built q;
      plain = flat_map-append plain_in leaves.items builds.items ∙ ap (λ x. x ++ plains_in builds.items) (plain_nothing leaves.items leaves.no_other) ∙ builds.no_plain;
      events = flat_map-append call_message ends.calls (tally_call ends ∷ [])
          ∙ ap (λ more. sent ends ++ (more ++ [])) (no_message ends)
          ∙ append-nil (sent ends) ∙ builds.sends
          ∙ ap (λ more. more ++ shown_messages builds.items) (leaves.sends.sent_too ∙ ap (λ calls. messages calls ++ shown_messages leaves.items) no_calls)
          ∙ sym (flat_map-append shown_message leaves.items builds.items);
    }

-- each line that is printed in a run is shown once
pub each_line_shown : (next : ℕ) (moment : Moment) (lines : List (List ℕ)) →
    ShowsEachLine (texts_added (nothing_run next moment) lines) (flat_map build_prints lines) (flat_map plain_line lines) (calls_of go_takes go_ends (nothing_run next moment) lines)
each_line_shown next moment lines =
    let begins : GoState = nothing_run next moment in
    let interpreted : Interpreted GoState = interpret go_takes begins lines in
    let run = lines_run lines begins refl (record { all = tt; sorted = tt }) tt in
    let end = end_shows interpreted.source run.no_calls run.well run.ordered in
    record {
      items = run.items ++ end.items;
      events = messages_then interpreted.calls (go_ends interpreted.source) run.items end.items run.events end.events;
      printed_once = λ q m. lines_then q m run.items end.items ∙ ap (λ text. test_text q m (lines_in run.items) ++ text) (end.text q m) ∙ run.cut q m;
      built_once = λ q. flat_map-append (built_by q) run.items end.items ∙ ap (λ x. built_of q run.items ++ x) (end.built q) ∙ run.built q;
      plain_once = flat_map-append plain_in run.items end.items ∙ ap (λ x. plains_in run.items ++ x) end.plain ∙ append-nil (plains_in run.items) ∙ run.plain;
    }
