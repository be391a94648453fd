-- When a package ends, each span closes after those below it.
use Rattle.std.proofs.Common.{◌≡◌, ℕ, Bool, true, false, List, [], ◌∷◌, ◌++◌, Option, Some, None, refl, sym, ap, subst, inl, inr, ◌∙◌, append_assoc, arith}
use Rattle.std.proofs.lemmas.Bool.Decides.{nat_tests}
use Rattle.std.proofs.lemmas.Cmp.{nat_list_cmp_total}
use Rattle.std.proofs.lemmas.List.{append-nil, map-append}
use Rattle.std.proofs.lemmas.Map.Text.{is_eq-slice_cmp}
use Rattle.std.specs.Prelude.{⊤, bytes_eq, codes, cond, if◌then◌else◌, is_some, map, option_and_then, unwrap_or, ◌||◌}
use Rattle.std.specs.Ordering.{nat_cmp, ordering_reverse, ordering_then}
use Rattle.std.specs.Cmp.{nat_cmp_is}
use Rattle.std.specs.declared.cmp.Ordering.TheVariants.{Less, Equal, Greater}
use Rattle.tracing_tree_base.specs.declared.context.Id.{Id}
use Rattle.tracing_tree_base.specs.declared.field.Field.{Field}
use Rattle.tracing_tree_base.specs.declared.style.Level.{Level}
use Rattle.tracing_tree_layer.specs.declared.call.Call.{Call}
use Rattle.tracing_tree_layer.specs.declared.call.Call.TheVariants.{New, Clone, Record, Event, Close}
use Rattle.ttree_go_test.specs.declared.go_test.running.Running.{Running}
use Rattle.ttree_go_test.specs.declared.go_test.tally.Ending.{Ending}
use Rattle.ttree_go_test.specs.declared.go_test.tally.Ending.TheVariants.{Passed, Failed, Skipped, Unfinished}
use Rattle.tracing_tree_lines.specs.Lines.Spelled.{is_skipped}
use Rattle.ttree_source.specs.Marks.{is_empty}
use Rattle.ttree_go_test.specs.Names.{named, without}
use Rattle.ttree_source.specs.Calls.{close_call, event_call, message_field}
use Rattle.ttree_go_test.specs.Closing.{ClosesAll, IsAmong, InnerFirst, IsBelow, NamedSpan, NoneBelow, spans_closed, is_end}
use Rattle.ttree_go_test.specs.Nesting.{ArePlacedCalls}
use Rattle.ttree_go_test.specs.GoTest.{GoState, Held, Tests, all_left_over, new_running, end_counted, test_end_fields, text_event_emitted, held_finished, holds, left_as, left_one, left_over, level_of_ending, noted_left, package_counted, package_ended, part_emitted, test_placed, running_as, span_ended, span_of_test, tests_of, emitted_with_last, without_package, ending_word, go_takes, nothing_run, moved, ran, build_over, package_started}
use Rattle.tracing_tree_base.specs.declared.context.Moment.{Moment}
use Rattle.ttree_source.specs.Source.{interpret}
use Rattle.ttree_go_test.proofs.Laws.Reachable.{reached_calls, reached_well}
use Rattle.ttree_go_test.proofs.Laws.Placing.{part_places}
use Rattle.ttree_go_test.proofs.Laws.Leaving.{package_without}
use Rattle.ttree_go_test.proofs.Laws.Stored.{AllAfter, IsSorted, bytes_same, cmp, found_without, none_without}
use Rattle.ttree_go_test.proofs.Laws.WellKept.{ArePlaced, IsWell, well_found, well_without}

-- ---- calls that close nothing

closed_then : (a b : List Call) → spans_closed (a ++ b) ≡ spans_closed a ++ spans_closed b
closed_then [] b = refl
closed_then (New attributes context ∷ a) b = closed_then a b
closed_then (Clone id ∷ a) b = closed_then a b
closed_then (Record id fields ∷ a) b = closed_then a b
closed_then (Event event context ∷ a) b = closed_then a b
closed_then (Close id context ∷ a) b = ap (λ ids. id ∷ ids) (closed_then a b)

none_closed : (parent own : Option Id) (calls : List Call) → ArePlacedCalls parent own calls → spans_closed calls ≡ []
none_closed parent own [] h = refl
none_closed parent own (New attributes context ∷ calls) h = none_closed parent own calls h.1
none_closed parent own (Clone id ∷ calls) h = absurd h.0
none_closed parent own (Record id fields ∷ calls) h = absurd h.0
none_closed parent own (Event event context ∷ calls) h = none_closed parent own calls h.1
none_closed parent own (Close id context ∷ calls) h = absurd h.0

-- these calls are added, and close these spans
record Adds (s t : GoState) (ids : List Id) : Type 0 where
  more : List Call
  calls : t.calls ≡ s.calls ++ more
  closes : spans_closed more ≡ ids

no_adds : (s : GoState) → Adds s s []
no_adds s = record { more = []; calls = sym (append-nil s.calls); closes = refl }

then_adds : (s t u : GoState) (a b : List Id) → Adds s t a → Adds t u b → Adds s u (a ++ b)
then_adds s t u a b h k = record {
  more = h.more ++ k.more;
  calls = k.calls ∙ ap (λ calls. calls ++ k.more) h.calls ∙ append_assoc s.calls h.more k.more;
  closes = closed_then h.more k.more ∙ ap (λ ids. ids ++ spans_closed k.more) h.closes ∙ ap (λ ids. a ++ ids) k.closes;
}

event_adds : (level : Level) (text : List ℕ) (rest : List Field) (parent : Option Id) (s : GoState) → Adds s (text_event_emitted level text rest parent s) []
event_adds level text rest parent s = by (is_skipped text) where
  by : (b : Bool) → Adds s (if b then s else emitted_with_last parent (event_call s.moment level (message_field text ∷ rest) parent) s) []
  by true = no_adds s
  by false = record { more = event_call s.moment level (message_field text ∷ rest) parent ∷ []; calls = refl; closes = refl }

-- ---- an end closes at most the span of its test

one_id : Option Id → List Id
one_id None = []
one_id (Some id) = id ∷ []

span_adds : (ending : Ending) (rest : List Field) (span : Option Id) (h : Held) → Adds h.state (span_ended ending rest span h) (one_id span)
unfolding one_id
span_adds ending rest (Some id) h =
    let event : GoState = text_event_emitted (level_of_ending ending) (ending_word ending) rest
    (Some id) h.state in
    let close : Call = close_call h.state.moment id h.one.parent in
    then_adds h.state event (emitted_with_last h.one.parent close event) [] (id ∷ []) (event_adds (level_of_ending ending) (ending_word ending) rest (Some id) h.state)
    (record { more = close ∷ []; calls = refl; closes = refl })
span_adds ending rest None h = event_adds (level_of_ending ending) (ending_word ending ++ codes " " ++ h.one.name) rest h.one.parent h.state

record ClosesOne (h : Held) (t : GoState) : Type 0 where
  span : Option Id
  keeps : is_some h.one.span ≡ true → span ≡ h.one.span
  adds : Adds h.state t (one_id span)

finished_closes : (ending : Ending) (elapsed : Option (List ℕ)) (h : Held) → ClosesOne h (held_finished ending elapsed h)
finished_closes ending elapsed h =
    let last : Held = part_emitted h in
    let places = part_places h in
    let rest : List Field = test_end_fields elapsed last.one in
    record {
      span = last.one.span;
      keeps = places.keeps;
      adds = then_adds h.state last.state (span_ended ending rest last.one.span last) [] (one_id last.one.span)
          (record { more = places.more; calls = places.calls; closes = none_closed h.one.parent last.one.span places.more places.placed })
          (span_adds ending rest last.one.span last);
    }

counted_calls : (ending : Ending) (path test : List ℕ) (s : GoState) → (end_counted ending path test s).calls ≡ s.calls
counted_calls Passed path test s = refl
counted_calls Failed path test s = refl
counted_calls Skipped path test s = refl
counted_calls Unfinished path test s = refl

package_counted_calls : (ending : Ending) (path : List ℕ) (s : GoState) → (package_counted ending path s).calls ≡ s.calls
package_counted_calls Passed path s = refl
package_counted_calls Failed path s = refl
package_counted_calls Skipped path s = refl
package_counted_calls Unfinished path s = refl

noted_calls : (ending : Ending) (one : Running) (s : GoState) → (noted_left ending one s).calls ≡ s.calls
noted_calls ending one s = by (is_empty one.test) where
  by : (b : Bool) → (if b then package_counted ending one.path s else end_counted ending one.path one.test s).calls ≡ s.calls
  by true = package_counted_calls ending one.path s
  by false = counted_calls ending one.path one.test s

package_counted_tests : (ending : Ending) (path : List ℕ) (s : GoState) → (package_counted ending path s).packages ≡ s.packages
package_counted_tests Passed path s = refl
package_counted_tests Failed path s = refl
package_counted_tests Skipped path s = refl
package_counted_tests Unfinished path s = refl

-- a test that has started is closed
left_closes : (ending : Ending) (one : Running) (s : GoState) → one.has_begun ≡ true → ClosesOne (holds one s) (left_one ending one s)
left_closes ending one s begun = by one.has_begun begun where
  by : (b : Bool) → b ≡ true → ClosesOne (holds one s) (if b then held_finished ending None (holds one (noted_left ending one s)) else s)
  by true h =
      let at : GoState = noted_left ending one s in
      let closes = finished_closes ending None (holds one at) in
      record {
        span = closes.span;
        keeps = closes.keeps;
        adds = record {
          more = closes.adds.more;
          calls = closes.adds.calls ∙ ap (λ calls. calls ++ closes.adds.more) (noted_calls ending one s);
          closes = closes.adds.closes;
        };
      }
  by false h = cc

-- ---- the order of the names

-- a name comes before all these
abbrev AllBehind : List ℕ → List NamedSpan → Type 0
AllBehind name [] = ⊤
AllBehind name (e ∷ es) = (cmp name e.0 ≡ Less) × AllBehind name es

same_byte : (n : ℕ) → nat_cmp n n ≡ Equal
same_byte n = sym (nat_cmp_is n n Equal refl)

less_front : (outer rest : List ℕ) → cmp outer (outer ++ (codes "/" ++ rest)) ≡ Less
less_front [] rest = refl
less_front (b ∷ outer) rest = ap (λ at. ordering_then at (cmp outer (outer ++ (codes "/" ++ rest)))) (same_byte b) ∙ less_front outer rest

-- what comes before a name isn't below it
not_below : (name other : List ℕ) → cmp name other ≡ Less → IsBelow name other → ⊥
not_below [] [] less (inl empty) = absurd_less less where
  absurd_less : Equal ≡ Less → ⊥
  absurd_less h = cc
not_below (b ∷ name) [] less (inl empty) = absurd_less less where
  absurd_less : Greater ≡ Less → ⊥
  absurd_less h = cc
not_below name (b ∷ other) less (inl empty) = absurd_full (sym (full b other) ∙ empty) where
  full : (x : ℕ) (xs : List ℕ) → is_empty (x ∷ xs) ≡ false
  full x xs = grind (arith, nat_tests)

  absurd_full : false ≡ true → ⊥
  absurd_full h = cc
not_below name other less (inr inside) =
    let whole : name ≡ other ++ (codes "/" ++ inside.rest) = inside.whole ∙ append_assoc other (codes "/") inside.rest in
    let more : cmp other name ≡ Less = ap (cmp other) whole ∙ less_front other inside.rest in
    let greater : cmp name other ≡ Greater = nat_list_cmp_total.antisymm name other ∙ ap ordering_reverse more in
    absurd_both (sym less ∙ greater) where
      absurd_both : Less ≡ Greater → ⊥
      absurd_both h = cc

none_last : (name : List ℕ) (es : List NamedSpan) (last : NamedSpan) → NoneBelow name es → (IsBelow last.0 name → ⊥) → NoneBelow name (es ++ last ∷ [])
none_last name [] last h differs = (differs, tt)
none_last name (e ∷ es) last h differs = (h.0, none_last name es last h.1 differs)

inner_last : (es : List NamedSpan) (last : NamedSpan) → InnerFirst es → AllBehind last.0 es → InnerFirst (es ++ last ∷ [])
inner_last [] last h behind = (tt, tt)
inner_last (e ∷ es) last h behind = (none_last e.0 es last h.0 (not_below last.0 e.0 behind.0), inner_last es last h.1 behind.1)

behind_last : (name : List ℕ) (es : List NamedSpan) (last : NamedSpan) → AllBehind name es → cmp name last.0 ≡ Less → AllBehind name (es ++ last ∷ [])
behind_last name [] last h less = (less, tt)
behind_last name (e ∷ es) last h less = (h.0, behind_last name es last h.1 less)

holds_front : (span : NamedSpan) (es more : List NamedSpan) → IsAmong span es → IsAmong span (es ++ more)
holds_front span [] more h = absurd h
holds_front span (e ∷ es) more (inl is) = inl is
holds_front span (e ∷ es) more (inr h) = inr (holds_front span es more h)

holds_last : (span : NamedSpan) (es : List NamedSpan) → IsAmong span (es ++ span ∷ [])
holds_last span [] = inl refl
holds_last span (e ∷ es) = inr (holds_last span es)

-- ---- what still runs

-- the span of a test, if it has one
named_one : List ℕ → Option Id → List NamedSpan
named_one name None = []
named_one name (Some id) = (name, id) ∷ []

abbrev ids : List NamedSpan → List Id
ids spans = map (λ e. e.1) spans

ids_then : (es : List NamedSpan) (name : List ℕ) (span : Option Id) → ids es ++ one_id span ≡ ids (es ++ named_one name span)
unfolding one_id named_one
ids_then es name None = append-nil (ids es) ∙ ap ids (sym (append-nil es))
ids_then es name (Some id) = sym (map-append (λ (e : NamedSpan). e.1) es ((name, id) ∷ []))

inner_one : (es : List NamedSpan) (name : List ℕ) (span : Option Id) → InnerFirst es → AllBehind name es → InnerFirst (es ++ named_one name span)
unfolding named_one
inner_one es name None h behind = let P : List NamedSpan → Type 0 = λ x. InnerFirst x in subst P (sym (append-nil es)) h
inner_one es name (Some id) h behind = inner_last es (name, id) h behind

behind_one : (a name : List ℕ) (es : List NamedSpan) (span : Option Id) → AllBehind a es → cmp a name ≡ Less → AllBehind a (es ++ named_one name span)
unfolding named_one
behind_one a name es None h less = let P : List NamedSpan → Type 0 = λ x. AllBehind a x in subst P (sym (append-nil es)) h
behind_one a name es (Some id) h less = behind_last a es (name, id) h less

holds_one : (name : List ℕ) (id : Id) (es : List NamedSpan) (span : Option Id) → span ≡ Some id → IsAmong (name, id) (es ++ named_one name span)
unfolding named_one
holds_one name id es span is =
    let P : Option Id → Type 0 = λ x. IsAmong (name, id) (es ++ named_one name x) in
    subst P (sym is) (some name id es) where
      some : (name : List ℕ) (id : Id) (es : List NamedSpan) → IsAmong (name, id) (es ++ named_one name (Some id))
      some name id es = holds_last (name, id) es

-- the spans of these tests close
record ClosesOver (tests : Tests) (s t : GoState) : Type 0 where
  spans : List NamedSpan
  adds : Adds s t (ids spans)
  inner : InnerFirst spans
  behind : (a : List ℕ) → AllAfter a tests → AllBehind a spans
  all : (name : List ℕ) (id : Id) → span_of_test tests name ≡ Some id → IsAmong (name, id) spans

with_ids : (s t : GoState) (a b : List Id) → a ≡ b → Adds s t a → Adds s t b
with_ids s t a b e h = record { more = h.more; calls = h.calls; closes = h.closes ∙ e }

abbrev span_of_it : Option Running → Option Id
span_of_it o = option_and_then (λ (one : Running). one.span) o

head_full : (name : List ℕ) (one : Running) (later : Tests) → named [] ((name, one) ∷ later) ≡ None → name ≡ [] → ⊥
head_full [] one later none is = absurd_some none where
  absurd_some : Some one ≡ None → ⊥
  absurd_some h = cc
head_full (b ∷ name) one later none is = absurd_cons is where
  absurd_cons : (b ∷ name) ≡ [] → ⊥
  absurd_cons h = cc

tail_none : (name : List ℕ) (one : Running) (later : Tests) → named [] ((name, one) ∷ later) ≡ None → named [] later ≡ None
tail_none [] one later none = absurd (head_full [] one later none refl)
tail_none (b ∷ name) one later none = none

has_started : (one : Running) → (one.has_begun ≡ false → ⊥) → one.has_begun ≡ true
has_started one h = by one.has_begun refl where
  by : (b : Bool) → one.has_begun ≡ b → b ≡ true
  by true is = refl
  by false is = absurd (h is)

some_kept : (a b : Option Id) (id : Id) → (is_some b ≡ true → a ≡ b) → b ≡ Some id → a ≡ Some id
some_kept a b id keeps is = keeps (ap is_some is) ∙ is

over_closes : (path : List ℕ) (ending : Ending) (root : Option Id) (earlier tests : Tests) (s : GoState) → ArePlaced path tests → IsSorted tests → named [] tests ≡ None →
    ClosesOver tests s (left_over ending root earlier tests s)
over_closes path ending root earlier [] s p h none = record {
  spans = [];
  adds = no_adds s;
  inner = tt;
  behind = λ a after. tt;
  all = λ name id is. absurd_none is;
} where
  absurd_none : {id : Id} → None ≡ Some id → ⊥
  absurd_none e = cc
over_closes path ending root earlier (test ∷ later) s p h none =
    let rest : GoState = left_over ending root (earlier ++ test ∷ []) later s in
    let others = over_closes path ending root (earlier ++ test ∷ []) later s p.1 h.1 (tail_none test.0 test.1 later none) in
    let one : Running = test_placed root earlier test.1 in
    let at : GoState = left_one ending one rest in
    let closes = left_closes ending one rest (has_started one (λ f. head_full test.0 test.1 later none (p.0.3 f))) in
    record {
      spans = others.spans ++ named_one test.0 closes.span;
      adds = with_ids s at (ids others.spans ++ one_id closes.span) (ids (others.spans ++ named_one test.0 closes.span)) (ids_then others.spans test.0 closes.span)
          (then_adds s rest at (ids others.spans) (one_id closes.span) others.adds closes.adds);
      inner = inner_one others.spans test.0 closes.span others.inner (others.behind test.0 h.0);
      behind = λ a after. behind_one a test.0 others.spans closes.span (others.behind a after.1) after.0;
      all = λ name id is. at_name others.spans closes.span others.all closes.keeps name id is (bytes_eq name test.0) refl;
    } where
      at_name : (spans : List NamedSpan) (span : Option Id) → ((n : List ℕ) (i : Id) → span_of_test later n ≡ Some i → IsAmong (n, i) spans) → (is_some test.1.span ≡ true → span ≡ test.1.span) →
          (name : List ℕ) (id : Id) → span_of_test (test ∷ later) name ≡ Some id → (b : Bool) → bytes_eq name test.0 ≡ b → IsAmong (name, id) (spans ++ named_one test.0 span)
      at_name spans span all keeps name id is true e =
          let same : test.0 ≡ name = sym (bytes_same name test.0 e) in
          let own : test.1.span ≡ Some id = sym (ap (λ b. span_of_it (cond b (Some test.1) (named name later))) (is_eq-slice_cmp name test.0 ∙ e)) ∙ is in
          let P : List ℕ → Type 0 = λ n. IsAmong (name, id) (spans ++ named_one n span) in
          subst P (sym same) (holds_one name id spans span (some_kept span test.1.span id keeps own))
      at_name spans span all keeps name id is false e =
          let other : span_of_test later name ≡ Some id = sym (ap (λ b. span_of_it (cond b (Some test.1) (named name later))) (is_eq-slice_cmp name test.0 ∙ e)) ∙ is in
          holds_front (name, id) spans (named_one test.0 span) (all name id other)

-- ---- a package ends

after_nil : (tests : Tests) → named [] tests ≡ None → AllAfter [] tests
after_nil [] none = tt
after_nil (([], one) ∷ later) none = absurd (head_full [] one later none refl)
after_nil ((b ∷ name, one) ∷ later) none = (refl, after_nil later none)

-- these calls are added, and close all spans of these tests
pub record ClosesPackage (tests : Tests) (s t : GoState) : Type 0 where
  pub more : List Call
  pub calls : t.calls ≡ s.calls ++ more
  pub all : ClosesAll tests more

same_front : (a b more all : List Call) → all ≡ a ++ more → a ≡ b → all ≡ b ++ more
same_front a b more all h k = h ∙ ap (λ calls. calls ++ more) k

own_span : (path : List ℕ) (o : Option Running) (id : Id) → span_of_it o ≡ Some id → (unwrap_or o (new_running path [])).span ≡ Some id
own_span path None id h = cc
own_span path (Some one) id h = h

pub package_closes : (ending : Ending) (path : List ℕ) (elapsed : Option (List ℕ)) (s : GoState) → IsWell s.packages →
    ClosesPackage (tests_of path s) s (package_ended ending path elapsed s)
unfolding package_ended
package_closes ending path elapsed s w =
    let at : GoState = package_counted ending path s in
    let tests : Tests = tests_of path at in
    let same : at.packages ≡ s.packages = package_counted_tests ending path s in
    let own : Running = running_as path [] tests in
    let well = well_found path at.packages (rw same w) in
    let inner = well_without path [] tests well in
    let none = none_without [] tests well.sorted in
    let left : GoState = all_left_over (left_as ending) path at in
    let t : GoState = package_ended ending path elapsed s in
    let others = over_closes path (left_as ending) own.span [] (without [] tests) (without_package path at) inner.placed inner.sorted none in
    let closes = finished_closes ending elapsed (holds own left) in
    let adds = with_ids (without_package path at) t (ids others.spans ++ one_id closes.span) (ids (others.spans ++ named_one [] closes.span)) (ids_then others.spans [] closes.span)
    (then_adds (without_package path at) left t (ids others.spans) (one_id closes.span) others.adds closes.adds) in
    let P : Tests → Type 0 = λ x. ClosesAll x adds.more in
    record {
      more = adds.more;
      calls = same_front at.calls s.calls adds.more t.calls adds.calls (package_counted_calls ending path s);
      all = subst P (ap (λ packages. unwrap_or (named path packages) []) same) (record {
        spans = others.spans ++ named_one [] closes.span;
        closes = adds.closes;
        inner_first = inner_one others.spans [] closes.span others.inner (others.behind [] (after_nil (without [] tests) none));
        all = λ name id is. by tests (running_as path [] tests).span refl others.spans closes.span others.all closes.keeps name id is (bytes_eq name []) refl;
      });
    } where
      by : (tests : Tests) (own : Option Id) → own ≡ (running_as path [] tests).span → (spans : List NamedSpan) (span : Option Id) → ((n : List ℕ) (i : Id) → span_of_test (without [] tests) n ≡ Some i → IsAmong (n, i) spans) →
          (is_some own ≡ true → span ≡ own) → (name : List ℕ) (id : Id) → span_of_test tests name ≡ Some id → (b : Bool) → bytes_eq name [] ≡ b → IsAmong (name, id) (spans ++ named_one [] span)
      by tests own is_own spans span all keeps name id is true e =
          let none : name ≡ [] = bytes_same name [] e in
          let P : List ℕ → Type 0 = λ n. IsAmong (n, id) (spans ++ named_one [] span) in
          subst P (sym none) (holds_one [] id spans span (some_kept span own id keeps (is_own ∙ own_span path (named [] tests) id (ap (span_of_test tests) (sym none) ∙ is))))
      by tests own is_own spans span all keeps name id is false e =
          holds_front (name, id) spans (named_one [] span) (all name id (ap span_of_it (found_without name [] tests e) ∙ is))

-- nothing of it runs afterwards
pub package_gone : (ending : Ending) (path : List ℕ) (elapsed : Option (List ℕ)) (s : GoState) → IsWell s.packages → tests_of path (package_ended ending path elapsed s) ≡ []
package_gone ending path elapsed s w =
    ap (λ packages. unwrap_or (named path packages) []) (package_without ending path elapsed s w) ∙ ap (λ o. unwrap_or o []) (none_without path s.packages w.sorted)

-- ---- after any lines

abbrev after : ℕ → Moment → List (List ℕ) → GoState
after next moment lines = (interpret go_takes (nothing_run next moment) lines).source

closed_by : (next : ℕ) (moment : Moment) (before : List (List ℕ)) (ending : Ending) (path : List ℕ) (elapsed : Option (List ℕ)) →
    ClosesAll (tests_of path (after next moment before)) (package_ended ending path elapsed (build_over path (after next moment before))).calls
closed_by next moment before ending path elapsed =
    let s : GoState = build_over path (after next moment before) in
    let closes = package_closes ending path elapsed s (reached_well next moment before) in
    let calls : (package_ended ending path elapsed s).calls ≡ closes.more = closes.calls ∙ ap (λ calls. calls ++ closes.more) (reached_calls next moment before) in
    let P : List Call → Type 0 = λ calls. ClosesAll (tests_of path s) calls in
    subst P (sym calls) closes.all

or_parts : (a b : Bool) → (a || b) ≡ true → (a ≡ false → b ≡ true)
or_parts true b h no_a = cc
or_parts false b h no_a = h

-- a package ends by one of these actions
end_is : (action path : List ℕ) (elapsed : Option (List ℕ)) (s : GoState) (P : GoState → Type 0) → is_end action ≡ true →
    ((ending : Ending) → P (package_ended ending path elapsed (build_over path s))) → P (moved action path [] elapsed s)
end_is action path elapsed s P is h =
    by (bytes_eq action (codes "run")) refl (bytes_eq action (codes "pass") || bytes_eq action (codes "bench")) (bytes_eq action (codes "fail")) (bytes_eq action (codes "skip")) is where
      no_run : bytes_eq action (codes "run") ≡ true → false ≡ true
      no_run runs_too = ap is_end (sym (bytes_same action (codes "run") runs_too)) ∙ is

      by : (a : Bool) → bytes_eq action (codes "run") ≡ a → (b c d : Bool) → (b || (c || d)) ≡ true → P (if a then ran path [] s else if b then package_ended Passed path elapsed (build_over path s)
          else if c then package_ended Failed path elapsed (build_over path s) else if d then package_ended Skipped path elapsed (build_over path s)
          else if bytes_eq action (codes "start") then package_started path s else s)
      by true runs_too b c d ends = let e : false ≡ true = no_run runs_too in cc
      by false runs_too true c d ends = h Passed
      by false runs_too false true d ends = h Failed
      by false runs_too false false true ends = h Skipped
      by false runs_too false false false ends = cc

pub closes_after : (next : ℕ) (moment : Moment) (before : List (List ℕ)) (action path : List ℕ) (elapsed : Option (List ℕ)) → is_end action ≡ true →
    ClosesAll (tests_of path (after next moment before)) (moved action path [] elapsed (after next moment before)).calls
closes_after next moment before action path elapsed is =
    let s : GoState = after next moment before in
    let P : GoState → Type 0 = λ t. ClosesAll (tests_of path s) t.calls in
    end_is action path elapsed s P is (λ ending. closed_by next moment before ending path elapsed)

pub gone_after : (next : ℕ) (moment : Moment) (before : List (List ℕ)) (action path : List ℕ) (elapsed : Option (List ℕ)) → is_end action ≡ true →
    tests_of path (moved action path [] elapsed (after next moment before)) ≡ []
gone_after next moment before action path elapsed is =
    let s : GoState = after next moment before in
    end_is action path elapsed s (λ t. tests_of path t ≡ []) is (λ ending. package_gone ending path elapsed (build_over path s) (reached_well next moment before))
