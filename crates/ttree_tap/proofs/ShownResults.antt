-- Each line of TAP is shown once: what subtests, plans, results and prove's lines do keeps that.
use Rattle.std.proofs.Common.{◌≡◌, ◌⊎◌, inl, inr, ℕ, Bool, true, false, List, [], ◌∷◌, ◌++◌, Option, Some, None, refl, sym, ap, subst, ◌∙◌, arith}
use Rattle.std.specs.Prelude.{◌&&◌, not, ◌==◌, nat_lt, nat_le, if◌then◌else◌, bytes_eq, codes, flat_map, length, is_some, min, ◌-◌, ◌+◌, ◌^◌, decimal}
use Rattle.std.proofs.lemmas.Bool.{true≢false}
use Rattle.std.proofs.lemmas.List.{append-nil}
use Rattle.std.proofs.lemmas.Slice.Eq.{bytes_eq-Decides}
use Rattle.tracing_tree_base.specs.declared.context.Id.{Id}
use Rattle.tracing_tree_base.specs.declared.style.Level.{Level}
use Rattle.tracing_tree_base.specs.declared.style.Level.TheVariants.{Trace, Debug, Error, Info, Warn}
use Rattle.ttree_source.specs.Counts.{one_more}
use Rattle.ttree_source.specs.Marks.{is_empty}
use Rattle.ttree_source.specs.Calls.{message_field}
use Rattle.ttree_tap.specs.declared.queue.Role.TheVariants.{Good, End, Failure, Output as OutputLine, Comment as CommentLine}
use Rattle.ttree_tap.specs.declared.tap.Mode.{Mode}
use Rattle.ttree_tap.specs.declared.tap.Mode.TheVariants.{Start, Script, File, Judged, Summary, Over, Bailed}
use Rattle.ttree_tap.specs.declared.tap.braces.Braced.{Braced}
use Rattle.ttree_tap.specs.declared.tap.results.Mark.{Mark}
use Rattle.ttree_tap.specs.declared.tap.subtests.Heading.{Heading}
use Rattle.ttree_tap.specs.declared.tap.subtests.Subtest.{Subtest}
use Rattle.ttree_tap.specs.declared.tap.waiting.Waiting.{Waiting}
use Rattle.ttree_tap.specs.Line.{is_braced, is_count, name_of_file, first_number, plan_reason, planned, tail_of_file, verdict_level, verdict_time}
use Rattle.ttree_tap.specs.Strings.{unescaped, without_end, without_margin}
use Rattle.ttree_tap.specs.Tally.{broken_tally}
use Rattle.ttree_tap.specs.Texts.{missing_text, no_plan_text, plan_text, good_text, label_of, result_end_fields, time_fields, unfinished_text}
use Rattle.ttree_tap.specs.Tap.{TapState, bailed_out, begun_anew, brace_taken, brace_taken_at, closed_if, come, come_if, come_to, comment_taken, deepened, deeper_left, error_emitted, file_come, file_opened, file_taken, good_emitted, heading_taken, inner_column, inner_left, is_kept_plan, is_unjudged, judged, subtest_left, left_if, left_to, tap_line_emitted, missed, number_taken, test_span_opened, output_taken, plan_missed, plan_set, plan_taken, reporter_counts, restarted, result_beside, result_deeper, result_held, result_in, result_placed, result_taken, result_emitted, script, script_closed, script_missed, skip_emitted, subtest_ended, subtest_ended_to, subtest_opened, summary_begun, tail_emitted, verdict_taken, verdict_emitted, waiting_of, waits, without_heading}
use Rattle.ttree_tap.specs.Said.{Block, LineRead, Outcomes, Place as TextPlace, Said, Said.SkipsAll, Said.Remark, Said.Printed, Said.BailsOut, Said.Judgement, TapResult, counted, description_of, file_read, in_file, outcome_counted, opens_brace, plan_read, result_read, result_in as results_in, saying, silent, tail_read, verdict_read}
use Rattle.ttree_tap.specs.Rows.{OpenSpan}
use Rattle.ttree_tap.specs.Shown.{Item.Shown, Item.Omitted, is_of_result}
use Rattle.ttree_tap.proofs.Accounts.{Account, Core, Fixed, Idle, IsIdle, IsNamed, Stacked, Taken, View, closes_span, core, counts_one, emits, entries, entry, fails_with, named_next, omits, opens_span, row_of}

-- ---- tests

pub choose : (P : TapState → Type 0) (test : Bool) (x y : TapState) → P x → P y → P (if test then x else y)
choose P true x y hx hy = hx
choose P false x y hx hy = hy

-- the same, where the test is known
pub decide : (P : TapState → Type 0) (test : Bool) (x y : TapState) → (test ≡ true → P x) → (test ≡ false → P y) → P (if test then x else y)
decide P true x y hx hy = hx refl
decide P false x y hx hy = hy refl

pub choose_text : (P : List ℕ → Type 0) (test : Bool) (x y : List ℕ) → P x → P y → P (if test then x else y)
choose_text P true x y hx hy = hx
choose_text P false x y hx hy = hy

-- the same test of what is read
pub both : (P : LineRead → TapState → Type 0) (test : Bool) (f g : LineRead) (x y : TapState) → (test ≡ true → P f x) → (test ≡ false → P g y) → P (if test then f else g) (if test then x else y)
both P true f g x y hx hy = hx refl
both P false f g x y hx hy = hy refl

-- ---- errors that are added

pub plan_apart : (count ran : ℕ) → is_of_result (plan_text count ran) ≡ false
plan_apart count ran = refl

pub no_plan_apart : (ran : ℕ) → is_of_result (no_plan_text ran) ≡ false
no_plan_apart ran = refl

pub missing_apart : (first last : ℕ) → is_of_result (missing_text first last) ≡ false
missing_apart first last = choose_text (λ text. is_of_result text ≡ false) (first == last) (codes "missing " ++ decimal first) (codes "missing " ++ decimal first ++ codes " to " ++ decimal last) refl refl

pub unfinished_apart : (name : List ℕ) → is_of_result (unfinished_text name) ≡ false
unfinished_apart name = refl

-- ---- what was read

abbrev pub at_place : View → TextPlace → View
at_place v place = record v { place = place }

abbrev pub block_of : TapResult → Waiting → Block
block_of result w = record { column = w.column; margin = w.margin; result = result }

abbrev pub is_summary : Mode → Bool
is_summary Summary = true
is_summary Start = false
is_summary Script = false
is_summary File = false
is_summary Judged = false
is_summary Over = false
is_summary Bailed = false

abbrev pub then_read : View → LineRead → View
then_read v read = record {
  counts = counted (flat_map results_in read.said) v.counts;
  said = v.said ++ read.said;
  place = read.place;
}

abbrev pub unfiled : View → View
unfiled v = record v { place = record v.place { file = [] } }

module _ (k : Fixed) where
  -- ---- subtests

  pub above_zero : (n m : ℕ) → nat_lt n m ≡ true → nat_lt 0 m ≡ true
  above_zero n m h = grind arith

  pub inner_above : (column n : ℕ) → nat_lt 0 column ≡ true → nat_lt 0 (min column (min (n + 4) (2 ^ 64 - 1))) ≡ true
  inner_above column n h = grind arith

  pub subtest : (v : View) (column : ℕ) (name : List ℕ) (s : TapState) → nat_lt 0 column ≡ true → Idle k v [] s → Idle k v [] (subtest_opened column name s)
  unfolding subtest_opened
  subtest v column name s deep j =
      let i = opens_span k v [] name s.subtest.span s j in
      record {
        stacked = (deep, refl, j.stacked);
        mode = i.mode;
        counts = i.counts;
        none = i.none;
        bare = i.bare;
        whole = λ all. record { all = (i.whole all).all; account = (i.whole all).account };
      }

  pub comes_to : (v : View) (heading : Heading) (column : ℕ) (s : TapState) → Idle k v [] s → Idle k v [] (come_to heading column s)
  comes_to v heading column s j =
      decide (Idle k v []) (nat_lt heading.column column) (subtest_opened (inner_column heading column) heading.name s) (record s { heading = Some heading })
      (λ deep. subtest v (inner_column heading column) heading.name s (inner_above column heading.column (above_zero heading.column column deep)) j) (λ flat. j)

  pub comes_if : (v : View) (heading : Option Heading) (column : ℕ) (s : TapState) → Idle k v [] s → Idle k v [] (come_if heading column s)
  comes_if v (Some heading) column s j = comes_to v heading column s j
  comes_if v None column s j = j

  pub comes : (v : View) (column : ℕ) (s : TapState) → Idle k v [] s → Idle k v [] (come column s)
  unfolding come
  comes v column s j = comes_if v s.heading column (record s { heading = None }) j

  pub deepens : (v : View) (column : ℕ) (s : TapState) → Idle k v [] s → Idle k v [] (deepened column s)
  unfolding deepened
  deepens v column s j =
      decide (Idle k v []) (nat_lt s.subtest.column column) (subtest_opened column (codes "subtest") s) s (λ deep. subtest v column (codes "subtest") s (above_zero s.subtest.column column deep) j) (λ flat. j)

  -- the running subtest is left, and its span is still open
  pub leaves : (v : View) (parent : Subtest) (others : List Subtest) (s : TapState) → s.outer ≡ parent ∷ others → Idle k v [] s
      → Idle k v (entry s.subtest.span s.subtest.name) (record s { subtest = parent; outer = others })
  leaves v parent others s at j =
      let i = subst (λ (outer : List Subtest). IsIdle k v [] (record (core s) { outer = outer })) at j in
      record {
        stacked = i.stacked.2;
        mode = i.mode;
        counts = i.counts;
        none = i.none;
        bare = i.bare;
        whole = λ all. record { all = (i.whole all).all; account = (i.whole all).account };
      }

  pub leaves_to : (v : View) (outer : List Subtest) (s : TapState) → s.outer ≡ outer → Idle k v [] s → Idle k v [] (left_to outer s)
  leaves_to v [] s at j = j
  leaves_to v (parent ∷ others) s at j =
      closes_span k v s.subtest.span parent.span s.subtest.name (error_emitted (codes "unfinished") s.subtest.span (record s { subtest = parent; outer = others }))
      (fails_with k v (entry s.subtest.span s.subtest.name) (codes "unfinished") s.subtest.span (record s { subtest = parent; outer = others }) refl (leaves v parent others s at j))

  pub outer_closed : (span parent : Option Id) (s : TapState) → (closed_if span parent s).outer ≡ s.outer
  outer_closed (Some id) parent s = refl
  outer_closed None parent s = refl

  pub outer_left : (parent : Subtest) (others : List Subtest) (s : TapState) → (left_to (parent ∷ others) s).outer ≡ others
  outer_left parent others s = outer_closed s.subtest.span parent.span (error_emitted (codes "unfinished") s.subtest.span (record s { subtest = parent; outer = others }))

  pub leaves_inner : (v : View) (column : ℕ) (outer : List Subtest) (s : TapState) → s.outer ≡ outer → Idle k v [] s → Idle k v [] (inner_left column outer s)
  leaves_inner v column [] s at j = j
  leaves_inner v column (parent ∷ others) s at j =
      choose (Idle k v []) (nat_lt column parent.column) (inner_left column others (left_to (parent ∷ others) s)) s
      (leaves_inner v column others (left_to (parent ∷ others) s) (outer_left parent others s) (leaves_to v (parent ∷ others) s at j)) j

  pub leaves_deeper : (v : View) (column : ℕ) (s : TapState) → Idle k v [] s → Idle k v [] (deeper_left column s)
  unfolding deeper_left
  leaves_deeper v column s j =
      let t = inner_left column s.outer s in
      let i = leaves_inner v column s.outer s refl j in
      choose (Idle k v []) (nat_lt column t.subtest.column) (subtest_left t) t (leaves_to v t.outer t refl i) i

  -- of the subtests that run, no parent is deeper than the script or the file
  abbrev pub IsNear : List Subtest → Type 0
  IsNear [] = Unit {0}
  IsNear (parent ∷ others) = nat_lt 0 parent.column ≡ false

  pub near : (outer : List Subtest) (s : TapState) → s.outer ≡ outer → IsNear (inner_left 0 outer s).outer
  near [] s at = subst IsNear (sym at) tt
  near (parent ∷ others) s at =
      decide (λ (t : TapState). IsNear t.outer) (nat_lt 0 parent.column) (inner_left 0 others (left_to (parent ∷ others) s)) s
      (λ deep. near others (left_to (parent ∷ others) s) (outer_left parent others s)) (λ flat. subst IsNear (sym at) flat)

  pub zero_not_deep : (n : ℕ) → n ≡ 0 → nat_lt 0 n ≡ true → ⊥
  zero_not_deep n h deep = grind arith

  -- one subtest is left at most, and it is left too
  pub last_left : (outer : List Subtest) (t : TapState) (file : List ℕ) → t.outer ≡ outer → IsNear outer → Stacked outer t.subtest.column t.subtest.name t.subtest.result file
      → (left_if 0 t).outer ≡ []
  last_left [] t file at n st =
      decide (λ (u : TapState). u.outer ≡ []) (nat_lt 0 t.subtest.column) (subtest_left t) t (λ deep. absurd (zero_not_deep t.subtest.column st.0 deep)) (λ flat. at)
  last_left (parent ∷ []) t file at n st =
      decide (λ (u : TapState). u.outer ≡ []) (nat_lt 0 t.subtest.column) (subtest_left t) t
      (λ deep. subst (λ (outer : List Subtest). (left_to outer t).outer ≡ []) (sym at) (outer_left parent [] t)) (λ flat. absurd (true≢false (sym st.0 ∙ flat)))
  last_left (parent ∷ other ∷ others) t file at n st = absurd (true≢false (sym st.2.0 ∙ n))

  pub none_left : (v : View) (s : TapState) → Idle k v [] s → (deeper_left 0 s).outer ≡ []
  unfolding deeper_left
  none_left v s j =
      let t = inner_left 0 s.outer s in
      last_left t.outer t v.place.file refl (near s.outer s refl) (leaves_inner v 0 s.outer s refl j).stacked

  -- ---- plans

  pub misses_plan : (v : View) (x : List OpenSpan) (planned : Option ℕ) (ran : ℕ) (span : Option Id) (s : TapState) → Idle k v x s → Idle k v x (plan_missed planned ran span s)
  misses_plan v x (Some count) ran span s j = choose (Idle k v x) (count == ran) s (error_emitted (plan_text count ran) span s) j (fails_with k v x (plan_text count ran) span s (plan_apart count ran) j)
  misses_plan v x None ran span s j = j

  pub misses_script : (v : View) (x : List OpenSpan) (planned : Option ℕ) (ran : ℕ) (span : Option Id) (s : TapState) → Idle k v x s → Idle k v x (script_missed planned ran span s)
  misses_script v x (Some count) ran span s j = misses_plan v x (Some count) ran span s j
  misses_script v x None ran span s j = choose (Idle k v x) (is_unjudged s.mode) (error_emitted (no_plan_text ran) span s) s (fails_with k v x (no_plan_text ran) span s (no_plan_apart ran) j) j

  pub closes_script : (v : View) (s : TapState) → s.outer ≡ [] → Idle k v [] s → Idle k (unfiled v) [] (script_closed s)
  unfolding script_closed
  closes_script v s at j =
      closes_span k (unfiled v) s.subtest.span None s.subtest.name (script_missed s.subtest.planned s.subtest.ran s.subtest.span (record s { subtest = script }))
      (misses_script (unfiled v) (entry s.subtest.span s.subtest.name) s.subtest.planned s.subtest.ran s.subtest.span (record s { subtest = script })
      (record {
        stacked = subst (λ (outer : List Subtest). Stacked outer 0 [] None []) (sym at) (refl, refl, refl);
        mode = j.mode;
        counts = j.counts;
        none = j.none;
        bare = j.bare;
        whole = λ all. record { all = (j.whole all).all; account = (j.whole all).account };
      }))

  abbrev pub anew : TapState → TapState → TapState
  anew s t = record t { subtest = record s.subtest { planned = None; ran = 0; last = 0 } }

  pub plan_anew : (v : View) (x : List OpenSpan) (planned : Option ℕ) (ran : ℕ) (span : Option Id) (s : TapState) → Idle k v x s → Idle k v x (anew s (plan_missed planned ran span s))
  plan_anew v x (Some count) ran span s j =
      choose (λ (t : TapState). Idle k v x (anew s t)) (count == ran) s (error_emitted (plan_text count ran) span s) j (fails_with k v x (plan_text count ran) span s (plan_apart count ran) j)
  plan_anew v x None ran span s j = j

  pub script_anew : (v : View) (x : List OpenSpan) (planned : Option ℕ) (ran : ℕ) (span : Option Id) (s : TapState) → Idle k v x s → Idle k v x (anew s (script_missed planned ran span s))
  script_anew v x (Some count) ran span s j = plan_anew v x (Some count) ran span s j
  script_anew v x None ran span s j =
      choose (λ (t : TapState). Idle k v x (anew s t)) (is_unjudged s.mode) (error_emitted (no_plan_text ran) span s) s (fails_with k v x (no_plan_text ran) span s (no_plan_apart ran) j) j

  pub restarts : (v : View) (x : List OpenSpan) (s : TapState) → Idle k v x s → Idle k v x (restarted s)
  restarts v x s j =
      choose (λ (t : TapState). Idle k v x (anew s t)) (length s.outer == 0) (script_missed s.subtest.planned s.subtest.ran s.subtest.span s)
      (plan_missed s.subtest.planned s.subtest.ran s.subtest.span s) (script_anew v x s.subtest.planned s.subtest.ran s.subtest.span s j) (plan_anew v x s.subtest.planned s.subtest.ran s.subtest.span s j)

  pub sets_plan : (v : View) (count : ℕ) (s : TapState) → Idle k v [] s → Idle k v [] (plan_set count s)
  unfolding plan_set
  sets_plan v count s j =
      let t : TapState = if is_some s.subtest.planned then restarted s else s in
      let i : Idle k v [] t = choose (Idle k v []) (is_some s.subtest.planned) (restarted s) s (restarts v [] s j) j in
      choose (Idle k v []) (is_kept_plan t) (record t { subtest = record t.subtest { planned = Some count } }) t i i

  -- ---- numbers

  pub misses : (v : View) (x : List OpenSpan) (first number : ℕ) (s : TapState) → Idle k v x s → Idle k v x (missed first number s)
  misses v x first number s j =
      choose (Idle k v x) (nat_le number first) s (error_emitted (missing_text first (number - 1)) s.subtest.span s) j (fails_with k v x (missing_text first (number - 1)) s.subtest.span s (missing_apart first (number - 1)) j)

  pub begins_anew : (v : View) (x : List OpenSpan) (number : ℕ) (s : TapState) → Idle k v x s → Idle k v x (begun_anew number s)
  begins_anew v x number s j = choose (Idle k v x) ((number == 1) && not (s.subtest.ran == 0)) (restarted s) s (restarts v x s j) j

  pub takes_number : (v : View) (x : List OpenSpan) (number : Option ℕ) (s : TapState) → Idle k v x s → Idle k v x (number_taken number s)
  unfolding number_taken
  takes_number v x (Some number) s j = misses v x (one_more (begun_anew number s).subtest.last) number (begun_anew number s) (begins_anew v x number s j)
  takes_number v x None s j = j

  pub record Pending (v : View) (s : TapState) : Type 0 where
    pub w : Waiting
    pub result : TapResult
    pub waits : s.waiting ≡ Some w
    pub place : v.place.block ≡ Some (block_of result w)
    pub taken : Taken k v result w (record s { waiting = None })
    pub going : is_summary v.place.mode ≡ false

  -- no result waits, or one does
  abbrev pub Held : View → TapState → Type 0
  Held v s = (Idle k v [] s × (v.place.block ≡ None)) ⊎ Pending v s

  -- a line: no result of it ends with a brace
  abbrev pub Line' : View → LineRead → TapState → Type 0
  Line' v read s = opens_brace read.place.block ≡ false → Held (then_read v read) s

  pub silently : (v : View) (place : TextPlace) (s : TapState) → Held (at_place v place) s → Held (then_read v (silent place)) s
  silently v place s h = subst (λ (said : List Said). Held (record v { said = said; place = place }) s) (sym (append-nil v.said)) h

  pub quiet : (v : View) (s : TapState) → v.place.block ≡ None → Idle k v [] s → Line' v (silent v.place) s
  quiet v s free j = λ fine. silently v v.place s (inl (j, free))

  -- ---- results

  pub empty_is : (text : List ℕ) → is_empty text ≡ true → text ≡ []
  empty_is [] h = refl
  empty_is (byte ∷ rest) h = grind arith

  pub leaf_named : (description name : List ℕ) (number : ℕ) (test : Bool) → is_empty description ≡ test → IsNamed description (if test then decimal number else description) None name
  leaf_named description name number true h = inr (inr (empty_is description h, (number, refl)))
  leaf_named description name number false h = inl refl

  pub subtest_named : (description name : List ℕ) (id : Id) (test : Bool) → bytes_eq description name ≡ test → IsNamed description (if test then [] else description) (Some id) name
  subtest_named description name id true h = inr (inl (refl, sym ((bytes_eq-Decides description name).0 h), refl))
  subtest_named description name id false h = inl refl

  pub named : (span : Option Id) (description name : List ℕ) (number : ℕ) → IsNamed description (label_of span name description number) span name
  named None description name number = leaf_named description name number (is_empty description) refl
  named (Some id) description name number = subtest_named description name id (bytes_eq description name) refl

  pub gives : (v : View) (span : Option Id) (name : List ℕ) (mark : Mark) (rest : List ℕ) (s : TapState) → is_summary v.place.mode ≡ false → Idle k v (entry span name) s
      → Held (then_read v (result_read mark.is_ok mark.column rest v.place)) (result_in span name mark rest s)
  unfolding result_in waiting_of
  gives v span name mark rest s going j =
      let result : TapResult = record { is_ok = mark.is_ok; rest = rest } in
      let t : TapState = number_taken (first_number rest) s in
      let w : Waiting = waiting_of span name mark rest t in
      let i = takes_number v (entry span name) (first_number rest) s j in
      let place : TextPlace = record v.place { block = Some (block_of result w) } in
      silently v place (result_emitted span name mark rest t) (inr (record {
        w = w;
        result = result;
        waits = refl;
        place = refl;
        taken = record {
          name = name;
          idle = record {
            stacked = i.stacked;
            mode = i.mode;
            counts = counts_one w.verdict t.tally ∙ ap (λ (counts : Outcomes). outcome_counted w.verdict counts) i.counts;
            none = refl;
            bare = i.bare;
            whole = λ all. record { all = (i.whole all).all; account = (i.whole all).account };
          };
          stands = record {
            verdict = refl;
            reason = refl;
            named = named span (description_of result) name t.subtest.last;
          };
        };
        going = going;
      }))

  pub not_below : (column n : ℕ) → n ≡ 0 → nat_lt column n ≡ true → ⊥
  not_below column n h deep = grind arith

  pub ends_subtest_to : (v : View) (outer : List Subtest) (mark : Mark) (rest : List ℕ) (s : TapState) → s.outer ≡ outer → nat_lt mark.column s.subtest.column ≡ true
      → is_summary v.place.mode ≡ false → Idle k v [] s → Held (then_read v (result_read mark.is_ok mark.column rest v.place)) (subtest_ended_to outer mark rest s)
  ends_subtest_to v [] mark rest s at deep going j =
      let st = subst (λ (outer : List Subtest). Stacked outer s.subtest.column s.subtest.name s.subtest.result v.place.file) at j.stacked in
      absurd (not_below mark.column s.subtest.column st.0 deep)
  ends_subtest_to v (parent ∷ others) mark rest s at deep going j =
      gives v s.subtest.span s.subtest.name mark rest (plan_missed s.subtest.planned s.subtest.ran s.subtest.span (record s { subtest = parent; outer = others })) going
      (misses_plan v (entry s.subtest.span s.subtest.name) s.subtest.planned s.subtest.ran s.subtest.span (record s { subtest = parent; outer = others }) (leaves v parent others s at j))

  pub ends_subtest : (v : View) (mark : Mark) (rest : List ℕ) (s : TapState) → nat_lt mark.column s.subtest.column ≡ true
      → is_summary v.place.mode ≡ false → Idle k v [] s → Held (then_read v (result_read mark.is_ok mark.column rest v.place)) (subtest_ended mark rest s)
  unfolding subtest_ended
  ends_subtest v mark rest s deep going j = ends_subtest_to v s.outer mark rest s refl deep going j

  pub beside : (v : View) (mark : Mark) (rest : List ℕ) (s : TapState) → is_summary v.place.mode ≡ false → Idle k v [] s
      → Line' v (result_read mark.is_ok mark.column rest v.place) (result_beside mark rest s)
  beside v mark rest s going j = λ fine.
      decide (Held (then_read v (result_read mark.is_ok mark.column rest v.place))) (is_braced rest) (result_held mark rest s) (result_in None [] mark rest s)
      (λ braced. absurd (true≢false (sym braced ∙ fine))) (λ plain. gives v None [] mark rest s going j)

  pub not_braced : (outer : List Subtest) (column : ℕ) (name : List ℕ) (result : Option Braced) (file : List ℕ) → Stacked outer column name result file → result ≡ None
  not_braced [] column name result file st = st.2
  not_braced (parent ∷ others) column name result file st = st.1

  pub places : (v : View) (mark : Mark) (rest : List ℕ) (s : TapState) → is_summary v.place.mode ≡ false → Idle k v [] s
      → Line' v (result_read mark.is_ok mark.column rest v.place) (result_placed mark rest s)
  places v mark rest s going j =
      decide (Line' v (result_read mark.is_ok mark.column rest v.place)) (nat_lt mark.column s.subtest.column) (result_deeper s.subtest.result mark rest s) (result_beside mark rest s)
      (λ deep fine. subst (λ (result : Option Braced). Held (then_read v (result_read mark.is_ok mark.column rest v.place)) (result_deeper result mark rest s))
      (sym (not_braced s.outer s.subtest.column s.subtest.name s.subtest.result v.place.file j.stacked)) (ends_subtest v mark rest s deep going j))
      (λ flat. beside v mark rest s going j)

  pub takes_result : (v : View) (mark : Mark) (rest : List ℕ) (s : TapState) → is_summary v.place.mode ≡ false → Idle k v [] s
      → Line' v (result_read mark.is_ok mark.column rest v.place) (result_taken mark rest s)
  unfolding result_taken
  takes_result v mark rest s going j =
      places v mark rest (without_heading (deepened mark.column (inner_left mark.column s.outer s))) going
      (deepens v mark.column (inner_left mark.column s.outer s) (leaves_inner v mark.column s.outer s refl j))

  -- ---- plans, headings, comments and output

  pub takes_plan : (v : View) (column : ℕ) (text : List ℕ) (s : TapState) → v.place.block ≡ None → Idle k v [] s → Line' v (plan_read text v.place) (plan_taken column text s)
  unfolding plan_taken skip_emitted
  takes_plan v column text s free j =
      let set : TapState = plan_set (planned text) (deepened column (deeper_left column s)) in
      let i : Idle k v [] set = sets_plan v (planned text) (deepened column (deeper_left column s)) (deepens v column (deeper_left column s) (leaves_deeper v column s j)) in
      let fields = message_field (codes "skip") ∷ result_end_fields (unescaped (plan_reason text)) [] in
      let row = row_of Warn fields set.subtest.span [] (core set) in
      both (Line' v) (planned text == 0) (saying (SkipsAll (unescaped (plan_reason text))) v.place) (silent v.place) (skip_emitted (plan_reason text) set) set
      (λ zero fine. inl (emits k v [] Good Warn fields set.subtest.span (Shown (SkipsAll (unescaped (plan_reason text))) row) set refl (refl, refl) i, free))
      (λ more. quiet v set free i)

  pub takes_heading : (v : View) (column : ℕ) (name : List ℕ) (s : TapState) → Idle k v [] s → Idle k v [] (heading_taken column name s)
  unfolding heading_taken
  takes_heading v column name s j =
      let t = deeper_left column s in
      let i = leaves_deeper v column s j in
      decide (Idle k v []) (nat_lt t.subtest.column column) (subtest_opened column (unescaped name) t) (record t { heading = Some (record { column = column; name = unescaped name }) }) (λ deep. subtest v column (unescaped name) t (above_zero t.subtest.column column deep) i) (λ flat. i)

  pub and_right : (a b : Bool) → (a && b) ≡ true → b ≡ true
  and_right true b h = h
  and_right false b h = absurd (true≢false (sym h))

  pub takes_comment : (v : View) (comment : List ℕ) (s : TapState) → v.place.block ≡ None → Idle k v [] s → Line' v (saying (Remark comment) v.place) (comment_taken comment s)
  unfolding comment_taken
  takes_comment v comment s free j = λ fine.
      let fields = message_field (unescaped comment) ∷ [] in
      let row = row_of Info fields s.subtest.span [] (core s) in
      decide (Held (then_read v (saying (Remark comment) v.place))) (reporter_counts s && is_count comment) s (tap_line_emitted CommentLine (unescaped comment) s.subtest.span s)
      (λ test. inl (omits k v [] (Omitted (Remark comment)) s refl (and_right (reporter_counts s) (is_count comment) test) j, free))
      (λ test. inl (emits k v [] CommentLine Info fields s.subtest.span (Shown (Remark comment) row) s refl (refl, refl) j, free))

  pub takes_output : (v : View) (text : List ℕ) (s : TapState) → v.place.block ≡ None → Idle k v [] s → Line' v (saying (Printed text) v.place) (output_taken text s)
  unfolding output_taken
  takes_output v text s free j = λ fine.
      let fields = message_field (without_margin s.subtest.column text) ∷ [] in
      let row = row_of Info fields s.subtest.span [] (core s) in
      inl (emits k v [] OutputLine Info fields s.subtest.span (Shown (Printed text) row) s refl (refl, (s.subtest.column, refl)) j, free)

  pub takes_brace : (v : View) (column : ℕ) (text : List ℕ) (s : TapState) → v.place.block ≡ None → Idle k v [] s → Line' v (saying (Printed text) v.place) (brace_taken column text s)
  unfolding brace_taken
  takes_brace v column text s free j =
      subst (λ (result : Option Braced). Line' v (saying (Printed text) v.place) (brace_taken_at result column text s))
      (sym (not_braced s.outer s.subtest.column s.subtest.name s.subtest.result v.place.file j.stacked)) (takes_output v text s free j)

  -- the mode changes
  pub moves : (v : View) (mode : Mode) (c : Core) → IsIdle k v [] c → IsIdle k (at_place v (record v.place { mode = mode })) [] (record c { mode = mode })
  moves v mode c i = record {
    stacked = i.stacked;
    mode = refl;
    counts = i.counts;
    none = i.none;
    bare = i.bare;
    whole = λ all. record { all = (i.whole all).all; account = (i.whole all).account };
  }

  pub bails : (v : View) (text : List ℕ) (s : TapState) → v.place.block ≡ None → Idle k v [] s → Line' v (saying (BailsOut text) (record v.place { mode = Bailed })) (bailed_out text s)
  unfolding bailed_out
  bails v text s free j = λ fine.
      let fields = message_field text ∷ [] in
      let row = row_of Error fields s.subtest.span [] (core s) in
      let said = record v { said = v.said ++ BailsOut text ∷ [] } in
      let shown = emits k v [] Failure Error fields s.subtest.span (Shown (BailsOut text) row) (record s { tally = broken_tally s.tally }) refl (refl, refl) j in
      let left = leaves_deeper said 0 (without_heading (error_emitted text s.subtest.span s)) shown in
      inl (moves said Bailed (core (deeper_left 0 (without_heading (error_emitted text s.subtest.span s)))) left, free)

  -- ---- what prove prints

  pub subtest_closed : (span parent : Option Id) (s : TapState) → (closed_if span parent s).subtest ≡ s.subtest
  subtest_closed (Some id) parent s = refl
  subtest_closed None parent s = refl

  pub subtest_missed : (planned : Option ℕ) (ran : ℕ) (span : Option Id) (s : TapState) → (script_missed planned ran span s).subtest ≡ s.subtest
  subtest_missed (Some count) ran span s = choose (λ (t : TapState). t.subtest ≡ s.subtest) (count == ran) s (error_emitted (plan_text count ran) span s) refl refl
  subtest_missed None ran span s = choose (λ (t : TapState). t.subtest ≡ s.subtest) (is_unjudged s.mode) (error_emitted (no_plan_text ran) span s) s refl refl

  pub outer_missed : (planned : Option ℕ) (ran : ℕ) (span : Option Id) (s : TapState) → (script_missed planned ran span s).outer ≡ s.outer
  outer_missed (Some count) ran span s = choose (λ (t : TapState). t.outer ≡ s.outer) (count == ran) s (error_emitted (plan_text count ran) span s) refl refl
  outer_missed None ran span s = choose (λ (t : TapState). t.outer ≡ s.outer) (is_unjudged s.mode) (error_emitted (no_plan_text ran) span s) s refl refl

  pub script_is_closed : (s : TapState) → (script_closed s).subtest ≡ script
  unfolding script_closed
  script_is_closed s =
      subtest_closed s.subtest.span None (script_missed s.subtest.planned s.subtest.ran s.subtest.span (record s { subtest = script }))
      ∙ subtest_missed s.subtest.planned s.subtest.ran s.subtest.span (record s { subtest = script })

  pub outer_is_closed : (s : TapState) → (script_closed s).outer ≡ s.outer
  unfolding script_closed
  outer_is_closed s =
      outer_closed s.subtest.span None (script_missed s.subtest.planned s.subtest.ran s.subtest.span (record s { subtest = script }))
      ∙ outer_missed s.subtest.planned s.subtest.ran s.subtest.span (record s { subtest = script })

  pub opens_file : (v : View) (name : List ℕ) (t : TapState) → t.subtest ≡ script → t.outer ≡ [] → Idle k (unfiled v) [] t
      → Idle k (at_place v (record v.place { mode = File; file = name })) [] (file_opened name t)
  opens_file v name t closed at j =
      let i = opens_span k (unfiled v) [] name None t j in
      record {
        stacked = subst (λ (outer : List Subtest). Stacked outer 0 name None name) (sym at) (refl, refl, refl);
        mode = refl;
        counts = i.counts;
        none = i.none;
        bare = i.bare;
        whole = λ all. record {
          all = (i.whole all).all;
          account = subst (λ (subtest : Subtest). Account k.first (k.calls ++ (test_span_opened name None t).queue.ready) v.said
              (named_next name t ++ (entry subtest.span subtest.name ++ entries t.outer)) (one_more t.next)) closed (i.whole all).account;
        };
      }

  pub comes_file : (v : View) (name : List ℕ) (s : TapState) → s.outer ≡ [] → Idle k v [] s → Idle k (at_place v (in_file name v.place)) [] (file_come name s)
  unfolding file_come
  comes_file v name s at j =
      let st = subst (λ (outer : List Subtest). Stacked outer s.subtest.column s.subtest.name s.subtest.result v.place.file) at j.stacked in
      subst (λ (file : List ℕ). Idle k (at_place v (if bytes_eq file name then v.place else record v.place { mode = File; file = name })) [] (file_come name s)) st.1
      (pick (bytes_eq s.subtest.name name)) where
        pick : (test : Bool) → Idle k (at_place v (if test then v.place else record v.place { mode = File; file = name })) [] (if test then s else file_opened name (script_closed s))
        pick true = j
        pick false = opens_file v name (script_closed s) (script_is_closed s) (outer_is_closed s ∙ at) (closes_script v s at j)

  pub good_is : (time : Option ℕ) (text : List ℕ) → (good_text time text ≡ text) ⊎ (good_text time text ≡ codes "ok")
  good_is (Some nanoseconds) text = inr refl
  good_is None text = inl refl

  pub emits_good : (v : View) (level : Level) (text : List ℕ) (s : TapState) → Idle k v [] s
      → Idle k (record v { said = v.said ++ Judgement level text ∷ []; place = record v.place { mode = Judged } }) [] (judged (good_emitted level text s))
  emits_good v level text s j =
      let fields = message_field (good_text (verdict_time text) text) ∷ time_fields (verdict_time text) in
      let row = row_of level fields s.subtest.span [] (core s) in
      moves (record v { said = v.said ++ Judgement level text ∷ [] }) Judged (core (good_emitted level text s))
      (emits k v [] End level fields s.subtest.span (Shown (Judgement level text) row) s refl
      (refl, (good_text (verdict_time text) text, time_fields (verdict_time text), refl, good_is (verdict_time text) text)) j)

  pub emits_verdict : (v : View) (level : Level) (text : List ℕ) (s : TapState) → Idle k v [] s
      → Idle k (record v { said = v.said ++ Judgement level text ∷ []; place = record v.place { mode = Judged } }) [] (verdict_emitted level text s)
  emits_verdict v Error text s j =
      let fields = message_field text ∷ [] in
      let row = row_of Error fields s.subtest.span [] (core s) in
      moves (record v { said = v.said ++ Judgement Error text ∷ [] }) Judged (core (error_emitted text s.subtest.span s))
      (emits k v [] Failure Error fields s.subtest.span (Shown (Judgement Error text) row) (record s { tally = broken_tally s.tally }) refl
      (refl, (text, [], refl, inl refl)) j)
  emits_verdict v Warn text s j = emits_good v Warn text s j
  emits_verdict v Info text s j = emits_good v Info text s j
  emits_verdict v Debug text s j = emits_good v Debug text s j
  emits_verdict v Trace text s j = emits_good v Trace text s j

  pub emits_tail : (v : View) (level : Option Level) (tail : List ℕ) (s : TapState) → v.place.block ≡ None → Idle k v [] s → Line' v (tail_read level tail v.place) (tail_emitted level tail s)
  emits_tail v (Some level) tail s free j = λ fine. inl (emits_verdict v level tail s j, free)
  emits_tail v None tail s free j = quiet v s free j

  pub still_free : (name : List ℕ) (place : TextPlace) → place.block ≡ None → (in_file name place).block ≡ None
  still_free name place free = by (bytes_eq place.file name) where
    by : (test : Bool) → (if test then place else record place { mode = File; file = name }).block ≡ None
    by true = free
    by false = free

  pub takes_file : (v : View) (text : List ℕ) (s : TapState) → v.place.block ≡ None → Idle k v [] s → Line' v (file_read text v.place) (file_taken text s)
  unfolding file_taken
  takes_file v text s free j =
      let tail = without_end (codes " ") (tail_of_file text) in
      emits_tail (at_place v (in_file (name_of_file text) v.place)) (verdict_level tail) tail (file_come (name_of_file text) (deeper_left 0 (without_heading s))) (still_free (name_of_file text) v.place free)
      (comes_file v (name_of_file text) (deeper_left 0 (without_heading s)) (none_left v (without_heading s) j) (leaves_deeper v 0 (without_heading s) j))

  pub takes_verdict : (v : View) (level : Level) (text : List ℕ) (s : TapState) → v.place.block ≡ None → Idle k v [] s
      → Line' v (verdict_read level (without_end (codes " ") text) v.place) (verdict_taken level text s)
  unfolding verdict_taken
  takes_verdict v level text s free j = λ fine. inl (emits_verdict v level (without_end (codes " ") text) (deeper_left 0 (without_heading s)) (leaves_deeper v 0 (without_heading s) j), free)

  pub begins_summary : (v : View) (s : TapState) → v.place.block ≡ None → Idle k v [] s → Line' v (silent (record v.place { mode = Summary; file = [] })) (summary_begun s)
  unfolding summary_begun
  begins_summary v s free j = λ fine.
      let t = deeper_left 0 (without_heading s) in
      silently v (record v.place { mode = Summary; file = [] }) (record (script_closed t) { mode = Summary })
      (inl (moves (unfiled v) Summary (core (script_closed t)) (closes_script v t (none_left v (without_heading s) j) (leaves_deeper v 0 (without_heading s) j)), free))
