-- Plans result in the turns of the definitions.
use Rattle.std.proofs.Common.{◌≡◌, ◌&&◌, ℕ, ◌≤◌, length, drop, arith, subst, Bool, true, false, not, List, [], ◌∷◌, ◌++◌, map, Option, Some, None, is_some, option_map, if◌then◌else◌, refl, sym, ap, ◌∙◌, append_assoc, append-nil}
use Rattle.std.specs.Option.{option_map_or, option_or}
use Rattle.std.specs.List.{common_prefix_len}
use Rattle.tracing_tree_spans.specs.Registry.Ids.{same_id}
use Rattle.tracing_tree_layer.proofs.Reading.Parts.{common-right}
use Rattle.tracing_tree_layer.proofs.Reading.Changes.{same-refl}
use Rattle.std.proofs.Math.Seq.{drop-length}
use Rattle.std.proofs.lemmas.List.{map-append}
use Rattle.tracing_tree_drawing.specs.Format.Settings.{Settings, retraces}
use Rattle.tracing_tree_spans.specs.Registry.Forest.{Forest, IsForest, is_printed, parent_of, path_of, path_of_any, fresh_ids, mark_all, span_at}
use Rattle.tracing_tree_spans.specs.Registry.Spans.{ShownSpan, shown_span}
use Rattle.tracing_tree_spans.specs.Registry.Paths.{PartOnce}
use Rattle.tracing_tree_spans.proofs.PathLaws.{path_of-step}
use Rattle.tracing_tree_spans.proofs.CommonLaws.{paths_part_once, nothing_parts_once}
use Rattle.tracing_tree_drawing.specs.Format.Picture.{Row}
use Rattle.tracing_tree_base.specs.declared.context.Id.{Id}
use Rattle.tracing_tree_base.specs.declared.context.Context.{Context}
use Rattle.tracing_tree_drawing.specs.declared.format.SpanMode.{SpanMode}
use Rattle.tracing_tree_drawing.specs.declared.format.SpanMode.TheVariants.{PreOpen, Open, Close, PostClose}
use Rattle.tracing_tree_layer.specs.Layered.State.{Turn, quiet_turn}
use Rattle.tracing_tree_layer.specs.Layer.Turns.{span_row, parent_rows, fresh_row, fresh_rows, retrace_to, then_turn, turn_of_new, turn_before_event, close_turn, turn_of_close, turn_of_closes}
use Rattle.tracing_tree_layer.specs.Layer.CloseRetrace.{retraces_before_close}
use Rattle.tracing_tree_layer.specs.Layer.Plan.{fresh_mode, PlanView, empty_plan, row_of_planned, rows_of_planned, turn_of_plan, marked_by, planned_row, planned_parent, planned_fresh, planned_fresh_rows, retraced_plan, plan_of_new, plan_before_event, closed_plan, plan_of_close, plan_of_closes}
use Rattle.tracing_tree_layer.specs.declared.layer.plan.PlannedRow.{PlannedRow}
use Rattle.tracing_tree_layer.proofs.Marks.{mark_all-none, mark_all-append, parent_of-marked, fresh_ids-marked, span_row-marked, parent_rows-marked}
use Rattle.tracing_tree_layer.proofs.Reading.Followed.{mark_printed-all}
use Rattle.tracing_tree_layer.proofs.PathPairs.{drop-next}

module _ (settings : Settings) (context : Context) (forest : Forest) where
  rows : List PlannedRow → List Row
  rows planned = rows_of_planned settings context forest planned

  turn : PlanView → Turn
  turn plan = turn_of_plan settings context forest plan

  -- ---- rows

  pub parent-planned : (shown : Bool) (mode : SpanMode) (i : Id) →
      rows_of_planned settings context forest (planned_parent shown forest mode i) ≡ parent_rows settings context forest shown mode i
  parent-planned true mode i = elim (parent_of forest i) as (λ o.
      rows_of_planned settings context forest (option_map_or (λ above. planned_row forest mode above ∷ []) o [])
      ≡ option_map_or (λ above. span_row settings context forest mode above ∷ []) o []) [ None ↦ refl | Some above ↦ refl ]
  parent-planned false mode i = refl

  fresh-planned : (ids : List Id) (verbose : Bool) (others : List Id) →
      rows_of_planned settings context forest (map (planned_fresh (mark_all ids forest) forest verbose) others)
      ≡ map (fresh_row settings context (mark_all ids forest) verbose) others
  fresh-planned ids verbose [] = refl
  fresh-planned ids verbose (i ∷ others) =
      λ k. sym (span_row-marked settings context ids forest (fresh_mode (mark_all ids forest) i verbose) i) k ∷ fresh-planned ids verbose others k

  fresh-rows : (ids fresh : List Id) →
      rows_of_planned settings context forest (planned_fresh_rows settings (mark_all ids forest) forest fresh)
      ≡ fresh_rows settings context (mark_all ids forest) fresh
  fresh-rows ids [] = refl
  fresh-rows ids (first ∷ others) =
      let marked = mark_all ids forest in
      let entry = settings.verbose_entry in
      let parents : rows_of_planned settings context forest (planned_parent entry forest PreOpen first) ≡ parent_rows settings context marked entry PreOpen first =
      parent-planned entry PreOpen first ∙ sym (parent_rows-marked entry settings context ids forest PreOpen first) in
      let shown : (entry && is_some (parent_of forest first)) ≡ (entry && is_some (parent_of marked first)) =
      ap (λ (o : Option Id). entry && is_some o) (sym (parent_of-marked ids forest first)) in
      let own : row_of_planned settings context forest (planned_fresh marked forest (entry && is_some (parent_of forest first)) first)
      ≡ fresh_row settings context marked (entry && is_some (parent_of marked first)) first =
      sym (span_row-marked settings context ids forest (fresh_mode marked first (entry && is_some (parent_of forest first))) first)
      ∙ ap (λ verbose. fresh_row settings context marked verbose first) shown in
      map-append (row_of_planned settings context forest) (planned_parent entry forest PreOpen first) _
      ∙ (λ k. parents k ++ own k ∷ fresh-planned ids false others k)

  -- ---- steps

  -- a plan retraces, and so does its turn
  pub retraced-turn : (i : Id) (plan : PlanView) →
      turn_of_plan settings context forest (retraced_plan settings forest i plan)
      ≡ then_turn (turn_of_plan settings context forest plan) (λ marked last. retrace_to settings context marked last i)
  retraced-turn i plan =
      let marked = marked_by plan forest in
      let fresh : List Id = fresh_ids forest plan.last i in
      let same : fresh ≡ fresh_ids marked plan.last i = sym (fresh_ids-marked plan.fresh forest plan.last i) in
      let drawn = map-append (row_of_planned settings context forest) plan.rows (planned_fresh_rows settings marked forest fresh)
      ∙ ap (λ more. rows_of_planned settings context forest plan.rows ++ more) (fresh-rows plan.fresh fresh ∙ ap (fresh_rows settings context marked) same) in
      let marks = mark_all-append plan.fresh fresh forest ∙ ap (λ ids. mark_all ids marked) same in
      (λ k. record { rows = drawn k; forest = marks k; last = Some i })

  -- a plan closes a span, and so does its turn
  pub closed-turn : (i : Id) (plan : PlanView) →
      turn_of_plan settings context forest (closed_plan settings forest i plan)
      ≡ then_turn (turn_of_plan settings context forest plan) (close_turn settings context i)
  closed-turn i plan =
      let marked = marked_by plan forest in
      let exit = settings.verbose_exit in
      let own = sym (span_row-marked settings context plan.fresh forest (Close exit) i) in
      let parents : rows_of_planned settings context forest (planned_parent exit forest PostClose i) ≡ parent_rows settings context marked exit PostClose i =
      parent-planned exit PostClose i ∙ sym (parent_rows-marked exit settings context plan.fresh forest PostClose i) in
      let drawn = map-append (row_of_planned settings context forest) plan.rows (planned_row forest (Close exit) i ∷ planned_parent exit forest PostClose i)
      ∙ (λ k. rows_of_planned settings context forest plan.rows ++ own k ∷ parents k) in
      let above = sym (parent_of-marked plan.fresh forest i) in
      (λ k. record { rows = drawn k; forest = marked; last = option_or (above k) plan.last })

  then_turn-quiet : (t : Turn) → then_turn t quiet_turn ≡ t
  then_turn-quiet t = λ k. record t { rows = append-nil t.rows k }

  then_turn-assoc : (t : Turn) (first second : Forest → Option Id → Turn) →
      then_turn (then_turn t first) second ≡ then_turn t (λ f last. then_turn (first f last) second)
  then_turn-assoc t first second =
      let middle : Turn = first t.forest t.last in
      let final : Turn = second middle.forest middle.last in
      (λ k. record final { rows = append_assoc t.rows middle.rows final.rows k })

  pub close-turn : (i : Id) (plan : PlanView) →
      turn_of_plan settings context forest (plan_of_close settings forest i plan)
      ≡ then_turn (turn_of_plan settings context forest plan) (λ marked last. turn_of_close settings context marked last i)
  close-turn i plan =
      let marked = marked_by plan forest in
      let whole : Turn = turn_of_plan settings context forest plan in
      let retraced : PlanView = retraced_plan settings forest i plan in
      let closes : Bool → Turn = λ b. if b
      then then_turn (retrace_to settings context marked plan.last i) (close_turn settings context i)
      else close_turn settings context i marked plan.last in
      let closed : (b : Bool) → turn_of_plan settings context forest (if b then closed_plan settings forest i retraced else closed_plan settings forest i plan)
      ≡ record (closes b) { rows = whole.rows ++ (closes b).rows } = λ b. elim b as (λ b.
      turn_of_plan settings context forest (if b then closed_plan settings forest i retraced else closed_plan settings forest i plan)
      ≡ record (closes b) { rows = whole.rows ++ (closes b).rows }) [
        | true ↦ closed-turn i retraced
            ∙ ap (λ t. then_turn t (close_turn settings context i)) (retraced-turn i plan)
            ∙ then_turn-assoc whole (λ f last. retrace_to settings context f last i) (close_turn settings context i)
        | false ↦ closed-turn i plan
      ] in
      elim (settings.deferred_spans && not (is_printed marked i)) as (λ b.
      turn_of_plan settings context forest (if b then plan
      else (if retraces_before_close settings marked plan.last i then closed_plan settings forest i retraced else closed_plan settings forest i plan))
      ≡ then_turn whole (λ f last. if b then quiet_turn marked plan.last else closes (retraces_before_close settings marked plan.last i))) [
        | true ↦ sym (then_turn-quiet whole)
        | false ↦ closed (retraces_before_close settings marked plan.last i)
      ]

  pub closes-turn : (ids : List Id) (plan : PlanView) →
      turn_of_plan settings context forest (plan_of_closes settings forest ids plan)
      ≡ then_turn (turn_of_plan settings context forest plan) (turn_of_closes settings context ids)
  closes-turn [] plan = sym (then_turn-quiet (turn_of_plan settings context forest plan))
  closes-turn (i ∷ others) plan =
      closes-turn others (plan_of_close settings forest i plan)
      ∙ ap (λ t. then_turn t (turn_of_closes settings context others)) (close-turn i plan)
      ∙ then_turn-assoc (turn_of_plan settings context forest plan) (λ f last. turn_of_close settings context f last i) (turn_of_closes settings context others)

  -- ---- calls

  -- an empty plan results in a turn without rows
  pub empty-turn : (last : Option Id) → turn_of_plan settings context forest (empty_plan last) ≡ quiet_turn forest last
  empty-turn last = λ k. record { rows = []; forest = mark_all-none forest k; last = last }

  pub turn-closes : (ids : List Id) (last : Option Id) →
      turn_of_plan settings context forest (plan_of_closes settings forest ids (empty_plan last)) ≡ turn_of_closes settings context ids forest last
  turn-closes ids last = closes-turn ids (empty_plan last) ∙ ap (λ t. then_turn t (turn_of_closes settings context ids)) (empty-turn last)

  pub turn-event : (current last : Option Id) →
      turn_of_plan settings context forest (plan_before_event settings forest current (empty_plan last)) ≡ turn_before_event settings context forest last current
  turn-event None last = empty-turn last
  turn-event (Some current) last = elim (retraces settings) as (λ b.
      turn_of_plan settings context forest (if b then retraced_plan settings forest current (empty_plan last) else empty_plan last)
      ≡ (if b then retrace_to settings context forest last current else quiet_turn forest last)) [
        | true ↦ retraced-turn current (empty_plan last) ∙ ap (λ t. then_turn t (λ f l. retrace_to settings context f l current)) (empty-turn last)
        | false ↦ empty-turn last
      ]

  pub turn-new : (i : Id) (last : Option Id) →
      turn_of_plan settings context forest (plan_of_new settings forest i (empty_plan last)) ≡ turn_of_new settings context forest last i
  turn-new i last =
      let printed : PlanView = record { rows = []; fresh = i ∷ []; last = last } in
      let entry = settings.verbose_entry in
      let begun : turn_of_plan settings context forest printed ≡ quiet_turn (mark_all (i ∷ []) forest) last = refl in
      elim settings.deferred_spans as (λ d.
      turn_of_plan settings context forest (if d then empty_plan last else (if settings.span_retrace then retraced_plan settings forest i printed
      else record printed { rows = planned_parent entry forest PreOpen i ++ planned_row forest (Open entry) i ∷ []; last = Some i }))
      ≡ (if d then quiet_turn forest last else (if settings.span_retrace then retrace_to settings context (mark_all (i ∷ []) forest) last i
      else record { rows = parent_rows settings context forest entry PreOpen i ++ span_row settings context forest (Open entry) i ∷ []; forest = mark_all (i ∷ []) forest; last = Some i }))) [
        | true ↦ empty-turn last
        | false ↦ elim settings.span_retrace as (λ r.
            turn_of_plan settings context forest (if r then retraced_plan settings forest i printed
            else record printed { rows = planned_parent entry forest PreOpen i ++ planned_row forest (Open entry) i ∷ []; last = Some i })
            ≡ (if r then retrace_to settings context (mark_all (i ∷ []) forest) last i
            else record { rows = parent_rows settings context forest entry PreOpen i ++ span_row settings context forest (Open entry) i ∷ []; forest = mark_all (i ∷ []) forest; last = Some i })) [
              | true ↦ retraced-turn i printed
              | false ↦ let drawn = map-append (row_of_planned settings context forest) (planned_parent entry forest PreOpen i) (planned_row forest (Open entry) i ∷ [])
                  ∙ ap (λ more. more ++ span_row settings context forest (Open entry) i ∷ []) (parent-planned entry PreOpen i) in
                  (λ k. record { rows = drawn k; forest = mark_all (i ∷ []) forest; last = Some i })
            ]
      ]
      ∙ ap (λ marked. if settings.deferred_spans then quiet_turn forest last else (if settings.span_retrace then retrace_to settings context marked last i
      else record { rows = parent_rows settings context forest entry PreOpen i ++ span_row settings context forest (Open entry) i ∷ []; forest = marked; last = Some i })) (sym (mark_printed-all i forest))

-- two paths of one forest part once, even if one is that of the last span, which may be missing
pub last_paths_part_once : (forest : Forest) → IsForest forest → (last : Option Id) (i : Id) → PartOnce (path_of_any forest last) (path_of forest i)
last_paths_part_once forest formed None i = nothing_parts_once (path_of forest i)
last_paths_part_once forest formed (Some j) i = paths_part_once forest formed j i

-- right below the current branch only one span is fresh
beyond-more : (path : List Id) (i : Id) → drop (common_prefix_len same_id path (path ++ i ∷ [])) (path ++ i ∷ []) ≡ i ∷ []
beyond-more [] i = refl
beyond-more (j ∷ path) i =
    let rest = beyond-more path i in
    rw (same-refl j) (drop-next (common_prefix_len same_id path (path ++ i ∷ [])) j (path ++ i ∷ []) ∙ rest)

pub fresh-below : (forest : Forest) → IsForest forest → (i : Id) (shown : ShownSpan) (last : Option Id) →
    Some shown ≡ option_map shown_span (span_at forest i) → path_of_any forest shown.parent ≡ path_of_any forest last → fresh_ids forest last i ≡ i ∷ []
fresh-below forest formed i shown last e same =
    elim (span_at forest i) as (λ o. span_at forest i ≡ o → Some shown ≡ option_map shown_span o → fresh_ids forest last i ≡ i ∷ []) [
      | None ↦ (λ h k. absurd cc)
      | Some s ↦ (λ h k.
          let own : shown_span s ≡ shown = cc in
          let step : path_of forest i ≡ path_of_any forest last ++ i ∷ [] =
          path_of-step forest formed i s h ∙ ap (λ (x : ShownSpan). path_of_any forest x.parent ++ i ∷ []) own ∙ ap (λ path. path ++ i ∷ []) same in
          ap (λ path. drop (common_prefix_len same_id (path_of_any forest last) path) path) step ∙ beyond-more (path_of_any forest last) i)
    ] refl e

-- what is shared is part of the new path
pub common_within : (old new : List Id) (n : ℕ) → n ≡ common_prefix_len same_id old new → n ≤ length new
common_within old new n e = subst (λ k. k ≤ length new) (sym e) (common-right old new)

-- a path shares all of its ids with itself
whole-shared : (path : List Id) → common_prefix_len same_id path path ≡ length path
whole-shared [] = refl
whole-shared (i ∷ path) = let rest = whole-shared path in rw (same-refl i) (omega (arith, rest))

-- nothing is fresh before the last span
fresh-there : (forest : Forest) (i : Id) → fresh_ids forest (Some i) i ≡ []
fresh-there forest i = let path = path_of forest i in ap (λ n. drop n path) (whole-shared path) ∙ drop-length path

-- so a plan that retraces to the last span is unchanged
pub retraced-there : (settings : Settings) (forest : Forest) (i : Id) (plan : PlanView) → plan.last ≡ Some i → plan ≡ retraced_plan settings forest i plan
retraced-there settings forest i plan there =
    let none = ap (λ last. fresh_ids forest last i) there ∙ fresh-there forest i in
    let rows-same = ap (λ ids. plan.rows ++ planned_fresh_rows settings (marked_by plan forest) forest ids) none ∙ append-nil plan.rows in
    let fresh-same = ap (λ ids. plan.fresh ++ ids) none ∙ append-nil plan.fresh in
    (λ k. record { rows = sym rows-same k; fresh = sym fresh-same k; last = there k })
