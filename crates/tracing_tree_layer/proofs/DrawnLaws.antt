-- Rows that are drawn one after another are drawn together.
use Rattle.std.proofs.Common.{◌≡◌, ◌≢◌, ◌⊎◌, ◌-◌, suc, take, drop, ℕ, Bool, true, false, if◌then◌else◌, ◌||◌, List, [], ◌∷◌, ◌++◌, None, Some, Option, Result, Ok, Err, is_ok, String, string_bytes, refl, sym, ap, subst, ◌∙◌, inl, inr, append_assoc, append-nil, length}
use Rattle.std.proofs.lemmas.Grind.{flat_map-append}
use Rattle.std.proofs.lemmas.List.{map-append}
use Rattle.std.proofs.Math.Seq.{drop-append_seam, take-append_seam}
use Rattle.std.proofs.lemmas.List.Folds.{list_any-append}
use Rattle.tracing_tree_drawing.specs.Format.Settings.{Settings}
use Rattle.tracing_tree_drawing.specs.Format.Picture.{Row, draw, drawn_row, is_too_wide, row_start, unnamed_row}
use Rattle.tracing_tree_base.specs.declared.context.Refusal.{Refusal}
use Rattle.tracing_tree_base.specs.declared.context.Refusal.TheVariants.{NotHeld, TooWide, TooMany, Memory, Timer, Writer, Failed}
use Rattle.tracing_tree_spans.specs.Registry.Forest.{Forest, is_live, if_live, path_of, path_of_any}
use Rattle.tracing_tree_base.specs.declared.context.Id.{Id}
use Rattle.tracing_tree_base.specs.declared.context.Context.{Context}
use Rattle.tracing_tree_spans.specs.declared.registry.Event.{Event}
use Rattle.tracing_tree_drawing.specs.declared.format.SpanMode.TheVariants.{Event as EventMode}
use Rattle.tracing_tree_time.specs.Clock.{Timer as Clock}
use Rattle.tracing_tree_spans.proofs.PathLaws.{path_of-none}
use Rattle.tracing_tree_base.proofs.Extended.{cuts_back, extended_twice}
use Rattle.tracing_tree_base.specs.Extended.{IsExtended}
use Rattle.tracing_tree_drawing.specs.Format.Frames.{IsBegun, row_of, with_row}
use Rattle.tracing_tree_drawing.specs.declared.format.draw.RowDrawing.{RowDrawing}
use Rattle.tracing_tree_drawing.specs.declared.format.draw.RowPlace.{RowPlace}
use Rattle.std.specs.Option.{option_or}
use Rattle.std.specs.Bool.{then_some}
use Rattle.std.specs.Io.KnownBytes.{Appends}
use Rattle.std.proofs.KnownBytes.{Keeps-refl}
use Rattle.tracing_tree_output.specs.Writers.{IsCutShort, LeavesCut, SeenWriter}
use Rattle.tracing_tree_layer.specs.Layered.State.{Turn}
use Rattle.tracing_tree_layer.specs.Layer.Turns.{then_turn, turn_of_row, turn_of_closes, event_depth, event_level, event_parent}
use Rattle.tracing_tree_layer.specs.Layer.Plan.{PlanView, rows_of_planned, row_of_planned, turn_of_plan}
use Rattle.tracing_tree_layer.specs.Layer.Drawn.{DoesTurn, DrawsRows, Drafts, IsUndrawn, IsWritten, Sends, failed_by, has_no_id, has_no_row, rows_cause, when_ok, draws_too_wide, is_event_too_wide}
use Rattle.tracing_tree_layer.specs.declared.layer.plan.PlannedRow.{PlannedRow}

pub draw-append : (settings : Settings) (first second : List Row) → draw settings (first ++ second) ≡ draw settings first ++ draw settings second
draw-append settings first second = flat_map-append (drawn_row settings) first second

-- one of the rows is too wide, or one of the others
pub draws_too_wide-append : (settings : Settings) (first second : List Row) →
    draws_too_wide settings (first ++ second) ≡ (draws_too_wide settings first || draws_too_wide settings second)
draws_too_wide-append settings first second = list_any-append (is_too_wide settings) first second

-- ---- what is refused

cause-wide : (settings : Settings) (rows : List Row) → draws_too_wide settings rows ≡ true → (faults : Bool) →
    rows_cause settings rows faults ≡ Some TooWide
cause-wide settings rows wide faults = rw wide refl

cause-narrow : (settings : Settings) (rows : List Row) → draws_too_wide settings rows ≡ false → rows_cause settings rows false ≡ None
cause-narrow settings rows narrow = rw narrow refl

-- rows with no cause against them are narrow
pub narrow-from_none : (settings : Settings) (rows : List Row) → rows_cause settings rows false ≡ None → draws_too_wide settings rows ≡ false
narrow-from_none settings rows none =
    elim (draws_too_wide settings rows) as (λ b. draws_too_wide settings rows ≡ b → b ≡ false) [
      | true ↦ (λ wide. let e = cause-wide settings rows wide false in cc)
      | false ↦ (λ narrow. refl)
    ] refl

wide-from_some : (settings : Settings) (rows : List Row) (refusal : Refusal) → rows_cause settings rows false ≡ Some refusal →
    draws_too_wide settings rows ≡ true
wide-from_some settings rows refusal some =
    elim (draws_too_wide settings rows) as (λ b. draws_too_wide settings rows ≡ b → b ≡ true) [
      | true ↦ (λ wide. refl)
      | false ↦ (λ narrow. let e = cause-narrow settings rows narrow in cc)
    ] refl

-- the cause against the first rows holds against all, whatever the timer says
pub cause-first : (settings : Settings) (first second : List Row) (faults : Bool) (refusal : Refusal) → rows_cause settings first false ≡ Some refusal →
    rows_cause settings (first ++ second) faults ≡ Some refusal
cause-first settings first second faults refusal some =
    let wide = wide-from_some settings first refusal some in
    let all : draws_too_wide settings (first ++ second) ≡ true = rw (draws_too_wide-append settings first second, wide) refl in
    cause-wide settings (first ++ second) all faults ∙ sym (cause-wide settings first wide false) ∙ some

-- if there is no cause against the first rows, that against the others holds against all
pub cause-second : (settings : Settings) (first second : List Row) → rows_cause settings first false ≡ None → (faults : Bool) →
    rows_cause settings (first ++ second) faults ≡ rows_cause settings second faults
cause-second settings first second none faults =
    rw (draws_too_wide-append settings first second, narrow-from_none settings first none) refl

row-first : (first second : List Row) → has_no_row first ≡ false → has_no_row (first ++ second) ≡ false
row-first [] second h = cc
row-first (row ∷ first) second h = refl

row-second : (first second : List Row) → has_no_row second ≡ false → has_no_row (first ++ second) ≡ false
row-second [] second h = h
row-second (row ∷ first) second h = refl

-- ---- one after another

-- a refusal of the first rows is one of all
pub refuses_first : (settings : Settings) (first second : List Row) (faults : Bool) (refusal : Refusal) (a b : List ℕ) →
    DrawsRows settings first false (Err refusal) a b → DrawsRows settings (first ++ second) faults (Err refusal) a b
refuses_first settings first second faults refusal a b (inl cause) = inl (cause-first settings first second faults refusal cause)
refuses_first settings first second faults refusal a b (inr memory) = inr (memory.0, row-first first second memory.1)

-- the first rows and then the others
pub draws_both : (settings : Settings) (first second : List Row) (faults : Bool) (result : Result (Unit {0}) Refusal) (a b c : List ℕ) →
    DrawsRows settings first false (Ok tt) a b → DrawsRows settings second faults result b c →
    DrawsRows settings (first ++ second) faults result a c
draws_both settings first second faults (Ok done) a b c h k = (
  cause-second settings first second h.0 faults ∙ k.0,
  k.1 ∙ ap (λ text. text ++ draw settings second) h.1
      ∙ append_assoc a (draw settings first) (draw settings second)
      ∙ ap (λ text. a ++ text) (sym (draw-append settings first second)),
)
draws_both settings first second faults (Err refusal) a b c h (inl cause) = inl (cause-second settings first second h.0 faults ∙ cause)
draws_both settings first second faults (Err refusal) a b c h (inr memory) = inr (memory.0, row-second first second memory.1)

-- ---- single rows

wide-single : (settings : Settings) (row : Row) → draws_too_wide settings (row ∷ []) ≡ is_too_wide settings row
wide-single settings row = elim (is_too_wide settings row) as (λ b. (b || false) ≡ b) [ true ↦ refl | false ↦ refl ]

-- a span that isn't live has an empty path
pub path-if_live : (forest : Forest) (i : Id) → path_of_any forest (if_live forest (Some i)) ≡ path_of forest i
path-if_live forest i =
    elim (is_live forest i) as (λ b. is_live forest i ≡ b → path_of_any forest (if b then Some i else None) ≡ path_of forest i) [
      | true ↦ (λ e. refl)
      | false ↦ (λ e. sym (path_of-none forest i e))
    ] refl

-- a prefix of a string
cut-front : (n : ℕ) (front back whole : List ℕ) → n ≡ length front → whole ≡ front ++ back → take n whole ≡ front
cut-front n front back whole here e =
    ap (take n) e ∙ ap (λ k. take k (front ++ back)) here ∙ take-append_seam front back

-- a row was begun, and its block appended
pub row-begun : {Z : Type 0} (drawing : RowDrawing) (place : RowPlace) (old begun whole : String Z) (block : List ℕ) →
    place ≡ record { start = length (string_bytes old); block = length (string_bytes begun) } →
    is_too_wide drawing.config.now (row_of drawing []) ≡ false →
    string_bytes begun ≡ string_bytes old ++ row_start drawing.config.now (row_of drawing []) →
    string_bytes whole ≡ string_bytes begun ++ block → IsBegun drawing place (string_bytes whole)
row-begun drawing place old begun whole block here fits started filled =
    let first = row_start drawing.config.now (row_of drawing []) in
    let start : place.start ≡ length (string_bytes old) = ap (λ (p : RowPlace). p.start) here in
    let at : place.block ≡ length (string_bytes begun) = ap (λ (p : RowPlace). p.block) here in
    let both : string_bytes whole ≡ string_bytes old ++ (first ++ block) =
    filled ∙ ap (λ t. t ++ block) started ∙ append_assoc (string_bytes old) first block in
    let more : IsExtended (string_bytes old) (string_bytes begun) = record { front = first; appended = started } in
    let most : IsExtended (string_bytes begun) (string_bytes whole) = record { front = block; appended = filled } in
    record {
      fits = fits;
      start = cuts_back old whole place.start (start ∙ sym old.bytes.ok.0) (extended_twice _ _ _ more most);
      block = cuts_back begun whole place.block (at ∙ sym begun.bytes.ok.0) most;
      begun = cut-front place.block (string_bytes begun) block (string_bytes whole) at filled ∙ started
          ∙ ap (λ t. t ++ first) (sym (cut-front place.start (string_bytes old) (first ++ block) (string_bytes whole) start both));
    }

-- such a row is drawn, if it has this level
pub row-drawn : (settings : Settings) (row : Row) (drawing : RowDrawing) (place : RowPlace) (old begun whole new : List ℕ) →
    settings ≡ drawing.config.now → row_of drawing [] ≡ unnamed_row row.mode row.level [] row.prefix →
    place ≡ record { start = length old; block = length begun } →
    is_too_wide drawing.config.now (row_of drawing []) ≡ false →
    begun ≡ old ++ row_start drawing.config.now (row_of drawing []) → whole ≡ begun ++ row.block →
    new ≡ with_row drawing place whole → DrawsRows settings (row ∷ []) false (Ok tt) old new
row-drawn settings row drawing place old begun whole new same like here fits started filled drawn =
    let first = row_start drawing.config.now (row_of drawing []) in
    let before : take place.start whole ≡ old =
    cut-front place.start old (first ++ row.block) whole (ap (λ (p : RowPlace). p.start) here)
    (filled ∙ ap (λ t. t ++ row.block) started ∙ append_assoc old first row.block) in
    let block : drop place.block whole ≡ row.block = ap (drop place.block) filled
    ∙ ap (λ (p : RowPlace). drop p.block (begun ++ row.block)) here ∙ drop-append_seam begun row.block in
    let back : drawing.config.now ≡ settings = sym same in
    let alike : unnamed_row row.mode row.level [] row.prefix ≡ row_of drawing [] = sym like in
    let picture : new ≡ old ++ drawn_row settings row = drawn
    ∙ (λ i. before i ++ drawn_row (back i) (record (like i) { block = block i })) in (
      cause-narrow settings (row ∷ []) (wide-single settings row ∙ (λ i. is_too_wide (same i) (alike i)) ∙ fits),
      picture ∙ ap (λ rows. old ++ rows) (sym (append-nil (drawn_row settings row))),
    )

-- if one planned row is refused, they all are
pub planned_refused : (settings : Settings) (context : Context) (forest : Forest) (planned : List PlannedRow) (k : ℕ) (row : PlannedRow) (refusal : Refusal) (a b c : List ℕ) →
    DrawsRows settings (rows_of_planned settings context forest (take k planned)) false (Ok tt) a b →
    DrawsRows settings (row_of_planned settings context forest row ∷ []) false (Err refusal) b c →
    planned ≡ take k planned ++ row ∷ drop (suc k) planned →
    DrawsRows settings (rows_of_planned settings context forest planned) false (Err refusal) a c
planned_refused settings context forest planned k row refusal a b c before here split =
    let rows : List PlannedRow → List Row = rows_of_planned settings context forest in
    let first : List Row = rows (take k planned) in
    let one : List Row = row_of_planned settings context forest row ∷ [] in
    let rest : List Row = rows (drop (suc k) planned) in
    let both = draws_both settings first one false (Err refusal) a b c before here in
    let all = refuses_first settings (first ++ one) rest false refusal a c both in
    let same : rows planned ≡ (first ++ one) ++ rest =
    ap rows split ∙ map-append (row_of_planned settings context forest) (take k planned) (row ∷ drop (suc k) planned)
    ∙ sym (append_assoc first one rest) in
    let P : List Row → Type 0 = λ rs. DrawsRows settings rs false (Err refusal) a c in
    subst P (sym same) all

-- ---- turns

-- the rows of a turn are drawn, or refused
abbrev pub IsDrawn : Settings → List Row → Bool → Bool → Result (Unit {0}) Refusal → List ℕ → List ℕ → Type 0
IsDrawn settings rows faults quiet (Ok done) old new = DrawsRows settings rows faults (Ok done) old new
IsDrawn settings rows faults quiet (Err refusal) old new =
    IsUndrawn (rows_cause settings rows faults) quiet refusal

-- a call that takes memory may run out of it
loud-undrawn : (cause : Option Refusal) (quiet : Bool) (refusal : Refusal) → IsUndrawn cause quiet refusal → IsUndrawn cause false refusal
loud-undrawn cause quiet refusal (inl h) = inl h
loud-undrawn cause quiet refusal (inr memory) = inr (memory.0, refl)

-- a turn is drafted if its rows are drawn and it is its plan's turn
pub drafts : (settings : Settings) (context : Context) (forest : Forest) (turn : Turn) (quiet : Bool) (result : Result (Unit {0}) Refusal) (old new : List ℕ) (plan : PlanView) →
    turn_of_plan settings context forest plan ≡ turn → (has_no_row turn.rows ≡ false → quiet ≡ false) →
    DrawsRows settings (rows_of_planned settings context forest plan.rows) false result old new →
    Drafts settings forest turn false quiet result old new plan
drafts settings context forest turn quiet (Ok done) old new plan same loud h =
    let P : List Row → Type 0 = λ rows. DrawsRows settings rows false (Ok done) old new in
    (subst P (ap (λ (t : Turn). t.rows) same) h, ap (λ (t : Turn). t.forest) same, ap (λ (t : Turn). t.last) same)
drafts settings context forest turn quiet (Err refusal) old new plan same loud h =
    let P : List Row → Type 0 = λ rows. DrawsRows settings rows false (Err refusal) old new in
    let k : DrawsRows settings turn.rows false (Err refusal) old new = subst P (ap (λ (t : Turn). t.rows) same) h in
    by k
  where
    by : IsUndrawn (rows_cause settings turn.rows false) (has_no_row turn.rows) refusal → IsUndrawn (rows_cause settings turn.rows false) quiet refusal
    by (inl cause) = inl cause
    by (inr memory) = inr (memory.0, loud memory.1)

-- closes that draw a row are closes of a span
pub closes-loud : (settings : Settings) (context : Context) (ids : List Id) (forest : Forest) (last : Option Id) →
    has_no_row (turn_of_closes settings context ids forest last).rows ≡ false → has_no_id ids ≡ false
closes-loud settings context [] forest last h = cc
closes-loud settings context (i ∷ others) forest last h = refl

-- an event's row after the rows of its plan
pub drafts_event : (settings : Settings) (context : Context) (forest : Forest) (before : Turn) (row : Row) (faults : Bool) (result : Result (Unit {0}) Refusal) (a b c : List ℕ) (plan : PlanView) →
    turn_of_plan settings context forest plan ≡ before →
    DrawsRows settings (rows_of_planned settings context forest plan.rows) false (Ok tt) a b → DrawsRows settings (row ∷ []) faults result b c →
    Drafts settings forest (then_turn before (turn_of_row row)) faults false result a c plan
drafts_event settings context forest before row faults (Ok done) a b c plan same first second =
    let P : List Row → Type 0 = λ rows. DrawsRows settings (rows ++ row ∷ []) faults (Ok done) a c in
    let both = draws_both settings (rows_of_planned settings context forest plan.rows) (row ∷ []) faults (Ok done) a b c first second in
    (subst P (ap (λ (t : Turn). t.rows) same) both, ap (λ (t : Turn). t.forest) same, ap (λ (t : Turn). t.last) same)
drafts_event settings context forest before row faults (Err refusal) a b c plan same first second =
    let P : List Row → Type 0 = λ rows. DrawsRows settings (rows ++ row ∷ []) faults (Err refusal) a c in
    let both = draws_both settings (rows_of_planned settings context forest plan.rows) (row ∷ []) faults (Err refusal) a b c first second in
    let all : DrawsRows settings (before.rows ++ row ∷ []) faults (Err refusal) a c = subst P (ap (λ (t : Turn). t.rows) same) both in
    loud-undrawn (rows_cause settings (before.rows ++ row ∷ []) faults) (has_no_row (before.rows ++ row ∷ [])) refusal all

-- the rows of its plan are refused
pub refuses_event : (settings : Settings) (context : Context) (forest : Forest) (before : Turn) (row : Row) (faults : Bool) (refusal : Refusal) (a b : List ℕ) (plan : PlanView) →
    turn_of_plan settings context forest plan ≡ before →
    DrawsRows settings (rows_of_planned settings context forest plan.rows) false (Err refusal) a b →
    Drafts settings forest (then_turn before (turn_of_row row)) faults false (Err refusal) a b plan
refuses_event settings context forest before row faults refusal a b plan same first =
    let P : List Row → Type 0 = λ rows. DrawsRows settings (rows ++ row ∷ []) faults (Err refusal) a b in
    let refused = refuses_first settings (rows_of_planned settings context forest plan.rows) (row ∷ []) faults refusal a b first in
    let all : DrawsRows settings (before.rows ++ row ∷ []) faults (Err refusal) a b = subst P (ap (λ (t : Turn). t.rows) same) refused in
    loud-undrawn (rows_cause settings (before.rows ++ row ∷ []) faults) (has_no_row (before.rows ++ row ∷ [])) refusal all

-- an event whose width was tested is not too wide
pub fits-event : (settings : Settings) (timer : Clock) (forest : Forest) (event : Event) (context : Context) (depth level : ℕ) (tested : Result (Unit {0}) Refusal) →
    {done : Unit {0}} →
    depth ≡ event_depth forest event context → level ≡ (if settings.indent_lines then depth else depth - 1) →
    tested ≡ (if is_too_wide settings (unnamed_row EventMode level [] []) then Err TooWide else Ok tt) → tested ≡ Ok done →
    is_event_too_wide settings timer forest event context ≡ false
fits-event settings timer forest event context depth level tested deep at test ok =
    let same : level ≡ event_level settings (path_of_any forest (event_parent forest event context)) =
    at ∙ ap (λ d. if settings.indent_lines then d else d - 1) deep in
    ap (λ l. is_too_wide settings (unnamed_row EventMode l [] [])) (sym same) ∙ by (is_too_wide settings (unnamed_row EventMode level [] [])) (sym ok ∙ test)
  where
    by : {done : Unit {0}} → (wide : Bool) → Ok done ≡ (if wide then Err TooWide else Ok tt) → wide ≡ false
    by true e = absurd cc
    by false e = refl

-- ---- what is written

-- rows are refused since one is too wide, or since the timer has no string
cause-kind : (wide faults : Bool) (refusal : Refusal) → option_or (then_some wide TooWide) (then_some faults Timer) ≡ Some refusal →
    (refusal ≡ TooWide) ⊎ (refusal ≡ Timer)
cause-kind true faults refusal e = inl cc
cause-kind false true refusal e = inr cc
cause-kind false false refusal e = absurd cc

-- rows that aren't drawn leave the writer unchanged
undrawn : (settings : Settings) (rows : List Row) (faults quiet : Bool) (refusal : Refusal) (writer : SeenWriter) →
    IsUndrawn (rows_cause settings rows faults) quiet refusal → IsWritten settings rows faults quiet (Err refusal) writer writer
undrawn settings rows faults quiet refusal writer (inr (memory, some)) =
    let P : Refusal → Type 0 = λ r. IsWritten settings rows faults quiet (Err r) writer writer in
    subst P (sym memory) (record { answer = some; written = (Keeps-refl writer.bytes, refl) })
undrawn settings rows faults quiet refusal writer (inl cause) =
    let P : Refusal → Type 0 = λ r. IsWritten settings rows faults quiet (Err r) writer writer in
    elim (cause-kind (draws_too_wide settings rows) faults refusal cause) [
      | inl e ↦ subst P (sym e) (record { answer = cause ∙ ap (λ r. Some r) e; written = (Keeps-refl writer.bytes, refl) })
      | inr e ↦ subst P (sym e) (record { answer = cause ∙ ap (λ r. Some r) e; written = (Keeps-refl writer.bytes, refl) })
    ]

-- a string with a proper prefix isn't empty
pub cut-some : (text front : List ℕ) → IsCutShort text front → text ≢ []
cut-some text [] cut none = cut.cut (sym cut.whole ∙ none)
cut-some text (x ∷ front) cut none = let e = sym cut.whole ∙ none in cc

-- rows that were drawn and sent are written, or refused for an allowed cause
pub written : (settings : Settings) (rows : List Row) (faults quiet : Bool) (drawn sent : Result (Unit {0}) Refusal) (a b c : List ℕ) (old new : SeenWriter) →
    IsDrawn settings rows faults quiet drawn a b → a ≡ [] → Sends drawn sent b c old new →
    IsWritten settings rows faults quiet sent old new
written settings rows faults quiet (Ok done) (Ok also) a b c old new h none k =
    let text : b ≡ draw settings rows = h.1 ∙ ap (λ front. front ++ draw settings rows) none in
    let P : List ℕ → Type 0 = λ t. Appends old.bytes new.bytes t in
    record { answer = h.0; written = (subst P text k.0, k.1) }
written settings rows faults quiet (Ok done) (Err Writer) a b c old new h none k =
    let text : b ≡ draw settings rows = h.1 ∙ ap (λ front. front ++ draw settings rows) none in
    let P : List ℕ → Type 0 = λ t. LeavesCut t old new in
    let cut = subst P text k in
    record { answer = (h.0, cut-some (draw settings rows) cut.front cut.cut); written = cut }
written settings rows faults quiet (Ok done) (Err (NotHeld i)) a b c old new h none k = absurd k
written settings rows faults quiet (Ok done) (Err TooWide) a b c old new h none k = absurd k
written settings rows faults quiet (Ok done) (Err TooMany) a b c old new h none k = absurd k
written settings rows faults quiet (Ok done) (Err Memory) a b c old new h none k = absurd k
written settings rows faults quiet (Ok done) (Err Timer) a b c old new h none k = absurd k
written settings rows faults quiet (Ok done) (Err Failed) a b c old new h none k = absurd k
written settings rows faults quiet (Err refusal) sent a b c old new h none k =
    let P : Result (Unit {0}) Refusal → Type 0 = λ r. IsWritten settings rows faults quiet r old new in
    let Q : SeenWriter → Type 0 = λ w. IsWritten settings rows faults quiet (Err refusal) old w in
    subst P (sym k.0) (subst Q (sym k.1) (undrawn settings rows faults quiet refusal old h))

-- ---- a refused turn

-- a turn that is drafted is drawn
pub drafts-drawn : (settings : Settings) (forest : Forest) (turn : Turn) (faults quiet : Bool) (result : Result (Unit {0}) Refusal) (a b : List ℕ) (plan : PlanView) →
    Drafts settings forest turn faults quiet result a b plan → IsDrawn settings turn.rows faults quiet result a b
drafts-drawn settings forest turn faults quiet (Ok done) a b plan h = h.0
drafts-drawn settings forest turn faults quiet (Err refusal) a b plan h = h

-- a refusal leaves what there was
pub refused-same : {A : Type 0} → (sent : Result (Unit {0}) Refusal) (next before : A) → is_ok sent ≡ false → before ≡ when_ok sent next before
refused-same (Ok done) next before e = cc
refused-same (Err refusal) next before e = refl

-- a turn whose rows weren't written is refused
pub gives_up : {W FT : Type 0} → (see : W → SeenWriter) (settings : Settings) (forest : Forest) (turn : Turn) (faults quiet : Bool) (drawn sent : Result (Unit {0}) Refusal) (a b c : List ℕ) (plan : PlanView)
    (writer next : W) (timer : FT) (last : Option Id) (was failed : Bool) →
    Drafts settings forest turn faults quiet drawn a b plan → a ≡ [] → Sends drawn sent b c (see writer) (see next) →
    failed ≡ failed_by sent → is_ok sent ≡ false →
    DoesTurn see turn faults quiet sent
    (record { settings = settings; writer = writer; timer = timer; last = last; failed = was; unwritten = a })
    (record { settings = settings; writer = next; timer = timer; last = last; failed = failed; unwritten = c })
    forest forest
gives_up see settings forest turn faults quiet drawn sent a b c plan writer next timer last was failed drafts clear sends fails refused =
    let stays = refused-same sent turn.last last refused in
    record {
      written = written settings turn.rows faults quiet drawn sent a b c _ _ (drafts-drawn settings forest turn faults quiet drawn a b plan drafts) clear sends;
      layer = (λ i. record { settings = settings; writer = next; timer = timer; last = stays i; failed = fails i; unwritten = c });
      marked = refused-same sent turn.forest forest refused;
    }
