-- What is written is a prefix of the lines of the calls, even if the output fails.
use Rattle.std.proofs.Common.{◌≡◌, ◌≢◌, ℕ, List, [], ◌∷◌, ◌++◌, Option, Some, None, Ok, Err, arith, refl, sym, ap, ◌∙◌, subst}
use Rattle.std.proofs.KnownBytes.{Appends-nil, Appends-trans}
use Rattle.std.proofs.lemmas.Bool.{ne_eqb}
use Rattle.std.specs.Prelude.{⊤}
use Rattle.std.proofs.lemmas.List.{append-nil, append_assoc}
use Rattle.std.proofs.lemmas.List.Concat.{flat_map-append}
use Rattle.std.specs.Io.KnownBytes.{Appends}
use Rattle.tracing_tree_base.specs.declared.context.Refusal.{Refusal}
use Rattle.tracing_tree_base.specs.declared.context.Refusal.TheVariants.{NotHeld, TooWide, TooMany, Memory, Timer, Writer, Failed}
use Rattle.tracing_tree_layer.specs.declared.call.Call.{Call}
use Rattle.tracing_tree_layer.specs.Layered.Answered.{Writes}
use Rattle.tracing_tree_output.specs.Writers.{LeavesCut, SeenWriter}
use Rattle.ttree_page.specs.declared.form.LineForm.{LineForm}
use Rattle.ttree_page.specs.Lines.{step_line}
use Rattle.ttree_page.specs.Writing.{Answers, SeenSteps, cause_of, forest_after_answer, lines_of}
use Rattle.ttree_page.specs.Runs.{Answer, AnswersEach, IsNotWriter, RunsWritePrefixes, WritesPrefix, steps_if, tried_steps}
use Rattle.ttree_page.specs.Steps.{steps_of}
use Rattle.ttree_page.proofs.Runs.{kept, wrote}
use Rattle.tracing_tree_spans.specs.Registry.Forest.{Forest}

-- ---- after a fault

-- a fault of the output is the first cause
failed_cause : (old : SeenSteps) (call : Call) → old.writer.faults ≢ 0 → cause_of old call ≡ Some Failed
failed_cause old call h = rw (ne_eqb old.writer.faults 0 h) refl

abbrev is_cause : Option Refusal → Type 0
is_cause None = ⊥
is_cause (Some refusal) = ⊤

none_some : (o : Option Refusal) → o ≡ Some Failed → o ≡ None → ⊥
none_some o h k = subst is_cause (sym h ∙ k) tt

-- then nothing is written
still : (form : LineForm) (old new : SeenSteps) (call : Call) (answer : Answer) → old.writer.faults ≢ 0 → Answers call answer old new →
    Appends old.writer.bytes new.writer.bytes [] × (new.writer.faults ≡ old.writer.faults)
still form old new call (Ok reply) h one = absurd (none_some (cause_of old call) (failed_cause old call h) one.allowed.0)
still form old new call (Err (NotHeld i)) h one = (kept old.writer.bytes new.writer.bytes one.written.0, one.written.1)
still form old new call (Err TooWide) h one = (kept old.writer.bytes new.writer.bytes one.written.0, one.written.1)
still form old new call (Err TooMany) h one = (kept old.writer.bytes new.writer.bytes one.written.0, one.written.1)
still form old new call (Err Memory) h one = absurd (none_some (cause_of old call) (failed_cause old call h) one.allowed.0)
still form old new call (Err Timer) h one = (kept old.writer.bytes new.writer.bytes one.written.0, one.written.1)
still form old new call (Err Writer) h one = absurd (none_some (cause_of old call) (failed_cause old call h) one.allowed.0)
still form old new call (Err Failed) h one = (kept old.writer.bytes new.writer.bytes one.written.0, one.written.1)

after_fault : (calls : List Call) (answers : List Answer) (old new : SeenSteps) → old.writer.faults ≢ 0 → AnswersEach calls answers old new →
    Appends old.writer.bytes new.writer.bytes []
after_fault [] [] old new failed h = subst (λ (seen : SeenSteps). Appends old.writer.bytes seen.writer.bytes []) (sym h) (Appends-nil old.writer.bytes)
after_fault [] (answer ∷ answers) old new failed h = absurd h
after_fault (call ∷ calls) [] old new failed h = absurd h
after_fault (call ∷ calls) (answer ∷ answers) old new failed (between, one, others) =
    let same = still old.form old between call answer failed one in
    Appends-trans old.writer.bytes between.writer.bytes new.writer.bytes [] [] same.0
    (after_fault calls answers between new (λ e. failed (sym same.1 ∙ e)) others)

-- ---- a run

-- a call that the output didn't refuse
tried : (forest : Forest) (call : Call) (calls : List Call) (answer : Answer) (answers : List Answer) → IsNotWriter answer →
    tried_steps forest (call ∷ calls) (answer ∷ answers) ≡ steps_if forest call answer ++ tried_steps (forest_after_answer forest call answer) calls answers
tried forest call calls (Ok reply) answers h = refl
tried forest call calls (Err (NotHeld i)) answers h = refl
tried forest call calls (Err TooWide) answers h = refl
tried forest call calls (Err TooMany) answers h = refl
tried forest call calls (Err Memory) answers h = refl
tried forest call calls (Err Timer) answers h = refl
tried forest call calls (Err Writer) answers h = absurd h
tried forest call calls (Err Failed) answers h = refl

-- it counts no fault
calm : (text : List ℕ) (answer : Answer) (old new : SeenWriter) → IsNotWriter answer → Writes text answer old new → new.faults ≡ old.faults
calm text (Ok reply) old new h w = w.1
calm text (Err (NotHeld i)) old new h w = w.1
calm text (Err TooWide) old new h w = w.1
calm text (Err TooMany) old new h w = w.1
calm text (Err Memory) old new h w = w.1
calm text (Err Timer) old new h w = w.1
calm text (Err Writer) old new h w = absurd h
calm text (Err Failed) old new h w = w.1

-- one string, and then a prefix of another
longer : (old between new : SeenWriter) (first later all : List ℕ) → Appends old.bytes between.bytes first → WritesPrefix later between new → all ≡ first ++ later →
    WritesPrefix all old new
longer old between new first later all h k e = record {
  front = first ++ k.front;
  rest = k.rest;
  whole = e ∙ ap (λ text. first ++ text) k.whole ∙ sym (append_assoc first k.front k.rest);
  appends = Appends-trans old.bytes between.bytes new.bytes first k.front h k.appends;
}

-- a truncated string, and then nothing
cut : (old between new : SeenWriter) (text : List ℕ) → LeavesCut text old between → Appends between.bytes new.bytes [] → WritesPrefix text old new
cut old between new text h k = record {
  front = h.front;
  rest = h.cut.rest;
  whole = h.cut.whole;
  appends = subst (λ (front : List ℕ). Appends old.bytes new.bytes front) (append-nil h.front) (Appends-trans old.bytes between.bytes new.bytes h.front [] h.appends k);
}

-- nothing at all
nothing : (form : LineForm) (old new : SeenSteps) → new ≡ old → WritesPrefix [] old.writer new.writer
nothing form old new h = record {
  front = [];
  rest = [];
  whole = refl;
  appends = subst (λ (seen : SeenSteps). Appends old.writer.bytes seen.writer.bytes []) (sym h) (Appends-nil old.writer.bytes);
}

-- the output took the first call
took : (form : LineForm) (call : Call) (calls : List Call) (answer : Answer) (answers : List Answer) (old between new : SeenSteps) → old.form ≡ form → old.writer.faults ≡ 0 →
    IsNotWriter answer → Answers call answer old between → AnswersEach calls answers between new →
    (between.form ≡ form → between.writer.faults ≡ 0 → AnswersEach calls answers between new → WritesPrefix (lines_of form (tried_steps between.forest calls answers)) between.writer new.writer) →
    WritesPrefix (lines_of form (tried_steps old.forest (call ∷ calls) (answer ∷ answers))) old.writer new.writer
took form call calls answer answers old between new same none held one others later =
    let first = steps_if old.forest call answer in
    let written = subst (λ (form : LineForm). Writes (lines_of form (steps_of old.forest call)) answer old.writer between.writer) same one.written in
    longer old.writer between.writer new.writer (lines_of form first) (lines_of form (tried_steps between.forest calls answers)) _
    (wrote form old.forest call answer old.writer between.writer held written)
    (later (one.form ∙ same) (calm (lines_of old.form (steps_of old.forest call)) answer old.writer between.writer held one.written ∙ none) others)
    (ap (lines_of form) (tried old.forest call calls answer answers held)
    ∙ flat_map-append (step_line form) first (tried_steps (forest_after_answer old.forest call answer) calls answers)
    ∙ ap (λ (forest : Forest). lines_of form first ++ lines_of form (tried_steps forest calls answers)) (sym one.forest))

-- the output failed at the first call
lost : (form : LineForm) (call : Call) (calls : List Call) (answers : List Answer) (old between new : SeenSteps) → old.form ≡ form → old.writer.faults ≡ 0 →
    Answers call (Err Writer) old between → AnswersEach calls answers between new → WritesPrefix (lines_of form (steps_of old.forest call)) old.writer new.writer
lost form call calls answers old between new same none one others =
    let broken = subst (λ (form : LineForm). LeavesCut (lines_of form (steps_of old.forest call)) old.writer between.writer) same one.written in
    cut old.writer between.writer new.writer (lines_of form (steps_of old.forest call)) broken
    (after_fault calls answers between new (λ e. omega (arith, sym broken.rose, e)) others)

run : (form : LineForm) (calls : List Call) (answers : List Answer) (old new : SeenSteps) → old.form ≡ form → old.writer.faults ≡ 0 → AnswersEach calls answers old new →
    WritesPrefix (lines_of form (tried_steps old.forest calls answers)) old.writer new.writer
run form [] [] old new same none h = nothing form old new h
run form [] (answer ∷ answers) old new same none h = absurd h
run form (call ∷ calls) [] old new same none h = absurd h
run form (call ∷ calls) (Ok reply ∷ answers) old new same none (between, one, others) =
    took form call calls (Ok reply) answers old between new same none tt one others (run form calls answers between new)
run form (call ∷ calls) (Err (NotHeld i) ∷ answers) old new same none (between, one, others) =
    took form call calls (Err (NotHeld i)) answers old between new same none tt one others (run form calls answers between new)
run form (call ∷ calls) (Err TooWide ∷ answers) old new same none (between, one, others) =
    took form call calls (Err TooWide) answers old between new same none tt one others (run form calls answers between new)
run form (call ∷ calls) (Err TooMany ∷ answers) old new same none (between, one, others) =
    took form call calls (Err TooMany) answers old between new same none tt one others (run form calls answers between new)
run form (call ∷ calls) (Err Memory ∷ answers) old new same none (between, one, others) =
    took form call calls (Err Memory) answers old between new same none tt one others (run form calls answers between new)
run form (call ∷ calls) (Err Timer ∷ answers) old new same none (between, one, others) =
    took form call calls (Err Timer) answers old between new same none tt one others (run form calls answers between new)
run form (call ∷ calls) (Err Writer ∷ answers) old new same none (between, one, others) =
    lost form call calls answers old between new same none one others
run form (call ∷ calls) (Err Failed ∷ answers) old new same none (between, one, others) =
    took form call calls (Err Failed) answers old between new same none tt one others (run form calls answers between new)

pub runs_write_prefixes : RunsWritePrefixes
runs_write_prefixes calls answers old new none h = run old.form calls answers old new refl none h
