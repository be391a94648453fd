-- The bytes of a page are those of the accepted calls.
use Rattle.std.proofs.Common.{◌≡◌, ℕ, List, [], ◌∷◌, ◌++◌, Option, Some, None, Result, Ok, Err, sym, ap, ◌∙◌, subst}
use Rattle.std.proofs.KnownBytes.{Appends-nil, Appends-trans}
use Rattle.std.proofs.lemmas.List.{append-nil}
use Rattle.std.proofs.lemmas.List.Concat.{flat_map-append}
use Rattle.std.specs.Io.KnownBytes.{Appends, Keeps}
use Rattle.tracing_tree_base.specs.declared.context.Refusal.{Refusal}
use Rattle.tracing_tree_base.specs.declared.context.Refusal.TheVariants.{NotHeld, TooWide, TooMany, Memory, Timer, Writer, Failed}
use Rattle.tracing_tree_layer.specs.declared.call.Call.{Call}
use Rattle.tracing_tree_layer.specs.Layered.Answered.{Writes}
use Rattle.tracing_tree_output.specs.Writers.{SeenWriter}
use Rattle.ttree_page.specs.declared.form.LineForm.{LineForm}
use Rattle.ttree_page.specs.Lines.{step_line}
use Rattle.ttree_page.specs.Writing.{SeenSteps, WritesBytes, forest_after_answer, lines_of}
use Rattle.ttree_page.specs.Runs.{Answer, AnswersEach, EndsPage, IsNotWriter, OutputHeld, accepted_steps, page, steps_if}
use Rattle.ttree_page.specs.Steps.{About, End, steps_of}
use Rattle.tracing_tree_spans.specs.Registry.Forest.{Forest}

pub kept : (old new : Option (List ℕ)) → Keeps old new → Appends old new []
kept None new h = tt
kept (Some xs) None h = h
kept (Some xs) (Some ys) h = h ∙ sym (append-nil xs)

-- what one call wrote
pub wrote : (form : LineForm) (forest : Forest) (call : Call) (answer : Answer) (old new : SeenWriter) → IsNotWriter answer →
    Writes (lines_of form (steps_of forest call)) answer old new → Appends old.bytes new.bytes (lines_of form (steps_if forest call answer))
wrote form forest call (Ok reply) old new held h = h.0
wrote form forest call (Err (NotHeld i)) old new held h = kept old.bytes new.bytes h.0
wrote form forest call (Err TooWide) old new held h = kept old.bytes new.bytes h.0
wrote form forest call (Err TooMany) old new held h = kept old.bytes new.bytes h.0
wrote form forest call (Err Memory) old new held h = kept old.bytes new.bytes h.0
wrote form forest call (Err Timer) old new held h = kept old.bytes new.bytes h.0
wrote form forest call (Err Writer) old new held h = absurd held
wrote form forest call (Err Failed) old new held h = kept old.bytes new.bytes h.0

-- While the output takes everything, calls append the lines of the steps of the accepted ones.
pub run_is_written : (form : LineForm) (calls : List Call) (answers : List Answer) (old new : SeenSteps) → old.form ≡ form → OutputHeld answers → AnswersEach calls answers old new →
    Appends old.writer.bytes new.writer.bytes (lines_of form (accepted_steps old.forest calls answers))
run_is_written form [] [] old new same held h = subst (λ (seen : SeenSteps). Appends old.writer.bytes seen.writer.bytes []) (sym h) (Appends-nil old.writer.bytes)
run_is_written form [] (answer ∷ answers) old new same held h = absurd h
run_is_written form (call ∷ calls) [] old new same held h = absurd h
run_is_written form (call ∷ calls) (answer ∷ answers) old new same held (between, one, others) =
    let first = steps_if old.forest call answer in
    let later = run_is_written form calls answers between new (one.form ∙ same) held.1 others in
    let written = subst (λ (form : LineForm). Writes (lines_of form (steps_of old.forest call)) answer old.writer between.writer) same one.written in
    subst (λ (text : List ℕ). Appends old.writer.bytes new.writer.bytes text)
    (ap (λ (forest : Forest). lines_of form first ++ lines_of form (accepted_steps forest calls answers)) one.forest
    ∙ sym (flat_map-append (step_line form) first (accepted_steps (forest_after_answer old.forest call answer) calls answers)))
    (Appends-trans old.writer.bytes between.writer.bytes new.writer.bytes (lines_of form first) (lines_of form (accepted_steps between.forest calls answers))
    (wrote form old.forest call answer old.writer between.writer held.0 written) later)

-- A run keeps its form.
pub run_keeps_form : (calls : List Call) (answers : List Answer) (old new : SeenSteps) → AnswersEach calls answers old new → new.form ≡ old.form
run_keeps_form [] [] old new h = ap (λ (seen : SeenSteps). seen.form) h
run_keeps_form [] (answer ∷ answers) old new h = absurd h
run_keeps_form (call ∷ calls) [] old new h = absurd h
run_keeps_form (call ∷ calls) (answer ∷ answers) old new (between, one, others) = run_keeps_form calls answers between new others ∙ one.form

-- Begin, calls and end make a page.
page_ended : (tail : List ℕ) (old new : SeenSteps) → Writes {A = Unit {0}} (step_line old.form End ++ tail) (Ok tt) old.writer new.writer → EndsPage {A = Unit {0}} tail (Ok tt) old new
page_ended tail old new h head title calls answers fresh begun first emitted held =
    let form = fresh.form in
    let same : old.form ≡ form = run_keeps_form calls answers begun old emitted ∙ first.form in
    let steps = accepted_steps begun.forest calls answers in
    let last = subst (λ (form : LineForm). Writes {A = Unit {0}} (step_line form End ++ tail) (Ok tt) old.writer new.writer) same h in
    subst (λ (forest : Forest). Appends fresh.writer.bytes new.writer.bytes (page form head title (accepted_steps forest calls answers) tail)) first.forest
    (Appends-trans fresh.writer.bytes old.writer.bytes new.writer.bytes ((head ++ step_line form (About title)) ++ lines_of form steps) (step_line form End ++ tail)
    (Appends-trans fresh.writer.bytes begun.writer.bytes old.writer.bytes (head ++ step_line form (About title)) (lines_of form steps) first.written.0
    (run_is_written form calls answers begun old first.form held emitted)) last.0)

pub ends_page : (tail : List ℕ) (answer : Result (Unit {0}) Refusal) (old new : SeenSteps) → WritesBytes (step_line old.form End ++ tail) answer old new → EndsPage tail answer old new
ends_page tail (Err refusal) old new h = tt
ends_page tail (Ok done) old new h = page_ended tail old new h.written
