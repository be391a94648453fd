-- What the calls of a run write, one after another.
use Rattle.std.specs.Prelude.{◌≡◌, ℕ, List, [], ◌∷◌, ◌++◌, Result, Ok, Err, ⊤}
use Rattle.std.specs.Io.KnownBytes.{Appends}
use Rattle.tracing_tree_base.specs.declared.context.Refusal.{Refusal}
use Rattle.tracing_tree_base.specs.declared.context.Refusal.TheVariants.{Writer}
use Rattle.tracing_tree_layer.specs.declared.call.Call.{Call}
use Rattle.tracing_tree_layer.specs.declared.call.Reply.{Reply}
use Rattle.ttree_page.specs.declared.form.LineForm.{LineForm}
use Rattle.tracing_tree_output.specs.Writers.{SeenWriter}
use Rattle.ttree_page.specs.Lines.{step_line}
use Rattle.ttree_page.specs.Writing.{Answers, SeenSteps, WritesBytes, forest_after_answer, lines_of}
use Rattle.ttree_page.specs.Steps.{Step, About, End, steps_of}
use Rattle.tracing_tree_spans.specs.Registry.Forest.{Forest}

abbrev pub Answer : Type 0
Answer = Result Reply Refusal

-- one call after another is answered, each by its answer
abbrev pub AnswersEach : List Call → List Answer → SeenSteps → SeenSteps → Type 0
AnswersEach [] [] old new = new ≡ old
AnswersEach (call ∷ calls) (answer ∷ answers) old new =
    (between : SeenSteps) × Answers call answer old between × AnswersEach calls answers between new
AnswersEach calls answers old new = ⊥

-- the steps of a call, if it was accepted
abbrev pub steps_if : Forest → Call → Answer → List Step
steps_if forest call (Ok reply) = steps_of forest call
steps_if forest call (Err refusal) = []

-- the steps of the accepted calls, in their order
abbrev pub accepted_steps : Forest → List Call → List Answer → List Step
accepted_steps forest (call ∷ calls) (answer ∷ answers) =
    steps_if forest call answer
    ++ accepted_steps (forest_after_answer forest call answer) calls answers
accepted_steps forest calls answers = []

-- no call was refused for the output
abbrev pub IsNotWriter : Answer → Type 0
IsNotWriter (Err Writer) = ⊥
IsNotWriter answer = ⊤

abbrev pub OutputHeld : List Answer → Type 0
OutputHeld [] = ⊤
OutputHeld (answer ∷ answers) = IsNotWriter answer × OutputHeld answers

-- a whole page: the head, a line for each step, and the tail
abbrev pub page : LineForm → List ℕ → List ℕ → List Step → List ℕ → List ℕ
page form head title steps tail =
    (head ++ step_line form (About title)) ++ lines_of form steps ++ (step_line form End ++ tail)

-- If an end is written after a beginning and these calls, and the output took everything, then the
-- whole is the page of the steps of the accepted calls.
abbrev pub EndsPage : {A : Type 0} → List ℕ → Result A Refusal → SeenSteps → SeenSteps → Type 0
EndsPage tail (Err refusal) old new = ⊤
EndsPage tail (Ok done) old new =
    (head title : List ℕ) (calls : List Call) (answers : List Answer) (fresh begun : SeenSteps) →
    WritesBytes {A = Unit {0}} (head ++ step_line fresh.form (About title)) (Ok tt) fresh begun
    → AnswersEach calls answers begun old → OutputHeld answers
    → Appends fresh.writer.bytes new.writer.bytes
    (page fresh.form head title (accepted_steps fresh.forest calls answers) tail)

-- ---- after a fault of the output

-- the steps of the accepted calls before the first fault of the output, and those of its call
abbrev pub tried_steps : Forest → List Call → List Answer → List Step
tried_steps forest (call ∷ calls) (Err Writer ∷ answers) = steps_of forest call
tried_steps forest (call ∷ calls) (answer ∷ answers) =
    steps_if forest call answer
    ++ tried_steps (forest_after_answer forest call answer) calls answers
tried_steps forest calls answers = []

-- a prefix of a string was written
pub record WritesPrefix (text : List ℕ) (old new : SeenWriter) : Type 0 where
  pub front : List ℕ
  pub rest : List ℕ
  pub whole : text ≡ front ++ rest
  pub appends : Appends old.bytes new.bytes front

-- Whatever calls are made on an output without faults, a prefix is written of the lines of the
-- steps of the accepted calls and of the call at which the output failed.
abbrev pub RunsWritePrefixes : Type 0
RunsWritePrefixes =
    (calls : List Call) (answers : List Answer) (old new : SeenSteps) → old.writer.faults ≡ 0
    → AnswersEach calls answers old new
    → WritesPrefix (lines_of old.form (tried_steps old.forest calls answers)) old.writer new.writer
