-- The registry's refusals are those of the writer.
use Rattle.std.proofs.Common.{◌≡◌, ◌≢◌, ℕ, List, [], ◌∷◌, map, Option, Some, None, is_none, Err, refl, ap, subst}
use Rattle.std.specs.Option.{option_or}
use Rattle.std.specs.Prelude.{⊤}
use Rattle.std.specs.Bool.{then_some}
use Rattle.std.specs.Io.KnownBytes.{Keeps}
use Rattle.tracing_tree_base.specs.declared.context.Context.{Context}
use Rattle.tracing_tree_base.specs.declared.context.Id.{Id}
use Rattle.tracing_tree_base.specs.declared.context.Refusal.{Refusal}
use Rattle.tracing_tree_base.specs.declared.context.Refusal.TheVariants.{NotHeld, TooWide, TooMany, Memory, Timer, Writer, Failed}
use Rattle.tracing_tree_layer.specs.declared.call.Call.TheVariants as Calls
use Rattle.ttree_page.specs.Steps.{close_step, steps_of}
use Rattle.ttree_page.specs.Writing.{Answers, IsRefusedFor, SeenSteps, cause_of}
use Rattle.tracing_tree_spans.specs.Registry.Forest.{Forest, closing_of}
use Rattle.tracing_tree_spans.specs.Registry.Registered.{IsNewSpan, IsCloned, ListsClosing, missing_parent}
use Rattle.tracing_tree_spans.specs.declared.registry.Attributes.{Attributes}

-- a list with an element isn't empty
abbrev is_there : {A : Type 0} → List A → Type 0
is_there [] = ⊥
is_there (x ∷ xs) = ⊤

some_item : {A : Type 0} (x : A) (xs : List A) → x ∷ xs ≡ [] → ⊥
some_item x xs e = subst is_there e tt

-- an id is left
none_missing : (next : Option Id) → next ≢ None → then_some (is_none next) TooMany ≡ None
none_missing (Some i) h = refl
none_missing None h = absurd (h refl)

-- a new span with a live parent and an id
pub id_free : (old : SeenSteps) (attributes : Attributes) (context : Context) (i : Id) → old.writer.faults ≡ 0 →
    missing_parent old.forest attributes context ≡ None → old.forest.next ≡ Some i → cause_of old (Calls.New attributes context) ≡ None
id_free old attributes context i calm h k = rw (calm, h, k) refl

-- ---- the registry

pub new_refused : (old : SeenSteps) (attributes : Attributes) (context : Context) (refusal : Refusal) (new : Forest) → old.writer.faults ≡ 0 →
    IsNewSpan attributes context (Err refusal) old.forest new → IsRefusedFor (cause_of old (Calls.New attributes context)) (steps_of old.forest (Calls.New attributes context)) refusal
new_refused old attributes context (NotHeld i) new calm h = rw (calm, h.0) refl
new_refused old attributes context TooWide new calm h = absurd h
new_refused old attributes context TooMany new calm h = rw (calm, h.0, h.1) refl
new_refused old attributes context Memory new calm h = (rw (calm, h.0) (ap (λ (o : Option Refusal). option_or o None) (none_missing old.forest.next h.1)), some_item _ _)
new_refused old attributes context Timer new calm h = absurd h
new_refused old attributes context Writer new calm h = absurd h
new_refused old attributes context Failed new calm h = absurd h

pub clone_refused : (old : SeenSteps) (i : Id) (refusal : Refusal) (new : Forest) → old.writer.faults ≡ 0 → IsCloned i (Err refusal) old.forest new →
    IsRefusedFor (cause_of old (Calls.Clone i)) (steps_of old.forest (Calls.Clone i)) refusal
clone_refused old i (NotHeld j) new calm h = rw (calm, h.0) refl
clone_refused old i TooWide new calm h = absurd h
clone_refused old i TooMany new calm h = rw (calm, h.0, h.1) refl
clone_refused old i Memory new calm h = absurd h
clone_refused old i Timer new calm h = absurd h
clone_refused old i Writer new calm h = absurd h
clone_refused old i Failed new calm h = absurd h

-- the lines of spans that close
pub closes_some : (context : Context) (ids : List Id) → ids ≢ [] → map (close_step context) ids ≢ []
closes_some context [] h e = h refl
closes_some context (i ∷ ids) h e = some_item _ _ e

pub close_refused : (old : SeenSteps) (i : Id) (context : Context) (refusal : Refusal) → old.writer.faults ≡ 0 → ListsClosing i (Err refusal) old.forest →
    IsRefusedFor (cause_of old (Calls.Close i context)) (steps_of old.forest (Calls.Close i context)) refusal
close_refused old i context (NotHeld j) calm h = rw (calm, h) refl
close_refused old i context TooWide calm h = absurd h
close_refused old i context TooMany calm h = absurd h
close_refused old i context Memory calm h = (rw (calm, h.0) refl, closes_some context (closing_of old.forest i) h.1)
close_refused old i context Timer calm h = absurd h
close_refused old i context Writer calm h = absurd h
close_refused old i context Failed calm h = absurd h

-- ---- no id for a new span

keeps_same : (bytes : Option (List ℕ)) → Keeps bytes bytes
keeps_same None = tt
keeps_same (Some bytes) = refl

pub id_refused : (old : SeenSteps) (attributes : Attributes) (context : Context) (refusal : Refusal) → old.writer.faults ≡ 0 →
    IsNewSpan attributes context (Err refusal) old.forest old.forest → Answers (Calls.New attributes context) (Err refusal) old old
id_refused old attributes context (NotHeld i) calm h =
    record { allowed = new_refused old attributes context (NotHeld i) old.forest calm h; form = refl; forest = refl; written = (keeps_same old.writer.bytes, refl) }
id_refused old attributes context TooWide calm h = absurd h
id_refused old attributes context TooMany calm h =
    record { allowed = new_refused old attributes context TooMany old.forest calm h; form = refl; forest = refl; written = (keeps_same old.writer.bytes, refl) }
id_refused old attributes context Memory calm h =
    record { allowed = new_refused old attributes context Memory old.forest calm h; form = refl; forest = refl; written = (keeps_same old.writer.bytes, refl) }
id_refused old attributes context Timer calm h = absurd h
id_refused old attributes context Writer calm h = absurd h
id_refused old attributes context Failed calm h = absurd h
