-- What may end a run over a source.
use Rattle.std.proofs.Common.{◌≡◌, ℕ, ◌+◌, true, Result, Ok, Err, IfErr, subst, arith}
use Rattle.std.specs.Prelude.{⊤, MatchResult}
use Rattle.tracing_tree_lines.specs.Lines.Reads.{is_from_outside}
use Rattle.tracing_tree_lines.specs.declared.lines.LineCause.{LineCause}
use Rattle.tracing_tree_lines.specs.declared.lines.LineCause.TheVariants.{Settings as NoSettings, NotACall, Read, Memory, Refused}
use Rattle.ttree_source.specs.Source.{MayEnd}

-- what may end it without an unknown line may also end it after some
pub ends_line : (cause : LineCause) (unknown : ℕ) → MayEnd cause 0 → MayEnd cause unknown
ends_line NoSettings unknown h = h
ends_line NotACall unknown h = absurd (omega (arith, h))
ends_line Read unknown h = tt
ends_line Memory unknown h = tt
ends_line (Refused refusal) unknown h = tt

pub ends_outside : (cause : LineCause) → is_from_outside cause ≡ true → MayEnd cause 0
ends_outside NoSettings h = cc
ends_outside NotACall h = cc
ends_outside Read h = tt
ends_outside Memory h = tt
ends_outside (Refused refusal) h = cc

noted : (cause : LineCause) (unknown : ℕ) → cause ≡ NotACall → MayEnd cause (unknown + 1)
noted NotACall unknown e = omega arith
noted NoSettings unknown e = cc
noted Read unknown e = cc
noted Memory unknown e = cc
noted (Refused refusal) unknown e = cc

refused : (cause : LineCause) (unknown : ℕ) → cause ≡ Memory → MayEnd cause unknown
refused Memory unknown e = tt
refused NotACall unknown e = cc
refused NoSettings unknown e = cc
refused Read unknown e = cc
refused (Refused refusal) unknown e = cc

pub of_error : (result : Result ⊤ LineCause) (cause : LineCause) → result ≡ Err cause → result ≡ Err Memory → cause ≡ Memory
of_error (Ok done) cause is h = cc
of_error (Err other) cause is h = cc

-- the notes end it after an unknown line, or memory for a note runs out
pub ends_noted : {L E : Type 0} (problem : Result L E) (result : Result ⊤ LineCause) (cause : LineCause) (unknown : ℕ) →
    MatchResult problem (λ _. IfErr result (λ cause. cause ≡ NotACall)) (λ _. result ≡ Err Memory) → result ≡ Err cause → MayEnd cause (unknown + 1)
ends_noted (Ok problem) result cause unknown h is = noted cause unknown (subst (λ r. IfErr r (λ cause. cause ≡ NotACall)) is h)
ends_noted (Err e) result cause unknown h is = refused cause (unknown + 1) (of_error result cause is h)

-- the notes end a run for this cause, or memory for a note runs out
abbrev pub IsOfNotes : LineCause → Type 0
IsOfNotes NoSettings = ⊥
IsOfNotes NotACall = ⊤
IsOfNotes Read = ⊥
IsOfNotes Memory = ⊤
IsOfNotes (Refused refusal) = ⊥

by_notes : (cause : LineCause) → cause ≡ NotACall → IsOfNotes cause
by_notes NotACall e = tt
by_notes NoSettings e = cc
by_notes Read e = cc
by_notes Memory e = cc
by_notes (Refused refusal) e = cc

by_memory : (cause : LineCause) → cause ≡ Memory → IsOfNotes cause
by_memory Memory e = tt
by_memory NotACall e = cc
by_memory NoSettings e = cc
by_memory Read e = cc
by_memory (Refused refusal) e = cc

pub of_notes : {L E : Type 0} (problem : Result L E) (result : Result ⊤ LineCause) (cause : LineCause) →
    MatchResult problem (λ _. IfErr result (λ cause. cause ≡ NotACall)) (λ _. result ≡ Err Memory) → result ≡ Err cause → IsOfNotes cause
of_notes (Ok problem) result cause h is = by_notes cause (subst (λ r. IfErr r (λ cause. cause ≡ NotACall)) is h)
of_notes (Err e) result cause h is = by_memory cause (of_error result cause is h)
