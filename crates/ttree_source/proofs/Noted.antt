-- What a run noted of the lines that it skipped.
use Rattle.std.proofs.Common.{◌≡◌, ℕ, suc, ◌+◌, List, [], ◌∷◌, ◌++◌, Option, Some, None, IfOk, Result, Ok, Err, IfErr, length, take, refl, sym, ap, subst, ◌∙◌, arith, append_assoc, append-nil}
use Rattle.std.specs.Prelude.{⊤, MatchResult}
use Rattle.json.specs.Json.{Json}
use Rattle.tracing_tree_lines.specs.declared.lines.LineCause.{LineCause}
use Rattle.tracing_tree_lines.specs.declared.lines.LineCause.TheVariants.{Settings as NoSettings, NotACall, Read, Memory, Refused}
use Rattle.ttree_source.specs.Noted.{AddsNotes, Note, note_if}
use Rattle.ttree_source.specs.Source.{Interpreted, MayEnd, Step, interpret, interpret_line, note_of, noted_at, notes_of}
use Rattle.ttree_source.specs.declared.notes.Problem.{Problem}
use Rattle.ttree_source.proofs.Ended.{of_error}

pub adds_none : (old : Option (List Note)) → AddsNotes [] old old
adds_none None = tt
adds_none (Some old) = ap Some (sym (append-nil old))

pub adds_then : (first second : List Note) (old now next : Option (List Note)) → AddsNotes first old now → AddsNotes second now next → AddsNotes (first ++ second) old next
adds_then first second None now next h k = tt
adds_then first second (Some old) None next h k = cc
adds_then first second (Some old) (Some now) next h k =
    let P : Option (List Note) → Type 0 = λ it. AddsNotes second it next in
    let there : AddsNotes second (Some (old ++ first)) next = subst P h k in
    there ∙ ap Some (append_assoc old first second)

-- a line at which a run ended for another cause than the notes isn't noted
pub not_noted : (cause : LineCause) → MayEnd cause 0 → noted_at cause ≡ 0
not_noted NoSettings h = refl
not_noted NotACall h = absurd (omega (arith, h))
not_noted Read h = refl
not_noted Memory h = refl
not_noted (Refused refusal) h = refl

pub take_all : {A : Type 0} (xs ys : List A) → take (length xs) (xs ++ ys) ≡ xs
take_all [] ys = refl
take_all (x ∷ xs) ys = ap (λ zs. x ∷ zs) (take_all xs ys)

module _ {S : Type 0} (takes : S → List ℕ → Option Json → Option (Step S)) (value_problem : Option Json → Problem) where
  -- the notes of one line more
  pub notes_more : (number : ℕ) (source : S) (lines : List (List ℕ)) (line : List ℕ) →
      notes_of takes value_problem number source (lines ++ line ∷ [])
      ≡ notes_of takes value_problem number source lines
      ++ note_of value_problem (number + length lines) line (interpret_line takes (interpret takes source lines).source line).unknown
  notes_more number source [] line =
      let one : ℕ → List Note = λ n. note_of value_problem n line (interpret_line takes source line).unknown in
      append-nil (one number) ∙ ap one (omega arith)
  notes_more number source (first ∷ others) line =
      let interpreted : Interpreted S = interpret_line takes source first in
      let here : List Note = note_of value_problem number first interpreted.unknown in
      let last : List Note = note_of value_problem (number + 1 + length others) line (interpret_line takes (interpret takes interpreted.source others).source line).unknown in
      let one : ℕ → List Note = λ n. note_of value_problem n line (interpret_line takes (interpret takes interpreted.source others).source line).unknown in
      let place : number + 1 + length others ≡ number + length (first ∷ others) = omega arith in
      ap (λ notes. here ++ notes) (notes_more (number + 1) interpreted.source others line)
      ∙ sym (append_assoc here (notes_of takes value_problem (number + 1) interpreted.source others) last)
      ∙ ap (λ n. (here ++ notes_of takes value_problem (number + 1) interpreted.source others) ++ one n) place

pub take_first : {A : Type 0} (xs : List A) (y : A) (ys : List A) → take (length xs + 1) (xs ++ y ∷ ys) ≡ xs ++ y ∷ []
take_first [] y ys = refl
take_first (x ∷ xs) y ys =
    let count : length (x ∷ xs) + 1 ≡ suc (length xs + 1) = omega arith in
    ap (λ n. take n (x ∷ (xs ++ y ∷ ys))) count ∙ ap (λ zs. x ∷ zs) (take_first xs y ys)

module _ {E : Type 0} (number : ℕ) (wanted : Problem) where
  -- the run continues after a note
  pub note_made : (problem : Result Problem E) (result : Result ⊤ LineCause) (done : ⊤) →
      MatchResult problem (λ _. IfErr result (λ cause. cause ≡ NotACall)) (λ _. result ≡ Err Memory) → result ≡ Ok done →
      IfOk problem (λ problem. problem ≡ wanted) → note_if number problem ≡ (number, wanted) ∷ []
  note_made (Ok problem) result done h is e = ap (λ l. (number, l) ∷ []) e
  note_made (Err error) result done h is e = cc

  -- the notes end the run, or memory for a note runs out
  pub note_last : (problem : Result Problem E) (result : Result ⊤ LineCause) (cause : LineCause) →
      MatchResult problem (λ _. IfErr result (λ cause. cause ≡ NotACall)) (λ _. result ≡ Err Memory) → result ≡ Err cause →
      IfOk problem (λ problem. problem ≡ wanted) → note_if number problem ≡ take (noted_at cause) ((number, wanted) ∷ [])
  note_last (Ok problem) result cause h is e =
      let of_notes : cause ≡ NotACall = subst (λ r. IfErr r (λ cause. cause ≡ NotACall)) is h in
      ap (λ l. (number, l) ∷ []) e ∙ ap (λ c. take (noted_at c) ((number, wanted) ∷ [])) (sym of_notes)
  note_last (Err error) result cause h is e =
      let memory : cause ≡ Memory = of_error result cause is h in
      ap (λ c. take (noted_at c) ((number, wanted) ∷ [])) (sym memory)

-- a note by the number that a line has
pub noted_by_number : {E : Type 0} (problem : Result Problem E) (notes left : Option (List Note)) (number : ℕ) (more : List Note) (n : ℕ) →
    AddsNotes (note_if n problem) notes left → n ≡ number → note_if number problem ≡ more → AddsNotes more notes left
noted_by_number problem notes left number more n h place is =
    let P : ℕ → Type 0 = λ n. AddsNotes (note_if n problem) notes left in
    let Q : List Note → Type 0 = λ notes_made. AddsNotes notes_made notes left in
    subst Q is (subst P place h)
