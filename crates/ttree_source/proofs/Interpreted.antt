-- What a source's lines mean, one line more, and what a run over them leaves at its end.
use Rattle.std.proofs.Common.{◌≡◌, ℕ, ◌+◌, Bool, true, false, List, [], ◌∷◌, ◌++◌, ◌-◌, take, Option, Some, None, IfSome, Result, Ok, Err, inl, inr, length, refl, sym, ap, subst, ◌∙◌, arith, append_assoc, append-nil, length-append}
use Rattle.std.specs.Prelude.{⊤, MatchOption, if◌then◌else◌, IsUtf8}
use Rattle.std.specs.Str.{is_utf8}
use Rattle.std.proofs.lemmas.Str.{is_utf8-from_IsUtf8, IsUtf8-from_is_utf8}
use Rattle.json.specs.Json.{Json, document}
use Rattle.tracing_tree_base.specs.declared.context.Refusal.{Refusal}
use Rattle.tracing_tree_layer.specs.declared.call.Call.{Call}
use Rattle.tracing_tree_layer.specs.declared.call.Reply.{Reply}
use Rattle.tracing_tree_lines.specs.Lines.Spelled.{input_lines}
use Rattle.tracing_tree_lines.specs.Lines.Reads.{ReadsNext, TakesLine}
use Rattle.tracing_tree_lines.specs.Lines.Reads.{is_from_outside}
use Rattle.tracing_tree_lines.specs.declared.lines.LineCause.{LineCause}
use Rattle.tracing_tree_lines.specs.declared.lines.LineFault.{LineFault}
use Rattle.tracing_tree_lines.specs.declared.lines.LineCause.TheVariants.{Settings as NoSettings, NotACall, Read, Memory, Refused}
use Rattle.ttree_source.specs.Noted.{AddsNotes, Note}
use Rattle.ttree_source.specs.declared.notes.Problem.{Problem}
use Rattle.ttree_source.specs.Source.{Accepts, Breaks, IgnoresValues, MakesSome, problem_of, note_of, noted_at, noted_lines, notes_of, source_after, CountsUnknown, EndsAt, Interpreted, InterpretsLine, InterpretsNext, MakesAll, MayEnd, Step, StopsIn, Emits, InterpretsAs, calls_of, interpret, interpret_line, interpreted_step, next_calls, next_unknown, nothing_interpreted, then_interpreted}
use Rattle.ttree_source.specs.declared.run.SourceRun.{SourceRun}
use Rattle.ttree_source.specs.declared.run.Judged.TheVariants.{End}
use Rattle.ttree_source.proofs.Ended.{IsOfNotes}
use Rattle.ttree_source.proofs.Noted.{adds_none, adds_then, not_noted, notes_more, take_all, take_first}
use Rattle.ttree_source.proofs.Accepted.{accepts_none, accepts_then, accepts_flushed, stops_after, stops_before, stops_more}

-- a line that isn't UTF-8
pub no_text : (line : List ℕ) → ¬ (IsUtf8 line) → is_utf8 line ≡ false
no_text line bad = elim (is_utf8 line) as (λ b. is_utf8 line ≡ b → b ≡ false) [
  | true ↦ (λ e. absurd (bad (IsUtf8-from_is_utf8 line e)))
  | false ↦ (λ e. refl)
] refl

module _ {S : Type 0} (takes : S → List ℕ → Option Json → Option (Step S)) where
  -- ---- lines after lines

  then_nothing : (h : Interpreted S) (source : S) → h ≡ then_interpreted (nothing_interpreted source) h
  then_nothing h source =
      let e : h.unknown ≡ 0 + h.unknown = omega arith in
      λ i. record { calls = h.calls; source = h.source; unknown = e i }

  then_then : (a b c : Interpreted S) → then_interpreted a (then_interpreted b c) ≡ then_interpreted (then_interpreted a b) c
  then_then a b c =
      let e : a.unknown + (b.unknown + c.unknown) ≡ (a.unknown + b.unknown) + c.unknown = omega arith in
      λ i. record { calls = sym (append_assoc a.calls b.calls c.calls) i; source = c.source; unknown = e i }

  pub interpret_append : (source : S) (first second : List (List ℕ)) →
      interpret takes source (first ++ second) ≡ then_interpreted (interpret takes source first) (interpret takes (interpret takes source first).source second)
  interpret_append source [] second = then_nothing (interpret takes source second) source
  interpret_append source (line ∷ lines) second =
      let interpreted : Interpreted S = interpret_line takes source line in
      let later : Interpreted S = interpret takes interpreted.source lines in
      ap (then_interpreted interpreted) (interpret_append interpreted.source lines second) ∙ then_then interpreted later (interpret takes later.source second)

  interpret_one : (source : S) (line : List ℕ) → interpret takes source (line ∷ []) ≡ interpret_line takes source line
  interpret_one source line =
      let interpreted : Interpreted S = interpret_line takes source line in
      let e : interpreted.unknown + 0 ≡ interpreted.unknown = omega arith in
      λ i. record { calls = append-nil interpreted.calls i; source = interpreted.source; unknown = e i }

  interpret_more : (source : S) (lines : List (List ℕ)) (line : List ℕ) →
      interpret takes source (lines ++ line ∷ []) ≡ then_interpreted (interpret takes source lines) (interpret_line takes (interpret takes source lines).source line)
  interpret_more source lines line =
      interpret_append source lines (line ∷ []) ∙ ap (then_interpreted (interpret takes source lines)) (interpret_one (interpret takes source lines).source line)

module _ {C : Type 0} (answers : Call → Result Reply Refusal → C → C → Type 0) (flushes : C → C → Type 0) where
  abbrev Made : List Call → C → C → Type 0
  Made = Accepts answers flushes

  outside : (cause : LineCause) (calls : List Call) (s : C) → is_from_outside cause ≡ true → Breaks answers cause calls s s
  outside NoSettings calls s h = cc
  outside NotACall calls s h = cc
  outside Read calls s h = refl
  outside Memory calls s h = refl
  outside (Refused refusal) calls s h = cc

  of_notes_breaks : (cause : LineCause) (calls : List Call) (s : C) → IsOfNotes cause → Breaks answers cause calls s s
  of_notes_breaks NoSettings calls s h = absurd h
  of_notes_breaks NotACall calls s h = refl
  of_notes_breaks Read calls s h = absurd h
  of_notes_breaks Memory calls s h = refl
  of_notes_breaks (Refused refusal) calls s h = absurd h

  -- all of these calls were accepted, and then the notes end the run
  stops_there : (calls : List Call) (cause : LineCause) (old new : C) → IsOfNotes cause → Made calls old new → StopsIn Made answers calls cause old new
  stops_there calls cause old new h made = record {
    made = calls;
    rest = [];
    split = append-nil calls;
    between = new;
    makes = made;
    breaks = of_notes_breaks cause [] new h;
  }

  module _ {S : Type 0} (takes : S → List ℕ → Option Json → Option (Step S)) where
    -- ---- one line

    -- a line that isn't UTF-8
    pub interprets_no_text : (line : List ℕ) (source : S) (s : C) → ¬ (IsUtf8 line) → InterpretsLine Made answers takes line source source (Ok false) s s
    interprets_no_text line source s bad =
        rw (no_text line bad) (accepts_none answers flushes s, refl, refl)

    -- a line that is UTF-8 does what its text and its value mean
    pub interprets_text : (line : List ℕ) (before after : S) (result : Result Bool LineCause) (old new : C) → IsUtf8 line →
        InterpretsAs Made answers (interpreted_step before (takes before line (document line))) after result old new → InterpretsLine Made answers takes line before after result old new
    interprets_text line before after result old new text h = rw (is_utf8-from_IsUtf8 line text) h

    -- a source that ignores values does the same without one
    pub interprets_anyway : (line : List ℕ) (value : Option Json) (before after : S) (result : Result Bool LineCause) (old new : C) → IgnoresValues takes before →
        InterpretsAs Made answers (interpreted_step before (takes before line None)) after result old new → InterpretsAs Made answers (interpreted_step before (takes before line value)) after result old new
    interprets_anyway line value before after result old new ignores h =
        subst (λ step. InterpretsAs Made answers (interpreted_step before step) after result old new) (sym (ignores line value)) h

  -- memory ran out before anything was made
  pub interprets_lacking : {S : Type 0} (interpreted : Interpreted S) (after : S) (s : C) → InterpretsAs Made answers interpreted after (Err Memory) s s
  interprets_lacking interpreted after s = stops_before answers flushes interpreted.calls Memory s refl

  -- an unknown line
  pub emits_nothing : {S : Type 0} (taken : Option (Step S)) (before after : S) (s : C) → Emits taken before after None → InterpretsAs Made answers (interpreted_step before taken) after (Ok false) s s
  emits_nothing None before after s h = (accepts_none answers flushes s, h, refl)
  emits_nothing (Some step) before after s h = absurd h

  -- the calls of a known line, made one after another
  pub emits_calls : {S : Type 0} (taken : Option (Step S)) (before after : S) (calls : List Call) (old new : C) →
      Emits taken before after (Some calls) → Made calls old new → InterpretsAs Made answers (interpreted_step before taken) after (Ok true) old new
  emits_calls None before after calls old new h k = absurd h
  emits_calls (Some step) before after calls old new h k =
      let P : List Call → Type 0 = λ c. Made c old new in
      (subst P h.0 k, h.1, refl)

  pub emits_stop : {S : Type 0} (taken : Option (Step S)) (before after : S) (calls : List Call) (cause : LineCause) (old new : C) →
      Emits taken before after (Some calls) → StopsIn Made answers calls cause old new → InterpretsAs Made answers (interpreted_step before taken) after (Err cause) old new
  emits_stop None before after calls cause old new h k = absurd h
  emits_stop (Some step) before after calls cause old new h k =
      let P : List Call → Type 0 = λ c. StopsIn Made answers c cause old new in
      subst P h.0 k

  module _ {S : Type 0} (takes : S → List ℕ → Option Json → Option (Step S)) where
    -- ---- the next line, or the end

    module _ (ends : S → List Call) (ended : S → S) where
      pub next_outside : (known left : Option (List ℕ)) (line : List ℕ) (before after : S) (cause : LineCause) (s : C) → is_from_outside cause ≡ true →
          InterpretsNext Made answers takes ends ended known left line before after (Err cause) s s
      next_outside None left line before after cause s h = ([], stops_before answers flushes [] cause s (outside cause [] s h))
      next_outside (Some input) left line before after cause s h = stops_before answers flushes _ cause s (outside cause _ s h)

      -- the end ends the run
      pub next_ends : (known left : Option (List ℕ)) (line : List ℕ) (before after : S) (cause : LineCause) (old new : C) →
          ReadsNext known left line (Ok false) → StopsIn Made answers (ends before) cause old new → InterpretsNext Made answers takes ends ended known left line before after (Err cause) old new
      next_ends None left line before after cause old new first h = (ends before, h)
      next_ends (Some input) left line before after cause old new first h =
          let Q : List (List ℕ) → Type 0 = λ lines. StopsIn Made answers (next_calls takes ends before lines) cause old new in
          subst Q (sym first) h

      pub next_stops : (known left : Option (List ℕ)) (line : List ℕ) (before after : S) (cause : LineCause) (old new : C) →
          TakesLine known left line → InterpretsLine Made answers takes line before after (Err cause) old new → InterpretsNext Made answers takes ends ended known left line before after (Err cause) old new
      next_stops None left line before after cause old new first h = ((interpret_line takes before line).calls, h)
      next_stops (Some input) None line before after cause old new first h = absurd first
      next_stops (Some input) (Some rest) line before after cause old new first h =
          let Q : List (List ℕ) → Type 0 = λ lines. StopsIn Made answers (next_calls takes ends before lines) cause old new in
          subst Q (sym first) h

    -- ---- the run so far

    module _ (value_problem : Option Json → Problem) where
      -- the calls of the lines before the others were made, and these lines led to the source
      pub record IsSoFar (lines others : List (List ℕ)) (begun source : S) (number unknown : ℕ) (noted notes : Option (List Note)) (old now : C) : Type 0 where
        pub before : List (List ℕ)
        pub split : before ++ others ≡ lines
        pub numbered : number ≡ length before + 1
        pub reached : (interpret takes begun before).source ≡ source
        pub counted : unknown ≡ (interpret takes begun before).unknown
        pub noted_is : AddsNotes (notes_of takes value_problem 1 begun before) noted notes
        pub makes : Made (interpret takes begun before).calls old now

      abbrev pub IsKnownSoFar : Option (List ℕ) → Option (List ℕ) → S → S → ℕ → ℕ → Option (List Note) → Option (List Note) → C → C → Type 0
      IsKnownSoFar None middle begun source number unknown noted notes old now = (calls : List Call) × Made calls old now
      IsKnownSoFar (Some input) None begun source number unknown noted notes old now = ⊥
      IsKnownSoFar (Some input) (Some rest) begun source number unknown noted notes old now =
          IsSoFar (input_lines input) (input_lines rest) begun source number unknown noted notes old now

      pub starts : (known : Option (List ℕ)) (source : S) (noted : Option (List Note)) (s : C) → IsKnownSoFar known known source source 1 0 noted noted s s
      starts None source noted s = ([], accepts_none answers flushes s)
      starts (Some input) source noted s = record {
        before = [];
        split = refl;
        numbered = refl;
        reached = refl;
        counted = refl;
        noted_is = adds_none noted;
        makes = accepts_none answers flushes s;
      }

      pub flushed : (known middle : Option (List ℕ)) (begun source : S) (number unknown : ℕ) (noted notes : Option (List Note)) (old now next : C) →
          IsKnownSoFar known middle begun source number unknown noted notes old now → Made [] now next → IsKnownSoFar known middle begun source number unknown noted notes old next
      flushed None middle begun source number unknown noted notes old now next (calls, made) h = (calls, accepts_flushed answers flushes calls old now next made h)
      flushed (Some x) None begun source number unknown noted notes old now next so_far h = absurd so_far
      flushed (Some x) (Some y) begun source number unknown noted notes old now next so_far h = record {
        before = so_far.before;
        split = so_far.split;
        numbered = so_far.numbered;
        reached = so_far.reached;
        counted = so_far.counted;
        noted_is = so_far.noted_is;
        makes = accepts_flushed answers flushes (interpret takes begun so_far.before).calls old now next so_far.makes h;
      }

      notes_of_more : (begun source : S) (before : List (List ℕ)) (line : List ℕ) (number unknown : ℕ) → number ≡ length before + 1 →
          (interpret takes begun before).source ≡ source → (interpret_line takes source line).unknown ≡ unknown →
          notes_of takes value_problem 1 begun (before ++ line ∷ []) ≡ notes_of takes value_problem 1 begun before ++ note_of value_problem number line unknown
      notes_of_more begun source before line number unknown numbered reached unknown_is =
          let earlier : List Note = notes_of takes value_problem 1 begun before in
          let place : 1 + length before ≡ number = omega (arith, numbered) in
          notes_more takes value_problem 1 begun before line
          ∙ ap (λ n. earlier ++ note_of value_problem n line (interpret_line takes (interpret takes begun before).source line).unknown) place
          ∙ ap (λ s. earlier ++ note_of value_problem number line (interpret_line takes s line).unknown) reached
          ∙ ap (λ n. earlier ++ note_of value_problem number line n) unknown_is

      -- one line more, and the note of it
      pub more : (known middle left : Option (List ℕ)) (line : List ℕ) (begun source after : S) (number unknown sum : ℕ) (is_known : Bool) → sum ≡ unknown + (if is_known then 0 else 1) →
          (noted notes left_notes : Option (List Note)) → AddsNotes (note_of value_problem number line (if is_known then 0 else 1)) notes left_notes → (old now next : C) →
          IsKnownSoFar known middle begun source number unknown noted notes old now → TakesLine middle left line × InterpretsLine Made answers takes line source after (Ok is_known) now next →
          IsKnownSoFar known left begun after (number + 1) sum noted left_notes old next
      more None middle left line begun source after number unknown sum is_known count noted notes left_notes note old now next (calls, earlier) (first, (made, left_is, unknown_is)) =
          (calls ++ (interpret_line takes source line).calls, accepts_then answers flushes calls (interpret_line takes source line).calls old now next earlier made)
      more (Some x) None left line begun source after number unknown sum is_known count noted notes left_notes note old now next so_far h = absurd so_far
      more (Some x) (Some y) None line begun source after number unknown sum is_known count noted notes left_notes note old now next so_far h = absurd h.0
      more (Some x) (Some y) (Some z) line begun source after number unknown sum is_known count noted notes left_notes note old now next so_far (first, (made, left_is, unknown_is)) =
          let before : Interpreted S = interpret takes begun so_far.before in
          let interpreted : Interpreted S = interpret_line takes source line in
          let P : S → Type 0 = λ s. interpret takes begun (so_far.before ++ line ∷ []) ≡ then_interpreted before (interpret_line takes s line) in
          let all : interpret takes begun (so_far.before ++ line ∷ []) ≡ then_interpreted before interpreted = subst P so_far.reached (interpret_more takes begun so_far.before line) in
          let Q : List Call → Type 0 = λ calls. Made calls old next in
          let N : List Note → Type 0 = λ notes. AddsNotes notes noted left_notes in
          record {
            before = so_far.before ++ line ∷ [];
            split = append_assoc so_far.before (line ∷ []) (input_lines z) ∙ ap (λ lines. so_far.before ++ lines) (sym first) ∙ so_far.split;
            numbered = omega (arith, so_far.numbered, length-append so_far.before (line ∷ []));
            reached = ap (λ (h : Interpreted S). h.source) all ∙ sym left_is;
            counted = count ∙ ap (λ n. n + (if is_known then 0 else 1)) so_far.counted ∙ ap (λ n. before.unknown + n) (sym unknown_is) ∙ sym (ap (λ (h : Interpreted S). h.unknown) all);
            noted_is = subst N (sym (notes_of_more begun source so_far.before line number (if is_known then 0 else 1) so_far.numbered so_far.reached unknown_is))
                (adds_then (notes_of takes value_problem 1 begun so_far.before) _ noted notes left_notes so_far.noted_is note);
            makes = subst Q (sym (ap (λ (h : Interpreted S). h.calls) all)) (accepts_then answers flushes before.calls interpreted.calls old now next so_far.makes made);
          }

      -- what was noted if a line ends the run, or the end does
      pub noted_outside : (known middle : Option (List ℕ)) (begun source : S) (number unknown : ℕ) (noted notes : Option (List Note)) (old now : C) →
          IsKnownSoFar known middle begun source number unknown noted notes old now → (cause : LineCause) → MayEnd cause 0 →
          IfSome known (λ input. AddsNotes (notes_of takes value_problem 1 begun
          (noted_lines (record { unknown = unknown; fault = Some (record { line = number; cause = cause }) }) (input_lines input))) noted notes)
      noted_outside None middle begun source number unknown noted notes old now so_far cause may = tt
      noted_outside (Some x) None begun source number unknown noted notes old now so_far cause may = absurd so_far
      noted_outside (Some x) (Some y) begun source number unknown noted notes old now so_far cause may =
          let N : List (List ℕ) → Type 0 = λ lines. AddsNotes (notes_of takes value_problem 1 begun lines) noted notes in
          let count : number - 1 + noted_at cause ≡ length so_far.before = omega (arith, so_far.numbered, not_noted cause may) in
          subst N (sym (ap (λ n. take n (input_lines x)) count ∙ ap (λ lines. take (length so_far.before) lines) (sym so_far.split) ∙ take_all so_far.before (input_lines y))) so_far.noted_is

      -- what was noted if the notes end the run, or if memory for a note runs out
      pub noted_last : (known middle left : Option (List ℕ)) (line : List ℕ) (begun source after : S) (number unknown : ℕ) (noted notes left_notes : Option (List Note)) (old now next : C) →
          IsKnownSoFar known middle begun source number unknown noted notes old now → TakesLine middle left line × InterpretsLine Made answers takes line source after (Ok false) now next →
          (cause : LineCause) → IsOfNotes cause → AddsNotes (take (noted_at cause) ((number, problem_of value_problem line) ∷ [])) notes left_notes →
          IfSome known (λ input. AddsNotes (notes_of takes value_problem 1 begun
          (noted_lines (record { unknown = unknown + 1; fault = Some (record { line = number; cause = cause }) }) (input_lines input))) noted left_notes)
      noted_last None middle left line begun source after number unknown noted notes left_notes old now next so_far h cause of_notes note = tt
      noted_last (Some x) None left line begun source after number unknown noted notes left_notes old now next so_far h cause of_notes note = absurd so_far
      noted_last (Some x) (Some y) None line begun source after number unknown noted notes left_notes old now next so_far h cause of_notes note = absurd h.0
      noted_last (Some x) (Some y) (Some z) line begun source after number unknown noted notes left_notes old now next so_far (first, (made, left_is, unknown_is)) NotACall of_notes note =
          let N : List (List ℕ) → Type 0 = λ lines. AddsNotes (notes_of takes value_problem 1 begun lines) noted left_notes in
          let M : List Note → Type 0 = λ notes. AddsNotes notes noted left_notes in
          let split : so_far.before ++ line ∷ input_lines z ≡ input_lines x = ap (λ lines. so_far.before ++ lines) (sym first) ∙ so_far.split in
          let count : number - 1 + 1 ≡ length so_far.before + 1 = omega (arith, so_far.numbered) in
          subst N (sym (ap (λ n. take n (input_lines x)) count ∙ ap (λ lines. take (length so_far.before + 1) lines) (sym split) ∙ take_first so_far.before line (input_lines z)))
          (subst M (sym (notes_of_more begun source so_far.before line number 1 so_far.numbered so_far.reached unknown_is))
          (adds_then (notes_of takes value_problem 1 begun so_far.before) _ noted notes left_notes so_far.noted_is note))
      noted_last (Some x) (Some y) (Some z) line begun source after number unknown noted notes left_notes old now next so_far h Memory of_notes note =
          let N : List (List ℕ) → Type 0 = λ lines. AddsNotes (notes_of takes value_problem 1 begun lines) noted left_notes in
          let M : List Note → Type 0 = λ notes. AddsNotes notes noted left_notes in
          let count : number - 1 + 0 ≡ length so_far.before = omega (arith, so_far.numbered) in
          subst N (sym (ap (λ n. take n (input_lines x)) count ∙ ap (λ lines. take (length so_far.before) lines) (sym so_far.split) ∙ take_all so_far.before (input_lines y)))
          (subst M (append-nil (notes_of takes value_problem 1 begun so_far.before))
          (adds_then (notes_of takes value_problem 1 begun so_far.before) [] noted notes left_notes so_far.noted_is note))
      noted_last (Some x) (Some y) (Some z) line begun source after number unknown noted notes left_notes old now next so_far h NoSettings of_notes note = absurd of_notes
      noted_last (Some x) (Some y) (Some z) line begun source after number unknown noted notes left_notes old now next so_far h Read of_notes note = absurd of_notes
      noted_last (Some x) (Some y) (Some z) line begun source after number unknown noted notes left_notes old now next so_far h (Refused refusal) of_notes note = absurd of_notes

    -- ---- the end of a run

    outside_counts : (cause : LineCause) (before here unknown : ℕ) → MayEnd cause 0 → unknown ≡ before → CountsUnknown cause before here unknown
    outside_counts NoSettings before here unknown h e = absurd h
    outside_counts NotACall before here unknown h e = absurd (omega (arith, h))
    outside_counts Read before here unknown h e = e
    outside_counts Memory before here unknown h e = inl e
    outside_counts (Refused refusal) before here unknown h e = e

    noted_counts : (cause : LineCause) (before here unknown : ℕ) → IsOfNotes cause → here ≡ 1 → unknown ≡ before → CountsUnknown cause before here (unknown + 1)
    noted_counts NoSettings before here unknown h one e = absurd h
    noted_counts NotACall before here unknown h one e = (one, ap (λ n. n + 1) e)
    noted_counts Read before here unknown h one e = absurd h
    noted_counts Memory before here unknown h one e = inr (ap (λ n. n + 1) e ∙ ap (λ n. before + n) (sym one))
    noted_counts (Refused refusal) before here unknown h one e = absurd h

    module _ (ends : S → List Call) where
      ends_with_rest : (source : S) (others : List (List ℕ)) (cause : LineCause) (old new : C) → StopsIn Made answers (next_calls takes ends source others) cause old new →
          StopsIn Made answers ((interpret takes source others).calls ++ ends (interpret takes source others).source) cause old new
      ends_with_rest source [] cause old new h = h
      ends_with_rest source (line ∷ others) cause old new h =
          let interpreted : Interpreted S = interpret_line takes source line in
          let later : Interpreted S = interpret takes interpreted.source others in
          let P : List Call → Type 0 = λ calls. StopsIn Made answers calls cause old new in
          subst P (sym (append_assoc interpreted.calls later.calls (ends later.source)))
          (stops_more answers flushes interpreted.calls (later.calls ++ ends later.source) cause old new h)

      -- a first part of all calls was made if a run ended early
      pub beginning : (lines : List (List ℕ)) (source : S) (run : SourceRun) (fault : LineFault) (old new : C) →
          EndsAt Made answers takes ends lines source run fault old new → StopsIn Made answers (calls_of takes ends source lines) fault.cause old new
      beginning lines source run fault old new h =
          let before : Interpreted S = interpret takes source h.before in
          let later : Interpreted S = interpret takes before.source h.others in
          let P : List Call → Type 0 = λ calls. StopsIn Made answers calls fault.cause old new in
          let Q : List (List ℕ) → Type 0 = λ lines. StopsIn Made answers (calls_of takes ends source lines) fault.cause old new in
          subst Q h.split (subst P
          (sym (ap (λ (h : Interpreted S). h.calls ++ ends h.source) (interpret_append takes source h.before h.others) ∙ append_assoc before.calls later.calls (ends later.source)))
          (stops_after answers flushes before.calls (later.calls ++ ends later.source) fault.cause old h.between new h.makes
          (ends_with_rest before.source h.others fault.cause h.between new h.stops)))

    module _ (value_problem : Option Json → Problem) (ends : S → List Call) (ended : S → S) where
      -- the next line ends the run, or the end does
      pub stops : (known middle left : Option (List ℕ)) (line : List ℕ) (begun source after : S) (number unknown : ℕ) (noted notes : Option (List Note)) (cause : LineCause) → MayEnd cause 0 → (old now next : C) →
          IsKnownSoFar value_problem known middle begun source number unknown noted notes old now → InterpretsNext Made answers takes ends ended middle left line source after (Err cause) now next →
          MatchOption known (MakesSome Made answers (Some cause) old next) (λ input. EndsAt Made answers takes ends (input_lines input) begun
          (record { unknown = unknown; fault = Some (record { line = number; cause = cause }) }) (record { line = number; cause = cause }) old next)
      stops None None left line begun source after number unknown noted notes cause may old now next (calls, made) (more, h) =
          (calls ++ more, stops_after answers flushes calls more cause old now next made h)
      stops None (Some y) left line begun source after number unknown noted notes cause may old now next (calls, made) h =
          (calls ++ next_calls takes ends source (input_lines y), stops_after answers flushes calls (next_calls takes ends source (input_lines y)) cause old now next made h)
      stops (Some x) None left line begun source after number unknown noted notes cause may old now next so_far h = absurd so_far
      stops (Some x) (Some y) left line begun source after number unknown noted notes cause may old now next so_far h =
          let before : Interpreted S = interpret takes begun so_far.before in
          let P : S → Type 0 = λ s. StopsIn Made answers (next_calls takes ends s (input_lines y)) cause now next in
          record {
            before = so_far.before;
            others = input_lines y;
            split = so_far.split;
            number = so_far.numbered;
            between = now;
            makes = so_far.makes;
            stops = subst P (sym so_far.reached) h;
            counts = outside_counts cause before.unknown (next_unknown takes before.source (input_lines y)) unknown may so_far.counted;
          }

      -- the notes end the run after an unknown line, or memory for a note runs out
      pub stops_noted : (known middle left : Option (List ℕ)) (line : List ℕ) (begun source after : S) (number unknown : ℕ) (noted notes : Option (List Note)) (cause : LineCause) → IsOfNotes cause → (old now next : C) →
          IsKnownSoFar value_problem known middle begun source number unknown noted notes old now →
          TakesLine middle left line × InterpretsLine Made answers takes line source after (Ok false) now next →
          MatchOption known (MakesSome Made answers (Some cause) old next) (λ input. EndsAt Made answers takes ends (input_lines input) begun
          (record { unknown = unknown + 1; fault = Some (record { line = number; cause = cause }) }) (record { line = number; cause = cause }) old next)
      stops_noted None middle left line begun source after number unknown noted notes cause of_notes old now next (calls, made) (first, (more, left_is, unknown_is)) =
          let interpreted : Interpreted S = interpret_line takes source line in
          (calls ++ interpreted.calls, stops_after answers flushes calls interpreted.calls cause old now next made (stops_there interpreted.calls cause now next of_notes more))
      stops_noted (Some x) None left line begun source after number unknown noted notes cause of_notes old now next so_far h = absurd so_far
      stops_noted (Some x) (Some y) None line begun source after number unknown noted notes cause of_notes old now next so_far h = absurd h.0
      stops_noted (Some x) (Some y) (Some z) line begun source after number unknown noted notes cause of_notes old now next so_far (first, (made, left_is, unknown_is)) =
          let before : Interpreted S = interpret takes begun so_far.before in
          let interpreted : Interpreted S = interpret_line takes source line in
          let P : S → Type 0 = λ s. StopsIn Made answers (interpret_line takes s line).calls cause now next in
          let Q : S → Type 0 = λ s. (interpret_line takes s line).unknown ≡ 1 in
          record {
            before = so_far.before;
            others = line ∷ input_lines z;
            split = ap (λ lines. so_far.before ++ lines) (sym first) ∙ so_far.split;
            number = so_far.numbered;
            between = now;
            makes = so_far.makes;
            stops = subst P (sym so_far.reached) (stops_there interpreted.calls cause now next of_notes made);
            counts = noted_counts cause before.unknown (interpret_line takes before.source line).unknown unknown of_notes (subst Q (sym so_far.reached) unknown_is) so_far.counted;
          }

      -- the end of the input is reached
      pub finishes : (known middle left : Option (List ℕ)) (line : List ℕ) (begun source after : S) (number unknown : ℕ) (noted notes : Option (List Note)) (old now next : C) →
          IsKnownSoFar value_problem known middle begun source number unknown noted notes old now → InterpretsNext Made answers takes ends ended middle left line source after (Ok End) now next →
          MatchOption known (MakesSome Made answers None old next) (λ input. Made (calls_of takes ends begun (input_lines input)) old next × (unknown ≡ (interpret takes begun (input_lines input)).unknown)
          × (after ≡ source_after takes ended begun (input_lines input)))
      finishes None middle left line begun source after number unknown noted notes old now next (calls, made) (none, more, left_is) =
          (calls ++ ends source, accepts_then answers flushes calls (ends source) old now next made more)
      finishes (Some x) None left line begun source after number unknown noted notes old now next so_far h = absurd so_far
      finishes (Some x) (Some y) left line begun source after number unknown noted notes old now next so_far h =
          let before : Interpreted S = interpret takes begun so_far.before in
          let whole : so_far.before ≡ input_lines x = sym (append-nil so_far.before) ∙ ap (λ lines. so_far.before ++ lines) (sym h.0) ∙ so_far.split in
          let P : S → Type 0 = λ s. Made (ends s) now next in
          let Q : List (List ℕ) → Type 0 = λ lines. Made (calls_of takes ends begun lines) old next × (unknown ≡ (interpret takes begun lines).unknown) × (after ≡ source_after takes ended begun lines) in
          subst Q whole (
            accepts_then answers flushes before.calls (ends before.source) old now next so_far.makes (subst P (sym so_far.reached) h.1),
            so_far.counted,
            h.2 ∙ ap ended (sym so_far.reached),
          )

      -- what was noted when the end of the input is reached
      pub noted_whole : (known middle left : Option (List ℕ)) (line : List ℕ) (begun source after : S) (number unknown : ℕ) (noted notes : Option (List Note)) (old now next : C) →
          IsKnownSoFar value_problem known middle begun source number unknown noted notes old now → InterpretsNext Made answers takes ends ended middle left line source after (Ok End) now next →
          IfSome known (λ input. AddsNotes (notes_of takes value_problem 1 begun (input_lines input)) noted notes)
      noted_whole None middle left line begun source after number unknown noted notes old now next so_far h = tt
      noted_whole (Some x) None left line begun source after number unknown noted notes old now next so_far h = absurd so_far
      noted_whole (Some x) (Some y) left line begun source after number unknown noted notes old now next so_far h =
          let whole : so_far.before ≡ input_lines x = sym (append-nil so_far.before) ∙ ap (λ lines. so_far.before ++ lines) (sym h.0) ∙ so_far.split in
          let N : List (List ℕ) → Type 0 = λ lines. AddsNotes (notes_of takes value_problem 1 begun lines) noted notes in
          subst N whole so_far.noted_is
