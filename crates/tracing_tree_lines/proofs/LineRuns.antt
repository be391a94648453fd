-- Runs over lines: one line more, and what the run leaves at its end.
use Rattle.std.proofs.Common.{◌≡◌, Result, ℕ, ◌+◌, ◌<◌, ◌≤◌, true, false, not, List, [], ◌∷◌, ◌++◌, length, take, Option, Some, None, IfSome, Ok, Err, refl, sym, ap, subst, ◌∙◌, arith, append_assoc, append-nil, length-append}
use Rattle.std.specs.Prelude.{slice_get, Bool, filter}
use Rattle.std.specs.List.{AllZip}
use Rattle.std.proofs.lemmas.List.Elements.{filter-append}
use Rattle.std.specs.Io.KnownBytes.{Appends}
use Rattle.std.proofs.KnownBytes.{Appends-nil, Appends-trans, Appends-kept}
use Rattle.std.proofs.Math.Seq.{take-append_seam}
use Rattle.tracing_tree_drawing.specs.Format.Picture.{Row, draw}
use Rattle.tracing_tree_base.specs.declared.context.Refusal.{Refusal}
use Rattle.tracing_tree_base.specs.declared.context.Refusal.TheVariants as Refusals
use Rattle.tracing_tree_layer.specs.Layered.State.{State}
use Rattle.tracing_tree_output.specs.Writers.{SeenWriter}
use Rattle.tracing_tree_layer.specs.Layered.Seen.{Seen, seen_later}
use Rattle.tracing_tree_layer.specs.Layered.Step.{turn_of, reply_of, state_after}
use Rattle.tracing_tree_layer.specs.Layered.Refused.{cause_of}
use Rattle.tracing_tree_layer.specs.Layered.Run.{Run, run_by_cause, no_call, then_run, call_text}
use Rattle.tracing_tree_layer.specs.Layered.Answered.{IsAnswered, Writes}
use Rattle.tracing_tree_layer.specs.Layered.Headline.{run_from}
use Rattle.tracing_tree_lines.specs.Lines.Spelled.{input_lines, is_skipped, SpellsCall, SpellCalls}
use Rattle.tracing_tree_lines.specs.Lines.Runs.{AreAccepted, EndsRun, IsLeft, last_number, MakesCalls, RunsOver, CountsEnd}
use Rattle.tracing_tree_lines.specs.Lines.Reads.{TakesLine, HasNoLine, is_from_outside}
use Rattle.tracing_tree_layer.specs.Layer.Layers.{LayeredView, Changes, Flushes}
use Rattle.tracing_tree_lines.specs.Lines.SoFar.{IsSoFar, IsKnownSoFar, GoesOver, counted}
use Rattle.tracing_tree_lines.specs.Lines.Steps.{MakesCall, MakesSpelled, SkipsLine, FailsLine, JudgesLine, ShowsAndJudges, EndsLines}
use Rattle.tracing_tree_layer.specs.declared.call.Call.{Call}
use Rattle.tracing_tree_layer.specs.declared.call.Reply.{Reply}
use Rattle.tracing_tree_lines.specs.declared.lines.Judged.{Judged}
use Rattle.tracing_tree_lines.specs.declared.lines.Judged.TheVariants.{End, Skipped, Accepted}
use Rattle.tracing_tree_lines.specs.declared.lines.LineCause.{LineCause}
use Rattle.tracing_tree_lines.specs.declared.lines.Progress.{Progress}
use Rattle.tracing_tree_lines.specs.declared.lines.LineCause.TheVariants.{Settings as NoSettings, NotACall, Read, Memory, Refused}
use Rattle.tracing_tree_layer.proofs.DrawnLaws.{draw-append}
use Rattle.tracing_tree_layer.proofs.RunLaws.{run-append}
use Rattle.tracing_tree_lines.proofs.CallsMade.{none_made, made_once, accepted_more, accepted_flushed, accepted_unseen}

-- ---- one line

-- a line whose call was made
pub made_line : (old new : Seen) (known left : Option (List ℕ)) (line : List ℕ) (reply : Reply) → TakesLine known left line → is_skipped line ≡ false →
    MakesSpelled IsAnswered (SpellsCall line) (Ok reply) old new → JudgesLine known left (Ok Accepted) old new
made_line old new known left line reply first judged made = (reply, record { line = line; first = first; judged = judged; made = made })

-- a line whose call was not made
pub unmade_line : (old new : Seen) (known left : Option (List ℕ)) (line : List ℕ) (cause : LineCause) → TakesLine known left line → is_skipped line ≡ false →
    MakesSpelled IsAnswered (SpellsCall line) (Err cause) old new → JudgesLine known left (Err cause) old new
unmade_line old new known left line NoSettings first judged made = absurd made
unmade_line old new known left line NotACall first judged made = (record { line = line; first = first; nothing = (ap not judged, made.0) }, made.1)
unmade_line old new known left line Read first judged made = absurd made
unmade_line old new known left line Memory first judged made = made
unmade_line old new known left line (Refused refusal) first judged made = record { line = line; first = first; judged = judged; made = made }

-- a line that could not be read
pub outside_line : (known left : Option (List ℕ)) (cause : LineCause) (seen : Seen) → is_from_outside cause ≡ true → JudgesLine known left (Err cause) seen seen
outside_line known left NoSettings seen outside = cc
outside_line known left NotACall seen outside = cc
outside_line known left Read seen outside = refl
outside_line known left Memory seen outside = refl
outside_line known left (Refused refusal) seen outside = cc

-- the count of the writer's faults after a line that doesn't end the run
pub calm_line : (known left : Option (List ℕ)) (judged : Judged) (old new : Seen) → JudgesLine known left (Ok judged) old new →
    new.writer.faults ≡ old.writer.faults
calm_line known left End old new h = ap (λ (s : Seen). s.writer.faults) h.1
calm_line known left Skipped old new h = ap (λ (s : Seen). s.writer.faults) h.1
calm_line known left Accepted old new h = h.1.made.answered.written.1

-- the same after a line that ends the run
pub counts_line : (known left : Option (List ℕ)) (cause : LineCause) (old new : Seen) → JudgesLine known left (Err cause) old new →
    CountsEnd (Some cause) old.writer.faults new.writer.faults
counts_line known left NoSettings old new h = absurd h
counts_line known left NotACall old new h = ap (λ (s : Seen). s.writer.faults) h.1
counts_line known left Read old new h = ap (λ (s : Seen). s.writer.faults) h
counts_line known left Memory old new h = ap (λ (s : Seen). s.writer.faults) h
counts_line known left (Refused Refusals.Writer) old new h = h.made.answered.written.rose
counts_line known left (Refused (Refusals.NotHeld j)) old new h = h.made.answered.written.1
counts_line known left (Refused Refusals.TooWide) old new h = h.made.answered.written.1
counts_line known left (Refused Refusals.TooMany) old new h = h.made.answered.written.1
counts_line known left (Refused Refusals.Memory) old new h = h.made.answered.written.1
counts_line known left (Refused Refusals.Timer) old new h = h.made.answered.written.1
counts_line known left (Refused Refusals.Failed) old new h = h.made.answered.written.1

-- ---- encoded calls

abbrev is_judged : List ℕ → Bool
is_judged line = not (is_skipped line)

-- what is judged of these lines and one more
judged_more : (lines : List (List ℕ)) (line : List ℕ) → filter is_judged (lines ++ line ∷ []) ≡ filter is_judged lines ++ filter is_judged (line ∷ [])
judged_more lines line = filter-append is_judged lines (line ∷ [])

-- one more skipped line
spells_blank : (lines : List (List ℕ)) (calls : List Call) (line : List ℕ) → SpellCalls lines calls → is_skipped line ≡ true → SpellCalls (lines ++ line ∷ []) calls
spells_blank lines calls line h blank = rw (judged_more lines line, blank, append-nil (filter is_judged lines)) h

-- one pair more
zip_more : {A B : Type 0} (R : A → B → Type 0) (xs : List A) (ys : List B) (x : A) (y : B) → AllZip R xs ys → R x y → AllZip R (xs ++ x ∷ []) (ys ++ y ∷ [])
zip_more R [] [] x y all one = (one, tt)
zip_more R [] (z ∷ ys) x y all one = absurd all
zip_more R (w ∷ xs) [] x y all one = absurd all
zip_more R (w ∷ xs) (z ∷ ys) x y all one = (all.0, zip_more R xs ys x y all.1 one)

-- a line more that encodes a call
spells_call : (lines : List (List ℕ)) (calls : List Call) (line : List ℕ) (last : Call) → SpellCalls lines calls → is_skipped line ≡ false → SpellsCall line last →
    SpellCalls (lines ++ line ∷ []) (calls ++ last ∷ [])
spells_call lines calls line last h judged spelled = rw (judged_more lines line, judged) (zip_more SpellsCall (filter is_judged lines) calls line last h spelled)

-- ---- the run so far

module _ (first : Seen) where
  -- the run of an accepted call after that of other calls
  abbrev with_call : Run → Call → Run
  with_call r call = record {
    state = state_after first.settings first.timer r.state call;
    rows = r.rows ++ (turn_of first.settings first.timer r.state.forest r.state.last call).rows;
    replies = r.replies ++ reply_of r.state.forest call ∷ [];
  }

  -- one accepted call more
  run_one_more : (calls : List Call) (last : Call) → cause_of first.settings first.timer (run_from first calls).state last ≡ None →
      run_from first (calls ++ last ∷ []) ≡ with_call (run_from first calls) last
  run_one_more calls last none =
      let r : Run = run_from first calls in
      let added : List Row = (turn_of first.settings first.timer r.state.forest r.state.last last).rows in
      run-append first.settings first.timer first.state calls (last ∷ [])
      ∙ ap (λ cause. then_run r (λ state. then_run (run_by_cause first.settings first.timer state last cause) no_call)) none
      ∙ (λ i. record { state = state_after first.settings first.timer r.state last; rows = r.rows ++ append-nil added i; replies = r.replies ++ reply_of r.state.forest last ∷ [] })

  -- no line is judged yet
  pub starts : (Made : List Call → Type 0) → Made [] → (known : Option (List ℕ)) → IsKnownSoFar first Made known known 0 2 first
  starts Made none None = tt
  starts Made none (Some input) = record {
    done = [];
    apart = refl;
    number_is = refl;
    calls = [];
    spelled = tt;
    count = refl;
    left = refl;
    taken = refl;
    appends = Appends-nil first.writer.bytes;
    made = none;
  }

  -- one line more is done
  one_done : (lines done others after : List (List ℕ)) (line : List ℕ) → lines ≡ done ++ others → others ≡ line ∷ after → lines ≡ (done ++ line ∷ []) ++ after
  one_done lines done others after line apart e = apart ∙ ap (λ rest. done ++ rest) e ∙ sym (append_assoc done (line ∷ []) after)

  -- one more skipped line
  pub skips : (Made Next : List Call → Type 0) → ((calls : List Call) → Made calls → Next calls) →
      (known middle left : Option (List ℕ)) (accepted number : ℕ) (now next : Seen) →
      IsKnownSoFar first Made known middle accepted number now → SkipsLine middle left × (next ≡ now) → IsKnownSoFar first Next known left accepted (number + 1) next
  skips Made Next more None middle left accepted number now next so_far h = tt
  skips Made Next more (Some x) None left accepted number now next so_far h = absurd so_far
  skips Made Next more (Some x) (Some y) None accepted number now next so_far h = absurd h.0.first
  skips Made Next more (Some x) (Some y) (Some z) accepted number now next so_far h =
      let longer : IsSoFar first Next (input_lines x) (input_lines z) accepted (number + 1) now = record {
        done = so_far.done ++ h.0.line ∷ [];
        apart = one_done _ so_far.done _ _ h.0.line so_far.apart h.0.first;
        number_is = omega (arith, so_far.number_is, length-append so_far.done (h.0.line ∷ []));
        calls = so_far.calls;
        spelled = spells_blank so_far.done so_far.calls h.0.line so_far.spelled h.0.blank;
        count = so_far.count;
        left = so_far.left;
        taken = so_far.taken;
        appends = so_far.appends;
        made = more so_far.calls so_far.made;
      } in
      subst (IsSoFar first Next (input_lines x) (input_lines z) accepted (number + 1)) (sym h.1) longer

  -- the writer is flushed
  pub flushes : (Made Next : List Call → Type 0) → ((calls : List Call) → Made calls → Next calls) →
      (known middle : Option (List ℕ)) (accepted number : ℕ) (now next : Seen) →
      IsKnownSoFar first Made known middle accepted number now → Flushes now next → IsKnownSoFar first Next known middle accepted number next
  flushes Made Next more None middle accepted number now next so_far h = tt
  flushes Made Next more (Some x) None accepted number now next so_far h = absurd so_far
  flushes Made Next more (Some x) (Some y) accepted number now next so_far h = record {
    done = so_far.done;
    apart = so_far.apart;
    number_is = so_far.number_is;
    calls = so_far.calls;
    spelled = so_far.spelled;
    count = so_far.count;
    left = h.same ∙ (λ i. record (so_far.left i) { writer = record (so_far.left i).writer { bytes = next.writer.bytes } })
        ∙ ap (λ faults. seen_later first (run_from first so_far.calls).state (record next.writer { faults = faults })) (sym (ap (λ (s : Seen). s.writer.faults) h.same));
    taken = so_far.taken;
    appends = Appends-kept first.writer.bytes now.writer.bytes next.writer.bytes _ so_far.appends h.kept;
    made = more so_far.calls so_far.made;
  }

  -- the text of a call after the text of the run so far
  adds_call : (r : Run) (call : Call) (old mid new : Option (List ℕ)) → Appends old mid (draw first.settings r.rows) →
      Appends mid new (call_text first.settings first.timer r.state call) → Appends old new (draw first.settings (with_call r call).rows)
  adds_call r call old mid new before more =
      let added : List Row = (turn_of first.settings first.timer r.state.forest r.state.last call).rows in
      subst (Appends old new) (sym (draw-append first.settings r.rows added))
      (Appends-trans old mid new (draw first.settings r.rows) (draw first.settings added) before more)

  -- one more accepted call
  pub accepts : (Made Next : List Call → Type 0) (known middle left : Option (List ℕ)) (accepted number : ℕ) (now next : Seen) →
      IsKnownSoFar first Made known middle accepted number now → (h : (reply : Reply) × MakesCall middle left (Ok reply) now next) →
      ((calls : List Call) → Made calls → Next (calls ++ h.1.made.call ∷ [])) →
      IsKnownSoFar first Next known left (accepted + 1) (number + 1) next
  accepts Made Next None middle left accepted number now next so_far h more = tt
  accepts Made Next (Some x) None left accepted number now next so_far h more = absurd so_far
  accepts Made Next (Some x) (Some y) None accepted number now next so_far h more = absurd h.1.first
  accepts Made Next (Some x) (Some y) (Some z) accepted number now next so_far h more =
      let m = h.1 in
      let r : Run = run_from first so_far.calls in
      let from : IsAnswered m.made.call (Ok h.0) (seen_later first r.state now.writer) next =
      subst (λ s. IsAnswered m.made.call (Ok h.0) s next) so_far.left m.made.answered in
      let longer : run_from first (so_far.calls ++ m.made.call ∷ []) ≡ with_call r m.made.call = run_one_more so_far.calls m.made.call from.allowed.0 in
      record {
        done = so_far.done ++ m.line ∷ [];
        apart = one_done _ so_far.done _ _ m.line so_far.apart m.first;
        number_is = omega (arith, so_far.number_is, length-append so_far.done (m.line ∷ []));
        calls = so_far.calls ++ m.made.call ∷ [];
        spelled = spells_call so_far.done so_far.calls m.line m.made.call so_far.spelled m.judged m.made.spelled;
        count = omega (arith, so_far.count, length-append so_far.calls (m.made.call ∷ []));
        left = from.left ∙ ap (λ (r : Run). seen_later first r.state next.writer) (sym longer);
        taken = ap (λ (r : Run). length r.replies) longer
            ∙ omega (arith, so_far.taken, length-append so_far.calls (m.made.call ∷ []), length-append r.replies (reply_of r.state.forest m.made.call ∷ []));
        appends = subst (λ (r : Run). Appends first.writer.bytes next.writer.bytes (draw first.settings r.rows)) (sym longer)
            (adds_call r m.made.call first.writer.bytes now.writer.bytes next.writer.bytes so_far.appends from.written.0);
        made = more so_far.calls so_far.made;
      }

  -- ---- the end of a run

  -- the run came to this line, and this cause may end it there
  abbrev MayEndAt : ℕ → LineCause → Type 0
  MayEndAt number cause = (number ≤ last_number) × (number ≡ last_number → cause ≡ Read)

  -- at an earlier line each cause may
  may_end : (number : ℕ) (cause : LineCause) → number < last_number → MayEndAt number cause
  may_end number cause below = (omega (arith, below), λ last. absurd (omega (arith, below, last)))

  -- the line after others
  line_behind : (done after : List (List ℕ)) (line : List ℕ) → slice_get (done ++ line ∷ after) (length done) ≡ Some line
  line_behind [] after line = refl
  line_behind (other ∷ done) after line = line_behind done after line

  -- a fault from outside leaves nothing, whatever the line is
  left_outside : (state : State) (line : Option (List ℕ)) (cause : LineCause) → is_from_outside cause ≡ true →
      IsLeft first.settings first.timer state first.writer.whole (Some cause) line []
  left_outside state line NoSettings outside = refl
  left_outside state line NotACall outside = refl
  left_outside state line Read outside = refl
  left_outside state line Memory outside = refl
  left_outside state line (Refused refusal) outside = cc

  -- it may end a run at any line
  ends_outside : (state : State) (line : Option (List ℕ)) (cause : LineCause) → is_from_outside cause ≡ true → EndsRun first.settings first.timer state line cause
  ends_outside state line NoSettings outside = cc
  ends_outside state line NotACall outside = cc
  ends_outside state line Read outside = tt
  ends_outside state line Memory outside = tt
  ends_outside state line (Refused refusal) outside = cc

  -- what was written stays if nothing has changed
  kept : (now next : Seen) (text : List ℕ) → next ≡ now → Appends first.writer.bytes now.writer.bytes text →
      Appends first.writer.bytes next.writer.bytes (text ++ [])
  kept now next text e h =
      let P : Seen → Type 0 = λ s. Appends first.writer.bytes s.writer.bytes (text ++ []) in
      subst P (sym e) (subst (Appends first.writer.bytes now.writer.bytes) (sym (append-nil text)) h)

  -- the end of the input
  pub finishes : (Made : List Call → Type 0) (Makes : Option LineCause → Option (List ℕ) → List Call → Type 0) → ((line : Option (List ℕ)) (calls : List Call) → Made calls → Makes None line calls) →
      (known middle : Option (List ℕ)) (accepted number : ℕ) (now next : Seen) → number < last_number →
      IsKnownSoFar first Made known middle accepted number now → HasNoLine middle × (next ≡ now) →
      IfSome known (λ input. RunsOver (input_lines input) accepted None first next.writer Makes)
  finishes Made Makes more None middle accepted number now next below so_far h = tt
  finishes Made Makes more (Some x) None accepted number now next below so_far h = absurd so_far
  finishes Made Makes more (Some x) (Some y) accepted number now next below so_far h =
      let lines = input_lines x in
      let all : lines ≡ so_far.done = so_far.apart ∙ ap (λ rest. so_far.done ++ rest) h.0 ∙ append-nil so_far.done in
      record {
        judged = length so_far.done;
        within = omega (arith, ap length all);
        cause = None;
        blamed = refl;
        counted = omega (arith, so_far.number_is, below);
        unjudged = λ last. tt;
        calls = so_far.calls;
        spelled = subst (λ front. SpellCalls front so_far.calls) (sym (ap (take (length so_far.done)) so_far.apart ∙ take-append_seam so_far.done _)) so_far.spelled;
        count = so_far.count;
        taken = so_far.taken;
        all = λ none. sym (ap length all);
        ends = tt;
        front = [];
        left = refl;
        appends = kept now next _ h.1 so_far.appends;
        made = more _ so_far.calls so_far.made;
      }

  -- a fault from outside
  pub breaks : (Made : List Call → Type 0) (Makes : Option LineCause → Option (List ℕ) → List Call → Type 0) (cause : LineCause) → ((line : Option (List ℕ)) (calls : List Call) → Made calls → Makes (Some cause) line calls) →
      (known middle : Option (List ℕ)) (accepted number : ℕ) (now next : Seen) → is_from_outside cause ≡ true →
      MayEndAt number cause → IsKnownSoFar first Made known middle accepted number now → next ≡ now →
      IfSome known (λ input. RunsOver (input_lines input) accepted (Some (record { line = number; cause = cause })) first next.writer Makes)
  breaks Made Makes cause more None middle accepted number now next outside reached so_far same = tt
  breaks Made Makes cause more (Some x) None accepted number now next outside reached so_far same = absurd so_far
  breaks Made Makes cause more (Some x) (Some y) accepted number now next outside reached so_far same = record {
    judged = length so_far.done;
    within = omega (arith, ap length so_far.apart, length-append so_far.done (input_lines y));
    cause = Some cause;
    blamed = ap (λ line. Some (record { line = line; cause = cause })) so_far.number_is;
    counted = omega (arith, so_far.number_is, reached.0);
    unjudged = λ last. reached.1 (so_far.number_is ∙ last);
    calls = so_far.calls;
    spelled = subst (λ front. SpellCalls front so_far.calls) (sym (ap (take (length so_far.done)) so_far.apart ∙ take-append_seam so_far.done _)) so_far.spelled;
    count = so_far.count;
    taken = so_far.taken;
    all = λ none. cc;
    ends = ends_outside (run_from first so_far.calls).state _ cause outside;
    front = [];
    left = left_outside (run_from first so_far.calls).state _ cause outside;
    appends = kept now next _ same so_far.appends;
    made = more _ so_far.calls so_far.made;
  }

  -- a line that was read whole is to blame
  blames : (Made : List Call → Type 0) (Makes : Option LineCause → Option (List ℕ) → List Call → Type 0) (lines others after : List (List ℕ)) (line : List ℕ) (accepted number : ℕ) (now next : Seen) (cause : LineCause) (front : List ℕ) →
      number < last_number → (so_far : IsSoFar first Made lines others accepted number now) → others ≡ line ∷ after →
      EndsRun first.settings first.timer (run_from first so_far.calls).state (Some line) cause →
      IsLeft first.settings first.timer (run_from first so_far.calls).state first.writer.whole (Some cause) (Some line) front →
      Appends now.writer.bytes next.writer.bytes front → Makes (Some cause) (Some line) so_far.calls →
      RunsOver lines accepted (Some (record { line = number; cause = cause })) first next.writer Makes
  blames Made Makes lines others after line accepted number now next cause front below so_far e ends left appends makes =
      let r : Run = run_from first so_far.calls in
      let apart : lines ≡ so_far.done ++ line ∷ after = so_far.apart ∙ ap (λ rest. so_far.done ++ rest) e in
      let at : slice_get lines (length so_far.done) ≡ Some line =
      ap (λ whole. slice_get whole (length so_far.done)) apart ∙ line_behind so_far.done after line in
      record {
        judged = length so_far.done;
        within = omega (arith, ap length so_far.apart, length-append so_far.done others);
        cause = Some cause;
        blamed = ap (λ line. Some (record { line = line; cause = cause })) so_far.number_is;
        counted = omega (arith, so_far.number_is, below);
        unjudged = λ last. absurd (omega (arith, so_far.number_is, below, last));
        calls = so_far.calls;
        spelled = subst (λ front. SpellCalls front so_far.calls) (sym (ap (take (length so_far.done)) so_far.apart ∙ take-append_seam so_far.done _)) so_far.spelled;
        count = so_far.count;
        taken = so_far.taken;
        all = λ none. cc;
        ends = subst (λ o. EndsRun first.settings first.timer r.state o cause) (sym at) ends;
        front = front;
        left = subst (λ o. IsLeft first.settings first.timer r.state first.writer.whole (Some cause) o front) (sym at) left;
        appends = Appends-trans first.writer.bytes now.writer.bytes next.writer.bytes _ front so_far.appends appends;
        made = subst (λ o. Makes (Some cause) o so_far.calls) (sym at) makes;
      }

  -- what a refused call leaves after the text
  leaves : (state : State) (line : List ℕ) (call : Call) (refusal : Refusal) (old new : SeenWriter) → SpellsCall line call →
      Writes {A = Reply} (call_text first.settings first.timer state call) (Err refusal) old new →
      (front : List ℕ) × IsLeft first.settings first.timer state old.whole (Some (Refused refusal)) (Some line) front × Appends old.bytes new.bytes front
  leaves state line call Refusals.Writer old new spelled h = (h.front, (call, spelled, h.cut, h.nothing), h.appends)
  leaves state line call (Refusals.NotHeld j) old new spelled h = ([], refl, Appends-kept old.bytes old.bytes new.bytes [] (Appends-nil old.bytes) h.0)
  leaves state line call Refusals.TooWide old new spelled h = ([], refl, Appends-kept old.bytes old.bytes new.bytes [] (Appends-nil old.bytes) h.0)
  leaves state line call Refusals.TooMany old new spelled h = ([], refl, Appends-kept old.bytes old.bytes new.bytes [] (Appends-nil old.bytes) h.0)
  leaves state line call Refusals.Memory old new spelled h = ([], refl, Appends-kept old.bytes old.bytes new.bytes [] (Appends-nil old.bytes) h.0)
  leaves state line call Refusals.Timer old new spelled h = ([], refl, Appends-kept old.bytes old.bytes new.bytes [] (Appends-nil old.bytes) h.0)
  leaves state line call Refusals.Failed old new spelled h = ([], refl, Appends-kept old.bytes old.bytes new.bytes [] (Appends-nil old.bytes) h.0)

  -- a line that encodes nothing
  pub fails : (Made : List Call → Type 0) (Makes : Option LineCause → Option (List ℕ) → List Call → Type 0) → ((line : Option (List ℕ)) (calls : List Call) → Made calls → Makes (Some NotACall) line calls) →
      (known middle left : Option (List ℕ)) (accepted number : ℕ) (now next : Seen) → number < last_number →
      IsKnownSoFar first Made known middle accepted number now → FailsLine middle left × (next ≡ now) →
      IfSome known (λ input. RunsOver (input_lines input) accepted (Some (record { line = number; cause = NotACall })) first next.writer Makes)
  fails Made Makes more None middle left accepted number now next below so_far h = tt
  fails Made Makes more (Some x) None left accepted number now next below so_far h = absurd so_far
  fails Made Makes more (Some x) (Some y) None accepted number now next below so_far h = absurd h.0.first
  fails Made Makes more (Some x) (Some y) (Some z) accepted number now next below so_far h =
      let P : Seen → Type 0 = λ s. Appends now.writer.bytes s.writer.bytes [] in
      blames Made Makes (input_lines x) (input_lines y) (input_lines z) h.0.line accepted number now next NotACall [] below so_far h.0.first h.0.nothing refl
      (subst P (sym h.1) (Appends-nil now.writer.bytes)) (more (Some h.0.line) so_far.calls so_far.made)

  -- a line whose call is refused
  pub refuses : (Made : List Call → Type 0) (Makes : Option LineCause → Option (List ℕ) → List Call → Type 0) (known middle left : Option (List ℕ)) (accepted number : ℕ) (now next : Seen) (refusal : Refusal) →
      number < last_number → IsKnownSoFar first Made known middle accepted number now → (m : MakesCall middle left (Err refusal) now next) →
      ((calls : List Call) → Made calls → Makes (Some (Refused refusal)) (Some m.line) calls) →
      IfSome known (λ input. RunsOver (input_lines input) accepted (Some (record { line = number; cause = Refused refusal })) first next.writer Makes)
  refuses Made Makes None middle left accepted number now next refusal below so_far m more = tt
  refuses Made Makes (Some x) None left accepted number now next refusal below so_far m more = absurd so_far
  refuses Made Makes (Some x) (Some y) None accepted number now next refusal below so_far m more = absurd m.first
  refuses Made Makes (Some x) (Some y) (Some z) accepted number now next refusal below so_far m more =
      let r : Run = run_from first so_far.calls in
      let from : IsAnswered m.made.call (Err refusal) (seen_later first r.state now.writer) next =
      subst (λ s. IsAnswered m.made.call (Err refusal) s next) so_far.left m.made.answered in
      let (front, left, appends) = leaves r.state m.line m.made.call refusal (seen_later first r.state now.writer).writer next.writer m.made.spelled from.written in
      blames Made Makes (input_lines x) (input_lines y) (input_lines z) m.line accepted number now next (Refused refusal) front below so_far m.first
      (m.made.call, m.made.spelled, from.allowed) left appends (more so_far.calls so_far.made)

-- ---- a registry with a layer

module _ {W FT : Type 0} (see : LayeredView W FT → Seen) where
  -- the calls that were accepted from the first on
  abbrev AcceptedTo : LayeredView W FT → LayeredView W FT → List Call → Type 0
  AcceptedTo first now calls = AreAccepted see calls first now

  -- the calls that were made, by the cause and the line that end the run
  abbrev Ends : LayeredView W FT → LayeredView W FT → Option LineCause → Option (List ℕ) → List Call → Type 0
  Ends first now = MakesCalls see first now

  -- a line that ends the run
  stops : (known middle left : Option (List ℕ)) (accepted number : ℕ) (first now next : LayeredView W FT) (cause : LineCause) → number < last_number →
      IsKnownSoFar (see first) (AcceptedTo first now) known middle accepted number (see now) → Changes see (JudgesLine middle left (Err cause)) now next →
      IfSome known (λ input. RunsOver (input_lines input) accepted (Some (record { line = number; cause = cause })) (see first) (see next).writer (Ends first next))
  stops known middle left accepted number first now next NoSettings below so_far h = absurd h.changed
  stops known middle left accepted number first now next NotACall below so_far h =
      fails (see first) (AcceptedTo first now) (Ends first next) (λ line calls made. accepted_unseen see calls first now next made h.fixed h.changed.1)
      known middle left accepted number (see now) (see next) below so_far h.changed
  stops known middle left accepted number first now next Read below so_far h =
      breaks (see first) (AcceptedTo first now) (Ends first next) Read (λ line calls made. accepted_unseen see calls first now next made h.fixed h.changed)
      known middle accepted number (see now) (see next) refl (may_end (see first) number Read below) so_far h.changed
  stops known middle left accepted number first now next Memory below so_far h =
      breaks (see first) (AcceptedTo first now) (Ends first next) Memory (λ line calls made. accepted_unseen see calls first now next made h.fixed h.changed)
      known middle accepted number (see now) (see next) refl (may_end (see first) number Memory below) so_far h.changed
  stops known middle left accepted number first now next (Refused refusal) below so_far h =
      let m = h.changed in
      refuses (see first) (AcceptedTo first now) (Ends first next) known middle left accepted number (see now) (see next) refusal below so_far m
      (λ calls made. (
        now,
        made,
        m.made.call,
        m.made.spelled,
        made_once see m.made.call (Err refusal) now next (record { changed = m.made.answered; fixed = h.fixed }),
      ))

  -- no line is judged yet
  pub starts_over : (known : Option (List ℕ)) (first : LayeredView W FT) → GoesOver see known known 0 2 first first
  starts_over known first = record { so_far = starts (see first) (AcceptedTo first first) (none_made see first) known; calm = refl }

  -- the writer is flushed
  goes_on_flushed : (known middle : Option (List ℕ)) (accepted number : ℕ) (first now next : LayeredView W FT) →
      GoesOver see known middle accepted number first now → Changes see Flushes now next → GoesOver see known middle accepted number first next
  goes_on_flushed known middle accepted number first now next h k = record {
    so_far = flushes (see first) (AcceptedTo first now) (AcceptedTo first next) (λ calls made. accepted_flushed see calls first now next made k)
        known middle accepted number (see now) (see next) h.so_far k.changed;
    calm = ap (λ (s : Seen). s.writer.faults) k.changed.same ∙ h.calm;
  }

  -- what was drawn may be flushed before a line is judged
  pub shown_first : (known middle left : Option (List ℕ)) (accepted number : ℕ) (result : Result Judged LineCause) {Both : LayeredView W FT → LayeredView W FT → Type 0} →
      ((first now next : LayeredView W FT) → GoesOver see known middle accepted number first now → Changes see (JudgesLine middle left result) now next → Both first next) →
      (first now next : LayeredView W FT) → GoesOver see known middle accepted number first now → ShowsAndJudges see middle left result now next → Both first next
  shown_first known middle left accepted number result judge first now next h k =
      judge first k.shown next (goes_on_flushed known middle accepted number first now k.shown h k.flushed) k.judged

  -- one line more, that doesn't end the run
  goes_on_skipped : (known middle left : Option (List ℕ)) (accepted number : ℕ) (first now next : LayeredView W FT) →
      GoesOver see known middle accepted number first now → Changes see (JudgesLine middle left (Ok Skipped)) now next →
      GoesOver see known left accepted (number + 1) first next
  goes_on_skipped known middle left accepted number first now next h k = record {
    so_far = skips (see first) (AcceptedTo first now) (AcceptedTo first next) (λ calls made. accepted_unseen see calls first now next made k.fixed k.changed.1)
        known middle left accepted number (see now) (see next) h.so_far k.changed;
    calm = calm_line middle left Skipped (see now) (see next) k.changed ∙ h.calm;
  }

  goes_on_accepted : (known middle left : Option (List ℕ)) (accepted number : ℕ) (first now next : LayeredView W FT) →
      GoesOver see known middle accepted number first now → Changes see (JudgesLine middle left (Ok Accepted)) now next →
      GoesOver see known left (accepted + 1) (number + 1) first next
  goes_on_accepted known middle left accepted number first now next h k =
      let m = k.changed.1 in
      record {
        so_far = accepts (see first) (AcceptedTo first now) (AcceptedTo first next) known middle left accepted number (see now) (see next) h.so_far k.changed
            (λ calls made. accepted_more see calls m.made.call k.changed.0 first now next made (record { changed = m.made.answered; fixed = k.fixed }));
        calm = calm_line middle left Accepted (see now) (see next) k.changed ∙ h.calm;
      }

  -- the same, in the form that is counted
  pub goes_on : (known middle left : Option (List ℕ)) (run : Progress) (judged : Judged) → (judged ≡ End → ⊥) → (first now next : LayeredView W FT) →
      GoesOver see known middle run.accepted run.number first now → Changes see (JudgesLine middle left (Ok judged)) now next →
      GoesOver see known left (counted judged run).accepted (counted judged run).number first next
  goes_on known middle left run End more first now next h k = absurd (more refl)
  goes_on known middle left run Skipped more first now next h k = goes_on_skipped known middle left run.accepted run.number first now next h k
  goes_on known middle left run Accepted more first now next h k = goes_on_accepted known middle left run.accepted run.number first now next h k

  -- the end of the run
  pub ends_input : (known middle left : Option (List ℕ)) (accepted number : ℕ) → number < last_number → (first now next : LayeredView W FT) →
      GoesOver see known middle accepted number first now → Changes see (JudgesLine middle left (Ok End)) now next → EndsLines see known accepted None first next
  ends_input known middle left accepted number below first now next h k = record {
    ran = finishes (see first) (AcceptedTo first now) (Ends first next) (λ line calls made. accepted_unseen see calls first now next made k.fixed k.changed.1)
        known middle accepted number (see now) (see next) below h.so_far k.changed;
    counted = calm_line middle left End (see now) (see next) k.changed ∙ h.calm;
  }

  pub ends_at : (known middle left : Option (List ℕ)) (accepted number : ℕ) (cause : LineCause) → number < last_number → (first now next : LayeredView W FT) →
      GoesOver see known middle accepted number first now → Changes see (JudgesLine middle left (Err cause)) now next →
      EndsLines see known accepted (Some (record { line = number; cause = cause })) first next
  ends_at known middle left accepted number cause below first now next h k =
      let P : ℕ → Type 0 = λ faults. CountsEnd (Some cause) faults (see next).writer.faults in
      record {
        ran = stops known middle left accepted number first now next cause below h.so_far k;
        counted = subst P h.calm (counts_line middle left cause (see now) (see next) k.changed);
      }

  -- at the last number the line isn't judged
  pub ends_unjudged : (known middle : Option (List ℕ)) (accepted : ℕ) (first now : LayeredView W FT) → GoesOver see known middle accepted last_number first now →
      EndsLines see known accepted (Some (record { line = last_number; cause = Read })) first now
  ends_unjudged known middle accepted first now h = record {
    ran = breaks (see first) (AcceptedTo first now) (Ends first now) Read (λ line calls made. made)
        known middle accepted last_number (see now) (see now) refl (omega arith, λ last. refl) h.so_far refl;
    counted = h.calm;
  }
