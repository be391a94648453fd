-- How far a run has come over its lines, and what lines more do to it.
use Rattle.std.specs.Prelude.{◌≡◌, ℕ, ◌+◌, Bool, true, false, List, ◌++◌, length, drop, Option, Some, None, Result, Ok, Err, MatchOption, IsUtf8, ⊤}
use Rattle.std.specs.Io.KnownBytes.{Appends, prepend_known}
use Rattle.tracing_tree_drawing.specs.Format.Picture.{draw}
use Rattle.tracing_tree_layer.specs.Layer.Layers.{LayeredView}
use Rattle.tracing_tree_layer.specs.Layered.Seen.{Seen, seen_later}
use Rattle.tracing_tree_layer.specs.Layered.Headline.{run_from}
use Rattle.tracing_tree_layer.specs.declared.call.Call.{Call}
use Rattle.tracing_tree_lines.specs.Lines.Runs.{AreAccepted}
use Rattle.tracing_tree_lines.specs.Lines.Spelled.{input_lines, SpellCalls}
use Rattle.tracing_tree_lines.specs.Lines.Steps.{EndsLines}
use Rattle.tracing_tree_lines.specs.declared.lines.Judged.{Judged}
use Rattle.tracing_tree_lines.specs.declared.lines.Judged.TheVariants.{Accepted}
use Rattle.tracing_tree_lines.specs.declared.lines.LineCause.{LineCause}
use Rattle.tracing_tree_lines.specs.declared.lines.Progress.{Progress}

module _ (first : Seen) (Made : List Call → Type 0) where
  -- what these lines have left when only the others are still to be judged
  pub record IsSoFar (lines others : List (List ℕ)) (accepted number : ℕ) (now : Seen)
      : Type 0 where
    pub done : List (List ℕ)
    pub apart : lines ≡ done ++ others
    pub number_is : number ≡ length done + 2
    pub calls : List Call
    pub spelled : SpellCalls done calls
    pub count : accepted ≡ length calls
    pub left : now ≡ seen_later first (run_from first calls).state now.writer
    pub taken : length (run_from first calls).replies ≡ length calls
    pub appends : Appends first.writer.bytes now.writer.bytes
        (draw first.settings (run_from first calls).rows)
    pub made : Made calls

  -- the same of the lines of an input, if it is known
  abbrev pub IsKnownSoFar : Option (List ℕ) → Option (List ℕ) → ℕ → ℕ → Seen → Type 0
  IsKnownSoFar None left accepted number now = ⊤
  IsKnownSoFar (Some input) None accepted number now = ⊥
  IsKnownSoFar (Some input) (Some rest) accepted number now =
      IsSoFar (input_lines input) (input_lines rest) accepted number now

-- the run so far, in which no write was refused
pub record GoesOver {W FT : Type 0} (see : LayeredView W FT → Seen)
    (known left : Option (List ℕ)) (accepted number : ℕ)
    (first now : LayeredView W FT) : Type 0 where
  pub so_far : IsKnownSoFar (see first) (λ calls. AreAccepted see calls first now) known left
      accepted number (see now)
  pub calm : (see now).writer.faults ≡ (see first).writer.faults

-- one more judged line is counted
abbrev pub counted : Judged → Progress → Progress
counted Accepted run = record { number = run.number + 1; accepted = run.accepted + 1 }
counted judged run = record run { number = run.number + 1 }

-- a line as a string, if it is UTF-8
abbrev pub IsTextOf : List ℕ → Option (List ℕ) → Type 0
IsTextOf line text = MatchOption text (¬ (IsUtf8 line)) (λ text. text ≡ line)

module _ {W FT : Type 0} (see : LayeredView W FT → Seen) where
  -- the run so far ended by this cause, and the next line is to blame
  abbrev pub EndsNext : Option (List ℕ) → Progress → LineCause → LayeredView W FT
      → LayeredView W FT → Type 0
  EndsNext known run cause =
      EndsLines see known run.accepted (Some (record { line = run.number; cause = cause }))

  -- this many of the held bytes were judged, whatever follows them, or a line of them ended the run
  abbrev pub RunsHeld : List ℕ → Progress → Progress → Result ℕ LineCause → LayeredView W FT
      → LayeredView W FT → Type 0
  RunsHeld held before after (Ok judged) old new =
      (known inner : Option (List ℕ)) (first : LayeredView W FT)
      → GoesOver see known (prepend_known held inner) before.accepted before.number first old
      → GoesOver see known (prepend_known (drop judged held) inner) after.accepted after.number
      first new
  RunsHeld held before after (Err cause) old new =
      (known inner : Option (List ℕ)) (first : LayeredView W FT)
      → GoesOver see known (prepend_known held inner) before.accepted before.number first old
      → EndsNext known after cause first new

  -- lines at the front of the input were judged, or no line was left, or one of them ended the run
  abbrev pub RunsSome : Option (List ℕ) → Option (List ℕ) → Progress → Progress
      → Result Bool LineCause → LayeredView W FT → LayeredView W FT → Type 0
  RunsSome middle left before after (Ok true) old new =
      (known : Option (List ℕ)) (first : LayeredView W FT)
      → GoesOver see known middle before.accepted before.number first old
      → GoesOver see known left after.accepted after.number first new
  RunsSome middle left before after (Ok false) old new =
      (known : Option (List ℕ)) (first : LayeredView W FT)
      → GoesOver see known middle before.accepted before.number first old
      → EndsLines see known after.accepted None first new
  RunsSome middle left before after (Err cause) old new =
      (known : Option (List ℕ)) (first : LayeredView W FT)
      → GoesOver see known middle before.accepted before.number first old
      → EndsNext known after cause first new
