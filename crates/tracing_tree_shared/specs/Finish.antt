-- The answer of taking all passes back, and how the first wrong place is found.
use Rattle.std.specs.Prelude.{◌≡◌, ◌<◌, ◌≤◌, ◌&&◌, ◌||◌, ℕ, min, max, Bool, false, not, nat_le, if◌then◌else◌, List, [], ◌∷◌, ◌++◌, length, slice_get, slice_index_or, sum_by, Option, Some, None, Result, Ok, Err}
use Rattle.std.specs.Option.{option_map_or}
use Rattle.tracing_tree_drawing.specs.Format.Settings.{Settings}
use Rattle.tracing_tree_output.specs.Outputs.{TapeView}
use Rattle.tracing_tree_time.specs.declared.timer.FormatTime.{Ghosts as FormatTime}
use Rattle.tracing_tree_base.specs.declared.context.Id.{Id}
use Rattle.tracing_tree_layer.specs.Layered.State.{State}
use Rattle.tracing_tree_layer.specs.Laws.Reading.{ReadingLaws}
use Rattle.tracing_tree_layer.specs.contracts.call.CallPartialEq.TheImpl.{ghosts as call}
use Rattle.tracing_tree_layer.specs.contracts.call.ReplyPartialEq.TheImpl.{ghosts as reply}
use Rattle.tracing_tree_shared.specs.History.{Entry, Slip, Slips, IsKept, IsFirstStrange, IsOneHistory, calls_in}
use Rattle.tracing_tree_shared.specs.Drafts.{SharedView}
use Rattle.tracing_tree_shared.specs.Books.{BookView}
use Rattle.tracing_tree_shared.specs.declared.finish.Finished.{Finished}
use Rattle.tracing_tree_shared.specs.declared.finish.FinishFault.{FinishFault}
use Rattle.tracing_tree_shared.specs.declared.finish.FinishFault.TheVariants.{MissingPass, Stranger}

-- ---- what is found

-- A history with its drawing under these settings: with some timer of this type, from some first
-- id, each reply is that of the replay, the text is the drawing of its rows, and the rows keep the
-- reading laws.
pub record IsReplay {FT : Type 0} (time : FormatTime FT) (settings : Settings)
    (history : List Entry) (written : List ℕ) : Type 0 where
  pub timer : FT
  pub first : Option Id
  pub state : State
  pub kept : IsKept settings (time.timer timer) first history state (Some written)
  pub reads : ReadingLaws settings (time.timer timer) first (calls_in history)

-- all passes were there, their receipts are the history, and it was drawn with ansi and targets as
-- the layer was opened with
pub record IsFinished {FT : Type 0} (time : FormatTime FT) (shared : SharedView)
    (passes : List Slips) (finished : Finished) : Type 0 where
  pub one : IsOneHistory finished.history.items passes
  pub counted : length finished.history.items ≡ sum_by length passes
  pub accepted : finished.accepted ≡ sum_by length passes
  pub replay : IsReplay time finished.config finished.history.items finished.output.bytes
  pub ansi : finished.config.ansi ≡ shared.ansi
  pub targets : finished.config.targets ≡ shared.targets

-- all passes were there, but this is the first place that is wrong
pub record IsStranger {FT : Type 0} (passes : List Slips) (place : ℕ)
    (book : BookView TapeView FT) : Type 0 where
  pub first : IsFirstStrange book.history passes place
  pub counted : length book.history ≡ sum_by length passes

-- what taking back the passes of this layer returns
abbrev pub IsFinishAnswer : {FT : Type 0} → FormatTime FT → SharedView → List Slips
    → Result Finished (FinishFault FT) → Type 0
IsFinishAnswer time shared passes (Ok finished) =
    (shared.passes ≤ length passes) × IsFinished time shared passes finished
IsFinishAnswer time shared passes (Err MissingPass) = length passes < shared.passes
IsFinishAnswer time shared passes (Err (Stranger place book)) =
    (shared.passes ≤ length passes) × IsStranger passes place book

-- ---- how it is found

-- the history has the receipt's call and reply at its place
abbrev pub keeps_slip : List Entry → Slip → Bool
keeps_slip history slip =
    option_map_or (λ entry. call.eq entry.0 slip.entry.0 && reply.eq entry.1 slip.entry.1)
    (slice_get history slip.place) false

-- a place is not above the greatest so far
abbrev pub is_late : Option ℕ → ℕ → Bool
is_late None place = false
is_late (Some greatest) place = nat_le place greatest

-- the greatest place so far
abbrev pub greater : Option ℕ → ℕ → Option ℕ
greater None place = Some place
greater (Some greatest) place = Some (max greatest place)

-- the smallest place so far
abbrev pub lesser : Option ℕ → ℕ → Option ℕ
lesser None place = Some place
lesser (Some smallest) place = Some (min smallest place)

-- another's receipt, or one out of order
abbrev pub is_misplaced : List Entry → Option ℕ → Slip → Bool
is_misplaced history greatest slip = is_late greatest slip.place || not (keeps_slip history slip)

-- the places of such receipts
abbrev pub misplaced : List Entry → Option ℕ → Slips → List ℕ
misplaced history greatest [] = []
misplaced history greatest (slip ∷ slips) =
    (if is_misplaced history greatest slip then slip.place ∷ [] else [])
    ++ misplaced history (greater greatest slip.place) slips

-- the smallest of these places, and of one that was found before
abbrev pub smallest : Option ℕ → List ℕ → Option ℕ
smallest found [] = found
smallest found (place ∷ places) = smallest (lesser found place) places

-- Receipts rise up to a place: of two, the later is for a greater place, unless it is for one
-- above.
abbrev pub RisesUpTo : ℕ → Slips → Type 0
RisesUpTo place slips =
    (i j : ℕ) (d : Slip) → i < j → j < length slips → (slice_index_or slips j d).place ≤ place →
    (slice_index_or slips i d).place < (slice_index_or slips j d).place
