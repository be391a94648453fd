-- Histories of calls, and the receipts that threads hold for them.
use Rattle.std.specs.Prelude.{◌≡◌, ℕ, ◌<◌, ◌≤◌, ◌==◌, ◌⊎◌, false, List, length, map, flat_map, count_by, slice_get, Option, Some, Any, IsSomeAnd}
use Rattle.tracing_tree_drawing.specs.Format.Settings.{Settings}
use Rattle.tracing_tree_time.specs.Clock.{Timer}
use Rattle.tracing_tree_drawing.specs.Format.Picture.{draw}
use Rattle.tracing_tree_base.specs.declared.context.Id.{Id}
use Rattle.tracing_tree_layer.specs.Layered.State.{State, opening_state}
use Rattle.tracing_tree_layer.specs.Layered.Run.{Run, run}
use Rattle.tracing_tree_layer.specs.declared.call.Call.{Call}
use Rattle.tracing_tree_layer.specs.declared.call.Reply.{Reply}

-- ---- replays

-- an accepted call and its reply
abbrev pub Entry : Type 0
Entry = Call × Reply

abbrev pub calls_in : List Entry → List Call
calls_in history = map (λ entry. entry.0) history

abbrev pub replies_in : List Entry → List Reply
replies_in history = map (λ entry. entry.1) history

-- the run of the kept calls from the start
abbrev pub replay : Settings → Timer → Option Id → List Entry → Run
replay settings timer first history = run settings timer (opening_state first) (calls_in history)

-- each kept reply is what its call answers in the replay
abbrev pub IsTrueHistory : Settings → Timer → Option Id → List Entry → Type 0
IsTrueHistory settings timer first history =
    (replay settings timer first history).replies ≡ replies_in history

-- What is kept with a history: the state, except `failed`, and each reply are those of the replay,
-- in which nothing fails, and the bytes are the drawing of its rows.
pub record IsKept (settings : Settings) (timer : Timer) (first : Option Id) (history : List Entry)
    (state : State) (bytes : Option (List ℕ)) : Type 0 where
  pub forest : state.forest ≡ (replay settings timer first history).state.forest
  pub last : state.last ≡ (replay settings timer first history).state.last
  pub sound : (replay settings timer first history).state.failed ≡ false
  pub replies : IsTrueHistory settings timer first history
  pub output : bytes ≡ Some (draw settings (replay settings timer first history).rows)

-- ---- receipts

-- the proof that a call is at a place of the history, with its reply
pub record Slip : Type 0 where
  pub place : ℕ
  pub entry : Entry

-- what a thread holds: its receipts, in the order in which it received them
abbrev pub Slips : Type 0
Slips = List Slip

-- all receipts
abbrev pub all_slips : List Slips → Slips
all_slips passes = flat_map (λ slips. slips) passes

-- how many receipts are for this place
abbrev pub slips_at : List Slips → ℕ → ℕ
slips_at passes place = count_by (λ slip. slip.place == place) (all_slips passes)

-- the history has the receipt's call and reply at its place
abbrev pub KeepsSlip : List Entry → Slip → Type 0
KeepsSlip history slip = slice_get history slip.place ≡ Some slip.entry

-- a receipt for this place that the history doesn't have
abbrev pub HasOther : List Entry → List Slips → ℕ → Type 0
HasOther history passes place =
    (slip : Slip) × Any (λ other. other ≡ slip) (all_slips passes) × (slip.place ≡ place)
    × ¬ (KeepsSlip history slip)

-- a receipt for this place comes after one whose place isn't smaller
pub record IsLateIn (slips : Slips) (place : ℕ) : Type 0 where
  pub sooner : ℕ
  pub later : ℕ
  pub order : sooner < later
  pub not_smaller : IsSomeAnd (slice_get slips sooner) (λ slip. place ≤ slip.place)
  pub late : IsSomeAnd (slice_get slips later) (λ slip. slip.place ≡ place)

-- what is wrong at a place: not exactly one receipt; a receipt past the end or of another call; or
-- one out of order
abbrev pub IsStrange : List Entry → List Slips → ℕ → Type 0
IsStrange history passes place =
    ((place < length history) × ¬ (slips_at passes place ≡ 1))
    ⊎ (HasOther history passes place ⊎ Any (λ slips. IsLateIn slips place) passes)

-- the first place at which something is wrong
abbrev pub IsFirstStrange : List Entry → List Slips → ℕ → Type 0
IsFirstStrange history passes place =
    IsStrange history passes place
    × ((other : ℕ) → other < place → ¬ (IsStrange history passes other))

-- nothing is wrong anywhere: each receipt's call appears once, with its reply, and in the order of
-- its pass
abbrev pub IsOneHistory : List Entry → List Slips → Type 0
IsOneHistory history passes = (place : ℕ) → ¬ (IsStrange history passes place)
