-- A run on a `Layered` is drawn: what any receiver gets, seen on this one.
use Rattle.std.proofs.Common.{◌≡◌, ℕ, zero, suc, List, [], ◌∷◌, Option, Some, None, Result, Ok, Err, refl, sym, subst}
use Rattle.std.specs.Prelude.{⊤, MatchOption, option_map}
use Rattle.json.specs.Json.{Json}
use Rattle.tracing_tree_base.specs.declared.context.Refusal.{Refusal}
use Rattle.tracing_tree_output.specs.Writers.{IsShown}
use Rattle.tracing_tree_output.specs.declared.output.Output.{Ghosts as Output}
use Rattle.tracing_tree_time.specs.declared.timer.FormatTime.{Ghosts as FormatTime}
use Rattle.tracing_tree_layer.specs.Layer.Layers.{Changes, Flushes, LayeredView, seen}
use Rattle.tracing_tree_layer.specs.Layered.Answered.{IsAnswered}
use Rattle.tracing_tree_layer.specs.Layered.Seen.{Seen}
use Rattle.tracing_tree_layer.specs.declared.call.Call.{Call}
use Rattle.tracing_tree_layer.specs.declared.call.Reply.{Reply}
use Rattle.tracing_tree_layer.proofs.Runs.{change_then}
use Rattle.tracing_tree_lines.specs.Lines.Spelled.{input_lines}
use Rattle.tracing_tree_lines.specs.declared.lines.LineCause.{LineCause}
use Rattle.tracing_tree_lines.specs.declared.lines.LineCause.TheVariants.{Settings as NoSettings, NotACall, Read, Memory, Refused}
use Rattle.tracing_tree_lines.specs.declared.lines.LineFault.{LineFault}
use Rattle.ttree_source.specs.Source.{Accepts, Breaks, EndsAt, FlushedTimes, Makes, MakesEach, MakesSome, RunsSource, Step, StopsIn, calls_of, interpret, source_after}
use Rattle.ttree_source.specs.declared.run.SourceRun.{SourceRun}
use Rattle.ttree_source.proofs.Made.{makes_flushed, makes_none, makes_one, makes_then}

module _ {W FT : Type 0} (time : FormatTime FT) (output : Output W) where
  abbrev see : LayeredView W FT → Seen
  see = seen time output

  -- the answers and flushes of a `Layered`
  abbrev on_layer : Call → Result Reply Refusal → LayeredView W FT → LayeredView W FT → Type 0
  on_layer call answer old new = Changes see (IsAnswered call answer) old new

  abbrev passes_on : LayeredView W FT → LayeredView W FT → Type 0
  passes_on old new = Changes see Flushes old new × IsShown output new.layer.writer

  abbrev Made : List Call → LayeredView W FT → LayeredView W FT → Type 0
  Made = Accepts on_layer passes_on

  stays : {Holds : Seen → Seen → Type 0} → ((s : Seen) → Holds s s) → (old new : LayeredView W FT) → new ≡ old → Changes see Holds old new
  stays {Holds = Holds} holds old new same =
      let P : LayeredView W FT → Type 0 = λ it. Changes see Holds old it in
      subst P (sym same) (record { changed = holds (see old); fixed = refl })

  flushed_draws : (count : ℕ) (old new : LayeredView W FT) → FlushedTimes passes_on count old new → Changes see (Makes []) old new
  flushed_draws zero old new same = stays makes_none old new same
  flushed_draws (suc count) old new (shown, flushed, rest) =
      change_then see {First = Flushes} {Second = Makes []} {Both = Makes []}
      (λ a b c f m. makes_then [] [] a b c (makes_flushed [] a a b (makes_none a) f) m)
      old shown new flushed.0 (flushed_draws count shown new rest)

  -- accepted calls
  pub made_draws : (calls : List Call) (old new : LayeredView W FT) → Made calls old new → Changes see (Makes calls) old new
  made_draws [] old new (count, flushed) = flushed_draws count old new flushed
  made_draws (call ∷ calls) old new (count, shown, between, reply, flushed, answered, rest) =
      let one : Changes see (Makes (call ∷ [])) old between =
      change_then see {First = Makes []} {Second = IsAnswered call (Ok reply)} {Both = Makes (call ∷ [])}
      (λ a b c m k. makes_then [] (call ∷ []) a b c m (makes_one call reply b c k))
      old shown between (flushed_draws count old shown flushed) answered in
      change_then see {First = Makes (call ∷ [])} {Second = Makes calls} {Both = Makes (call ∷ calls)}
      (makes_then (call ∷ []) calls) old between new one (made_draws calls between new rest)

  breaks_draws : (cause : LineCause) (rest : List Call) (old new : LayeredView W FT) → Breaks on_layer cause rest old new → Changes see (Breaks IsAnswered cause rest) old new
  breaks_draws NoSettings rest old new h = stays (λ s. refl) old new h
  breaks_draws NotACall rest old new h = stays (λ s. refl) old new h
  breaks_draws Read rest old new h = stays (λ s. refl) old new h
  breaks_draws Memory rest old new h = stays (λ s. refl) old new h
  breaks_draws (Refused refusal) [] old new h = absurd h
  breaks_draws (Refused refusal) (call ∷ rest) old new h = h

  -- calls, the rest of which something ended
  pub stops_draws : (calls : List Call) (cause : LineCause) (old new : LayeredView W FT) → StopsIn Made on_layer calls cause old new → Changes see (StopsIn Makes IsAnswered calls cause) old new
  stops_draws calls cause old new h =
      change_then see {First = Makes h.made} {Second = Breaks IsAnswered cause h.rest} {Both = StopsIn Makes IsAnswered calls cause}
      (λ a b c m k. record { made = h.made; rest = h.rest; split = h.split; between = b; makes = m; breaks = k })
      old h.between new (made_draws h.made old h.between h.makes) (breaks_draws cause h.rest h.between new h.breaks)

  pub each_draws : (calls : List Call) (result : Result ⊤ Refusal) (old new : LayeredView W FT) → MakesEach Made on_layer calls result old new →
      Changes see (MakesEach Makes IsAnswered calls result) old new
  each_draws calls (Ok done) old new h = made_draws calls old new h
  each_draws calls (Err refusal) old new h = stops_draws calls (Refused refusal) old new h

  some_draws : (cause : Option LineCause) (old new : LayeredView W FT) → MakesSome Made on_layer cause old new → Changes see (MakesSome Makes IsAnswered cause) old new
  some_draws None old new (calls, h) =
      let made = made_draws calls old new h in
      record { changed = (calls, made.changed); fixed = made.fixed }
  some_draws (Some cause) old new (calls, h) =
      let made = stops_draws calls cause old new h in
      record { changed = (calls, made.changed); fixed = made.fixed }

  module _ {S : Type 0} (takes : S → List ℕ → Option Json → Option (Step S)) (ends : S → List Call) (ended : S → S) where
    ends_draws : (lines : List (List ℕ)) (source : S) (run : SourceRun) (fault : LineFault) (old new : LayeredView W FT) → EndsAt Made on_layer takes ends lines source run fault old new →
        Changes see (EndsAt Makes IsAnswered takes ends lines source run fault) old new
    ends_draws lines source run fault old new h =
        change_then see {First = Makes (interpret takes source h.before).calls} {Second = StopsIn Makes IsAnswered _ fault.cause}
        {Both = EndsAt Makes IsAnswered takes ends lines source run fault}
        (λ a b c m k. record { before = h.before; others = h.others; split = h.split; number = h.number; between = b; makes = m; stops = k; counts = h.counts })
        old h.between new (made_draws _ old h.between h.makes) (stops_draws _ fault.cause h.between new h.stops)

    lines_draw : (fault : Option LineFault) (lines : List (List ℕ)) (source after : S) (run : SourceRun) (old new : LayeredView W FT) →
        MatchOption fault
        (Made (calls_of takes ends source lines) old new × (run.unknown ≡ (interpret takes source lines).unknown) × (after ≡ source_after takes ended source lines))
        (λ fault. EndsAt Made on_layer takes ends lines source run fault old new) →
        Changes see (λ a b. MatchOption fault
        (Makes (calls_of takes ends source lines) a b × (run.unknown ≡ (interpret takes source lines).unknown) × (after ≡ source_after takes ended source lines))
        (λ fault. EndsAt Makes IsAnswered takes ends lines source run fault a b)) old new
    lines_draw None lines source after run old new (h, counted, left) =
        let made = made_draws _ old new h in
        record { changed = (made.changed, counted, left); fixed = made.fixed }
    lines_draw (Some fault) lines source after run old new h = ends_draws lines source run fault old new h

    -- a run
    pub run_draws : (known : Option (List ℕ)) (source after : S) (run : SourceRun) (old new : LayeredView W FT) →
        RunsSource Made on_layer takes ends ended known source after run old new →
        Changes see (RunsSource Makes IsAnswered takes ends ended known source after run) old new
    run_draws None source after run old new h = some_draws (option_map (λ fault. fault.cause) run.fault) old new h
    run_draws (Some input) source after run old new h = lines_draw run.fault (input_lines input) source after run old new h
