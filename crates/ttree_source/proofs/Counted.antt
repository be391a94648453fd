-- What a tally counted of the calls of a run.
use Rattle.std.proofs.Common.{◌≡◌, ℕ, zero, suc, List, [], ◌∷◌, Option, Some, None, ap, subst, ◌∙◌}
use Rattle.std.specs.Prelude.{IfSome, MatchOption}
use Rattle.json.specs.Json.{Json}
use Rattle.tracing_tree_layer.specs.declared.call.Call.{Call}
use Rattle.tracing_tree_lines.specs.Lines.Spelled.{input_lines}
use Rattle.tracing_tree_lines.specs.declared.lines.LineCause.{LineCause}
use Rattle.tracing_tree_lines.specs.declared.lines.LineCause.TheVariants.{Settings as NoSettings, NotACall, Read, Memory, Refused}
use Rattle.tracing_tree_lines.specs.declared.lines.LineFault.{LineFault}
use Rattle.ttree_source.specs.Source.{Accepts, Breaks, EndsAt, FlushedTimes, RunsSource, Step, StopsIn, calls_of, interpret, source_after}
use Rattle.ttree_source.specs.Tallies.{CountsCalls, IsCounted, call_counted, counted_all, nothing_counted}
use Rattle.ttree_source.specs.declared.run.SourceRun.{SourceRun}
use Rattle.ttree_source.specs.declared.tally.Tally.{Tally}
use Rattle.ttree_source.proofs.Interpreted.{beginning}

abbrev still : Tally → Tally → Type 0
still old new = new ≡ old

flushed_same : (count : ℕ) (old new : Tally) → FlushedTimes still count old new → new ≡ old
flushed_same zero old new h = h
flushed_same (suc count) old new (shown, flushed, h) = flushed_same count shown new h ∙ flushed

accepts_counts : (calls : List Call) (old new : Tally) → Accepts IsCounted still calls old new → new ≡ counted_all calls old
accepts_counts [] old new (count, h) = flushed_same count old new h
accepts_counts (call ∷ calls) old new (count, shown, between, reply, flushed, answered, h) =
    accepts_counts calls between new h ∙ ap (counted_all calls) (answered.0 ∙ ap (call_counted call) (flushed_same count old shown flushed))

breaks_same : (cause : LineCause) (rest : List Call) (old new : Tally) → Breaks IsCounted cause rest old new → new ≡ old
breaks_same NoSettings rest old new h = h
breaks_same NotACall rest old new h = h
breaks_same Read rest old new h = h
breaks_same Memory rest old new h = h
breaks_same (Refused refusal) [] old new h = absurd h
breaks_same (Refused refusal) (call ∷ rest) old new h = h.0

module _ {S : Type 0} (takes : S → List ℕ → Option Json → Option (Step S)) (ends : S → List Call) (ended : S → S) where
  counts_by : (lines : List (List ℕ)) (source after : S) (run : SourceRun) (fault : Option LineFault) (new : Tally) →
      MatchOption fault
      (Accepts IsCounted still (calls_of takes ends source lines) nothing_counted new × (run.unknown ≡ (interpret takes source lines).unknown) × (after ≡ source_after takes ended source lines))
      (λ fault. EndsAt (Accepts IsCounted still) IsCounted takes ends lines source run fault nothing_counted new) →
      CountsCalls fault (calls_of takes ends source lines) new
  counts_by lines source after run None new (h, counted, left) = accepts_counts (calls_of takes ends source lines) nothing_counted new h
  counts_by lines source after run (Some fault) new h =
      let all : StopsIn (Accepts IsCounted still) IsCounted (calls_of takes ends source lines) fault.cause nothing_counted new =
      beginning IsCounted still takes ends lines source run fault nothing_counted new h in
      (all.made, all.rest, all.split, breaks_same fault.cause all.rest all.between new all.breaks ∙ accepts_counts all.made nothing_counted all.between all.makes)

  pub run_counts : (known : Option (List ℕ)) (source after : S) (run : SourceRun) (old new : Tally) → old ≡ nothing_counted →
      RunsSource (Accepts IsCounted still) IsCounted takes ends ended known source after run old new →
      IfSome known (λ input. CountsCalls run.fault (calls_of takes ends source (input_lines input)) new)
  run_counts None source after run old new is h = tt
  run_counts (Some input) source after run old new is h =
      let P : Tally → Type 0 = λ t. RunsSource (Accepts IsCounted still) IsCounted takes ends ended (Some input) source after run t new in
      counts_by (input_lines input) source after run run.fault new (subst P is h)
