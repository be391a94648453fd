-- Two runs one after the other are the run of the joined lists.
use Rattle.std.proofs.Common.{◌≡◌, List, [], ◌∷◌, ◌++◌, refl, ap, ◌∙◌}
use Rattle.std.proofs.lemmas.List.{append_assoc}
use Rattle.tracing_tree_drawing.specs.Format.Settings.{Settings}
use Rattle.tracing_tree_time.specs.Clock.{Timer}
use Rattle.tracing_tree_layer.specs.Layered.State.{State}
use Rattle.tracing_tree_layer.specs.Layered.Run.{Run, run, run_one, then_run}
use Rattle.tracing_tree_layer.specs.declared.call.Call.{Call}

then_run-assoc : (a : Run) (b c : State → Run) → then_run a (λ s. then_run (b s) c) ≡ then_run (then_run a b) c
then_run-assoc a b c = simp append_assoc refl

pub run-append : (settings : Settings) (timer : Timer) (state : State) (first second : List Call) →
    run settings timer state (first ++ second) ≡ then_run (run settings timer state first) (λ next. run settings timer next second)
run-append settings timer state [] second = refl
run-append settings timer state (call ∷ calls) second =
    let one : Run = run_one settings timer state call in
    let behind : Run → Run = λ r. then_run one (λ s. r) in
    ap behind (run-append settings timer one.state calls second)
    ∙ then_run-assoc one (λ next. run settings timer next calls) (λ next. run settings timer next second)
