use Rattle.std.proofs.Common.{◌≡◌, false, List, [], Ok, Err, refl, sym, subst, rules}
use Rattle.std.specs.Prelude.{option_map}
use Rattle.json.specs.Value.{value_view}
use Rattle.tracing_tree_layer.specs.declared.call.Call.{Call}
use Rattle.tracing_tree_lines.specs.Lines.Spelled.{SpellsCall, is_skipped}
use Rattle.tracing_tree_lines.specs.Lines.Steps.{Answers, MakesSpelled}
use Rattle.tracing_tree_lines.specs.declared.lines.LineCause.TheVariants.{NotACall}
use Rattle.ttree_source.specs.Recorder.{IsRecorded}
use Rattle.ttree_source.proofs.LineCalls.{takes_made, takes_none}
use Rattle.ttree_source.proofs.call_lines.CallLinesSource.take.Goals as goal

pub returns-in-Ok : goal.returns-in-Ok
returns-in-Ok c =
    let line = c.args.line.now in
    let value = option_map (λ v. value_view v.now) c.args._value in
    let judged : is_skipped line ≡ false = search rules in
    let made : Answers IsRecorded (SpellsCall line) (Ok c.in-Ok.field-0) c.new-recorder.result c.make_call.new.receiver = c.in-Ok.ensures in
    let begun : Answers IsRecorded (SpellsCall line) (Ok c.in-Ok.field-0) [] c.make_call.new.receiver =
    subst (λ (old : List Call). Answers IsRecorded (SpellsCall line) (Ok c.in-Ok.field-0) old c.make_call.new.receiver) c.new-recorder.ensures made in
    let kept : Answers IsRecorded (SpellsCall line) (Ok c.in-Ok.field-0) [] c.into_calls-in-Ok.result.items =
    subst (λ (new : List Call). Answers IsRecorded (SpellsCall line) (Ok c.in-Ok.field-0) [] new) (sym c.into_calls-in-Ok.ensures) begun in
    rw (takes_made c.args.self.now line value c.in-Ok.field-0 c.into_calls-in-Ok.result.items judged kept) (refl, refl)

pub returns-in-Err-NotACall : goal.returns-in-Err-NotACall
returns-in-Err-NotACall c =
    let line = c.args.line.now in
    let value = option_map (λ v. value_view v.now) c.args._value in
    let judged : is_skipped line ≡ false = search rules in
    let unmade : MakesSpelled IsRecorded (SpellsCall line) (Err NotACall) c.new-recorder.result c.make_call.new.receiver =
    subst (λ cause. MakesSpelled IsRecorded (SpellsCall line) (Err cause) c.new-recorder.result c.make_call.new.receiver) c.in-Err-NotACall.field-0-is
    c.in-Err-NotACall.ensures in
    let none : (call : Call) → ¬ SpellsCall line call = unmade.0 in
    rw (takes_none c.args.self.now line value c.utf8.line judged none) refl
