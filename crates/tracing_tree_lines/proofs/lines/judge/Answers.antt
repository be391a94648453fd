use Rattle.std.proofs.Common.{◌≡◌, false, not, Some, None, Ok, Err, refl, sym, ap, ◌∙◌, subst, rules}
use Rattle.std.specs.Prelude.{IsUtf8, option_map}
use Rattle.std.proofs.lemmas.Result.{err_from_is_err_and}
use Rattle.tracing_tree_layer.specs.Layer.Layers.{seen}
use Rattle.tracing_tree_layer.specs.Layered.Answered.{IsAnswered}
use Rattle.tracing_tree_lines.specs.Lines.Spelled.{is_skipped, SpellsCall}
use Rattle.tracing_tree_lines.specs.Lines.Steps.{MakesSpelled}
use Rattle.tracing_tree_lines.specs.declared.lines.LineCause.TheVariants.{NotACall}
use Rattle.tracing_tree_lines.proofs.LineRuns.{made_line, unmade_line}
use Rattle.tracing_tree_lines.proofs.MadeCalls.{made_seen}
use Rattle.tracing_tree_lines.proofs.lines.judge.Goals as goal

pub returns-in_err-text-clause-judged : goal.returns-in_err-text-clause-judged
returns-in_err-text-clause-judged g c = λ known left first.
    let judged : is_skipped c.args.line.now ≡ false = sym c.is_skipped.ensures ∙ c.if-is_skipped.false in
    let none : option_map (λ text. text.now) c.args.text ≡ None = search rules in
    let no_text : ¬ IsUtf8 c.args.line.now = rw none at c.requires in
    let refused : c.from_residual.result ≡ Err NotACall = search rules in
    rw refused (record {
      changed = (record { line = c.args.line.now; first = first; nothing = (ap not judged, λ call spelled. no_text spelled.text) }, refl);
      fixed = refl;
    })

pub returns-in_err-make_call-clause-judged : goal.returns-in_err-make_call-clause-judged
returns-in_err-make_call-clause-judged g c = λ known left first.
    let p = err_from_is_err_and c.from_residual-in_err-make_call.result c.from_residual-in_err-make_call.ensures.1 in
    let judged : is_skipped c.args.line.now ≡ false = sym c.is_skipped.ensures ∙ c.if-is_skipped.false in
    let some : c.args.text ≡ Some c.in_ok-text.text = search rules in
    let line : c.in_ok-text.text.now ≡ c.args.line.now = rw some at c.requires in
    let see = seen g.FT.FormatTime g.W.Output in
    let seen_made = made_seen see (SpellsCall c.in_ok-text.text.now) (Err c.in_err-make_call.field-0.0) c.args.layered.now c.make_call.new.receiver c.in_err-make_call.ensures in
    let made = subst (λ line. MakesSpelled IsAnswered (SpellsCall line) (Err c.in_err-make_call.field-0.0) (see c.args.layered.now) (see c.make_call.new.receiver)) line seen_made.changed in
    rw (p.1, p.2) (record {
      changed = unmade_line _ _ known left c.args.line.now c.in_err-make_call.field-0.0 first judged made;
      fixed = seen_made.fixed;
    })

pub returns-clause-judged : goal.returns-clause-judged
returns-clause-judged g c = λ known left first.
    let judged : is_skipped c.args.line.now ≡ false = sym c.is_skipped.ensures ∙ c.if-is_skipped.false in
    let some : c.args.text ≡ Some c.in_ok-text.text = search rules in
    let line : c.in_ok-text.text.now ≡ c.args.line.now = rw some at c.requires in
    let see = seen g.FT.FormatTime g.W.Output in
    let seen_made = made_seen see (SpellsCall c.in_ok-text.text.now) (Ok c.in_ok-make_call.field-0) c.args.layered.now c.make_call.new.receiver c.in_ok-make_call.ensures in
    let made = subst (λ line. MakesSpelled IsAnswered (SpellsCall line) (Ok c.in_ok-make_call.field-0) (see c.args.layered.now) (see c.make_call.new.receiver)) line seen_made.changed in
    record {
      changed = made_line _ _ known left c.args.line.now c.in_ok-make_call.field-0 first judged made;
      fixed = seen_made.fixed;
    }
