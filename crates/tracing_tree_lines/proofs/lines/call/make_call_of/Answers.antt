use Rattle.std.proofs.Common.{◌≡◌, None, Some, Err, codes, rules, refl}
use Rattle.serde_json.specs.Find.{as_str}
use Rattle.tracing_tree_lines.specs.Lines.CallKinds.{word_of}
use Rattle.tracing_tree_lines.specs.Lines.Parts.{parts_data}
use Rattle.tracing_tree_lines.specs.Lines.Spelled.{read_or}
use Rattle.tracing_tree_lines.specs.Lines.Values.{ValueSpells}
use Rattle.tracing_tree_lines.specs.declared.lines.LineCause.TheVariants.{NotACall}
use Rattle.tracing_tree_lines.proofs.LineParts.{no_float_parts}
use Rattle.tracing_tree_lines.proofs.LineTokens.{fault_is}
use Rattle.tracing_tree_lines.proofs.MadeCalls.{unread}
use Rattle.tracing_tree_lines.proofs.ObjectLines.{no_context}
use Rattle.tracing_tree_lines.proofs.Moments.{no_kind, reads_none, made_named}
use Rattle.tracing_tree_lines.proofs.lines.call.make_call_of.Goals as goal

pub returns-in_err-context : goal.returns-in_err-context
returns-in_err-context g c =
    let value = parts_data c.args.parts.now in
    let cause = c.in_err-context.field-0.0 in
    let refused = fault_is c.from_residual.result cause c.from_residual.ensures.0 c.from_residual.ensures.1 in
    rw refused (unread g.C.Calls.answers (ValueSpells value) cause _ (no_context value cause c.in_err-context.ensures))

pub returns-in_err-kind : goal.returns-in_err-kind
returns-in_err-kind g c =
    let value = parts_data c.args.parts.now in
    let none : c.kind_in.result ≡ None = search rules in
    let unnamed = rw none at c.kind_in.ensures in
    let refused : c.from_residual-in_err-kind.result ≡ Err NotACall = search rules in
    rw refused (reads_none value (λ moment timed. no_kind value moment unnamed), refl)

pub returns : goal.returns
returns g c =
    let value = parts_data c.args.parts.now in
    let some : c.kind_in.result ≡ Some c.in_ok-kind.kind = search rules in
    let word : read_or None as_str (codes "call") value ≡ Some (word_of c.in_ok-kind.kind) = rw some at c.kind_in.ensures in
    let context = c.in_ok-context.ensures in
    made_named g.C.Calls.answers value c.in_ok-context.context (word_of c.in_ok-kind.kind) c.make_call_of_kind.result _ _ (no_float_parts c.args.parts.now)
    context.0 context.1 word c.make_call_of_kind.ensures
