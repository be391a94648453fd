use Rattle.std.proofs.Common.{subst}
use Rattle.tracing_tree_layer.specs.declared.call.Call.{Call}
use Rattle.tracing_tree_lines.specs.Lines.Parts.{HasParts}
use Rattle.tracing_tree_lines.specs.Lines.Spelled.{SpellsCall}
use Rattle.tracing_tree_lines.specs.Lines.Values.{IsUnlessMemory}
use Rattle.tracing_tree_lines.specs.declared.lines.LineCause.TheVariants.{NotACall}
use Rattle.tracing_tree_lines.proofs.LineParts.{made_of_parts}
use Rattle.tracing_tree_lines.proofs.LineTokens.{fault_is}
use Rattle.tracing_tree_lines.proofs.MadeCalls.{unread}
use Rattle.tracing_tree_lines.proofs.lines.call.make_call.Goals as goal

pub returns-in_err-refuse_floats : goal.returns-in_err-refuse_floats
returns-in_err-refuse_floats g c =
    let cause = c.in_err-refuse_floats.field-0.0 in
    let refused = fault_is c.from_residual-in_err-refuse_floats.result cause c.from_residual-in_err-refuse_floats.ensures.0 c.from_residual-in_err-refuse_floats.ensures.1 in
    let failed = subst (λ line. IsUnlessMemory NotACall ((call : Call) → ¬ SpellsCall line call) cause) c.as_bytes.ensures.value c.in_err-refuse_floats.ensures in
    rw refused (unread g.C.Calls.answers (SpellsCall c.args.line.now) cause _ failed)

pub returns : goal.returns
returns g c =
    let parts = subst (λ line. HasParts line c.read_object.new.parts) c.as_bytes.ensures.value c.in_ok-refuse_floats.ensures in
    made_of_parts g.C.Calls.answers c.args.line.now c.read_object.new.parts c.make_call_of.result _ _ parts c.make_call_of.ensures
