use Rattle.std.proofs.Common.{◌≡◌, false, rules}
use Rattle.std.specs.Prelude.{option_map}
use Rattle.json.specs.Value.{value_view}
use Rattle.tracing_tree_lines.specs.Lines.Spelled.{is_skipped}
use Rattle.ttree_source.proofs.LineCalls.{line_does}
use Rattle.ttree_source.proofs.call_lines.CallLinesSource.make_calls.Goals as goal

pub returns-clause-line : goal.returns-clause-line
returns-clause-line g c =
    let line = c.args.line.now in
    let value = option_map (λ v. value_view v.now) c.args._value in
    let judged : is_skipped line ≡ false = search rules in
    rw c.is_known.ensures (line_does g.C.Calls.answers g.C.Calls.flushes c.args.self.now line value c.make_call.result c.args.receiver.now c.make_call.new.receiver c.utf8.line judged c.make_call.ensures)
