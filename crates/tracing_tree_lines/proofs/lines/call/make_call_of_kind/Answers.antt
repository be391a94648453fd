use Rattle.tracing_tree_lines.proofs.lines.call.make_call_of_kind.Goals as goal

pub returns-in-Clone : goal.returns-in-Clone
returns-in-Clone g c = rw c.in-Clone.is (c.make_clone.ensures c.args.context.now)

pub returns-in-Record : goal.returns-in-Record
returns-in-Record g c = rw c.in-Record.is (c.make_record.ensures c.args.context.now)
