use Rattle.std.proofs.Common.{string_bytes}
use Rattle.ttree_page.specs.Steps.{stamp_of}
use Rattle.ttree_page.proofs.Appended.{stamp-pushed}
use Rattle.ttree_page.proofs.part.push_stamp.Goals as goal

pub returns-clause-ok : goal.returns-clause-ok
returns-clause-ok c =
    stamp-pushed c.push_thread.result c.args.form (stamp_of c.args.context.now) (string_bytes c.args.out.now) (string_bytes c.push_number.new.out)
    (string_bytes c.push_number-2.new.out) (string_bytes c.push_ahead.new.out) (string_bytes c.push_thread.new.out) c.in_ok-push_number.ensures.ok
    c.in_ok-push_number-2.ensures.ok c.in_ok-push_ahead.ensures.ok c.push_thread.ensures.ok
