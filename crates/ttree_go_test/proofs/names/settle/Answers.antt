use Rattle.std.proofs.Common.{Some, sym, ap, ◌∙◌}
use Rattle.ttree_go_test.specs.Names.{by_bytes, unboxed}
use Rattle.ttree_go_test.proofs.NamedLists.{inserted, settled}
use Rattle.ttree_go_test.proofs.names.settle.Goals as goal

pub returns-in_ok-insert-in-Some-one-clause-entries :
    goal.returns-in_ok-insert-in-Some-one-clause-entries
returns-in_ok-insert-in-Some-one-clause-entries g c =
    let entries = c.args.entries.now.entries in
    let last = c.into_inner-name.result in
    ap by_bytes c.in_ok-insert-in-Some-one.ensures.entries
    ∙ inserted entries last.name c.in-Some-one.one
    ∙ settled (unboxed c.args.recent.now) last c.in-Some-one.one (by_bytes entries)
    (ap unboxed (sym c.take.ensures.value ∙ c.in-Some.is) ∙ ap Some (sym c.into_inner-name.ensures)) c.in-Some-one.is
