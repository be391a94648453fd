use Rattle.std.proofs.Common.{sym, ap, is_some, not, ◌∙◌}
use Rattle.ttree_go_test.specs.Names.{by_bytes, named, put, unboxed, with_recent}
use Rattle.ttree_go_test.specs.declared.names.Recent.{Recent}
use Rattle.ttree_go_test.proofs.NamedLists.{inserted, looked_up, recent_put}
use Rattle.ttree_go_test.proofs.names.Named.put.Goals as goal

pub returns-then-is_recent : goal.returns-then-is_recent
returns-then-is_recent g c =
    let name = c.args.name.now in
    let entries = by_bytes c.self.inside.entries.entries in
    ap (λ recent. with_recent recent entries) c.set_value.ensures
    ∙ recent_put name c.args.one (unboxed c.self.inside.recent) entries (sym c.is_recent.ensures ∙ c.if-is_recent.true)
    ∙ ap (put name c.args.one) c.self.view_is

pub returns-then-contains_key : goal.returns-then-contains_key
returns-then-contains_key g c =
    let name = c.in_ok-name.name in
    ap (λ recent. with_recent (unboxed recent) (by_bytes c.insert.new.self.entries)) c.in_ok-settle.ensures.recent
    ∙ ap by_bytes c.in_ok-insert.ensures.entries ∙ inserted c.settle.new.entries.entries name c.args.one
    ∙ ap (λ name. put name c.args.one (by_bytes c.settle.new.entries.entries)) c.in_ok-name.ensures.items
    ∙ ap (put c.args.name.now c.args.one) (c.in_ok-settle.ensures.entries ∙ c.self.view_is)

pub invariant_of-self-2 : goal.invariant_of-self-2
invariant_of-self-2 g c =
    let entries = c.settle.new.entries.entries in
    ap (λ (last : Recent g.row.X.Denot). not (is_some (named last.name.items (by_bytes entries)))) c.in_ok-new.ensures.ok
    ∙ ap (λ name. not (is_some (named name (by_bytes entries)))) (sym c.as_slice.ensures.value)
    ∙ ap not (sym (c.contains_key.ensures ∙ ap is_some (looked_up c.as_slice.result.now entries)) ∙ c.if-contains_key.false)
