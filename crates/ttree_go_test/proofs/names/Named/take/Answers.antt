use Rattle.std.proofs.Common.{sym, ap, ◌∙◌}
use Rattle.ttree_go_test.specs.Names.{by_bytes, named, unboxed, with_recent, without}
use Rattle.ttree_go_test.proofs.NamedLists.{looked_up, recent_named, recent_taken, removed}
use Rattle.ttree_go_test.proofs.names.Named.take.Goals as goal

pub returns-then-is_recent-clause-one : goal.returns-then-is_recent-clause-one
returns-then-is_recent-clause-one g c =
    let name = c.args.name.now in
    let entries = by_bytes c.self.inside.entries.entries in
    c.take_value.ensures.one
    ∙ recent_named name (unboxed c.self.inside.recent) entries (sym c.is_recent.ensures ∙ c.if-is_recent.true) c.self.invariant
    ∙ ap (named name) c.self.view_is

pub returns-then-is_recent-clause-rest : goal.returns-then-is_recent-clause-rest
returns-then-is_recent-clause-rest g c =
    let name = c.args.name.now in
    let entries = by_bytes c.self.inside.entries.entries in
    ap (λ recent. with_recent recent entries) c.take_value.ensures.rest
    ∙ recent_taken name (unboxed c.self.inside.recent) entries (sym c.is_recent.ensures ∙ c.if-is_recent.true) c.self.invariant
    ∙ ap (without name) c.self.view_is

pub returns-clause-one : goal.returns-clause-one
returns-clause-one g c =
    let name = c.args.name.now in
    c.remove.ensures.value ∙ looked_up name c.settle.new.entries.entries
    ∙ ap (named name) (c.in_ok-settle.ensures.entries ∙ c.self.view_is)

pub returns-clause-rest : goal.returns-clause-rest
returns-clause-rest g c =
    let name = c.args.name.now in
    ap (λ recent. with_recent (unboxed recent) (by_bytes c.remove.new.self.entries)) c.in_ok-settle.ensures.recent
    ∙ ap by_bytes c.remove.ensures.entries ∙ removed name c.settle.new.entries.entries
    ∙ ap (without name) (c.in_ok-settle.ensures.entries ∙ c.self.view_is)
