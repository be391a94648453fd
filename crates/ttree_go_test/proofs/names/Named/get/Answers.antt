use Rattle.std.proofs.Common.{sym, ap, ◌∙◌}
use Rattle.ttree_go_test.specs.Names.{by_bytes, named, unboxed}
use Rattle.ttree_go_test.proofs.NamedLists.{looked_up, others_named, recent_named}
use Rattle.ttree_go_test.proofs.names.Named.get.Goals as goal

pub returns-then-is_recent : goal.returns-then-is_recent
returns-then-is_recent g c =
    let name = c.args.name.now in
    let entries = by_bytes c.self.inside.entries.entries in
    c.value_of.ensures
    ∙ recent_named name (unboxed c.self.inside.recent) entries (sym c.is_recent.ensures ∙ c.if-is_recent.true) c.self.invariant
    ∙ ap (named name) c.self.view_is

pub returns : goal.returns
returns g c =
    let name = c.args.name.now in
    let entries = c.self.inside.entries.entries in
    c.get.ensures.value ∙ looked_up name entries
    ∙ others_named name (unboxed c.self.inside.recent) (by_bytes entries) (sym c.is_recent.ensures ∙ c.if-is_recent.false)
    ∙ ap (named name) c.self.view_is
