use Rattle.std.proofs.Common.{[], ◌∷◌, ◌++◌, sym, ap, ◌∙◌}
use Rattle.ttree_go_test.specs.Names.{by_bytes, unboxed, with_recent}
use Rattle.ttree_go_test.proofs.NamedLists.{appended}
use Rattle.ttree_go_test.proofs.names.Named.take_last.Goals as goal

pub returns-in-Some-clause-one : goal.returns-in-Some-clause-one
returns-in-Some-clause-one g c =
    let name = c.in-Some.field-0-0 in
    let left = c.pop_last.new.self.entries in (
      name.items,
      sym c.self.view_is ∙ sym c.in_ok-settle.ensures.entries ∙ ap by_bytes c.in-Some.ensures.removal
          ∙ appended left ((name, c.in-Some.one) ∷ [])
          ∙ ap (λ recent. with_recent (unboxed recent) (by_bytes left) ++ (name.items, c.in-Some.one) ∷ []) (sym c.in_ok-settle.ensures.recent),
    )
