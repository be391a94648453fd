use Rattle.std.proofs.Common.{length, refl, sym, ap, ◌∙◌}
use Rattle.std.proofs.lemmas.List.{length-reverse}
use Rattle.tracing_tree_spans.proofs.KeptLists.{kept-id}
use Rattle.tracing_tree_spans.proofs.Registers.{seen, no-handle, zero-handles, some-handles, kept-own, stored-path, closing-whole}
use Rattle.tracing_tree_spans.proofs.registry.spans.Registry.try_close.Goals as goal

pub returns-in_default : goal.returns-in_default
returns-in_default c =
    (no-handle c.args.self.now c.args.id (seen c.self.inside.nodes _ _ c.args.id _ c.self.view_is (sym c.in_default.ensures)), refl)

pub returns-then-handles-eq0 : goal.returns-then-handles-eq0
returns-then-handles-eq0 c =
    let here = seen c.self.inside.nodes _ _ c.args.id _ c.self.view_is (sym c.in-Some.ensures) in
    (zero-handles c.args.self.now c.args.id _ here (sym c.handles.ensures ∙ c.if-handles-eq0.true), refl)

pub closing_part-count-requires-clause-there : goal.closing_part-count-requires-clause-there
closing_part-count-requires-clause-there c = kept-own c.self.inside.nodes c.args.id c.in-Some.node.now (sym c.in-Some.ensures)

pub close-requires-clause-held : goal.close-requires-clause-held
close-requires-clause-held c =
    let here = seen c.self.inside.nodes _ _ c.args.id _ c.self.view_is (sym c.in-Some.ensures) in
    some-handles c.args.self.now c.args.id _ here (λ none. c.if-handles-eq0.false (c.handles.ensures ∙ none))

pub close-requires-clause-counted : goal.close-requires-clause-counted
close-requires-clause-counted c =
    let whole = closing-whole c.self.inside.nodes c.self.inside.next c.args.self.now c.args.id c.in-Some.node.now.span.id c.closing_part-count.result.now c.self.view_is
    (kept-id c.self.inside.nodes c.args.id c.in-Some.node.now (sym c.in-Some.ensures)) c.closing_part-count.ensures in
    sym (length-reverse c.closing_part-count.result.now) ∙ ap length whole

pub closing_part-count-requires-clause-path : goal.closing_part-count-requires-clause-path
closing_part-count-requires-clause-path c =
    stored-path c.self.inside.branches.branches.items c.self.inside.nodes c.self.invariant.1 c.in-Some.node.now.span.id _ (kept-own c.self.inside.nodes c.args.id c.in-Some.node.now (sym c.in-Some.ensures))
    c.path.result.now c.path.ensures c.path-path.result.now c.path-path.ensures
