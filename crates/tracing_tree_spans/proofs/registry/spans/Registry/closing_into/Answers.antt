use Rattle.std.proofs.Common.{◌≡◌, ◌≢◌, length, reverse, rules, sym, ◌∙◌, subst}
use Rattle.std.proofs.lemmas.Result.{err_from_is_err_and}
use Rattle.tracing_tree_spans.specs.Registry.Forest.{IsGrownForest, closing_of}
use Rattle.tracing_tree_spans.proofs.KeptLists.{kept-id}
use Rattle.tracing_tree_spans.proofs.Registers.{seen, no-handle, zero-handles, some-handles, kept-own, stored-path, closing-one, closing-whole, closing-whole-is, empty-part, some-part}
use Rattle.tracing_tree_spans.proofs.registry.spans.Registry.closing_into.Goals as goal

pub returns-in_default-clause-lists : goal.returns-in_default-clause-lists
returns-in_default-clause-lists c =
    no-handle c.args.self.now c.args.id (seen c.self.inside.nodes _ _ c.args.id _ c.self.view_is (sym c.in_default.ensures))

pub returns-then-handles-eq0-clause-lists : goal.returns-then-handles-eq0-clause-lists
returns-then-handles-eq0-clause-lists c =
    let here = seen c.self.inside.nodes _ _ c.args.id _ c.self.view_is (sym c.in-Some.ensures) in
    zero-handles c.args.self.now c.args.id _ here (sym c.handles.ensures ∙ c.if-handles-eq0.true)

pub closing_part-part-requires-clause-there : goal.closing_part-part-requires-clause-there
closing_part-part-requires-clause-there c = kept-own c.self.inside.nodes c.args.id c.in-Some.node.now (sym c.in-Some.ensures)

-- nothing closes
pub returns-then-is_empty-clause-lists : goal.returns-then-is_empty-clause-lists
returns-then-is_empty-clause-lists c =
    let here = seen c.self.inside.nodes _ _ c.args.id _ c.self.view_is (sym c.in-Some.ensures) in
    let part = c.closing_part-part.result.now in
    let whole : reverse part ≡ closing_of c.args.self.now c.args.id = closing-whole c.self.inside.nodes c.self.inside.next c.args.self.now c.args.id
    c.in-Some.node.now.span.id part c.self.view_is (kept-id c.self.inside.nodes c.args.id c.in-Some.node.now (sym c.in-Some.ensures)) c.closing_part-part.ensures in
    let none : length part ≡ 0 = search rules in (
      some-handles c.args.self.now c.args.id _ here (λ none. c.if-handles-eq0.false (c.handles.ensures ∙ none)),
      (search rules) ∙ sym (empty-part part _ none whole),
    )

pub returns-then-is_empty-clause-longest : goal.returns-then-is_empty-clause-longest
returns-then-is_empty-clause-longest c =
    let here = seen c.self.inside.nodes _ _ c.args.id _ c.self.view_is (sym c.in-Some.ensures) in
    closing-whole-is c.args.self.now (subst IsGrownForest c.self.view_is c.self.invariant.0.0) c.args.id _ _ here (returns-then-is_empty-clause-lists c).1

-- no memory for what closes
pub returns-in_err-extend_from_slice-clause-lists : goal.returns-in_err-extend_from_slice-clause-lists
returns-in_err-extend_from_slice-clause-lists c =
    let here = seen c.self.inside.nodes _ _ c.args.id _ c.self.view_is (sym c.in-Some.ensures) in
    let part = c.closing_part-part.result.now in
    let whole : reverse part ≡ closing_of c.args.self.now c.args.id = closing-whole c.self.inside.nodes c.self.inside.next c.args.self.now c.args.id
    c.in-Some.node.now.span.id part c.self.view_is (kept-id c.self.inside.nodes c.args.id c.in-Some.node.now (sym c.in-Some.ensures)) c.closing_part-part.ensures in
    let some : length part ≢ 0 = search rules in
    let p = err_from_is_err_and c.from_residual.result c.from_residual.ensures.1 in
    rw (p.1, p.2) (
      some-handles c.args.self.now c.args.id _ here (λ none. c.if-handles-eq0.false (c.handles.ensures ∙ none)),
      some-part part _ some whole,
    )

pub returns-in_err-extend_from_slice-clause-last : goal.returns-in_err-extend_from_slice-clause-last
returns-in_err-extend_from_slice-clause-last c =
    let here = seen c.self.inside.nodes _ _ c.args.id _ c.self.view_is (sym c.in-Some.ensures) in
    let part = c.closing_part-part.result.now in
    let whole : reverse part ≡ closing_of c.args.self.now c.args.id = closing-whole c.self.inside.nodes c.self.inside.next c.args.self.now c.args.id
    c.in-Some.node.now.span.id part c.self.view_is (kept-id c.self.inside.nodes c.args.id c.in-Some.node.now (sym c.in-Some.ensures)) c.closing_part-part.ensures in
    let some : length part ≢ 0 = search rules in
    let p = err_from_is_err_and c.from_residual.result c.from_residual.ensures.1 in
    rw (p.1, p.2) (closing-one c.args.self.now (subst IsGrownForest c.self.view_is c.self.invariant.0.0) c.args.id _ here
    (λ none. c.if-handles-eq0.false (c.handles.ensures ∙ none)) (some-part part _ some whole))

-- what closes
pub returns-clause-lists : goal.returns-clause-lists
returns-clause-lists c =
    let here = seen c.self.inside.nodes _ _ c.args.id _ c.self.view_is (sym c.in-Some.ensures) in
    let part = c.closing_part-part.result.now in
    let whole : reverse part ≡ closing_of c.args.self.now c.args.id = closing-whole c.self.inside.nodes c.self.inside.next c.args.self.now c.args.id
    c.in-Some.node.now.span.id part c.self.view_is (kept-id c.self.inside.nodes c.args.id c.in-Some.node.now (sym c.in-Some.ensures)) c.closing_part-part.ensures in
    let items : c.reverse.new.self.items ≡ reverse part = search rules in (
      some-handles c.args.self.now c.args.id _ here (λ none. c.if-handles-eq0.false (c.handles.ensures ∙ none)),
      items ∙ whole,
    )

pub returns-clause-longest : goal.returns-clause-longest
returns-clause-longest c =
    let here = seen c.self.inside.nodes _ _ c.args.id _ c.self.view_is (sym c.in-Some.ensures) in
    closing-whole-is c.args.self.now (subst IsGrownForest c.self.view_is c.self.invariant.0.0) c.args.id _ _ here (returns-clause-lists c).1

pub returns-clause-last : goal.returns-clause-last
returns-clause-last c =
    let here = seen c.self.inside.nodes _ _ c.args.id _ c.self.view_is (sym c.in-Some.ensures) in
    λ some. closing-one c.args.self.now (subst IsGrownForest c.self.view_is c.self.invariant.0.0) c.args.id _ here
    (λ none. c.if-handles-eq0.false (c.handles.ensures ∙ none)) (λ none. some ((returns-clause-lists c).1 ∙ none))

pub closing_part-part-requires-clause-path : goal.closing_part-part-requires-clause-path
closing_part-part-requires-clause-path c =
    stored-path c.self.inside.branches.branches.items c.self.inside.nodes c.self.invariant.1 c.in-Some.node.now.span.id _ (kept-own c.self.inside.nodes c.args.id c.in-Some.node.now (sym c.in-Some.ensures))
    c.path.result.now c.path.ensures c.path-path.result.now c.path-path.ensures
