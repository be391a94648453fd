use Rattle.std.proofs.Common.{◌≡◌, ◌+◌, ◌==◌, true, false, arith, refl, sym}
use Rattle.std.proofs.lemmas.Bool.Decides.{nat_tests}
use Rattle.tracing_tree_spans.specs.Registry.Spans.{Span, handle_more}
use Rattle.tracing_tree_spans.proofs.Ties.{KeepsTies}
use Rattle.tracing_tree_spans.proofs.Registers.{seen, not-live, one-live, all-handles, kept-update, tied-update, forest-update}
use Rattle.tracing_tree_spans.proofs.registry.spans.Registry.clone_span.Goals as goal

-- the span with one handle more
abbrev one_more : Span → Span
one_more span = record span { handles = span.handles + 1 }

more-ties : KeepsTies handle_more one_more
more-ties = record {
  spans = λ n. refl;
  same = record { ids = λ s. refl; parents = λ s. refl };
  paths = λ n. refl;
  children = λ n. refl;
}

pub returns-in_default : goal.returns-in_default
returns-in_default c =
    (not-live c.args.self.now c.args.id (seen c.self.inside.nodes _ _ c.args.id _ c.self.view_is (sym c.in_default.ensures)), refl)

pub returns-then-handles : goal.returns-then-handles
returns-then-handles c =
    let here = seen c.self.inside.nodes _ _ c.args.id _ c.self.view_is (sym c.in-Some.ensures) in
    let all : (c.in-Some.node.now.span.handles == 18_446_744_073_709_551_615) ≡ true = grind (arith, nat_tests, c.handles.ensures, c.if-handles.true) in
    (one-live c.args.self.now c.args.id _ here, all-handles c.args.self.now c.args.id _ true here all, refl)

pub invariant_of-self : goal.invariant_of-self
invariant_of-self c = (
  kept-update handle_more one_more more-ties c.self.inside.nodes _ _ c.args.id c.self.invariant.0 c.add_handle.ensures,
  tied-update c.self.inside.branches.branches.items handle_more one_more more-ties c.self.inside.nodes _ c.args.id c.self.invariant.1 c.add_handle.ensures,
)

pub returns : goal.returns
returns c =
    let here = seen c.self.inside.nodes _ _ c.args.id _ c.self.view_is (sym c.in-Some.ensures) in
    let few : (c.in-Some.node.now.span.handles == 18_446_744_073_709_551_615) ≡ false = grind (arith, nat_tests, c.handles.ensures, c.if-handles.false) in (
      one-live c.args.self.now c.args.id _ here,
      all-handles c.args.self.now c.args.id _ false here few,
      refl,
      forest-update handle_more one_more (λ n. refl) c.self.inside.nodes _ c.self.inside.next _ c.args.id c.self.view_is c.add_handle.ensures,
    )
