use Rattle.std.proofs.Common.{◌≡◌, ◌++◌, false, not, Option, None, Some, refl, sym, ap, ◌∙◌}
use Rattle.std.proofs.KnownBytes.{Appends-nil}
use Rattle.std.specs.Option.{is_some, option_map}
use Rattle.tracing_tree_spans.specs.Registry.Spans.{Span, shown_span}
use Rattle.tracing_tree_spans.specs.Registry.Forest.{span_at}
use Rattle.tracing_tree_spans.proofs.RegistryLaws.{forest-unchanged}
use Rattle.tracing_tree_layer.specs.Layer.Layers.{seen}
use Rattle.tracing_tree_layer.proofs.Causes.{first_cause}
use Rattle.tracing_tree_layer.proofs.layer.HierarchicalLayer.on_record.Goals as goal

-- a span without shown data isn't live
unshown : (o : Option Span) → is_some (option_map shown_span o) ≡ false → o ≡ None
unshown None e = refl
unshown (Some s) e = absurd cc

-- fields of a span that isn't live change nothing
pub returns-then-is_none : goal.returns-then-is_none
returns-then-is_none g c =
    let forest = g.S.LookupSpan.forest c.args.spans.now in
    let sound : c.args.self.now.failed ≡ false = sym (ap (λ l. l.failed) c.self.view_is) ∙ c.if-self.false in
    let none : span_at forest c.args.id ≡ None =
    unshown (span_at forest c.args.id) (ap is_some (sym c.span.ensures.shown) ∙ c.is_none.ensures ∙ ap not c.if-is_none.true) in
    record {
      changed = record {
        allowed = ap (λ failed. first_cause (record { failed = failed; not_held = None; too_many = false; too_wide = false; timer_faults = false })) sound;
        left = (λ k. seen g.FT.FormatTime g.W.Output (record { forest = forest-unchanged (λ span. record span { kept = record span.kept { fields = span.kept.fields ++ c.args.values.now.fields } }) c.args.id forest none k; layer = c.args.self.now }));
        written = (Appends-nil _, refl);
      };
      fixed = refl;
    }
