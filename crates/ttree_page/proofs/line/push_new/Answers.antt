use Rattle.std.proofs.Common.{◌≡◌, ◌++◌, ap, ◌∙◌, flat_map, codes, subst, List, OnOk, string_bytes}
use Rattle.std.specs.Fmt.{decimal}
use Rattle.tracing_tree_spans.specs.Registry.Forest.{named_parent}
use Rattle.ttree_page.specs.Lines.{after_comma, field_parts, in_quotes, keyed_part, step_end}
use Rattle.ttree_page.specs.Steps.{span_number, stamp_of}
use Rattle.tracing_tree_base.specs.declared.field.Field.{Field}
use Rattle.ttree_page.proofs.Appended.{new-pushed}
use Rattle.ttree_page.proofs.line.push_new.Goals as goal

pub returns-clause-ok : goal.returns-clause-ok
returns-clause-ok c =
    let form = c.args.form in
    let attributes = c.args.attributes.now in
    let id = c.args.id.0 in
    let parent = span_number (named_parent attributes.parent c.args.context.now.current) in
    let s = string_bytes c.push_start.new.out in
    let t = string_bytes c.push_ids.new.out in
    let u = string_bytes c.push_names.new.out in
    let ids : t ≡ s ++ (after_comma (keyed_part form (codes "id") (decimal id)) ++ after_comma (keyed_part form (codes "parent") (decimal parent))) =
    c.in_ok-push_ids.ensures.ok ∙ ap (λ o. s ++ (after_comma (keyed_part form (codes "id") (decimal id)) ++ after_comma (keyed_part form (codes "parent") (decimal (span_number o))))) c.named-parent.ensures in
    let names : u ≡ t ++ (after_comma (keyed_part form (codes "name") (in_quotes attributes.name)) ++ after_comma (keyed_part form (codes "target") (in_quotes attributes.target))) =
    c.in_ok-push_names.ensures.ok ∙ ap (λ text. t ++ (after_comma (keyed_part form (codes "name") (in_quotes text)) ++ after_comma (keyed_part form (codes "target") (in_quotes c.as_str-2.result.now)))) c.as_str.ensures
    ∙ ap (λ text. t ++ (after_comma (keyed_part form (codes "name") (in_quotes attributes.name)) ++ after_comma (keyed_part form (codes "target") (in_quotes text)))) c.as_str-2.ensures in
    new-pushed c.push_end.result form (stamp_of c.args.context.now) id parent attributes.name attributes.target attributes.fields
    (string_bytes c.args.out.now) s t u (string_bytes c.push_end.new.out) c.in_ok-push_start.ensures.ok ids names
    (subst (λ (fields : List Field). OnOk c.push_end.result (string_bytes c.push_end.new.out ≡ u ++ (flat_map after_comma (field_parts form fields) ++ step_end form))) c.as_slice.ensures c.push_end.ensures.ok)
