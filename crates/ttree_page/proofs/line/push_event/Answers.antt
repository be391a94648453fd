use Rattle.std.proofs.Common.{◌≡◌, ◌++◌, ap, ◌∙◌, flat_map, codes, subst, List, OnOk, string_bytes}
use Rattle.ttree_page.specs.Lines.{after_comma, field_parts, in_quotes, keyed_part, step_end}
use Rattle.ttree_page.specs.Steps.{span_number, stamp_of}
use Rattle.tracing_tree_base.specs.declared.field.Field.{Field}
use Rattle.ttree_page.proofs.Appended.{event-pushed}
use Rattle.ttree_page.proofs.line.push_event.Goals as goal

pub returns-clause-ok : goal.returns-clause-ok
returns-clause-ok c =
    let form = c.args.form in
    let event = c.args.event.now in
    let s = string_bytes c.push_start.new.out in
    let t = string_bytes c.push_place.new.out in
    let u = string_bytes c.push_level.new.out in
    let v = string_bytes c.push_string.new.out in
    let target : v ≡ u ++ after_comma (keyed_part form (codes "target") (in_quotes event.target)) =
    c.in_ok-push_string.ensures.ok ∙ ap (λ text. u ++ after_comma (keyed_part form (codes "target") (in_quotes text))) c.as_str.ensures in
    event-pushed c.push_end.result form (stamp_of c.args.context.now) (span_number c.args.parent) (span_number c.args.current) event.level event.target event.fields
    (string_bytes c.args.out.now) s t u v (string_bytes c.push_end.new.out) c.in_ok-push_start.ensures.ok c.in_ok-push_place.ensures.ok c.in_ok-push_level.ensures.ok target
    (subst (λ (fields : List Field). OnOk c.push_end.result (string_bytes c.push_end.new.out ≡ v ++ (flat_map after_comma (field_parts form fields) ++ step_end form))) c.as_slice.ensures c.push_end.ensures.ok)
