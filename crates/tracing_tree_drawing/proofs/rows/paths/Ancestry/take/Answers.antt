use Rattle.std.proofs.Common.{◌≡◌, ◌∙◌, ◌==◌, ℕ, Some, true, false, ap, sym, map, if◌then◌else◌}
use Rattle.std.specs.List.{range_with_len}
use Rattle.tracing_tree_drawing.specs.Rows.Paths.{place_at}
use Rattle.tracing_tree_drawing.specs.Rows.RowText.{is_event, is_opening}
use Rattle.tracing_tree_drawing.proofs.RowsRead.AncestryLaws.{follows-opening, follows-event, follows-other, opening-quiet}
use Rattle.tracing_tree_drawing.proofs.rows.paths.Ancestry.take.Goals as goal

pub returns-then-opens : goal.returns-then-opens
returns-then-opens c rows at last =
    let row = c.args.row.now in
    let old = c.args.self.now in
    let opens : is_opening row.shape ≡ true = ap is_opening (sym c.shape.ensures.shape) ∙ sym c.opens.ensures ∙ c.if-opens.true in
    let moved : (k : ℕ) → place_at c.open.new.self k ≡ (if row.level == k then Some c.args.place else place_at old k) =
    λ k. c.in_ok-open.ensures.ok k ∙ ap (λ n. if n == k then Some c.args.place else place_at old k) c.level.ensures in
    follows-opening rows row old c.open.new.self c.args.place at last opens (opening-quiet row opens) moved

pub returns-then-not-is_event : goal.returns-then-not-is_event
returns-then-not-is_event c rows at last =
    let row = c.args.row.now in
    let shut : is_opening row.shape ≡ false = ap is_opening (sym c.shape.ensures.shape) ∙ sym c.opens.ensures ∙ c.if-opens.false in
    let quiet : is_event row.shape ≡ false = ap is_event (sym c.shape-2.ensures.shape) ∙ sym c.is_event.ensures ∙ c.if-not-is_event.true in
    follows-other rows row c.args.self.now last shut quiet

pub returns : goal.returns
returns c rows at last =
    let row = c.args.row.now in
    let old = c.args.self.now in
    let shut : is_opening row.shape ≡ false = ap is_opening (sym c.shape.ensures.shape) ∙ sym c.opens.ensures ∙ c.if-opens.false in
    let event : is_event row.shape ≡ true = ap is_event (sym c.shape-2.ensures.shape) ∙ sym c.is_event.ensures ∙ c.if-not-is_event.false in
    let places : c.in_ok-ancestors.ancestors ≡ map (place_at old) (range_with_len 0 row.level) =
    c.in_ok-ancestors.ensures ∙ ap (λ n. map (place_at old) (range_with_len 0 n)) c.level-2.ensures in
    follows-event rows row old c.args.place c.in_ok-ancestors.ancestors at last shut event places
