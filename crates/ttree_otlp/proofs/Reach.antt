-- How far up rows contain a picked one.
use Rattle.std.proofs.Common.{◌≡◌, ℕ, Bool, true, false, List, [], ◌∷◌, arith, ap, sym, ◌∙◌}
use Rattle.std.specs.Prelude.{nat_lt, ◌||◌, ◌&&◌}
use Rattle.ttree_source.specs.declared.cut.Cut.{Cut}
use Rattle.ttree_otlp.specs.Cut.{drawn, drawn_with, is_drawn_by, is_note, is_within, lasts}
use Rattle.ttree_otlp.specs.Nested.{contains, reach_of, reach_with}
use Rattle.ttree_otlp.specs.Select.{is_around, is_selected, is_with_selected_by, kept_with, selected_of}
use Rattle.ttree_otlp.specs.declared.select.Selection.{Selection}
use Rattle.ttree_otlp.specs.declared.walk.Row.{Row}

reached : (depth level reach : ℕ) (s : Bool) → nat_lt depth level && (s || nat_lt depth reach) ≡ nat_lt depth (reach_with s level reach)
reached depth level reach true = grind arith
reached depth level reach false = grind arith

-- a row before these has a picked one in it exactly if its depth is lower than their reach
pub contains_by_reach : (picks : Row → Bool) (depth : ℕ) (rows : List Row) → contains picks depth rows ≡ nat_lt depth (reach_of picks rows)
contains_by_reach picks depth [] = grind arith
contains_by_reach picks depth (row ∷ rows) =
    ap (λ (b : Bool). nat_lt depth row.depth && (picks row || b)) (contains_by_reach picks depth rows)
    ∙ reached depth row.depth (reach_of picks rows) (picks row)

pub selected_more : (selection : Selection) (row : Row) (done : List Row) (kept : List Row) (reach : ℕ) → kept ≡ selected_of selection done → reach ≡ reach_of (is_selected selection) done
    → kept_with (is_with_selected_by selection row (is_selected selection row) reach) row kept ≡ selected_of selection (row ∷ done)
selected_more selection row done kept reach same up =
    ap (λ (l : List Row). kept_with (is_with_selected_by selection row (is_selected selection row) reach) row l) same
    ∙ ap (λ (n : ℕ). kept_with (is_with_selected_by selection row (is_selected selection row) n) row (selected_of selection done)) up
    ∙ ap (λ (b : Bool). kept_with ((is_selected selection row || b) || is_around selection row) row (selected_of selection done)) (sym (contains_by_reach (is_selected selection) row.depth done))

pub drawn_more : (cut : Cut) (row : Row) (done : List Row) (left : List Row) (reach : ℕ) → left ≡ drawn cut done → reach ≡ reach_of (lasts cut.min_time) done
    → drawn_with (is_drawn_by cut row (lasts cut.min_time row) reach) row left ≡ drawn cut (row ∷ done)
drawn_more cut row done left reach same up =
    ap (λ (l : List Row). drawn_with (is_drawn_by cut row (lasts cut.min_time row) reach) row l) same
    ∙ ap (λ (n : ℕ). drawn_with (is_drawn_by cut row (lasts cut.min_time row) n) row (drawn cut done)) up
    ∙ ap (λ (b : Bool). drawn_with ((is_within row.depth cut.depth && (lasts cut.min_time row || b)) || is_note row.item.shape) row (drawn cut done)) (sym (contains_by_reach (lasts cut.min_time) row.depth done))
