-- Spans that are left one after another.
use Rattle.std.proofs.Common.{rules, ◌≡◌, Bool, true, false, List, [], ◌∷◌, length, drop, Option, Some, None, if◌then◌else◌, refl, sym, ap, ◌∙◌}
use Rattle.tracing_tree_base.specs.declared.context.Id.{Id}
use Rattle.ttree_chrome.specs.Tree.{TreeState, at_end, closed_as, frame_left, is_left, leaving, leaving_count, left_out_emitted, left_while, span_closed, with_settled}
use Rattle.ttree_chrome.specs.declared.gather.Point.{Point}
use Rattle.ttree_chrome.specs.declared.tree.Frame.{Frame}
use Rattle.ttree_chrome.specs.declared.tree.Until.{Until}
use Rattle.ttree_chrome.specs.declared.tree.Waiting.{Waiting}

end_keeps : (end : Option Point) (s : TreeState) → (at_end end s).frames ≡ s.frames
end_keeps (Some end) s = refl
end_keeps None s = refl

settled_keeps : (span : Option Waiting) (s : TreeState) → (with_settled span s).frames ≡ s.frames
settled_keeps None s = refl
settled_keeps (Some span) s = refl

closed_keeps : (id parent : Option Id) (s : TreeState) → (span_closed id parent s).frames ≡ s.frames
closed_keeps (Some id) parent s = refl
closed_keeps None parent s = refl

leaf_keeps : (span : Option Waiting) (frame : Frame) (s : TreeState) → (closed_as span frame s).frames ≡ s.frames
leaf_keeps None frame s = closed_keeps frame.id frame.parent s
leaf_keeps (Some span) frame s = refl

if_keeps : (b : Bool) (s t : TreeState) → t.frames ≡ s.frames → (if b then s else t).frames ≡ s.frames
if_keeps true s t h = refl
if_keeps false s t h = h

-- a span that is left was taken off before
left_keeps : (frame : Frame) (s : TreeState) → (frame_left frame s).frames ≡ s.frames
left_keeps frame s =
    let ended : TreeState = at_end frame.end s in
    leaf_keeps (left_out_emitted frame ended).waiting frame (left_out_emitted frame ended)
    ∙ if_keeps _ ended _ (settled_keeps ended.waiting ended) ∙ end_keeps frame.end s

-- a span that is left, and those after it
step_if : (b : Bool) (until : Until) (f frame : Frame) (below : List Frame) (s : TreeState) →
    (if b then Some f else None) ≡ Some frame →
    (if b then left_while until below (frame_left f (record s { frames = below })) else s)
    ≡ left_while until (drop (if b then 1 else 0) (f ∷ below))
    (frame_left frame (record s { frames = drop (if b then 1 else 0) (f ∷ below) }))
step_if true until f frame below s h = search rules
step_if false until f frame below s h = search rules

step_on : (until : Until) (frames : List Frame) (frame : Frame) (s : TreeState) →
    leaving until frames ≡ Some frame →
    left_while until frames s
    ≡ left_while until (drop (leaving_count until frames) frames)
    (frame_left frame (record s { frames = drop (leaving_count until frames) frames }))
step_on until [] frame s h = search rules
step_on until (f ∷ below) frame s h = step_if (is_left until f (length below)) until f frame below s h

pub left_step : (until : Until) (frame : Frame) (s : TreeState) → leaving until s.frames ≡ Some frame →
    (t : TreeState) → t ≡ frame_left frame (record s { frames = drop (leaving_count until s.frames) s.frames }) →
    left_while until s.frames s ≡ left_while until t.frames t
left_step until frame s h t e =
    let below : List Frame = drop (leaving_count until s.frames) s.frames in
    let u : TreeState = frame_left frame (record s { frames = below }) in
    step_on until s.frames frame s h
    ∙ ap (λ frames. left_while until frames u) (sym (left_keeps frame (record s { frames = below })))
    ∙ ap (λ (v : TreeState). left_while until v.frames v) (sym e)
