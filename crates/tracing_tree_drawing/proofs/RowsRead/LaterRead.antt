-- Later lines of a row: they are read as drawn, and drawn as read.
use Rattle.std.proofs.Common.{◌≡◌, ℕ, zero, suc, ◌+◌, ◌-◌, ◌*◌, ◌<◌, ◌==◌, ◌&&◌, Bool, true, false, not, List, ◌++◌, Option, Some, None, option_and_then, refl, sym, ap, ◌∙◌, arith, eqb-true, ne_eqb}
use Rattle.std.specs.Char.{encode_utf8}
use Rattle.std.proofs.lemmas.Bool.{and_parts}
use Rattle.tracing_tree_drawing.specs.Format.Picture.{columns, lined_frame, later_frame, shift_of, continuation_shift}
use Rattle.tracing_tree_drawing.proofs.Characters.{space, vertical}
use Rattle.tracing_tree_drawing.specs.declared.format.SpanMode.{SpanMode}
use Rattle.tracing_tree_drawing.specs.Rows.RowText.{mode_of, without_start_spaces}
use Rattle.tracing_tree_drawing.specs.declared.rows.row.Shape.{Shape}
use Rattle.tracing_tree_drawing.specs.Rows.Line.{after_front, start_spaces, read_later_at, read_later}
use Rattle.tracing_tree_drawing.proofs.RowsRead.Bytes.{three-parts, same, after_front-gives, after_front-is, spaces-before, rest-after, spaces-count}

pub lined-later : (mode : SpanMode) (amount level place : ℕ) → 0 < level + shift_of mode → 0 < amount → 0 < place →
    lined_frame mode amount level place ≡ later_frame mode amount ((level + shift_of mode) * amount - amount)
lined-later mode amount level place used some later =
    rw (ne_eqb (level + shift_of mode) 0 (λ e. omega arith), ne_eqb amount 0 (λ e. omega arith), ne_eqb place 0 (λ e. omega arith)) refl

bar-line : (from amount : ℕ) (text : List ℕ) →
    columns from space ++ encode_utf8 vertical ++ columns amount space ++ text
    ≡ columns from space ++ (encode_utf8 vertical ++ (columns amount space ++ text))
bar-line from amount text = three-parts (columns from space) (encode_utf8 vertical) (columns amount space) text

-- the columns before the bar
abbrev pub bar_column : Shape → ℕ → ℕ → ℕ
bar_column shape amount level = (level + shift_of (mode_of shape)) * amount - amount + continuation_shift (mode_of shape)

pub later-line : (shape : Shape) (amount level place : ℕ) (text : List ℕ) → 0 < level + shift_of (mode_of shape) → 0 < amount → 0 < place →
    lined_frame (mode_of shape) amount level place ++ text
    ≡ columns (bar_column shape amount level) space ++ (encode_utf8 vertical ++ (columns amount space ++ text))
later-line shape amount level place text used some later =
    ap (λ frame. frame ++ text) (lined-later (mode_of shape) amount level place used some later)
    ∙ bar-line (bar_column shape amount level) amount text

barred : (amount : ℕ) (shape : Shape) (level spaces : ℕ) (text : List ℕ) →
    read_later amount shape level (columns spaces space ++ (encode_utf8 vertical ++ text)) ≡ read_later_at amount shape (level + shift_of (mode_of shape)) spaces text
unfolding encode_utf8
barred amount shape level spaces text =
    let rest : List ℕ = encode_utf8 vertical ++ text in
    let line : List ℕ = columns spaces space ++ rest in
    ap (λ t. option_and_then (read_later_at amount shape (level + shift_of (mode_of shape)) (start_spaces line)) (after_front (encode_utf8 vertical) t)) (rest-after spaces rest refl)
    ∙ ap (λ n. read_later_at amount shape (level + shift_of (mode_of shape)) n text) (spaces-count spaces rest refl)

-- (a) a later line of a row is read as its text
pub later-drawn : (amount : ℕ) → 0 < amount → (shape : Shape) (level place : ℕ) (text : List ℕ) → 0 < level + shift_of (mode_of shape) → 0 < place →
    read_later amount shape level (lined_frame (mode_of shape) amount level place ++ text) ≡ Some text
later-drawn amount some shape level place text used later =
    ap (read_later amount shape level) (later-line shape amount level place text used some later)
    ∙ barred amount shape level (bar_column shape amount level) (columns amount space ++ text)
    ∙ rw (ne_eqb (level + shift_of (mode_of shape)) 0 (λ e. omega arith), same (bar_column shape amount level), after_front-gives (columns amount space) text) refl

-- (b) what a later line is read as is drawn as that line
pub later-is : (amount : ℕ) → 0 < amount → (shape : Shape) (level : ℕ) (line text : List ℕ) → read_later amount shape level line ≡ Some text →
    (0 < level + shift_of (mode_of shape)) × (lined_frame (mode_of shape) amount level 1 ++ text ≡ line)
later-is amount some shape level line text e = by (after_front (encode_utf8 vertical) (without_start_spaces line)) refl
  where
    used : ℕ
    used = level + shift_of (mode_of shape)

    by : (o : Option (List ℕ)) → after_front (encode_utf8 vertical) (without_start_spaces line) ≡ o →
        (0 < level + shift_of (mode_of shape)) × (lined_frame (mode_of shape) amount level 1 ++ text ≡ line)
    by None k = absurd (let h : None ≡ Some text = ap (option_and_then (read_later_at amount shape used (start_spaces line))) (sym k) ∙ e in cc)
    by (Some rest) k =
        at (not (used == 0) && (start_spaces line == bar_column shape amount level)) refl
        (ap (option_and_then (read_later_at amount shape used (start_spaces line))) (sym k) ∙ e)
      where
        at : (b : Bool) → (not (used == 0) && (start_spaces line == bar_column shape amount level)) ≡ b → read_later_at amount shape used (start_spaces line) rest ≡ Some text →
            (0 < level + shift_of (mode_of shape)) × (lined_frame (mode_of shape) amount level 1 ++ text ≡ line)
        at false t h = absurd (let z : None ≡ Some text = rw t at h in cc)
        at true t h =
            let both = and_parts (not (used == 0)) (start_spaces line == bar_column shape amount level) t in
            let here : start_spaces line ≡ bar_column shape amount level = eqb-true (start_spaces line) (bar_column shape amount level) both.1 in
            let up : 0 < level + shift_of (mode_of shape) = positive used both.0 in
            let taken : after_front (columns amount space) rest ≡ Some text = rw t at h in (
              up,
              later-line shape amount level 1 text up some (omega arith)
                  ∙ ap (λ n. columns n space ++ (encode_utf8 vertical ++ (columns amount space ++ text))) (sym here)
                  ∙ ap (λ t. columns (start_spaces line) space ++ (encode_utf8 vertical ++ t)) (sym (after_front-is (columns amount space) rest text taken))
                  ∙ ap (λ t. columns (start_spaces line) space ++ t) (sym (after_front-is (encode_utf8 vertical) (without_start_spaces line) rest k))
                  ∙ sym (spaces-before line),
            )
          where
            positive : (n : ℕ) → not (n == 0) ≡ true → 0 < n
            positive zero z = absurd (cc)
            positive (suc n) z = omega arith
