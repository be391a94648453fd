-- What a line is read as is drawn as that line: first lines.
use Rattle.std.proofs.Common.{◌≡◌, ℕ, ◌+◌, ◌-◌, ◌*◌, ◌/◌, ◌%◌, ◌<◌, ◌≤◌, max, ◌==◌, ◌&&◌, Bool, true, false, List, [], ◌∷◌, ◌++◌, Option, Some, None, option_map, ◌⊎◌, inl, inr, ⊎_elim, if◌then◌else◌, refl, sym, ap, ◌∙◌, arith, nat_le, eqb-true}
use Rattle.std.specs.Char.{encode_utf8}
use Rattle.std.specs.Option.{option_map_or}
use Rattle.std.proofs.lemmas.Bool.{le-leb, or_left, and_from}
use Rattle.std.proofs.lemmas.Nat.{div-add-mod'}
use Rattle.tracing_tree_drawing.specs.Format.Picture.{columns, lined_frame, first_frame, corners, span_corners, shift_of}
use Rattle.tracing_tree_drawing.proofs.Characters.{space, horizontal, branch, corner_down_left, corner_up_left, corner_up_right, corner_down_right}
use Rattle.tracing_tree_drawing.specs.declared.format.SpanMode.{SpanMode}
use Rattle.tracing_tree_drawing.specs.declared.format.SpanMode.TheVariants as Mode
use Rattle.tracing_tree_drawing.specs.Rows.RowText.{TextRow, mode_of, fits_shape, is_bare_text, is_one_line, without_start_spaces}
use Rattle.tracing_tree_drawing.specs.declared.rows.row.Shape.{Shape}
use Rattle.tracing_tree_drawing.specs.declared.rows.row.Shape.TheVariants.{PreOpen, OpenRoot, Open, CloseRoot, Close, PostClose, Event}
use Rattle.tracing_tree_drawing.specs.Rows.Line.{after_front, after_run, start_spaces, one_line_row, read_root, read_corners, read_event, read_first}
use Rattle.tracing_tree_drawing.proofs.RowsRead.Bytes.{after_front-is, after_run-is, spaces-before}
use Rattle.tracing_tree_drawing.proofs.RowsRead.FirstRead.{lined-first, columns-before, verbose-corners, corners-line, branch-line}

-- ---- answers

map_or-cases : {A B : Type 0} (f : A → Option B) (o : Option A) (d : Option B) (y : B) → option_map_or f o d ≡ Some y →
    ((x : A) × (o ≡ Some x) × (f x ≡ Some y)) ⊎ (d ≡ Some y)
map_or-cases f None d y e = inr e
map_or-cases f (Some x) d y e = inl (x, refl, e)

map-some : {A B : Type 0} (f : A → B) (o : Option A) (y : B) → option_map f o ≡ Some y → (x : A) × (o ≡ Some x) × (y ≡ f x)
map-some f None y e = absurd (cc)
map-some f (Some x) y e = (x, refl, cc)

if-some : {B : Type 0} (b : Bool) (o : Option B) (y : B) → (if b then o else None) ≡ Some y → (b ≡ true) × (o ≡ Some y)
if-some true o y e = (refl, e)
if-some false o y e = absurd (cc)

some-is : {B : Type 0} (x y : B) → Some x ≡ Some y → y ≡ x
some-is x y e = cc

-- ---- what is drawn

-- the row's one line is this one
pub record IsFirstOf (amount : ℕ) (line : List ℕ) (row : TextRow) : Type 0 where
  pub shape : Shape
  pub level : ℕ
  pub text : List ℕ
  pub is : row ≡ one_line_row shape level text
  pub fits : fits_shape shape level (text ∷ []) ≡ true
  pub drawn : lined_frame (mode_of shape) amount level 0 ++ text ≡ line

corner-lined : (mode : SpanMode) (left right amount level from to filled spaces : ℕ) (text : List ℕ) → 0 < level + shift_of mode → 0 < amount →
    first_frame mode amount ((level + shift_of mode) * amount - amount) ≡ corners left right from to → to - from - 1 ≡ filled → from ≡ spaces →
    lined_frame mode amount level 0 ++ text
    ≡ columns spaces space ++ (encode_utf8 left ++ (columns filled horizontal ++ (encode_utf8 right ++ text)))
corner-lined mode left right amount level from to filled spaces text used some is n e =
    ap (λ frame. frame ++ text) (lined-first mode amount level used some ∙ is)
    ∙ corners-line left right from to filled text n
    ∙ ap (λ k. columns k space ++ (encode_utf8 left ++ (columns filled horizontal ++ (encode_utf8 right ++ text)))) e

-- the shapes whose rows begin with these corners
record AreCornered (left right : ℕ) (plain parent verbose : Shape) : Type 0 where
  plain_shift : shift_of (mode_of plain) ≡ 0
  parent_shift : shift_of (mode_of parent) ≡ 1
  verbose_shift : shift_of (mode_of verbose) ≡ 0
  plain_frame : (amount before : ℕ) → first_frame (mode_of plain) amount before ≡ span_corners left right false amount before
  parent_frame : (amount before : ℕ) → first_frame (mode_of parent) amount before ≡ corners left right before (before + max (amount / 2) 1)
  verbose_frame : (amount before : ℕ) → first_frame (mode_of verbose) amount before ≡ span_corners left right true amount before
  plain_fits : (level : ℕ) (lines : List (List ℕ)) → fits_shape plain level lines ≡ nat_le 1 level
  parent_fits : (level : ℕ) (lines : List (List ℕ)) → fits_shape parent level lines ≡ true
  verbose_fits : (level : ℕ) (lines : List (List ℕ)) → fits_shape verbose level lines ≡ nat_le 1 level

opens-cornered : AreCornered corner_up_right corner_down_left (Open false) PreOpen (Open true)
opens-cornered = record {
  plain_shift = refl;
  parent_shift = refl;
  verbose_shift = refl;
  plain_frame = λ a b. refl;
  parent_frame = λ a b. refl;
  verbose_frame = λ a b. refl;
  plain_fits = λ l t. refl;
  parent_fits = λ l t. refl;
  verbose_fits = λ l t. refl;
}

closes-cornered : AreCornered corner_down_right corner_up_left (Close false) PostClose (Close true)
closes-cornered = record {
  plain_shift = refl;
  parent_shift = refl;
  verbose_shift = refl;
  plain_frame = λ a b. refl;
  parent_frame = λ a b. refl;
  verbose_frame = λ a b. refl;
  plain_fits = λ l t. refl;
  parent_fits = λ l t. refl;
  verbose_fits = λ l t. refl;
}

corners-is : (left right : ℕ) (plain parent verbose : Shape) → AreCornered left right plain parent verbose → (amount : ℕ) → 2 ≤ amount →
    (line : List ℕ) (spaces : ℕ) (text : List ℕ) (row : TextRow) → line ≡ columns spaces space ++ (encode_utf8 left ++ text) →
    read_corners right plain parent verbose amount spaces text ≡ Some row → IsFirstOf amount line row
corners-is left right plain parent verbose c amount two line spaces text row at e = by (spaces % amount == 0) refl
  where
    parts : spaces / amount * amount + spaces % amount ≡ spaces
    parts = div-add-mod' spaces amount

    one : nat_le 1 (spaces / amount + 1) ≡ true
    one = le-leb 1 (spaces / amount + 1) (omega arith)

    whole : (filled : ℕ) (rest : List ℕ) → after_run filled right text ≡ Some rest →
        columns spaces space ++ (encode_utf8 left ++ (columns filled horizontal ++ (encode_utf8 right ++ rest))) ≡ line
    whole filled rest k = ap (λ t. columns spaces space ++ (encode_utf8 left ++ t)) (sym (after_run-is filled right text rest k)) ∙ sym at

    is-plain : spaces % amount ≡ 0 → (rest : List ℕ) → after_run (amount - 1) right text ≡ Some rest → row ≡ one_line_row plain (spaces / amount + 1) rest →
        IsFirstOf amount line row
    is-plain even rest k r =
        let level : ℕ = spaces / amount + 1 in
        let before : ℕ = (level + shift_of (mode_of plain)) * amount - amount in
        let width : before ≡ spaces / amount * amount = columns-before (level + shift_of (mode_of plain)) (spaces / amount) amount (omega (arith, c.plain_shift)) in
        record {
          shape = plain;
          level = level;
          text = rest;
          is = r;
          fits = c.plain_fits level (rest ∷ []) ∙ one;
          drawn = corner-lined (mode_of plain) left right amount level before (before + amount) (amount - 1) spaces rest (omega arith) (omega arith)
              (c.plain_frame amount before) (omega arith) (omega (arith, width, parts, even)) ∙ whole (amount - 1) rest k;
        }

    is-parent : spaces % amount ≡ 0 → (rest : List ℕ) → after_run (amount / 2 - 1) right text ≡ Some rest → row ≡ one_line_row parent (spaces / amount) rest →
        IsFirstOf amount line row
    is-parent even rest k r =
        let level : ℕ = spaces / amount in
        let before : ℕ = (level + shift_of (mode_of parent)) * amount - amount in
        let width : before ≡ spaces / amount * amount = columns-before (level + shift_of (mode_of parent)) (spaces / amount) amount (omega (arith, c.parent_shift)) in
        record {
          shape = parent;
          level = level;
          text = rest;
          is = r;
          fits = c.parent_fits level (rest ∷ []);
          drawn = corner-lined (mode_of parent) left right amount level before (before + max (amount / 2) 1) (amount / 2 - 1) spaces rest (omega (arith, c.parent_shift)) (omega arith)
              (c.parent_frame amount before) (omega arith) (omega (arith, width, parts, even)) ∙ whole (amount / 2 - 1) rest k;
        }

    is-verbose : spaces % amount ≡ amount / 2 → (rest : List ℕ) → after_run (amount - 1 - amount / 2) right text ≡ Some rest → row ≡ one_line_row verbose (spaces / amount + 1) rest →
        IsFirstOf amount line row
    is-verbose half rest k r =
        let level : ℕ = spaces / amount + 1 in
        let before : ℕ = (level + shift_of (mode_of verbose)) * amount - amount in
        let width : before ≡ spaces / amount * amount = columns-before (level + shift_of (mode_of verbose)) (spaces / amount) amount (omega (arith, c.verbose_shift)) in
        record {
          shape = verbose;
          level = level;
          text = rest;
          is = r;
          fits = c.verbose_fits level (rest ∷ []) ∙ one;
          drawn = corner-lined (mode_of verbose) left right amount level (before + amount / 2) (before + amount) (amount - 1 - amount / 2) spaces rest (omega arith) (omega arith)
              (c.verbose_frame amount before ∙ verbose-corners left right amount before two)
              (omega arith) (omega (arith, width, parts, half)) ∙ whole (amount - 1 - amount / 2) rest k;
        }

    plain_or_parent : spaces % amount ≡ 0 →
        ((rest : List ℕ) × (after_run (amount - 1) right text ≡ Some rest) × (Some (one_line_row plain (spaces / amount + 1) rest) ≡ Some row))
        ⊎ (option_map (one_line_row parent (spaces / amount)) (after_run (amount / 2 - 1) right text) ≡ Some row) → IsFirstOf amount line row
    plain_or_parent even (inl h) = is-plain even h.0 h.1 (some-is (one_line_row plain (spaces / amount + 1) h.0) row h.2)
    plain_or_parent even (inr h) =
        let k = map-some (one_line_row parent (spaces / amount)) (after_run (amount / 2 - 1) right text) row h in
        is-parent even k.0 k.1 k.2

    by : (b : Bool) → (spaces % amount == 0) ≡ b → IsFirstOf amount line row
    by true even =
        plain_or_parent (eqb-true (spaces % amount) 0 even)
        (map_or-cases (λ rest. Some (one_line_row plain (spaces / amount + 1) rest)) (after_run (amount - 1) right text)
        (option_map (one_line_row parent (spaces / amount)) (after_run (amount / 2 - 1) right text)) row (rw even at e))
    by false odd =
        let h = if-some (spaces % amount == amount / 2) (option_map (one_line_row verbose (spaces / amount + 1)) (after_run (amount - 1 - amount / 2) right text)) row (rw odd at e) in
        let k = map-some (one_line_row verbose (spaces / amount + 1)) (after_run (amount - 1 - amount / 2) right text) row h.1 in
        is-verbose (eqb-true (spaces % amount) (amount / 2) h.0) k.0 k.1 k.2

event-is : (amount : ℕ) → 2 ≤ amount → (line : List ℕ) (spaces : ℕ) (text : List ℕ) (row : TextRow) → line ≡ columns spaces space ++ (encode_utf8 branch ++ text) →
    read_event amount spaces text ≡ Some row → IsFirstOf amount line row
event-is amount two line spaces text row at e =
    let h = if-some (spaces % amount == 0) (option_map (one_line_row Event (spaces / amount + 1)) (after_front (columns (amount - 1) horizontal) text)) row e in
    let k = map-some (one_line_row Event (spaces / amount + 1)) (after_front (columns (amount - 1) horizontal) text) row h.1 in
    let even : spaces % amount ≡ 0 = eqb-true (spaces % amount) 0 h.0 in
    let parts : spaces / amount * amount + spaces % amount ≡ spaces = div-add-mod' spaces amount in
    let level : ℕ = spaces / amount + 1 in
    let before : ℕ = (level + 0) * amount - amount in
    let width : before ≡ spaces / amount * amount = columns-before (level + 0) (spaces / amount) amount (omega arith) in
    let one : nat_le 1 level ≡ true = le-leb 1 level (omega arith) in
    let here : before ≡ spaces = omega (arith, width, parts, even) in
    record {
      shape = Event;
      level = level;
      text = k.0;
      is = k.2;
      fits = or_left (nat_le 1 level) (is_one_line (k.0 ∷ []) && (is_bare_text k.0 && true)) one;
      drawn = ap (λ frame. frame ++ k.0) (lined-first Mode.Event amount level (omega arith) (omega arith))
          ∙ branch-line before amount k.0
          ∙ ap (λ n. columns n space ++ (encode_utf8 branch ++ (columns (amount - 1) horizontal ++ k.0))) here
          ∙ ap (λ t. columns spaces space ++ (encode_utf8 branch ++ t)) (sym (after_front-is (columns (amount - 1) horizontal) text k.0 k.1))
          ∙ sym at;
    }

open_root-is : (amount : ℕ) (line : List ℕ) (spaces : ℕ) (text : List ℕ) (row : TextRow) → line ≡ columns spaces space ++ (encode_utf8 corner_down_left ++ text) →
    read_root OpenRoot spaces text ≡ Some row → IsFirstOf amount line row
unfolding encode_utf8
open_root-is amount line spaces text row at e =
    let h = if-some (spaces == 0) (Some (one_line_row OpenRoot 0 text)) row e in
    record {
      shape = OpenRoot;
      level = 0;
      text = text;
      is = some-is (one_line_row OpenRoot 0 text) row h.1;
      fits = refl;
      drawn = sym (at ∙ ap (λ n. columns n space ++ (encode_utf8 corner_down_left ++ text)) (eqb-true spaces 0 h.0));
    }

close_root-is : (amount : ℕ) (line : List ℕ) (spaces : ℕ) (text : List ℕ) (row : TextRow) → line ≡ columns spaces space ++ (encode_utf8 corner_up_left ++ text) →
    read_root CloseRoot spaces text ≡ Some row → IsFirstOf amount line row
unfolding encode_utf8
close_root-is amount line spaces text row at e =
    let h = if-some (spaces == 0) (Some (one_line_row CloseRoot 0 text)) row e in
    record {
      shape = CloseRoot;
      level = 0;
      text = text;
      is = some-is (one_line_row CloseRoot 0 text) row h.1;
      fits = refl;
      drawn = sym (at ∙ ap (λ n. columns n space ++ (encode_utf8 corner_up_left ++ text)) (eqb-true spaces 0 h.0));
    }

bare-is : (amount : ℕ) (line : List ℕ) (row : TextRow) → (if is_bare_text line then Some (one_line_row Event 0 line) else None) ≡ Some row → IsFirstOf amount line row
bare-is amount line row e =
    let h = if-some (is_bare_text line) (Some (one_line_row Event 0 line)) row e in
    record {
      shape = Event;
      level = 0;
      text = line;
      is = some-is (one_line_row Event 0 line) row h.1;
      fits = and_from (is_bare_text line) true h.0 refl;
      drawn = refl;
    }

-- (b) what a first line is read as is drawn as that line
pub first-is : (amount : ℕ) → 2 ≤ amount → (line : List ℕ) (row : TextRow) → read_first amount line ≡ Some row → IsFirstOf amount line row
first-is amount two line row e =
    ⊎_elim (λ h. open_root-is amount line spaces h.0 row (at corner_down_left h.0 h.1) h.2)
    (λ e. ⊎_elim (λ h. close_root-is amount line spaces h.0 row (at corner_up_left h.0 h.1) h.2)
    (λ e. ⊎_elim (λ h. corners-is corner_up_right corner_down_left (Open false) PreOpen (Open true) opens-cornered amount two line spaces h.0 row (at corner_up_right h.0 h.1) h.2)
    (λ e. ⊎_elim (λ h. corners-is corner_down_right corner_up_left (Close false) PostClose (Close true) closes-cornered amount two line spaces h.0 row (at corner_down_right h.0 h.1) h.2)
    (λ e. ⊎_elim (λ h. event-is amount two line spaces h.0 row (at branch h.0 h.1) h.2) (λ e. bare-is amount line row e)
    (map_or-cases (read_event amount spaces) (after_front (encode_utf8 branch) rest) last row e))
    (map_or-cases (read_corners corner_up_left (Close false) PostClose (Close true) amount spaces) (after_front (encode_utf8 corner_down_right) rest) (fourth) row e))
    (map_or-cases (read_corners corner_down_left (Open false) PreOpen (Open true) amount spaces) (after_front (encode_utf8 corner_up_right) rest) (third) row e))
    (map_or-cases (read_root CloseRoot spaces) (after_front (encode_utf8 corner_up_left) rest) (second) row e))
    (map_or-cases (read_root OpenRoot spaces) (after_front (encode_utf8 corner_down_left) rest) (first) row e)
  where
    spaces : ℕ
    spaces = start_spaces line

    rest : List ℕ
    rest = without_start_spaces line

    last : Option TextRow
    last = if is_bare_text line then Some (one_line_row Event 0 line) else None

    fourth : Option TextRow
    fourth = option_map_or (read_event amount spaces) (after_front (encode_utf8 branch) rest) last

    third : Option TextRow
    third = option_map_or (read_corners corner_up_left (Close false) PostClose (Close true) amount spaces) (after_front (encode_utf8 corner_down_right) rest) fourth

    second : Option TextRow
    second = option_map_or (read_corners corner_down_left (Open false) PreOpen (Open true) amount spaces) (after_front (encode_utf8 corner_up_right) rest) third

    first : Option TextRow
    first = option_map_or (read_root CloseRoot spaces) (after_front (encode_utf8 corner_up_left) rest) second

    at : (mark : ℕ) (text : List ℕ) → after_front (encode_utf8 mark) rest ≡ Some text → line ≡ columns spaces space ++ (encode_utf8 mark ++ text)
    at mark text k = spaces-before line ∙ ap (λ t. columns spaces space ++ t) (after_front-is (encode_utf8 mark) rest text k)
