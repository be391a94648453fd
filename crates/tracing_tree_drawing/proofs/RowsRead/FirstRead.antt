-- The first line of a row is read as that row's.
use Rattle.std.proofs.Common.{◌≡◌, ℕ, zero, suc, ◌+◌, ◌-◌, ◌*◌, ◌/◌, ◌%◌, ◌<◌, ◌≤◌, max, ◌==◌, ◌&&◌, ◌||◌, Bool, true, false, not, List, [], ◌∷◌, ◌++◌, length, Option, Some, None, is_some, encode_utf8_all, refl, sym, ap, ◌∙◌, subst, arith, append_assoc, eqb-true, ne_eqb}
use Rattle.std.proofs.lemmas.Bool.{le-leb, and_parts, or_parts}
use Rattle.std.specs.Char.{encode_utf8}
use Rattle.std.specs.List.{starts_with}
use Rattle.std.proofs.lemmas.List.{append-nil}
use Rattle.std.proofs.Math.Nat.{suc-mul}
use Rattle.std.proofs.lemmas.Nat.{div-mul-add, mod-mul-add}
use Rattle.tracing_tree_drawing.specs.Format.Picture.{columns, lined_frame, first_frame, corners, span_corners, shift_of}
use Rattle.tracing_tree_drawing.proofs.Characters.{space, horizontal, vertical, branch, corner_down_left, corner_up_left, corner_up_right, corner_down_right}
use Rattle.tracing_tree_drawing.specs.declared.format.SpanMode.{SpanMode}
use Rattle.tracing_tree_drawing.specs.declared.format.SpanMode.TheVariants as Mode
use Rattle.tracing_tree_drawing.specs.Rows.RowText.{TextRow, mode_of, fits_shape, is_bare_text, begins_with_any, drawing_marks, without_start_spaces}
use Rattle.tracing_tree_drawing.specs.declared.rows.row.Shape.{Shape}
use Rattle.tracing_tree_drawing.specs.declared.rows.row.Shape.TheVariants.{PreOpen, OpenRoot, Open, CloseRoot, Close, PostClose, Event}
use Rattle.tracing_tree_drawing.specs.Rows.Line.{after_front, start_spaces, one_line_row, read_corners, read_event, read_first_at, read_first}
use Rattle.tracing_tree_drawing.proofs.RowsRead.Bytes.{three-parts, same, begins-after, after_front-gives, after_run-other, after_run-gives, rest-after, spaces-count}

-- ---- frames

pub lined-first : (mode : SpanMode) (amount level : ℕ) → 0 < level + shift_of mode → 0 < amount →
    lined_frame mode amount level 0 ≡ first_frame mode amount ((level + shift_of mode) * amount - amount)
lined-first mode amount level used some =
    rw (ne_eqb (level + shift_of mode) 0 (λ e. omega arith), ne_eqb amount 0 (λ e. omega arith)) refl

-- the columns before the branch
pub columns-before : (used k amount : ℕ) → used ≡ k + 1 → used * amount - amount ≡ k * amount
columns-before used k amount e =
    let n : used ≡ suc k = omega arith in
    let m : used * amount ≡ k * amount + amount = ap (λ u. u * amount) n ∙ suc-mul k amount in omega arith

-- an amount of 2 or more leaves space for the corners of a verbose row
pub verbose-corners : (left right amount before : ℕ) → 2 ≤ amount → span_corners left right true amount before ≡ corners left right (before + amount / 2) (before + amount)
verbose-corners left right amount before two = rw (le-leb 2 amount two) refl

pub corners-line : (left right from to filled : ℕ) (text : List ℕ) → to - from - 1 ≡ filled →
    corners left right from to ++ text
    ≡ columns from space ++ (encode_utf8 left ++ (columns filled horizontal ++ (encode_utf8 right ++ text)))
corners-line left right from to filled text e =
    ap (λ n. columns from space ++ encode_utf8 left ++ columns n horizontal ++ encode_utf8 right ++ text) e
    ∙ append_assoc (columns from space ++ encode_utf8 left ++ columns filled horizontal) (encode_utf8 right) text
    ∙ three-parts (columns from space) (encode_utf8 left) (columns filled horizontal) (encode_utf8 right ++ text)

-- ---- marks

pub read_spaced : (amount spaces : ℕ) (rest : List ℕ) → start_spaces rest ≡ 0 →
    read_first amount (columns spaces space ++ rest) ≡ read_first_at amount (columns spaces space ++ rest) spaces rest
read_spaced amount spaces rest e =
    ap (λ n. read_first_at amount (columns spaces space ++ rest) n (without_start_spaces (columns spaces space ++ rest))) (spaces-count spaces rest e)
    ∙ ap (read_first_at amount (columns spaces space ++ rest) spaces) (rest-after spaces rest e)

at-up_right : (amount spaces : ℕ) (text : List ℕ) → read_first amount (columns spaces space ++ (encode_utf8 corner_up_right ++ text))
    ≡ read_corners corner_down_left (Open false) PreOpen (Open true) amount spaces text
unfolding encode_utf8
at-up_right amount spaces text = read_spaced amount spaces (encode_utf8 corner_up_right ++ text) refl

at-down_right : (amount spaces : ℕ) (text : List ℕ) → read_first amount (columns spaces space ++ (encode_utf8 corner_down_right ++ text))
    ≡ read_corners corner_up_left (Close false) PostClose (Close true) amount spaces text
unfolding encode_utf8
at-down_right amount spaces text = read_spaced amount spaces (encode_utf8 corner_down_right ++ text) refl

at-branch : (amount spaces : ℕ) (text : List ℕ) → read_first amount (columns spaces space ++ (encode_utf8 branch ++ text)) ≡ read_event amount spaces text
unfolding encode_utf8
at-branch amount spaces text = read_spaced amount spaces (encode_utf8 branch ++ text) refl

at-down_left : (amount : ℕ) (text : List ℕ) → read_first amount (encode_utf8 corner_down_left ++ text) ≡ Some (one_line_row OpenRoot 0 text)
unfolding encode_utf8
at-down_left amount text = read_spaced amount 0 (encode_utf8 corner_down_left ++ text) refl

at-up_left : (amount : ℕ) (text : List ℕ) → read_first amount (encode_utf8 corner_up_left ++ text) ≡ Some (one_line_row CloseRoot 0 text)
unfolding encode_utf8
at-up_left amount text = read_spaced amount 0 (encode_utf8 corner_up_left ++ text) refl

-- ---- two corners

-- no run of another length ends in the character
pub record EndsRun (character : ℕ) : Type 0 where
  pub longer : (text : List ℕ) → after_front (encode_utf8 character) (encode_utf8 horizontal ++ text) ≡ None
  pub shorter : (more text : List ℕ) → after_front (encode_utf8 horizontal ++ more) (encode_utf8 character ++ text) ≡ None

pub ends-down_left : EndsRun corner_down_left
unfolding encode_utf8
ends-down_left = record { longer = λ text. refl; shorter = λ more text. refl }

pub ends-up_left : EndsRun corner_up_left
unfolding encode_utf8
ends-up_left = record { longer = λ text. refl; shorter = λ more text. refl }

even : (amount k : ℕ) → 2 ≤ amount → (k * amount % amount ≡ 0) × (k * amount / amount ≡ k)
even amount k two =
    let e : k * amount + 0 ≡ k * amount = omega arith in
    (ap (λ n. n % amount) (sym e) ∙ mod-mul-add k amount 0 (omega arith), ap (λ n. n / amount) (sym e) ∙ div-mul-add k amount 0 (omega arith))

module _ (corner : ℕ) (plain parent verbose : Shape) (amount : ℕ) where
  plain-read : (k : ℕ) (text : List ℕ) → 2 ≤ amount →
      read_corners corner plain parent verbose amount (k * amount) (columns (amount - 1) horizontal ++ (encode_utf8 corner ++ text))
      ≡ Some (one_line_row plain (k + 1) text)
  plain-read k text two =
      let at = even amount k two in
      rw (at.0, at.1, after_run-gives (amount - 1) corner text) refl

  parent-read : (k : ℕ) (text : List ℕ) → EndsRun corner → 2 ≤ amount →
      read_corners corner plain parent verbose amount (k * amount) (columns (amount / 2 - 1) horizontal ++ (encode_utf8 corner ++ text))
      ≡ Some (one_line_row parent k text)
  parent-read k text ends two =
      let at = even amount k two in
      rw (at.0, at.1, after_run-other corner ends.longer ends.shorter (amount - 1) (amount / 2 - 1) text (λ e. omega arith), after_run-gives (amount / 2 - 1) corner text) refl

  verbose-read : (k : ℕ) (text : List ℕ) → 2 ≤ amount →
      read_corners corner plain parent verbose amount (k * amount + amount / 2) (columns (amount - 1 - amount / 2) horizontal ++ (encode_utf8 corner ++ text))
      ≡ Some (one_line_row verbose (k + 1) text)
  verbose-read k text two =
      let rest : (k * amount + amount / 2) % amount ≡ amount / 2 = mod-mul-add k amount (amount / 2) (omega arith) in
      let whole : (k * amount + amount / 2) / amount ≡ k = div-mul-add k amount (amount / 2) (omega arith) in
      rw (rest, whole, same (amount / 2), ne_eqb (amount / 2) 0 (λ e. omega arith), after_run-gives (amount - 1 - amount / 2) corner text) refl

-- ---- events

event-read : (amount k : ℕ) (text : List ℕ) → 2 ≤ amount →
    read_event amount (k * amount) (columns (amount - 1) horizontal ++ text) ≡ Some (one_line_row Event (k + 1) text)
event-read amount k text two =
    let at = even amount k two in
    rw (at.0, at.1, after_front-gives (columns (amount - 1) horizontal) text) refl

pub branch-line : (from amount : ℕ) (text : List ℕ) →
    first_frame Mode.Event amount from ++ text
    ≡ columns from space ++ (encode_utf8 branch ++ (columns (amount - 1) horizontal ++ text))
branch-line from amount text = three-parts (columns from space) (encode_utf8 branch) (columns (amount - 1) horizontal) text

-- ---- bare strings

not-true : (x : Bool) → not x ≡ true → x ≡ false
not-true true e = cc
not-true false e = refl

none-is : (o : Option (List ℕ)) → is_some o ≡ false → o ≡ None
none-is None e = refl
none-is (Some x) e = cc

-- a bare string doesn't begin with a mark
pub record IsUnmarked (text : List ℕ) : Type 0 where
  pub down_left : after_front (encode_utf8 corner_down_left) text ≡ None
  pub up_left : after_front (encode_utf8 corner_up_left) text ≡ None
  pub up_right : after_front (encode_utf8 corner_up_right) text ≡ None
  pub down_right : after_front (encode_utf8 corner_down_right) text ≡ None
  pub branched : after_front (encode_utf8 branch) text ≡ None
  pub barred : after_front (encode_utf8 vertical) text ≡ None

begins-none : (mark : ℕ) (text : List ℕ) → starts_with (λ x y. x == y) text (encode_utf8_all (mark ∷ [])) ≡ false → after_front (encode_utf8 mark) text ≡ None
begins-none mark text e =
    ap (λ front. after_front front text) (sym (append-nil (encode_utf8 mark)))
    ∙ none-is (after_front (encode_utf8_all (mark ∷ [])) text) (sym (begins-after (encode_utf8_all (mark ∷ [])) text) ∙ e)

pub bare-unmarked : (text : List ℕ) → is_bare_text text ≡ true → IsUnmarked (without_start_spaces text)
bare-unmarked text e =
    let rest : List ℕ = without_start_spaces text in
    let test : ℕ → Bool = λ mark. starts_with (λ x y. x == y) rest (encode_utf8_all (mark ∷ [])) in
    let none : begins_with_any drawing_marks rest ≡ false = not-true (begins_with_any drawing_marks rest) (and_parts (not (length rest == 0)) (not (begins_with_any drawing_marks rest)) e).1 in
    let p1 = or_parts (test corner_down_left) (test corner_up_left || (test corner_up_right || (test corner_down_right || (test branch || (test vertical || false))))) none in
    let p2 = or_parts (test corner_up_left) (test corner_up_right || (test corner_down_right || (test branch || (test vertical || false)))) p1.1 in
    let p3 = or_parts (test corner_up_right) (test corner_down_right || (test branch || (test vertical || false))) p2.1 in
    let p4 = or_parts (test corner_down_right) (test branch || (test vertical || false)) p3.1 in
    let p5 = or_parts (test branch) (test vertical || false) p4.1 in
    let p6 = or_parts (test vertical) false p5.1 in
    record {
      down_left = begins-none corner_down_left rest p1.0;
      up_left = begins-none corner_up_left rest p2.0;
      up_right = begins-none corner_up_right rest p3.0;
      down_right = begins-none corner_down_right rest p4.0;
      branched = begins-none branch rest p5.0;
      barred = begins-none vertical rest p6.0;
    }

bare-read : (amount : ℕ) (text : List ℕ) → is_bare_text text ≡ true → read_first amount text ≡ Some (one_line_row Event 0 text)
bare-read amount text e =
    let n = bare-unmarked text e in
    rw (n.down_left, n.up_left, n.up_right, n.down_right, n.branched, e) refl

-- ---- all first lines

pub record IsFirstRead (amount : ℕ) (line : List ℕ) (row : TextRow) : Type 0 where
  pub read : read_first amount line ≡ Some row
  pub unbarred : after_front (encode_utf8 vertical) (without_start_spaces line) ≡ None

first_spaced : (amount spaces : ℕ) (line rest : List ℕ) (row : TextRow) → line ≡ columns spaces space ++ rest → start_spaces rest ≡ 0 →
    after_front (encode_utf8 vertical) rest ≡ None → read_first amount (columns spaces space ++ rest) ≡ Some row → IsFirstRead amount line row
first_spaced amount spaces line rest row e none unbarred read = record {
  read = ap (read_first amount) e ∙ read;
  unbarred = ap (λ text. after_front (encode_utf8 vertical) (without_start_spaces text)) e ∙ ap (after_front (encode_utf8 vertical)) (rest-after spaces rest none) ∙ unbarred;
}

first_framed : (amount : ℕ) (mode : SpanMode) (level : ℕ) (text : List ℕ) (row : TextRow) → 0 < level + shift_of mode → 0 < amount →
    IsFirstRead amount (first_frame mode amount ((level + shift_of mode) * amount - amount) ++ text) row →
    IsFirstRead amount (lined_frame mode amount level 0 ++ text) row
first_framed amount mode level text row used some h =
    subst (λ frame. IsFirstRead amount (frame ++ text) row) (sym (lined-first mode amount level used some)) h

up_right-first : (amount spaces from to filled : ℕ) (text : List ℕ) (row : TextRow) → from ≡ spaces → to - from - 1 ≡ filled →
    read_corners corner_down_left (Open false) PreOpen (Open true) amount spaces (columns filled horizontal ++ (encode_utf8 corner_down_left ++ text)) ≡ Some row →
    IsFirstRead amount (corners corner_up_right corner_down_left from to ++ text) row
unfolding encode_utf8
up_right-first amount spaces from to filled text row e n read =
    let rest : List ℕ = columns filled horizontal ++ (encode_utf8 corner_down_left ++ text) in
    first_spaced amount spaces (corners corner_up_right corner_down_left from to ++ text) (encode_utf8 corner_up_right ++ rest) row
    (corners-line corner_up_right corner_down_left from to filled text n ∙ ap (λ k. columns k space ++ (encode_utf8 corner_up_right ++ rest)) e)
    refl refl (at-up_right amount spaces rest ∙ read)

down_right-first : (amount spaces from to filled : ℕ) (text : List ℕ) (row : TextRow) → from ≡ spaces → to - from - 1 ≡ filled →
    read_corners corner_up_left (Close false) PostClose (Close true) amount spaces (columns filled horizontal ++ (encode_utf8 corner_up_left ++ text)) ≡ Some row →
    IsFirstRead amount (corners corner_down_right corner_up_left from to ++ text) row
unfolding encode_utf8
down_right-first amount spaces from to filled text row e n read =
    let rest : List ℕ = columns filled horizontal ++ (encode_utf8 corner_up_left ++ text) in
    first_spaced amount spaces (corners corner_down_right corner_up_left from to ++ text) (encode_utf8 corner_down_right ++ rest) row
    (corners-line corner_down_right corner_up_left from to filled text n ∙ ap (λ k. columns k space ++ (encode_utf8 corner_down_right ++ rest)) e)
    refl refl (at-down_right amount spaces rest ∙ read)

branch-first : (amount spaces from : ℕ) (text : List ℕ) (row : TextRow) → from ≡ spaces →
    read_event amount spaces (columns (amount - 1) horizontal ++ text) ≡ Some row →
    IsFirstRead amount (first_frame Mode.Event amount from ++ text) row
unfolding encode_utf8
branch-first amount spaces from text row e read =
    let rest : List ℕ = columns (amount - 1) horizontal ++ text in
    first_spaced amount spaces (first_frame Mode.Event amount from ++ text) (encode_utf8 branch ++ rest) row
    (branch-line from amount text ∙ ap (λ k. columns k space ++ (encode_utf8 branch ++ rest)) e)
    refl refl (at-branch amount spaces rest ∙ read)

no_level : {A : Type 0} → false ≡ true → A
no_level e = cc

above_root : {A : Type 0} (k : ℕ) → ((suc k == 0) && true) ≡ true → A
above_root k e = absurd (let z : suc k ≡ 0 = eqb-true (suc k) 0 (and_parts (suc k == 0) true e).0 in omega arith)

one_more : (shape : Shape) (k : ℕ) (text : List ℕ) → Some (one_line_row shape (k + 1) text) ≡ Some (one_line_row shape (suc k) text)
one_more shape k text = ap (λ n. Some (one_line_row shape n text)) (let e : k + 1 ≡ suc k = omega arith in e)

root-open : (amount : ℕ) (text : List ℕ) → IsFirstRead amount (lined_frame (Mode.Open false) amount 0 0 ++ text) (one_line_row OpenRoot 0 text)
unfolding encode_utf8
root-open amount text = record { read = at-down_left amount text; unbarred = refl }

root-close : (amount : ℕ) (text : List ℕ) → IsFirstRead amount (lined_frame (Mode.Close false) amount 0 0 ++ text) (one_line_row CloseRoot 0 text)
unfolding encode_utf8
root-close amount text = record { read = at-up_left amount text; unbarred = refl }

-- (a) the first line of a row is read as its shape, level and text
pub first-drawn : (amount : ℕ) → 2 ≤ amount → (shape : Shape) (level : ℕ) (text : List ℕ) → fits_shape shape level (text ∷ []) ≡ true →
    IsFirstRead amount (lined_frame (mode_of shape) amount level 0 ++ text) (one_line_row shape level text)
first-drawn amount two PreOpen level text e =
    let before = columns-before (level + 1) level amount refl in
    first_framed amount Mode.PreOpen level text (one_line_row PreOpen level text) (omega arith) (omega arith)
    (up_right-first amount (level * amount) ((level + 1) * amount - amount) ((level + 1) * amount - amount + max (amount / 2) 1) (amount / 2 - 1) text
    (one_line_row PreOpen level text) before (omega arith)
    (parent-read corner_down_left (Open false) PreOpen (Open true) amount level text ends-down_left two))
first-drawn amount two PostClose level text e =
    let before = columns-before (level + 1) level amount refl in
    first_framed amount Mode.PostClose level text (one_line_row PostClose level text) (omega arith) (omega arith)
    (down_right-first amount (level * amount) ((level + 1) * amount - amount) ((level + 1) * amount - amount + max (amount / 2) 1) (amount / 2 - 1) text
    (one_line_row PostClose level text) before (omega arith)
    (parent-read corner_up_left (Close false) PostClose (Close true) amount level text ends-up_left two))
first-drawn amount two OpenRoot zero text e = root-open amount text
first-drawn amount two OpenRoot (suc k) text e = above_root k e
first-drawn amount two CloseRoot zero text e = root-close amount text
first-drawn amount two CloseRoot (suc k) text e = above_root k e
first-drawn amount two (Open verbose) zero text e = no_level e
first-drawn amount two (Open false) (suc k) text e =
    let before = columns-before (suc k + 0) k amount (omega arith) in
    first_framed amount (Mode.Open false) (suc k) text (one_line_row (Open false) (suc k) text) (omega arith) (omega arith)
    (up_right-first amount (k * amount) ((suc k + 0) * amount - amount) ((suc k + 0) * amount - amount + amount) (amount - 1) text
    (one_line_row (Open false) (suc k) text) before (omega arith)
    (plain-read corner_down_left (Open false) PreOpen (Open true) amount k text two ∙ one_more (Open false) k text))
first-drawn amount two (Open true) (suc k) text e =
    let before = columns-before (suc k + 0) k amount (omega arith) in
    let from : ℕ = (suc k + 0) * amount - amount in
    first_framed amount (Mode.Open true) (suc k) text (one_line_row (Open true) (suc k) text) (omega arith) (omega arith)
    (subst (λ frame. IsFirstRead amount (frame ++ text) (one_line_row (Open true) (suc k) text)) (sym (verbose-corners corner_up_right corner_down_left amount from two))
    (up_right-first amount (k * amount + amount / 2) (from + amount / 2) (from + amount) (amount - 1 - amount / 2) text
    (one_line_row (Open true) (suc k) text) (ap (λ n. n + amount / 2) before) (omega arith)
    (verbose-read corner_down_left (Open false) PreOpen (Open true) amount k text two ∙ one_more (Open true) k text)))
first-drawn amount two (Close verbose) zero text e = no_level e
first-drawn amount two (Close false) (suc k) text e =
    let before = columns-before (suc k + 0) k amount (omega arith) in
    first_framed amount (Mode.Close false) (suc k) text (one_line_row (Close false) (suc k) text) (omega arith) (omega arith)
    (down_right-first amount (k * amount) ((suc k + 0) * amount - amount) ((suc k + 0) * amount - amount + amount) (amount - 1) text
    (one_line_row (Close false) (suc k) text) before (omega arith)
    (plain-read corner_up_left (Close false) PostClose (Close true) amount k text two ∙ one_more (Close false) k text))
first-drawn amount two (Close true) (suc k) text e =
    let before = columns-before (suc k + 0) k amount (omega arith) in
    let from : ℕ = (suc k + 0) * amount - amount in
    first_framed amount (Mode.Close true) (suc k) text (one_line_row (Close true) (suc k) text) (omega arith) (omega arith)
    (subst (λ frame. IsFirstRead amount (frame ++ text) (one_line_row (Close true) (suc k) text)) (sym (verbose-corners corner_down_right corner_up_left amount from two))
    (down_right-first amount (k * amount + amount / 2) (from + amount / 2) (from + amount) (amount - 1 - amount / 2) text
    (one_line_row (Close true) (suc k) text) (ap (λ n. n + amount / 2) before) (omega arith)
    (verbose-read corner_up_left (Close false) PostClose (Close true) amount k text two ∙ one_more (Close true) k text)))
first-drawn amount two Event zero text e =
    let bare : is_bare_text text ≡ true = (and_parts (is_bare_text text) true e).0 in
    record { read = bare-read amount text bare; unbarred = (bare-unmarked text bare).barred }
first-drawn amount two Event (suc k) text e =
    let before = columns-before (suc k + 0) k amount (omega arith) in
    first_framed amount Mode.Event (suc k) text (one_line_row Event (suc k) text) (omega arith) (omega arith)
    (branch-first amount (k * amount) ((suc k + 0) * amount - amount) text (one_line_row Event (suc k) text) before
    (event-read amount k text two ∙ one_more Event k text))
