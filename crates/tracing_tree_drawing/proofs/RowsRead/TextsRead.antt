-- At most one list of rows has a given text, the rows as which its lines are read; if they aren't
-- read, which line is the first bad one.
use Rattle.std.proofs.Common.{◌≡◌, ℕ, ◌+◌, ◌-◌, ◌<◌, ◌≤◌, ◌&&◌, true, false, List, [], ◌∷◌, ◌++◌, length, take, Some, None, nat_lt, if◌then◌else◌, refl, sym, ap, ◌∙◌, subst, arith, append_assoc, length-append}
use Rattle.std.specs.List.{list_all, join_with_byte}
use Rattle.std.proofs.lemmas.Bool.{and_parts, and_from, lt-ltb}
use Rattle.std.proofs.lemmas.List.{append-nil, same_from_push}
use Rattle.std.proofs.lemmas.List.Folds.{list_all-append}
use Rattle.tracing_tree_drawing.specs.Format.Picture.{parts_of}
use Rattle.tracing_tree_drawing.proofs.PartsLaws.{parts_of-only}
use Rattle.tracing_tree_drawing.specs.Rows.RowText.{ended, is_unbroken, TextRow, IsReading, IsOnlyReading, IsUnreadable, IsFirstBadLine, first_lines}
use Rattle.tracing_tree_drawing.specs.Rows.Line.{read_lines}
use Rattle.tracing_tree_drawing.proofs.RowsRead.RowLines.{all_lines, rows_text-lines}
use Rattle.tracing_tree_drawing.proofs.RowsRead.CleanFrames.{all-unbroken}
use Rattle.tracing_tree_drawing.proofs.RowsRead.LinesRead.{lines-read}
use Rattle.tracing_tree_drawing.proofs.RowsRead.LinesDrawn.{AreRowsOf, lines-drawn}

-- ---- the lines of a string

pub joined-lines : (lines : List (List ℕ)) (rest : List ℕ) → join_with_byte 10 (lines ++ rest ∷ []) ≡ ended lines ++ rest
joined-lines [] rest = refl
joined-lines (line ∷ []) rest = simp append_assoc
joined-lines (line ∷ next ∷ lines) rest =
    ap (λ t. line ++ (10 ∷ t)) (joined-lines (next ∷ lines) rest)
    ∙ sym (append_assoc line (10 ∷ []) (ended (next ∷ lines) ++ rest))
    ∙ sym (append_assoc (line ++ 10 ∷ []) (ended (next ∷ lines)) rest)

pub parts-ended : (lines : List (List ℕ)) (rest : List ℕ) → list_all is_unbroken lines ≡ true → is_unbroken rest ≡ true → parts_of (ended lines ++ rest) ≡ lines ++ rest ∷ []
parts-ended lines rest h e = sym (parts_of-only (ended lines ++ rest) (lines ++ rest ∷ []) (record {
  joined = joined-lines lines rest;
  some = let n = length-append lines (rest ∷ []) in omega arith;
  without_line_ends = list_all-append is_unbroken lines (rest ∷ []) ∙ and_from (list_all is_unbroken lines) (is_unbroken rest && true) h (and_from (is_unbroken rest) true e refl);
}))

-- strings of lines, and what follows their last line end
pub ended-same : (lines others : List (List ℕ)) (rest end : List ℕ) → list_all is_unbroken lines ≡ true → list_all is_unbroken others ≡ true → is_unbroken rest ≡ true → is_unbroken end ≡ true →
    ended lines ++ rest ≡ ended others ++ end → (lines ≡ others) × (rest ≡ end)
ended-same lines others rest end h k e f same =
    same_from_push lines others rest end (sym (parts-ended lines rest h e) ∙ ap parts_of same ∙ parts-ended others end k f)

-- ---- rows of a string

-- the lines of a reading, and that nothing follows
reading-lines : (amount : ℕ) (lines : List (List ℕ)) (rest : List ℕ) (rows : List TextRow) → list_all is_unbroken lines ≡ true → is_unbroken rest ≡ true →
    IsReading amount (ended lines ++ rest) rows → (all_lines amount rows ≡ lines) × ([] ≡ rest)
reading-lines amount lines rest rows h e r =
    ended-same (all_lines amount rows) lines [] rest (all-unbroken amount rows r.proper) h refl e
    (append-nil (ended (all_lines amount rows)) ∙ sym (rows_text-lines amount rows) ∙ r.drawn)

reading-read : (amount : ℕ) → 2 ≤ amount → (lines : List (List ℕ)) (rest : List ℕ) (rows : List TextRow) → list_all is_unbroken lines ≡ true → is_unbroken rest ≡ true →
    IsReading amount (ended lines ++ rest) rows → read_lines amount lines ≡ Some rows
reading-read amount two lines rest rows h e r =
    ap (read_lines amount) (sym (reading-lines amount lines rest rows h e r).0) ∙ lines-read amount two rows r.proper

-- The rows that lines are read as are the only reading of their string.
pub read-only : (amount : ℕ) → 2 ≤ amount → (lines : List (List ℕ)) (rows : List TextRow) → list_all is_unbroken lines ≡ true → read_lines amount lines ≡ Some rows →
    IsOnlyReading amount (ended lines) rows
read-only amount two lines rows h e =
    let drawn : AreRowsOf amount rows (ended lines) = lines-drawn amount two lines rows h e in
    record {
      reading = record { proper = drawn.proper; drawn = drawn.drawn };
      only = λ others r. some-same others rows
          (sym (reading-read amount two lines [] others h refl (subst (λ t. IsReading amount t others) (sym (append-nil (ended lines))) r)) ∙ e);
    }
  where
    some-same : (x y : List TextRow) → Some x ≡ Some y → x ≡ y
    some-same x y e = cc

-- a string whose lines aren't read has no reading
pub unread-unreadable : (amount : ℕ) → 2 ≤ amount → (lines : List (List ℕ)) → list_all is_unbroken lines ≡ true → read_lines amount lines ≡ None →
    IsUnreadable amount (ended lines)
unread-unreadable amount two lines h e rows r =
    let k : read_lines amount lines ≡ Some rows = reading-read amount two lines [] rows h refl (subst (λ t. IsReading amount t rows) (sym (append-nil (ended lines))) r) in
    let z : None ≡ Some rows = sym e ∙ k in cc

-- a string that doesn't end in a line end has no reading either
pub unended-unreadable : (amount : ℕ) (lines : List (List ℕ)) (first : ℕ) (rest : List ℕ) → list_all is_unbroken lines ≡ true → is_unbroken (first ∷ rest) ≡ true →
    IsUnreadable amount (ended lines ++ (first ∷ rest))
unended-unreadable amount lines first rest h e rows r =
    let z : [] ≡ first ∷ rest = (reading-lines amount lines (first ∷ rest) rows h e r).1 in cc

-- ---- first lines

take-front : (front back : List (List ℕ)) → take (length front) (front ++ back) ≡ front
take-front [] back = refl
take-front (x ∷ front) back = ap (λ xs. x ∷ xs) (take-front front back)

-- the first lines of a string, if more follows
pub first_lines-ended : (before after : List (List ℕ)) (rest : List ℕ) → list_all is_unbroken (before ++ after) ≡ true → is_unbroken rest ≡ true →
    first_lines (length before) (ended (before ++ after) ++ rest) ≡ ended before
first_lines-ended before after rest h e =
    let text : List ℕ = ended (before ++ after) ++ rest in
    let parts : parts_of text ≡ (before ++ after) ++ rest ∷ [] = parts-ended (before ++ after) rest h e in
    let more : length before < length ((before ++ after) ++ rest ∷ []) =
    let n = length-append (before ++ after) (rest ∷ []) in let m = length-append before after in omega arith in
    ap (λ ps. if nat_lt (length before) (length ps) then ended (take (length before) ps) else text) parts
    ∙ ap (λ b. if b then ended (take (length before) ((before ++ after) ++ rest ∷ [])) else text) (lt-ltb (length before) (length ((before ++ after) ++ rest ∷ [])) more)
    ∙ ap (λ ps. ended (take (length before) ps)) (append_assoc before after (rest ∷ []))
    ∙ ap ended (take-front before (after ++ rest ∷ []))

-- all of it
first_lines-all : (lines : List (List ℕ)) (rest : List ℕ) → list_all is_unbroken lines ≡ true → is_unbroken rest ≡ true →
    first_lines (length lines + 1) (ended lines ++ rest) ≡ ended lines ++ rest
first_lines-all lines rest h e =
    let text : List ℕ = ended lines ++ rest in
    let n : length (lines ++ rest ∷ []) ≡ length lines + 1 = length-append lines (rest ∷ []) in
    ap (λ ps. if nat_lt (length lines + 1) (length ps) then ended (take (length lines + 1) ps) else text) (parts-ended lines rest h e)
    ∙ ap (λ b. if b then ended (take (length lines + 1) (lines ++ rest ∷ [])) else text) (ge-ltb (length lines + 1) (length (lines ++ rest ∷ [])) (omega arith))
  where
    ge-ltb : (m n : ℕ) → n ≤ m → nat_lt m n ≡ false
    ge-ltb m n le = grind (arith)

-- ---- first bad lines

-- a line that isn't read below those before it
pub bad-line : (amount : ℕ) → 2 ≤ amount → (before after : List (List ℕ)) (line rest : List ℕ) (rows : List TextRow) →
    list_all is_unbroken (before ++ line ∷ after) ≡ true → is_unbroken rest ≡ true →
    read_lines amount before ≡ Some rows → read_lines amount (before ++ line ∷ []) ≡ None →
    IsFirstBadLine amount (ended (before ++ line ∷ after) ++ rest) (length before + 1)
bad-line amount two before after line rest rows h e good bad =
    let text : List ℕ = ended (before ++ line ∷ after) ++ rest in
    let both = and_parts (list_all is_unbroken before) (list_all is_unbroken (line ∷ after)) (sym (list_all-append is_unbroken before (line ∷ after)) ∙ h) in
    let here = and_parts (is_unbroken line) (list_all is_unbroken after) both.1 in
    let upto : list_all is_unbroken (before ++ line ∷ []) ≡ true =
    list_all-append is_unbroken before (line ∷ []) ∙ and_from (list_all is_unbroken before) (is_unbroken line && true) both.0 (and_from (is_unbroken line) true here.0 refl) in
    let split : before ++ line ∷ after ≡ (before ++ line ∷ []) ++ after = sym (append_assoc before (line ∷ []) after) in
    let less : length before + 1 - 1 ≡ length before = omega arith in
    let n : length (before ++ line ∷ []) ≡ length before + 1 = length-append before (line ∷ []) in
    let drawn : AreRowsOf amount rows (ended before) = lines-drawn amount two before rows both.0 good in
    let first : first_lines (length before + 1 - 1) text ≡ ended before = ap (λ m. first_lines m text) less ∙ first_lines-ended before (line ∷ after) rest h e in
    let next : first_lines (length before + 1) text ≡ ended (before ++ line ∷ []) =
    ap (λ m. first_lines m text) (sym n) ∙ ap (λ ls. first_lines (length (before ++ line ∷ [])) (ended ls ++ rest)) split
    ∙ first_lines-ended (before ++ line ∷ []) after rest (ap (list_all is_unbroken) (sym split) ∙ h) e in (
      omega arith,
      (rows, record { proper = drawn.proper; drawn = drawn.drawn ∙ sym first }),
      subst (λ t. IsUnreadable amount t) (sym next) (unread-unreadable amount two (before ++ line ∷ []) upto bad),
    )

-- a last line without a line end
pub bad-end : (amount : ℕ) → 2 ≤ amount → (lines : List (List ℕ)) (first : ℕ) (rest : List ℕ) (rows : List TextRow) →
    list_all is_unbroken lines ≡ true → is_unbroken (first ∷ rest) ≡ true → read_lines amount lines ≡ Some rows →
    IsFirstBadLine amount (ended lines ++ (first ∷ rest)) (length lines + 1)
bad-end amount two lines first rest rows h e good =
    let text : List ℕ = ended lines ++ (first ∷ rest) in
    let less : length lines + 1 - 1 ≡ length lines = omega arith in
    let drawn : AreRowsOf amount rows (ended lines) = lines-drawn amount two lines rows h good in
    let same : lines ++ [] ≡ lines = append-nil lines in
    let start : first_lines (length lines + 1 - 1) text ≡ ended lines =
    ap (λ m. first_lines m text) less ∙ ap (λ ls. first_lines (length lines) (ended ls ++ (first ∷ rest))) (sym same)
    ∙ first_lines-ended lines [] (first ∷ rest) (ap (list_all is_unbroken) same ∙ h) e in (
      omega arith,
      (rows, record { proper = drawn.proper; drawn = drawn.drawn ∙ sym start }),
      subst (λ t. IsUnreadable amount t) (sym (first_lines-all lines (first ∷ rest) h e)) (unended-unreadable amount lines first rest h e),
    )
