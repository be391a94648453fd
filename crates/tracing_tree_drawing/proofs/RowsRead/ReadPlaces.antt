-- How far a string has been read.
use Rattle.std.proofs.Common.{◌≡◌, ◌≢◌, ℕ, suc, ◌+◌, ◌<◌, ◌≤◌, ◌==◌, ◌||◌, ◌&&◌, Bool, true, false, not, List, [], ◌∷◌, ◌++◌, length, get_or, Some, None, refl, sym, ap, ◌∙◌, subst, arith, append_assoc, length-append, eqb-true, ne_eqb}
use Rattle.std.specs.List.{list_all}
use Rattle.std.proofs.lemmas.Bool.{and_parts, and_from, false≢true}
use Rattle.std.proofs.lemmas.List.{append-nil}
use Rattle.std.proofs.lemmas.List.Folds.{list_all-append}
use Rattle.tracing_tree_drawing.specs.Format.Picture.{has_line_end}
use Rattle.tracing_tree_drawing.specs.Rows.RowText.{ended, is_unbroken, TextRow, IsOnlyReading, IsFirstBadLine}
use Rattle.tracing_tree_drawing.specs.Rows.Line.{LineRead, read_line, with_last, rows_after, last_after}
use Rattle.tracing_tree_drawing.proofs.RowsRead.RowLines.{ended-append}
use Rattle.tracing_tree_drawing.specs.Rows.Texts.{IsReadTo, TextLeft, all_left}
use Rattle.tracing_tree_drawing.proofs.RowsRead.ReadSteps.{read_none, read_more, read_all, read_stops, read_unended}

-- ---- strings by lines

-- each string is lines and a rest
pub record AreLines (text : List ℕ) : Type 0 where
  pub lines : List (List ℕ)
  pub rest : List ℕ
  pub whole : text ≡ ended lines ++ rest
  pub unbroken : list_all is_unbroken lines ≡ true
  pub last : is_unbroken rest ≡ true

first-more : (byte : ℕ) (text : List ℕ) → (byte == 10) ≡ false → is_unbroken text ≡ true → is_unbroken (byte ∷ text) ≡ true
first-more byte text e h = ap (λ b. not (b || has_line_end text)) e ∙ h

onto : (byte : ℕ) (text : List ℕ) → (byte == 10) ≡ false → (lines : List (List ℕ)) (rest : List ℕ) → text ≡ ended lines ++ rest → list_all is_unbroken lines ≡ true → is_unbroken rest ≡ true →
    AreLines (byte ∷ text)
onto byte text e [] rest whole h last =
    record { lines = []; rest = byte ∷ rest; whole = λ i. byte ∷ whole i; unbroken = refl; last = first-more byte rest e last }
onto byte text e (line ∷ lines) rest whole h last =
    let both = and_parts (is_unbroken line) (list_all is_unbroken lines) h in
    record {
      lines = (byte ∷ line) ∷ lines;
      rest = rest;
      whole = λ i. byte ∷ whole i;
      unbroken = and_from (is_unbroken (byte ∷ line)) (list_all is_unbroken lines) (first-more byte line e both.0) both.1;
      last = last;
    }

pub cut : (text : List ℕ) → AreLines text
cut [] = record { lines = []; rest = []; whole = refl; unbroken = refl; last = refl }
cut (byte ∷ text) = by (cut text) (byte == 10) refl
  where
    by : AreLines text → (b : Bool) → (byte == 10) ≡ b → AreLines (byte ∷ text)
    by ih true e = record {
      lines = [] ∷ ih.lines;
      rest = ih.rest;
      whole = λ i. eqb-true byte 10 e i ∷ ih.whole i;
      unbroken = ih.unbroken;
      last = ih.last;
    }
    by ih false e = onto byte text e ih.lines ih.rest ih.whole ih.unbroken ih.last

-- no byte is a line end
pub unbroken-from : (text : List ℕ) → ((i : ℕ) → i < length text → get_or text i 0 ≢ 10) → is_unbroken text ≡ true
unbroken-from [] h = refl
unbroken-from (byte ∷ text) h = first-more byte text (ne_eqb byte 10 (h 0 (omega arith))) (unbroken-from text (λ i lt. h (suc i) (omega arith)))

-- ---- how far

pub read_start : (amount : ℕ) (text : List ℕ) → IsReadTo text [] (all_left amount text)
read_start amount text = record { before = []; upto = read_none amount; whole = refl; unbroken = refl; counted = refl }

pub more-unbroken : (lines : List (List ℕ)) (line : List ℕ) → list_all is_unbroken lines ≡ true → is_unbroken line ≡ true → list_all is_unbroken (lines ++ line ∷ []) ≡ true
more-unbroken lines line h e =
    list_all-append is_unbroken lines (line ∷ []) ∙ and_from (list_all is_unbroken lines) (is_unbroken line && true) h (and_from (is_unbroken line) true e refl)

-- what is left after a line
abbrev pub left_after : TextLeft → LineRead → List ℕ → TextLeft
left_after left read after = record {
  reader = record { amount = left.reader.amount; last = last_after left.reader.last read };
  rest = after;
  lines = left.lines + 1;
}

pub read_on : (text : List ℕ) (rows : List TextRow) (left : TextLeft) (line after : List ℕ) (read : LineRead) → IsReadTo text rows left →
    left.rest ≡ line ++ (10 ∷ after) → is_unbroken line ≡ true → read_line left.reader.amount left.reader.last line ≡ Some read →
    IsReadTo text (rows_after rows left.reader.last read) (left_after left read after)
read_on text rows left line after read h split unbroken e = record {
  before = h.before ++ line ∷ [];
  upto = read_more left.reader.amount h.before rows left.reader.last line read h.upto e;
  whole = h.whole ∙ ap (λ t. ended h.before ++ t) (split ∙ sym (append_assoc line (10 ∷ []) after))
      ∙ sym (append_assoc (ended h.before) (line ++ 10 ∷ []) after)
      ∙ ap (λ t. t ++ after) (ap (λ t. ended h.before ++ t) (sym (append-nil (line ++ 10 ∷ []))) ∙ sym (ended-append h.before (line ∷ [])));
  unbroken = more-unbroken h.before line h.unbroken unbroken;
  counted = let n = length-append h.before (line ∷ []) in let m = h.counted in omega arith;
}

pub read_bad : (text : List ℕ) (rows : List TextRow) (left : TextLeft) (line after : List ℕ) → 2 ≤ left.reader.amount → IsReadTo text rows left →
    left.rest ≡ line ++ (10 ∷ after) → is_unbroken line ≡ true → read_line left.reader.amount left.reader.last line ≡ None →
    IsFirstBadLine left.reader.amount text (left.lines + 1)
read_bad text rows left line after two h split unbroken e =
    let amount : ℕ = left.reader.amount in
    let tail : AreLines after = cut after in
    let all : list_all is_unbroken (h.before ++ line ∷ tail.lines) ≡ true =
    list_all-append is_unbroken h.before (line ∷ tail.lines)
    ∙ and_from (list_all is_unbroken h.before) (is_unbroken line && list_all is_unbroken tail.lines) h.unbroken (and_from (is_unbroken line) (list_all is_unbroken tail.lines) unbroken tail.unbroken) in
    let whole : text ≡ ended (h.before ++ line ∷ tail.lines) ++ tail.rest =
    h.whole ∙ ap (λ t. ended h.before ++ t) (split ∙ ap (λ t. line ++ (10 ∷ t)) tail.whole
    ∙ sym (append_assoc line (10 ∷ []) (ended tail.lines ++ tail.rest)) ∙ sym (append_assoc (line ++ 10 ∷ []) (ended tail.lines) tail.rest))
    ∙ sym (append_assoc (ended h.before) (ended (line ∷ tail.lines)) tail.rest)
    ∙ ap (λ t. t ++ tail.rest) (sym (ended-append h.before (line ∷ tail.lines))) in
    subst (λ n. IsFirstBadLine amount text (n + 1)) (sym h.counted)
    (subst (λ t. IsFirstBadLine amount t (length h.before + 1)) (sym whole) (read_stops amount two h.before tail.lines line tail.rest rows left.reader.last all tail.last h.upto e))

pub read_end : (text : List ℕ) (rows : List TextRow) (left : TextLeft) → 2 ≤ left.reader.amount → IsReadTo text rows left → left.rest ≡ [] →
    IsOnlyReading left.reader.amount text (with_last rows left.reader.last)
read_end text rows left two h none =
    subst (λ t. IsOnlyReading left.reader.amount t (with_last rows left.reader.last)) (sym (h.whole ∙ ap (λ t. ended h.before ++ t) none ∙ append-nil (ended h.before)))
    (read_all left.reader.amount two h.before rows left.reader.last h.unbroken h.upto)

-- a last line without a line end
pub read_rest : (text : List ℕ) (rows : List TextRow) (left : TextLeft) (rest : List ℕ) → 2 ≤ left.reader.amount → IsReadTo text rows left →
    left.rest ≡ rest → (length rest == 0) ≡ false → is_unbroken rest ≡ true → IsFirstBadLine left.reader.amount text (left.lines + 1)
read_rest text rows left [] two h is some unbroken = absurd (false≢true (sym some))
read_rest text rows left (first ∷ rest) two h is some unbroken =
    subst (λ n. IsFirstBadLine left.reader.amount text (n + 1)) (sym h.counted)
    (subst (λ t. IsFirstBadLine left.reader.amount t (length h.before + 1)) (sym (h.whole ∙ ap (λ t. ended h.before ++ t) is))
    (read_unended left.reader.amount two h.before first rest rows left.reader.last h.unbroken unbroken h.upto))
