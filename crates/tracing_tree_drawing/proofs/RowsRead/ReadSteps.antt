-- Lines read one after the other.
use Rattle.std.proofs.Common.{◌≡◌, ℕ, ◌+◌, ◌≤◌, List, [], ◌∷◌, ◌++◌, length, Option, Some, None, option_and_then, true, refl, sym, ap, ◌∙◌, append_assoc}
use Rattle.std.specs.List.{list_all}
use Rattle.std.proofs.lemmas.List.{append-nil}
use Rattle.tracing_tree_drawing.specs.Rows.RowText.{ended, is_unbroken, TextRow, IsOnlyReading, IsFirstBadLine}
use Rattle.tracing_tree_drawing.specs.Rows.Texts.{IsReadUpTo}
use Rattle.tracing_tree_drawing.specs.Rows.Line.{LineRead, read_line, read_lines, read_from, with_last, rows_after, last_after}
use Rattle.tracing_tree_drawing.proofs.RowsRead.TextsRead.{read-only, bad-line, bad-end}

pub read_none : (amount : ℕ) → IsReadUpTo amount [] [] None
read_none amount = record { rest_is = λ rest. refl }

pub read_more : (amount : ℕ) (before : List (List ℕ)) (rows : List TextRow) (last : Option TextRow) (line : List ℕ) (read : LineRead) →
    IsReadUpTo amount before rows last → read_line amount last line ≡ Some read → IsReadUpTo amount (before ++ line ∷ []) (rows_after rows last read) (last_after last read)
read_more amount before rows last line read h e = record {
  rest_is = λ rest. ap (read_lines amount) (append_assoc before (line ∷ []) rest) ∙ h.rest_is (line ∷ rest)
      ∙ ap (option_and_then (λ r. read_from amount (rows_after rows last r) (last_after last r) rest)) e;
}

pub read_so_far : (amount : ℕ) (before : List (List ℕ)) (rows : List TextRow) (last : Option TextRow) → IsReadUpTo amount before rows last →
    read_lines amount before ≡ Some (with_last rows last)
read_so_far amount before rows last h = ap (read_lines amount) (sym (append-nil before)) ∙ h.rest_is []

-- all lines are read
pub read_all : (amount : ℕ) → 2 ≤ amount → (lines : List (List ℕ)) (rows : List TextRow) (last : Option TextRow) → list_all is_unbroken lines ≡ true →
    IsReadUpTo amount lines rows last → IsOnlyReading amount (ended lines) (with_last rows last)
read_all amount two lines rows last h r = read-only amount two lines (with_last rows last) h (read_so_far amount lines rows last r)

-- a line isn't read
pub read_stops : (amount : ℕ) → 2 ≤ amount → (before after : List (List ℕ)) (line rest : List ℕ) (rows : List TextRow) (last : Option TextRow) →
    list_all is_unbroken (before ++ line ∷ after) ≡ true → is_unbroken rest ≡ true → IsReadUpTo amount before rows last → read_line amount last line ≡ None →
    IsFirstBadLine amount (ended (before ++ line ∷ after) ++ rest) (length before + 1)
read_stops amount two before after line rest rows last h e r bad =
    bad-line amount two before after line rest (with_last rows last) h e (read_so_far amount before rows last r)
    (r.rest_is (line ∷ []) ∙ ap (option_and_then (λ read. read_from amount (rows_after rows last read) (last_after last read) [])) bad)

-- the last line has no line end
pub read_unended : (amount : ℕ) → 2 ≤ amount → (lines : List (List ℕ)) (first : ℕ) (rest : List ℕ) (rows : List TextRow) (last : Option TextRow) →
    list_all is_unbroken lines ≡ true → is_unbroken (first ∷ rest) ≡ true → IsReadUpTo amount lines rows last →
    IsFirstBadLine amount (ended lines ++ (first ∷ rest)) (length lines + 1)
read_unended amount two lines first rest rows last h e r = bad-end amount two lines first rest (with_last rows last) h e (read_so_far amount lines rows last r)
