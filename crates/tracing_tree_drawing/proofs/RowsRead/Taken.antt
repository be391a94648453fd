-- What a line does to a reader, and to a string that is being read.
use Rattle.std.proofs.Common.{◌≡◌, ◌≢◌, ℕ, ◌+◌, ◌<◌, ◌≤◌, ◌==◌, List, ◌∷◌, ◌++◌, length, get_or, Option, Some, Ok, option_map, true, false, refl, sym, ap, subst, arith}
use Rattle.std.specs.Option.{option_map_or}
use Rattle.tracing_tree_drawing.specs.Rows.RowText.{TextRow, is_text_row, is_unbroken}
use Rattle.tracing_tree_drawing.specs.Rows.Line.{LineRead.FirstLine, LineRead.LaterLine, with_line, with_last, read_first, read_later}
use Rattle.tracing_tree_drawing.specs.Rows.Texts.{ReaderView, TakesTextLine, TakesLater, TextLeft, IsReadTo, TakesNext, ReportsFault}
use Rattle.tracing_tree_drawing.specs.declared.rows.read.ReadFault.TheVariants.{Line}
use Rattle.tracing_tree_drawing.specs.declared.rows.read.Taken.{Taken}
use Rattle.tracing_tree_drawing.specs.declared.rows.read.Taken.TheVariants.{First, Later, Neither}
use Rattle.tracing_tree_drawing.proofs.RowsRead.LaterRead.{later-is}
use Rattle.tracing_tree_drawing.proofs.RowsRead.FirstDrawn.{first-is}
use Rattle.tracing_tree_drawing.proofs.RowsRead.LinesDrawn.{first-proper, later-proper}
use Rattle.tracing_tree_drawing.proofs.RowsRead.ReadPlaces.{unbroken-from, read_on, read_bad, read_rest}

-- ---- one line

-- one more line of the last row
pub later-by : (amount : ℕ) (last : Option TextRow) (row : TextRow) (line text : List ℕ) → last ≡ Some row → read_later amount row.shape row.level line ≡ Some text →
    TakesLater (record { amount = amount; last = last }) line (record { amount = amount; last = Some (with_line row text) })
later-by amount last row line text is e =
    subst (λ l. TakesLater (record { amount = amount; last = l }) line (record { amount = amount; last = Some (with_line row text) })) (sym is) (record {
      text = text;
      read = ap (λ o. option_map_or (λ text. Some (LaterLine text)) o (option_map FirstLine (read_first amount line))) e;
      after = refl;
    })

-- such rows may be
pub later-row : (amount : ℕ) → 2 ≤ amount → (row : TextRow) (line text : List ℕ) → is_text_row row ≡ true → is_unbroken line ≡ true →
    read_later amount row.shape row.level line ≡ Some text → is_text_row (with_line row text) ≡ true
later-row amount two row line text whole unbroken e = later-proper amount row line text whole unbroken (later-is amount (omega arith) row.shape row.level line text e)

pub first-row : (amount : ℕ) → 2 ≤ amount → (line : List ℕ) (row : TextRow) → is_unbroken line ≡ true → read_first amount line ≡ Some row → is_text_row row ≡ true
first-row amount two line row unbroken e = first-proper amount line row (first-is amount two line row e) unbroken

-- ---- strings

-- what is left after a line that was taken
abbrev pub left_by : ReaderView → List ℕ → ℕ → TextLeft
left_by reader after lines = record { reader = reader; rest = after; lines = lines }

pub taken-next : (text : List ℕ) (rows : List TextRow) (old : TextLeft) (line after : List ℕ) (taken : Taken) (reader : ReaderView) (lines : ℕ) → taken ≢ Neither →
    old.rest ≡ line ++ (10 ∷ after) → ((i : ℕ) → i < length line → get_or line i 0 ≢ 10) → TakesTextLine old.reader line (Ok taken) reader → lines ≡ old.lines + 1 →
    IsReadTo text rows old → TakesNext text rows old (Ok (Some taken)) (left_by reader after lines)
taken-next text rows old line after (First before) reader lines some split unbroken t n h =
    subst (λ d. IsReadTo text (with_last rows d) (left_by reader after lines)) (sym t.complete)
    (subst (λ r. IsReadTo text (with_last rows old.reader.last) (left_by r after lines)) (sym t.after)
    (subst (λ m. IsReadTo text (with_last rows old.reader.last) (left_by (record { amount = old.reader.amount; last = Some t.row }) after m)) (sym n)
    (read_on text rows old line after (FirstLine t.row) h split (unbroken-from line unbroken) t.read)))
taken-next text rows old line after Later reader lines some split unbroken t n h =
    subst (λ r. IsReadTo text rows (left_by r after lines)) (sym t.after)
    (subst (λ m. IsReadTo text rows (left_by (record { amount = old.reader.amount; last = option_map (λ row. with_line row t.text) old.reader.last }) after m)) (sym n)
    (read_on text rows old line after (LaterLine t.text) h split (unbroken-from line unbroken) t.read))
taken-next text rows old line after Neither reader lines some split unbroken t n h = absurd (some refl)

pub taken-bad : (text : List ℕ) (rows : List TextRow) (old : TextLeft) (line after : List ℕ) (reader : ReaderView) (lines : ℕ) → 2 ≤ old.reader.amount →
    old.rest ≡ line ++ (10 ∷ after) → ((i : ℕ) → i < length line → get_or line i 0 ≢ 10) → TakesTextLine old.reader line (Ok Neither) reader → lines ≡ old.lines + 1 →
    IsReadTo text rows old → ReportsFault old.reader.amount text (Line lines)
taken-bad text rows old line after reader lines two split unbroken t n h =
    subst (λ m. ReportsFault old.reader.amount text (Line m)) (sym n) (read_bad text rows old line after two h split (unbroken-from line unbroken) t.0)

pub taken-rest : (text : List ℕ) (rows : List TextRow) (old : TextLeft) → 2 ≤ old.reader.amount → (length old.rest == 0) ≡ false →
    ((i : ℕ) → i < length old.rest → get_or old.rest i 0 ≢ 10) → IsReadTo text rows old → ReportsFault old.reader.amount text (Line (old.lines + 1))
taken-rest text rows old two some unbroken h = read_rest text rows old old.rest two h refl some (unbroken-from old.rest unbroken)
