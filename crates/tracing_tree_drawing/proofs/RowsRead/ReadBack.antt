-- The reader's answer on the drawing of readable rows: these rows, or memory ran out.
use Rattle.std.proofs.Common.{◌≡◌, ℕ, zero, suc, ◌+◌, ◌<◌, ◌≤◌, true, false, List, [], ◌∷◌, ◌++◌, length, take, drop, Option, Some, None, Result, Ok, Err, IfErr, option_and_then, nat_lt, if◌then◌else◌, ◌⊎◌, inl, inr, refl, sym, ap, ◌∙◌, subst, arith, take-append-drop, length-append}
use Rattle.std.specs.List.{list_all}
use Rattle.std.proofs.lemmas.Bool.{cases_lt, and_parts}
use Rattle.std.proofs.lemmas.List.{append-nil}
use Rattle.std.proofs.lemmas.List.Folds.{list_all-append}
use Rattle.tracing_tree_drawing.specs.Format.Picture.{parts_of}
use Rattle.tracing_tree_drawing.specs.Rows.RowText.{ended, is_unbroken, TextRow, IsReading, IsOnlyReading, IsFirstBadLine, first_lines}
use Rattle.tracing_tree_drawing.specs.Rows.Readable.{ReadsDrawing, ReadsNoDrawing, text_rows}
use Rattle.tracing_tree_drawing.specs.Rows.Texts.{ReportsFault}
use Rattle.tracing_tree_drawing.specs.declared.rows.read.ReadFault.{ReadFault}
use Rattle.tracing_tree_drawing.specs.declared.rows.read.ReadFault.TheVariants.{Line, Memory}
use Rattle.tracing_tree_drawing.specs.Rows.Line.{LineRead, read_line, read_lines, read_from, rows_after, last_after}
use Rattle.tracing_tree_drawing.proofs.RowsRead.RowLines.{all_lines, rows_text-lines}
use Rattle.tracing_tree_drawing.proofs.RowsRead.CleanFrames.{all-unbroken}
use Rattle.tracing_tree_drawing.proofs.RowsRead.LinesRead.{lines-read}
use Rattle.tracing_tree_drawing.proofs.RowsRead.LinesDrawn.{AreRowsOf, lines-drawn}
use Rattle.tracing_tree_drawing.proofs.RowsRead.TextsRead.{parts-ended, first_lines-ended}
use Rattle.tracing_tree_drawing.proofs.RowsRead.ReadableDrawn.{readable-read}

-- if lines are read, so are the first of them
front-read : (amount : ℕ) (front back : List (List ℕ)) (rows out : List TextRow) (last : Option TextRow) → read_from amount rows last (front ++ back) ≡ Some out →
    (some : List TextRow) × (read_from amount rows last front ≡ Some some)
front-read amount [] back rows out last e = (_, refl)
front-read amount (line ∷ front) back rows out last e = by (λ r l k. front-read amount front back r out l k) (read_line amount last line) refl
  where
    by : ((r : List TextRow) (l : Option TextRow) → read_from amount r l (front ++ back) ≡ Some out → (some : List TextRow) × (read_from amount r l front ≡ Some some)) →
        (o : Option LineRead) → read_line amount last line ≡ o → (some : List TextRow) × (read_from amount rows last (line ∷ front) ≡ Some some)
    by ih None k = absurd (let z : None ≡ Some out = ap (option_and_then (λ read. read_from amount (rows_after rows last read) (last_after last read) (front ++ back))) (sym k) ∙ e in cc)
    by ih (Some read) k =
        let h = ih (rows_after rows last read) (last_after last read)
        (ap (option_and_then (λ read. read_from amount (rows_after rows last read) (last_after last read) (front ++ back))) (sym k) ∙ e) in
        (h.0, ap (option_and_then (λ read. read_from amount (rows_after rows last read) (last_after last read) front)) k ∙ h.1)

take-length : (n : ℕ) (lines : List (List ℕ)) → n ≤ length lines → length (take n lines) ≡ n
take-length zero lines le = refl
take-length (suc n) [] le = absurd (omega arith)
take-length (suc n) (line ∷ lines) le = ap suc (take-length n lines (omega arith))

-- a string that has a reading has no bad line
pub read-no_bad : (amount : ℕ) → 2 ≤ amount → (text : List ℕ) (rows : List TextRow) (n : ℕ) → IsReading amount text rows → IsFirstBadLine amount text n → ⊥
read-no_bad amount two text rows n r bad = by (cases_lt (length lines) n)
  where
    lines : List (List ℕ)
    lines = all_lines amount rows

    clean : list_all is_unbroken lines ≡ true
    clean = all-unbroken amount rows r.proper

    whole : text ≡ ended lines
    whole = sym r.drawn ∙ rows_text-lines amount rows

    by : (length lines < n) ⊎ (n ≤ length lines) → ⊥
    by (inl lt) =
        let parts : parts_of text ≡ lines ++ [] ∷ [] = ap parts_of (whole ∙ sym (append-nil (ended lines))) ∙ parts-ended lines [] clean refl in
        let m : length (lines ++ [] ∷ []) ≡ length lines + 1 = length-append lines ([] ∷ []) in
        let all : first_lines n text ≡ text =
        ap (λ (ps : List (List ℕ)). if nat_lt n (length ps) then ended (take n ps) else text) parts
        ∙ ap (λ b. if b then ended (take n (lines ++ [] ∷ [])) else text) (ge-ltb n (length (lines ++ [] ∷ [])) (omega arith)) in
        bad.2 rows (subst (λ t. IsReading amount t rows) (sym all) r)
      where
        ge-ltb : (m n : ℕ) → n ≤ m → nat_lt m n ≡ false
        ge-ltb m n le = grind (arith)
    by (inr le) =
        let front : List (List ℕ) = take n lines in
        let split : front ++ drop n lines ≡ lines = take-append-drop n lines in
        let some = front-read amount front (drop n lines) [] rows None (ap (read_lines amount) split ∙ lines-read amount two rows r.proper) in
        let both = and_parts (list_all is_unbroken front) (list_all is_unbroken (drop n lines)) (sym (list_all-append is_unbroken front (drop n lines)) ∙ ap (list_all is_unbroken) split ∙ clean) in
        let drawn : AreRowsOf amount some.0 (ended front) = lines-drawn amount two front some.0 both.0 some.1 in
        let first : first_lines n text ≡ ended front =
        ap (λ m. first_lines m text) (sym (take-length n lines le))
        ∙ ap (first_lines (length front)) (whole ∙ ap ended (sym split) ∙ sym (append-nil (ended (front ++ drop n lines))))
        ∙ first_lines-ended front (drop n lines) [] (ap (list_all is_unbroken) split ∙ clean) refl in
        bad.2 some.0 (record { proper = drawn.proper; drawn = drawn.drawn ∙ sym first })

-- the rows that are read of the drawing of readable rows are what they are read back as
pub drawn-rows : (amount : ℕ) (text : List ℕ) (read : List TextRow) → IsOnlyReading amount text read → ReadsDrawing amount text read
drawn-rows amount text read o settings rows h =
    subst (λ a. IsOnlyReading a text read → read ≡ text_rows rows) h.measured
    (λ k. (readable-read settings rows h.readable).only read (subst (λ t. IsReading settings.indent_amount t read) h.drawn k.reading)) o

-- and no line of it is a fault
pub drawn-fault : (amount : ℕ) → 2 ≤ amount → (text : List ℕ) (fault : ReadFault) → ReportsFault amount text fault → ReadsNoDrawing amount text fault
drawn-fault amount two text (Line n) bad settings rows h =
    absurd (read-no_bad amount two text (text_rows rows) n
    (subst (λ a. IsReading a text (text_rows rows)) h.measured (subst (λ t. IsReading settings.indent_amount t (text_rows rows)) (sym h.drawn) (readable-read settings rows h.readable).reading)) bad)
drawn-fault amount two text Memory bad settings rows h = refl

-- the same of an answer
pub drawn-faults : {A : Type 0} (amount : ℕ) → 2 ≤ amount → (text : List ℕ) (r : Result A ReadFault) → IfErr r (λ fault. ReportsFault amount text fault) →
    IfErr r (λ fault. ReadsNoDrawing amount text fault)
drawn-faults amount two text (Ok x) h = h
drawn-faults amount two text (Err fault) h = drawn-fault amount two text fault h
