-- The rows of an input, read line by line and written one by one.
use Rattle.std.proofs.Common.{◌≡◌, ℕ, ◌+◌, ◌-◌, ◌≤◌, true, false, List, [], ◌∷◌, ◌++◌, length, take, flat_map, Option, Some, None, Result, Ok, Err, refl, sym, ap, ◌∙◌, subst, arith, append_assoc, length-append, inl, inr}
use Rattle.std.specs.List.{enumerate_from, list_all}
use Rattle.std.specs.Prelude.{IfSome}
use Rattle.std.specs.Io.KnownBytes.{Appends}
use Rattle.std.proofs.KnownBytes.{Appends-nil, Appends-trans}
use Rattle.std.proofs.Math.Seq.{take-append-add, take-append_seam}
use Rattle.std.proofs.lemmas.List.{append-nil}
use Rattle.tracing_tree_drawing.specs.Format.Picture.{Row, parts_of}
use Rattle.tracing_tree_drawing.specs.Format.Settings.{Settings}
use Rattle.tracing_tree_drawing.specs.Rows.Readable.{IsDrawing}
use Rattle.tracing_tree_drawing.specs.Rows.Paths.{AreLastPlaces, FollowsRows}
use Rattle.tracing_tree_lines.specs.Rows.Json.{BeginsWithRows, EndsAtLine, IsNoText, IsNotARow, LeavesWritten, ReportsLine, WritesDrawing, WritesRows, all_but_last, json_line, json_lines, row_json}
use Rattle.tracing_tree_lines.specs.Rows.JsonSteps.{HasEnded, HasWritten, SoFar, WritesNext, WritesText, drops_last, fault_at}
use Rattle.tracing_tree_drawing.specs.Rows.Line.{with_last}
use Rattle.tracing_tree_drawing.specs.Rows.Texts.{IsReadTo, IsReadUpTo, TextLeft}
use Rattle.tracing_tree_drawing.specs.Rows.RowText.{TextRow, IsOnlyReading, ended, first_lines, is_unbroken}
use Rattle.tracing_tree_lines.specs.declared.rows.json_text.JsonRows.{JsonRows}
use Rattle.tracing_tree_lines.specs.declared.rows.json_text.RowCause.{RowCause}
use Rattle.tracing_tree_lines.specs.declared.rows.json_text.RowCause.TheVariants.{NotARow, Read, Memory, Writer}
use Rattle.tracing_tree_lines.specs.declared.rows.json_text.RowFault.{RowFault}
use Rattle.tracing_tree_lines.specs.declared.rows.json_text.RowsRead.{RowsRead}
use Rattle.tracing_tree_drawing.specs.declared.rows.paths.EventPath.{EventPath}
use Rattle.tracing_tree_drawing.specs.declared.rows.read.ReadFault.TheVariants as Fault
use Rattle.tracing_tree_drawing.proofs.RowsRead.AncestryLaws.{last_none, path-same}
use Rattle.tracing_tree_drawing.proofs.RowsRead.ReadBack.{drawn-faults, drawn-rows}
use Rattle.tracing_tree_drawing.proofs.RowsRead.ReadPlaces.{AreLines, cut, read_end, read_start}
use Rattle.tracing_tree_drawing.proofs.RowsRead.ReadSteps.{read_all, read_none}
use Rattle.tracing_tree_drawing.proofs.RowsRead.RowLines.{ended-append}
use Rattle.tracing_tree_drawing.proofs.RowsRead.TextsRead.{first_lines-ended, parts-ended}
use Rattle.std.proofs.lemmas.Bool.{and_from}
use Rattle.std.proofs.lemmas.List.Folds.{list_all-append}

-- ---- rows that are written

-- later rows change no line
line-same : (rows more : List TextRow) (place : ℕ) (row : TextRow) → place ≤ length rows → json_line (rows ++ more) place row ≡ json_line rows place row
line-same rows more place row le = ap (λ path. row_json row path ++ 10 ∷ []) (path-same rows more place row le)

lines-from : (rows : List TextRow) (row : TextRow) (n : ℕ) (xs : List TextRow) → n + length xs ≡ length rows →
    flat_map (λ e. json_line (rows ++ row ∷ []) e.0 e.1) (enumerate_from n (xs ++ row ∷ []))
    ≡ flat_map (λ e. json_line rows e.0 e.1) (enumerate_from n xs) ++ json_line rows (length rows) row
lines-from rows row n [] e =
    let here : n ≡ length rows = omega arith in
    append-nil (json_line (rows ++ row ∷ []) n row) ∙ line-same rows (row ∷ []) n row (omega arith) ∙ ap (λ m. json_line rows m row) here
lines-from rows row n (x ∷ xs) e =
    (λ i. line-same rows (row ∷ []) n x (omega arith) i ++ lines-from rows row (n + 1) xs (omega arith) i)
    ∙ sym (append_assoc (json_line rows n x) (flat_map (λ e. json_line rows e.0 e.1) (enumerate_from (n + 1) xs)) (json_line rows (length rows) row))

pub json_lines-push : (rows : List TextRow) (row : TextRow) → json_lines (rows ++ row ∷ []) ≡ json_lines rows ++ json_line rows (length rows) row
json_lines-push rows row = lines-from rows row 0 rows (let e : 0 + length rows ≡ length rows = omega arith in e)

-- what writing the line of the next row leaves
pub next-written : (start : Option (List ℕ)) (rows : List TextRow) (row : TextRow) (old new : JsonRows) (path : Option EventPath) (now after : Option (List ℕ)) (text : List ℕ)
    (result : Result (Unit {0}) RowCause) → HasWritten start rows old now → FollowsRows rows row path new.ancestry → new.place ≡ length rows + 1 →
    text ≡ row_json row path ++ 10 ∷ [] → WritesText text result now after → WritesNext start rows row result new after
next-written start rows row old new path now after text (Ok done) h f n e w =
    let line : text ≡ json_line rows (length rows) row = e ∙ ap (λ p. row_json row p ++ 10 ∷ []) f.found in
    record {
      last = f.last;
      counted = let m = length-append rows (row ∷ []) in omega arith;
      appended = subst (Appends start after) (ap (λ t. json_lines rows ++ t) line ∙ sym (json_lines-push rows row)) (Appends-trans start now after (json_lines rows) text h.appended w);
    }
next-written start rows row old new path now after text (Err NotARow) h f n e w = absurd (let z = w.0 in cc)
next-written start rows row old new path now after text (Err Read) h f n e w = absurd (let z = w.0 in cc)
next-written start rows row old new path now after text (Err Memory) h f n e w = absurd (let z = w.0 in cc)
next-written start rows row old new path now after text (Err Writer) h f n e w =
    let line : text ≡ json_line rows (length rows) row = e ∙ ap (λ p. row_json row p ++ 10 ∷ []) f.found in
    (w.1.0, subst (λ t. Appends start after (json_lines rows ++ take w.1.0 t)) line (Appends-trans start now after (json_lines rows) (take w.1.0 text) h.appended w.1.1))

-- ---- lines of an input

-- an input that begins with these lines, by all its lines
pub record HasLines (input : List ℕ) (before : List (List ℕ)) : Type 0 where
  pub after : List (List ℕ)
  pub last : List ℕ
  pub whole : input ≡ ended (before ++ after) ++ last
  pub unbroken : list_all is_unbroken (before ++ after) ≡ true
  pub tail : is_unbroken last ≡ true

pub has-lines : (input : List ℕ) (before : List (List ℕ)) (rest : List ℕ) → input ≡ ended before ++ rest → list_all is_unbroken before ≡ true → HasLines input before
has-lines input before rest e h =
    let more : AreLines rest = cut rest in
    record {
      after = more.lines;
      last = more.rest;
      whole = e ∙ ap (λ t. ended before ++ t) more.whole ∙ sym (append_assoc (ended before) (ended more.lines) more.rest)
          ∙ ap (λ t. t ++ more.rest) (sym (ended-append before more.lines));
      unbroken = list_all-append is_unbroken before more.lines ∙ and_from (list_all is_unbroken before) (list_all is_unbroken more.lines) h more.unbroken;
      tail = more.last;
    }

pub lines-parts : (input : List ℕ) (before : List (List ℕ)) (h : HasLines input before) → parts_of input ≡ before ++ (h.after ++ h.last ∷ [])
lines-parts input before h = ap parts_of h.whole ∙ parts-ended (before ++ h.after) h.last h.unbroken h.tail ∙ append_assoc before h.after (h.last ∷ [])

lines-first : (input : List ℕ) (before : List (List ℕ)) → HasLines input before → first_lines (length before) input ≡ ended before
lines-first input before h = ap (first_lines (length before)) h.whole ∙ first_lines-ended before h.after h.last h.unbroken h.tail

-- lines that were read begin the input
lines-begin : (amount : ℕ) → 2 ≤ amount → (input : List ℕ) (lines : List (List ℕ)) (rest : List ℕ) (rows : List TextRow) (last : Option TextRow) (count : ℕ) →
    input ≡ ended lines ++ rest → list_all is_unbroken lines ≡ true → count ≡ length lines → IsReadUpTo amount lines rows last → BeginsWithRows amount input count (with_last rows last)
lines-begin amount two input lines rest rows last count whole unbroken counted upto =
    let h : HasLines input lines = has-lines input lines rest whole unbroken in
    let first : first_lines count input ≡ ended lines = ap (λ n. first_lines n input) counted ∙ lines-first input lines h in
    record {
      ended = let n : length (parts_of input) ≡ length (lines ++ (h.after ++ h.last ∷ [])) = ap length (lines-parts input lines h) in
          let m = length-append lines (h.after ++ h.last ∷ []) in let k = length-append h.after (h.last ∷ []) in omega arith;
      reading = subst (λ t. IsOnlyReading amount t (with_last rows last)) (sym first) (read_all amount two lines rows last unbroken upto);
    }

-- ---- so far

-- nothing is read or written yet
pub so-far-none : (amount : ℕ) → 2 ≤ amount → (input : List ℕ) (start : Option (List ℕ)) (read : RowsRead) → read.reader ≡ record { amount = amount; last = None } →
    read.json.ancestry ≡ [] → read.json.place ≡ 0 → SoFar amount input start 0 input read start
so-far-none amount two input start read reader ancestry place = record {
  two = two;
  rows = [];
  measured = ap (λ r. r.amount) reader;
  upto = subst (λ r. IsReadTo input [] (record { reader = r; rest = input; lines = 0 })) (sym reader) (read_start amount input);
  fewer = omega arith;
  fresh = λ e. refl;
  written = record { last = subst (λ places. AreLastPlaces [] places) (sym ancestry) last_none; counted = place; appended = Appends-nil start };
}

-- memory runs out before the first line
pub refused-first : (amount : ℕ) → 2 ≤ amount → (input : List ℕ) (start : Option (List ℕ)) → EndsAtLine amount input (record { line = 1; cause = Memory }) start start
refused-first amount two input start = record {
  rows = [];
  numbered = omega arith;
  before = lines-begin amount two input [] input [] None 0 refl refl refl (read_none amount);
  emits = tt;
  written = Appends-nil start;
}

-- if it is known
pub where-known : (known : Option (List ℕ)) (P : List ℕ → Type 0) → ((input : List ℕ) → known ≡ Some input → P input) → IfSome known P
where-known None P h = tt
where-known (Some input) P h = h input refl

module _ {amount : ℕ} {input : List ℕ} {start : Option (List ℕ)} {count : ℕ} {rest : List ℕ} {read : RowsRead} {now : Option (List ℕ)} where
  -- the rows of the lines that were read, the last row too
  abbrev pub all_rows : SoFar amount input start count rest read now → List TextRow
  all_rows so = with_last so.rows read.reader.last

  begins : (so : SoFar amount input start count rest read now) → BeginsWithRows amount input count (all_rows so)
  begins so =
      lines-begin amount so.two input so.upto.before rest so.rows read.reader.last count so.upto.whole so.upto.unbroken so.upto.counted
      (subst (λ a. IsReadUpTo a so.upto.before so.rows read.reader.last) so.measured so.upto.upto)

  -- ---- the end

  -- the reading ended at the next line
  ends-at : (so : SoFar amount input start count rest read now) (line : ℕ) (cause : RowCause) (after : Option (List ℕ)) → line ≡ count + 1 →
      ReportsLine amount input line cause → LeavesWritten cause (all_rows so) start after → EndsAtLine amount input (record { line = line; cause = cause }) start after
  ends-at so line cause after is emits written = record {
    rows = all_rows so;
    numbered = omega arith;
    before = let same : line - 1 ≡ count = omega arith in subst (λ n. BeginsWithRows amount input n (all_rows so)) (sym same) (begins so);
    emits = emits;
    written = written;
  }

  but-last : (so : SoFar amount input start count rest read now) → all_but_last (all_rows so) ≡ so.rows
  but-last so = by so.rows read.reader.last so.fresh
    where
      by : (rows : List TextRow) (last : Option TextRow) → (last ≡ None → rows ≡ []) → all_but_last (with_last rows last) ≡ rows
      by rows None none = rw (none refl) refl
      by rows (Some row) none =
          let n : length (rows ++ row ∷ []) - 1 ≡ length rows = let m = length-append rows (row ∷ []) in omega arith in
          ap (λ k. take k (rows ++ row ∷ [])) n ∙ take-append_seam rows (row ∷ [])

  -- because memory ran out: the last row isn't written
  pub refused : (so : SoFar amount input start count rest read now) (after : Option (List ℕ)) → Appends start after (json_lines so.rows) →
      EndsAtLine amount input (record { line = count + 1; cause = Memory }) start after
  refused so after h = ends-at so (count + 1) Memory after refl tt (subst (λ rows. Appends start after (json_lines rows)) (sym (but-last so)) h)

  -- because the writer failed: a first part of the last row is written
  pub cut-short : (so : SoFar amount input start count rest read now) (row : TextRow) (after : Option (List ℕ)) → read.reader.last ≡ Some row →
      (n : ℕ) → Appends start after (json_lines so.rows ++ take n (json_line so.rows (length so.rows) row)) →
      EndsAtLine amount input (record { line = count + 1; cause = Writer }) start after
  cut-short so row after is n h =
      let rows = so.rows in
      let all : all_rows so ≡ rows ++ row ∷ [] = ap (with_last rows) is in
      let whole : take (length (json_lines rows) + n) (json_lines (all_rows so)) ≡ json_lines rows ++ take n (json_line rows (length rows) row) =
      ap (λ rs. take (length (json_lines rows) + n) (json_lines rs)) all ∙ ap (take (length (json_lines rows) + n)) (json_lines-push rows row)
      ∙ take-append-add (json_lines rows) (json_line rows (length rows) row) n in
      ends-at so (count + 1) Writer after refl tt (record {
        some = let m : length (all_rows so) ≡ length (rows ++ row ∷ []) = ap length all in let k = length-append rows (row ∷ []) in omega arith;
        count = length (json_lines rows) + n;
        others = let m : length (json_lines (all_but_last (all_rows so))) ≡ length (json_lines rows) = ap (λ rs. length (json_lines rs)) (but-last so) in omega arith;
        appends = subst (Appends start after) (sym whole) h;
      })

-- ---- the end of the input, or of its reading

module _ {amount : ℕ} {input : List ℕ} {start : Option (List ℕ)} {count : ℕ} {read : RowsRead} {now : Option (List ℕ)} where
  -- some of the input is left
  pub so-far : (cause : Option RowCause) → drops_last cause ≡ false → HasEnded amount input start count cause read now →
      (rest : List ℕ) × SoFar amount input start count rest read now
  so-far None goes ended = ([], ended)
  so-far (Some NotARow) goes ended = ended.0
  so-far (Some Read) goes ended = ended
  so-far (Some Memory) goes ended = absurd (cc)
  so-far (Some Writer) goes ended = absurd (cc)

  -- all rows were written
  pub concludes : (line : ℕ) (cause : Option RowCause) (after : Option (List ℕ)) → line ≡ count + 1 → drops_last cause ≡ false → HasEnded amount input start count cause read now →
      ((rest : List ℕ) (so : SoFar amount input start count rest read now) → Appends start after (json_lines (all_rows so))) → WritesRows amount input (fault_at line cause) start after
  concludes line None after is goes so all = record {
    rows = all_rows so;
    reading = let left : TextLeft = record { reader = read.reader; rest = []; lines = count } in
        subst (λ a. IsOnlyReading a input (all_rows so)) so.measured (read_end input so.rows left (subst (λ a. 2 ≤ a) (sym so.measured) so.two) so.upto refl);
    written = all [] so;
  }
  concludes line (Some NotARow) after is goes ended all = ends-at ended.0.1 line NotARow after is (subst (IsNotARow amount input) (sym is) ended.1) (all ended.0.0 ended.0.1)
  concludes line (Some Read) after is goes ended all = ends-at ended.1 line Read after is tt (all ended.0 ended.1)
  concludes line (Some Memory) after is goes ended all = absurd (cc)
  concludes line (Some Writer) after is goes ended all = absurd (cc)

  -- the last row couldn't be written
  pub drops : (line : ℕ) (cause : Option RowCause) (failed : RowCause) (row : TextRow) (json : JsonRows) (after : Option (List ℕ)) → line ≡ count + 1 → drops_last cause ≡ false →
      HasEnded amount input start count cause read now → read.reader.last ≡ Some row →
      ((rest : List ℕ) (so : SoFar amount input start count rest read now) → WritesNext start so.rows row (Err failed) json after) →
      EndsAtLine amount input (record { line = line; cause = failed }) start after
  drops line cause failed row json after is goes ended last writes =
      let (rest, so) = so-far cause goes ended in
      subst (λ n. EndsAtLine amount input (record { line = n; cause = failed }) start after) (sym is) (by rest so failed (writes rest so))
    where
      by : (rest : List ℕ) (so : SoFar amount input start count rest read now) (failed : RowCause) → WritesNext start so.rows row (Err failed) json after →
          EndsAtLine amount input (record { line = count + 1; cause = failed }) start after
      by rest so NotARow w = absurd w
      by rest so Read w = absurd w
      by rest so Memory w = refused so after w
      by rest so Writer w = cut-short so row after last w.0 w.1

-- ---- drawings

-- what is written of a drawing
writes-drawing : (amount : ℕ) → 2 ≤ amount → (input : List ℕ) (result : Result (Unit {0}) RowFault) (old new : Option (List ℕ)) →
    WritesRows amount input result old new → WritesDrawing amount input result old new
writes-drawing amount two input (Ok done) old new all = λ settings rows drawing.
    subst (λ rs. Appends old new (json_lines rs)) (drawn-rows amount input all.rows all.reading settings rows drawing) all.written
writes-drawing amount two input (Err fault) old new ends = λ settings rows drawing is. by settings rows drawing (subst (ReportsLine amount input fault.line) is ends.emits)
  where
    by : (settings : Settings) (rows : List Row) → IsDrawing amount input settings rows → IsNotARow amount input fault.line → IsNoText input fault.line
    by settings rows drawing (inl bad) =
        absurd (let e : Fault.Line fault.line ≡ Fault.Memory = drawn-faults {A = Unit {0}} amount two input (Err (Fault.Line fault.line)) bad settings rows drawing in cc)
    by settings rows drawing (inr text) = text

pub writes-drawings : (known : Option (List ℕ)) (amount : ℕ) → 2 ≤ amount → (result : Result (Unit {0}) RowFault) (old new : Option (List ℕ)) →
    IfSome known (λ input. WritesRows amount input result old new) → IfSome known (λ input. WritesDrawing amount input result old new)
writes-drawings None amount two result old new all = tt
writes-drawings (Some input) amount two result old new all = writes-drawing amount two input result old new all
