-- One more line of an input whose rows are written.
use Rattle.std.proofs.Common.{◌≡◌, ◌≢◌, ℕ, ◌+◌, ◌-◌, ◌<◌, ◌≤◌, ◌==◌, true, false, List, [], ◌∷◌, ◌++◌, length, get_or, slice_get, Option, Some, None, Result, Ok, Err, IsSomeAnd, IsUtf8, inl, inr, refl, sym, ap, ◌∙◌, subst, arith, append_assoc, length-append, eq-eqb}
use Rattle.std.specs.List.{list_all}
use Rattle.std.proofs.Math.Seq.{get_or-append_seam}
use Rattle.std.proofs.lemmas.Bool.{false≢true}
use Rattle.std.proofs.lemmas.List.{append-nil}
use Rattle.std.proofs.lemmas.Option.{slice_get-get_or}
use Rattle.tracing_tree_drawing.specs.Format.Picture.{parts_of}
use Rattle.tracing_tree_lines.specs.Lines.Reads.{HasNoLineEnd, TakesEnded, TakesRest}
use Rattle.tracing_tree_lines.specs.Rows.Json.{IsNotARow}
use Rattle.tracing_tree_lines.specs.Rows.JsonSteps.{ReadsRowLine, SoFar, TakesRowLine, WritesNext}
use Rattle.tracing_tree_drawing.specs.Rows.Line.{LineRead.LaterLine, last_after}
use Rattle.tracing_tree_drawing.specs.Rows.RowText.{TextRow, IsFirstBadLine, ended, is_unbroken}
use Rattle.tracing_tree_drawing.specs.Rows.Texts.{ReaderView, TakesTextLine, TextLeft}
use Rattle.tracing_tree_lines.specs.declared.rows.json_text.JsonRows.{JsonRows}
use Rattle.tracing_tree_lines.specs.declared.rows.json_text.RowCause.{RowCause}
use Rattle.tracing_tree_lines.specs.declared.rows.json_text.RowCause.TheVariants.{NotARow, Read, Memory, Writer}
use Rattle.tracing_tree_lines.specs.declared.rows.json_text.RowsRead.{RowsRead}
use Rattle.tracing_tree_drawing.specs.declared.rows.read.Taken.{Taken}
use Rattle.tracing_tree_drawing.specs.declared.rows.read.Taken.TheVariants.{First, Later, Neither}
use Rattle.tracing_tree_lines.proofs.RowsRead.JsonRuns.{HasLines, cut-short, has-lines, lines-parts, refused}
use Rattle.tracing_tree_drawing.proofs.RowsRead.ReadPlaces.{more-unbroken, read_bad, read_rest, unbroken-from}
use Rattle.tracing_tree_drawing.proofs.RowsRead.RowLines.{ended-append}
use Rattle.tracing_tree_drawing.proofs.RowsRead.Taken.{left_by, taken-next}

no-end : (line : List ℕ) → HasNoLineEnd line → (i : ℕ) → i < length line → get_or line i 0 ≢ 10
no-end line clean i lt e = false≢true (sym (clean i 0 lt) ∙ eq-eqb (get_or line i 0) 10 e)

-- what a line does, by what a reader of its string returns
pub taken-as : (old new : ReaderView) (text line : List ℕ) (taken wanted : Taken) → text ≡ line → taken ≡ wanted → HasNoLineEnd line →
    (is_unbroken text ≡ true → TakesTextLine old text (Ok taken) new) → TakesTextLine old line (Ok wanted) new
taken-as old new text line taken wanted same is clean emitted =
    subst (λ t. TakesTextLine old line (Ok t) new) is
    (subst (λ bytes. TakesTextLine old bytes (Ok taken) new) same (emitted (ap is_unbroken same ∙ unbroken-from line (no-end line clean))))

-- a line that isn't UTF-8 isn't a line of a row
bad-text : (amount : ℕ) (input : List ℕ) (before : List (List ℕ)) (line after : List ℕ) (number : ℕ) → input ≡ ended before ++ (line ++ (10 ∷ after)) →
    list_all is_unbroken before ≡ true → is_unbroken line ≡ true → number ≡ length before + 1 → ¬ (IsUtf8 line) → IsNotARow amount input number
bad-text amount input before line after number whole unbroken clean n bad =
    let lines : List (List ℕ) = before ++ line ∷ [] in
    let here : input ≡ ended lines ++ after =
    whole ∙ ap (λ t. ended before ++ t) (sym (append_assoc line (10 ∷ []) after))
    ∙ sym (append_assoc (ended before) (line ++ 10 ∷ []) after)
    ∙ ap (λ t. t ++ after) (ap (λ t. ended before ++ t) (sym (append-nil (line ++ 10 ∷ []))) ∙ sym (ended-append before (line ∷ []))) in
    let h : HasLines input lines = has-lines input lines after here (more-unbroken before line unbroken clean) in
    let tail : List (List ℕ) = h.after ++ h.last ∷ [] in
    let parts : parts_of input ≡ before ++ line ∷ tail = lines-parts input lines h ∙ append_assoc before (line ∷ []) tail in
    let place : number - 1 ≡ length before = omega arith in
    let found : slice_get (parts_of input) (number - 1) ≡ Some line =
    (λ i. slice_get (parts i) (place i))
    ∙ slice_get-get_or (before ++ line ∷ tail) (length before) [] (let m = length-append before (line ∷ tail) in omega arith)
    ∙ ap Some (get_or-append_seam before line tail []) in
    inr (subst (λ o. IsSomeAnd o (λ bytes. ¬ (IsUtf8 bytes))) (sym found) bad)

-- ---- what is left of the input

-- a line that was taken with its line end
pub record IsBefore (left : Option (List ℕ)) (rest line : List ℕ) : Type 0 where
  pub after : List ℕ
  pub known : left ≡ Some after
  pub split : rest ≡ line ++ (10 ∷ after)
  pub clean : HasNoLineEnd line

pub before-rest : (known left : Option (List ℕ)) (rest line : List ℕ) → known ≡ Some rest → TakesEnded known left line → IsBefore left rest line
before-rest known left rest line is taken = by left (subst (λ k. TakesEnded k left line) is taken)
  where
    by : (left : Option (List ℕ)) → TakesEnded (Some rest) left line → IsBefore left rest line
    by None taken = absurd taken.taken
    by (Some after) taken = record { after = after; known = refl; split = taken.taken ∙ append_assoc line (10 ∷ []) after; clean = taken.within }

-- the same of the line that is lent
pub before-lent : (known left : Option (List ℕ)) (rest line lent : List ℕ) → known ≡ Some rest → lent ≡ line → TakesEnded known left line → IsBefore left rest lent
before-lent known left rest line lent is same taken = before-rest known left rest lent is (subst (TakesEnded known left) (sym same) taken)

-- what is left without a line end
pub all-rest : (known left : Option (List ℕ)) (rest line : List ℕ) → known ≡ Some rest → TakesRest known left line → HasNoLineEnd line × (rest ≡ line)
all-rest known left rest line is taken = let own = subst (λ k. TakesRest k left line) is taken in (own.0, own.1)

-- ---- the next line

module _ {amount : ℕ} {input : List ℕ} {start : Option (List ℕ)} {count : ℕ} {read : RowsRead} {now : Option (List ℕ)} where
  -- the line isn't UTF-8
  pub no-text : (line after : List ℕ) → SoFar amount input start count (line ++ (10 ∷ after)) read now → HasNoLineEnd line → ¬ (IsUtf8 line) → IsNotARow amount input (count + 1)
  no-text line after so clean bad =
      bad-text amount input so.upto.before line after (count + 1) so.upto.whole so.upto.unbroken (unbroken-from line (no-end line clean)) (ap (λ n. n + 1) so.upto.counted) bad

  -- the line isn't a line of a row
  pub no-row : (line after : List ℕ) (reader : ReaderView) → SoFar amount input start count (line ++ (10 ∷ after)) read now → HasNoLineEnd line →
      TakesTextLine read.reader line (Ok Neither) reader → IsNotARow amount input (count + 1)
  no-row line after reader so clean taken =
      let left : TextLeft = left_by read.reader (line ++ (10 ∷ after)) count in
      inl (subst (λ a. IsFirstBadLine a input (count + 1)) so.measured
      (read_bad input so.rows left line after (subst (λ a. 2 ≤ a) (sym so.measured) so.two) so.upto refl (unbroken-from line (no-end line clean)) taken.0))

  -- the line has no line end
  pub no-end-line : (line : List ℕ) → SoFar amount input start count line read now → HasNoLineEnd line → (length line == 0) ≡ false → IsNotARow amount input (count + 1)
  no-end-line line so clean some =
      inl (subst (λ a. IsFirstBadLine a input (count + 1)) so.measured
      (read_rest input so.rows (left_by read.reader line count) line (subst (λ a. 2 ≤ a) (sym so.measured) so.two) so.upto refl some (unbroken-from line (no-end line clean))))

  -- the line is one more of the last row
  pub later-line : (line after : List ℕ) (reader : ReaderView) → SoFar amount input start count (line ++ (10 ∷ after)) read now → HasNoLineEnd line →
      TakesTextLine read.reader line (Ok Later) reader → SoFar amount input start (count + 1) after (record read { reader = reader }) now
  later-line line after reader so clean taken = record {
    two = so.two;
    rows = so.rows;
    measured = ap (λ r. r.amount) taken.after ∙ so.measured;
    upto = taken-next input so.rows (left_by read.reader (line ++ (10 ∷ after)) count) line after Later reader (count + 1) (λ e. cc) refl (no-end line clean) taken refl so.upto;
    fewer = let n = so.fewer in omega arith;
    fresh = λ e. so.fresh (none read.reader.last (sym (ap (λ r. r.last) taken.after) ∙ e));
    written = so.written;
  }
    where
      none : (last : Option TextRow) → last_after last (LaterLine taken.text) ≡ None → last ≡ None
      none None e = refl
      none (Some row) e = absurd (cc)

  -- the line begins a row, and there was no row before it
  pub first-line : (line after : List ℕ) (reader : ReaderView) → SoFar amount input start count (line ++ (10 ∷ after)) read now → HasNoLineEnd line →
      TakesTextLine read.reader line (Ok (First None)) reader → SoFar amount input start (count + 1) after (record read { reader = reader }) now
  first-line line after reader so clean taken = record {
    two = so.two;
    rows = so.rows;
    measured = ap (λ r. r.amount) taken.after ∙ so.measured;
    upto = taken-next input so.rows (left_by read.reader (line ++ (10 ∷ after)) count) line after (First None) reader (count + 1) (λ e. cc) refl (no-end line clean) taken refl so.upto;
    fewer = let n = so.fewer in omega arith;
    fresh = λ e. let z : Some taken.row ≡ None = sym (ap (λ r. r.last) taken.after) ∙ e in absurd (cc);
    written = so.written;
  }

  -- the line begins a row, and the row before it is written or not
  pub next-line : (line after : List ℕ) (reader : ReaderView) (row : TextRow) (json : JsonRows) (result : Result (Unit {0}) RowCause) (new : Option (List ℕ)) →
      (so : SoFar amount input start count (line ++ (10 ∷ after)) read now) → HasNoLineEnd line → TakesTextLine read.reader line (Ok (First (Some row))) reader →
      WritesNext start so.rows row result json new → TakesRowLine amount input start count after result (record read { reader = reader; json = json }) new
  next-line line after reader row json (Ok done) new so clean taken written = record {
    two = so.two;
    rows = so.rows ++ row ∷ [];
    measured = ap (λ r. r.amount) taken.after ∙ so.measured;
    upto = taken-next input so.rows (left_by read.reader (line ++ (10 ∷ after)) count) line after (First (Some row)) reader (count + 1) (λ e. cc) refl (no-end line clean) taken refl so.upto;
    fewer = let n = so.fewer in let m = length-append so.rows (row ∷ []) in omega arith;
    fresh = λ e. let z : Some taken.row ≡ None = sym (ap (λ r. r.last) taken.after) ∙ e in absurd (cc);
    written = written;
  }
  next-line line after reader row json (Err NotARow) new so clean taken written = absurd written
  next-line line after reader row json (Err Read) new so clean taken written = absurd written
  next-line line after reader row json (Err Memory) new so clean taken written = refused so new written
  next-line line after reader row json (Err Writer) new so clean taken written = cut-short so row new (sym taken.complete) written.0 written.1

-- ---- all lines

-- the line of this number is the next
pub record IsAtLine (amount : ℕ) (input : List ℕ) (start : Option (List ℕ)) (number : ℕ) (left : Option (List ℕ)) (read : RowsRead) (now : Option (List ℕ)) : Type 0 where
  pub count : ℕ
  pub rest : List ℕ
  pub numbered : number ≡ count + 1
  pub known : left ≡ Some rest
  pub so_far : SoFar amount input start count rest read now

-- the line was taken
pub at-next : (amount : ℕ) (input : List ℕ) (start : Option (List ℕ)) (number : ℕ) (left : Option (List ℕ)) (read : RowsRead) (now : Option (List ℕ)) (count : ℕ) →
    number ≡ count + 1 → ReadsRowLine amount input start count left (Ok true) read now → IsAtLine amount input start (number + 1) left read now
at-next amount input start number left read now count is taken =
    record { count = count + 1; rest = taken.0; numbered = ap (λ n. n + 1) is; known = taken.1; so_far = taken.2 }
