-- The lines of a row, one by one.
use Rattle.std.proofs.Common.{◌≡◌, ◌≢◌, ℕ, ◌+◌, ◌-◌, ◌<◌, ◌≤◌, Bool, true, false, List, [], ◌∷◌, ◌++◌, length, take, drop, get_or, ◌==◌, refl, sym, ap, ◌∙◌, arith, append_assoc, Option, Some, None, Result, Ok, Err, Bor, inl, inr, MatchOption}
use Rattle.std.specs.Prelude.{OnOk, IsTrue, is_some, not, slice_index}
use Rattle.memchr.specs.Find.{IsFirstByte, is_byte}
use Rattle.std.specs.List.{All, slice_split, flat_map, enumerate_from}
use Rattle.std.specs.Option.{unwrap_or}
use Rattle.std.specs.Str.Lines.{lines, lines_of_parts, strip_carriage_return}
use Rattle.std.proofs.lemmas.Bool.{eq-eqb, ne_eqb}
use Rattle.std.proofs.lemmas.Bool.Decides.{eqb_tells, nat_tests}
use Rattle.std.proofs.lemmas.List.{append-nil, take-append-drop, take_all, take_more, length_push, get_or_push}
use Rattle.std.proofs.lemmas.List.Elements.{All-from_get_or}
use Rattle.std.proofs.lemmas.List.Splits.{slice_split_at, slice_split_none, length-slice_split}
use Rattle.std.proofs.Math.Seq.{take-append_seam}
use Rattle.tracing_tree_drawing.specs.Format.Settings.{Settings}
use Rattle.tracing_tree_drawing.specs.Format.Picture.{Row, drawn_line, drawn_row, mark_after_corner, mark_before_corner, mark_line, row_frame, row_lines, row_start}
use Rattle.tracing_tree_drawing.specs.declared.format.SpanMode.{SpanMode}
use Rattle.tracing_tree_base.specs.Extended.{IsExtended}

-- ---- carriage returns

-- a string and a carriage return
strip-return : (text : List ℕ) → strip_carriage_return (text ++ 13 ∷ []) ≡ text
strip-return text =
    let last : length (text ++ 13 ∷ []) - 1 ≡ length text = let n = length_push text 13 in omega arith in
    let here : get_or (text ++ 13 ∷ []) (length (text ++ 13 ∷ []) - 1) 0 ≡ 13 =
    get_or_push text 13 0 (length (text ++ 13 ∷ []) - 1) (sym last) in
    rw (here, last) (take-append_seam text (13 ∷ []))

-- a last byte, and what precedes it
last-byte : (line : List ℕ) (byte : ℕ) → 0 < byte → get_or line (length line - 1) 0 ≡ byte → line ≡ take (length line - 1) line ++ byte ∷ []
last-byte [] byte some e = absurd (omega (arith, e))
last-byte (first ∷ more) byte some e =
    let line = first ∷ more in
    let last = length line - 1 in
    let within : last < length line = omega arith in
    let all : length line ≤ last + 1 = omega arith in
    sym (take_all (last + 1) line all) ∙ take_more line last 0 within ∙ ap (λ b. take last line ++ b ∷ []) e

-- a string that doesn't end in one
strip-none : (line : List ℕ) → ((front : List ℕ) → line ≢ front ++ 13 ∷ []) → strip_carriage_return line ≡ line
strip-none line h = elim (eqb_tells (get_or line (length line - 1) 0) 13) [
  | inl same ↦ absurd (h (take (length line - 1) line) (last-byte line 13 (omega arith) same.1))
  | inr other ↦ rw other.0 refl
]

-- what `strip_suffix` leaves, or the line itself
pub strip-by : (line : List ℕ) (r : Option (Bor (List ℕ))) (whole : Bor (List ℕ)) → whole.now ≡ line →
    MatchOption r ((front : List ℕ) → line ≢ front ++ 13 ∷ []) (λ x. line ≡ x.now ++ 13 ∷ []) →
    (unwrap_or r whole).now ≡ strip_carriage_return line
strip-by line None whole e h = e ∙ sym (strip-none line h)
strip-by line (Some x) whole e h = sym (ap strip_carriage_return h ∙ strip-return x.now)

-- ---- line ends

-- the string has no line end
abbrev pub IsUnbroken : List ℕ → Type 0
IsUnbroken text = (i : ℕ) → i < length text → get_or text i 0 ≢ 10

-- each byte of such a string fails the test
unbroken-all : (text : List ℕ) → IsUnbroken text → All (λ byte. (byte == 10) ≡ false) text
unbroken-all text h = All-from_get_or (λ byte. (byte == 10) ≡ false) text 0 (λ i lt. ne_eqb (get_or text i 0) 10 (h i lt))

-- a part before other parts is a line
lines_of_parts-first : (part : List ℕ) (others : List (List ℕ)) → 0 < length others →
    lines_of_parts (part ∷ others) ≡ strip_carriage_return part ∷ lines_of_parts others
lines_of_parts-first part [] h = absurd (omega arith)
lines_of_parts-first part (next ∷ others) h = refl

-- a string without line ends, and what follows its line end
lines-first : (line others : List ℕ) → IsUnbroken line → lines (line ++ 10 ∷ others) ≡ strip_carriage_return line ∷ lines others
lines-first line others h =
    let some : 0 < length (slice_split (λ byte. byte == 10) others) =
    let n = length-slice_split (λ byte. byte == 10) others in omega arith in
    ap lines_of_parts (slice_split_at (λ byte. byte == 10) line 10 others (unbroken-all line h) refl)
    ∙ lines_of_parts-first line (slice_split (λ byte. byte == 10) others) some

-- the first line of a row, and the later ones
pub row_lines-first : (lined : Bool) (line others : List ℕ) → IsUnbroken line →
    row_lines lined (line ++ 10 ∷ others) ≡ strip_carriage_return line ∷ row_lines lined others
row_lines-first false line others h = lines-first line others h
row_lines-first true line others h =
    ap lines (append_assoc line (10 ∷ others) (10 ∷ [])) ∙ lines-first line (others ++ 10 ∷ []) h

-- the last line, with lines
pub row_lines-last : (line : List ℕ) → IsUnbroken line → row_lines true line ≡ strip_carriage_return line ∷ []
row_lines-last line h = lines-first line [] h

-- the last line, without lines
pub row_lines-rest : (line : List ℕ) → IsUnbroken line → (length line == 0) ≡ false → row_lines false line ≡ line ∷ []
row_lines-rest line h filled =
    ap lines_of_parts (slice_split_none (λ byte. byte == 10) line (unbroken-all line h)) ∙ rw filled refl

-- ---- pictures

-- the lines from this place on
abbrev pub drawn_from : Settings → Row → ℕ → List (List ℕ) → List ℕ
drawn_from settings row place texts =
    flat_map (λ line. drawn_line row.prefix (row_frame settings row.mode row.level line.0) line.1) (enumerate_from place texts)

-- What a loop over the lines has drawn: with the lines of the rest, from this place on, the text is
-- whole.
pub record IsDrawing (settings : Settings) (row : Row) (whole text rest frame : List ℕ) : Type 0 where
  pub place : ℕ
  pub frame_is : frame ≡ row_frame settings row.mode row.level place
  pub text_is : text ++ drawn_from settings row place (row_lines settings.indent_lines rest) ≡ whole

-- each later line has the frame of the second
pub row_frame-later : (settings : Settings) (mode : SpanMode) (level place : ℕ) →
    row_frame settings mode level (place + 1) ≡ row_frame settings mode level 1
row_frame-later settings mode level place =
    let later : (place + 1 == 0) ≡ false = grind (arith, nat_tests) in
    rw later refl

-- one line more is drawn
pub drawing-step : (settings : Settings) (row : Row) (whole text more rest frame next line others : List ℕ) →
    IsDrawing settings row whole text rest frame → rest ≡ line ++ 10 ∷ others → IsUnbroken line →
    more ≡ text ++ (row.prefix ++ frame ++ strip_carriage_return line ++ 10 ∷ []) →
    next ≡ row_frame settings row.mode row.level 1 →
    IsDrawing settings row whole more others next
drawing-step settings row whole text more rest frame next line others h cut unbroken e n =
    let here = strip_carriage_return line in
    let later = drawn_from settings row (h.place + 1) (row_lines settings.indent_lines others) in
    record {
      place = h.place + 1;
      frame_is = n ∙ sym (row_frame-later settings row.mode row.level h.place);
      text_is =
          ap (λ t. t ++ later) (e ∙ ap (λ f. text ++ (row.prefix ++ f ++ here ++ 10 ∷ [])) h.frame_is)
          ∙ append_assoc text (drawn_line row.prefix (row_frame settings row.mode row.level h.place) here) later
          ∙ ap (λ texts. text ++ drawn_from settings row h.place texts)
          (sym (ap (λ t. row_lines settings.indent_lines t) cut ∙ row_lines-first settings.indent_lines line others unbroken))
          ∙ h.text_is;
    }

-- the last line is drawn
drawn-last : (settings : Settings) (row : Row) (whole text more rest frame last : List ℕ) →
    IsDrawing settings row whole text rest frame → row_lines settings.indent_lines rest ≡ last ∷ [] →
    more ≡ text ++ (row.prefix ++ frame ++ last ++ 10 ∷ []) → more ≡ whole
drawn-last settings row whole text more rest frame last h lines e =
    e ∙ ap (λ f. text ++ (row.prefix ++ f ++ last ++ 10 ∷ [])) h.frame_is
    ∙ ap (λ t. text ++ t) (sym (append-nil (drawn_line row.prefix (row_frame settings row.mode row.level h.place) last)))
    ∙ ap (λ texts. text ++ drawn_from settings row h.place texts) (sym lines)
    ∙ h.text_is

-- what follows from a call that was made well
on-ok : {T E P Q : Type 0} (r : Result T E) → (P → Q) → OnOk r P → OnOk r Q
on-ok (Ok done) f h = f h
on-ok (Err fault) f h = tt

-- the last line, with lines
pub lined-last : {T E : Type 0} (r : Result T E) (settings : Settings) (row : Row) (whole text more rest frame last : List ℕ) →
    IsDrawing settings row whole text rest frame → settings.indent_lines ≡ true → IsUnbroken rest → last ≡ strip_carriage_return rest →
    OnOk r (more ≡ text ++ (row.prefix ++ frame ++ last ++ 10 ∷ [])) → OnOk r (more ≡ whole)
lined-last r settings row whole text more rest frame last h lined unbroken e pushed =
    let lines : row_lines settings.indent_lines rest ≡ last ∷ [] =
    rw (lined, e) (row_lines-last rest unbroken) in
    on-ok r (drawn-last settings row whole text more rest frame last h lines) pushed

-- the last line, without lines
pub unlined-last : {T E : Type 0} (r : Result T E) (settings : Settings) (row : Row) (whole text more rest frame : List ℕ) →
    IsDrawing settings row whole text rest frame → settings.indent_lines ≡ false → IsUnbroken rest → (length rest == 0) ≡ false →
    OnOk r (more ≡ text ++ (row.prefix ++ frame ++ rest ++ 10 ∷ [])) → OnOk r (more ≡ whole)
unlined-last r settings row whole text more rest frame h unlined unbroken filled pushed =
    let lines : row_lines settings.indent_lines rest ≡ rest ∷ [] = rw unlined (row_lines-rest rest unbroken filled) in
    on-ok r (drawn-last settings row whole text more rest frame rest h lines) pushed

-- a test that fails holds of nothing
never : false ≡ true → ⊥
never e = absurd cc

-- a block that is one line unchanged, with lines
pub line-lined : (block : List ℕ) (ends : Bool) → IsUnbroken block → IsTrue (not ends) → ((front : List ℕ) → block ≡ front ++ 13 ∷ [] → ends ≡ true) →
    row_lines true block ≡ block ∷ []
line-lined block true unbroken stays returns = absurd (never stays)
line-lined block false unbroken stays returns =
    row_lines-last block unbroken ∙ ap (λ line. line ∷ []) (strip-none block (λ front same. never (returns front same)))

-- and without lines
pub line-unlined : (block : List ℕ) (empty : Bool) → IsUnbroken block → IsTrue (not empty) → empty ≡ (length block == 0) →
    row_lines false block ≡ block ∷ []
line-unlined block true unbroken filled here = absurd (never filled)
line-unlined block false unbroken filled here = row_lines-rest block unbroken (sym here)

-- a search for a line end that finds nothing
pub no-end : (text : List ℕ) (r : Option ℕ) → IsFirstByte (is_byte 10) text r → is_some r ≡ false → IsUnbroken text
no-end text None h none = λ i within same. h i (omega arith) within (eq-eqb (slice_index text i) 10 same)
no-end text (Some at) h none = absurd (never (sym none))

-- ---- rows that were begun

-- a string is a prefix of it, and what follows
pub extended-cut : (at : ℕ) (text : List ℕ) → IsExtended (take at text) text
extended-cut at text = record { front = drop at text; appended = sym (take-append-drop at text) }

row-pieces : (before mark prefix frame block after : List ℕ) →
    before ++ (mark ++ prefix ++ frame) ++ block ++ 10 ∷ [] ++ after ≡ before ++ (mark ++ (prefix ++ frame ++ block ++ 10 ∷ [] ++ []) ++ after)
row-pieces before mark prefix frame block after = simp (append-nil, append_assoc)

-- a row that was begun, its block, which is one line, and a line end
pub row-ended : {T E : Type 0} (r : Result T E) (settings : Settings) (row : Row) (before text ended more : List ℕ) (at : ℕ) →
    take at text ≡ before ++ row_start settings row → row_lines settings.indent_lines (drop at text) ≡ drop at text ∷ [] →
    ended ≡ text ++ 10 ∷ [] → OnOk r (more ≡ ended ++ mark_line settings row (mark_after_corner row.mode)) →
    OnOk r (more ≡ before ++ drawn_row settings (record row { block = drop at text }))
row-ended r settings row before text ended more at begun single pushed marked =
    let block = drop at text in
    let first = mark_line settings row (mark_before_corner row.mode) in
    let last = mark_line settings row (mark_after_corner row.mode) in
    let whole : text ≡ before ++ row_start settings row ++ block =
    sym (take-append-drop at text) ∙ ap (λ front. front ++ block) begun in
    let pieces : before ++ row_start settings row ++ block ++ 10 ∷ [] ++ last ≡ before ++ (first ++ drawn_from settings row 0 (block ∷ []) ++ last) =
    row-pieces before first row.prefix (row_frame settings row.mode row.level 0) block last in
    on-ok r (λ e. e ∙ ap (λ t. t ++ last) (pushed ∙ ap (λ t. t ++ 10 ∷ []) whole) ∙ pieces
    ∙ ap (λ texts. before ++ (first ++ drawn_from settings row 0 texts ++ last)) (sym single)) marked
