-- Lines that a reader's buffer holds, judged one after another.
use Rattle.std.proofs.Common.{◌≡◌, ℕ, zero, suc, ◌+◌, ◌<◌, ◌≤◌, true, false, List, ◌++◌, length, take, drop, drop-drop, slice_range, Option, Some, None, Result, Ok, Err, position, get_or, get_or-drop, eqb-true, IfSome, refl, sym, ap, subst, ◌∙◌, arith, append_assoc}
use Rattle.std.specs.Io.KnownBytes.{prepend_known}
use Rattle.std.specs.Prelude.{IsUtf8, MatchResult}
use Rattle.std.specs.Str.{IsCharBoundary}
use Rattle.std.specs.Result.{result_ok}
use Rattle.std.proofs.lemmas.List.{drop-append-le, length-append, length-drop}
use Rattle.std.proofs.lemmas.List.Quantifiers.{position-Some}
use Rattle.std.proofs.Math.Seq.{take-length}
use Rattle.std.proofs.lemmas.Str.{IsCharBoundary-start, IsCharBoundary-before_ascii, IsCharBoundary-after_ascii}
use Rattle.tracing_tree_layer.specs.Layer.Layers.{LayeredView, Changes}
use Rattle.tracing_tree_layer.specs.Layered.Seen.{Seen}
use Rattle.tracing_tree_lines.specs.Lines.Inputs.{DropsHeld, HoldsFront}
use Rattle.tracing_tree_lines.specs.Lines.Reads.{TakesLine}
use Rattle.tracing_tree_lines.specs.Lines.Runs.{last_number}
use Rattle.tracing_tree_lines.specs.Lines.SoFar.{GoesOver, RunsHeld, RunsSome, counted}
use Rattle.tracing_tree_lines.specs.Lines.Steps.{JudgesLine, ShowsAndJudges}
use Rattle.tracing_tree_lines.specs.declared.lines.Judged.{Judged}
use Rattle.tracing_tree_lines.specs.declared.lines.Judged.TheVariants.{End, Skipped, Accepted}
use Rattle.tracing_tree_lines.specs.declared.lines.LineCause.{LineCause}
use Rattle.tracing_tree_lines.specs.declared.lines.Progress.{Progress}
use Rattle.tracing_tree_lines.proofs.LineEnds.{held_line, is_end}
use Rattle.tracing_tree_lines.proofs.LineRuns.{goes_on, ends_at, ends_input, shown_first}

-- ---- one line

-- the outcome of this line wherever it comes first
abbrev pub JudgesFirst : {W FT : Type 0} → (LayeredView W FT → Seen) → List ℕ → Result Judged LineCause → LayeredView W FT → LayeredView W FT → Type 0
JudgesFirst see line result old new = (known left : Option (List ℕ)) → TakesLine known left line → Changes see (JudgesLine known left result) old new

-- the line at this place of the held bytes is the first of what is left there
line_at : (held : List ℕ) (inner : Option (List ℕ)) (start n : ℕ) → position is_end (drop start held) ≡ Some n →
    TakesLine (prepend_known (drop start held) inner) (prepend_known (drop (start + n + 1) held) inner) (slice_range held start (start + n))
line_at held inner start n found =
    let line : take n (drop start held) ≡ slice_range held start (start + n) = ap (λ k. take k (drop start held)) (omega arith) in
    let later : drop (n + 1) (drop start held) ≡ drop (start + n + 1) held = drop-drop (n + 1) start held ∙ ap (λ k. drop k held) (omega arith) in
    subst (λ rest. TakesLine (prepend_known (drop start held) inner) (prepend_known rest inner) (slice_range held start (start + n))) later
    (subst (TakesLine (prepend_known (drop start held) inner) (prepend_known (drop (n + 1) (drop start held)) inner)) line
    (held_line (drop start held) inner n found))

-- the place of the next line end, relative to the start
pub found_at : (held : List ℕ) (start n : ℕ) (found : Option ℕ) → found ≡ position is_end (slice_range held start (length held)) → found ≡ Some n →
    position is_end (drop start held) ≡ Some n
found_at held start n found is some =
    let all : slice_range held start (length held) ≡ drop start held =
    ap (λ k. take k (drop start held)) (sym (length-drop start held)) ∙ take-length (drop start held) in
    sym (ap (position is_end) all) ∙ sym is ∙ some

-- ---- held bytes as a string

-- bytes that are one string can be cut at their start
pub whole_text : {T E : Type 0} (now : T → List ℕ) (checked : Result T E) (held : List ℕ) →
    MatchResult checked (λ text. (now text ≡ held) × IsUtf8 held) (λ e. ¬ (IsUtf8 held)) →
    IfSome (result_ok checked) (λ text. (now text ≡ held) × IsUtf8 held × IsCharBoundary held 0)
whole_text now (Ok text) held checked = (checked.0, checked.1, IsCharBoundary-start held checked.1)
whole_text now (Err error) held checked = tt

-- the end of the line at this place of the held bytes
record LineEnd (held : List ℕ) (place : ℕ) : Type 0 where
  inside : place < length held
  is_low : get_or held place 0 < 128

line_end : (held : List ℕ) (start n : ℕ) → position is_end (drop start held) ≡ Some n → LineEnd held (start + n)
line_end held start n found =
    let p = position-Some is_end (drop start held) n 0 found in
    let ten : get_or held (start + n) 0 ≡ 10 = sym (get_or-drop start held n 0) ∙ eqb-true (get_or (drop start held) n 0) 10 p.1 in
    record { inside = omega (arith, p.0, length-drop start held); is_low = omega (arith, ten) }

-- the string can be cut at the end of a line, and after the line end
pub cut_at_end : {T : Type 0} (now : T → List ℕ) (whole : Option T) (held : List ℕ) (start n : ℕ) → position is_end (drop start held) ≡ Some n →
    IfSome whole (λ text. (now text ≡ held) × IsUtf8 held × IsCharBoundary held start) →
    IfSome whole (λ text. (now text ≡ held) × IsCharBoundary held start × IsCharBoundary held (start + n))
cut_at_end now None held start n found cut = tt
cut_at_end now (Some text) held start n found cut =
    let e = line_end held start n found in
    (cut.0, cut.2, IsCharBoundary-before_ascii held (start + n) e.inside e.is_low)

pub cut_after_end : {T : Type 0} (now : T → List ℕ) (whole : Option T) (held : List ℕ) (start n : ℕ) → position is_end (drop start held) ≡ Some n →
    IfSome whole (λ text. (now text ≡ held) × IsUtf8 held × IsCharBoundary held start) →
    IfSome whole (λ text. (now text ≡ held) × IsUtf8 held × IsCharBoundary held (start + n + 1))
cut_after_end now None held start n found cut = tt
cut_after_end now (Some text) held start n found cut =
    let e = line_end held start n found in
    (cut.0, cut.1, IsCharBoundary-after_ascii held (start + n) cut.1 e.inside e.is_low)

-- the place after the line end is within the held bytes
pub place_after_end : (held : List ℕ) (start n : ℕ) → position is_end (drop start held) ≡ Some n → start + n + 1 ≤ length held
place_after_end held start n found = omega (arith, (line_end held start n found).inside)

-- ---- counts

-- a counted line more
pub counted_number : (judged : Judged) (run : Progress) → (counted judged run).number ≡ run.number + 1
counted_number End run = refl
counted_number Skipped run = refl
counted_number Accepted run = refl

pub counted_room : (judged : Judged) (run : Progress) → run.accepted + 2 ≤ run.number → run.number < last_number →
    ((counted judged run).accepted + 2 ≤ (counted judged run).number) × ((counted judged run).number ≤ last_number)
counted_room End run room below = (omega (arith, room), omega (arith, below))
counted_room Skipped run room below = (omega (arith, room), omega (arith, below))
counted_room Accepted run room below = (omega (arith, room), omega (arith, below))

-- after one more line the run is further on
pub onward : (start first number next : ℕ) → (0 < start → first < number) → (start ≡ 0 → number ≡ first) → next ≡ number + 1 → first < next
onward zero first number next some none more = omega (arith, none refl, more)
onward (suc start) first number next some none more = omega (arith, some (omega arith), more)

-- ---- the held lines

module _ {W FT : Type 0} (see : LayeredView W FT → Seen) where
  -- no line is judged yet
  pub none_held : (held : List ℕ) (run : Progress) (now : LayeredView W FT) → RunsHeld see held run run (Ok 0) now now
  none_held held run now = λ known inner first so_far. so_far

  -- one line more, that doesn't end the run
  pub held_more : (held : List ℕ) (before run : Progress) (start n : ℕ) (judged : Judged) → position is_end (drop start held) ≡ Some n → (judged ≡ End → ⊥) →
      (old now next : LayeredView W FT) → RunsHeld see held before run (Ok start) old now → JudgesFirst see (slice_range held start (start + n)) (Ok judged) now next →
      RunsHeld see held before (counted judged run) (Ok (start + n + 1)) old next
  held_more held before run start n judged found more old now next so_far line = λ known inner first from.
      goes_on see known _ _ run judged more first now next (so_far known inner first from) (line _ _ (line_at held inner start n found))

  -- a line that ends the run
  pub held_ends : (held : List ℕ) (before run : Progress) (start n : ℕ) (cause : LineCause) → position is_end (drop start held) ≡ Some n → run.number < last_number →
      (old now next : LayeredView W FT) → RunsHeld see held before run (Ok start) old now → JudgesFirst see (slice_range held start (start + n)) (Err cause) now next →
      RunsHeld see held before run (Err cause) old next
  held_ends held before run start n cause found below old now next so_far line = λ known inner first from.
      ends_at see known _ _ run.accepted run.number cause below first now next (so_far known inner first from) (line _ _ (line_at held inner start n found))

-- ---- what the buffer holds, and what follows

-- what is left are the held bytes, and what is unread
split : (held rest : List ℕ) (unread : Option (List ℕ)) → prepend_known (held ++ rest) unread ≡ prepend_known held (prepend_known rest unread)
split held rest None = refl
split held rest (Some more) = ap Some (append_assoc held rest more)

-- The whole lines `held` and a part of a line (`rest`) are in the buffer, and `known` is left of
-- the input.
pub record IsInput (known : Option (List ℕ)) (held rest : List ℕ) : Type 0 where
  pub unread : Option (List ℕ)
  pub is : known ≡ prepend_known held (prepend_known rest unread)

pub is_input : (known : Option (List ℕ)) (buffer held rest : List ℕ) → HoldsFront buffer known → buffer ≡ held ++ rest → IsInput known held rest
is_input known buffer held rest front holds = record {
  unread = front.unread;
  is = front.front ∙ ap (λ bytes. prepend_known bytes front.unread) holds ∙ split held rest front.unread;
}

module _ {W FT : Type 0} (see : LayeredView W FT → Seen) where
  -- the held lines that were judged are consumed
  pub consumed : (middle left : Option (List ℕ)) (buffer held rest : List ℕ) (before after : Progress) (judged : ℕ) →
      HoldsFront buffer middle → buffer ≡ held ++ rest → judged ≤ length held → DropsHeld judged buffer middle left →
      (first now : LayeredView W FT) → RunsHeld see held before after (Ok judged) first now → RunsSome see middle left before after (Ok true) first now
  consumed middle left buffer held rest before after judged front holds within drops first now ran =
      let unread = front.unread in
      let from_is : middle ≡ prepend_known held (prepend_known rest unread) = front.front ∙ ap (λ bytes. prepend_known bytes unread) holds ∙ split held rest unread in
      let inside : judged ≤ length buffer = omega (arith, within, ap length holds ∙ length-append held rest) in
      let is : left ≡ prepend_known (drop judged held) (prepend_known rest unread) =
      drops inside unread front.front ∙ ap (λ bytes. prepend_known bytes unread) (ap (drop judged) holds ∙ drop-append-le judged held rest within) ∙ split (drop judged held) rest unread in
      λ known start from. subst (λ l. GoesOver see known l after.accepted after.number start now) (sym is)
      (ran known (prepend_known rest unread) start
      (subst (λ l. GoesOver see known l before.accepted before.number start first) from_is from))

  -- a held line ended the run
  pub held_fault : (middle left : Option (List ℕ)) (held rest : List ℕ) (before after : Progress) (cause : LineCause) →
      IsInput middle held rest → (first now : LayeredView W FT) → RunsHeld see held before after (Err cause) first now →
      RunsSome see middle left before after (Err cause) first now
  held_fault middle left held rest before after cause input first now ran =
      λ known start from. ran known (prepend_known rest input.unread) start
      (subst (λ l. GoesOver see known l before.accepted before.number start first) input.is from)

  -- no held line was judged
  none_judged : (middle : Option (List ℕ)) (held rest : List ℕ) (before after : Progress) →
      IsInput middle held rest → (first now : LayeredView W FT) → RunsHeld see held before after (Ok 0) first now →
      RunsSome see middle middle before after (Ok true) first now
  none_judged middle held rest before after input first now ran =
      λ known start from. subst (λ l. GoesOver see known l after.accepted after.number start now) (sym input.is)
      (ran known (prepend_known rest input.unread) start
      (subst (λ l. GoesOver see known l before.accepted before.number start first) input.is from))

  -- ---- the next line, if no line was held

  -- it doesn't end the run
  pub next_more : (middle left : Option (List ℕ)) (held rest : List ℕ) (before run : Progress) (judged : Judged) →
      IsInput middle held rest → (judged ≡ End → ⊥) → (first now next : LayeredView W FT) → RunsHeld see held before run (Ok 0) first now →
      ShowsAndJudges see middle left (Ok judged) now next →
      RunsSome see middle left before (counted judged run) (Ok true) first next
  next_more middle left held rest before run judged input more first now next ran line = λ known start from.
      shown_first see known middle left run.accepted run.number (Ok judged) (goes_on see known middle left run judged more) start now next
      (none_judged middle held rest before run input first now ran known start from) line

  -- no line is left
  pub next_none : (middle left : Option (List ℕ)) (held rest : List ℕ) (before run : Progress) →
      IsInput middle held rest → run.number < last_number → (first now next : LayeredView W FT) → RunsHeld see held before run (Ok 0) first now →
      ShowsAndJudges see middle left (Ok End) now next →
      RunsSome see middle left before run (Ok false) first next
  next_none middle left held rest before run input below first now next ran line = λ known start from.
      shown_first see known middle left run.accepted run.number (Ok End) (ends_input see known middle left run.accepted run.number below) start now next
      (none_judged middle held rest before run input first now ran known start from) line

  -- it ends the run
  pub next_fault : (middle left : Option (List ℕ)) (held rest : List ℕ) (before run : Progress) (cause : LineCause) →
      IsInput middle held rest → run.number < last_number → (first now next : LayeredView W FT) → RunsHeld see held before run (Ok 0) first now →
      ShowsAndJudges see middle left (Err cause) now next →
      RunsSome see middle left before run (Err cause) first next
  next_fault middle left held rest before run cause input below first now next ran line = λ known start from.
      shown_first see known middle left run.accepted run.number (Err cause) (ends_at see known middle left run.accepted run.number cause below) start now next
      (none_judged middle held rest before run input first now ran known start from) line
