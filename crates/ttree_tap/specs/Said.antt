-- What lines of TAP say: which of them are results, and what the others are.
use Rattle.std.specs.Prelude.{ℕ, ◌-◌, ◌==◌, ◌&&◌, ◌||◌, Bool, true, false, not, if◌then◌else◌, List, [], ◌∷◌, ◌++◌, flat_map, length, Option, Some, None, is_some, codes, bytes_eq}
use Rattle.std.specs.List.{list_any}
use Rattle.std.specs.Str.{is_utf8}
use Rattle.tracing_tree_base.specs.declared.style.Level.{Level}
use Rattle.tracing_tree_lines.specs.Lines.Spelled.{is_skipped}
use Rattle.ttree_source.specs.Counts.{one_more}
use Rattle.ttree_source.specs.Marks.{after_mark, is_empty}
use Rattle.ttree_tap.specs.declared.line.Kind.{Kind}
use Rattle.ttree_tap.specs.declared.line.Kind.TheVariants.{Passing, Failing, Plan, BailOut, Heading as HeadingLine, Comment as CommentLine, Frame, Brace, Output as OutputLine}
use Rattle.ttree_tap.specs.declared.tally.Tally.{Tally}
use Rattle.ttree_tap.specs.declared.tally.Verdict.{Verdict}
use Rattle.ttree_tap.specs.declared.tally.Verdict.TheVariants.{Passed, Failed, Skipped, Todo}
use Rattle.ttree_tap.specs.declared.tap.Mode.{Mode}
use Rattle.ttree_tap.specs.declared.tap.Mode.TheVariants.{Start, Script, File, Judged, Summary, Over, Bailed}
use Rattle.ttree_tap.specs.declared.tap.prove.Part.{Part}
use Rattle.ttree_tap.specs.declared.tap.prove.Part.TheVariants.{File as FileLine, Verdict as VerdictLine, Stamp as StampLine, Summary as SummaryLine, Line}
use Rattle.ttree_tap.specs.Line.{comment_of, ends_summary, is_braced, kind_of_line, name_of_file, plan_reason, planned, tail_of_file, verdict_level}
use Rattle.ttree_tap.specs.Strings.{first_part, rest_after, unescaped, without_end, without_leading}
use Rattle.ttree_tap.specs.Tally.{verdict_of}
use Rattle.ttree_tap.specs.Tap.{part_of}
use Rattle.ttree_tap.specs.Texts.{begins_block, directive_in, duration_of, reason_in, result_name}

-- a result: whether it is `ok`, and what follows that
pub record TapResult : Type 0 where
  pub is_ok : Bool
  pub rest : List ℕ

-- skipped and TODO come first: such a result doesn't fail
abbrev pub outcome_of : TapResult → Verdict
outcome_of result = verdict_of result.is_ok (directive_in result.rest)

abbrev pub description_of : TapResult → List ℕ
description_of result = unescaped (result_name result.rest)

abbrev pub why : TapResult → List ℕ
why result = unescaped (reason_in result.rest)

-- What a line says: a result; that a plan skips everything, and why; a comment; a line in the block
-- of a result; another line that a test printed; that the tests end here; what prove says of a file;
-- or the last line of prove's summary.
pub data Said : Type 0 where
  Test : TapResult → Said
  SkipsAll : List ℕ → Said
  Remark : List ℕ → Said
  Detail : List ℕ → Said
  Printed : List ℕ → Said
  BailsOut : List ℕ → Said
  Judgement : Level → List ℕ → Said
  SummaryEnd : List ℕ → Said

-- ---- where a line is

-- A result that a block may follow, or whose block has begun: its column, and the spaces before the
-- lines of the block.
pub record Block : Type 0 where
  pub column : ℕ
  pub margin : List ℕ
  pub result : TapResult

-- What the lines so far leave: which part of the output this is, the file that prove runs, and the
-- result in the line before or whose block has begun.
pub record Place : Type 0 where
  pub mode : Mode
  pub file : List ℕ
  pub block : Option Block

abbrev pub at_start : Place
at_start = record { mode = Start; file = []; block = None }

-- what a line says, and the place after it
pub record LineRead : Type 0 where
  pub said : List Said
  pub place : Place

abbrev pub silent : Place → LineRead
silent place = record { said = []; place = place }

abbrev pub saying : Said → Place → LineRead
saying said place = record { said = said ∷ []; place = place }

-- ---- lines of TAP

abbrev pub is_of_tap : Kind → Bool
is_of_tap Passing = true
is_of_tap Failing = true
is_of_tap Plan = true
is_of_tap BailOut = true
is_of_tap HeadingLine = true
is_of_tap Frame = true
is_of_tap CommentLine = false
is_of_tap Brace = false
is_of_tap OutputLine = false

-- a script begins with its first line of TAP, unless prove has named a file
abbrev pub mode_with : Mode → Kind → Mode
mode_with Start kind = if is_of_tap kind then Script else Start
mode_with Over kind = if is_of_tap kind then Script else Over
mode_with Script kind = Script
mode_with File kind = File
mode_with Judged kind = Judged
mode_with Summary kind = Summary
mode_with Bailed kind = Bailed

-- a result is said after its block, as it is shown
abbrev pub result_read : Bool → ℕ → List ℕ → Place → LineRead
result_read is_ok column rest place =
    silent (record place {
      block = Some (record {
        column = column;
        margin = [];
        result = record { is_ok = is_ok; rest = rest };
      });
    })

abbrev pub plan_read : List ℕ → Place → LineRead
plan_read inner place =
    if planned inner == 0 then saying (SkipsAll (unescaped (plan_reason inner))) place
    else silent place

-- a line of this kind and in this column; `inner` is the line without its indentation
abbrev pub kind_read : Kind → ℕ → List ℕ → List ℕ → Place → LineRead
kind_read Passing column text inner place =
    result_read true column (rest_after (codes "ok") inner) place
kind_read Failing column text inner place =
    result_read false column (rest_after (codes "not ok") inner) place
kind_read Plan column text inner place = plan_read inner place
kind_read BailOut column text inner place = saying (BailsOut inner) (record place { mode = Bailed })
kind_read HeadingLine column text inner place = silent place
kind_read CommentLine column text inner place = saying (Remark (comment_of inner)) place
kind_read Frame column text inner place = silent place
kind_read Brace column text inner place = saying (Printed text) place
kind_read OutputLine column text inner place = saying (Printed text) place

-- ---- lines of prove

abbrev pub verdict_read : Level → List ℕ → Place → LineRead
verdict_read level text place = saying (Judgement level text) (record place { mode = Judged })

abbrev pub tail_read : Option Level → List ℕ → Place → LineRead
tail_read (Some level) text place = verdict_read level text place
tail_read None text place = silent place

abbrev pub in_file : List ℕ → Place → Place
in_file name place =
    if bytes_eq place.file name then place else record place { mode = File; file = name }

abbrev pub file_read : List ℕ → Place → LineRead
file_read text place =
    let tail : List ℕ = without_end (codes " ") (tail_of_file text) in
    tail_read (verdict_level tail) tail (in_file (name_of_file text) place)

abbrev pub part_read : Part → List ℕ → List ℕ → Place → LineRead
part_read FileLine text inner place = file_read text place
part_read (VerdictLine level) text inner place =
    verdict_read level (without_end (codes " ") text) place
part_read StampLine text inner place = silent place
part_read SummaryLine text inner place = silent (record place { mode = Summary; file = [] })
part_read Line text inner place =
    let kind : Kind = kind_of_line inner in
    kind_read kind (length text - length inner) text inner
    (record place { mode = mode_with place.mode kind })

-- a line that isn't in a block; one of only spaces says nothing
abbrev pub next_read : List ℕ → Place → LineRead
next_read text place =
    if is_empty (without_leading 32 text) then silent place
    else part_read (part_of place.mode text) text (without_leading 32 text) place

-- ---- blocks

abbrev pub with_block : Block → Place → Place
with_block block place = record place { block = Some block }

abbrev pub after_result : Block → LineRead → LineRead
after_result block read = record read { said = Test block.result ∷ read.said }

-- a line of a block without its margin: the block ends with `...`, and the time isn't a detail
abbrev pub inside_read : Block → List ℕ → Place → LineRead
inside_read block rest place =
    if bytes_eq rest (codes "...") then saying (Test block.result) place
    else record {
      said = if is_some (duration_of rest) then [] else Detail rest ∷ [];
      place = with_block block place;
    }

-- a line that isn't as deep as the block: the block is truncated, unless the line is blank
abbrev pub outside_read : Block → List ℕ → Place → LineRead
outside_read block text place =
    if is_empty (without_leading 32 text) then saying (Detail []) (with_block block place)
    else after_result block (next_read text place)

abbrev pub block_read : Block → List ℕ → Option (List ℕ) → Place → LineRead
block_read block text (Some rest) place = inside_read block rest place
block_read block text None place = outside_read block text place

-- the line after a result, or a line after `---`
abbrev pub after_read : Block → List ℕ → Place → LineRead
after_read block text place =
    if not (is_empty block.margin) then block_read block text (after_mark block.margin text) place
    else if begins_block block.column text
    then silent (with_block (record block { margin = first_part 45 text }) place)
    else after_result block (next_read text place)

abbrev pub text_read : Option Block → List ℕ → Place → LineRead
text_read (Some block) text place = after_read block text place
text_read None text place = next_read text place

-- ---- all lines

abbrev pub summary_read : List ℕ → Place → LineRead
summary_read text place =
    if ends_summary text
    then saying (SummaryEnd text) (record place { mode = Over })
    else silent place

-- nothing comes after `Bail out!`, and prove's summary says nothing but its last line
abbrev pub read_in : Mode → List ℕ → Place → LineRead
read_in Bailed text place = silent place
read_in Summary text place = summary_read text place
read_in Start text place = text_read place.block text (record place { block = None })
read_in Over text place = text_read place.block text (record place { block = None })
read_in Script text place = text_read place.block text (record place { block = None })
read_in File text place = text_read place.block text (record place { block = None })
read_in Judged text place = text_read place.block text (record place { block = None })

abbrev pub has_begun : Option Block → Bool
has_begun (Some block) = not (is_empty block.margin)
has_begun None = false

-- a blank line says nothing, unless it is in a block; nor does one that isn't UTF-8
abbrev pub line_read : List ℕ → Place → LineRead
line_read line place =
    if is_utf8 line
    then (if is_skipped line && not (has_begun place.block) then silent place
    else read_in place.mode (without_end (codes "\r") line) place)
    else silent place

abbrev pub said_at_end : Option Block → List Said
said_at_end (Some block) = Test block.result ∷ []
said_at_end None = []

-- what lines say, one after another
abbrev pub said_from : Place → List (List ℕ) → List Said
said_from place [] = said_at_end place.block
said_from place (line ∷ lines) =
    (line_read line place).said ++ said_from (line_read line place).place lines

abbrev pub said_by : List (List ℕ) → List Said
said_by lines = said_from at_start lines

abbrev pub result_in : Said → List TapResult
result_in (Test result) = result ∷ []
result_in (SkipsAll reason) = []
result_in (Remark text) = []
result_in (Detail text) = []
result_in (Printed text) = []
result_in (BailsOut text) = []
result_in (Judgement level text) = []
result_in (SummaryEnd text) = []

-- the results of lines of TAP, in order
abbrev pub results_of : List (List ℕ) → List TapResult
results_of lines = flat_map result_in (said_by lines)

-- a result that ends with ` {`, and so may open a subtest in braces
abbrev pub opens_brace : Option Block → Bool
opens_brace (Some block) = is_braced block.result.rest
opens_brace None = false

abbrev pub has_braces_from : Place → List (List ℕ) → Bool
has_braces_from place [] = false
has_braces_from place (line ∷ lines) =
    opens_brace (line_read line place).place.block
    || has_braces_from (line_read line place).place lines

abbrev pub has_braces : List (List ℕ) → Bool
has_braces lines = has_braces_from at_start lines

-- ---- counts

-- only a result that is neither skipped nor TODO fails
abbrev pub is_failure : Verdict → Bool
is_failure Failed = true
is_failure Passed = false
is_failure Skipped = false
is_failure Todo = false

abbrev pub some_failed : List TapResult → Bool
some_failed results = list_any (λ result. is_failure (outcome_of result)) results

pub record Outcomes : Type 0 where
  pub passed : ℕ
  pub failed : ℕ
  pub skipped : ℕ
  pub todo : ℕ

abbrev pub outcomes_in : Tally → Outcomes
outcomes_in tally = record {
  passed = tally.passed;
  failed = tally.failed;
  skipped = tally.skipped;
  todo = tally.todo;
}

abbrev pub no_outcomes : Outcomes
no_outcomes = record { passed = 0; failed = 0; skipped = 0; todo = 0 }

abbrev pub outcome_counted : Verdict → Outcomes → Outcomes
outcome_counted Passed counts = record counts { passed = one_more counts.passed }
outcome_counted Failed counts = record counts { failed = one_more counts.failed }
outcome_counted Skipped counts = record counts { skipped = one_more counts.skipped }
outcome_counted Todo counts = record counts { todo = one_more counts.todo }

-- how many results there are of each outcome
abbrev pub counted : List TapResult → Outcomes → Outcomes
counted [] counts = counts
counted (result ∷ others) counts = counted others (outcome_counted (outcome_of result) counts)
