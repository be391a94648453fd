-- Each line of TAP is shown once.
use Rattle.std.specs.Prelude.{◌≡◌, ◌⊎◌, ℕ, ◌||◌, Bool, true, false, List, [], ◌∷◌, flat_map, Option, Some, codes, decimal, ⊤}
use Rattle.tracing_tree_base.specs.declared.field.Field.{Field}
use Rattle.tracing_tree_base.specs.declared.style.Level.TheVariants.{Error, Info, Warn}
use Rattle.ttree_source.specs.Calls.{message_field, shown_text}
use Rattle.ttree_tap.specs.Line.{is_count, is_result}
use Rattle.ttree_tap.specs.Strings.{unescaped, without_margin}
use Rattle.ttree_tap.specs.Tally.{level_of_verdict}
use Rattle.ttree_tap.specs.Texts.{end_text, result_end_fields}
use Rattle.ttree_tap.specs.Rows.{Row}
use Rattle.ttree_tap.specs.Said.{Said, Said.Test, Said.SkipsAll, Said.Remark, Said.Detail, Said.Printed, Said.BailsOut, Said.Judgement, Said.SummaryEnd, TapResult, description_of, outcome_of, why}

-- ---- rows

-- What follows the outcome's word: the description; nothing, in a span with the description as its
-- name; or a number if there is no description.
abbrev pub Names : List ℕ → List ℕ → Option (List ℕ) → Type 0
Names description label inside =
    (label ≡ description) ⊎ ((label ≡ []) × (inside ≡ Some (shown_text description)))
    ⊎ ((description ≡ []) × ((number : ℕ) × (label ≡ decimal number)))

-- the row of a result: its outcome, its description, why it is skipped or TODO, and its time
pub record ShowsResult (result : TapResult) (row : Row) : Type 0 where
  pub level : row.level ≡ level_of_verdict (outcome_of result)
  pub label : List ℕ
  pub time : List ℕ
  pub fields : row.fields ≡ message_field (end_text (outcome_of result) label)
      ∷ result_end_fields (why result) time
  pub names : Names (description_of result) label row.inside

abbrev pub ShowsText : List ℕ → Row → Type 0
ShowsText text row = row.fields ≡ message_field text ∷ []

-- the row that shows what a line says
abbrev pub Shows : Said → Row → Type 0
Shows (Test result) row = ShowsResult result row
Shows (SkipsAll reason) row =
    (row.level ≡ Warn) × (row.fields ≡ message_field (codes "skip") ∷ result_end_fields reason [])
Shows (Remark text) row = (row.level ≡ Info) × ShowsText (unescaped text) row
Shows (Detail text) row = (row.level ≡ Info) × ShowsText text row
Shows (Printed text) row =
    (row.level ≡ Info) × ((margin : ℕ) × ShowsText (without_margin margin text) row)
Shows (BailsOut text) row = (row.level ≡ Error) × ShowsText text row
Shows (Judgement level text) row =
    (row.level ≡ level) × ((shown : List ℕ) × (rest : List Field)
    × (row.fields ≡ message_field shown ∷ rest) × ((shown ≡ text) ⊎ (shown ≡ codes "ok")))
Shows (SummaryEnd text) row = (row.level ≡ Error) × ShowsText text row

-- a count of a reporter, and the last line of prove's summary, may have no row
abbrev pub may_be_omitted : Said → Bool
may_be_omitted (Test result) = false
may_be_omitted (SkipsAll reason) = false
may_be_omitted (Remark text) = is_count text
may_be_omitted (Detail text) = false
may_be_omitted (Printed text) = false
may_be_omitted (BailsOut text) = false
may_be_omitted (Judgement level text) = false
may_be_omitted (SummaryEnd text) = true

-- what begins with the word of an outcome is the row of a result
abbrev pub is_of_result : List ℕ → Bool
is_of_result text =
    is_result (codes "pass") text || is_result (codes "fail") text
    || is_result (codes "skip") text || is_result (codes "todo") text

-- ---- the law

-- A row shows what a line says; or a line has no row; or a row adds an error, as that a plan isn't
-- met.
pub data Item : Type 0 where
  Shown : Said → Row → Item
  Omitted : Said → Item
  Added : List ℕ → Row → Item

abbrev pub said_in : Item → List Said
said_in (Shown said row) = said ∷ []
said_in (Omitted said) = said ∷ []
said_in (Added text row) = []

abbrev pub row_in : Item → List Row
row_in (Shown said row) = row ∷ []
row_in (Omitted said) = []
row_in (Added text row) = row ∷ []

abbrev pub IsRight : Item → Type 0
IsRight (Shown said row) = Shows said row
IsRight (Omitted said) = may_be_omitted said ≡ true
IsRight (Added text row) =
    (row.level ≡ Error) × ShowsText text row × (is_of_result text ≡ false)

abbrev pub AllRight : List Item → Type 0
AllRight [] = ⊤
AllRight (item ∷ items) = IsRight item × AllRight items

-- The rows show what the lines say, in the same order: nothing is lost, and nothing is there twice.
-- Each other row is an error, and doesn't look like a result.
pub record ShowsEachOnce (said : List Said) (rows : List Row) : Type 0 where
  pub items : List Item
  pub rows_are : flat_map row_in items ≡ rows
  pub said_is : flat_map said_in items ≡ said
  pub right : AllRight items
