-- How results end, and the counts of their ends.
use Rattle.std.specs.Prelude.{ℕ, ◌+◌, ◌==◌, ◌||◌, pos, Bool, true, false, not, if◌then◌else◌, List, [], ◌∷◌, codes}
use Rattle.tracing_tree_base.specs.Field.{whole_field}
use Rattle.tracing_tree_base.specs.declared.field.Field.{Field}
use Rattle.tracing_tree_base.specs.declared.style.Level.{Level}
use Rattle.tracing_tree_base.specs.declared.style.Level.TheVariants.{Error, Info, Warn}
use Rattle.ttree_source.specs.Counts.{one_more}
use Rattle.ttree_tap.specs.declared.line.Directive.{Directive}
use Rattle.ttree_tap.specs.declared.line.Directive.TheVariants.{Absent, Skip, Todo as TodoNote, Time}
use Rattle.ttree_tap.specs.declared.tally.Tally.{Tally}
use Rattle.ttree_tap.specs.declared.tally.Verdict.{Verdict}
use Rattle.ttree_tap.specs.declared.tally.Verdict.TheVariants.{Passed, Failed, Skipped, Todo}

abbrev pub no_counts : Tally
no_counts = record { passed = 0; failed = 0; skipped = 0; todo = 0; is_broken = false }

-- a result that is skipped or a TODO doesn't fail
abbrev pub verdict_of : Bool → Directive → Verdict
verdict_of is_ok Skip = Skipped
verdict_of is_ok TodoNote = Todo
verdict_of is_ok Time = if is_ok then Passed else Failed
verdict_of is_ok Absent = if is_ok then Passed else Failed

abbrev pub verdict_word : Verdict → List ℕ
verdict_word Passed = codes "pass"
verdict_word Failed = codes "fail"
verdict_word Skipped = codes "skip"
verdict_word Todo = codes "todo"

abbrev pub level_of_verdict : Verdict → Level
level_of_verdict Passed = Info
level_of_verdict Failed = Error
level_of_verdict Skipped = Warn
level_of_verdict Todo = Warn

-- each result is counted once, by its verdict
abbrev pub counted_tally : Verdict → Tally → Tally
counted_tally Passed t = record t { passed = one_more t.passed }
counted_tally Failed t = record t { failed = one_more t.failed }
counted_tally Skipped t = record t { skipped = one_more t.skipped }
counted_tally Todo t = record t { todo = one_more t.todo }

abbrev pub broken_tally : Tally → Tally
broken_tally t = record t { is_broken = true }

-- a result is a failure, or something other than a result is
abbrev pub tally_has_failure : Tally → Bool
tally_has_failure t = t.is_broken || not (t.failed == 0)

abbrev pub total_of : Tally → ℕ
total_of t = t.passed + t.failed + t.skipped + t.todo

abbrev pub tally_fields : Tally → List Field
tally_fields t =
    whole_field (codes "passed") (pos t.passed) ∷ whole_field (codes "failed") (pos t.failed)
    ∷ whole_field (codes "skipped") (pos t.skipped) ∷ whole_field (codes "todo") (pos t.todo) ∷ []
