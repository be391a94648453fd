-- What lines of real samples say, and what doesn't show them.
use Rattle.std.proofs.Common.{◌≡◌, ℕ, true, false, List, [], ◌∷◌, refl, codes}
use Rattle.std.specs.Char.{encode_utf8}
use Rattle.std.specs.Str.{chars, is_utf8}
use Rattle.tracing_tree_base.specs.declared.style.Level.TheVariants.{Info}
use Rattle.ttree_tap.specs.Line.{directive_of, kind_of_line, verdict_level}
use Rattle.ttree_tap.specs.Strings.{same_word}
use Rattle.ttree_tap.specs.Said.{Said.Test, Said.Detail, Said.Remark, Said.Judgement, TapResult, counted, has_braces, no_outcomes, results_of, said_by, some_failed}

abbrev passing : List ℕ → TapResult
passing rest = record { is_ok = true; rest = rest }

abbrev failing : List ℕ → TapResult
failing rest = record { is_ok = false; rest = rest }

-- lines of node: a block is said before its result, and its time isn't said
pub results_of_node :
    said_by (codes "# Subtest: adds" ∷ codes "ok 1 - adds" ∷ codes "  ---" ∷ codes "  duration_ms: 3.366627" ∷ codes "  ..." ∷ codes "not ok 3 - fails"
    ∷ codes "  ---" ∷ codes "  error: 'x'" ∷ codes "  ok 9" ∷ codes "  ..." ∷ codes "1..2" ∷ [])
    ≡ Test (passing (codes " 1 - adds")) ∷ Detail (codes "error: 'x'") ∷ Detail (codes "ok 9") ∷ Test (failing (codes " 3 - fails")) ∷ []
unfolding chars is_utf8 encode_utf8 kind_of_line directive_of same_word
results_of_node = refl

-- lines of prove: a bare `ok` is its verdict
pub results_of_prove :
    said_by (codes "t/basic.t ... " ∷ codes "ok 1 - loads" ∷ codes "not ok 2 - adds" ∷ codes "# a note" ∷ codes "    ok 1 - in outer" ∷ codes "1..3" ∷ codes "ok" ∷ [])
    ≡ Test (passing (codes " 1 - loads")) ∷ Test (failing (codes " 2 - adds")) ∷ Remark (codes "a note") ∷ Test (passing (codes " 1 - in outer"))
    ∷ Judgement Info (codes "ok") ∷ []
unfolding chars is_utf8 encode_utf8 kind_of_line directive_of same_word verdict_level
results_of_prove = refl

-- nothing is a result after `Bail out!`
pub no_result_after_bail_out : results_of (codes "ok 1" ∷ codes "Bail out! no" ∷ codes "not ok 2" ∷ []) ≡ passing (codes " 1") ∷ []
unfolding chars is_utf8 encode_utf8 kind_of_line directive_of same_word
no_result_after_bail_out = refl

pub outcomes_of_results :
    counted (results_of (codes "ok 1" ∷ codes "not ok 2 - a" ∷ codes "ok 3 - later # TODO" ∷ codes "not ok 4 - b # TODO not yet" ∷ codes "not ok 5 # SKIP no disk" ∷ [])) no_outcomes
    ≡ record { passed = 1; failed = 1; skipped = 1; todo = 2 }
unfolding chars is_utf8 encode_utf8 kind_of_line directive_of same_word
outcomes_of_results = refl

pub todo_is_no_failure : some_failed (results_of (codes "ok 1" ∷ codes "not ok 2 - b # TODO not yet" ∷ [])) ≡ false
unfolding chars is_utf8 encode_utf8 kind_of_line directive_of same_word
todo_is_no_failure = refl

pub a_brace : has_braces (codes "ok 1 - a {" ∷ codes "    ok 1 - b" ∷ []) ≡ true
unfolding chars is_utf8 encode_utf8 kind_of_line directive_of same_word
a_brace = refl
