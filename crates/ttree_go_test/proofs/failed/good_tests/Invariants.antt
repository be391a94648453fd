use Rattle.std.proofs.Common.{◌≡◌, ℕ, List, length}
use Rattle.std.specs.Prelude.{◌||◌}
use Rattle.std.specs.BTreeSet.{contains_text}
use Rattle.ttree_go_test.specs.Failed.{is_good, someone_says}
use Rattle.ttree_go_test.proofs.failed.good_tests.Given as goal

-- a test is in the set or the rest says it
abbrev pub invariant-loop-rest : goal.invariant-loop-rest
invariant-loop-rest l = (test : List ℕ) → (contains_text l.good test || someone_says is_good l.rest test) ≡ someone_says is_good l.fn.kept test

abbrev pub decreases-loop-rest : goal.decreases-loop-rest
decreases-loop-rest l = length l.rest
