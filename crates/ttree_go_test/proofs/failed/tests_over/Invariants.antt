use Rattle.std.proofs.Common.{◌≡◌, ℕ, List, length}
use Rattle.std.specs.Prelude.{◌&&◌, not}
use Rattle.std.specs.BTreeSet.{contains_text}
use Rattle.ttree_go_test.specs.Failed.{is_bad, is_over, someone_says}
use Rattle.ttree_go_test.proofs.failed.tests_over.Given as goal

-- a test is in the set and the rest doesn't say that it failed
abbrev pub invariant-loop-rest : goal.invariant-loop-rest
invariant-loop-rest l = (test : List ℕ) → (contains_text l.over test && not (someone_says is_bad l.rest test)) ≡ is_over l.fn.kept test

abbrev pub decreases-loop-rest : goal.decreases-loop-rest
decreases-loop-rest l = length l.rest
