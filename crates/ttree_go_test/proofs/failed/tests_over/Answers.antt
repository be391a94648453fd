use Rattle.std.proofs.Common.{ap}
use Rattle.std.specs.Prelude.{◌&&◌, not}
use Rattle.ttree_go_test.specs.Failed.{is_bad, someone_says}
use Rattle.ttree_go_test.proofs.failed.tests_over.Goals as goal

pub loop-rest-init : goal.loop-rest-init
loop-rest-init c = λ test. ap (λ good. good test && not (someone_says is_bad c.args.kept.now test)) c.in_ok-over.ensures
