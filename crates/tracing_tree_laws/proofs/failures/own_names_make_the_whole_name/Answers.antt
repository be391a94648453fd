use Rattle.ttree_go_test.proofs.OwnNames.{own_behind}
use Rattle.tracing_tree_laws.proofs.failures.own_names_make_the_whole_name.Goals as goal

pub returns : goal.returns
returns c = own_behind
