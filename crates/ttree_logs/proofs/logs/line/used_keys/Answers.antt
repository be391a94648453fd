use Rattle.std.proofs.Common.{◌++◌}
use Rattle.ttree_logs.specs.LogLine.{listed}
use Rattle.ttree_logs.proofs.logs.line.used_keys.Goals as goal

pub returns : goal.returns
returns c = λ i. record {
  keys = listed (c.level_key.ensures i) ++ listed (c.time_key.ensures i) ++ listed (c.first_key.ensures i)
      ++ listed (c.group_key_in.ensures i);
  is_of_journal = c.is_of_journal.ensures i;
}
