-- Ids of spans.
use Rattle.std.specs.Prelude.{ℕ, ◌==◌, Bool}
use Rattle.tracing_tree_base.specs.declared.context.Id.{Id}

-- the id with this number
abbrev pub id_of : ℕ → Id
id_of n = record { 0 = n }

abbrev pub same_id : Id → Id → Bool
same_id i j = i.0 == j.0
