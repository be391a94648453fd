use Rattle.std.proofs.Common.{◌≡◌, ◌++◌, take}
use Rattle.tracing_tree_tracer.specs.Values.{fields_of}
use Rattle.tracing_tree_tracer.proofs.value.push_fields.Given as goal

-- the fields so far are at the end
abbrev pub invariant-loop-name : goal.invariant-loop-name
invariant-loop-name l =
    l.list.items ≡ l.initial.list.items ++ fields_of (take l.name-index l.fields)
