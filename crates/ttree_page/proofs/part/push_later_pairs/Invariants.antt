use Rattle.std.proofs.Common.{◌≡◌, ◌++◌, take, flat_map, string_bytes}
use Rattle.ttree_page.specs.Lines.{later_pair}
use Rattle.ttree_page.proofs.part.push_later_pairs.Given as goal

-- the fields so far
abbrev pub invariant-loop-field : goal.invariant-loop-field
invariant-loop-field l = string_bytes l.out ≡ string_bytes l.fn.out ++ flat_map later_pair (take l.field-index l.fields)
