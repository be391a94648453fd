use Rattle.std.proofs.Common.{◌≡◌, ◌++◌, take, flat_map, string_bytes}
use Rattle.ttree_page.specs.Lines.{after_comma, name_and_value}
use Rattle.ttree_page.proofs.part.push_names_and_values.Given as goal

-- the fields so far
abbrev pub invariant-loop-field : goal.invariant-loop-field
invariant-loop-field l = string_bytes l.out ≡ string_bytes l.fn.out ++ flat_map after_comma (flat_map name_and_value (take l.field-index l.fields))
