-- How fields are compared.
use Rattle.std.specs.Prelude.{Bool, List, ◌&&◌}
use Rattle.std.specs.Str.{bytes_eq}
use Rattle.std.specs.Cmp.{IsPartialEquivalence, IsEquivalence}
use Rattle.std.specs.Cmp.Lexicographic.{pointwise}
use Rattle.std.specs.Cmp.Rules.{comparing}
use Rattle.std.proofs.Common.{rules}
use Rattle.tracing_tree_base.specs.declared.field.Field.{Field}

abbrev pub field_eq : Field → Field → Bool
field_eq a b = bytes_eq a.name b.name && bytes_eq a.value b.value

abbrev pub fields_eq : List Field → List Field → Bool
fields_eq = pointwise field_eq

pub fields_eq_partial : IsPartialEquivalence fields_eq
fields_eq_partial = search (comparing, rules) depth 9

pub fields_eq_equivalence : IsEquivalence fields_eq
fields_eq_equivalence = search (comparing, rules) depth 9
