use Rattle.std.proofs.Common.{subst}
use Rattle.tracing_tree_c.specs.Foreign.{IsUtf8Fields}
use Rattle.tracing_tree_c.proofs.Fields.{alone, alone_is, no_field}
use Rattle.tracing_tree_c.proofs.foreign.fields_in.Goals as goal

pub returns-then-given-eq1 : goal.returns-then-given-eq1
returns-then-given-eq1 c =
    alone_is c.args.given.now _ c.field_alone_in.result (alone c.args.given.now no_field c.if-given-eq1.true) c.field_alone_in.ensures

pub field_alone_in-requires : goal.field_alone_in-requires
field_alone_in-requires c = λ sure. (subst IsUtf8Fields (alone c.args.given.now no_field c.if-given-eq1.true) (c.requires sure)).0
