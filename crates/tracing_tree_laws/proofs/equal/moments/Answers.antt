use Rattle.std.proofs.Common.{◌≡◌, Bool, sym, subst}
use Rattle.std.specs.Bool.{Decides}
use Rattle.tracing_tree_layer.proofs.Equality.{moment_decides}
use Rattle.tracing_tree_laws.proofs.equal.moments.Goals as goal

pub returns : goal.returns
returns c =
    subst (λ (same : Bool). Decides same (c.args.left.now ≡ c.args.right.now)) (sym c.eq.ensures) (moment_decides c.args.left.now c.args.right.now)
