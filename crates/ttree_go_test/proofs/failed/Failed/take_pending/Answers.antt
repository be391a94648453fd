use Rattle.std.proofs.Common.{List, ℕ, [], ap, ◌∙◌}
use Rattle.std.specs.Prelude.{unwrap_or}
use Rattle.ttree_go_test.specs.Names.{named, without}
use Rattle.ttree_go_test.specs.Failed.{FailedState, Pending, pending_of, without_pending}
use Rattle.ttree_go_test.proofs.failed.Failed.take_pending.Goals as goal

pub returns-clause-pending : goal.returns-clause-pending
returns-clause-pending c =
    c.unwrap_or.ensures ∙ ap (unwrap_or c.in_ok-pending.pending) c.new.ensures
    ∙ ap (λ found. unwrap_or found []) (c.in_ok-pending.ensures.one ∙ ap (λ path. named path c.self.inside.packages) c.as_bytes.ensures.value)
    ∙ ap (pending_of c.args.path.now) c.self.view_is

pub returns-clause-rest : goal.returns-clause-rest
returns-clause-rest c =
    let inside = c.self.inside in
    let at : List (List ℕ × Pending) → FailedState = λ packages. record { whole = inside.whole; shown = inside.shown; packages = packages } in
    ap at (c.in_ok-pending.ensures.rest ∙ ap (λ path. without path inside.packages) c.as_bytes.ensures.value) ∙ ap (without_pending c.args.path.now) c.self.view_is
