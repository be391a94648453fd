use Rattle.std.proofs.Common.{List, ℕ, [], ap, ◌∙◌}
use Rattle.std.specs.Prelude.{unwrap_or}
use Rattle.ttree_go_test.specs.Names.{named, without}
use Rattle.ttree_go_test.specs.GoTest.{GoState, Tests, tests_of, without_package}
use Rattle.ttree_go_test.proofs.go_test.GoTest.take_package.Goals as goal

pub returns-clause-tests : goal.returns-clause-tests
returns-clause-tests c =
    c.unwrap_or.ensures ∙ ap (unwrap_or c.in_ok-tests.tests) c.new.ensures
    ∙ ap (λ found. unwrap_or found []) (c.in_ok-tests.ensures.one ∙ ap (λ path. named path c.self.inside.packages) c.as_bytes.ensures.value)
    ∙ ap (tests_of c.args.path.now) c.self.view_is

pub returns-clause-rest : goal.returns-clause-rest
returns-clause-rest c =
    let inside = c.self.inside in
    let at : List (List ℕ × Tests) → GoState = λ packages. record { next = inside.next; moment = inside.moment; packages = packages; builds = inside.builds; tally = inside.tally; failing = inside.failing; building = inside.building; last = inside.last; calls = inside.calls.items } in
    ap at (c.in_ok-tests.ensures.rest ∙ ap (λ path. without path inside.packages) c.as_bytes.ensures.value) ∙ ap (without_package c.args.path.now) c.self.view_is
