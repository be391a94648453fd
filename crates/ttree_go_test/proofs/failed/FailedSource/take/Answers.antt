use Rattle.std.proofs.Common.{◌≡◌, true, false, option_map}
use Rattle.json.specs.Value.{value_view}
use Rattle.ttree_go_test.specs.GoTest.{go_takes}
use Rattle.ttree_go_test.proofs.FailedLines.{emits_known, emits_unknown}
use Rattle.ttree_go_test.proofs.failed.FailedSource.take.Goals as goal

pub returns-then-not-branch : goal.returns-then-not-branch
returns-then-not-branch c =
    let line = c.args.line.now in
    let value = option_map (λ v. value_view v.now) c.args.value in
    let known : c.in_ok-knows.field-0 ≡ false = cc in
    emits_unknown (go_takes c.args.self.now.whole line value) line value c.args.self.now c.knows.new.self _ known c.in_ok-knows.ensures

pub returns : goal.returns
returns c =
    let line = c.args.line.now in
    let value = option_map (λ v. value_view v.now) c.args.value in
    let known : c.in_ok-knows.field-0 ≡ true = cc in
    emits_known (go_takes c.args.self.now.whole line value) line value c.args.self.now c.knows.new.self c.take_line.new.self c.emitted.new.self c.emitted.result.items _
    known c.in_ok-knows.ensures c.in_ok-take_line.ensures c.emitted.ensures.emitted c.emitted.ensures.rest
