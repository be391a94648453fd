use Rattle.std.proofs.Common.{◌≡◌, ◌∙◌, ◌+◌, ◌-◌, suc, Bool, true, length, ap, sym, arith}
use Rattle.ttree_junit.specs.Document.{ReadDocument, read_within, rest_taken, step_of}
use Rattle.ttree_junit.specs.Junit.{JunitState}
use Rattle.xml.specs.Reading.{Reading}
use Rattle.ttree_junit.proofs.Steps.{broken, stepped, stopped, unmoved}
use Rattle.ttree_junit.proofs.document.read.Goals as goal

pub returns-in-Err : goal.returns-in-Err
returns-in-Err c =
    let reader = c.loop-token.reader in
    let junit = c.loop-token.junit in
    let n = length c.args.text.now - (c.loop-token._token + 1) in
    let fuel : length c.args.text.now - c.loop-token._token ≡ suc n = omega arith in
    let unfinished = c.in-Err.unfinished in
    let place : c.rest.result.now ≡ reader.rest =
    c.rest.ensures ∙ ap (λ (r : Reading). r.rest) (unmoved (step_of reader junit) reader c.next_of.new.reader unfinished c.in-Err.ensures) in
    let cut : JunitState → ReadDocument = λ s. record { state = s; is_cut = true } in
    c.loop-token.invariant ∙ ap (λ k. read_within k reader junit) fuel
    ∙ broken (step_of reader junit) reader c.next_of.new.reader reader.rest unfinished junit (λ r s. read_within n r s) c.in-Err.ensures
    ∙ ap (λ rest. cut (rest_taken unfinished rest junit)) (sym place) ∙ ap cut (sym c.in_ok-take_rest-in-Err.ensures)

pub loop-token-preserved : goal.loop-token-preserved
loop-token-preserved c =
    let reader = c.loop-token.reader in
    let junit = c.loop-token.junit in
    let n = length c.args.text.now - (c.loop-token._token + 1) in
    let fuel : length c.args.text.now - c.loop-token._token ≡ suc n = omega arith in
    let found = rw c.in-Ok-Some.field-0-is at c.in-Ok-Some.ensures in
    c.loop-token.invariant ∙ ap (λ k. read_within k reader junit) fuel
    ∙ stepped (step_of reader junit) reader c.next_of.new.reader reader.rest c.in-Ok-Some.token junit (λ r s. read_within n r s) found
    ∙ ap (λ s. read_within n c.next_of.new.reader s) (sym c.in_ok-take-in-Ok-Some.ensures)

pub returns-in-Ok-None : goal.returns-in-Ok-None
returns-in-Ok-None c =
    let reader = c.loop-token.reader in
    let junit = c.loop-token.junit in
    let n = length c.args.text.now - (c.loop-token._token + 1) in
    let fuel : length c.args.text.now - c.loop-token._token ≡ suc n = omega arith in
    let found = rw c.in-Ok-None.field-0-is at c.in-Ok-None.ensures in
    let cut : Bool → ReadDocument = λ is_cut. record { state = junit; is_cut = is_cut } in
    c.loop-token.invariant ∙ ap (λ k. read_within k reader junit) fuel
    ∙ stopped (step_of reader junit) reader c.next_of.new.reader reader.rest junit (λ r s. read_within n r s) found
    ∙ ap cut (sym c.is_open.ensures)
