use Rattle.std.proofs.Common.{◌≡◌, [], ◌∷◌, ap, ◌∙◌, arith}
use Rattle.json.specs.Reads.{token_of}
use Rattle.ttree_chrome.proofs.Reading.{opens_array, opens_nothing, opens_object, opens_other}
use Rattle.ttree_chrome.proofs.text.enter.Goals as goal

pub returns-in_default : goal.returns-in_default
returns-in_default c = λ value h.
    let empty : c.args.reader.now ≡ [] = grind arith in
    opens_nothing c.args.reader.now c.next.new.self value empty h

pub returns-in-BeginArray : goal.returns-in-BeginArray
returns-in-BeginArray c = λ value h.
    let first : c.args.reader.now ≡ token_of c.in-Some.first ∷ c.next.new.self = grind arith in
    opens_array c.args.reader.now c.next.new.self value (first ∙ ap (λ k. token_of k ∷ c.next.new.self) c.in-BeginArray.is) h

pub returns-in-BeginObject : goal.returns-in-BeginObject
returns-in-BeginObject c = λ value h.
    let first : c.args.reader.now ≡ token_of c.in-Some.first ∷ c.next.new.self = grind arith in
    opens_object c.args.reader.now c.next.new.self value (first ∙ ap (λ k. token_of k ∷ c.next.new.self) c.in-BeginObject.is) h

pub returns-in_default-first : goal.returns-in_default-first
returns-in_default-first c = λ value h.
    let first : c.args.reader.now ≡ token_of c.in-Some.first ∷ c.next.new.self = grind arith in
    opens_other c.in-Some.first c.args.reader.now c.next.new.self value first c.in_default-first.not-BeginArray c.in_default-first.not-BeginObject h
