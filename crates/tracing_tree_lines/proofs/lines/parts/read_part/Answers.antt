use Rattle.std.proofs.Common.{◌≡◌, ◌∷◌, [], Some, None, ap, ◌∙◌, subst, arith, rules}
use Rattle.json.specs.Json.{value}
use Rattle.json.specs.Reads.{token_of}
use Rattle.json.proofs.Grammar.{value_is}
use Rattle.tracing_tree_lines.specs.Lines.Parts.{IsNumberPart}
use Rattle.tracing_tree_lines.proofs.LineTokens.{null_taken, text_taken, number_taken, other_number_taken, word_passed}
use Rattle.tracing_tree_lines.proofs.lines.parts.read_part.Goals as goal

pub returns-in_err-first : goal.returns-in_err-first
returns-in_err-first c =
    let empty : c.args.reader.now ≡ [] = grind arith in
    let none : value 126 c.args.reader.now ≡ None = ap (value 126) empty ∙ value_is 126 [] in
    grind (arith, none)

pub returns-in-Null : goal.returns-in-Null
returns-in-Null c =
    let first : c.args.reader.now ≡ token_of c.in_ok-first.first ∷ c.next.new.self = grind arith in
    null_taken c.args.reader.now c.next.new.self c.args.is_whole.now (first ∙ ap (λ k. token_of k ∷ c.next.new.self) c.in-Null.is)

pub returns-in-String : goal.returns-in-String
returns-in-String c =
    let first : c.args.reader.now ≡ token_of c.in_ok-first.first ∷ c.next.new.self = grind arith in
    text_taken c.args.reader.now c.next.new.self c.args.is_whole.now c.in-String.text (first ∙ ap (λ k. token_of k ∷ c.next.new.self) c.in-String.is)

pub returns-in-Some : goal.returns-in-Some
returns-in-Some c =
    let first : c.args.reader.now ≡ token_of c.in_ok-first.first ∷ c.next.new.self = grind arith in
    let found : c.number_part.result ≡ Some c.in-Some.part = search rules in
    number_taken c.args.reader.now c.next.new.self c.args.is_whole.now c.in-Number.text.now c.in-Some.part (first ∙ ap (λ k. token_of k ∷ c.next.new.self) c.in-Number.is)
    (subst (IsNumberPart c.in-Number.text.now) found c.number_part.ensures)

pub returns-in_default-number_part : goal.returns-in_default-number_part
returns-in_default-number_part c =
    let first : c.args.reader.now ≡ token_of c.in_ok-first.first ∷ c.next.new.self = grind arith in
    let none : c.number_part.result ≡ None = search rules in
    other_number_taken c.args.reader.now c.next.new.self c.args.is_whole.now c.in-Number.text.now (first ∙ ap (λ k. token_of k ∷ c.next.new.self) c.in-Number.is)
    (subst (IsNumberPart c.in-Number.text.now) none c.number_part.ensures)

pub returns-in_ok-skip_rest-in_default : goal.returns-in_ok-skip_rest-in_default
returns-in_ok-skip_rest-in_default c =
    let first : c.args.reader.now ≡ token_of c.in_ok-first.first ∷ c.next.new.self = grind arith in
    let other = c.in_default in
    word_passed c.in_ok-first.first c.args.reader.now c.next.new.self c.skip_rest.new.reader c.args.is_whole.now c.skip_rest.new.is_whole first other.not-Null other.not-String other.not-Number c.in_ok-skip_rest-in_default.ensures
