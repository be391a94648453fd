use Rattle.std.proofs.Common.{◌≡◌, [], ◌∷◌, None, ap, ◌∙◌, arith}
use Rattle.json.specs.Json.{value}
use Rattle.json.specs.Reads.{token_of}
use Rattle.json.proofs.Grammar.{value_is}
use Rattle.tracing_tree_lines.proofs.PairTokens.{text_read, other_read}
use Rattle.tracing_tree_lines.proofs.lines.pair.read_text.Goals as goal

pub returns-in_err-first : goal.returns-in_err-first
returns-in_err-first c =
    let empty : c.args.reader.now ≡ [] = grind arith in
    let none : value 124 c.args.reader.now ≡ None = ap (value 124) empty ∙ value_is 124 [] in
    grind (arith, none)

pub returns-in-String : goal.returns-in-String
returns-in-String c =
    let first : c.args.reader.now ≡ token_of c.in_ok-first.first ∷ c.next.new.self = grind arith in
    text_read c.args.reader.now c.next.new.self c.args.is_whole.now c.in-String.text.now (first ∙ ap (λ k. token_of k ∷ c.next.new.self) c.in-String.is)

pub returns-in_ok-skip_rest-in_default : goal.returns-in_ok-skip_rest-in_default
returns-in_ok-skip_rest-in_default c =
    let first : c.args.reader.now ≡ token_of c.in_ok-first.first ∷ c.next.new.self = grind arith in
    other_read c.in_ok-first.first c.args.reader.now c.next.new.self c.skip_rest.new.reader c.args.is_whole.now c.skip_rest.new.is_whole first c.in_default.not-String c.in_ok-skip_rest-in_default.ensures
