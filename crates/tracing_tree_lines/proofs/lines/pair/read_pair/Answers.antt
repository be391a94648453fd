use Rattle.std.proofs.Common.{◌≡◌, [], ◌∷◌, None, ap, ◌∙◌, arith}
use Rattle.json.specs.Json.{value}
use Rattle.json.specs.Reads.{token_of}
use Rattle.json.proofs.Grammar.{value_is}
use Rattle.tracing_tree_lines.proofs.PairTokens.{pair_taken, no_pair_read}
use Rattle.tracing_tree_lines.proofs.lines.pair.read_pair.Goals as goal

pub returns-in_err-first : goal.returns-in_err-first
returns-in_err-first c =
    let empty : c.args.reader.now ≡ [] = grind arith in
    let none : value 125 c.args.reader.now ≡ None = ap (value 125) empty ∙ value_is 125 [] in
    grind (arith, none)

pub returns-in-BeginArray : goal.returns-in-BeginArray
returns-in-BeginArray c =
    let first : c.args.reader.now ≡ token_of c.in_ok-first.first ∷ c.next.new.self = grind arith in
    pair_taken c.args.reader.now c.next.new.self c.read_texts.new.reader c.args.is_whole.now c.read_texts.new.is_whole c.read_texts.result (first ∙ ap (λ k. token_of k ∷ c.next.new.self) c.in-BeginArray.is) c.read_texts.ensures

pub returns-in_ok-skip_rest-in_default : goal.returns-in_ok-skip_rest-in_default
returns-in_ok-skip_rest-in_default c =
    let first : c.args.reader.now ≡ token_of c.in_ok-first.first ∷ c.next.new.self = grind arith in
    no_pair_read c.in_ok-first.first c.args.reader.now c.next.new.self c.skip_rest.new.reader c.args.is_whole.now c.skip_rest.new.is_whole first c.in_default.not-BeginArray c.in_ok-skip_rest-in_default.ensures
