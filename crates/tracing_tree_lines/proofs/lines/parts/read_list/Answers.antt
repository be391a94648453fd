use Rattle.std.proofs.Common.{◌≡◌, ◌∷◌, [], Err, refl, ap, ◌∙◌, arith, rules}
use Rattle.json.specs.Json.{value}
use Rattle.json.specs.Reads.{token_of}
use Rattle.json.proofs.Grammar.{value_is}
use Rattle.tracing_tree_lines.specs.declared.lines.LineCause.TheVariants.{NotACall}
use Rattle.tracing_tree_lines.proofs.LineTokens.{no_list_taken, array_taken, list_passed}
use Rattle.tracing_tree_lines.proofs.lines.parts.read_list.Goals as goal

pub returns-in_err-first : goal.returns-in_err-first
returns-in_err-first c =
    let empty : c.args.reader.now ≡ [] = grind arith in
    let refused : c.from_residual.result ≡ Err NotACall = search rules in
    rw refused (refl, ap (value 126) empty ∙ value_is 126 [])

pub returns-in-Null : goal.returns-in-Null
returns-in-Null c =
    let first : c.args.reader.now ≡ token_of c.in_ok-first.first ∷ c.next.new.self = grind arith in
    no_list_taken c.args.reader.now c.next.new.self c.args.is_whole.now (first ∙ ap (λ k. token_of k ∷ c.next.new.self) c.in-Null.is)

pub returns-in-BeginArray : goal.returns-in-BeginArray
returns-in-BeginArray c =
    let first : c.args.reader.now ≡ token_of c.in_ok-first.first ∷ c.next.new.self = grind arith in
    array_taken c.args.reader.now c.next.new.self c.read_fields.new.reader c.args.is_whole.now c.read_fields.new.is_whole c.read_fields.result (first ∙ ap (λ k. token_of k ∷ c.next.new.self) c.in-BeginArray.is) c.read_fields.ensures

pub returns-in_ok-skip_rest-in_default : goal.returns-in_ok-skip_rest-in_default
returns-in_ok-skip_rest-in_default c =
    let first : c.args.reader.now ≡ token_of c.in_ok-first.first ∷ c.next.new.self = grind arith in
    let other = c.in_default in
    list_passed c.in_ok-first.first c.args.reader.now c.next.new.self c.skip_rest.new.reader c.args.is_whole.now c.skip_rest.new.is_whole first other.not-Null other.not-BeginArray c.in_ok-skip_rest-in_default.ensures

pub returns-in_err-skip_rest-in_default : goal.returns-in_err-skip_rest-in_default
returns-in_err-skip_rest-in_default c =
    let first : c.args.reader.now ≡ token_of c.in_ok-first.first ∷ c.next.new.self = grind arith in
    let refused : c.from_residual-in_err-skip_rest-in_default.result ≡ Err NotACall = search rules in
    rw refused (refl, ap (value 126) first ∙ c.in_err-skip_rest-in_default.ensures)
