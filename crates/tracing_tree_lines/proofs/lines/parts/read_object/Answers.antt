use Rattle.std.proofs.Common.{◌≡◌, ◌∷◌, true, false, Some, None, refl, sym, ap, ◌∙◌, subst, arith, rules}
use Rattle.json.specs.Lex.{tokens}
use Rattle.json.specs.Token as spec
use Rattle.json.specs.Reads.{token_of}
use Rattle.tracing_tree_lines.specs.Lines.Parts.{ReadsObject}
use Rattle.tracing_tree_lines.specs.Lines.Taken.{opens_object}
use Rattle.tracing_tree_lines.specs.declared.lines.LineCause.TheVariants.{NotACall}
use Rattle.tracing_tree_lines.proofs.LineTokens.{fault_is}
use Rattle.tracing_tree_lines.proofs.ObjectLines.{no_object_call, other_first, other_token, brace_token, object_failed, object_and_more, object_alone}
use Rattle.tracing_tree_lines.proofs.lines.parts.read_object.Goals as goal

pub returns-in_err-first : goal.returns-in_err-first
returns-in_err-first c =
    let is : c.in_ok-reader.reader ≡ tokens c.args.line.now = c.in_ok-reader.ensures.ok in
    let none : c.next.result ≡ None = search rules in
    let refused = fault_is c.from_residual-in_err-first.result NotACall c.from_residual-in_err-first.ensures.0 (search rules) in
    subst (ReadsObject c.args.line.now c.args.parts.now) (sym refused)
    (refl, no_object_call c.args.line.now (other_first c.next.result (tokens c.args.line.now) c.next.new.self (rw (← is) c.next.ensures.value) (rw none (λ e. cc))))

pub returns-then-not-opens_object : goal.returns-then-not-opens_object
returns-then-not-opens_object c =
    let is : c.in_ok-reader.reader ≡ tokens c.args.line.now = c.in_ok-reader.ensures.ok in
    let some : c.next.result ≡ Some c.in_ok-first.first = search rules in
    let other : opens_object c.in_ok-first.first ≡ false = search rules in
    (refl, no_object_call c.args.line.now (other_first c.next.result (tokens c.args.line.now) c.next.new.self (rw (← is) c.next.ensures.value) (rw some (other_token c.in_ok-first.first other))))

pub returns-in_err-read_members : goal.returns-in_err-read_members
returns-in_err-read_members c =
    let is : c.in_ok-reader.reader ≡ tokens c.args.line.now = c.in_ok-reader.ensures.ok in
    let opens : opens_object c.in_ok-first.first ≡ true = search rules in
    let read : c.in_ok-reader.reader ≡ token_of c.in_ok-first.first ∷ c.next.new.self = grind arith in
    let first : tokens c.args.line.now ≡ spec.begin_object ∷ c.next.new.self = sym is ∙ read ∙ ap (λ t. t ∷ c.next.new.self) (brace_token c.in_ok-first.first opens) in
    let cause = c.in_err-read_members.field-0.0 in
    let refused = fault_is c.from_residual-in_err-read_members.result cause c.from_residual-in_err-read_members.ensures.0 c.from_residual-in_err-read_members.ensures.1 in
    subst (ReadsObject c.args.line.now c.read_members.new.parts) (sym refused) (object_failed (Unit {0}) c.args.line.now c.next.new.self c.read_members.new.reader c.read_members.new.parts cause first c.in_err-read_members.ensures)

pub returns-then-is_some : goal.returns-then-is_some
returns-then-is_some c =
    let is : c.in_ok-reader.reader ≡ tokens c.args.line.now = c.in_ok-reader.ensures.ok in
    let opens : opens_object c.in_ok-first.first ≡ true = search rules in
    let read : c.in_ok-reader.reader ≡ token_of c.in_ok-first.first ∷ c.next.new.self = grind arith in
    let first : tokens c.args.line.now ≡ spec.begin_object ∷ c.next.new.self = sym is ∙ read ∙ ap (λ t. t ∷ c.next.new.self) (brace_token c.in_ok-first.first opens) in
    (refl, object_and_more c.args.line.now c.next.new.self c.read_members.new.reader c.next-2.result c.next-2.new.self c.read_members.new.parts first c.next-2.ensures.value (search rules) c.in_ok-read_members.ensures)

pub returns : goal.returns
returns c =
    let is : c.in_ok-reader.reader ≡ tokens c.args.line.now = c.in_ok-reader.ensures.ok in
    let opens : opens_object c.in_ok-first.first ≡ true = search rules in
    let read : c.in_ok-reader.reader ≡ token_of c.in_ok-first.first ∷ c.next.new.self = grind arith in
    let first : tokens c.args.line.now ≡ spec.begin_object ∷ c.next.new.self = sym is ∙ read ∙ ap (λ t. t ∷ c.next.new.self) (brace_token c.in_ok-first.first opens) in
    object_alone c.args.line.now c.next.new.self c.read_members.new.reader c.next-2.result c.next-2.new.self c.read_members.new.parts (search rules) first c.next-2.ensures.value (search rules) c.in_ok-read_members.ensures
