use Rattle.std.proofs.Common.{◌≡◌, ◌<◌, length, Some, refl, sym, ap, subst, arith}
use Rattle.json.specs.Json.{read_key}
use Rattle.json.proofs.Grammar.{left, read_key-shorter, skip_value-shorter}
use Rattle.tracing_tree_lines.specs.Lines.Taken.{TakesParts}
use Rattle.tracing_tree_lines.specs.declared.lines.LineCause.TheVariants.{NotACall}
use Rattle.tracing_tree_lines.proofs.LineTokens.{fault_is, no_members_read, member_read, key_failed, parts_failed, parts_taken}
use Rattle.tracing_tree_lines.proofs.lines.parts.read_members.Goals as goal

pub loop-key-init : goal.loop-key-init
loop-key-init c = no_members_read c.args.reader.now c.args.parts.now c.requires.absent c.requires.whole

pub returns-in_err-key : goal.returns-in_err-key
returns-in_err-key c =
    let l = c.loop-key in
    let refused = fault_is c.from_residual.result NotACall c.from_residual.ensures.0 c.from_residual.ensures.1 in
    subst (TakesParts c.args.reader.now c.next_key.new.self l.parts) (sym refused) (refl, key_failed c.args.reader.now l.reader l.parts l.invariant c.in_err-key.ensures.value)

pub returns-in_err-read_member : goal.returns-in_err-read_member
returns-in_err-read_member c =
    let l = c.loop-key in
    let k = c.in-Some.key.now in
    let s = c.next_key.new.self in
    let key : read_key l.reader ≡ Some (Some k, s) = grind arith in
    let cause = c.in_err-read_member.field-0.0 in
    let refused = fault_is c.from_residual-in_err-read_member.result cause c.from_residual-in_err-read_member.ensures.0 c.from_residual-in_err-read_member.ensures.1 in
    subst (TakesParts c.args.reader.now c.read_member.new.reader c.read_member.new.self) (sym refused)
    (parts_failed (Unit {0}) c.args.reader.now l.reader s c.read_member.new.reader l.parts c.read_member.new.self k cause l.invariant key c.in_err-read_member.ensures)

pub loop-key-smaller : goal.loop-key-smaller
loop-key-smaller c =
    let l = c.loop-key in
    let k = c.in-Some.key.now in
    let s = c.next_key.new.self in
    let key : read_key l.reader ≡ Some (Some k, s) = grind arith in
    let less = read_key-shorter l.reader (Some k) s key in
    let lesser = skip_value-shorter 126 _ _ (ap left c.in_ok-read_member.ensures.passed.taken) in
    let both : length c.read_member.new.reader < length l.reader = omega arith in
    both

pub loop-key-preserved : goal.loop-key-preserved
loop-key-preserved c =
    let l = c.loop-key in
    let k = c.in-Some.key.now in
    let s = c.next_key.new.self in
    let key : read_key l.reader ≡ Some (Some k, s) = grind arith in
    member_read c.args.reader.now l.reader s c.read_member.new.reader l.parts c.read_member.new.self k l.invariant key c.in_ok-read_member.ensures

pub returns : goal.returns
returns c =
    let l = c.loop-key in
    parts_taken c.args.reader.now l.reader c.next_key.new.self l.parts l.invariant (grind arith)
