use Rattle.std.proofs.Common.{◌≡◌, ◌++◌, ◌∷◌, ◌<◌, [], length, true, false, Some, None, Err, refl, sym, ap, subst, arith, rules}
use Rattle.json.specs.Json.{after_end_array, value}
use Rattle.json.proofs.Grammar.{left, skip_value-shorter}
use Rattle.tracing_tree_lines.specs.Lines.Taken.{IsItemTaken}
use Rattle.tracing_tree_lines.specs.declared.lines.LineCause.TheVariants.{NotACall}
use Rattle.tracing_tree_lines.proofs.LineTokens.{ReadsItems, no_items_read, field_item_read, other_item_read, item_failed, fields_part, other_fields_part}
use Rattle.tracing_tree_lines.proofs.lines.parts.read_fields.Goals as goal

pub loop-alloc-init : goal.loop-alloc-init
loop-alloc-init c = subst (λ fields. ReadsItems c.args.reader.now c.args.reader.now c.args.is_whole.now c.args.is_whole.now fields true) (sym c.new-fields.ensures) (no_items_read c.args.reader.now c.args.is_whole.now)

pub returns-in_err-field : goal.returns-in_err-field
returns-in_err-field c =
    let l = c.loop-alloc in
    let going : (after_end_array l.reader ≡ None) × (c.take_end_array.new.self ≡ l.reader) = grind arith in
    let failed : value 125 l.reader ≡ None = rw (← going.1) c.in_err-field.ensures in
    let refused : c.from_residual.result ≡ Err NotACall = search rules in
    rw refused (refl, item_failed c.args.reader.now l.reader c.args.is_whole.now l.is_whole l.fields l.are_fields l.invariant going.0 failed)

pub loop-alloc-smaller : goal.loop-alloc-smaller
loop-alloc-smaller c =
    let l = c.loop-alloc in
    let going : (after_end_array l.reader ≡ None) × (c.take_end_array.new.self ≡ l.reader) = grind arith in
    let item = c.in_ok-field.ensures in
    let less : length c.read_pair.new.reader < length l.reader = rw (← going.1) (skip_value-shorter 125 _ _ (ap left item.passed.taken)) in
    less

pub loop-alloc-preserved : goal.loop-alloc-preserved
loop-alloc-preserved c =
    let l = c.loop-alloc in
    let going : (after_end_array l.reader ≡ None) × (c.take_end_array.new.self ≡ l.reader) = grind arith in
    let item = c.in_ok-field.ensures in
    let found : c.in_ok-field.field-0 ≡ Some c.in-Some.field = search rules in
    let taken : IsItemTaken l.reader c.read_pair.new.reader l.is_whole c.read_pair.new.is_whole (Some c.in-Some.field) = rw (← going.1) (subst (IsItemTaken c.take_end_array.new.self c.read_pair.new.reader l.is_whole c.read_pair.new.is_whole) found item) in
    let pushed : c.push.new.self ≡ l.fields ++ c.in-Some.field ∷ [] = search rules in
    field_item_read c.args.reader.now l.reader c.read_pair.new.reader c.args.is_whole.now l.is_whole c.read_pair.new.is_whole l.fields c.push.new.self l.are_fields c.in-Some.field
    l.invariant going.0 taken pushed

pub loop-alloc-smaller-in_default : goal.loop-alloc-smaller-in_default
loop-alloc-smaller-in_default c =
    let l = c.loop-alloc in
    let going : (after_end_array l.reader ≡ None) × (c.take_end_array.new.self ≡ l.reader) = grind arith in
    let item = c.in_ok-field.ensures in
    let less : length c.read_pair.new.reader < length l.reader = rw (← going.1) (skip_value-shorter 125 _ _ (ap left item.passed.taken)) in
    less

pub loop-alloc-preserved-in_default : goal.loop-alloc-preserved-in_default
loop-alloc-preserved-in_default c =
    let l = c.loop-alloc in
    let going : (after_end_array l.reader ≡ None) × (c.take_end_array.new.self ≡ l.reader) = grind arith in
    let item = c.in_ok-field.ensures in
    let none : c.in_ok-field.field-0 ≡ None = search rules in
    let taken : IsItemTaken l.reader c.read_pair.new.reader l.is_whole c.read_pair.new.is_whole None = rw (← going.1) (subst (IsItemTaken c.take_end_array.new.self c.read_pair.new.reader l.is_whole c.read_pair.new.is_whole) none item) in
    other_item_read c.args.reader.now l.reader c.read_pair.new.reader c.args.is_whole.now l.is_whole c.read_pair.new.is_whole l.fields l.are_fields l.invariant going.0 taken

pub returns-then-not-are_fields : goal.returns-then-not-are_fields
returns-then-not-are_fields c =
    let l = c.loop-alloc in
    let not_all : l.are_fields ≡ false = search rules in
    other_fields_part c.args.reader.now l.reader c.take_end_array.new.self c.args.is_whole.now l.is_whole l.fields l.are_fields l.invariant not_all (grind arith)

pub returns : goal.returns
returns c =
    let l = c.loop-alloc in
    let all : l.are_fields ≡ true = search rules in
    fields_part c.args.reader.now l.reader c.take_end_array.new.self c.args.is_whole.now l.is_whole l.fields l.are_fields l.invariant all (grind arith)
