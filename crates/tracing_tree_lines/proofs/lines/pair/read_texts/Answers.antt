use Rattle.std.proofs.Common.{◌≡◌, ◌<◌, length, None, option_map, ap, arith}
use Rattle.json.specs.Json.{after_end_array, value}
use Rattle.json.proofs.Grammar.{left, skip_value-shorter}
use Rattle.tracing_tree_lines.specs.Lines.Taken.{IsTextTaken}
use Rattle.tracing_tree_lines.proofs.PairTokens.{no_texts_read, text_item_read, texts_end, texts_fail}
use Rattle.tracing_tree_lines.proofs.lines.pair.read_texts.Goals as goal

pub loop-texts-init : goal.loop-texts-init
loop-texts-init c = no_texts_read c.args.reader.now c.args.is_whole.now

pub returns-in_err-read_text : goal.returns-in_err-read_text
returns-in_err-read_text c =
    let l = c.loop-texts in
    let going : (after_end_array l.reader ≡ None) × (c.take_end_array.new.self ≡ l.reader) = grind arith in
    let failed : value 124 l.reader ≡ None = rw (← going.1) c.in_err-read_text.ensures in
    let none = ap left (texts_fail c.args.reader.now l.reader c.args.is_whole.now l.is_whole l.texts l.invariant going.0 failed) in
    grind (arith, none)

pub loop-texts-smaller : goal.loop-texts-smaller
loop-texts-smaller c =
    let l = c.loop-texts in
    let going : (after_end_array l.reader ≡ None) × (c.take_end_array.new.self ≡ l.reader) = grind arith in
    let less : length c.read_text.new.reader < length l.reader = rw (← going.1) (skip_value-shorter 124 _ _ (ap left c.in_ok-read_text.ensures.passed.taken)) in
    less

pub loop-texts-preserved : goal.loop-texts-preserved
loop-texts-preserved c =
    let l = c.loop-texts in
    let going : (after_end_array l.reader ≡ None) × (c.take_end_array.new.self ≡ l.reader) = grind arith in
    let text = option_map (λ t. t.now) c.in_ok-read_text.field-0 in
    let taken : IsTextTaken l.reader c.read_text.new.reader l.is_whole c.read_text.new.is_whole text = rw (← going.1) c.in_ok-read_text.ensures in
    text_item_read c.args.reader.now l.reader c.read_text.new.reader c.args.is_whole.now l.is_whole c.read_text.new.is_whole l.texts c.with-texts.result text l.invariant going.0 taken c.with-texts.ensures

pub returns : goal.returns
returns c =
    let l = c.loop-texts in
    rw c.pair.ensures (texts_end c.args.reader.now l.reader c.take_end_array.new.self c.args.is_whole.now l.is_whole l.texts l.invariant (grind arith))
