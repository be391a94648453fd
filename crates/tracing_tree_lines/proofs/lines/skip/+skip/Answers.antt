use Rattle.std.proofs.Common.{◌≡◌, ◌+◌, ◌<◌, [], ◌∷◌, length, true, Some, None, refl, sym, ap, ◌∙◌, subst, arith, rules}
use Rattle.json.specs.Json.{after_end_array, read_key, value}
use Rattle.json.specs.Reads.{token_of}
use Rattle.json.proofs.Grammar.{left, value_is, read_key-shorter, skip_value-shorter}
use Rattle.tracing_tree_lines.specs.Lines.Parts.{IsNumberPart}
use Rattle.tracing_tree_lines.proofs.Taken.{is_word, word_taken, some_number_passed, other_number_passed, same_taken, end_unread, nested_unread, array_taken, array_unread, object_taken, object_unread, no_items_passed, item_passed, items_passed, item_unread, no_members_passed, member_passed, members_passed, key_unread, member_unread}
use Rattle.tracing_tree_lines.proofs.lines.skip.+skip.Goals as goal

pub skip_items-returns-in_err-inner : goal.skip_items-returns-in_err-inner
skip_items-returns-in_err-inner t c =
    let flat : c.args.depth ≡ 0 = grind arith in
    let none = (nested_unread c.args.depth c.args.reader.now flat).0 in
    grind (arith, none)

pub skip_items-loop-reader-init : goal.skip_items-loop-reader-init
skip_items-loop-reader-init t c = no_items_passed c.in_ok-inner.inner c.args.reader.now c.args.is_whole.now

pub skip_items-returns-in_err-first : goal.skip_items-returns-in_err-first
skip_items-returns-in_err-first t c =
    let l = c.loop-reader in
    let inner = c.in_ok-inner.inner in
    let deep : c.args.depth ≡ inner + 1 = grind arith in
    let going : (after_end_array l.reader ≡ None) × (c.take_end_array.new.self ≡ l.reader) = grind arith in
    let end : c.take_end_array.new.self ≡ [] = grind arith in
    let none = array_unread c.args.depth inner c.args.reader.now deep (item_unread inner c.args.reader.now l.reader c.args.is_whole.now l.is_whole l.invariant going.0 (end_unread inner l.reader (sym going.1 ∙ end))) in
    grind (arith, none)

pub skip_items-loop-reader-smaller : goal.skip_items-loop-reader-smaller
skip_items-loop-reader-smaller t c =
    let l = c.loop-reader in
    let going : (after_end_array l.reader ≡ None) × (c.take_end_array.new.self ≡ l.reader) = grind arith in
    let first : c.take_end_array.new.self ≡ token_of c.in_ok-first.first ∷ c.next.new.self = grind arith in
    let item = same_taken c.in_ok-inner.inner l.reader (token_of c.in_ok-first.first ∷ c.next.new.self) c.skip_rest.new.reader l.is_whole c.skip_rest.new.is_whole (sym going.1 ∙ first) c.in_ok-skip_rest.ensures in
    let less : length c.skip_rest.new.reader < length l.reader = skip_value-shorter c.in_ok-inner.inner _ _ (ap left item.taken) in
    less

pub skip_items-loop-reader-preserved : goal.skip_items-loop-reader-preserved
skip_items-loop-reader-preserved t c =
    let l = c.loop-reader in
    let inner = c.in_ok-inner.inner in
    let going : (after_end_array l.reader ≡ None) × (c.take_end_array.new.self ≡ l.reader) = grind arith in
    let first : c.take_end_array.new.self ≡ token_of c.in_ok-first.first ∷ c.next.new.self = grind arith in
    let item = same_taken inner l.reader (token_of c.in_ok-first.first ∷ c.next.new.self) c.skip_rest.new.reader l.is_whole c.skip_rest.new.is_whole (sym going.1 ∙ first) c.in_ok-skip_rest.ensures in
    item_passed inner c.args.reader.now l.reader c.skip_rest.new.reader c.args.is_whole.now l.is_whole c.skip_rest.new.is_whole l.invariant going.0 item

pub skip_items-returns-in_err-skip_rest : goal.skip_items-returns-in_err-skip_rest
skip_items-returns-in_err-skip_rest t c =
    let l = c.loop-reader in
    let inner = c.in_ok-inner.inner in
    let deep : c.args.depth ≡ inner + 1 = grind arith in
    let going : (after_end_array l.reader ≡ None) × (c.take_end_array.new.self ≡ l.reader) = grind arith in
    let first : c.take_end_array.new.self ≡ token_of c.in_ok-first.first ∷ c.next.new.self = grind arith in
    let unread = ap (value inner) (sym going.1 ∙ first) ∙ c.in_err-skip_rest.ensures in
    let none = array_unread c.args.depth inner c.args.reader.now deep (item_unread inner c.args.reader.now l.reader c.args.is_whole.now l.is_whole l.invariant going.0 unread) in
    grind (arith, none)

pub skip_items-returns : goal.skip_items-returns
skip_items-returns t c =
    let l = c.loop-reader in
    let inner = c.in_ok-inner.inner in
    let deep : c.args.depth ≡ inner + 1 = grind arith in
    array_taken c.args.depth inner c.args.reader.now c.take_end_array.new.self c.args.is_whole.now l.is_whole deep
    (items_passed inner c.args.reader.now l.reader c.take_end_array.new.self c.args.is_whole.now l.is_whole l.invariant (grind arith))

pub skip_members-returns-in_err-inner : goal.skip_members-returns-in_err-inner
skip_members-returns-in_err-inner t c =
    let flat : c.args.depth ≡ 0 = grind arith in
    let none = (nested_unread c.args.depth c.args.reader.now flat).1 in
    grind (arith, none)

pub skip_members-loop-reader-init : goal.skip_members-loop-reader-init
skip_members-loop-reader-init t c = no_members_passed c.in_ok-inner.inner c.args.reader.now c.args.is_whole.now c.args.is_whole.now refl

pub skip_members-returns-in_err-next_key : goal.skip_members-returns-in_err-next_key
skip_members-returns-in_err-next_key t c =
    let l = c.loop-reader in
    let inner = c.in_ok-inner.inner in
    let deep : c.args.depth ≡ inner + 1 = grind arith in
    let none = object_unread c.args.depth inner c.args.reader.now deep (key_unread inner c.args.reader.now l.reader c.args.is_whole.now l.is_whole l.invariant c.in_err-next_key.ensures.value) in
    grind (arith, none)

pub skip_members-returns-in_err-first : goal.skip_members-returns-in_err-first
skip_members-returns-in_err-first t c =
    let l = c.loop-reader in
    let inner = c.in_ok-inner.inner in
    let deep : c.args.depth ≡ inner + 1 = grind arith in
    let k = c.in-Some.field-0.now in
    let key : read_key l.reader ≡ Some (Some k, c.next_key.new.self) = grind arith in
    let end : c.next_key.new.self ≡ [] = grind arith in
    let none = object_unread c.args.depth inner c.args.reader.now deep
    (member_unread inner c.args.reader.now l.reader c.next_key.new.self k c.args.is_whole.now l.is_whole l.invariant key (end_unread inner c.next_key.new.self end)) in
    grind (arith, none)

pub skip_members-loop-reader-smaller : goal.skip_members-loop-reader-smaller
skip_members-loop-reader-smaller t c =
    let l = c.loop-reader in
    let k = c.in-Some.field-0.now in
    let s = c.next_key.new.self in
    let key : read_key l.reader ≡ Some (Some k, s) = grind arith in
    let first : s ≡ token_of c.in_ok-first.first ∷ c.next.new.self = grind arith in
    let item = same_taken c.in_ok-inner.inner s (token_of c.in_ok-first.first ∷ c.next.new.self) c.skip_rest.new.reader l.is_whole c.skip_rest.new.is_whole first c.in_ok-skip_rest.ensures in
    let less = read_key-shorter l.reader (Some k) s key in
    let lesser = skip_value-shorter c.in_ok-inner.inner _ _ (ap left item.taken) in
    let both : length c.skip_rest.new.reader < length l.reader = omega arith in
    both

pub skip_members-loop-reader-preserved : goal.skip_members-loop-reader-preserved
skip_members-loop-reader-preserved t c =
    let l = c.loop-reader in
    let inner = c.in_ok-inner.inner in
    let k = c.in-Some.field-0.now in
    let s = c.next_key.new.self in
    let key : read_key l.reader ≡ Some (Some k, s) = grind arith in
    let first : s ≡ token_of c.in_ok-first.first ∷ c.next.new.self = grind arith in
    let item = same_taken inner s (token_of c.in_ok-first.first ∷ c.next.new.self) c.skip_rest.new.reader l.is_whole c.skip_rest.new.is_whole first c.in_ok-skip_rest.ensures in
    member_passed inner c.args.reader.now l.reader s c.skip_rest.new.reader k c.args.is_whole.now l.is_whole c.skip_rest.new.is_whole l.invariant key item

pub skip_members-returns-in_err-skip_rest : goal.skip_members-returns-in_err-skip_rest
skip_members-returns-in_err-skip_rest t c =
    let l = c.loop-reader in
    let inner = c.in_ok-inner.inner in
    let deep : c.args.depth ≡ inner + 1 = grind arith in
    let k = c.in-Some.field-0.now in
    let s = c.next_key.new.self in
    let key : read_key l.reader ≡ Some (Some k, s) = grind arith in
    let first : s ≡ token_of c.in_ok-first.first ∷ c.next.new.self = grind arith in
    let unread = ap (value inner) first ∙ c.in_err-skip_rest.ensures in
    let none = object_unread c.args.depth inner c.args.reader.now deep (member_unread inner c.args.reader.now l.reader s k c.args.is_whole.now l.is_whole l.invariant key unread) in
    grind (arith, none)

pub skip_members-returns : goal.skip_members-returns
skip_members-returns t c =
    let l = c.loop-reader in
    let inner = c.in_ok-inner.inner in
    let deep : c.args.depth ≡ inner + 1 = grind arith in
    object_taken c.args.depth inner c.args.reader.now c.next_key.new.self c.args.is_whole.now l.is_whole deep
    (members_passed inner c.args.reader.now l.reader c.next_key.new.self c.args.is_whole.now l.is_whole l.invariant (grind arith))

pub skip_rest-returns-in-Null : goal.skip_rest-returns-in-Null
skip_rest-returns-in-Null t c =
    let word : is_word c.args.first ≡ true = grind arith in
    word_taken c.args.depth c.args.first c.args.reader.now c.args.is_whole.now word

pub skip_rest-returns-then-is_none : goal.skip_rest-returns-then-is_none
skip_rest-returns-then-is_none t c =
    let none : c.number_part.result ≡ None = search rules in
    let kept = subst (IsNumberPart c.in-Number.text.now) none c.number_part.ensures in
    other_number_passed c.args.depth _ c.args.reader.now c.args.is_whole.now c.in-Number.text.now (ap (λ k. token_of k ∷ c.args.reader.now) c.in-Number.is) kept

pub skip_rest-returns-else-is_none : goal.skip_rest-returns-else-is_none
skip_rest-returns-else-is_none t c =
    some_number_passed c.args.depth _ c.args.reader.now c.args.is_whole.now c.in-Number.text.now c.number_part.result (ap (λ k. token_of k ∷ c.args.reader.now) c.in-Number.is) (search rules) c.number_part.ensures

pub skip_rest-returns-in-EndObject : goal.skip_rest-returns-in-EndObject
skip_rest-returns-in-EndObject t c = rw (value_is c.args.depth (token_of c.args.first ∷ c.args.reader.now)) (grind arith)
