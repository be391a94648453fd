use Rattle.std.proofs.Common.{◌≡◌, ◌+◌, ◌<◌, true, false, Some, option_and_then, sym, ap, subst, ◌∙◌, arith}
use Rattle.json.specs.Find.{as_array}
use Rattle.json.specs.Json.{read_key, skip_value}
use Rattle.ttree_chrome.specs.Text.{IsAtList, is_list_key, list_among, lists_among}
use Rattle.ttree_chrome.proofs.Reading.{counted, last_among, later_among, next_member, none_among, passed, passed_other, uncounted}
use Rattle.ttree_chrome.proofs.text.find_list.Goals.{then-is_list_key+else-left-eq0, else-is_list_key}
use Rattle.ttree_chrome.proofs.text.find_list.Goals as goal

pub returns-then-left-eq0 : goal.returns-then-left-eq0
returns-then-left-eq0 c = λ all h count.
    let s = c.loop-left.invariant all h count in
    let found : read_key c.loop-left.reader ≡ Some (Some c.in-Some.key.now, c.next_key.new.self) = rw c.in-Some.is at c.in_ok-key.ensures.value in
    let f = next_member c.loop-left.reader c.next_key.new.self c.in-Some.key.now s.0 found s.1 in
    let is : is_list_key c.in-Some.key.now ≡ true = grind arith in
    let one : c.loop-left.left ≡ 1 = grind arith in
    let none : lists_among f.3 ≡ 0 = omega (arith, s.2, one, ap lists_among f.5, counted c.in-Some.key.now f.1 f.3 is) in
    let last : list_among all ≡ Some f.1 = s.3 ∙ ap list_among f.5 ∙ last_among c.in-Some.key.now f.1 f.3 is none in
    subst (λ o. IsAtList o c.enter_list.result c.enter_list.new.reader) (sym last) (c.enter_list.ensures f.1 (f.0, f.2, f.4))

pub loop-left-preserved : goal.loop-left-preserved
loop-left-preserved c = λ all h count.
    let s = c.loop-left.invariant all h count in
    let found : read_key c.loop-left.reader ≡ Some (Some c.in-Some.key.now, c.next_key.new.self) = rw c.in-Some.is at c.in_ok-key.ensures.value in
    let skipped : skip_value 128 c.next_key.new.self ≡ Some c.skip_value.new.self = c.in_ok-skip_value.ensures.value in
    let p = passed 128 c.loop-left.reader c.next_key.new.self c.skip_value.new.self c.in-Some.key.now s.0 found skipped s.1 in
    let more : (c.if-is_list_key.left ≡ lists_among p.1) × (list_among s.0 ≡ list_among p.1) =
    elim c.if-is_list_key.branch [
      | then-is_list_key+else-left-eq0 w ↦
          let is : is_list_key c.in-Some.key.now ≡ true = grind arith in
          let down : c.if-is_list_key.left + 1 ≡ c.loop-left.left = grind arith in
          let some : 0 < c.if-is_list_key.left = grind arith in
          let left : c.if-is_list_key.left ≡ lists_among p.1 = omega (arith, down, s.2, counted c.in-Some.key.now p.0 p.1 is, ap lists_among p.2) in
          (left, ap list_among p.2 ∙ later_among c.in-Some.key.now p.0 p.1 (omega (arith, left, some)))
      | else-is_list_key w ↦
          let is : is_list_key c.in-Some.key.now ≡ false = grind arith in
          let left : c.if-is_list_key.left ≡ lists_among p.1 = omega (arith, w.left-is, s.2, uncounted c.in-Some.key.now p.0 p.1 is, ap lists_among p.2) in
          (left, ap list_among p.2 ∙ passed_other c.in-Some.key.now p.0 p.1 is)
    ] in
    (p.1, p.3, more.0, s.3 ∙ more.1)

pub returns : goal.returns
returns c = λ all h count.
    let s = c.loop-left.invariant all h count in
    let none : lists_among s.0 ≡ 0 = omega (arith, s.2) in
    ap (option_and_then as_array) (s.3 ∙ none_among s.0 none)
