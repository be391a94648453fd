use Rattle.std.proofs.Common.{◌≡◌, ◌+◌, true, false, None, Some, sym, ap, ◌∙◌, arith}
use Rattle.json.specs.Json.{read_key, no_members, skip_value}
use Rattle.ttree_chrome.specs.Text.{is_list_key, lists_among}
use Rattle.ttree_chrome.proofs.Reading.{counted, no_more, passed, uncounted}
use Rattle.ttree_chrome.proofs.text.count_lists.Goals.{then-is_list_key+in_ok-count, else-is_list_key}
use Rattle.ttree_chrome.proofs.text.count_lists.Goals as goal

pub loop-key-init : goal.loop-key-init
loop-key-init c = λ all h. (all, h, omega arith)

pub loop-key-preserved : goal.loop-key-preserved
loop-key-preserved c = λ all h.
    let s = c.loop-key.invariant all h in
    let found : read_key c.loop-key.reader ≡ Some (Some c.in-Some.key.now, c.next_key.new.self) = rw c.in-Some.is at c.in_ok-key.ensures.value in
    let skipped : skip_value 128 c.next_key.new.self ≡ Some c.skip_value.new.self = c.in_ok-skip_value.ensures.value in
    let p = passed 128 c.loop-key.reader c.next_key.new.self c.skip_value.new.self c.in-Some.key.now s.0 found skipped s.1 in
    let more : c.if-is_list_key.count + lists_among p.1 ≡ c.loop-key.count + lists_among s.0 =
    elim c.if-is_list_key.branch [
      | then-is_list_key+in_ok-count w ↦
          let is : is_list_key c.in-Some.key.now ≡ true = grind arith in
          let up : c.if-is_list_key.count ≡ c.loop-key.count + 1 = grind arith in
          omega (arith, up, counted c.in-Some.key.now p.0 p.1 is, ap lists_among p.2)
      | else-is_list_key w ↦
          let is : is_list_key c.in-Some.key.now ≡ false = grind arith in
          omega (arith, w.count-is, uncounted c.in-Some.key.now p.0 p.1 is, ap lists_among p.2)
    ] in
    (p.1, p.3, s.2 ∙ sym more)

pub returns : goal.returns
returns c = λ all h.
    let s = c.loop-key.invariant all h in
    let end : c.in_ok-key.field-0 ≡ None = grind arith in
    let found : read_key c.loop-key.reader ≡ Some (None, c.next_key.new.self) = rw end at c.in_ok-key.ensures.value in
    let none : s.0 ≡ no_members = no_more c.loop-key.reader c.next_key.new.self s.0 found s.1 in
    sym (s.2 ∙ ap (λ ms. c.loop-key.count + lists_among ms) none ∙ omega arith)
