use Rattle.std.proofs.Common.{◌≡◌, true, false, option_and_then, sym, ap, ◌∙◌, subst}
use Rattle.json.specs.Find.{BeginsWith}
use Rattle.json.specs.Json.{document}
use Rattle.ttree_chrome.specs.Text.{Opens, elements_in, list_count, lists_among, lists_in}
use Rattle.ttree_chrome.specs.declared.text.Opening.TheVariants.{Object}
use Rattle.ttree_chrome.proofs.Reading.{IsAt, in_array, in_object, in_other, moved, read_whole}
use Rattle.ttree_chrome.proofs.text.elements_of.Goals.{in-Array, in-Object+in_ok-is_list-in-Object, in-Other}
use Rattle.ttree_chrome.proofs.text.elements_of.Goals as goal

pub returns-then-is_list : goal.returns-then-is_list
returns-then-is_list c =
    let d = read_whole c.args.text.now c.requires.valid in
    let begins : BeginsWith c.in_ok-reader.reader d.0 = subst (λ ts. BeginsWith ts d.0) (sym c.in_ok-reader.ensures.ok) d.2 in
    let opens = c.enter.ensures d.0 begins in
    let at : IsAt (option_and_then elements_in (document c.args.text.now)) c.match-enter.is_list c.match-enter.reader =
    elim c.match-enter.branch [
      | in-Array w ↦
          moved c.args.text.now d.0 c.match-enter.is_list true c.enter.new.reader c.match-enter.reader d.1 w.is_list-is w.reader-is
          (in_array d.0 c.enter.new.reader (subst (λ x. Opens d.0 x c.enter.new.reader) w.in-Array.is opens))
      | in-Object+in_ok-is_list-in-Object w ↦
          let o : Opens d.0 Object c.enter.new.reader = subst (λ x. Opens d.0 x c.enter.new.reader) w.in-Object.is opens in
          let count : c.in_ok-count.count ≡ lists_among o.0 = c.in_ok-count.ensures ∙ ap list_count d.1 ∙ ap lists_in o.1 in
          moved c.args.text.now d.0 c.match-enter.is_list w.in_ok-is_list-in-Object.is_list w.find_list.new.reader c.match-enter.reader d.1 w.is_list-is w.reader-is
          (in_object d.0 o.0 w.in_ok-is_list-in-Object.is_list w.find_list.new.reader o.1 (w.in_ok-is_list-in-Object.ensures o.0 o.2 count))
      | in-Other w ↦
          moved c.args.text.now d.0 c.match-enter.is_list false c.enter.new.reader c.match-enter.reader d.1 w.is_list-is w.reader-is
          (in_other d.0 c.enter.new.reader (subst (λ x. Opens d.0 x c.enter.new.reader) w.in-Other.is opens))
    ] in
    subst (λ b. IsAt (option_and_then elements_in (document c.args.text.now)) b c.match-enter.reader) c.if-is_list.true at

pub returns-else-is_list : goal.returns-else-is_list
returns-else-is_list c =
    let d = read_whole c.args.text.now c.requires.valid in
    let begins : BeginsWith c.in_ok-reader.reader d.0 = subst (λ ts. BeginsWith ts d.0) (sym c.in_ok-reader.ensures.ok) d.2 in
    let opens = c.enter.ensures d.0 begins in
    let at : IsAt (option_and_then elements_in (document c.args.text.now)) c.match-enter.is_list c.match-enter.reader =
    elim c.match-enter.branch [
      | in-Array w ↦
          moved c.args.text.now d.0 c.match-enter.is_list true c.enter.new.reader c.match-enter.reader d.1 w.is_list-is w.reader-is
          (in_array d.0 c.enter.new.reader (subst (λ x. Opens d.0 x c.enter.new.reader) w.in-Array.is opens))
      | in-Object+in_ok-is_list-in-Object w ↦
          let o : Opens d.0 Object c.enter.new.reader = subst (λ x. Opens d.0 x c.enter.new.reader) w.in-Object.is opens in
          let count : c.in_ok-count.count ≡ lists_among o.0 = c.in_ok-count.ensures ∙ ap list_count d.1 ∙ ap lists_in o.1 in
          moved c.args.text.now d.0 c.match-enter.is_list w.in_ok-is_list-in-Object.is_list w.find_list.new.reader c.match-enter.reader d.1 w.is_list-is w.reader-is
          (in_object d.0 o.0 w.in_ok-is_list-in-Object.is_list w.find_list.new.reader o.1 (w.in_ok-is_list-in-Object.ensures o.0 o.2 count))
      | in-Other w ↦
          moved c.args.text.now d.0 c.match-enter.is_list false c.enter.new.reader c.match-enter.reader d.1 w.is_list-is w.reader-is
          (in_other d.0 c.enter.new.reader (subst (λ x. Opens d.0 x c.enter.new.reader) w.in-Other.is opens))
    ] in
    subst (λ b. IsAt (option_and_then elements_in (document c.args.text.now)) b c.match-enter.reader) c.if-is_list.false at
