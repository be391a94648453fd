use Rattle.std.proofs.Common.{◌≡◌, IfOk, sym, ap, ◌∙◌, subst}
use Rattle.json.specs.Find.{BeginsWith}
use Rattle.ttree_chrome.specs.Text.{Opens, list_count, lists_in}
use Rattle.ttree_chrome.specs.declared.text.Opening.TheVariants.{Object}
use Rattle.ttree_chrome.proofs.Reading.{other_counted, read_whole}
use Rattle.ttree_chrome.proofs.text.list_count.Goals as goal

pub returns-in-Object : goal.returns-in-Object
returns-in-Object c =
    let d = read_whole c.args.text.now c.requires.valid in
    let begins : BeginsWith c.in_ok-reader.reader d.0 = subst (λ ts. BeginsWith ts d.0) (sym c.in_ok-reader.ensures.ok) d.2 in
    let o : Opens d.0 Object c.enter.new.reader = subst (λ x. Opens d.0 x c.enter.new.reader) c.in-Object.is (c.enter.ensures d.0 begins) in
    subst (λ n. IfOk c.count_lists.result (λ count. count ≡ n)) (sym (ap list_count d.1 ∙ ap lists_in o.1)) (c.count_lists.ensures o.0 o.2)

pub returns-in-Array : goal.returns-in-Array
returns-in-Array c =
    let d = read_whole c.args.text.now c.requires.valid in
    let begins : BeginsWith c.in_ok-reader.reader d.0 = subst (λ ts. BeginsWith ts d.0) (sym c.in_ok-reader.ensures.ok) d.2 in
    sym (ap list_count d.1 ∙ other_counted c.enter.result d.0 c.enter.new.reader c.in-Array.is (c.enter.ensures d.0 begins))
