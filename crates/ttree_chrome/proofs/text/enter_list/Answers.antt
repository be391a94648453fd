use Rattle.std.proofs.Common.{subst}
use Rattle.ttree_chrome.specs.Text.{Opens}
use Rattle.ttree_chrome.proofs.Reading.{at_list, at_other}
use Rattle.ttree_chrome.proofs.text.enter_list.Goals as goal

pub returns-in-Array : goal.returns-in-Array
returns-in-Array c = λ value h.
    at_list value c.enter.new.reader (subst (λ o. Opens value o c.enter.new.reader) c.in-Array.is (c.enter.ensures value h))

pub returns-in-Object : goal.returns-in-Object
returns-in-Object c = λ value h.
    at_other c.enter.result value c.enter.new.reader c.in-Object.is (c.enter.ensures value h)
