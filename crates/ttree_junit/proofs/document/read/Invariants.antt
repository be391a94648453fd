use Rattle.std.proofs.Common.{◌≡◌, ◌-◌, length}
use Rattle.xml.specs.Xml.{at_start}
use Rattle.ttree_junit.specs.Document.{read_within}
use Rattle.ttree_junit.proofs.document.read.Given as goal

-- the rest of the document is left to be read
abbrev pub invariant-loop-token : goal.invariant-loop-token
invariant-loop-token l =
    read_within (length l.text) (at_start l.text) l.fn.junit
    ≡ read_within (length l.text - l._token) l.reader l.junit
