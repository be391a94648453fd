use Rattle.std.proofs.Common.{take}
use Rattle.ttree_source.specs.Noted.{AddsNotes}
use Rattle.ttree_otlp.specs.Otlp.{notes_of}
use Rattle.ttree_otlp.proofs.otlp.note_all.Given as goal

-- those so far were noted
abbrev pub invariant-loop-line : goal.invariant-loop-line
invariant-loop-line g l =
    AddsNotes (notes_of (take l.line-index l.problems)) (g.N.Notes.noted l.fn.notes) (g.N.Notes.noted l.notes)
