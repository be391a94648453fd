use Rattle.std.proofs.Common.{◌+◌, Ok, Some, sym, ◌∙◌, subst, refl, arith}
use Rattle.std.proofs.lemmas.Str.Pattern.{split_parts}
use Rattle.tracing_tree_drawing.specs.Rows.Texts.{IsReadTo, TakesTextLine, TakesNext, ReportsFault, TextLeft}
use Rattle.tracing_tree_drawing.specs.declared.rows.read.ReadFault.TheVariants.{Line}
use Rattle.tracing_tree_drawing.specs.declared.rows.read.Taken.{Taken}
use Rattle.tracing_tree_drawing.proofs.RowsRead.ReadPlaces.{unbroken-from}
use Rattle.tracing_tree_drawing.proofs.RowsRead.Taken.{left_by, taken-next, taken-bad, taken-rest}
use Rattle.tracing_tree_drawing.proofs.rows.read.TextReader.take_line.Goals as goal
use Rattle.tracing_tree_drawing.proofs.rows.read.TextReader.take_line.Goals.{in-Neither, in_default-taken}

pub take_unbroken-requires : goal.take_unbroken-requires
take_unbroken-requires c =
    let parts = split_parts 10 c.self.inside.rest.now c.split_once.result c.split_once.ensures.cases (omega arith) in
    let cut = rw c.in-Some.is at parts in
    unbroken-from c.in-Some.line.now cut.1

pub returns-in_default-clause-next : goal.returns-in_default-clause-next
returns-in_default-clause-next c text rows h =
    let parts = split_parts 10 c.self.inside.rest.now c.split_once.result c.split_once.ensures.cases (omega arith) in
    let unbroken = rw c.in_default.is at parts in
    let here : TextLeft = left_by c.self.inside.reader c.self.inside.rest.now c.self.inside.lines in
    let read : IsReadTo text rows here = subst (λ (v : TextLeft). IsReadTo text rows v) (sym c.self.view_is) h in
    subst (λ (v : TextLeft). ReportsFault v.reader.amount text (Line (c.self.inside.lines + 1))) c.self.view_is
    (taken-rest text rows here c.self.invariant.0 (sym c.is_empty.ensures ∙ c.if-is_empty.false) unbroken read)

pub returns-clause-next : goal.returns-clause-next
returns-clause-next c text rows h =
    let parts = split_parts 10 c.self.inside.rest.now c.split_once.result c.split_once.ensures.cases (omega arith) in
    let cut = rw c.in-Some.is at parts in
    let line = c.in-Some.line.now in
    let after = c.in-Some.rest.now in
    let taken = c.in_ok-taken.taken in
    let reader = c.take_unbroken.new.self in
    let lines = c.self.inside.lines + 1 in
    let here : TextLeft = left_by c.self.inside.reader c.self.inside.rest.now c.self.inside.lines in
    let read : IsReadTo text rows here = subst (λ (v : TextLeft). IsReadTo text rows v) (sym c.self.view_is) h in
    elim c.match-taken.branch [
      | in-Neither w ↦
          let neither = subst (λ (t : Taken). TakesTextLine here.reader line (Ok t) reader) w.in-Neither.is c.in_ok-taken.ensures in
          rw w.result-is (subst (λ (v : TextLeft). ReportsFault v.reader.amount text (Line lines)) c.self.view_is
          (taken-bad text rows here line after reader lines c.self.invariant.0 cut.0 cut.1 neither refl read))
      | in_default-taken w ↦
          rw w.result-is (subst (λ (v : TextLeft). TakesNext text rows v (Ok (Some taken)) (left_by reader after lines)) c.self.view_is
          (taken-next text rows here line after taken reader lines w.in_default-taken.not-Neither cut.0 cut.1 c.in_ok-taken.ensures refl read))
    ]
