use Rattle.std.proofs.Common.{rules, ◌≡◌, Bool, Some, None, sym, subst, arith}
use Rattle.json.specs.Json.{after_end_array, value}
use Rattle.json.specs.Value.{value_view}
use Rattle.ttree_chrome.specs.Notes.{IsNoted, element_notes}
use Rattle.ttree_chrome.specs.Trace.{EndsInterpreting, interpreted_all}
use Rattle.ttree_chrome.proofs.Noting.{no_ok}
use Rattle.ttree_chrome.proofs.Taking.{all_counted, all_noted, all_taken, ended_at, none_taken, noted_at, noted_before, one_more_taken}
use Rattle.ttree_chrome.proofs.trace.Interpreted.take_all.Goals as goal

pub loop-number-init : goal.loop-number-init
loop-number-init g c = record {
  numbered = omega arith;
  taken = λ all inside. none_taken all c.args.self.now c.args.elements.now (g.N.Notes.noted c.args.notes.now) inside;
}

pub returns-then-take_end_array-clause-interpreted : goal.returns-then-take_end_array-clause-interpreted
returns-then-take_end_array-clause-interpreted g c = λ all inside.
    let closed : after_end_array c.loop-number.elements ≡ Some c.take_end_array.new.self = grind arith in
    sym (all_taken all c.args.self.now c.loop-number.elements c.loop-number.self c.loop-number.number _ _ c.take_end_array.new.self (c.loop-number.invariant.taken all inside) closed)

pub returns-then-take_end_array-clause-noted : goal.returns-then-take_end_array-clause-noted
returns-then-take_end_array-clause-noted g c = λ all inside.
    let closed : after_end_array c.loop-number.elements ≡ Some c.take_end_array.new.self = grind arith in
    all_noted all c.args.self.now c.loop-number.elements c.loop-number.self c.loop-number.number _ _ c.take_end_array.new.self (c.loop-number.invariant.taken all inside) closed

pub returns-then-take_end_array-clause-count : goal.returns-then-take_end_array-clause-count
returns-then-take_end_array-clause-count g c = λ all inside.
    let closed : after_end_array c.loop-number.elements ≡ Some c.take_end_array.new.self = grind arith in
    omega (arith, all_counted all c.args.self.now c.loop-number.elements c.loop-number.self c.loop-number.number _ _ c.take_end_array.new.self (c.loop-number.invariant.taken all inside) closed)

pub returns-in_default-clause-noted : goal.returns-in_default-clause-noted
returns-in_default-clause-noted g c = λ all inside.
    noted_before all c.args.self.now c.loop-number.elements c.loop-number.self c.loop-number.number _ _ (c.loop-number.invariant.taken all inside)

pub returns-clause-noted : goal.returns-clause-noted
returns-clause-noted g c = λ all inside.
    noted_before all c.args.self.now c.loop-number.elements c.loop-number.self c.loop-number.number _ _ (c.loop-number.invariant.taken all inside)

pub returns-in_err-take-clause-ended : goal.returns-in_err-take-clause-ended
returns-in_err-take-clause-ended g c = λ all inside.
    let l = c.loop-number in
    let j = value_view c.in-Ok.element in
    let going : (after_end_array l.elements ≡ None) × (c.take_end_array.new.self ≡ l.elements) = grind arith in
    let found : value 128 l.elements ≡ Some (value_view c.in-Ok.element, c.read.new.reader) = rw going.1 at c.in-Ok.ensures.ok in
    let cause = c.in_err-take.field-0.0 in
    let ended : EndsInterpreting cause c.take.new.self (interpreted_all all c.args.self.now) =
    ended_at all c.args.self.now l.elements c.read.new.reader l.self c.take.new.self l.number j (g.N.Notes.noted c.args.notes.now) (g.N.Notes.noted l.notes) (g.N.Notes.noted c.take.new.notes) 128 cause (l.invariant.taken all inside) going.0 found c.in_err-take.ensures.ended in
    search rules

pub returns-in_err-take-clause-noted : goal.returns-in_err-take-clause-noted
returns-in_err-take-clause-noted g c = λ all inside.
    let l = c.loop-number in
    let j = value_view c.in-Ok.element in
    let going : (after_end_array l.elements ≡ None) × (c.take_end_array.new.self ≡ l.elements) = grind arith in
    let found : value 128 l.elements ≡ Some (value_view c.in-Ok.element, c.read.new.reader) = rw going.1 at c.in-Ok.ensures.ok in
    let P : Bool → Type 0 = λ is_whole. IsNoted (element_notes 1 all) is_whole c.args.self.now.unknown c.take.new.self.unknown (g.N.Notes.noted c.args.notes.now) (g.N.Notes.noted c.take.new.notes) in
    subst P (sym (no_ok c.from_residual.result c.from_residual.ensures.0))
    (noted_at all c.args.self.now l.elements c.read.new.reader l.self c.take.new.self l.number j (g.N.Notes.noted c.args.notes.now) (g.N.Notes.noted l.notes) (g.N.Notes.noted c.take.new.notes) 128 (l.invariant.taken all inside) going.0 found c.in_err-take.ensures.noted)

pub loop-number-preserved : goal.loop-number-preserved
loop-number-preserved g c = record {
  numbered = omega (arith, c.loop-number.invariant.numbered);
  taken = λ all inside.
      let l = c.loop-number in
      let j = value_view c.in-Ok.element in
      let going : (after_end_array l.elements ≡ None) × (c.take_end_array.new.self ≡ l.elements) = grind arith in
      let found : value 128 l.elements ≡ Some (value_view c.in-Ok.element, c.read.new.reader) = rw going.1 at c.in-Ok.ensures.ok in
      one_more_taken all c.args.self.now l.elements c.read.new.reader l.self c.take.new.self l.number j (g.N.Notes.noted c.args.notes.now) (g.N.Notes.noted l.notes) (g.N.Notes.noted c.take.new.notes) 128 (l.invariant.taken all inside) going.0 found c.in_ok-take.ensures.interpreted c.in_ok-take.ensures.noted;
}
