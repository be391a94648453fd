use Rattle.std.proofs.Common.{◌∙◌, ◌||◌, Bool, sym, ap}
use Rattle.std.specs.List.{list_any}
use Rattle.std.specs.Str.{chars}
use Rattle.std.proofs.lemmas.Str.{IsUtf8-past_char, chars_past_char}
use Rattle.std.proofs.StrCases.{chars_of_empty}
use Rattle.ttree_source.specs.Calls.{is_escaped}
use Rattle.ttree_source.proofs.calls.has_escaped.Goals as goal

pub loop-c-preserved : goal.loop-c-preserved
loop-c-preserved c =
    let held = c.loop-c.invariant in
    let parts = c.in-Some.ensures.steps.0 in
    let others = list_any is_escaped (chars c.next.new.self.rest.now) in (
      IsUtf8-past_char _ _ c.in-Some.c held.0 parts,
      ap (λ (here : Bool). here || others) (sym (sym c.is_escaped.ensures ∙ c.if-is_escaped.false))
          ∙ sym (ap (list_any is_escaped) (chars_past_char _ _ c.in-Some.c held.0 parts)) ∙ held.1,
    )

pub returns-then-is_escaped : goal.returns-then-is_escaped
returns-then-is_escaped c =
    let held = c.loop-c.invariant in
    let parts = c.in-Some.ensures.steps.0 in
    let others = list_any is_escaped (chars c.next.new.self.rest.now) in
    ap (λ (here : Bool). here || others) (sym (sym c.is_escaped.ensures ∙ c.if-is_escaped.true))
    ∙ sym (ap (list_any is_escaped) (chars_past_char _ _ c.in-Some.c held.0 parts)) ∙ held.1

pub returns : goal.returns
returns c = rw (chars_of_empty _ c.in-None.ensures.steps.0.0) at c.loop-c.invariant.1
