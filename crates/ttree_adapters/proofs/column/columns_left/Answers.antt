use Rattle.std.proofs.Common.{rules, ◌∙◌, ℕ, sym, ap}
use Rattle.std.specs.Str.{chars}
use Rattle.std.proofs.lemmas.Str.{IsUtf8-past_char, chars_past_char}
use Rattle.std.proofs.StrCases.{chars_of_empty}
use Rattle.ttree_adapters.specs.Column.{columns_left}
use Rattle.ttree_adapters.proofs.column.columns_left.Goals as goal

pub loop-c-init : goal.loop-c-init
loop-c-init c = search rules

pub loop-c-preserved : goal.loop-c-preserved
loop-c-preserved c =
    let held = c.loop-c.invariant in
    let parts = c.in-Some.ensures.steps.0 in
    let rest = chars c.next.new.self.rest.now in (
      IsUtf8-past_char _ _ c.in-Some._c held.0 parts,
      ap (λ (n : ℕ). columns_left n rest) c.saturating_sub-left.ensures
          ∙ sym (ap (columns_left c.loop-c.left) (chars_past_char _ _ c.in-Some._c held.0 parts)) ∙ held.1,
    )

pub returns : goal.returns
returns c = rw (chars_of_empty _ c.in-None.ensures.steps.0.0) at c.loop-c.invariant.1
