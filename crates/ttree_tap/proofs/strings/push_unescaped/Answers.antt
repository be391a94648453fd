use Rattle.std.proofs.Common.{rules, ◌≡◌, ◌∙◌, ◌++◌, List, ℕ, sym, ap, subst, append_assoc, string_bytes}
use Rattle.std.specs.Prelude.{OnOk}
use Rattle.std.specs.Str.{chars}
use Rattle.std.proofs.lemmas.Str.{IsUtf8-past_char, chars_past_char}
use Rattle.std.proofs.StrCases.{chars_of_empty}
use Rattle.ttree_tap.specs.Strings.{past_escape, unescaped_char, unescaped_from}
use Rattle.ttree_tap.proofs.strings.push_unescaped.Goals as goal

pub loop-c-init : goal.loop-c-init
loop-c-init c = search rules

pub loop-c-preserved : goal.loop-c-preserved
loop-c-preserved c =
    let held = c.loop-c.invariant in
    let parts = c.in-Some.ensures.steps.0 in
    let out = string_bytes c.loop-c.out in
    let is = c.loop-c.is_escaped in
    let rest = chars c.next.new.self.rest.now in
    let next = unescaped_from (past_escape is c.in-Some.c) rest in (
      IsUtf8-past_char _ _ c.in-Some.c held.0 parts,
      ap (λ b. string_bytes c.push_char.new.out ++ unescaped_from b rest) c.past_escape-is_escaped.ensures
          ∙ ap (λ l. l ++ next) c.in_ok-push_char.ensures ∙ append_assoc out (unescaped_char is c.in-Some.c) next
          ∙ ap (λ l. out ++ l) (sym (ap (unescaped_from is) (chars_past_char _ _ c.in-Some.c held.0 parts))) ∙ held.1,
    )

pub returns : goal.returns
returns c =
    let all = rw (chars_of_empty _ c.in-None.ensures.steps.0.0) at c.loop-c.invariant.1 in
    subst (λ (b : List ℕ). OnOk c.push_last.result (string_bytes c.push_last.new.out ≡ b)) all c.push_last.ensures
