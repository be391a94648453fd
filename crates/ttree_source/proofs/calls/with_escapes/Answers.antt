use Rattle.std.proofs.Common.{rules, ◌∙◌, ◌++◌, sym, ap, append_assoc, append-nil, flat_map, string_bytes}
use Rattle.std.proofs.lemmas.Str.{IsUtf8-past_char, chars_past_char}
use Rattle.std.proofs.StrCases.{chars_of_empty}
use Rattle.ttree_source.specs.Calls.{shown_char, shown_text}
use Rattle.ttree_source.proofs.calls.with_escapes.Goals as goal

pub loop-c-init : goal.loop-c-init
loop-c-init c = search rules

pub loop-c-preserved : goal.loop-c-preserved
loop-c-preserved c =
    let held = c.loop-c.invariant in
    let parts = c.in-Some.ensures.steps.0 in
    let out = string_bytes c.loop-c.out in
    let rest = c.next.new.self.rest.now in (
      IsUtf8-past_char _ _ c.in-Some.c held.0 parts,
      ap (λ l. l ++ shown_text rest) c.in_ok-push_shown.ensures ∙ append_assoc out (shown_char c.in-Some.c) (shown_text rest)
          ∙ ap (λ l. out ++ l) (sym (ap (flat_map shown_char) (chars_past_char _ _ c.in-Some.c held.0 parts))) ∙ held.1,
    )

pub returns : goal.returns
returns c =
    c.from.ensures ∙ sym (append-nil (string_bytes c.loop-c.out)) ∙ (rw (chars_of_empty _ c.in-None.ensures.steps.0.0) at c.loop-c.invariant.1)
