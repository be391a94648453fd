use Rattle.std.proofs.Common.{option_map, refl, sym, ap, ◌∙◌, false, codes}
use Rattle.std.proofs.lemmas.Str.Pattern.{ends_text}
use Rattle.ttree_tracing.proofs.tracing.line.bare_thread.Goals as goal

pub returns-in-None : goal.returns-in-None
returns-in-None c =
    let after = sym c.after_mark.ensures ∙ ap (option_map (λ s. s.now)) c.in-Some.is in
    rw (after, sym (ends_text false (codes ")") c.in-Some.rest.now c.in-None.ensures.cases)) refl
