use Rattle.std.proofs.Common.{◌≡◌, List, ℕ, IfOk, refl, subst}
use Rattle.std.proofs.lemmas.Str.{is_utf8-from_IsUtf8}
use Rattle.json.specs.Json.{document}
use Rattle.ttree_source.proofs.Interpreted.{no_text}
use Rattle.ttree_source.proofs.run.problem_of.Goals as goal

pub returns-in-Err : goal.returns-in-Err
returns-in-Err g c = rw (no_text c.args.line.now c.in-Err.ensures) refl

pub returns-in-Ok : goal.returns-in-Ok
returns-in-Ok g c =
    let P : List ℕ → Type 0 = λ t. IfOk c.problem_of_text.result (λ problem. problem ≡ g.S.Source.value_problem (document t)) in
    rw (is_utf8-from_IsUtf8 c.args.line.now c.in-Ok.ensures.1) (subst P c.in-Ok.ensures.0 c.problem_of_text.ensures)
