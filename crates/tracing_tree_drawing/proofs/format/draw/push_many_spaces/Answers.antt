use Rattle.std.proofs.Common.{◌≡◌, ◌∙◌, ◌++◌, ◌%◌, ◌/◌, List, ℕ, Result, Ok, Err, arith, ap, append_assoc, string_bytes}
use Rattle.std.proofs.lemmas.Str.{IsCharBoundary-from_ascii}
use Rattle.std.specs.List.{repeat}
use Rattle.std.specs.Prelude.{OnOk, is_ok, replicate, if◌then◌else◌}
use Rattle.tracing_tree_drawing.specs.Format.Picture.{columns}
use Rattle.tracing_tree_drawing.proofs.Characters.{space}
use Rattle.tracing_tree_drawing.proofs.Spaces.{ready-spaces, ascii-spaces, many-spaces}
use Rattle.tracing_tree_drawing.proofs.format.draw.push_many_spaces.Goals as goal

pub range-requires-clause-end_boundary : goal.range-requires-clause-end_boundary
range-requires-clause-end_boundary c =
    IsCharBoundary-from_ascii (replicate 64 space) (c.args.count % 64) (ascii-spaces 64) (omega arith)

pub returns-clause-ok : goal.returns-clause-ok
returns-clause-ok c =
    let old = string_bytes c.args.out.now in
    let rest : c.range.result.now ≡ columns (c.args.count % 64) space =
    c.range.ensures.value ∙ ready-spaces 64 (c.args.count % 64) (omega arith) in
    pushed c.push_str.result _ _ _ _ c.push_str.ensures.bytes
    (ap (λ text. text ++ c.range.result.now) c.in_ok-push_repeated.ensures.ok
    ∙ append_assoc old (repeat (c.args.count / 64) (replicate 64 space)) c.range.result.now
    ∙ ap (λ text. old ++ (repeat (c.args.count / 64) (replicate 64 space) ++ text)) rest
    ∙ ap (λ text. old ++ text) (many-spaces c.args.count 64))
  where
    pushed : {T E : Type 0} (r : Result T E) (new on off text : List ℕ) → new ≡ (if is_ok r then on else off) → on ≡ text → OnOk r (new ≡ text)
    pushed (Ok done) new on off text e same = e ∙ same
    pushed (Err fault) new on off text e same = tt
