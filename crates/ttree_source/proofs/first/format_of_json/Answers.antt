use Rattle.std.proofs.Common.{◌≡◌, ℕ, Bool, true, false, List, Option, IfOk, None, sym, ap, subst, ◌∙◌}
use Rattle.std.specs.Prelude.{if◌then◌else◌}
use Rattle.std.specs.Str.{is_utf8}
use Rattle.std.proofs.lemmas.Str.{is_utf8-from_IsUtf8}
use Rattle.json.specs.Json.{document}
use Rattle.ttree_source.specs.First.{begins_object, format_by, format_of_json}
use Rattle.ttree_source.specs.declared.first.Format.{Format}
use Rattle.ttree_source.proofs.Interpreted.{no_text}
use Rattle.ttree_source.proofs.first.format_of_json.Goals as goal

abbrev judged : List ℕ → Bool → Option Format
judged line is_text = format_by (begins_object line) (if is_text then document line else None)

known : (line : List ℕ) (is_text : Bool) → is_utf8 line ≡ is_text → judged line is_text ≡ format_of_json line
known line is_text is = sym (ap (judged line) is)

pub returns-in-Err : goal.returns-in-Err
returns-in-Err c =
    let line = c.args.line.now in
    c.format_by.ensures ∙ ap (λ b. format_by b None) c.begins_object-is_object.ensures ∙ known line false (no_text line c.in-Err.ensures)

pub returns-in-Ok : goal.returns-in-Ok
returns-in-Ok c =
    let line = c.args.line.now in
    let same : format_by c.begins_object-is_object.result (document c.in-Ok.text.now) ≡ format_of_json line =
    ap (λ b. format_by b (document c.in-Ok.text.now)) c.begins_object-is_object.ensures
    ∙ ap (λ t. format_by (begins_object line) (document t)) c.in-Ok.ensures.0
    ∙ known line true (is_utf8-from_IsUtf8 line c.in-Ok.ensures.1) in
    subst (λ (f : Option Format). IfOk c.format_of_text.result (λ format. format ≡ f)) same c.format_of_text.ensures
