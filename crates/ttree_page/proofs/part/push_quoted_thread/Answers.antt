use Rattle.std.proofs.Common.{◌≡◌, ◌++◌, true, ap, ◌∙◌, string_bytes}
use Rattle.tracing_tree_drawing.specs.Format.Texts.{thread_name_text}
use Rattle.std.specs.Fmt.{decimal}
use Rattle.ttree_page.proofs.Appended.{on_ok, thread-pushed}
use Rattle.ttree_page.proofs.part.push_quoted_thread.Goals as goal

pub returns-clause-ok : goal.returns-clause-ok
returns-clause-ok c =
    let context = c.args.context.now in
    let before = string_bytes c.push_str.new.self in
    let number : string_bytes c.push_str-2.new.self ≡ before ++ decimal context.thread_id =
    c.in_ok-push_str-2.ensures.bytes ∙ ap (λ text. before ++ text) c.format.ensures.text in
    thread-pushed c.push_str-3.result context.thread_id (thread_name_text true context.thread_name) (string_bytes c.args.out.now) before (string_bytes c.push_str-2.new.self)
    (string_bytes c.push_thread_name.new.out) (string_bytes c.push_str-3.new.self) c.in_ok-push_str.ensures.bytes number
    c.in_ok-push_thread_name.ensures.ok (on_ok c.push_str-3.result _ _ _ c.push_str-3.ensures.bytes)
