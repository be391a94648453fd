use Rattle.std.proofs.Common.{◌≡◌, sym, rules, codes, false}
use Rattle.std.specs.Prelude.{bytes_eq}
use Rattle.tracing_tree_lines.specs.Lines.Parts.{part_data}
use Rattle.tracing_tree_lines.proofs.Choices.{apart}
use Rattle.tracing_tree_lines.proofs.LineParts.{other_key}
use Rattle.tracing_tree_lines.proofs.lines.parts.Parts.set.Goals as goal

pub returns-else-str_eq-11-clause-put : goal.returns-else-str_eq-11-clause-put
returns-else-str_eq-11-clause-put c =
    let key = c.args.key.now in
    let call : bytes_eq key (codes "call") ≡ false = search rules in
    let id : bytes_eq key (codes "id") ≡ false = search rules in
    let name : bytes_eq key (codes "name") ≡ false = search rules in
    let level : bytes_eq key (codes "level") ≡ false = search rules in
    let target : bytes_eq key (codes "target") ≡ false = search rules in
    let parent : bytes_eq key (codes "parent") ≡ false = search rules in
    let current : bytes_eq key (codes "current") ≡ false = search rules in
    let thread : bytes_eq key (codes "thread") ≡ false = search rules in
    let thread_name : bytes_eq key (codes "thread_name") ≡ false = search rules in
    let mono : bytes_eq key (codes "mono") ≡ false = search rules in
    let wall : bytes_eq key (codes "wall") ≡ false = search rules in
    let fields = apart key (codes "fields") c.requires in
    sym (other_key key (part_data c.args.part) c.args.self.now
    (call, (id, (name, (level, (target, (parent, (fields, (current, (thread, (thread_name, (mono, (wall, tt)))))))))))))
