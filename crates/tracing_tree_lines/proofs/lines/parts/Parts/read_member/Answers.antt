use Rattle.std.proofs.Common.{◌≡◌, codes, refl, rules}
use Rattle.tracing_tree_lines.proofs.LineTokens.{word_member, fields_member}
use Rattle.tracing_tree_lines.proofs.lines.parts.Parts.read_member.Goals as goal

pub returns-in_ok-part-in_default : goal.returns-in_ok-part-in_default
returns-in_ok-part-in_default c =
    let part = c.in_ok-part-in_default in
    let set = c.set.ensures in
    word_member c.args.key.now c.args.reader.now c.read_part.new.reader part.part c.args.self.now c.set.new.self c.read_part.new.is_whole c.in_default.not-fields part.ensures set.put set.whole

pub returns-in_ok-self-in-fields : goal.returns-in_ok-self-in-fields
returns-in_ok-self-in-fields c =
    let list = c.in_ok-self-in-fields in
    let key : c.args.key.now ≡ codes "fields" = search rules in
    fields_member c.args.key.now c.args.reader.now c.read_list.new.reader list.field-0 c.args.self.now _ c.read_list.new.is_whole key list.ensures refl refl
