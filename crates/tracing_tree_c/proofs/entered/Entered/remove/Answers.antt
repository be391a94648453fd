use Rattle.std.proofs.Common.{◌≡◌, ◌<◌, ◌∙◌, ap, length, sym, rules}
use Rattle.std.specs.Prelude.{Some, None}
use Rattle.tracing_tree_c.specs.Entered.{entry_place, without_last}
use Rattle.tracing_tree_c.proofs.Entries.{found, missing}
use Rattle.tracing_tree_c.proofs.entered.Entered.remove.Goals as goal

pub remove-requires : goal.remove-requires
remove-requires c =
    let e : entry_place c.args.id 0 c.self.inside.ids.items ≡ Some c.in-Some.place = search rules in
    let below : c.in-Some.place < length c.self.inside.ids.items = (found c.args.id c.self.inside.ids.items c.in-Some.place e).0 in
    search rules

pub returns-in-Some-clause-removed : goal.returns-in-Some-clause-removed
returns-in-Some-clause-removed c =
    let e : entry_place c.args.id 0 c.args.self.now ≡ Some c.in-Some.place = search rules in
    sym (found c.args.id c.args.self.now c.in-Some.place e).2

pub returns-in-Some-clause-entries : goal.returns-in-Some-clause-entries
returns-in-Some-clause-entries c =
    let e : entry_place c.args.id 0 c.self.inside.ids.items ≡ Some c.in-Some.place = search rules in
    c.remove.ensures.items ∙ (found c.args.id c.self.inside.ids.items c.in-Some.place e).1 ∙ ap (without_last c.args.id) c.self.view_is

pub returns-in-None-clause-removed : goal.returns-in-None-clause-removed
returns-in-None-clause-removed c =
    let e : entry_place c.args.id 0 c.args.self.now ≡ None = search rules in
    sym (missing c.args.id 0 c.args.self.now e).1

pub returns-in-None-clause-entries : goal.returns-in-None-clause-entries
returns-in-None-clause-entries c =
    let e : entry_place c.args.id 0 c.args.self.now ≡ None = search rules in
    sym (missing c.args.id 0 c.args.self.now e).0
