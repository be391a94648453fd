use Rattle.std.proofs.Common.{◌≡◌, ap, is_some, sym, unwrap_or, List, [], ◌∷◌, ◌∙◌, Option, Some, None, Result, Ok, Err}
use Rattle.std.specs.Prelude.{OnOk}
use Rattle.std.specs.Option.{option_copied_mut}
use Rattle.ttree_otlp.specs.Keyed.{by_bytes, kept_at, with_kept}
use Rattle.ttree_otlp.specs.declared.item.Item.{Item}
use Rattle.ttree_otlp.proofs.Kept.{found_set, inserted, looked_up}
use Rattle.ttree_otlp.proofs.keyed.Groups.put_first.Goals as goal

on_ok : {T E : Type 0} {P Q : Type 0} (r : Result T E) → (P → Q) → OnOk r P → OnOk r Q
on_ok (Ok x) f h = f h
on_ok (Err e) f h = tt

pub returns-in-Some : goal.returns-in-Some
returns-in-Some c =
    let item = c.args.item in
    let key = c.as_slice.result.now in
    let old = c.self.inside.entries.entries in
    let known = c.args.self.now in
    let rows = c.put.new.self in
    let there : kept_at key known ≡ Some c.in-Some.group.now =
    ap (kept_at key) (sym c.self.view_is) ∙ sym (looked_up key old) ∙ sym c.get_mut.ensures.value ∙ ap option_copied_mut c.in-Some.is in
    on_ok c.put.result
    (λ h. ap by_bytes (c.get_mut.follows.holds rows).0
    ∙ found_set key old rows c.get_mut.ensures.ordered (ap (λ l. is_some (kept_at key l)) c.self.view_is ∙ ap is_some there)
    ∙ ap (with_kept key rows) c.self.view_is
    ∙ ap (λ l. with_kept key l known) (h ∙ ap (λ o. item ∷ unwrap_or o []) (sym there))
    ∙ ap (λ k. with_kept k (item ∷ unwrap_or (kept_at k known) []) known) c.as_slice.ensures.value)
    c.put.ensures

pub returns : goal.returns
returns c =
    let item = c.args.item in
    let key = c.args.key in
    let known = c.args.self.now in
    let rows = c.in_ok-one.field-0 in
    let none : kept_at key.items known ≡ None =
    ap (kept_at key.items) (sym c.self.view_is) ∙ ap (λ k. kept_at k (by_bytes c.self.inside.entries.entries)) (sym c.as_slice.ensures.value)
    ∙ sym (looked_up c.as_slice.result.now c.self.inside.entries.entries) ∙ sym c.get_mut.ensures.value ∙ ap option_copied_mut c.in_default.is in
    ap by_bytes c.in_ok-insert.ensures.entries ∙ inserted _ key rows ∙ ap (with_kept key.items rows) (ap (λ m. by_bytes m.entries) c.get_mut.follows.holds-at-none ∙ c.self.view_is)
    ∙ ap (λ l. with_kept key.items l known) (c.in_ok-one.ensures ∙ ap (λ o. item ∷ unwrap_or o []) (sym none))
