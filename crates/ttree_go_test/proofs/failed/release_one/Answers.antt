use Rattle.std.proofs.Common.{◌≡◌, ◌&&◌, Bool, true, false, not, if◌then◌else◌, OnOk, sym, ap, subst, ◌∙◌}
use Rattle.std.specs.BTreeSet.{contains_text}
use Rattle.ttree_go_test.specs.Failed.{kept_shown, released_one}
use Rattle.ttree_go_test.specs.GoTest.{runs}
use Rattle.ttree_go_test.proofs.failed.release_one.Goals as goal
use Rattle.ttree_go_test.proofs.failed.release_one.Goals.{else-contains-via-then-contains+else-not-runs, else-contains-via-else-contains}

pub returns-then-not-runs : goal.returns-then-not-runs
returns-then-not-runs c =
    let test = c.args.one.now.test in
    let contained : contains_text c.args.over.now test ≡ true =
    ap (contains_text c.args.over.now) (sym c.as_str-test.ensures) ∙ sym c.contains.ensures ∙ c.if-contains.true in
    let idle : runs c.args.path.now test c.args.shown.now ≡ false =
    ap (λ name. runs c.args.path.now name c.args.shown.now) (sym (c.as_bytes.ensures.value ∙ c.as_str-test.ensures)) ∙ sym c.runs.ensures ∙ c.if-not-runs.true in
    sym (ap (λ (here : Bool). if here && not (runs c.args.path.now test c.args.shown.now) then c.args.shown.now else kept_shown c.args.one.now c.args.shown.now) contained
    ∙ ap (λ (here : Bool). if not here then c.args.shown.now else kept_shown c.args.one.now c.args.shown.now) idle)

pub returns : goal.returns
returns c =
    let test = c.args.one.now.test in
    let shown = c.args.shown.now in
    let kept = kept_shown c.args.one.now shown in
    let same : kept ≡ released_one c.args.path.now (contains_text c.args.over.now) c.args.one.now shown = elim c.else-contains.branch [
      | else-contains-via-then-contains+else-not-runs w ↦
          sym (ap (λ (here : Bool). if here && not (runs c.args.path.now test shown) then shown else kept)
          (ap (contains_text c.args.over.now) (sym c.as_str-test.ensures) ∙ sym c.contains.ensures ∙ w.if-contains.true)
          ∙ ap (λ (here : Bool). if not here then shown else kept)
          (ap (λ name. runs c.args.path.now name shown) (sym (w.as_bytes.ensures.value ∙ c.as_str-test.ensures)) ∙ sym w.runs.ensures ∙ w.if-not-runs.false))
      | else-contains-via-else-contains w ↦
          sym (ap (λ (here : Bool). if here && not (runs c.args.path.now test shown) then shown else kept)
          (ap (contains_text c.args.over.now) (sym c.as_str-test.ensures) ∙ sym c.contains.ensures ∙ w.if-contains.false))
    ] in
    subst (λ after. OnOk c.show_kept.result (c.show_kept.new.shown ≡ after)) same c.show_kept.ensures
