use Rattle.std.proofs.Common.{◌≡◌, ◌<◌, ◌≤◌, ◌∷◌, ◌∙◌, None, Some, sym, arith}
use Rattle.std.proofs.lemmas.Str.Pattern.{strip_prefix_char}
use Rattle.ttree_tap.proofs.Fronts.{margin_full, margin_more, margin_none, rest_utf8}
use Rattle.ttree_tap.proofs.strings.without_margin.Goals as goal

pub loop-place-preserved : goal.loop-place-preserved
loop-place-preserved c =
    let limit = c.args.limit in
    let place = c.loop-place.place in
    let text = c.loop-place.rest.now in
    let more = c.in-Some.more.now in
    let below : place < limit = omega arith in
    let first : text ≡ 32 ∷ more = strip_prefix_char 32 text (Some c.in-Some.more) c.in-Some.ensures.cases (omega arith) in
    record {
      same = c.loop-place.invariant.same ∙ margin_more place limit text more below first;
      below = omega arith;
      utf8 = rest_utf8 32 text more (omega arith) first c.loop-place.invariant.utf8;
    }

pub returns-in_default : goal.returns-in_default
returns-in_default c =
    let text = c.loop-place.rest.now in
    sym (c.loop-place.invariant.same
    ∙ margin_none c.loop-place.place c.args.limit text (strip_prefix_char 32 text None c.in_default.ensures.cases (omega arith)))

pub returns : goal.returns
returns c =
    let full : c.args.limit ≤ c.loop-place.place = omega arith in
    sym (c.loop-place.invariant.same ∙ margin_full c.loop-place.place c.args.limit c.loop-place.rest.now full)
