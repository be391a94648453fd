use Rattle.std.proofs.Common.{◌≡◌, ◌∷◌, ◌∙◌, None, Some, sym}
use Rattle.std.proofs.lemmas.Str.Pattern.{strip_prefix_char}
use Rattle.ttree_tap.proofs.Fronts.{leading_more, leading_none, rest_utf8}
use Rattle.ttree_tap.proofs.strings.without_leading.Goals as goal

pub loop-more-preserved : goal.loop-more-preserved
loop-more-preserved c =
    let mark = c.args.mark in
    let text = c.loop-more.rest.now in
    let more = c.in-Some.more.now in
    let first : text ≡ mark ∷ more = strip_prefix_char mark text (Some c.in-Some.more) c.in-Some.ensures.cases c.requires in
    record {
      same = c.loop-more.invariant.same ∙ leading_more mark text more first;
      utf8 = rest_utf8 mark text more c.requires first c.loop-more.invariant.utf8;
    }

pub returns : goal.returns
returns c =
    let text = c.loop-more.rest.now in
    sym (c.loop-more.invariant.same ∙ leading_none c.args.mark text (strip_prefix_char c.args.mark text None c.in_default.ensures.cases c.requires))
