use Rattle.std.proofs.Common.{◌∙◌, List, length, sum_by, sym, ap, subst, arith}
use Rattle.tracing_tree_drawing.specs.Format.Settings.{Settings}
use Rattle.tracing_tree_shared.specs.History.{Entry, Slips, IsFirstStrange, IsOneHistory}
use Rattle.tracing_tree_shared.specs.Drafts.{SharedView}
use Rattle.tracing_tree_shared.specs.Finish.{IsReplay}
use Rattle.tracing_tree_shared.proofs.Amounts.{same}
use Rattle.tracing_tree_shared.proofs.pass.SharedLayer.finish.Goals as goal

pub returns-in-Some : goal.returns-in-Some
returns-in-Some g c =
    let passes = c.args.passes.items in
    let book = c.into_parts-book.result.0 in
    let opened = ap (λ (s : SharedView). s.passes) c.self.view_is in
    let total = same c.into_parts-book.result.1.amount (length book.history) (sum_by length passes)
    book.layered.layer.settings.ansi book.layered.layer.settings.targets c.self.inside.config.ansi c.self.inside.config.targets
    c.into_parts-book.ensures.counted (c.gather.ensures ∙ c.self.invariant.1) in (
      omega (arith, opened, c.if-len-self.false, c.len.ensures, c.args.passes.ok.0),
      record {
        first = subst (λ (entries : List Entry). IsFirstStrange entries passes c.in-Some.place) c.history.ensures.history
            (subst (λ (all : List Slips). IsFirstStrange c.history.result.now all c.in-Some.place) c.as_slice.ensures.value c.in-Some.ensures.some);
        counted = total.count;
      },
    )

pub returns : goal.returns
returns g c =
    let passes = c.args.passes.items in
    let book = c.into_parts-book.result.0 in
    let finished = c.finish_book.result in
    let opened = ap (λ (s : SharedView). s.passes) c.self.view_is in
    let total = same c.into_parts-book.result.1.amount (length book.history) (sum_by length passes)
    book.layered.layer.settings.ansi book.layered.layer.settings.targets c.self.inside.config.ansi c.self.inside.config.targets
    c.into_parts-book.ensures.counted (c.gather.ensures ∙ c.self.invariant.1) in
    let history = c.finish_book.ensures.history in
    let settings = c.finish_book.ensures.settings in (
      omega (arith, opened, c.if-len-self.false, c.len.ensures, c.args.passes.ok.0),
      record {
        one = subst (λ (entries : List Entry). IsOneHistory entries passes) (c.history.ensures.history ∙ sym history)
            (subst (λ (all : List Slips). IsOneHistory c.history.result.now all) c.as_slice.ensures.value c.in-None.ensures.none);
        counted = ap (λ (entries : List Entry). length entries) history ∙ total.count;
        accepted = c.finish_book.ensures.accepted ∙ total.count;
        replay = subst (λ (entries : List Entry). IsReplay g.FT.FormatTime finished.config entries finished.output.bytes) (sym history) c.finish_book.ensures.replay;
        ansi = ap (λ (s : Settings). s.ansi) settings ∙ total.ansi_is ∙ ap (λ (s : SharedView). s.ansi) c.self.view_is;
        targets = ap (λ (s : Settings). s.targets) settings ∙ total.targets_is ∙ ap (λ (s : SharedView). s.targets) c.self.view_is;
      },
    )
