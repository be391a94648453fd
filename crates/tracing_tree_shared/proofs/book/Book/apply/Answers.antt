use Rattle.std.proofs.Common.{◌∙◌, Ok, refl, sym, ap}
use Rattle.tracing_tree_shared.specs.Books.{seen_on_tape}
use Rattle.tracing_tree_shared.proofs.Replays.{keeps_replay}
use Rattle.tracing_tree_shared.proofs.book.Book.apply.Goals as goal

pub invariant_of-self-in-Ok-emit : goal.invariant_of-self-in-Ok-emit
invariant_of-self-in-Ok-emit g c =
    rw (c.push_reserved.ensures.items, c.reserve.ensures.items, c.in-Ok.ensures.copy ∙ sym (ap (λ draft. draft.call) c.in-Ok.ensures.same))
    (keeps_replay c.self.inside.first c.self.inside.history.items c.take_copy.new.self.call (Ok c.in-Ok-emit.reply)
    (seen_on_tape g.FT.FormatTime c.self.inside.layered) (seen_on_tape g.FT.FormatTime c.emit.new.layered)
    refl c.in-Ok-emit.ensures.changed c.self.invariant)
