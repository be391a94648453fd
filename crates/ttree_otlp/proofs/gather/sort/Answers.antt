use Rattle.std.proofs.Common.{rules}
use Rattle.std.proofs.lemmas.List.Sorted.{answers_always}
use Rattle.ttree_otlp.proofs.gather.sort.Goals as goal

pub returns-clause-sorted : goal.returns-clause-sorted
returns-clause-sorted c =
    c.in_ok-sort_by_key.ensures.sorted (λ i. (i.place.time, i.place.rank, i.place.number, i.place.index))
    (answers_always _ _ _ (λ f a r g called. search rules))
