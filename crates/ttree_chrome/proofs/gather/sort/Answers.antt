use Rattle.std.proofs.Common.{◌≡◌, refl, rules, subst}
use Rattle.std.specs.Prelude.{IsSorted}
use Rattle.std.specs.Option.{option_cmp}
use Rattle.std.specs.Ordering.{nat_cmp, ordering_then}
use Rattle.std.specs.declared.cmp.Ordering.{Ordering}
use Rattle.std.proofs.lemmas.List.Sorted.{answers_always}
use Rattle.ttree_chrome.specs.Strings.{label_cmp}
use Rattle.ttree_chrome.specs.declared.gather.Item.{Item}
use Rattle.ttree_chrome.specs.declared.gather.Lane.{Lane}
use Rattle.ttree_chrome.specs.declared.strings.Label.{Label}
use Rattle.ttree_chrome.specs.declared.strings.Label.TheVariants.{Number, Name}
use Rattle.ttree_chrome.specs.contracts.strings.LabelOrd.TheImpl as Derived
use Rattle.ttree_chrome.proofs.gather.sort.Goals as goal

-- the derived order of labels is that of the definition
derived : (a b : Label) → Derived.cmp-value.it a b ≡ label_cmp a b
derived (Number a) (Number b) = refl
derived (Number a) (Name b) = refl
derived (Name a) (Number b) = refl
derived (Name a) (Name b) = refl

abbrev by_lane : (Label → Label → Ordering) → Lane → Lane → Ordering
by_lane cmp a b =
    ordering_then (option_cmp cmp a.process b.process)
    (ordering_then (option_cmp cmp a.thread b.thread) (option_cmp nat_cmp a.track b.track))

abbrev by_labels : (Label → Label → Ordering) → Item → Item → Ordering
by_labels cmp a b =
    ordering_then
    (ordering_then (ordering_then (by_lane cmp a.lane b.lane) (nat_cmp a.start.time b.start.time))
    (nat_cmp b.end.time a.end.time))
    (nat_cmp a.start.index b.start.index)

pub returns-clause-sorted : goal.returns-clause-sorted
returns-clause-sorted c =
    let Sorted : (Label → Label → Ordering) → Type 0 = λ cmp. IsSorted (by_labels cmp) c.sort_by_key.new.self.items in
    let same : Derived.cmp-value.it ≡ label_cmp = λ i a b. derived a b i in
    subst Sorted same
    (c.in_ok-sort_by_key.ensures.sorted (λ i. (i.lane, i.start.time, record { 0 = i.end.time }, i.start.index))
    (answers_always _ _ _ (λ f a r g called. search rules)))
