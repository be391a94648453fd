use Rattle.std.proofs.Common.{rules, ◌≡◌, List, [], ◌∷◌, ◌++◌, reverse, ap, ◌∙◌, append_assoc}
use Rattle.std.proofs.lemmas.List.{reverse-append}
use Rattle.ttree_chrome.specs.Later.{first_of, later_by, marked, with_later}
use Rattle.ttree_chrome.specs.declared.gather.Item.{Item}
use Rattle.ttree_chrome.proofs.later.marked.Goals as goal

pub loop-item-preserved : goal.loop-item-preserved
loop-item-preserved c =
    let (done, split, same) = c.loop-item.invariant in
    let item = c.in-Some.item in
    let popped : c.loop-item.items.items ≡ c.take_last.new.items.items ++ item ∷ [] = search rules in
    let pushed : reverse c.push.new.self.items ≡ c.noted.result ∷ reverse c.loop-item.all.items =
    ap reverse c.in_ok-push.ensures.items ∙ reverse-append c.loop-item.all.items (c.noted.result ∷ []) in
    let kept : c.noted.result ≡ with_later (later_by c.args.min_duration item (first_of (marked c.args.min_duration done))) item = search rules in (
      item ∷ done,
      split ∙ ap (λ (l : List Item). l ++ done) popped ∙ append_assoc c.take_last.new.items.items (item ∷ []) done,
      pushed ∙ ap (λ (x : Item). x ∷ reverse c.loop-item.all.items) kept
          ∙ ap (λ (l : List Item). with_later (later_by c.args.min_duration item (first_of (marked c.args.min_duration done))) item ∷ l) same,
    )
