use Rattle.std.proofs.Common.{nat_lt, cond, sym, ap, ◌∙◌, eq-eqb, ne_eqb, rules}
use Rattle.std.proofs.lemmas.List.Sorted.{IsPartitionPoint-from_clause}
use Rattle.tracing_tree_shared.specs.History.{Slip}
use Rattle.tracing_tree_shared.proofs.Receipts.{parted, count_found, count_past}
use Rattle.tracing_tree_shared.proofs.finish.count_in_pass.Goals as goal

pub returns-in-Some-clause-count : goal.returns-in-Some-clause-count
returns-in-Some-clause-count c =
    let slips = c.args.receipts.now in
    let place = c.args.place in
    let at = c.partition_point-at.result in
    let point = IsPartitionPoint-from_clause (λ (slip : Slip). nat_lt slip.place place) slips at c.partition_point-at.ensures.partitioned (parted place slips c.requires) (λ a r q k. search rules) in
    let slip = c.in-Some.receipt.now in
    let look = c.in-Some.ensures.lookup in
    sym (count_found place slips at slip c.requires point look.3.0 look.1 ∙ ap (λ b. cond b 1 0) (eq-eqb slip.place place (sym c.place.ensures ∙ c.if-place.true)))

pub returns-in_default-clause-count : goal.returns-in_default-clause-count
returns-in_default-clause-count c =
    let slips = c.args.receipts.now in
    let place = c.args.place in
    let at = c.partition_point-at.result in
    let point = IsPartitionPoint-from_clause (λ (slip : Slip). nat_lt slip.place place) slips at c.partition_point-at.ensures.partitioned (parted place slips c.requires) (λ a r q k. search rules) in
    let slip = c.in-Some.receipt.now in
    let look = c.in-Some.ensures.lookup in
    sym (count_found place slips at slip c.requires point look.3.0 look.1 ∙ ap (λ b. cond b 1 0) (ne_eqb slip.place place (λ e. c.if-place.false (c.place.ensures ∙ e))))

pub returns-in_default-2-clause-count : goal.returns-in_default-2-clause-count
returns-in_default-2-clause-count c =
    let slips = c.args.receipts.now in
    let place = c.args.place in
    let at = c.partition_point-at.result in
    let point = IsPartitionPoint-from_clause (λ (slip : Slip). nat_lt slip.place place) slips at c.partition_point-at.ensures.partitioned (parted place slips c.requires) (λ a r q k. search rules) in
    sym (count_past place slips at c.requires point (rw c.in_default.is at c.get.ensures.lookup.3))
