use Rattle.std.proofs.Common.{◌≡◌, ap, is_some, min, sym, ◌∙◌, Some}
use Rattle.std.specs.Option.{option_copied_mut}
use Rattle.ttree_otlp.specs.Keyed.{by_bytes, kept_at, lowered_as, with_kept}
use Rattle.ttree_otlp.proofs.Kept.{found_set, looked_up}
use Rattle.ttree_otlp.proofs.keyed.Known.lower.Goals as goal
use Rattle.ttree_otlp.proofs.keyed.Known.lower.Goals.{in-Some, in-None}

-- what was found is what is kept at the key
found_is : (c : goal.Joined-get_mut) → option_copied_mut c.get_mut.result ≡ kept_at c.args.key.now c.args.self.now
found_is c = c.get_mut.ensures.value ∙ looked_up c.args.key.now c.self.inside.entries.entries ∙ ap (kept_at c.args.key.now) c.self.view_is

pub returns-clause-found : goal.returns-clause-found
returns-clause-found c = elim c.match-get_mut.branch [
  | in-Some w ↦ w.result-is ∙ ap (λ r. is_some (option_copied_mut r)) (sym w.in-Some.is) ∙ ap is_some (found_is c)
  | in-None w ↦ w.result-is ∙ ap (λ r. is_some (option_copied_mut r)) (sym w.in-None.is) ∙ ap is_some (found_is c)
]

pub returns-clause-lowered : goal.returns-clause-lowered
returns-clause-lowered c =
    let key = c.args.key.now in
    let old = c.self.inside.entries.entries in
    let known = c.args.self.now in
    elim c.match-get_mut.branch [
      | in-Some w ↦
          let there : kept_at key known ≡ Some w.in-Some.earliest.now = sym (found_is c) ∙ ap option_copied_mut w.in-Some.is in
          ap (λ k. by_bytes k.entries.entries) w.self-inside-is
          ∙ ap by_bytes (c.get_mut.follows.holds w.min.result).0
          ∙ found_set key old w.min.result c.get_mut.ensures.ordered (ap (λ l. is_some (kept_at key l)) c.self.view_is ∙ ap is_some there)
          ∙ ap (with_kept key w.min.result) c.self.view_is
          ∙ ap (λ time. with_kept key time known) w.min.ensures
          ∙ ap (λ o. lowered_as o key c.args.time known) (sym there)
      | in-None w ↦
          let there = sym (found_is c) ∙ ap option_copied_mut w.in-None.is in
          ap (λ k. by_bytes k.entries.entries) w.self-inside-is ∙ ap (λ m. by_bytes m.entries) c.get_mut.follows.holds-at-none ∙ c.self.view_is ∙ ap (λ o. lowered_as o key c.args.time known) (sym there)
    ]
