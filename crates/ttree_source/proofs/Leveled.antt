-- What is shown of a source's calls.
use Rattle.std.proofs.Common.{◌≡◌, List, Option, Some, None, option_map, ap, ◌∙◌}
use Rattle.tracing_tree_base.specs.declared.style.Level.{Level}
use Rattle.tracing_tree_layer.specs.declared.call.Call.{Call}
use Rattle.ttree_source.specs.Source.{Step, Emits}
use Rattle.ttree_source.specs.Levels.{shown_calls, shown_step}

module _ {S : Type 0} where
  pub emits_unknown : (known : Option (Step S)) (min_level : Level) (old new : S) → Emits known old new None →
      Emits (option_map (shown_step min_level) known)
      (record { source = old; min_level = min_level }) (record { source = new; min_level = min_level }) None
  emits_unknown None min_level old new h = ap (λ s. record { source = s; min_level = min_level }) h
  emits_unknown (Some step) min_level old new h = h

  pub emits_shown : (known : Option (Step S)) (min_level : Level) (old new : S) (calls shown : List Call) → Emits known old new (Some calls) →
      shown ≡ shown_calls min_level calls →
      Emits (option_map (shown_step min_level) known)
      (record { source = old; min_level = min_level }) (record { source = new; min_level = min_level }) (Some shown)
  emits_shown None min_level old new calls shown h is = h
  emits_shown (Some step) min_level old new calls shown h is =
      (is ∙ ap (shown_calls min_level) h.0, ap (λ s. record { source = s; min_level = min_level }) h.1)
