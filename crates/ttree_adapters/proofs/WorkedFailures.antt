-- Computed examples of the lines of failed tests.
use Rattle.std.proofs.Common.{◌≡◌, ◌∷◌, [], ℕ, List, Some, None, codes, refl}
use Rattle.tracing_tree_base.specs.declared.context.Moment.{Moment}
use Rattle.tracing_tree_layer.specs.declared.call.Call.{Call}
use Rattle.ttree_source.specs.Calls.{close_call, event_call}
use Rattle.tracing_tree_spans.specs.Registry.Ids.{id_of}
use Rattle.tracing_tree_base.specs.declared.field.Field.{Field}
use Rattle.tracing_tree_base.specs.declared.style.Level.{Level}
use Rattle.tracing_tree_base.specs.declared.style.Level.TheVariants.{Info, Warn, Error}
use Rattle.ttree_adapters.specs.Failures.{all_kept, no_lines}

module _ (m : Moment) where
  abbrev message : List ℕ → Field
  message text = record { name = codes "message"; value = text }

  -- a line of a span
  abbrev line : Level → List ℕ → ℕ → Call
  line level text span = event_call m level (message text ∷ []) (Some (id_of span))

  -- the end of a test, with its time
  abbrev end : Level → List ℕ → ℕ → Call
  end level text span =
      event_call m level (message text ∷ record { name = codes "elapsed"; value = codes "0" } ∷ [])
      (Some (id_of span))

  abbrev close : ℕ → Call
  close span = close_call m (id_of span) None

  -- a test fails: its line is made before that
  pub fails :
      (all_kept (line Info (codes "x") 1 ∷ end Error (codes "fail") 1 ∷ close 1 ∷ [])
      (no_lines Error)).calls
      ≡ line Info (codes "x") 1 ∷ end Error (codes "fail") 1 ∷ close 1 ∷ []
  fails = refl

  -- a test passes: its line is left out, and nothing is held any more
  pub passes :
      all_kept (line Info (codes "x") 1 ∷ end Info (codes "pass") 1 ∷ close 1 ∷ []) (no_lines Error)
      ≡ record { calls = close 1 ∷ []; mapping = no_lines Error }
  passes = refl

  -- of two tests that run side by side, the lines of the one that fails
  pub side_by_side :
      (all_kept (line Info (codes "a") 1 ∷ line Info (codes "b") 2 ∷ line Info (codes "c") 1
      ∷ end Info (codes "pass") 2 ∷ close 2 ∷ end Error (codes "fail") 1 ∷ close 1 ∷ [])
      (no_lines Warn)).calls
      ≡ close 2 ∷ line Info (codes "a") 1 ∷ line Info (codes "c") 1 ∷ end Error (codes "fail") 1
      ∷ close 1 ∷ []
  side_by_side = refl

  -- a panic is an error in itself, and its trace comes before the end of the test
  pub panics :
      (all_kept (line Info (codes "x") 1 ∷ line Error (codes "panic: y") 1
      ∷ line Info (codes "main.go:3") 1 ∷ end Error (codes "fail") 1 ∷ [])
      (no_lines Error)).calls
      ≡ line Info (codes "x") 1 ∷ line Error (codes "panic: y") 1 ∷ line Info (codes "main.go:3") 1
      ∷ end Error (codes "fail") 1 ∷ []
  panics = refl

  -- a package fails by a test that printed nothing: the test that passed before isn't its line
  pub in_a_package :
      (all_kept (end Info (codes "pass a") 1 ∷ end Error (codes "fail b") 1
      ∷ line Info (codes "exit status 1") 1 ∷ end Error (codes "fail") 1 ∷ [])
      (no_lines Error)).calls
      ≡ end Error (codes "fail b") 1 ∷ line Info (codes "exit status 1") 1
      ∷ end Error (codes "fail") 1 ∷ []
  in_a_package = refl

  -- an event without a span, below the level
  pub at_the_root :
      (all_kept (event_call m Warn (message (codes "x") ∷ []) None ∷ []) (no_lines Error)).calls ≡ []
  at_the_root = refl
