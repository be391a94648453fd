-- The buffers of a call while it is built.
use Rattle.std.specs.Prelude.{◌≡◌, ℕ, Bool, true, false, List, Option, Result, Ok, Err}
use Rattle.tracing_tree_base.specs.declared.context.Id.{Id}
use Rattle.tracing_tree_base.specs.declared.context.Refusal.{Refusal}
use Rattle.tracing_tree_base.specs.declared.context.Refusal.TheVariants.{TooWide, Memory}

-- the block being built, the rows drawn already, and the last span
pub record BuffersView : Type 0 where
  pub current_buf : List ℕ
  pub indent_buf : List ℕ
  pub current_span : Option Id

-- The block becomes this string. A row that is too wide is refused for that; a refusal changes
-- nothing.
abbrev pub IndentsRow : Bool → List ℕ → Result (Unit {0}) Refusal → BuffersView → BuffersView
    → Type 0
IndentsRow too_wide text (Ok done) old new =
    (too_wide ≡ false) × (new ≡ record old { current_buf = text })
IndentsRow too_wide text (Err TooWide) old new = (too_wide ≡ true) × (new ≡ old)
IndentsRow too_wide text (Err Memory) old new = (too_wide ≡ false) × (new ≡ old)
IndentsRow too_wide text (Err refusal) old new = ⊥
