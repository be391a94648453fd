-- Inputs of lines: what can be read without a wait.
use Rattle.std.specs.Prelude.{◌≡◌, ℕ, ◌≤◌, List, length, drop, Option}
use Rattle.std.specs.Io.KnownBytes.{prepend_known}

-- the held bytes are the first of those that are left
pub record HoldsFront (held : List ℕ) (known : Option (List ℕ)) : Type 0 where
  pub unread : Option (List ℕ)
  pub front : known ≡ prepend_known held unread

-- only the first `count` of the held bytes were removed
abbrev pub DropsHeld : ℕ → List ℕ → Option (List ℕ) → Option (List ℕ) → Type 0
DropsHeld count held known left =
    count ≤ length held → (unread : Option (List ℕ)) → known ≡ prepend_known held unread
    → left ≡ prepend_known (drop count held) unread
