-- The place where a prefix ends: a character begins there.
use Rattle.std.proofs.Common.{◌≡◌, ◌<◌, ◌+◌, ℕ, Bool, true, false, List, [], ◌∷◌, Option, Some, None, option_map, length, get_or, lit<, ap, refl, subst, sym, arith, add-one}
use Rattle.std.specs.Prelude.{◌==◌, if◌then◌else◌}
use Rattle.std.specs.Str.{IsCharBoundary}
use Rattle.std.proofs.lemmas.Bool.{and_parts, eqb-true}
use Rattle.ttree_prefix.specs.Mark.{ends_here, left_after, place_after, prefix_end}
use Rattle.ttree_prefix.specs.declared.mark.Mark.{Mark}
use Rattle.ttree_prefix.specs.declared.mark.Mark.TheVariants.{Bar, Bracket, Job, Time, Tab, Colon, DateTime, Pod, Stamp}

-- what is found begins with this byte
abbrev IsAt : ℕ → List ℕ → Option ℕ → Type 0
IsAt first line None = Unit {0}
IsAt first line (Some place) = (place < length line) × (get_or line place 0 ≡ first)

shifted : (place : ℕ) (later : Option ℕ)
    → option_map (λ at. place + at) (option_map (λ at. at + 1) later)
    ≡ option_map (λ at. place + 1 + at) later
shifted place None = refl
shifted place (Some at) = ap Some (omega arith)

-- a byte at which nothing ends is passed
pub passed : (between left byte place : ℕ) (end others : List ℕ)
    → ends_here left end (byte ∷ others) ≡ false
    → option_map (λ at. place + at) (place_after between left end (byte ∷ others))
    ≡ option_map (λ at. place + 1 + at) (place_after between (left_after between left byte) end others)
passed between left byte place end others h =
    rw h (shifted place (place_after between (left_after between left byte) end others))

begun : (left first byte : ℕ) (others rest : List ℕ)
    → ends_here left (first ∷ others) (byte ∷ rest) ≡ true → byte ≡ first
begun left first byte others rest h =
    sym (eqb-true first byte (and_parts (first == byte) _ (and_parts (left == 0) _ h).1).0)

at : (between left first : ℕ) (others line : List ℕ)
    → IsAt first line (place_after between left (first ∷ others) line)
at between left first others [] = tt
at between left first others (byte ∷ rest) =
    by (ends_here left (first ∷ others) (byte ∷ rest)) (begun left first byte others rest)
    (place_after between (left_after between left byte) (first ∷ others) rest)
    (at between (left_after between left byte) first others rest) where
      by : (is : Bool) → (is ≡ true → byte ≡ first) → (later : Option ℕ) → IsAt first rest later
          → IsAt first (byte ∷ rest) (if is then Some 0 else option_map (λ place. place + 1) later)
      by true here later h = (omega arith, here refl)
      by false here None h = tt
      by false here (Some place) h = (omega (arith, h.0), rw add-one h.1)

-- a character begins at a byte of ASCII
ascii_boundary : (between left first : ℕ) (others line : List ℕ) (place : ℕ) → first < 128
    → place_after between left (first ∷ others) line ≡ Some place → IsCharBoundary line place
ascii_boundary between left first others line place ascii h =
    let found : IsAt first line (Some place) =
    subst (IsAt first line) h (at between left first others line) in
    let inside : place < length line = found.0 in
    let same : get_or line place 0 ≡ first = found.1 in
    (omega (arith, inside), λ _ high. absurd (omega (arith, high, same, ascii)))

pub boundary : (mark : Mark) (line : List ℕ) (place : ℕ) → prefix_end mark line ≡ Some place
    → IsCharBoundary line place
boundary Bar line place h = ascii_boundary 32 0 124 [] line place (lit< tt) h
boundary Bracket line place h = ascii_boundary 32 0 93 [] line place (lit< tt) h
boundary Job line place h = ascii_boundary 9 2 32 [] line place (lit< tt) h
boundary Time line place h = ascii_boundary 32 0 32 [] line place (lit< tt) h
boundary Tab line place h = ascii_boundary 32 0 9 [] line place (lit< tt) h
boundary Colon line place h = ascii_boundary 32 0 58 (32 ∷ []) line place (lit< tt) h
boundary DateTime line place h = ascii_boundary 32 1 32 [] line place (lit< tt) h
boundary Pod line place h = ascii_boundary 32 1 32 [] line place (lit< tt) h
boundary Stamp line place h = ascii_boundary 32 2 32 [] line place (lit< tt) h
