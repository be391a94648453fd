-- A colour at the front of a string: ESC (27), `[`, numbers with `;` between them, and `m` (109).
use Rattle.std.specs.Prelude.{ℕ, ◌+◌, ◌==◌, ◌&&◌, ◌||◌, Bool, true, if◌then◌else◌, List, [], ◌∷◌, take, drop, Option, Some, None, option_map}
use Rattle.std.specs.List.{position}
use Rattle.ttree_source.specs.Marks.{after_mark}
use Rattle.ttree_source.specs.Traces.{is_digit}
use Rattle.ttree_prefix.specs.Blank.{without_blank}
use Rattle.ttree_prefix.specs.declared.mark.Mark.{Mark}

-- digits and `;` (59)
abbrev pub are_numbers : List ℕ → Bool
are_numbers [] = true
are_numbers (byte ∷ rest) = (is_digit byte || (byte == 59)) && are_numbers rest

-- a string at its first `m`: what comes before it and after it
abbrev pub at_letter : List ℕ → Option (List ℕ × List ℕ)
at_letter text =
    option_map (λ at. (take at text, drop (at + 1) text)) (position (λ byte. byte == 109) text)

abbrev pub after_numbers : List ℕ → Option (List ℕ)
after_numbers text = after (at_letter text) where
  after : Option (List ℕ × List ℕ) → Option (List ℕ)
  after None = None
  after (Some parts) = if are_numbers parts.0 then Some parts.1 else None

-- what comes after the colour at the front
abbrev pub after_color : List ℕ → Option (List ℕ)
after_color text = after (after_mark (27 ∷ 91 ∷ []) text) where
  after : Option (List ℕ) → Option (List ℕ)
  after None = None
  after (Some rest) = after_numbers rest

-- a string without a colour at its front
abbrev pub without_color : List ℕ → List ℕ
without_color text = after (after_color text) where
  after : Option (List ℕ) → List ℕ
  after None = text
  after (Some rest) = rest

-- what comes after the colour and the blank of a mark, in either order
abbrev pub after_reset : Mark → List ℕ → List ℕ
after_reset mark text = after (after_color text) where
  after : Option (List ℕ) → List ℕ
  after None = without_color (without_blank mark text)
  after (Some rest) = without_blank mark rest

-- A prefix without its colour, and what comes after the blank of its mark. There the colour ends,
-- if there is one.
abbrev pub uncolored : Mark → List ℕ × List ℕ → List ℕ × List ℕ
uncolored mark parts = after (after_color parts.0) where
  after : Option (List ℕ) → List ℕ × List ℕ
  after None = (parts.0, without_blank mark parts.1)
  after (Some prefix) = (prefix, after_reset mark parts.1)
