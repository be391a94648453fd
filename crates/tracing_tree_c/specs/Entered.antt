-- The spans that are entered, the last entry first.
use Rattle.std.specs.Prelude.{◌==◌, ◌&&◌, ◌∷◌, ◌+◌, ℕ, Bool, List, [], Option, Some, None, if◌then◌else◌, not}
use Rattle.std.specs.List.{list_any}

abbrev pub is_among : ℕ → List ℕ → Bool
is_among id ids = list_any (λ other. other == id) ids

-- the place of the last entry into this span, of entries of which the first has this place
abbrev pub entry_place : ℕ → ℕ → List ℕ → Option ℕ
entry_place id place [] = None
entry_place id place (last ∷ before) =
    if last == id then Some place else entry_place id (place + 1) before

-- the entries without the last one into this span, as an exit leaves them
abbrev pub without_last : ℕ → List ℕ → List ℕ
without_last id [] = []
without_last id (last ∷ before) = if last == id then before else last ∷ without_last id before

-- The innermost of the entered spans that are live, or 0. A span that was entered again has the
-- place of its first entry.
abbrev pub innermost : (ℕ → Bool) → List ℕ → ℕ
innermost is_live [] = 0
innermost is_live (last ∷ before) =
    if is_live last && not (is_among last before) then last else innermost is_live before
