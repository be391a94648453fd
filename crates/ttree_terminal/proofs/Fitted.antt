-- Lines that are cut.
use Rattle.std.proofs.Common.{◌≡◌, ℕ, Bool, true, false, List, ◌++◌, IsUtf8, refl, sym, ap, ◌∙◌, append_assoc}
use Rattle.std.proofs.lemmas.Str.{is_utf8-from_IsUtf8, IsUtf8-from_is_utf8}
use Rattle.std.specs.Str.{chars, is_utf8}
use Rattle.ttree_columns.specs.Columns.{is_wider, start}
use Rattle.ttree_terminal.specs.Columns.{cut_at, cut_mark, kept_columns, kept_line_end, reset}

-- bytes that aren't UTF-8 aren't cut
pub uncut : (width : ℕ) (line : List ℕ) → ¬ (IsUtf8 line) → line ≡ cut_at width line
uncut width line bad = rw (is_no_text (is_utf8 line) refl) refl
  where
    is_no_text : (test : Bool) → is_utf8 line ≡ test → is_utf8 line ≡ false
    is_no_text true e = absurd (bad (IsUtf8-from_is_utf8 line e))
    is_no_text false e = e

-- a line that isn't wider isn't cut
pub unchanged : (width : ℕ) (line : List ℕ) → IsUtf8 line → is_wider width start (chars line) ≡ false → line ≡ cut_at width line
unchanged width line text narrow = rw narrow (rw (is_utf8-from_IsUtf8 line text) refl)

pub cut_made : (width : ℕ) (line made : List ℕ) → IsUtf8 line → is_wider width start (chars line) ≡ true →
    made ≡ (kept_columns width line ++ (cut_mark ++ reset (kept_columns width line))) ++ kept_line_end line → made ≡ cut_at width line
cut_made width line made text wide e =
    rw wide (rw (is_utf8-from_IsUtf8 line text)
    (e ∙ ap (λ l. l ++ kept_line_end line) (sym (append_assoc (kept_columns width line) cut_mark (reset (kept_columns width line))))))
