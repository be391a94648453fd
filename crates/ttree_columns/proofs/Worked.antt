-- Computed examples.
use Rattle.std.proofs.Common.{◌≡◌, true, false, ◌++◌, ◌∷◌, [], codes, refl}
use Rattle.unicode_width.proofs.Computing.{unicode_width}
use Rattle.ttree_columns.specs.Columns.{column_after, fitting, is_wider, start}

pub five_columns : is_wider 5 start (codes "abcde") ≡ false
unfolding unicode_width
five_columns = refl

-- two characters of Japanese take four columns
pub wide_characters : is_wider 3 start (0x65E5 ∷ 0x672C ∷ []) ≡ true
unfolding unicode_width
wide_characters = refl

pub wide_characters_fit : is_wider 4 start (0x65E5 ∷ 0x672C ∷ []) ≡ false
unfolding unicode_width
wide_characters_fit = refl

-- an acute accent that combines takes no column
pub mark : fitting 3 start (codes "ab" ++ 0x301 ∷ codes "c") ≡ codes "ab" ++ 0x301 ∷ []
unfolding unicode_width
mark = refl

-- a wide character doesn't fit in the last column
pub half_fits : fitting 4 start (codes "ab" ++ 0x65E5 ∷ codes "c") ≡ codes "ab"
unfolding unicode_width
half_fits = refl

pub an_emoji : column_after start (codes "a" ++ 0x1F600 ∷ []) ≡ 3
unfolding unicode_width
an_emoji = refl

pub tab : column_after start (codes "a\tb") ≡ 9
unfolding unicode_width
tab = refl

pub colours : column_after start (codes "\u{1b}[1ma") ≡ 1
unfolding unicode_width
colours = refl
