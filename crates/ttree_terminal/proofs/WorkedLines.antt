-- Worked lines.
use Rattle.std.specs.Prelude.{◌≡◌, ℕ, true, false, [], ◌∷◌, ◌++◌, None, Some, codes}
use Rattle.std.proofs.Common.{refl}
use Rattle.std.specs.Char.{encode_utf8}
use Rattle.std.specs.Fmt.{digits}
use Rattle.std.specs.Str.{chars, is_utf8}
use Rattle.std.specs.Str.Lossy.{utf8_lossy, utf8_error_len, utf8_valid_len}
use Rattle.unicode_width.specs.Width.{char_width}
use Rattle.ttree_terminal.specs.declared.shaping.Shaping.{Shaping}
use Rattle.ttree_terminal.specs.Plain.{IsPlain, plain_after}
use Rattle.ttree_terminal.specs.Columns.{cut_mark}
use Rattle.ttree_terminal.specs.Lines.{held_after_bytes, lines_ended, shaped}

-- ---- plain bytes

tabs_and_line_ends : IsPlain (codes "a\tb\n")
tabs_and_line_ends = refl

escape : plain_after 0 (codes "a\u{1b}[31m") ≡ false
escape = refl

carriage_return : plain_after 0 (codes "a\r\n") ≡ false
carriage_return = refl

delete : plain_after 0 (97 ∷ 127 ∷ []) ≡ false
delete = refl

-- U+009B, and U+00A0
c1_control : plain_after 0 (194 ∷ 155 ∷ []) ≡ false
c1_control = refl

no_break_space : IsPlain (194 ∷ 160 ∷ [])
no_break_space = refl

-- The last byte of `✛` is 155, and comes after 156.
dingbat : IsPlain (226 ∷ 156 ∷ 155 ∷ [])
dingbat = refl

-- ---- escaped lines

abbrev escaped_only : Shaping
escaped_only = record { width = None; is_escaped = true }

abbrev cut_only : ℕ → Shaping
cut_only width = record { width = Some width; is_escaped = false }

line_with_escape : shaped escaped_only (codes "a\u{1b}[31m\n") ≡ codes "a\\u{1b}[31m\n"
unfolding chars is_utf8 encode_utf8 digits utf8_lossy utf8_valid_len utf8_error_len
line_with_escape = refl

plain_line : shaped escaped_only (codes "a\tb\n") ≡ codes "a\tb\n"
plain_line = refl

-- U+FFFD replaces a byte that begins no character
line_that_is_no_text : shaped escaped_only (155 ∷ []) ≡ 239 ∷ 191 ∷ 189 ∷ []
unfolding chars is_utf8 encode_utf8 digits utf8_lossy utf8_valid_len utf8_error_len
line_that_is_no_text = refl

-- ---- cut lines

cut_at_five : shaped (cut_only 5) (codes "abcdef\n") ≡ codes "abcd" ++ cut_mark ++ codes "\n"
unfolding chars is_utf8 encode_utf8 char_width
cut_at_five = refl

five_columns : shaped (cut_only 5) (codes "abcde\n") ≡ codes "abcde\n"
unfolding chars is_utf8 encode_utf8 char_width
five_columns = refl

tab_at_five : shaped (cut_only 5) (codes "\tx") ≡ cut_mark
unfolding chars is_utf8 encode_utf8
tab_at_five = refl

colours : shaped (cut_only 2) (codes "\u{1b}[1mabc") ≡ codes "\u{1b}[1ma" ++ cut_mark ++ codes "\u{1b}[0m"
unfolding chars is_utf8 encode_utf8 char_width
colours = refl

not_cut : shaped (cut_only 0) (codes "abcdef\n") ≡ codes "abcdef\n"
not_cut = refl

-- ---- lines and what is left

two_lines : lines_ended escaped_only (codes "a") (codes "b\nc\nd") ≡ codes "ab\nc\n"
two_lines = refl

last_line : held_after_bytes (codes "a") (codes "b\nc\nd") ≡ codes "d"
last_line = refl
