-- What std's calls on prefixes of strings return.
use Rattle.std.proofs.Common.{◌≡◌, ◌≢◌, ℕ, zero, suc, ◌+◌, ◌-◌, ◌<◌, List, [], ◌∷◌, ◌++◌, length, drop, Option, Some, None, MatchOption, IfSome, refl, sym, ap, ◌∙◌, arith, append_assoc, length-append, ne_eqb, Bor}
use Rattle.std.specs.Char.{encode_utf8}
use Rattle.std.specs.List.{repeat}
use Rattle.std.specs.Str.Pattern.{FindsTextPrefix, FindsCharPrefix, CutsPrefixes, IsFullyTrimmed, IsTrimStartMatches}
use Rattle.tracing_tree_drawing.specs.Format.Picture.{columns}
use Rattle.tracing_tree_drawing.proofs.Characters.{space, horizontal}
use Rattle.tracing_tree_drawing.specs.Rows.RowText.{without_start_spaces}
use Rattle.tracing_tree_drawing.specs.Rows.Line.{after_front, after_run, start_spaces}
use Rattle.tracing_tree_drawing.proofs.RowsRead.Bytes.{after_front-more, after_front-gives, after_front-is, rest-after, spaces-count}

after-none : (front text : List ℕ) → ((rest : List ℕ) → text ≢ front ++ rest) → after_front front text ≡ None
after-none front text h = by (after_front front text) refl
  where
    by : (o : Option (List ℕ)) → after_front front text ≡ o → o ≡ None
    by None e = refl
    by (Some rest) e = absurd (h rest (after_front-is front text rest e))

-- `strip_prefix` at a string
pub stripped-after : (front text : List ℕ) (r : Option (Bor (List ℕ))) →
    MatchOption r (FindsTextPrefix front text None) (λ x. (n : ℕ) × FindsTextPrefix front text (Some n) × (x.now ≡ drop n text) × (length x.now + n ≡ length text)) →
    MatchOption r (after_front front text ≡ None) (λ x. after_front front text ≡ Some x.now)
stripped-after front text None h = after-none front text (λ rest e. h rest e)
stripped-after front text (Some x) h =
    let whole : text ≡ front ++ x.now = h.1.1 ∙ ap (λ t. front ++ t) (sym h.2) in
    ap (after_front front) whole ∙ after_front-gives front x.now

-- ---- spaces

repeat-last : (n : ℕ) (rest : List ℕ) → repeat n (space ∷ []) ++ (space ∷ rest) ≡ repeat (suc n) (space ∷ []) ++ rest
repeat-last zero rest = refl
repeat-last (suc n) rest = ap (λ t. space ∷ t) (repeat-last n rest)

cut-spaces : (text : List ℕ) (ns : List ℕ) (rest : List ℕ) → CutsPrefixes (FindsTextPrefix (space ∷ [])) text ns rest → text ≡ repeat (length ns) (space ∷ []) ++ rest
cut-spaces text [] rest h = sym h
cut-spaces text (n ∷ ns) rest h =
    let middle : h.0 ≡ space ∷ rest = h.2.1 ∙ ap (λ t. space ∷ t) (sym h.3) in
    cut-spaces text ns h.0 h.1 ∙ ap (λ t. repeat (length ns) (space ∷ []) ++ t) middle ∙ repeat-last (length ns) rest

no-space : (rest : List ℕ) → ((more : List ℕ) → rest ≢ space ∷ more) → start_spaces rest ≡ 0
no-space [] h = refl
no-space (byte ∷ rest) h = rw (ne_eqb byte 32 (λ e. h rest (λ i. e i ∷ rest))) refl

trimmed : (rest : List ℕ) → IsFullyTrimmed (FindsTextPrefix (space ∷ [])) rest → start_spaces rest ≡ 0
trimmed rest h = by h.0 h.1 h.2
  where
    by : (o : Option ℕ) → FindsTextPrefix (space ∷ []) rest o → IfSome o (λ n. n ≡ 0) → start_spaces rest ≡ 0
    by None lacks none = no-space rest (λ more e. lacks more e)
    by (Some n) found none = absurd (let z : n ≡ 1 = found.0 in omega (arith, none))

-- `trim_start_matches` at a space
pub record AreSpacesOff (line rest : List ℕ) : Type 0 where
  pub rest_is : rest ≡ without_start_spaces line
  pub counted : length line ≡ start_spaces line + length rest

pub trimmed-spaces : (line rest : List ℕ) → IsTrimStartMatches (FindsTextPrefix (space ∷ [])) line rest → AreSpacesOff line rest
unfolding encode_utf8
trimmed-spaces line rest h =
    let n : ℕ = length (h.0.0) in
    let whole : line ≡ repeat n (space ∷ []) ++ rest = cut-spaces line h.0.0 rest h.0.1 in
    let none : start_spaces rest ≡ 0 = trimmed rest h.1 in
    let count : start_spaces line ≡ n = ap start_spaces whole ∙ spaces-count n rest none in
    record {
      rest_is = sym (ap without_start_spaces whole ∙ rest-after n rest none);
      counted = ap (λ (t : List ℕ). length t) whole ∙ length-append (repeat n (space ∷ [])) rest ∙ ap (λ m. m + length rest) (repeated n ∙ sym count);
    }
  where
    repeated : (n : ℕ) → length (repeat n (space ∷ [])) ≡ n
    repeated zero = refl
    repeated (suc n) = ap suc (repeated n)

-- ---- repeated pieces

-- one piece of several
pub after-one : (piece text rest : List ℕ) (more : ℕ) → after_front piece text ≡ Some rest → after_front (repeat (suc more) piece) text ≡ after_front (repeat more piece) rest
after-one piece text rest more e =
    ap (after_front (piece ++ repeat more piece)) (after_front-is piece text rest e) ∙ after_front-more piece (repeat more piece) rest

pub after-no_one : (piece text : List ℕ) (more : ℕ) → after_front piece text ≡ None → after_front (repeat (suc more) piece) text ≡ None
after-no_one piece text more e = after-none (piece ++ repeat more piece) text (λ rest k. no-both rest
    (sym e ∙ ap (after_front piece) (k ∙ append_assoc piece (repeat more piece) rest) ∙ after_front-gives piece (repeat more piece ++ rest)))
  where
    no-both : (rest : List ℕ) → None ≡ Some (repeat more piece ++ rest) → ⊥
    no-both rest e = cc

-- the pieces that are left, after one more is taken
pub taken-one : (piece whole text rest : List ℕ) (count taken : ℕ) → taken < count →
    after_front (repeat count piece) whole ≡ after_front (repeat (count - taken) piece) text → after_front piece text ≡ Some rest →
    after_front (repeat count piece) whole ≡ after_front (repeat (count - (taken + 1)) piece) rest
taken-one piece whole text rest count taken lt h e =
    let n : count - taken ≡ suc (count - (taken + 1)) = omega arith in
    h ∙ ap (λ m. after_front (repeat m piece) text) n ∙ after-one piece text rest (count - (taken + 1)) e

pub taken-none : (piece whole text : List ℕ) (count taken : ℕ) → taken < count →
    after_front (repeat count piece) whole ≡ after_front (repeat (count - taken) piece) text → after_front piece text ≡ None →
    after_front (repeat count piece) whole ≡ None
taken-none piece whole text count taken lt h e =
    let n : count - taken ≡ suc (count - (taken + 1)) = omega arith in
    h ∙ ap (λ m. after_front (repeat m piece) text) n ∙ after-no_one piece text (count - (taken + 1)) e

-- ---- one prefix after another

pub after-both : (front more text rest : List ℕ) → after_front front text ≡ Some rest → after_front (front ++ more) text ≡ after_front more rest
after-both front more text rest e = ap (after_front (front ++ more)) (after_front-is front text rest e) ∙ after_front-more front more rest

pub after-first_none : (front more text : List ℕ) → after_front front text ≡ None → after_front (front ++ more) text ≡ None
after-first_none front more text e = after-none (front ++ more) text (λ rest k. no-both rest
    (sym e ∙ ap (after_front front) (k ∙ append_assoc front more rest) ∙ after_front-gives front (more ++ rest)))
  where
    no-both : (rest : List ℕ) → None ≡ Some (more ++ rest) → ⊥
    no-both rest e = cc

-- `strip_prefix` at a character
pub stripped-character : (character : ℕ) (text : List ℕ) (r : Option (Bor (List ℕ))) →
    MatchOption r (FindsCharPrefix character text None) (λ x. (n : ℕ) × FindsCharPrefix character text (Some n) × (x.now ≡ drop n text) × (length x.now + n ≡ length text)) →
    MatchOption r (after_front (encode_utf8 character) text ≡ None) (λ x. after_front (encode_utf8 character) text ≡ Some x.now)
stripped-character character text None h = after-none (encode_utf8 character) text h
stripped-character character text (Some x) h =
    let whole : text ≡ encode_utf8 character ++ x.now = h.1.split ∙ ap (λ t. encode_utf8 character ++ t) (sym h.2) in
    ap (after_front (encode_utf8 character)) whole ∙ after_front-gives (encode_utf8 character) x.now

-- after a run
pub stripped-run : (count character : ℕ) (text rest : List ℕ) (r : Option (Bor (List ℕ))) → after_front (columns count horizontal) text ≡ Some rest →
    MatchOption r (after_front (encode_utf8 character) rest ≡ None) (λ x. after_front (encode_utf8 character) rest ≡ Some x.now) →
    MatchOption r (after_run count character text ≡ None) (λ x. after_run count character text ≡ Some x.now)
stripped-run count character text rest None e h = after-both (columns count horizontal) (encode_utf8 character) text rest e ∙ h
stripped-run count character text rest (Some x) e h = after-both (columns count horizontal) (encode_utf8 character) text rest e ∙ h
