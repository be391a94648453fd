-- The pieces that the code pushes are the frames.
use Rattle.std.proofs.Common.{◌≡◌, ℕ, zero, suc, ◌+◌, Bool, true, false, List, [], ◌++◌, refl, sym, ap, ◌∙◌, append_assoc}
use Rattle.std.specs.List.{repeat}
use Rattle.std.specs.Char.{encode_utf8}
use Rattle.std.proofs.Math.Nat.{zero-add, suc-add}
use Rattle.std.proofs.lemmas.List.{append-nil}
use Rattle.tracing_tree_drawing.specs.Format.Frames.{frame_pieces, span_pieces}
use Rattle.tracing_tree_drawing.specs.Format.Picture.{columns, span_corners}
use Rattle.tracing_tree_drawing.proofs.Characters.{space, vertical}

-- `many` times, and then `more` times
repeat-append : (many more : ℕ) (piece : List ℕ) → repeat (many + more) piece ≡ repeat many piece ++ repeat more piece
repeat-append zero more piece = ap (λ n. repeat n piece) (zero-add more)
repeat-append (suc many) more piece =
    ap (λ n. repeat n piece) (suc-add many more)
    ∙ ap (λ rest. piece ++ rest) (repeat-append many more piece)
    ∙ sym (append_assoc piece (repeat many piece) (repeat more piece))

-- one time more
pub repeated-step : (start before after piece : List ℕ) (many : ℕ) → before ≡ start ++ repeat many piece → after ≡ before ++ piece →
    after ≡ start ++ repeat (many + 1) piece
repeated-step start before after piece many h e =
    e ∙ ap (λ text. text ++ piece) h ∙ append_assoc start (repeat many piece) piece
    ∙ ap (λ text. start ++ text) (ap (λ text. repeat many piece ++ text) (sym (append-nil piece)) ∙ sym (repeat-append many 1 piece))

-- spaces, and more of them
pub blank-pieces : (many more : ℕ) → frame_pieces many (columns more space) [] 0 [] ≡ columns (many + more) space
blank-pieces many more =
    append-nil (columns many space ++ columns more space ++ []) ∙ append-nil (columns many space ++ columns more space)
    ∙ sym (repeat-append many more (encode_utf8 space))

-- the corners of a span's row
pub span-pieces : (left right : ℕ) (verbose : Bool) (amount before : ℕ) →
    span_pieces (encode_utf8 left) (encode_utf8 right) verbose amount before ≡ span_corners left right verbose amount before
span-pieces left right false amount before = refl
span-pieces left right true amount before = refl

-- a bar `shift` columns further right
pub later-pieces : (before shift amount : ℕ) →
    frame_pieces before (columns shift space ++ encode_utf8 vertical) (encode_utf8 space) amount []
    ≡ columns (before + shift) space ++ encode_utf8 vertical ++ columns amount space
later-pieces before shift amount =
    append-nil (columns before space ++ (columns shift space ++ encode_utf8 vertical) ++ columns amount space)
    ∙ ap (λ text. text ++ columns amount space) (sym (append_assoc (columns before space) (columns shift space) (encode_utf8 vertical))
    ∙ ap (λ text. text ++ encode_utf8 vertical) (sym (repeat-append before shift (encode_utf8 space))))
