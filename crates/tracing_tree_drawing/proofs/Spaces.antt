-- Spaces that are kept ready.
use Rattle.std.proofs.Common.{◌≡◌, ◌+◌, ◌-◌, ◌*◌, ◌/◌, ◌%◌, ◌≤◌, ◌<◌, ◌++◌, arith, ℕ, zero, suc, ◌∷◌, take, refl, sym, ap, ◌∙◌}
use Rattle.std.specs.Char.{encode_utf8}
use Rattle.std.specs.List.{repeat, slice_range}
use Rattle.std.proofs.lemmas.Str.Ascii.{IsAscii-from_all}
use Rattle.std.proofs.lemmas.List.Elements.{All-replicate}
use Rattle.std.specs.Prelude.{replicate, IsAscii}
use Rattle.std.proofs.lemmas.List.{replicate-append-replicate, take-replicate}
use Rattle.std.proofs.lemmas.Nat.{div-add-mod'}
use Rattle.std.proofs.Math.Nat.{suc-mul, zero-mul}
use Rattle.tracing_tree_drawing.specs.Format.Picture.{columns}
use Rattle.tracing_tree_drawing.proofs.Characters.{space}

-- `count` spaces, one after the other
repeat-space : (count : ℕ) → columns count space ≡ replicate count space
unfolding encode_utf8
repeat-space zero = refl
repeat-space (suc count) = ap (λ rest. space ∷ rest) (repeat-space count)

-- a prefix of the spaces that are kept ready
pub ready-spaces : (ready count : ℕ) → count ≤ ready → slice_range (replicate ready space) 0 count ≡ columns count space
ready-spaces ready count fits =
    let whole : count - 0 ≡ count = omega arith in
    ap (λ n. take n (replicate ready space)) whole ∙ take-replicate count ready space fits ∙ sym (repeat-space count)

-- spaces are ASCII
pub ascii-spaces : (count : ℕ) → IsAscii (replicate count space)
ascii-spaces count = IsAscii-from_all (replicate count space) (All-replicate (λ byte. byte < 128) count space (omega arith))

-- spaces, `ready` at a time
repeat-ready : (many ready : ℕ) → repeat many (replicate ready space) ≡ replicate (many * ready) space
repeat-ready zero ready = ap (λ n. replicate n space) (sym (zero-mul ready))
repeat-ready (suc many) ready =
    let sum : ready + many * ready ≡ suc many * ready = let n = suc-mul many ready in omega (arith, n) in
    ap (λ rest. replicate ready space ++ rest) (repeat-ready many ready)
    ∙ replicate-append-replicate ready (many * ready) space ∙ ap (λ n. replicate n space) sum

-- and what is left
pub many-spaces : (count ready : ℕ) → repeat (count / ready) (replicate ready space) ++ columns (count % ready) space ≡ columns count space
many-spaces count ready =
    ap (λ front. front ++ columns (count % ready) space) (repeat-ready (count / ready) ready)
    ∙ ap (λ back. replicate (count / ready * ready) space ++ back) (repeat-space (count % ready))
    ∙ replicate-append-replicate (count / ready * ready) (count % ready) space
    ∙ ap (λ n. replicate n space) (div-add-mod' count ready) ∙ sym (repeat-space count)
