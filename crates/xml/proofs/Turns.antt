-- A turn of decoding.
use Rattle.std.proofs.Common.{◌≡◌, ℕ, zero, suc, true, false, List, [], ◌++◌, length, refl, sym, ap, ◌∙◌, append_assoc, append-nil}
use Rattle.std.specs.Prelude.{◌==◌}
use Rattle.xml.specs.Cut.{after_piece, piece}
use Rattle.xml.specs.Decoded.{decoded_within, special}
use Rattle.xml.specs.declared.cut.Until.{Until}

-- nothing means nothing
pub nothing_left : (n : ℕ) (until : Until) (rest out : List ℕ) → (length rest == 0) ≡ true → out ++ decoded_within n until rest ≡ out
nothing_left zero until rest out e = append-nil out
nothing_left (suc n) until rest out e = rw e (append-nil out)

-- a turn writes a piece and what its mark means
pub turned : (n : ℕ) (until : Until) (rest out : List ℕ) → (length rest == 0) ≡ false →
    out ++ decoded_within (suc n) until rest
    ≡ ((out ++ piece until rest) ++ (special until (after_piece until rest)).0) ++ decoded_within n until (special until (after_piece until rest)).1
turned n until rest out e = rw e (simp append_assoc)
