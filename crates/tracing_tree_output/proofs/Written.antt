-- What a loop of writes has appended.
use Rattle.std.proofs.Common.{◌≡◌, ◌≢◌, ℕ, ◌-◌, ◌<◌, List, [], ◌++◌, arith, length, take, drop, refl, sym, ap, ◌∙◌, append_assoc, take-append-drop}
use Rattle.std.proofs.lemmas.List.{take_rest}

not_empty : (rest : List ℕ) → 0 < length rest → rest ≢ []
not_empty rest more e = let none : length rest ≡ 0 = ap length e in omega arith

-- the front grows by what was taken
pub moves_front : (all done rest : List ℕ) (n : ℕ) → all ≡ done ++ rest → all ≡ (done ++ take n rest) ++ take (length rest - n) (drop n rest)
moves_front all done rest n e =
    e ∙ ap (λ l. done ++ l) (sym (take-append-drop n rest)) ∙ sym (append_assoc done (take n rest) (drop n rest))
    ∙ ap (λ l. (done ++ take n rest) ++ l) (sym (take_rest rest n))

-- a write that took everything leaves nothing
pub none_left : (rest : List ℕ) (n : ℕ) → n ≡ length rest → take (length rest - n) (drop n rest) ≡ []
none_left rest n e = let zero : length rest - n ≡ 0 = omega arith in rw zero refl
