-- The parts of a block are the only nonempty list of strings without line ends whose joining by
-- line ends is the block.
use Rattle.std.proofs.Common.{◌≡◌, ℕ, ◌<◌, Bool, true, false, not, ◌||◌, List, [], ◌∷◌, ◌++◌, length, refl, sym, ap, ◌∙◌, arith, ◌==◌}
use Rattle.std.specs.List.{list_all, onto_first, join_with_byte}
use Rattle.std.proofs.lemmas.Bool.{and_parts}
use Rattle.std.proofs.lemmas.List.Splits.{join_with_byte-slice_split, length-slice_split, slice_split-cons_no}
use Rattle.tracing_tree_drawing.specs.Format.Picture.{parts_of, has_line_end, AreParts}

-- no part has a line end
abbrev clean : List (List ℕ) → Bool
clean parts = list_all (λ part. not (has_line_end part)) parts

clean-onto_first : (x : ℕ) (parts : List (List ℕ)) → (x == 10) ≡ false → clean parts ≡ true → clean (onto_first x parts) ≡ true
clean-onto_first x [] e h = rw e refl
clean-onto_first x (part ∷ parts) e h = rw e h

clean-step : (x : ℕ) (xs : List ℕ) (b : Bool) → (x == 10) ≡ b → clean (parts_of xs) ≡ true → clean (parts_of (x ∷ xs)) ≡ true
clean-step x xs true e h = rw e h
clean-step x xs false e h = rw e (clean-onto_first x (parts_of xs) e h)

clean-parts_of : (block : List ℕ) → clean (parts_of block) ≡ true
clean-parts_of [] = refl
clean-parts_of (x ∷ xs) = clean-step x xs (x == 10) refl (clean-parts_of xs)

pub parts_of-are_parts : (block : List ℕ) → AreParts block (parts_of block)
parts_of-are_parts block = record {
  joined = join_with_byte-slice_split 10 block;
  some = let e = length-slice_split (λ byte. byte == 10) block in omega arith;
  without_line_ends = clean-parts_of block;
}

-- ---- no other list is

no_end-parts : (x : ℕ) (text : List ℕ) → not (has_line_end (x ∷ text)) ≡ true → (x == 10) ≡ false
no_end-parts x text h = elim (x == 10) as (λ b. not (b || has_line_end text) ≡ true → b ≡ false) [ true ↦ (λ e. cc) | false ↦ (λ e. refl) ] h

no_end-rest : (x : ℕ) (text : List ℕ) → not (has_line_end (x ∷ text)) ≡ true → not (has_line_end text) ≡ true
no_end-rest x text h = elim (x == 10) as (λ b. not (b || has_line_end text) ≡ true → not (has_line_end text) ≡ true) [ true ↦ (λ e. cc) | false ↦ (λ e. e) ] h

-- a string without line ends is one part
parts_of-part : (part : List ℕ) → not (has_line_end part) ≡ true → parts_of part ≡ part ∷ []
parts_of-part [] h = refl
parts_of-part (x ∷ part) h =
    slice_split-cons_no (λ byte. byte == 10) x part (no_end-parts x part h) ∙ ap (onto_first x) (parts_of-part part (no_end-rest x part h))

-- and before a line end it is the first part
parts_of-append : (part rest : List ℕ) → not (has_line_end part) ≡ true → parts_of (part ++ 10 ∷ rest) ≡ part ∷ parts_of rest
parts_of-append [] rest h = refl
parts_of-append (x ∷ part) rest h =
    slice_split-cons_no (λ byte. byte == 10) x (part ++ 10 ∷ rest) (no_end-parts x part h)
    ∙ ap (onto_first x) (parts_of-append part rest (no_end-rest x part h))

parts_of-join : (parts : List (List ℕ)) → 0 < length parts → clean parts ≡ true → parts_of (join_with_byte 10 parts) ≡ parts
parts_of-join [] some h = absurd (omega arith)
parts_of-join (part ∷ []) some h = parts_of-part part (and_parts (not (has_line_end part)) true h).0
parts_of-join (part ∷ next ∷ parts) some h =
    let both = and_parts (not (has_line_end part)) (clean (next ∷ parts)) h in
    parts_of-append part (join_with_byte 10 (next ∷ parts)) both.0
    ∙ ap (λ others. part ∷ others) (parts_of-join (next ∷ parts) (omega arith) both.1)

-- a block has one list of parts
pub parts_of-only : (block : List ℕ) (parts : List (List ℕ)) → AreParts block parts → parts ≡ parts_of block
parts_of-only block parts h =
    sym (parts_of-join parts h.some h.without_line_ends) ∙ ap parts_of h.joined
