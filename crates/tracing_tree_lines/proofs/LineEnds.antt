-- The line ends in the bytes that a reader shows, and which line comes first.
use Rattle.std.proofs.Common.{◌≡◌, ℕ, ◌+◌, ◌<◌, ◌==◌, Bool, true, false, not, List, [], ◌∷◌, ◌++◌, length, length-drop, take, drop, get_or, get_or-drop, take-append-drop, Option, Some, None, Ok, position, refl, sym, ap, subst, ◌∙◌, arith, append_assoc, append-nil, eqb-true, ⊎_elim}
use Rattle.std.specs.Io.KnownBytes.{Consumes, Keeps, IsAtEnd, prepend_known}
use Rattle.memchr.specs.Find.{IsFirstByte, Nowhere, Passes, is_byte}
use Rattle.std.proofs.Math.Nat.{eq-or-lt_of_le}
use Rattle.std.proofs.lemmas.Bool.{cases_lt, false≢true}
use Rattle.std.proofs.lemmas.Grind.{common_steps, get_or_default_zero}
use Rattle.std.proofs.lemmas.List.{take_more}
use Rattle.std.proofs.lemmas.List.Elements.{All-append}
use Rattle.std.proofs.lemmas.List.Sums.{fails_before_first}
use Rattle.std.proofs.lemmas.List.Quantifiers.{position-Some}
use Rattle.std.proofs.lemmas.List.Splits.{slice_split_at, slice_split_none, length-slice_split}
use Rattle.std.proofs.KnownBytes.{Consumes-nil, Consumes-trans}
use Rattle.tracing_tree_drawing.specs.Format.Picture.{parts_of}
use Rattle.tracing_tree_lines.specs.Lines.Spelled.{input_lines, without_empty_last}
use Rattle.tracing_tree_lines.specs.Lines.Inputs.{DropsHeld, HoldsFront}
use Rattle.tracing_tree_lines.specs.Lines.Reads.{HasNoLineEnd, TakesPart, TakesNothing, TakesLine, TakesEnded, TakesRest, ReadsNext}

-- a line end
abbrev pub is_end : ℕ → Bool
is_end byte = byte == 10

-- ---- the bytes that a reader shows

-- what precedes the first line end, and up to it
pub record EndsAt (held : List ℕ) (i : ℕ) : Type 0 where
  pub clean : HasNoLineEnd (take i held)
  pub through : take (i + 1) held ≡ take i held ++ 10 ∷ []
  pub inside : i < length held

-- no byte before the first line end is one
before_first_end : (held : List ℕ) (i : ℕ) → i < length held → ((k : ℕ) → k < i → is_end (get_or held k 0) ≡ false) → HasNoLineEnd (take i held)
before_first_end held i inside none = λ k d lt. grind (arith, common_steps, none k)

-- the place of the first line end
pub ends_at : (held : List ℕ) (i : ℕ) → position is_end held ≡ Some i → EndsAt held i
ends_at held i e =
    let found = position-Some is_end held i 0 e in
    record {
      clean = before_first_end held i found.0 found.2;
      through = take_more held i 0 found.0 ∙ ap (λ byte. take i held ++ byte ∷ []) (eqb-true (get_or held i 0) 10 found.1);
      inside = found.0;
    }

-- bytes in which no line end is found have no line end
pub has_no_end : (held : List ℕ) → position is_end held ≡ None → HasNoLineEnd held
has_no_end held e = λ k d lt. fails_before_first is_end held k d (grind (arith, common_steps))

-- what isn't true is false
not_true : (b : Bool) → ¬ (b ≡ true) → b ≡ false
not_true true none = absurd (none refl)
not_true false none = refl

-- bytes from a place on, without a line end
pub no_end_from : (held : List ℕ) (from : ℕ) → Nowhere (Passes (is_byte 10) held) from (length held) → HasNoLineEnd (drop from held)
no_end_from held from none = λ k d lt.
    let inside : from + k < length held = omega (arith, lt, length-drop from held) in
    let same : get_or (drop from held) k d ≡ get_or held (from + k) 0 =
    get_or-drop from held k d ∙ get_or_default_zero held (from + k) d inside in
    ap is_end same ∙ not_true (is_end (get_or held (from + k) 0)) (none (from + k) (omega arith) inside)

-- a place before another isn't the first if the other is
not_before : (held : List ℕ) (i k : ℕ) → is_end (get_or held i 0) ≡ true → ((j : ℕ) → j < k → is_end (get_or held j 0) ≡ false) → i < k → ⊥
not_before held i k here none lt = false≢true (sym (none i lt) ∙ here)

-- what a search finds is the place of the first line end
found_place : (held : List ℕ) (r found : Option ℕ) → IsFirstByte (is_byte 10) held r → position is_end held ≡ found → r ≡ found
found_place held None None h e = refl
found_place held None (Some k) h e =
    let p = position-Some is_end held k 0 e in
    absurd (h k (omega arith) p.0 p.1)
found_place held (Some i) None h e = absurd (false≢true (sym (has_no_end held e i 0 h.0.high) ∙ h.1))
found_place held (Some i) (Some k) h e =
    let p = position-Some is_end held k 0 e in
    ⊎_elim (λ lt. absurd (not_before held i k h.1 p.2 lt))
    (λ above. ⊎_elim (λ same. ap Some (sym same)) (λ lt. absurd (h.0.before k (omega arith) lt p.1)) (eq-or-lt_of_le above))
    (cases_lt i k)

pub is_place : (held : List ℕ) (r : Option ℕ) → IsFirstByte (is_byte 10) held r → r ≡ position is_end held
is_place held r h = found_place held r (position is_end held) h refl

-- ---- the lines of an input

-- only the last part may be left out
first_stays : (part : List ℕ) (parts : List (List ℕ)) → 0 < length parts → without_empty_last (part ∷ parts) ≡ part ∷ without_empty_last parts
first_stays part [] some = absurd (omega arith)
first_stays part (next ∷ parts) some = refl

-- a line that a line end ends is the first
pub first_line_of : (line rest : List ℕ) → HasNoLineEnd line → input_lines (line ++ 10 ∷ rest) ≡ line ∷ input_lines rest
first_line_of line rest clean =
    let some : 0 < length (parts_of rest) = omega (arith, length-slice_split is_end rest) in
    ap without_empty_last (slice_split_at is_end line 10 rest clean refl) ∙ first_stays line (parts_of rest) some

-- a line that isn't empty is the only one
pub only_line_of : (line : List ℕ) → HasNoLineEnd line → (length line == 0) ≡ false → input_lines line ≡ line ∷ []
only_line_of line clean some = ap without_empty_last (slice_split_none is_end line clean) ∙ rw some refl

-- ---- what was read of a line

-- the bytes of a line that were read so far
pub record IsWithinLine (known left : Option (List ℕ)) (line : List ℕ) : Type 0 where
  pub clean : HasNoLineEnd line
  pub taken : Consumes known left line

-- nothing is read at first
pub nothing_read : (known : Option (List ℕ)) (line : List ℕ) → line ≡ [] → IsWithinLine known known line
nothing_read known line e = rw e (record { clean = λ k d lt. absurd (omega arith); taken = Consumes-nil known })

-- an interrupted look reads nothing
pub reads_nothing : (known middle left : Option (List ℕ)) (old new : List ℕ) → IsWithinLine known middle old → TakesNothing middle left old new → IsWithinLine known left new
reads_nothing known middle left old new so_far none =
    rw none.same (record { clean = so_far.clean; taken = kept known middle left old so_far.taken none.kept })
  where
    kept : (a b c : Option (List ℕ)) (bytes : List ℕ) → Consumes a b bytes → Keeps b c → Consumes a c bytes
    kept None b c bytes p q = tt
    kept (Some x) None c bytes p q = absurd p
    kept (Some x) (Some y) None bytes p q = absurd q
    kept (Some x) (Some y) (Some z) bytes p q = p ∙ ap (λ rest. bytes ++ rest) (sym q)

-- the line end was read
pub reads_line_end : (known middle left : Option (List ℕ)) (old new : List ℕ) → IsWithinLine known middle old → TakesPart (10 ∷ []) middle left old new → TakesEnded known left new
reads_line_end known middle left old new so_far last = rw last.added (record {
  within = All-append (λ byte. is_end byte ≡ false) old last.part so_far.clean last.within;
  taken = subst (Consumes known left) (sym (append_assoc old last.part (10 ∷ [])))
      (Consumes-trans known middle left old (last.part ++ 10 ∷ []) so_far.taken last.taken);
})

-- the input ended, within the line or before it
pub reads_input_end : (known middle left : Option (List ℕ)) (old new : List ℕ) → IsWithinLine known middle old → TakesNothing middle left old new →
    IsAtEnd middle → TakesRest known left new
reads_input_end None middle left old new so_far none end = tt
reads_input_end (Some x) None left old new so_far none end = absurd so_far.taken
reads_input_end (Some x) (Some y) None old new so_far none end = absurd none.kept
reads_input_end (Some x) (Some y) (Some z) old new so_far none end = (
  rw none.same so_far.clean,
  so_far.taken ∙ ap (λ rest. old ++ rest) end ∙ append-nil old ∙ sym none.same,
  ap Some (none.kept ∙ end),
)

-- ---- the lines that were read

-- a line that was taken with its line end is the first
pub takes_first : (known left : Option (List ℕ)) (line : List ℕ) → TakesEnded known left line → TakesLine known left line
takes_first None left line taken = tt
takes_first (Some x) None line taken = absurd taken.taken
takes_first (Some x) (Some z) line taken = ap input_lines (taken.taken ∙ append_assoc line (10 ∷ []) z) ∙ first_line_of line z taken.within

-- what is left is the only line if it isn't empty
pub takes_last : (known left : Option (List ℕ)) (line : List ℕ) (empty : Bool) → TakesRest known left line → empty ≡ (length line == 0) →
    ReadsNext known left line (Ok (not empty))
takes_last None left line true taken is = tt
takes_last None left line false taken is = tt
takes_last (Some x) left line true taken is =
    let none : length line ≡ 0 = eqb-true (length line) 0 (sym is) in
    ap input_lines (taken.1 ∙ nothing line none)
  where
    nothing : (bytes : List ℕ) → length bytes ≡ 0 → bytes ≡ []
    nothing [] e = refl
    nothing (b ∷ bytes) e = cc
takes_last (Some x) left line false taken is =
    subst (λ l. TakesLine (Some x) l line) (sym taken.2) (ap input_lines taken.1 ∙ only_line_of line taken.0 (sym is))

-- ---- a line that a buffer holds

held_taken : (held : List ℕ) (n : ℕ) (inner : Option (List ℕ)) → Consumes (prepend_known held inner) (prepend_known (drop n held) inner) (take n held)
held_taken held n None = tt
held_taken held n (Some rest) =
    ap (λ bytes. bytes ++ rest) (sym (take-append-drop n held)) ∙ append_assoc (take n held) (drop n held) rest

-- held bytes up to a line end are the first line, whatever follows them
pub held_line : (held : List ℕ) (inner : Option (List ℕ)) (i : ℕ) → position is_end held ≡ Some i →
    TakesLine (prepend_known held inner) (prepend_known (drop (i + 1) held) inner) (take i held)
held_line held inner i found =
    let e = ends_at held i found in
    takes_first _ _ (take i held) (record {
      within = e.clean;
      taken = subst (Consumes (prepend_known held inner) (prepend_known (drop (i + 1) held) inner)) e.through (held_taken held (i + 1) inner);
    })

-- a line that the buffer holds was removed from it
pub takes_held : (known left : Option (List ℕ)) (held line : List ℕ) (end : ℕ) → HoldsFront held known → position is_end held ≡ Some end → DropsHeld (end + 1) held known left →
    line ≡ take end held → TakesLine known left line
takes_held known left held line end front found drops is =
    let e = ends_at held end found in
    let rest : left ≡ prepend_known (drop (end + 1) held) front.unread = drops (omega (arith, e.inside)) front.unread front.front in
    rw (front.front, rest, is) (held_line held front.unread end found)
