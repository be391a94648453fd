-- What a run noted of a trace so far.
use Rattle.std.proofs.Common.{◌≡◌, ℕ, zero, suc, ◌+◌, ◌≤◌, Bool, true, false, List, [], ◌∷◌, ◌++◌, Option, length, take, Result, Ok, Err, refl, sym, ap, subst, ◌∙◌, arith, length-append}
use Rattle.std.specs.Prelude.{IsErr, is_ok}
use Rattle.ttree_chrome.specs.Notes.{IsNoted, counted_more}
use Rattle.ttree_source.specs.Counts.{one_more}
use Rattle.ttree_source.specs.Noted.{AddsNotes, Note}
use Rattle.ttree_source.proofs.Noted.{adds_none, adds_then}

counted_then : (a b n : ℕ) → counted_more (a + b) n ≡ counted_more b (counted_more a n)
counted_then zero b n =
    let e : zero + b ≡ b = omega arith in
    ap (λ k. counted_more k n) e
counted_then (suc a) b n =
    let e : suc a + b ≡ suc (a + b) = omega arith in
    ap (λ k. counted_more k n) e ∙ counted_then a b (one_more n)

take_whole : (xs : List Note) → take (length xs) xs ≡ xs
take_whole [] = refl
take_whole (x ∷ xs) = ap (λ zs. x ∷ zs) (take_whole xs)

take_then : (xs ys : List Note) (n : ℕ) → take (length xs + n) (xs ++ ys) ≡ xs ++ take n ys
take_then [] ys n =
    let e : length {A = Note} [] + n ≡ n = omega arith in
    ap (λ k. take k ys) e
take_then (x ∷ xs) ys n =
    let e : length (x ∷ xs) + n ≡ suc (length xs + n) = omega arith in
    ap (λ k. take k (x ∷ (xs ++ ys))) e ∙ ap (λ zs. x ∷ zs) (take_then xs ys n)

take_within : (n : ℕ) (xs ys : List Note) → n ≤ length xs → take n (xs ++ ys) ≡ take n xs
take_within zero xs ys h = refl
take_within (suc n) [] ys h = absurd (omega arith)
take_within (suc n) (x ∷ xs) ys h = ap (λ zs. x ∷ zs) (take_within n xs ys (omega arith))

-- nothing was noted
pub noted_none : (is_whole : Bool) (n : ℕ) (old : Option (List Note)) → IsNoted [] is_whole n n old old
noted_none is_whole n old = record { count = 0; within = omega arith; counted = refl; added = adds_none old; whole = λ h. refl }

-- nothing was noted yet
pub noted_not_yet : (notes : List Note) (n : ℕ) (old : Option (List Note)) → IsNoted notes false n n old old
noted_not_yet notes n old = record { count = 0; within = omega arith; counted = refl; added = adds_none old; whole = λ h. cc }

pub noted_one : (note : Note) (is_whole : Bool) (n : ℕ) (old new : Option (List Note)) → AddsNotes (note ∷ []) old new → IsNoted (note ∷ []) is_whole n (one_more n) old new
noted_one note is_whole n old new h = record { count = 1; within = omega arith; counted = refl; added = h; whole = λ _. refl }

pub noted_less : (notes : List Note) (is_whole : Bool) (before after : ℕ) (old new : Option (List Note)) → IsNoted notes true before after old new → IsNoted notes is_whole before after old new
noted_less notes is_whole before after old new h =
    record { count = h.count; within = h.within; counted = h.counted; added = h.added; whole = λ _. h.whole refl }

-- the run ended among the first of these notes
pub noted_among : (first second : List Note) (before after : ℕ) (old new : Option (List Note)) → IsNoted first false before after old new → IsNoted (first ++ second) false before after old new
noted_among first second before after old new h =
    let A : List Note → Type 0 = λ notes. AddsNotes notes old new in
    record {
      count = h.count;
      within = omega (arith, h.within, length-append first second);
      counted = h.counted;
      added = subst A (sym (take_within h.count first second h.within)) h.added;
      whole = λ w. cc;
    }

pub noted_then : (first second : List Note) (is_whole : Bool) (before middle after : ℕ) (old now new : Option (List Note)) →
    IsNoted first true before middle old now → IsNoted second is_whole middle after now new → IsNoted (first ++ second) is_whole before after old new
noted_then first second is_whole before middle after old now new h k =
    let A : List Note → Type 0 = λ notes. AddsNotes notes old new in
    let B : List Note → Type 0 = λ notes. AddsNotes notes old now in
    let all : h.count ≡ length first = h.whole refl in
    let here : AddsNotes first old now = subst B (ap (λ n. take n first) all ∙ take_whole first) h.added in
    record {
      count = length first + k.count;
      within = omega (arith, k.within, length-append first second);
      counted = k.counted ∙ ap (counted_more k.count) (h.counted ∙ ap (λ n. counted_more n before) all) ∙ sym (counted_then (length first) k.count before);
      added = subst A (sym (take_then first second k.count)) (adds_then first (take k.count second) old now new here k.added);
      whole = λ w. ap (λ n. length first + n) (k.whole w) ∙ sym (length-append first second);
    }

pub no_ok : {A E : Type 0} (result : Result A E) → IsErr result → is_ok result ≡ false
no_ok (Ok value) h = cc
no_ok (Err error) h = refl
