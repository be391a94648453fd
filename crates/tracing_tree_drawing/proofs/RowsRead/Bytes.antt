-- Prefixes of strings, and the spaces at their start.
use Rattle.std.proofs.Common.{◌≡◌, ◌≢◌, ℕ, zero, suc, ◌+◌, ◌==◌, Bool, true, false, List, [], ◌∷◌, ◌++◌, drop, Some, None, is_some, if◌then◌else◌, refl, sym, ap, ◌∙◌, subst, arith, append_assoc, eq-eqb, eqb-true}
use Rattle.std.specs.Char.{encode_utf8}
use Rattle.std.specs.List.{repeat, starts_with}
use Rattle.tracing_tree_drawing.specs.Format.Picture.{columns}
use Rattle.tracing_tree_drawing.proofs.Characters.{space, horizontal}
use Rattle.tracing_tree_drawing.specs.Rows.RowText.{without_start_spaces}
use Rattle.tracing_tree_drawing.specs.Rows.Line.{after_front, after_run, start_spaces}

-- three parts before a string, one by one
pub three-parts : (first second third text : List ℕ) → first ++ second ++ third ++ text ≡ first ++ (second ++ (third ++ text))
three-parts first second third text = simp append_assoc

pub same : (x : ℕ) → (x == x) ≡ true
same x = eq-eqb x x refl

-- ---- prefixes

-- a prefix with more after it
pub after_front-more : (front more text : List ℕ) → after_front (front ++ more) (front ++ text) ≡ after_front more text
after_front-more [] more text = refl
after_front-more (byte ∷ front) more text = rw (same byte) (after_front-more front more text)

pub after_front-gives : (front text : List ℕ) → after_front front (front ++ text) ≡ Some text
after_front-gives [] text = refl
after_front-gives (byte ∷ front) text = rw (same byte) (after_front-gives front text)

some_of_none : {A : Type 0} {x : List ℕ} → None ≡ Some x → A
some_of_none e = cc

some-same : (x y : List ℕ) → Some x ≡ Some y → x ≡ y
some-same x y e = cc

pub after_front-is : (front text rest : List ℕ) → after_front front text ≡ Some rest → text ≡ front ++ rest
after_front-is [] text rest e = some-same text rest e
after_front-is (byte ∷ front) [] rest e = some_of_none e
after_front-is (byte ∷ front) (first ∷ text) rest e = by (after_front-is front text rest) (byte == first) refl
  where
    by : (after_front front text ≡ Some rest → text ≡ front ++ rest) → (b : Bool) → (byte == first) ≡ b → first ∷ text ≡ byte ∷ front ++ rest
    by ih true k =
        let h : after_front front text ≡ Some rest = subst (λ b. (if b then after_front front text else None) ≡ Some rest) k e in
        λ i. sym (eqb-true byte first k) i ∷ ih h i
    by ih false k = some_of_none (subst (λ b. (if b then after_front front text else None) ≡ Some rest) k e)

-- the same as the test of a prefix
pub begins-after : (front text : List ℕ) → starts_with (λ x y. x == y) text front ≡ is_some (after_front front text)
begins-after [] text = refl
begins-after (byte ∷ front) [] = refl
begins-after (byte ∷ front) (first ∷ text) = by (begins-after front text) (byte == first) refl
  where
    by : starts_with (λ x y. x == y) text front ≡ is_some (after_front front text) → (b : Bool) → (byte == first) ≡ b →
        starts_with (λ x y. x == y) (first ∷ text) (byte ∷ front) ≡ is_some (after_front (byte ∷ front) (first ∷ text))
    by ih true k = rw k ih
    by ih false k = rw k refl

-- ---- runs

-- a run of another length before the same character doesn't match
pub after_run-other : (character : ℕ) → ((text : List ℕ) → after_front (encode_utf8 character) (encode_utf8 horizontal ++ text) ≡ None) →
    ((more text : List ℕ) → after_front (encode_utf8 horizontal ++ more) (encode_utf8 character ++ text) ≡ None) →
    (count other : ℕ) (text : List ℕ) → count ≢ other → after_run count character (columns other horizontal ++ (encode_utf8 character ++ text)) ≡ None
after_run-other character longer shorter zero zero text ne = absurd (ne refl)
after_run-other character longer shorter zero (suc other) text ne =
    ap (after_front (encode_utf8 character)) (append_assoc (encode_utf8 horizontal) (columns other horizontal) (encode_utf8 character ++ text))
    ∙ longer (columns other horizontal ++ (encode_utf8 character ++ text))
after_run-other character longer shorter (suc count) zero text ne =
    ap (λ front. after_front front (encode_utf8 character ++ text)) (append_assoc (encode_utf8 horizontal) (columns count horizontal) (encode_utf8 character))
    ∙ shorter (columns count horizontal ++ encode_utf8 character) text
after_run-other character longer shorter (suc count) (suc other) text ne =
    let dash : List ℕ = encode_utf8 horizontal in
    ap (λ front. after_front front ((dash ++ repeat other dash) ++ (encode_utf8 character ++ text))) (append_assoc dash (repeat count dash) (encode_utf8 character))
    ∙ ap (after_front (dash ++ (repeat count dash ++ encode_utf8 character))) (append_assoc dash (repeat other dash) (encode_utf8 character ++ text))
    ∙ after_front-more dash (repeat count dash ++ encode_utf8 character) (repeat other dash ++ (encode_utf8 character ++ text))
    ∙ after_run-other character longer shorter count other text (λ e. ne (ap suc e))

-- the run itself
pub after_run-gives : (count character : ℕ) (text : List ℕ) →
    after_run count character (columns count horizontal ++ (encode_utf8 character ++ text)) ≡ Some text
after_run-gives count character text =
    ap (after_front (columns count horizontal ++ encode_utf8 character)) (sym (append_assoc (columns count horizontal) (encode_utf8 character) text))
    ∙ after_front-gives (columns count horizontal ++ encode_utf8 character) text

pub after_run-is : (count character : ℕ) (text rest : List ℕ) → after_run count character text ≡ Some rest →
    text ≡ columns count horizontal ++ (encode_utf8 character ++ rest)
after_run-is count character text rest e =
    after_front-is (columns count horizontal ++ encode_utf8 character) text rest e
    ∙ append_assoc (columns count horizontal) (encode_utf8 character) rest

-- ---- spaces

pub start_spaces-more : (n : ℕ) (text : List ℕ) → start_spaces (columns n space ++ text) ≡ n + start_spaces text
unfolding encode_utf8
start_spaces-more zero text = let e : start_spaces text ≡ 0 + start_spaces text = omega arith in e
start_spaces-more (suc n) text = let ih = start_spaces-more n text in let e : 1 + start_spaces (columns n space ++ text) ≡ suc n + start_spaces text = omega arith in e

-- as many spaces as are counted, and what follows
pub spaces-before : (line : List ℕ) → line ≡ columns (start_spaces line) space ++ without_start_spaces line
unfolding encode_utf8
spaces-before [] = refl
spaces-before (byte ∷ line) = by (spaces-before line) (byte == 32) refl
  where
    by : line ≡ columns (start_spaces line) space ++ without_start_spaces line → (b : Bool) → (byte == 32) ≡ b →
        byte ∷ line ≡ columns (start_spaces (byte ∷ line)) space ++ without_start_spaces (byte ∷ line)
    by ih true k =
        let s : suc (start_spaces line) ≡ 1 + start_spaces line = omega arith in
        rw k (subst (λ n. byte ∷ line ≡ columns n space ++ drop n (byte ∷ line)) s (λ i. eqb-true byte 32 k i ∷ ih i))
    by ih false k = rw k refl

pub rest-after : (n : ℕ) (text : List ℕ) → start_spaces text ≡ 0 → without_start_spaces (columns n space ++ text) ≡ text
unfolding encode_utf8
rest-after n text e =
    let count : start_spaces (columns n space ++ text) ≡ n = let k = start_spaces-more n text in omega arith in
    ap (λ m. drop m (columns n space ++ text)) count ∙ past n text
  where
    past : (n : ℕ) (text : List ℕ) → drop n (columns n space ++ text) ≡ text
    past zero text = refl
    past (suc n) text = past n text

pub spaces-count : (n : ℕ) (text : List ℕ) → start_spaces text ≡ 0 → start_spaces (columns n space ++ text) ≡ n
spaces-count n text e = let k = start_spaces-more n text in omega arith
