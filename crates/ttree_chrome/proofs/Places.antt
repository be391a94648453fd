-- The place of a cut in a string.
use Rattle.std.proofs.Common.{◌≡◌, ℕ, ◌+◌, ◌<◌, ◌==◌, ◌||◌, Bool, true, false, List, [], ◌∷◌, ◌++◌, length, get_or, refl, sym, ◌∙◌, arith, append_assoc}
use Rattle.std.specs.Prelude.{if◌then◌else◌, IsUtf8, IsCharBoundary}
use Rattle.std.proofs.Math.Seq.{get_or-append_seam}
use Rattle.std.proofs.lemmas.List.{length-append}
use Rattle.std.proofs.lemmas.Bool.Decides.{nat_tests}
use Rattle.std.proofs.lemmas.Str.{IsCharBoundary-start, IsCharBoundary-after_ascii}
use Rattle.ttree_chrome.specs.Text.{ScanState, bracket_closed, bracket_opened, byte_read, element_depth, nothing_read, place_noted, read_in_text, read_outside, scan_from, scan_of}
use Rattle.ttree_chrome.specs.declared.text.Bracket.TheVariants.{Square, Curly}

module _ (P : ℕ → Type 0) where
  place_if : (b : Bool) (x y : ScanState) → (b ≡ true → P x.place) → P y.place → P (if b then x else y).place
  place_if true x y h k = h refl
  place_if false x y h k = k

  noted_place : (level at : ℕ) (s : ScanState) → P s.place → P at → P (place_noted level at s).place
  noted_place level at s h k =
      place_if (length s.brackets == level) (record s { place = at; left_open = s.brackets }) s (λ _. k) h

  in_text_place : (byte : ℕ) (s : ScanState) → P s.place → P (read_in_text byte s).place
  in_text_place byte s h =
      place_if s.is_escaped _ _ (λ _. h) (place_if (byte == 92) _ _ (λ _. h) (place_if (byte == 34) _ _ (λ _. h) h))

  outside_place : (level at byte : ℕ) (s : ScanState) → P s.place → (byte < 128 → P at) → P (read_outside level at byte s).place
  outside_place level at byte s h k =
      place_if (byte == 34) _ _ (λ _. h)
      (place_if (byte == 91) _ _ (λ e. noted_place level at (bracket_opened Square s) h (k (grind (arith, nat_tests))))
      (place_if (byte == 123) _ _ (λ e. noted_place level at (bracket_opened Curly s) h (k (grind (arith, nat_tests))))
      (place_if ((byte == 93) || (byte == 125)) _ _ (λ e. noted_place level at (bracket_closed s) h (k (grind (arith, nat_tests)))) h)))

  -- one more byte leaves the place, or moves it after a byte of ASCII
  read_place : (level at byte : ℕ) (s : ScanState) → P s.place → (byte < 128 → P at) → P (byte_read level at byte s).place
  read_place level at byte s h k =
      place_if s.in_text _ _ (λ _. in_text_place byte s h) (outside_place level at byte s h k)

behind : (bs front others : List ℕ) (byte at : ℕ) → bs ≡ front ++ byte ∷ others → length front ≡ at → IsUtf8 bs → byte < 128 → IsCharBoundary bs (at + 1)
behind bs front others byte at e n u small =
    let found : get_or bs at 0 ≡ byte = rw (e, sym n) (get_or-append_seam front byte others 0) in
    let within : at < length bs = rw e (simp length-append (omega arith)) in
    IsCharBoundary-after_ascii bs at u within (rw found small)

scan_place : (bs : List ℕ) → IsUtf8 bs → (level at : ℕ) (front rest : List ℕ) (s : ScanState) → bs ≡ front ++ rest → length front ≡ at → IsCharBoundary bs s.place →
    IsCharBoundary bs (scan_from level at rest s).place
scan_place bs u level at front [] s e n h = h
scan_place bs u level at front (byte ∷ others) s e n h =
    scan_place bs u level (at + 1) (front ++ byte ∷ []) others (byte_read level (at + 1) byte s)
    (e ∙ sym (append_assoc front (byte ∷ []) others)) (simp length-append (omega arith))
    (read_place (IsCharBoundary bs) level (at + 1) byte s h (behind bs front others byte at e n u))

-- a string may be cut at the place that a scan of it finds
pub place_is_boundary : (bs : List ℕ) → IsUtf8 bs → IsCharBoundary bs (scan_of bs).place
place_is_boundary bs u = scan_place bs u (element_depth bs) 0 [] bs nothing_read refl refl (IsCharBoundary-start bs u)
