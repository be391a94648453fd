-- The lines that bytes end.
use Rattle.std.proofs.Common.{◌≡◌, ℕ, zero, suc, ◌+◌, ◌<◌, ◌==◌, Bool, true, false, List, [], ◌∷◌, ◌++◌, Option, Some, None, OnOk, Result, Ok, Err, length, take, drop, get_or, refl, sym, ap, ◌∙◌, arith, append_assoc, append-nil}
use Rattle.memchr.specs.Find.{IsFirstByte, is_byte}
use Rattle.ttree_terminal.specs.declared.shaping.Shaping.{Shaping}
use Rattle.std.proofs.KnownBytes.{Appends-kept}
use Rattle.std.specs.Io.KnownBytes.{Appends, Keeps}
use Rattle.ttree_terminal.specs.Lines.{held_after_bytes, lines_ended, shaped}
use Rattle.ttree_terminal.specs.Writing.{EndsFirstLine, WritesOrPart}

not_true : (b : Bool) → ¬ (b ≡ true) → b ≡ false
not_true true none = absurd (none refl)
not_true false none = refl

-- a line and what follows it
pub record EndsLine (shaping : Shaping) (held bytes line rest : List ℕ) : Type 0 where
  pub lines : lines_ended shaping held bytes ≡ shaped shaping (held ++ line)
      ++ lines_ended shaping [] rest
  pub rest_held : held_after_bytes held bytes ≡ held_after_bytes [] rest

ends_at : (shaping : Shaping) (bytes held : List ℕ) (i : ℕ) → i < length bytes → ((k : ℕ) → k < i → (get_or bytes k 0 == 10) ≡ false) → (get_or bytes i 0 == 10) ≡ true →
    EndsLine shaping held bytes (take (suc i) bytes) (drop (suc i) bytes)
ends_at shaping [] held i inside none here = absurd (omega (arith, inside))
ends_at shaping (b ∷ bytes) held zero inside none here = record {
  lines = rw here refl;
  rest_held = rw here refl;
}
ends_at shaping (b ∷ bytes) held (suc i) inside none here =
    let other : (b == 10) ≡ false = none 0 (omega arith) in
    let more = ends_at shaping bytes (held ++ b ∷ []) i (omega (arith, inside)) (λ k lt. none (suc k) (omega (arith, lt))) here in
    record {
      lines = rw other (more.lines
          ∙ ap (λ l. shaped shaping l ++ lines_ended shaping [] (drop (suc i) bytes)) (append_assoc held (b ∷ []) (take (suc i) bytes)));
      rest_held = rw other more.rest_held;
    }

-- the first line of bytes
pub ends_line : (shaping : Shaping) (held bytes line rest : List ℕ) (n : ℕ) → EndsFirstLine bytes (Some n) → line ≡ take n bytes → rest ≡ drop n bytes → EndsLine shaping held bytes line rest
ends_line shaping held bytes line rest n (i, e, inside, none, here) front back =
    rw front (rw back (rw e (ends_at shaping bytes held i (omega (arith, inside, e)) none here)))

-- what a search finds
pub ends_after : (bytes : List ℕ) (i : ℕ) → IsFirstByte (is_byte 10) bytes (Some i) → EndsFirstLine bytes (Some (i + 1))
ends_after bytes i found = (
  i,
  omega arith,
  omega (arith, found.0.high),
  λ k lt. not_true (get_or bytes k 0 == 10) (found.0.before k (omega arith) lt),
  found.1,
)

pub ends_nowhere : (bytes : List ℕ) → IsFirstByte (is_byte 10) bytes None → EndsFirstLine bytes None
ends_nowhere bytes none = λ k lt. not_true (get_or bytes k 0 == 10) (none k (omega arith) lt)

-- bytes without a line end
pub record EndsNone (shaping : Shaping) (held bytes : List ℕ) : Type 0 where
  pub lines : lines_ended shaping held bytes ≡ []
  pub rest_held : held_after_bytes held bytes ≡ held ++ bytes

none_at : (shaping : Shaping) (bytes held : List ℕ) → ((k : ℕ) → k < length bytes → (get_or bytes k 0 == 10) ≡ false) → EndsNone shaping held bytes
none_at shaping [] held none = record { lines = refl; rest_held = sym (append-nil held) }
none_at shaping (b ∷ bytes) held none =
    let other : (b == 10) ≡ false = none 0 (omega arith) in
    let more = none_at shaping bytes (held ++ b ∷ []) (λ k lt. none (suc k) (omega (arith, lt))) in
    record {
      lines = rw other more.lines;
      rest_held = rw other (more.rest_held ∙ append_assoc held (b ∷ []) bytes);
    }

pub ends_none : (shaping : Shaping) (held bytes : List ℕ) → EndsFirstLine bytes None → EndsNone shaping held bytes
ends_none shaping held bytes none = none_at shaping bytes held none

-- ---- results

pub all_or_part : {A E : Type 0} (all done : List ℕ) (result : Result A E) (old new : Option (List ℕ)) → all ≡ done → Appends old new done → WritesOrPart all result old new
all_or_part all done (Ok a) old new e appended = rw e appended
all_or_part all done (Err error) old new e appended = (done, [], e ∙ sym (append-nil done), appended)

-- a flush changes nothing that is known
pub all_and_stays : {A E : Type 0} (all : List ℕ) (result : Result A E) (old middle new : Option (List ℕ)) → Appends old middle all → Keeps middle new → WritesOrPart all result old new
all_and_stays all result old middle new written kept = all_or_part all all result old new refl (Appends-kept old middle new all written kept)

pub held_when_ok : {A E : Type 0} (result : Result A E) (new middle want : List ℕ) → OnOk result (new ≡ middle) → want ≡ middle → OnOk result (new ≡ want)
held_when_ok (Ok a) new middle want h e = h ∙ sym e
held_when_ok (Err error) new middle want h e = tt
