-- What comes after a mark, and before one.
use Rattle.std.proofs.Common.{◌≡◌, ℕ, true, false, List, Option, Some, None, ◌-◌, length, arith, drop, take, option_map, refl, sym, ap, ◌∙◌, MatchOption}
use Rattle.std.specs.Borrow.{Bor}
use Rattle.std.specs.Prelude.{◌==◌}
use Rattle.std.specs.List.{ends_with, starts_with}
use Rattle.std.specs.Str.Pattern.{FindsTextPrefix, FindsTextSuffix, StripsPrefix, StripsSuffix}
use Rattle.std.proofs.lemmas.Str.Pattern.{ends_text, starts_text}
use Rattle.xml.specs.Cut.{after_mark, without_end}

pub strips : (r : Option (Bor (List ℕ))) (mark text : List ℕ) →
    MatchOption r (FindsTextPrefix mark text None) (λ x. StripsPrefix (FindsTextPrefix mark) text x.now) → option_map (λ s. s.now) r ≡ after_mark mark text
strips None mark text h = rw (sym (starts_text false mark text h)) refl
strips (Some x) mark text (n, (is, split, boundary), rest, len) =
    let begun : starts_with (λ a b. a == b) text mark ≡ true = sym (starts_text true mark text (n, (is, split, boundary), rw is boundary)) in
    rw begun (ap Some (rest ∙ ap (λ k. drop k text) is))

pub strips_end : (r : Option (Bor (List ℕ))) (mark text : List ℕ) →
    MatchOption r (FindsTextSuffix mark text None) (λ x. StripsSuffix (FindsTextSuffix mark) text x.now) → option_map (λ s. s.now) r ≡ without_end mark text
strips_end None mark text h = rw (sym (ends_text false mark text h)) refl
strips_end (Some x) mark text (n, (is, split, boundary), rest, len) =
    let ended : ends_with (λ a b. a == b) text mark ≡ true =
    sym (ends_text true mark text (n, (is, split, boundary), omega (arith, len), rw is boundary)) in
    rw ended (ap Some (rest ∙ ap (λ k. take (length text - k) text) is))
