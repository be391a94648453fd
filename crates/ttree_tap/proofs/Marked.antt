-- What comes before a mark.
use Rattle.std.proofs.Common.{◌≡◌, ◌-◌, ◌≤◌, ℕ, true, false, List, Option, Some, None, length, take, option_map, refl, sym, ap, ◌∙◌, MatchOption, arith}
use Rattle.std.specs.Borrow.{Bor}
use Rattle.std.specs.List.{ends_with}
use Rattle.std.specs.Prelude.{◌==◌}
use Rattle.std.specs.Str.Pattern.{FindsTextSuffix, StripsSuffix}
use Rattle.std.proofs.lemmas.Str.Pattern.{ends_text}
use Rattle.ttree_tap.specs.Strings.{before_mark}

pub strips_end : (r : Option (Bor (List ℕ))) (mark text : List ℕ) →
    MatchOption r (FindsTextSuffix mark text None) (λ x. StripsSuffix (FindsTextSuffix mark) text x.now) → option_map (λ s. s.now) r ≡ before_mark mark text
strips_end None mark text h = rw (sym (ends_text false mark text h)) refl
strips_end (Some x) mark text (n, (is, split, boundary), cut, len) =
    let fits : n ≤ length text = omega arith in
    let ends : ends_with (λ a b. a == b) text mark ≡ true = sym (ends_text true mark text (n, (is, split, boundary), fits, rw is boundary)) in
    rw ends (ap Some (cut ∙ ap (λ k. take (length text - k) text) is))
