-- What follows a mark.
use Rattle.std.proofs.Common.{◌≡◌, ℕ, true, false, List, Option, Some, None, drop, option_map, refl, sym, ap, ◌∙◌, MatchOption}
use Rattle.std.specs.Borrow.{Bor}
use Rattle.std.specs.Str.Pattern.{FindsTextPrefix, StripsPrefix}
use Rattle.std.proofs.lemmas.Str.Pattern.{starts_text}
use Rattle.ttree_source.specs.Marks.{after_mark, begins}

pub strips : (r : Option (Bor (List ℕ))) (mark line : List ℕ) →
    MatchOption r (FindsTextPrefix mark line None) (λ x. StripsPrefix (FindsTextPrefix mark) line x.now) → option_map (λ s. s.now) r ≡ after_mark mark line
strips None mark line h = rw (sym (starts_text false mark line h)) refl
strips (Some x) mark line (n, (is, split, boundary), rest, len) =
    let begun : begins mark line ≡ true = sym (starts_text true mark line (n, (is, split, boundary), rw is boundary)) in
    rw begun (ap Some (rest ∙ ap (λ k. drop k line) is))
