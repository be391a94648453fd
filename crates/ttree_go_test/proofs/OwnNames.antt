-- The name that a span shows, after its parent's name, is the whole name.
use Rattle.std.proofs.Common.{◌≡◌, ℕ, true, false, List, [], ◌∷◌, ◌++◌, Option, Some, refl, ap, ◌∙◌, append_assoc, arith}
use Rattle.std.proofs.lemmas.Bool.Decides.{nat_tests}
use Rattle.std.specs.Prelude.{codes, drop, length, option_and_then, unwrap_or}
use Rattle.ttree_source.specs.Marks.{after_mark, begins, is_empty}
use Rattle.ttree_go_test.specs.Texts.{own_name}

begins_itself : (mark text : List ℕ) → begins mark (mark ++ text) ≡ true
begins_itself [] text = refl
begins_itself (b ∷ mark) text = grind (arith, nat_tests, begins_itself mark text)

drop_itself : (mark text : List ℕ) → drop (length mark) (mark ++ text) ≡ text
drop_itself [] text = refl
drop_itself (b ∷ mark) text = drop_itself mark text

after_itself : (mark text : List ℕ) → after_mark mark (mark ++ text) ≡ Some text
after_itself mark text = rw (begins_itself mark text) (ap Some (drop_itself mark text))

own_after : (outer name : List ℕ) → is_empty outer ≡ false → own_name outer (outer ++ (codes "/" ++ name)) ≡ name
own_after outer name full =
    let rest : List ℕ = codes "/" ++ name in
    let behind : Option (List ℕ) → List ℕ = λ found. unwrap_or (option_and_then (after_mark (codes "/")) found) (outer ++ rest) in
    rw full (ap behind (after_itself outer rest) ∙ ap (λ found. unwrap_or found (outer ++ rest)) (after_itself (codes "/") name))

-- a test in the span of another shows what follows that test's name and a `/`
pub own_behind : (outer name : List ℕ) → is_empty outer ≡ false → own_name outer (outer ++ codes "/" ++ name) ≡ name
own_behind outer name full = ap (own_name outer) (append_assoc outer (codes "/") name) ∙ own_after outer name full
