-- What the proofs of `DifferenceIter` share.
use Rattle.std.proofs.Common.{◌≡◌, ◌∙◌, refl, sym, ap₂, subst, Bool, true, false, not, List, [], ◌∷◌, ◌++◌, Option, Some, MatchBool, Bor}
use Rattle.std.proofs.lemmas.List.Elements.{All-push}
use Rattle.std.specs.Fn.{Shared, FnReturnsAt}
use Rattle.tracing_tree_layer.specs.Difference.Steps.{ReturnsKey, KeysCompare, Matches, Differs, AllMatch, GivesDiffering}

module _ {C A U : Type 0} (calls : Shared C (Bor A × Unit {0}) U) (eq : U → U → Bool) (compare : C) where
  Keys-by_test : {k m : U} {x y : A} → FnReturnsAt calls compare x k → FnReturnsAt calls compare y m → (t : Bool) → eq k m ≡ t
      → MatchBool (not t) (KeysCompare calls eq compare x y false) (KeysCompare calls eq compare x y true)
  Keys-by_test {k} {m} first second true e = (k, m, first, second, e)
  Keys-by_test {k} {m} first second false e = (k, m, first, second, e)

  -- what `!=` returns of two keys says whether a left item differs
  pub Differs-from_ne : {k m : U} {x y : A} {left : Option A} (b : Bool) → left ≡ Some x → FnReturnsAt calls compare x k
      → FnReturnsAt calls compare y m → b ≡ not (eq k m)
      → MatchBool b (Differs calls eq compare left y) (Matches calls eq compare left y)
  Differs-from_ne {k} {m} {x} {y} b here first second e =
      subst (λ (p : Option A × Bool). MatchBool p.1 (Differs calls eq compare p.0 y) (Matches calls eq compare p.0 y)) (λ i. (sym here i, sym e i)) (Keys-by_test first second (eq k m) refl)

  -- if `compare` returns what `key` does, the two keys are those
  pub KeysCompare-keys : (key : A → U) → ReturnsKey calls compare key → (x y : A) (b : Bool) → KeysCompare calls eq compare x y b
      → eq (key x) (key y) ≡ b
  KeysCompare-keys key known x y b h = sym (ap₂ eq (known x h.0 h.2) (known y h.1 h.3)) ∙ h.4

  -- what a step says of a function that is `compare`
  pub AllMatch-same : (f : C) (ps : List (Option A × A)) → f ≡ compare → AllMatch calls eq f ps → AllMatch calls eq compare ps
  AllMatch-same f ps e = subst (λ g. AllMatch calls eq g ps) e

  pub GivesDiffering-same : (f : C) (o : Option (Option A × A)) (r : Option A) → f ≡ compare → GivesDiffering calls eq f o r
      → GivesDiffering calls eq compare o r
  GivesDiffering-same f o r e = subst (λ g. GivesDiffering calls eq g o r) e

  pub Differs-same : (f : C) (left : Option A) (right : A) → f ≡ compare → Differs calls eq f left right
      → Differs calls eq compare left right
  Differs-same f left right e = subst (λ g. Differs calls eq g left right) e

  -- one more pair that matches
  pub AllMatch-push : (f : C) (ps : List (Option A × A)) (p : Option A × A) → f ≡ compare → AllMatch calls eq compare ps
      → Matches calls eq f p.0 p.1 → AllMatch calls eq compare (ps ++ (p ∷ []))
  AllMatch-push f ps p e h m = All-push (λ q. Matches calls eq compare q.0 q.1) ps p h (subst (λ g. Matches calls eq g p.0 p.1) e m)
