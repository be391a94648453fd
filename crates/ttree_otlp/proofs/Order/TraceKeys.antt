-- Keys of traces and of spans differ if the traces' ids have no space.
use Rattle.std.proofs.Common.{◌≡◌, ℕ, Bool, true, false, ◌||◌, ◌==◌, List, [], ◌∷◌, ◌++◌, refl, sym, ap, subst, ◌∙◌, append_assoc, true≢false}
use Rattle.std.specs.Cmp.{both_ways}
use Rattle.ttree_otlp.specs.Keyed.{key_of}
use Rattle.ttree_otlp.specs.Ties.{has_space}
use Rattle.ttree_otlp.proofs.Order.Keys.{is_key, is_key_itself, one_key}

head_is : (x y : ℕ) (l k : List ℕ) → x ∷ l ≡ y ∷ k → x ≡ y
head_is x y l k h = cc

tail_is : (x y : ℕ) (l k : List ℕ) → x ∷ l ≡ y ∷ k → l ≡ k
tail_is x y l k h = cc

pub trace_keys : (u t : List ℕ) → is_key (key_of u []) (key_of t []) ≡ is_key t u
trace_keys u t = both_ways _ _
    (λ h. subst (λ w. is_key t w ≡ true) (sym (tail_is 32 32 u t (one_key (key_of u []) (key_of t []) h))) (is_key_itself t))
    (λ h. subst (λ w. is_key (key_of w []) (key_of t []) ≡ true) (one_key t u h) (is_key_itself (key_of t [])))

space_inside : (l t : List ℕ) → has_space (l ++ 32 ∷ t) ≡ true
space_inside [] t = refl
space_inside (x ∷ l) t = by (x == 32) (space_inside l t) where
  by : (b : Bool) → has_space (l ++ 32 ∷ t) ≡ true → b || has_space (l ++ 32 ∷ t) ≡ true
  by true h = refl
  by false h = h

span_key_apart : (u t id : List ℕ) → has_space u ≡ false → (id ≡ [] → ⊥) → key_of u [] ≡ key_of t id → ⊥
span_key_apart u t [] a other h = other refl
span_key_apart u t (x ∷ id) a other h =
    true≢false (sym (space_inside id t) ∙ ap has_space (sym (tail_is 32 x u ((id ++ 32 ∷ []) ++ t) h ∙ append_assoc id (32 ∷ []) t)) ∙ a)

pub span_keys : (u t id : List ℕ) → has_space u ≡ false → has_space t ≡ false → (id ≡ [] → ⊥) → is_key (key_of u []) (key_of t id) ≡ false
span_keys u t id a b other = by (is_key (key_of u []) (key_of t id)) refl where
  by : (r : Bool) → is_key (key_of u []) (key_of t id) ≡ r → r ≡ false
  by true h = absurd (span_key_apart u t id a other (one_key (key_of u []) (key_of t id) h))
  by false h = refl
