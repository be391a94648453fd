-- What a map does by its keys, it does by their bytes.
use Rattle.std.proofs.Common.{◌≡◌, ℕ, List, [], ◌∷◌, ◌++◌, Option, Some, None, Bool, true, false, is_some, not, refl, ap, sym, subst, ◌∙◌, Vec}
use Rattle.std.proofs.lemmas.Bool.{true≢false}
use Rattle.std.proofs.lemmas.Map.Text.{is_eq-slice_cmp}
use Rattle.std.proofs.lemmas.Slice.Eq.{bytes_eq-Decides}
use Rattle.std.specs.Str.{bytes_eq}
use Rattle.std.specs.Prelude.{cond, IfSome}
use Rattle.std.specs.Global.{Global}
use Rattle.std.specs.Map.{lookup, remove_entry}
use Rattle.std.specs.BTreeMap.{insert_entry, is_at}
use Rattle.std.specs.Cmp.Lexicographic.{slice_cmp}
use Rattle.std.specs.Ordering.{nat_cmp, is_eq, match_ordering}
use Rattle.std.specs.declared.cmp.Ordering.{Ordering}
use Rattle.std.specs.declared.cmp.Ordering.TheVariants.{Less, Equal, Greater}
use Rattle.ttree_go_test.specs.Names.{by_bytes, emptied, filled, is_apart, is_recent, named, put, value_of, with_recent, with_value, without}
use Rattle.ttree_go_test.specs.declared.names.Recent.{Recent}

abbrev bytes_cmp : Vec ℕ Global → Vec ℕ Global → Ordering
bytes_cmp x y = slice_cmp nat_cmp x.items y.items

module _ {X : Type 0} where
  pub looked_up : (name : List ℕ) (es : List (Vec ℕ Global × X)) → lookup (is_at (λ k. slice_cmp nat_cmp name k.items)) es ≡ named name (by_bytes es)
  looked_up name [] = refl
  looked_up name (e ∷ es) = ap (cond (is_eq (slice_cmp nat_cmp name e.0.items)) (Some e.1)) (looked_up name es)

  pub removed : (name : List ℕ) (es : List (Vec ℕ Global × X)) → by_bytes (remove_entry (is_at (λ k. slice_cmp nat_cmp name k.items)) es) ≡ without name (by_bytes es)
  removed name [] = refl
  removed name (e ∷ es) = by (is_eq (slice_cmp nat_cmp name e.0.items)) (removed name es) where
    by : (here : Bool) → by_bytes (remove_entry (is_at (λ k. slice_cmp nat_cmp name k.items)) es) ≡ without name (by_bytes es)
        → by_bytes (cond here es (e ∷ remove_entry (is_at (λ k. slice_cmp nat_cmp name k.items)) es)) ≡ cond here (by_bytes es) ((e.0.items, e.1) ∷ without name (by_bytes es))
    by true others = refl
    by false others = ap (λ rest. (e.0.items, e.1) ∷ rest) others

  pub inserted : (es : List (Vec ℕ Global × X)) (key : Vec ℕ Global) (one : X) → by_bytes (insert_entry bytes_cmp es key one) ≡ put key.items one (by_bytes es)
  inserted [] key one = refl
  inserted (e ∷ es) key one = by (slice_cmp nat_cmp key.items e.0.items) (inserted es key one) where
    by : (at : Ordering) → by_bytes (insert_entry bytes_cmp es key one) ≡ put key.items one (by_bytes es)
        → by_bytes (match_ordering at ((key, one) ∷ e ∷ es) ((e.0, one) ∷ es) (e ∷ insert_entry bytes_cmp es key one))
        ≡ match_ordering at ((key.items, one) ∷ (e.0.items, e.1) ∷ by_bytes es) ((e.0.items, one) ∷ by_bytes es) ((e.0.items, e.1) ∷ put key.items one (by_bytes es))
    by Less others = refl
    by Equal others = refl
    by Greater others = ap (λ rest. (e.0.items, e.1) ∷ rest) others

  pub appended : (es more : List (Vec ℕ Global × X)) → by_bytes (es ++ more) ≡ by_bytes es ++ by_bytes more
  appended [] more = refl
  appended (e ∷ es) more = ap (λ rest. (e.0.items, e.1) ∷ rest) (appended es more)

  pub first_out : (first : Option (Vec ℕ Global × X)) (old new : List (Vec ℕ Global × X)) → IfSome first (λ e. old ≡ e ∷ new)
      → IfSome first (λ e. by_bytes old ≡ (e.0.items, e.1) ∷ by_bytes new)
  first_out None old new h = h
  first_out (Some e) old new h = ap by_bytes h

same_name : (xs ys : List ℕ) → slice_cmp nat_cmp xs ys ≡ Equal → xs ≡ ys
same_name xs ys equal = (bytes_eq-Decides xs ys).0 (sym (is_eq-slice_cmp xs ys) ∙ ap is_eq equal)

same_at : (name : List ℕ) → slice_cmp nat_cmp name name ≡ Equal
same_at name = equal (slice_cmp nat_cmp name name) (is_eq-slice_cmp name name ∙ (bytes_eq-Decides name name).1 refl) where
  equal : (at : Ordering) → is_eq at ≡ true → at ≡ Equal
  equal Less h = absurd (true≢false (sym h))
  equal Equal h = refl
  equal Greater h = absurd (true≢false (sym h))

at_itself : (name : List ℕ) → is_eq (slice_cmp nat_cmp name name) ≡ true
at_itself name = is_eq-slice_cmp name name ∙ (bytes_eq-Decides name name).1 refl

module _ {X : Type 0} where
  pub found : (name : List ℕ) (one : X) (list : List (List ℕ × X)) → named name (put name one list) ≡ Some one
  found name one [] = ap (λ here. cond here (Some one) None) (at_itself name)
  found name one (e ∷ es) = by (slice_cmp nat_cmp name e.0) refl (found name one es) where
    by : (at : Ordering) → slice_cmp nat_cmp name e.0 ≡ at → named name (put name one es) ≡ Some one
        → named name (match_ordering at ((name, one) ∷ e ∷ es) ((e.0, one) ∷ es) (e ∷ put name one es)) ≡ Some one
    by Less is others = ap (λ here. cond here (Some one) (named name (e ∷ es))) (at_itself name)
    by Equal is others = ap (λ here. cond (is_eq here) (Some one) (named name es)) is
    by Greater is others = ap (λ here. cond (is_eq here) (Some e.1) (named name (put name one es))) is ∙ others

  pub found_beside : (name other : List ℕ) (one : X) → is_eq (slice_cmp nat_cmp name other) ≡ false → (list : List (List ℕ × X))
      → named name (put other one list) ≡ named name list
  found_beside name other one apart [] = ap (λ here. cond here (Some one) None) apart
  found_beside name other one apart (e ∷ es) = by (slice_cmp nat_cmp other e.0) refl (found_beside name other one apart es) where
    by : (at : Ordering) → slice_cmp nat_cmp other e.0 ≡ at → named name (put other one es) ≡ named name es
        → named name (match_ordering at ((other, one) ∷ e ∷ es) ((e.0, one) ∷ es) (e ∷ put other one es)) ≡ named name (e ∷ es)
    by Less is others = ap (λ here. cond here (Some one) (named name (e ∷ es))) apart
    by Equal is others =
        let away : is_eq (slice_cmp nat_cmp name e.0) ≡ false = subst (λ key. is_eq (slice_cmp nat_cmp name key) ≡ false) (same_name other e.0 is) apart in
        ap (λ here. cond here (Some one) (named name es)) away ∙ sym (ap (λ here. cond here (Some e.1) (named name es)) away)
    by Greater is others = ap (cond (is_eq (slice_cmp nat_cmp name e.0)) (Some e.1)) others

  pub taken_out : (name : List ℕ) (one : X) (list : List (List ℕ × X)) → is_some (named name list) ≡ false → without name (put name one list) ≡ list
  taken_out name one [] none = ap (λ here. cond here [] ((name, one) ∷ [])) (at_itself name)
  taken_out name one (e ∷ es) none = by (slice_cmp nat_cmp name e.0) refl none (taken_out name one es) where
    by : (at : Ordering) → slice_cmp nat_cmp name e.0 ≡ at → is_some (cond (is_eq at) (Some e.1) (named name es)) ≡ false
        → (is_some (named name es) ≡ false → without name (put name one es) ≡ es)
        → without name (match_ordering at ((name, one) ∷ e ∷ es) ((e.0, one) ∷ es) (e ∷ put name one es)) ≡ e ∷ es
    by Less is none others = ap (λ here. cond here (e ∷ es) ((name, one) ∷ without name (e ∷ es))) (at_itself name)
    by Equal is none others = absurd (true≢false none)
    by Greater is none others = ap (λ here. cond (is_eq here) (put name one es) (e ∷ without name (put name one es))) is ∙ ap (λ rest. e ∷ rest) (others none)

  pub none_taken_out : (name : List ℕ) (list : List (List ℕ × X)) → is_some (named name list) ≡ false → without name list ≡ list
  none_taken_out name [] none = refl
  none_taken_out name (e ∷ es) none = by (is_eq (slice_cmp nat_cmp name e.0)) none (none_taken_out name es) where
    by : (here : Bool) → is_some (cond here (Some e.1) (named name es)) ≡ false → (is_some (named name es) ≡ false → without name es ≡ es)
        → cond here es (e ∷ without name es) ≡ e ∷ es
    by true none others = absurd (true≢false none)
    by false none others = ap (λ rest. e ∷ rest) (others none)

away : (name other : List ℕ) → bytes_eq other name ≡ false → is_eq (slice_cmp nat_cmp name other) ≡ false
away name other h = by (is_eq (slice_cmp nat_cmp name other)) refl where
  by : (here : Bool) → is_eq (slice_cmp nat_cmp name other) ≡ here → here ≡ false
  by false is = refl
  by true is =
      let same : name ≡ other = (bytes_eq-Decides name other).0 (sym (is_eq-slice_cmp name other) ∙ is) in
      absurd (true≢false (sym ((bytes_eq-Decides other name).1 (sym same)) ∙ h))

missing : (here : Bool) → not here ≡ true → here ≡ false
missing true h = sym h
missing false h = refl

module _ {X : Type 0} where
  put_again : (name : List ℕ) (one old : X) (list : List (List ℕ × X)) → put name one list ≡ put name one (put name old list)
  put_again name one old [] = sym (ap (λ at. match_ordering at ((name, one) ∷ (name, old) ∷ []) ((name, one) ∷ []) ((name, old) ∷ (name, one) ∷ [])) (same_at name))
  put_again name one old (e ∷ es) = by (slice_cmp nat_cmp name e.0) refl (put_again name one old es) where
    by : (at : Ordering) → slice_cmp nat_cmp name e.0 ≡ at → put name one es ≡ put name one (put name old es)
        → match_ordering at ((name, one) ∷ e ∷ es) ((e.0, one) ∷ es) (e ∷ put name one es)
        ≡ put name one (match_ordering at ((name, old) ∷ e ∷ es) ((e.0, old) ∷ es) (e ∷ put name old es))
    by Less is others = sym (ap (λ at. match_ordering at ((name, one) ∷ (name, old) ∷ e ∷ es) ((name, one) ∷ e ∷ es) ((name, old) ∷ put name one (e ∷ es))) (same_at name))
    by Equal is others = sym (ap (λ at. match_ordering at ((name, one) ∷ (e.0, old) ∷ es) ((e.0, one) ∷ es) ((e.0, old) ∷ put name one es)) is)
    by Greater is others = ap (λ rest. e ∷ rest) others ∙ sym (ap (λ at. match_ordering at ((name, one) ∷ e ∷ put name old es) ((e.0, one) ∷ put name old es) (e ∷ put name one (put name old es))) is)

  none_named : (found : Option X) → not (is_some found) ≡ true → None ≡ found
  none_named None h = refl
  none_named (Some x) h = absurd (true≢false (sym h))

  -- ---- the name that was used last, and its value

  pub recent_named : (name : List ℕ) (recent : Option (Recent X)) (list : List (List ℕ × X)) → is_recent name recent ≡ true
      → is_apart recent list ≡ true → value_of recent ≡ named name (with_recent recent list)
  recent_named name None list here apart = absurd (true≢false (sym here))
  recent_named name (Some recent) list here apart =
      subst (λ n. recent.one ≡ named n (with_value recent.name.items recent.one list)) ((bytes_eq-Decides recent.name.items name).0 here)
      (by recent.one apart) where
        by : (one : Option X) → is_apart (Some recent) list ≡ true → one ≡ named recent.name.items (with_value recent.name.items one list)
        by None h = none_named (named recent.name.items list) h
        by (Some one) h = sym (found recent.name.items one list)

  pub others_named : (name : List ℕ) (recent : Option (Recent X)) (list : List (List ℕ × X)) → is_recent name recent ≡ false
      → named name list ≡ named name (with_recent recent list)
  others_named name None list here = refl
  others_named name (Some recent) list here = by recent.one where
    by : (one : Option X) → named name list ≡ named name (with_value recent.name.items one list)
    by None = refl
    by (Some one) = sym (found_beside name recent.name.items one (away name recent.name.items here) list)

  pub recent_taken : (name : List ℕ) (recent : Option (Recent X)) (list : List (List ℕ × X)) → is_recent name recent ≡ true
      → is_apart recent list ≡ true → with_recent (emptied recent) list ≡ without name (with_recent recent list)
  recent_taken name None list here apart = absurd (true≢false (sym here))
  recent_taken name (Some recent) list here apart =
      subst (λ n. list ≡ without n (with_value recent.name.items recent.one list)) ((bytes_eq-Decides recent.name.items name).0 here)
      (by recent.one (missing (is_some (named recent.name.items list)) apart)) where
        by : (one : Option X) → is_some (named recent.name.items list) ≡ false → list ≡ without recent.name.items (with_value recent.name.items one list)
        by None h = sym (none_taken_out recent.name.items list h)
        by (Some one) h = sym (taken_out recent.name.items one list h)

  pub recent_put : (name : List ℕ) (one : X) (recent : Option (Recent X)) (list : List (List ℕ × X)) → is_recent name recent ≡ true
      → with_recent (filled one recent) list ≡ put name one (with_recent recent list)
  recent_put name one None list here = absurd (true≢false (sym here))
  recent_put name one (Some recent) list here =
      subst (λ n. put recent.name.items one list ≡ put n one (with_value recent.name.items recent.one list)) ((bytes_eq-Decides recent.name.items name).0 here)
      (by recent.one) where
        by : (old : Option X) → put recent.name.items one list ≡ put recent.name.items one (with_value recent.name.items old list)
        by None = refl
        by (Some old) = put_again recent.name.items one old list

  pub emptied_apart : (recent : Option (Recent X)) (list : List (List ℕ × X)) → is_apart recent list ≡ true → is_apart (emptied recent) list ≡ true
  emptied_apart None list h = h
  emptied_apart (Some recent) list h = h

  pub filled_apart : (one : X) (recent : Option (Recent X)) (list : List (List ℕ × X)) → is_apart recent list ≡ true → is_apart (filled one recent) list ≡ true
  filled_apart one None list h = h
  filled_apart one (Some recent) list h = h

  pub settled : (recent : Option (Recent X)) (last : Recent X) (one : X) (list : List (List ℕ × X)) → recent ≡ Some last → last.one ≡ Some one
      → put last.name.items one list ≡ with_recent recent list
  settled recent last one list is has = ap (λ value. with_value last.name.items value list) (sym has) ∙ ap (λ it. with_recent it list) (sym is)
