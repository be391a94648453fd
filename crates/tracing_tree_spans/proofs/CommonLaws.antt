-- Two paths part once, so their common prefix is found from its end.
use Rattle.std.proofs.Common.{◌≡◌, ℕ, zero, suc, ◌+◌, ◌-◌, ◌<◌, ◌≤◌, Bool, true, false, List, [], ◌∷◌, ◌++◌, length, get_or, take, drop, append_assoc, slice_get, min, Option, Some, None, arith, refl, sym, ap, ◌∙◌, subst}
use Rattle.std.specs.List.{common_prefix_len}
use Rattle.std.specs.Option.{option_map_or}
use Rattle.std.proofs.lemmas.Bool.Decides.{nat_tests}
use Rattle.std.proofs.lemmas.Option.{slice_get-get_or, slice_get_within, same_Some}
use Rattle.std.proofs.lemmas.List.{take-append-drop, take_more}
use Rattle.tracing_tree_spans.specs.Registry.Ids.{same_id}
use Rattle.tracing_tree_spans.specs.Registry.Forest.{Forest, is_live, path_of, Descends, IsPath, IsForest}
use Rattle.tracing_tree_spans.specs.Registry.Paths.{agree_at, PartOnce}
use Rattle.tracing_tree_base.specs.declared.context.Id.{Id}
use Rattle.tracing_tree_spans.proofs.ForestLaws.{same_id-eq, last_or-push}
use Rattle.tracing_tree_spans.proofs.PathsUp.{descends-front}
use Rattle.tracing_tree_spans.proofs.PathLaws.{path_of-is_path, path_of-only, path_of-none}

-- what is read at a place that both have says whether they agree there
pub agree-read : (old new : List Id) (k : ℕ) (i j : Id) → k < length old → k < length new → agree_at old new k ≡ same_id (get_or old k i) (get_or new k j)
agree-read old new k i j within within' = rw (slice_get-get_or old k i within, slice_get-get_or new k j within') refl

-- past the end of one they don't agree
pub agree-past : (old new : List Id) (k : ℕ) → min (length old) (length new) ≤ k → agree_at old new k ≡ false
agree-past [] new k past = refl
agree-past (x ∷ old) [] zero past = refl
agree-past (x ∷ old) [] (suc k) past = none (slice_get old k)
  where
    none : (o : Option Id) → option_map_or (λ (i : Id). false) o false ≡ false
    none None = refl
    none (Some i) = refl
agree-past (x ∷ old) (y ∷ new) zero past = absurd (omega arith)
agree-past (x ∷ old) (y ∷ new) (suc k) past = agree-past old new k (omega arith)

-- the first place where they don't agree is the length of the common prefix
pub prefix-is : (old new : List Id) (n : ℕ) → ((j : ℕ) → j < n → agree_at old new j ≡ true) → agree_at old new n ≡ false →
    common_prefix_len same_id old new ≡ n
prefix-is [] new zero all parts = refl
prefix-is [] new (suc n) all parts = absurd (let first : false ≡ true = all zero (omega arith) in cc)
prefix-is (x ∷ old) [] zero all parts = refl
prefix-is (x ∷ old) [] (suc n) all parts = absurd (let first : false ≡ true = all zero (omega arith) in cc)
prefix-is (x ∷ old) (y ∷ new) zero all parts = let first : same_id x y ≡ false = parts in rw first refl
prefix-is (x ∷ old) (y ∷ new) (suc n) all parts =
    let first : same_id x y ≡ true = all zero (omega arith) in
    let rest : common_prefix_len same_id old new ≡ n = prefix-is old new n (λ j h. all (suc j) (omega arith)) parts in
    rw first (omega arith)

-- if no place agrees, they share nothing
pub prefix-none : (old new : List Id) (n : ℕ) → ((k : ℕ) → n ≤ k → agree_at old new k ≡ false) → n ≡ 0 → n ≡ common_prefix_len same_id old new
prefix-none old new n apart none = none ∙ sym (prefix-is old new 0 (λ j h. absurd (omega arith)) (apart 0 (omega arith)))

-- if the place before agrees, and no place from there on, they share all up to there
pub prefix-some : (old new : List Id) (n : ℕ) (i j : Id) → PartOnce old new → ((k : ℕ) → n ≤ k → agree_at old new k ≡ false) →
    0 < n → n ≤ length old → n ≤ length new → same_id (get_or old (n - 1) i) (get_or new (n - 1) j) ≡ true → n ≡ common_prefix_len same_id old new
prefix-some old new n i j once apart some within within' same =
    let here : agree_at old new (n - 1) ≡ true = agree-read old new (n - 1) i j (omega arith) (omega arith) ∙ same in
    sym (prefix-is old new n (λ k h. once (n - 1) here k (omega arith)) (apart n (omega arith)))

-- ---- paths of one forest

-- if two lists begin alike, they agree
same-agree : (old new : List Id) (n k : ℕ) → take n old ≡ take n new → k < n → k < length old → agree_at old new k ≡ true
same-agree [] new n k same low within = absurd (omega arith)
same-agree (x ∷ old) new zero k same low within = absurd (omega arith)
same-agree (x ∷ old) [] (suc n) k same low within = absurd cc
same-agree (x ∷ old) (y ∷ new) (suc n) zero same low within =
    let first : x ≡ y = cc in
    subst (λ i. same_id x i ≡ true) first (grind (arith, nat_tests))
same-agree (x ∷ old) (y ∷ new) (suc n) (suc k) same low within =
    let rest : take n old ≡ take n new = cc in
    same-agree old new n k rest (omega arith) (omega arith)

-- up to a place a path is the path of the span there
path-upto : (forest : Forest) → IsForest forest → (i : Id) (k : ℕ) (x : Id) → slice_get (path_of forest i) k ≡ Some x →
    take (k + 1) (path_of forest i) ≡ path_of forest x
path-upto forest formed i k x read = by (is_live forest i) refl
  where
    path : List Id
    path = path_of forest i

    within : k < length path
    within = slice_get_within path k x read

    upto : take (k + 1) path ≡ take k path ++ x ∷ []
    upto = take_more path k x within ∙ ap (λ y. take k path ++ y ∷ []) (same_Some (get_or path k x) x (sym (slice_get-get_or path k x within) ∙ read))

    whole : (take k path ++ x ∷ []) ++ drop (k + 1) path ≡ path
    whole = ap (λ (ids : List Id). ids ++ drop (k + 1) path) (sym upto) ∙ take-append-drop (k + 1) path

    by : (b : Bool) → is_live forest i ≡ b → take (k + 1) path ≡ path_of forest x
    by true live =
        let parted : take k path ++ x ∷ drop (k + 1) path ≡ path = sym (append_assoc (take k path) (x ∷ []) (drop (k + 1) path)) ∙ whole in
        let down : Descends forest None (take k path ++ x ∷ drop (k + 1) path) =
        subst (λ ids. Descends forest None ids) (sym parted) ((path_of-is_path forest formed i live).descends) in
        let there : IsPath forest x (take k path ++ x ∷ []) = record {
          descends = descends-front forest None (take k path) x (drop (k + 1) path) down;
          ends = last_or-push None (take k path) x;
        } in
        upto ∙ path_of-only forest x (take k path ++ x ∷ []) there
    by false gone =
        let none : length path ≡ 0 = ap (λ (ids : List Id). length ids) (path_of-none forest i gone) in
        absurd (omega (arith, within, none))

-- two lists agree at a place where both have one id
agree-both : (old new : List Id) (k : ℕ) → agree_at old new k ≡ true → (x : Id) × (slice_get old k ≡ Some x) × (slice_get new k ≡ Some x)
agree-both old new k h = by (slice_get old k) (slice_get new k) refl refl h
  where
    by : (a b : Option Id) → slice_get old k ≡ a → slice_get new k ≡ b → option_map_or (λ i. option_map_or (same_id i) b false) a false ≡ true →
        (x : Id) × (slice_get old k ≡ Some x) × (slice_get new k ≡ Some x)
    by None b e e' h = absurd cc
    by (Some x) None e e' h = absurd cc
    by (Some x) (Some y) e e' h = (x, e, e' ∙ ap (λ i. Some i) (sym (same_id-eq x y h)))

-- the paths of two spans of one forest part once
pub paths_part_once : (forest : Forest) → IsForest forest → (i j : Id) → PartOnce (path_of forest i) (path_of forest j)
paths_part_once forest formed i j k h n le =
    let both = agree-both (path_of forest i) (path_of forest j) k h in
    let same : take (k + 1) (path_of forest i) ≡ take (k + 1) (path_of forest j) =
    path-upto forest formed i k both.0 both.1 ∙ sym (path-upto forest formed j k both.0 both.2) in
    let within = slice_get_within (path_of forest i) k both.0 both.1 in
    same-agree (path_of forest i) (path_of forest j) (k + 1) n same (omega arith) (omega arith)

-- and so do an empty path and another
pub nothing_parts_once : (path : List Id) → PartOnce [] path
nothing_parts_once path k h n le = absurd (let never : false ≡ true = h in cc)
