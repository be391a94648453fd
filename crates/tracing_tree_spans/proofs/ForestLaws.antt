-- If each span comes after its parent, there is a path to each live span: it begins at a root, each
-- span is the parent of the next, and it ends at the span.
use Rattle.std.proofs.Common.{◌≡◌, Bool, true, false, ◌||◌, List, [], ◌∷◌, ◌++◌, reverse, find, Option, Some, None, is_some, option_map, refl, sym, ap, ◌∙◌, subst, if◌then◌else◌}
use Rattle.std.specs.Option.{option_map_or, option_or}
use Rattle.std.specs.List.{list_any, last_or}
use Rattle.std.proofs.lemmas.List.Folds.{find-append}
use Rattle.std.proofs.lemmas.List.{reverse-append, reverse-reverse}
use Rattle.std.proofs.lemmas.Bool.{eqb-true, not-true, or_parts}
use Rattle.tracing_tree_spans.specs.Registry.Ids.{id_of, same_id}
use Rattle.tracing_tree_spans.specs.Registry.Spans.{Span}
use Rattle.tracing_tree_spans.specs.Registry.Forest.{Forest, has_id, span_at, is_live, Descends, IsPath, IsGrown}
use Rattle.tracing_tree_base.specs.declared.context.Id.{Id}

-- the path of a span among these, newest first: its parent's path among the older ones, and the
-- span
abbrev pub path_among : List Span → Id → List Id
path_among [] i = []
path_among (span ∷ older) i =
    if has_id i span then option_map_or (λ above. path_among older above) span.parent [] ++ i ∷ [] else path_among older i

-- the first span with this id
abbrev pub look : List Span → Id → Option Span
look spans i = find (has_id i) spans

find-none : {X : Type 0} (p : X → Bool) (xs : List X) → list_any p xs ≡ false → find p xs ≡ None
find-none p [] h = refl
find-none p (x ∷ xs) h = let parts = or_parts (p x) (list_any p xs) h in rw parts.0 (find-none p xs parts.1)

pub is_some-find : {X : Type 0} (p : X → Bool) (xs : List X) → is_some (find p xs) ≡ list_any p xs
is_some-find p [] = refl
is_some-find p (x ∷ xs) = elim (p x) as (λ b. is_some (if b then Some x else find p xs) ≡ (b || list_any p xs)) [ true ↦ refl | false ↦ is_some-find p xs ]

pub same_id-eq : (i j : Id) → same_id i j ≡ true → i ≡ j
same_id-eq i j h = ap id_of (eqb-true i.0 j.0 h)

-- each span found under the lookup, the first with this parent, and each the parent of the next
abbrev Falls : (Id → Option Span) → Option Id → List Id → Type 0
Falls find above [] = Unit {0}
Falls find above (i ∷ below) = (option_map (λ span. span.parent) (find i) ≡ Some above) × Falls find (Some i) below

found : {A B : Type 0} (f : A → B) (o : Option A) (b : B) → option_map f o ≡ Some b → is_some o ≡ true
found f None b h = cc
found f (Some a) b h = refl

falls-weaken : (find more : Id → Option Span) → ((j : Id) → is_some (find j) ≡ true → more j ≡ find j) →
    (above : Option Id) (path : List Id) → Falls find above path → Falls more above path
falls-weaken find more same above [] h = tt
falls-weaken find more same above (i ∷ below) h = (
  ap (λ o. option_map (λ span. span.parent) o) (same i (found (λ span. span.parent) (find i) above h.0)) ∙ h.0,
  falls-weaken find more same (Some i) below h.1,
)

falls-push : (find : Id → Option Span) (above : Option Id) (path : List Id) (i : Id) → Falls find above path →
    option_map (λ span. span.parent) (find i) ≡ Some (last_or above path) → Falls find above (path ++ i ∷ [])
falls-push find above [] i h e = (e, tt)
falls-push find above (j ∷ path) i h e = (h.0, falls-push find (Some j) path i h.1 e)

pub last_or-push : (above : Option Id) (path : List Id) (i : Id) → last_or above (path ++ i ∷ []) ≡ Some i
last_or-push above [] i = refl
last_or-push above (j ∷ path) i = last_or-push (Some j) path i

-- a path under a lookup that ends in the id
abbrev Reaches : (Id → Option Span) → Id → List Id → Type 0
Reaches find i path = Falls find None path × (last_or None path ≡ Some i)

-- an older span is not the newest
pub older-not : (span : Span) (older : List Span) (j : Id) → list_any (has_id span.id) older ≡ false →
    is_some (look older j) ≡ true → has_id j span ≡ false
older-not span older j fresh h =
    elim (has_id j span) as (λ b. has_id j span ≡ b → b ≡ false) [
      | true ↦ (λ e.
          let same : span.id ≡ j = same_id-eq span.id j e in
          let none : list_any (has_id j) older ≡ false = subst (λ k. list_any (has_id k) older ≡ false) same fresh in
          sym (sym none ∙ sym (is_some-find (has_id j) older) ∙ h))
      | false ↦ (λ e. refl)
    ] refl

look-older : (span : Span) (older : List Span) → list_any (has_id span.id) older ≡ false →
    (j : Id) → is_some (look older j) ≡ true → look (span ∷ older) j ≡ look older j
look-older span older fresh j h = rw (older-not span older j fresh h) refl

-- the newest span, whose id this is
pub look-newest : (span : Span) (older : List Span) (i : Id) → has_id i span ≡ true → look (span ∷ older) i ≡ Some span
look-newest span older i e = rw e refl

pub path-newest : (span : Span) (older : List Span) (i : Id) → has_id i span ≡ true →
    path_among (span ∷ older) i ≡ option_map_or (λ above. path_among older above) span.parent [] ++ i ∷ []
path-newest span older i e = rw e refl

pub path-older : (span : Span) (older : List Span) (i : Id) → has_id i span ≡ false → path_among (span ∷ older) i ≡ path_among older i
path-older span older i e = rw e refl

or-second : (a b : Bool) → a ≡ false → (a || b) ≡ true → b ≡ true
or-second a b e h = let g : (false || b) ≡ true = subst (λ x. (x || b) ≡ true) e h in g

-- the paths of these spans are paths
abbrev AllReach : List Span → Type 0
AllReach spans = (i : Id) → list_any (has_id i) spans ≡ true → Reaches (look spans) i (path_among spans i)

reaches-newest : (span : Span) (older : List Span) → IsGrown (span ∷ older) → AllReach older → (i : Id) → has_id i span ≡ true →
    (o : Option Id) → span.parent ≡ o → Reaches (look (span ∷ older)) i (path_among (span ∷ older) i)
reaches-newest span older grown before i e None p =
    let at : look (span ∷ older) i ≡ Some span = look-newest span older i e in
    let path : path_among (span ∷ older) i ≡ i ∷ [] =
    path-newest span older i e ∙ ap (λ o. option_map_or (λ above. path_among older above) o [] ++ i ∷ []) p in
    let falls : option_map (λ s. s.parent) (look (span ∷ older) i) ≡ Some None =
    ap (λ o. option_map (λ (s : Span). s.parent) o) at ∙ ap (λ o. Some o) p in
    subst (λ path. Reaches (look (span ∷ older)) i path) (sym path) ((falls, tt), refl)
reaches-newest span older grown before i e (Some above) p =
    let fresh = not-true (list_any (has_id span.id) older) grown.0 in
    let at : look (span ∷ older) i ≡ Some span = look-newest span older i e in
    let live : list_any (has_id above) older ≡ true =
    subst (λ o. option_map_or (λ a. list_any (has_id a) older) o true ≡ true) p grown.1 in
    let parents = before above live in
    let path : path_among (span ∷ older) i ≡ path_among older above ++ i ∷ [] =
    path-newest span older i e ∙ ap (λ o. option_map_or (λ a. path_among older a) o [] ++ i ∷ []) p in
    let more = falls-weaken (look older) (look (span ∷ older)) (look-older span older fresh) None (path_among older above) parents.0 in
    let parent : option_map (λ s. s.parent) (look (span ∷ older) i) ≡ Some (last_or None (path_among older above)) =
    ap (λ o. option_map (λ (s : Span). s.parent) o) at ∙ ap (λ o. Some o) (p ∙ sym parents.1) in
    subst (λ path. Reaches (look (span ∷ older)) i path) (sym path)
    (falls-push (look (span ∷ older)) None (path_among older above) i more parent, last_or-push None (path_among older above) i)

reaches-by : (span : Span) (older : List Span) → IsGrown (span ∷ older) → AllReach older → (i : Id) →
    list_any (has_id i) (span ∷ older) ≡ true → (b : Bool) → has_id i span ≡ b →
    Reaches (look (span ∷ older)) i (path_among (span ∷ older) i)
reaches-by span older grown before i live true e = reaches-newest span older grown before i e span.parent refl
reaches-by span older grown before i live false e =
    let fresh = not-true (list_any (has_id span.id) older) grown.0 in
    let parts = before i (or-second (has_id i span) (list_any (has_id i) older) e live) in
    let more : Reaches (look (span ∷ older)) i (path_among older i) =
    (falls-weaken (look older) (look (span ∷ older)) (look-older span older fresh) None (path_among older i) parts.0, parts.1) in
    subst (λ path. Reaches (look (span ∷ older)) i path) (sym (path-older span older i e)) more

path_among-reaches : (spans : List Span) → IsGrown spans → AllReach spans
path_among-reaches [] grown i live = cc
path_among-reaches (span ∷ older) grown i live =
    reaches-by span older grown (path_among-reaches older grown.2) i live (has_id i span) refl

-- ---- from the newest first to the oldest first

or-none : (o : Option Span) → option_or o None ≡ o
or-none None = refl
or-none (Some span) = refl

find-turned : (span : Span) (older : List Span) → list_any (has_id span.id) older ≡ false → (i : Id) (b : Bool) → has_id i span ≡ b →
    option_or (look older i) (look (span ∷ []) i) ≡ look (span ∷ older) i
find-turned span older fresh i true e =
    let same : span.id ≡ i = same_id-eq span.id i e in
    let none : look older i ≡ None = find-none (has_id i) older (subst (λ k. list_any (has_id k) older ≡ false) same fresh) in
    rw (none, e) refl
find-turned span older fresh i false e = rw e (or-none (look older i))

-- reversing the list changes no lookup
pub look-reverse : (spans : List Span) → IsGrown spans → (i : Id) → look (reverse spans) i ≡ look spans i
look-reverse [] grown i = refl
look-reverse (span ∷ older) grown i =
    let fresh = not-true (list_any (has_id span.id) older) grown.0 in
    ap (λ xs. look xs i) (reverse-append (span ∷ []) older)
    ∙ find-append (has_id i) (reverse older) (span ∷ [])
    ∙ ap (λ o. option_or o (look (span ∷ []) i)) (look-reverse older grown.2 i)
    ∙ find-turned span older fresh i (has_id i span) refl

descends-falls : (forest : Forest) (above : Option Id) (path : List Id) → Falls (span_at forest) above path → Descends forest above path
descends-falls forest above [] h = tt
descends-falls forest above (i ∷ below) h = (h.0, descends-falls forest (Some i) below h.1)

-- reversed, the list is looked up unchanged
pub look-turned : (forest : Forest) → IsGrown (reverse forest.spans) → (i : Id) → look (reverse forest.spans) i ≡ span_at forest i
look-turned forest grown i = sym (look-reverse (reverse forest.spans) grown i) ∙ ap (λ xs. look xs i) (reverse-reverse forest.spans)

-- the path of a live span is a path
pub among-is_path : (forest : Forest) → IsGrown (reverse forest.spans) → (i : Id) → is_live forest i ≡ true →
    IsPath forest i (path_among (reverse forest.spans) i)
among-is_path forest grown i live =
    let spans : List Span = reverse forest.spans in
    let turned : (j : Id) → look spans j ≡ span_at forest j = look-turned forest grown in
    let here : list_any (has_id i) spans ≡ true = sym (is_some-find (has_id i) spans) ∙ ap (λ o. is_some o) (turned i) ∙ live in
    let parts = path_among-reaches spans grown i here in
    record {
      descends = descends-falls forest None (path_among spans i)
          (falls-weaken (look spans) (span_at forest) (λ j h. sym (turned j)) None (path_among spans i) parts.0);
      ends = parts.1;
    }
