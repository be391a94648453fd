-- The list of spans that a registry keeps, and only the spans.
use Rattle.std.proofs.Common.{◌≡◌, ℕ, ◌+◌, ◌-◌, Bool, true, false, not, List, [], ◌∷◌, map, find, Option, Some, None, if◌then◌else◌, arith, refl, sym, ap, ◌∙◌, subst}
use Rattle.std.specs.Option.{option_map, option_map_or}
use Rattle.std.proofs.lemmas.Bool.{eqb-true}
use Rattle.std.proofs.lemmas.Bool.Decides.{nat_tests}
use Rattle.std.proofs.lemmas.Option.{same_Some}
use Rattle.tracing_tree_spans.specs.Registry.Ids.{id_of, same_id}
use Rattle.tracing_tree_spans.specs.Registry.Spans.{Span, KeptSpan, child_more, child_less}
use Rattle.tracing_tree_spans.specs.Registry.Forest.{has_id}
use Rattle.tracing_tree_spans.specs.Registry.Nodes.{keeps_id, node_at, spans_of, change_node, leave_out, with_child}
use Rattle.tracing_tree_base.specs.declared.context.Id.{Id}
use Rattle.tracing_tree_spans.proofs.RegistryLaws.{changed, without}

-- a search of changed elements, if the change keeps the test's result
pub find-map : {X : Type 0} (u : X → X) (p : X → Bool) → ((x : X) → p (u x) ≡ p x) → (xs : List X) → find p (map u xs) ≡ option_map u (find p xs)
find-map u p same [] = refl
find-map u p same (x ∷ xs) =
    ap (λ b. if b then Some (u x) else find p (map u xs)) (same x)
    ∙ ap (λ o. if p x then Some (u x) else o) (find-map u p same xs)
    ∙ elim (p x) as (λ b. (if b then Some (u x) else option_map u (find p xs)) ≡ option_map u (if b then Some x else find p xs)) [ true ↦ refl | false ↦ refl ]

-- a span is found if it is kept
pub found-span : (nodes : List KeptSpan) (i : Id) → find (has_id i) (spans_of nodes) ≡ option_map (λ node. node.span) (node_at nodes i)
found-span [] i = refl
found-span (x ∷ nodes) i =
    ap (λ o. if keeps_id i x then Some x.span else o) (found-span nodes i)
    ∙ elim (keeps_id i x) as (λ b. (if b then Some x.span else option_map (λ (node : KeptSpan). node.span) (node_at nodes i))
    ≡ option_map (λ (node : KeptSpan). node.span) (if b then Some x else node_at nodes i)) [ true ↦ refl | false ↦ refl ]

-- what is found has the id
pub kept-id : (nodes : List KeptSpan) (i : Id) (node : KeptSpan) → node_at nodes i ≡ Some node → node.span.id ≡ i
kept-id [] i node h = cc
kept-id (x ∷ nodes) i node h = by (λ k. kept-id nodes i node k) (keeps_id i x) refl
  where
    by : (node_at nodes i ≡ Some node → node.span.id ≡ i) → (b : Bool) → keeps_id i x ≡ b → node.span.id ≡ i
    by ih true e =
        let same : x ≡ node = same_Some x node (subst (λ b. (if b then Some x else node_at nodes i) ≡ Some node) e h) in
        subst (λ (y : KeptSpan). y.span.id ≡ i) same (ap id_of (eqb-true x.span.id.0 i.0 e))
    by ih false e = ih (subst (λ b. (if b then Some x else node_at nodes i) ≡ Some node) e h)

-- a change of one span that shows in the spans
pub spans-changed : (change : KeptSpan → KeptSpan) (u : Span → Span) → ((n : KeptSpan) → (change n).span ≡ u n.span) → (i : Id) (nodes : List KeptSpan) →
    spans_of (change_node change i nodes) ≡ map (changed u i) (spans_of nodes)
spans-changed change u same i [] = refl
spans-changed change u same i (x ∷ nodes) =
    ap (λ xs. (if keeps_id i x then change x else x).span ∷ xs) (spans-changed change u same i nodes)
    ∙ ap (λ s. s ∷ map (changed u i) (spans_of nodes))
    (elim (keeps_id i x) as (λ b. (if b then change x else x).span ≡ (if b then u x.span else x.span)) [ true ↦ same x | false ↦ refl ])

-- a change of one span that doesn't
pub spans-same : (change : KeptSpan → KeptSpan) → ((n : KeptSpan) → (change n).span ≡ n.span) → (i : Id) (nodes : List KeptSpan) →
    spans_of (change_node change i nodes) ≡ spans_of nodes
spans-same change same i [] = refl
spans-same change same i (x ∷ nodes) =
    ap (λ xs. (if keeps_id i x then change x else x).span ∷ xs) (spans-same change same i nodes)
    ∙ ap (λ s. s ∷ spans_of nodes)
    (elim (keeps_id i x) as (λ b. (if b then change x else x).span ≡ x.span) [ true ↦ same x | false ↦ refl ])

pub spans-child : (o : Option Id) (nodes : List KeptSpan) → spans_of (with_child o nodes) ≡ spans_of nodes
spans-child None nodes = refl
spans-child (Some p) nodes = spans-same child_more (λ n. refl) p nodes

-- the spans without one
pub spans-left : (i : Id) (nodes : List KeptSpan) → spans_of (leave_out i nodes) ≡ without i (spans_of nodes)
spans-left i [] = refl
spans-left i (x ∷ nodes) =
    elim (keeps_id i x) as (λ b. spans_of (if not b then x ∷ leave_out i nodes else leave_out i nodes)
    ≡ (if not b then x.span ∷ without i (spans_of nodes) else without i (spans_of nodes))) [
      | true ↦ spans-left i nodes
      | false ↦ ap (λ xs. x.span ∷ xs) (spans-left i nodes)
    ]

-- what is found after a change was there before
pub found-before : (u : KeptSpan → KeptSpan) → ((n : KeptSpan) → (u n).span.id ≡ n.span.id) → (nodes : List KeptSpan) (j : Id) (node : KeptSpan) →
    node_at (map u nodes) j ≡ Some node → (m : KeptSpan) × (node_at nodes j ≡ Some m) × (u m ≡ node)
found-before u ids nodes j node h =
    by (node_at nodes j) refl (sym (find-map u (keeps_id j) (λ n. ap (λ (k : Id). same_id k j) (ids n)) nodes) ∙ h)
  where
    by : (o : Option KeptSpan) → node_at nodes j ≡ o → option_map u o ≡ Some node → (m : KeptSpan) × (node_at nodes j ≡ Some m) × (u m ≡ node)
    by None e g = absurd cc
    by (Some m) e g = (m, e, same_Some (u m) node g)

-- what is found without a span is another, and was there
pub found-left : (i : Id) (nodes : List KeptSpan) (j : Id) (node : KeptSpan) → node_at (leave_out i nodes) j ≡ Some node →
    (same_id i j ≡ false) × (node_at nodes j ≡ Some node)
found-left i [] j node h = absurd cc
found-left i (x ∷ nodes) j node h = by (λ k. found-left i nodes j node k) (keeps_id i x) refl
  where
    by : (node_at (leave_out i nodes) j ≡ Some node → (same_id i j ≡ false) × (node_at nodes j ≡ Some node)) → (b : Bool) → keeps_id i x ≡ b →
        (same_id i j ≡ false) × (node_at (x ∷ nodes) j ≡ Some node)
    by ih true e =
        let rest = ih (subst (λ b. node_at (if not b then x ∷ leave_out i nodes else leave_out i nodes) j ≡ Some node) e h) in
        let own : x.span.id ≡ i = ap id_of (eqb-true x.span.id.0 i.0 e) in
        let other : keeps_id j x ≡ false = ap (λ (k : Id). same_id k j) own ∙ rest.0 in
        (rest.0, rw other rest.1)
    by ih false e = first (keeps_id j x) refl (subst (λ b. node_at (if not b then x ∷ leave_out i nodes else leave_out i nodes) j ≡ Some node) e h)
      where
        first : (b : Bool) → keeps_id j x ≡ b → node_at (x ∷ leave_out i nodes) j ≡ Some node → (same_id i j ≡ false) × (node_at (x ∷ nodes) j ≡ Some node)
        first true g k =
            let own : x.span.id ≡ j = ap id_of (eqb-true x.span.id.0 j.0 g) in
            let other : same_id j i ≡ false = ap (λ (l : Id). same_id l i) (sym own) ∙ e in
            (grind (arith, nat_tests, other), rw g (rw g at k))
        first false g k = let rest = ih (rw g at k) in (rest.0, rw g rest.1)

-- how often the id is the parent
abbrev pub times : Id → Option Id → ℕ
times j o = if option_map_or (same_id j) o false then 1 else 0

-- what is found after a child was counted was there before
pub record IsCounted (nodes : List KeptSpan) (o : Option Id) (j : Id) (node m : KeptSpan) : Type 0 where
  pub before : node_at nodes j ≡ Some m
  pub span : node.span ≡ m.span
  pub path : node.path ≡ m.path

pub counted-more : (o : Option Id) (nodes : List KeptSpan) (j : Id) (node : KeptSpan) → node_at (with_child o nodes) j ≡ Some node →
    (m : KeptSpan) × IsCounted nodes o j node m × (node.children ≡ m.children + times j o)
counted-more None nodes j node h = (node, record { before = h; span = refl; path = refl }, omega arith)
counted-more (Some p) nodes j node h =
    let found = found-before (λ n. if keeps_id p n then child_more n else n)
    (λ n. elim (keeps_id p n) as (λ b. (if b then child_more n else n).span.id ≡ n.span.id) [ true ↦ refl | false ↦ refl ]) nodes j node h in
    let m = found.0 in
    let own : m.span.id ≡ j = kept-id nodes j m found.1 in
    let test : keeps_id p m ≡ same_id j p = ap (λ (k : Id). same_id k p) own in
    let here : (if same_id j p then child_more m else m) ≡ node = ap (λ b. if b then child_more m else m) (sym test) ∙ found.2 in
    let r = by m (same_id j p) found.1 here in (m, r.0, r.1)
  where
    by : (m : KeptSpan) (b : Bool) → node_at nodes j ≡ Some m → (if b then child_more m else m) ≡ node →
        IsCounted nodes (Some p) j node m × (node.children ≡ m.children + (if b then 1 else 0))
    by m true found e = (
      record { before = found; span = sym (ap (λ (n : KeptSpan). n.span) e); path = sym (ap (λ (n : KeptSpan). n.path) e) },
      sym (ap (λ (n : KeptSpan). n.children) e),
    )
    by m false found e = (
      record { before = found; span = sym (ap (λ (n : KeptSpan). n.span) e); path = sym (ap (λ (n : KeptSpan). n.path) e) },
      sym (ap (λ (n : KeptSpan). n.children) e) ∙ omega arith,
    )

-- the list with one child less counted at this parent
abbrev pub without_child : Option Id → List KeptSpan → List KeptSpan
without_child None nodes = nodes
without_child (Some p) nodes = change_node child_less p nodes

pub counted-less : (o : Option Id) (nodes : List KeptSpan) (j : Id) (node : KeptSpan) → node_at (without_child o nodes) j ≡ Some node →
    (m : KeptSpan) × IsCounted nodes o j node m × (node.children ≡ m.children - times j o)
counted-less None nodes j node h = (node, record { before = h; span = refl; path = refl }, omega arith)
counted-less (Some p) nodes j node h =
    let found = found-before (λ n. if keeps_id p n then child_less n else n)
    (λ n. elim (keeps_id p n) as (λ b. (if b then child_less n else n).span.id ≡ n.span.id) [ true ↦ refl | false ↦ refl ]) nodes j node h in
    let m = found.0 in
    let own : m.span.id ≡ j = kept-id nodes j m found.1 in
    let test : keeps_id p m ≡ same_id j p = ap (λ (k : Id). same_id k p) own in
    let here : (if same_id j p then child_less m else m) ≡ node = ap (λ b. if b then child_less m else m) (sym test) ∙ found.2 in
    let r = by m (same_id j p) found.1 here in (m, r.0, r.1)
  where
    by : (m : KeptSpan) (b : Bool) → node_at nodes j ≡ Some m → (if b then child_less m else m) ≡ node →
        IsCounted nodes (Some p) j node m × (node.children ≡ m.children - (if b then 1 else 0))
    by m true found e = (
      record { before = found; span = sym (ap (λ (n : KeptSpan). n.span) e); path = sym (ap (λ (n : KeptSpan). n.path) e) },
      sym (ap (λ (n : KeptSpan). n.children) e),
    )
    by m false found e = (
      record { before = found; span = sym (ap (λ (n : KeptSpan). n.span) e); path = sym (ap (λ (n : KeptSpan). n.path) e) },
      sym (ap (λ (n : KeptSpan). n.children) e) ∙ omega arith,
    )

pub spans-childless : (o : Option Id) (nodes : List KeptSpan) → spans_of (without_child o nodes) ≡ spans_of nodes
spans-childless None nodes = refl
spans-childless (Some p) nodes = spans-same child_less (λ n. refl) p nodes
