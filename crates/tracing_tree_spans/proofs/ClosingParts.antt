-- What closes with a span, read off the counts that a registry keeps.
use Rattle.std.proofs.Common.{◌≡◌, ℕ, suc, ◌+◌, ◌-◌, ◌<◌, nat_lt, ◌==◌, Bool, true, false, ◌&&◌, List, [], ◌∷◌, ◌++◌, length, reverse, take, drop, find, filter, Option, Some, None, if◌then◌else◌, arith, refl, sym, ap, ◌∙◌, subst, length-append, append_assoc}
use Rattle.std.specs.List.{list_all, list_any}
use Rattle.std.specs.Option.{option_map, option_map_or, option_and_then}
use Rattle.std.proofs.lemmas.Bool.{eqb-true, and_parts, or_parts}
use Rattle.std.proofs.lemmas.Bool.Decides.{nat_tests}
use Rattle.std.proofs.lemmas.List.{append-nil, reverse-append, reverse-reverse, take_rest}
use Rattle.std.proofs.lemmas.Option.{same_Some}
use Rattle.tracing_tree_spans.specs.Registry.Ids.{same_id}
use Rattle.tracing_tree_spans.specs.Registry.Spans.{Span, KeptSpan}
use Rattle.tracing_tree_spans.specs.Registry.Forest.{has_id, is_child_of, children_of, path_of, path_of_any, goes_after, closing_of}
use Rattle.tracing_tree_spans.specs.Registry.Registered.{IsRising, IsKept, alone, going_after, lacks_others}
use Rattle.tracing_tree_spans.specs.Registry.Nodes.{node_at, spans_of, CountsChildren}
use Rattle.tracing_tree_base.specs.declared.context.Id.{Id}
use Rattle.tracing_tree_spans.proofs.ForestLaws.{same_id-eq}
use Rattle.tracing_tree_spans.proofs.PathLaws.{path_of-step}
use Rattle.tracing_tree_spans.proofs.ClosingLaws.{closing_of-longest}
use Rattle.tracing_tree_spans.proofs.SpanLists.{all_above}
use Rattle.tracing_tree_spans.proofs.ClosingWalk.{way_up, way-none}
use Rattle.tracing_tree_spans.proofs.GrownForests.{as_forest}
use Rattle.tracing_tree_spans.proofs.ClosingSteps.{one_less, less-same, going-step, closing-first, way-changed, childless, rest_of, left, rest-goes, rest-stays, left-cons, left-none}
use Rattle.tracing_tree_spans.proofs.RegistryLaws.{without, kept-without}
use Rattle.tracing_tree_spans.proofs.KeptLists.{found-span}

-- ---- counts of children

-- a span without children has no other child
lacks-all : (cs : List Span) → list_all (λ (child : Span). false) cs ≡ (length cs == 0)
lacks-all [] = refl
lacks-all (x ∷ cs) = let more : (length (x ∷ cs) == 0) ≡ false = grind (arith, nat_tests) in sym more

-- if no span has the id, no chosen span has it
lacks-none : (b i : Id) (spans : List Span) → list_any (has_id b) spans ≡ false →
    list_all (λ child. same_id child.id b) (filter (is_child_of i) spans) ≡ (length (filter (is_child_of i) spans) == 0)
lacks-none b i [] h = refl
lacks-none b i (x ∷ spans) h =
    let parts = or_parts (has_id b x) (list_any (has_id b) spans) h in
    by (lacks-none b i spans parts.1) parts.0 (is_child_of i x)
  where
    by : list_all (λ child. same_id child.id b) (filter (is_child_of i) spans) ≡ (length (filter (is_child_of i) spans) == 0) → has_id b x ≡ false → (c : Bool) →
        list_all (λ child. same_id child.id b) (if c then x ∷ filter (is_child_of i) spans else filter (is_child_of i) spans)
        ≡ (length (if c then x ∷ filter (is_child_of i) spans else filter (is_child_of i) spans) == 0)
    by ih other true =
        let first : same_id x.id b ≡ false = other in
        let more : (length (x ∷ filter (is_child_of i) spans) == 0) ≡ false = grind (arith, nat_tests) in
        rw (first, more) refl
    by ih other false = ih

-- above an id no span has it
above-lacks : (b : Id) (spans : List Span) → all_above b.0 spans ≡ true → list_any (has_id b) spans ≡ false
above-lacks b [] h = refl
above-lacks b (x ∷ spans) h =
    let parts = and_parts (nat_lt b.0 x.id.0) (all_above b.0 spans) h in
    let other : has_id b x ≡ false = grind (arith, nat_tests, parts.0) in
    rw other (above-lacks b spans parts.1)

-- an element that is found is counted
found-counted : (p q : Span → Bool) (spans : List Span) (t : Span) → find p spans ≡ Some t → q t ≡ true → 0 < length (filter q spans)
found-counted p q [] t h own = cc
found-counted p q (x ∷ spans) t h own = by (λ k. found-counted p q spans t k own) (p x) refl
  where
    some : (b : Bool) → 0 < length (filter q spans) → 0 < length (if b then x ∷ filter q spans else filter q spans)
    some true h = omega arith
    some false h = h

    by : (find p spans ≡ Some t → 0 < length (filter q spans)) → (b : Bool) → p x ≡ b → 0 < length (filter q (x ∷ spans))
    by ih true e =
        let same : x ≡ t = same_Some x t (subst (λ b. (if b then Some x else find p spans) ≡ Some t) e h) in
        let here : q x ≡ true = ap q same ∙ own in
        rw here (omega arith)
    by ih false e = some (q x) (ih (subst (λ b. (if b then Some x else find p spans) ≡ Some t) e h))

-- the child that closes before is the only one exactly if one child is counted
lacks-one : (spans : List Span) (b i : Id) (t : Span) → IsRising spans → find (has_id b) spans ≡ Some t → is_child_of i t ≡ true →
    list_all (λ child. same_id child.id b) (filter (is_child_of i) spans) ≡ (length (filter (is_child_of i) spans) == 1)
lacks-one [] b i t rising found child = cc
lacks-one (x ∷ spans) b i t rising found child = by (λ k. lacks-one spans b i t rising.1 k child) (has_id b x) refl
  where
    one-more : (n : ℕ) → (n == 0) ≡ (suc n == 1)
    one-more n = elim (n == 0) as (λ c. (n == 0) ≡ c → c ≡ (suc n == 1)) [
      | true ↦ (λ e. grind (arith, nat_tests))
      | false ↦ (λ e. grind (arith, nat_tests))
    ] refl

    here : has_id b x ≡ true → is_child_of i x ≡ true → list_any (has_id b) spans ≡ false →
        list_all (λ child. same_id child.id b) (filter (is_child_of i) (x ∷ spans)) ≡ (length (filter (is_child_of i) (x ∷ spans)) == 1)
    here own c none =
        let first : same_id x.id b ≡ true = own in
        rw (c, first) (lacks-none b i spans none ∙ one-more (length (filter (is_child_of i) spans)))

    there : has_id b x ≡ false → find (has_id b) spans ≡ Some t → (c : Bool) → is_child_of i x ≡ c →
        list_all (λ child. same_id child.id b) (filter (is_child_of i) spans) ≡ (length (filter (is_child_of i) spans) == 1) →
        list_all (λ child. same_id child.id b) (filter (is_child_of i) (x ∷ spans)) ≡ (length (filter (is_child_of i) (x ∷ spans)) == 1)
    there other h true c ih =
        let first : same_id x.id b ≡ false = other in
        let some : 0 < length (filter (is_child_of i) spans) = found-counted (has_id b) (is_child_of i) spans t h child in
        let more : (length (x ∷ filter (is_child_of i) spans) == 1) ≡ false = grind (arith, nat_tests) in
        rw (c, first, more) refl
    there other h false c ih = rw c ih

    by : (find (has_id b) spans ≡ Some t → list_all (λ child. same_id child.id b) (filter (is_child_of i) spans) ≡ (length (filter (is_child_of i) spans) == 1)) →
        (c : Bool) → has_id b x ≡ c →
        list_all (λ child. same_id child.id b) (filter (is_child_of i) (x ∷ spans)) ≡ (length (filter (is_child_of i) (x ∷ spans)) == 1)
    by ih true e =
        let same : x ≡ t = same_Some x t (subst (λ c. (if c then Some x else find (has_id b) spans) ≡ Some t) e found) in
        let own : x.id ≡ b = same_id-eq x.id b e in
        here e (ap (is_child_of i) same ∙ child) (above-lacks b spans (subst (λ (k : Id). all_above k.0 spans ≡ true) own rising.0))
    by ih false e =
        let h : find (has_id b) spans ≡ Some t = subst (λ c. (if c then Some x else find (has_id b) spans) ≡ Some t) e found in
        there e h (is_child_of i x) refl (ih h)

-- ---- the part of a path that closes

-- `count` spans have closed, up to one whose parent is next
pub record HasClosed (spans : List Span) (i : Id) (whole count : ℕ) (above : Option Id) : Type 0 where
  pub going : List Id
  pub last : Id
  pub below : Span
  pub found : find (has_id last) spans ≡ Some below
  pub parent : below.parent ≡ above
  pub counted : length going ≡ count
  pub closes : going ++ going_after (alone spans) (Some last) (way_up (alone spans) above) ≡ closing_of (alone spans) i
  pub bounded : count + length (path_of_any (alone spans) above) ≡ whole

-- what is known of a kept span
pub record IsKeptAt (nodes : List KeptSpan) (i : Id) (node : KeptSpan) : Type 0 where
  pub here : node_at nodes i ≡ Some node
  pub found : find (has_id i) (spans_of nodes) ≡ Some node.span
  pub count : node.children ≡ length (children_of (alone (spans_of nodes)) i)

pub kept-found : (nodes : List KeptSpan) (i : Id) (node : KeptSpan) → CountsChildren nodes → node_at nodes i ≡ Some node → IsKeptAt nodes i node
kept-found nodes i node counts here = record {
  here = here;
  found = found-span nodes i ∙ ap (λ o. option_map (λ (n : KeptSpan). n.span) o) here;
  count = counts i node here;
}

-- one less is 0 if there was one
none-left : (n : ℕ) → 0 < n → (n - 1 == 0) ≡ (n == 1)
none-left n some = grind (arith, nat_tests)

-- the test of a span of which a handle is dropped
first-test : (nodes : List KeptSpan) (i : Id) (node : KeptSpan) → IsKeptAt nodes i node → 0 < node.span.handles →
    ((node.span.handles - 1 == 0) && lacks_others (spans_of nodes) None i) ≡ ((node.span.handles == 1) && (node.children == 0))
first-test nodes i node h some =
    let lacks : lacks_others (spans_of nodes) None i ≡ (node.children == 0) =
    lacks-all (filter (is_child_of i) (spans_of nodes)) ∙ ap (λ n. n == 0) (sym h.count) in
    ap (λ b. (node.span.handles - 1 == 0) && b) lacks ∙ ap (λ b. b && (node.children == 0)) (none-left node.span.handles some)

-- if only one handle keeps a span, and no child, it closes, and then what closes above it
pub part-begins : (nodes : List KeptSpan) (i : Id) (node : KeptSpan) (path : List Id) → IsKept (spans_of nodes) None → IsKeptAt nodes i node →
    path ≡ path_of (alone (spans_of nodes)) i → 0 < node.span.handles → ((node.span.handles == 1) && (node.children == 0)) ≡ true →
    HasClosed (spans_of nodes) i (length path) 1 node.span.parent
part-begins nodes i node path kept h whole some alone_there =
    let spans : List Span = spans_of nodes in
    let goes = first-test nodes i node h some ∙ alone_there in
    record {
      going = i ∷ [];
      last = i;
      below = node.span;
      found = h.found;
      parent = refl;
      counted = refl;
      closes = sym (closing-first (alone spans) kept.0 i node.span h.found
          ∙ ap (λ b. if b then i ∷ going_after (alone spans) (Some i) (way_up (alone spans) node.span.parent) else []) goes);
      bounded = let n = ap (λ (ids : List Id). length ids) (whole ∙ path_of-step (alone spans) (as_forest (alone spans) kept.0) i node.span h.found) in
          let sum = length-append (path_of_any (alone spans) node.span.parent) (i ∷ []) in omega (arith, n, sum);
    }

-- if others keep it, nothing closes
pub part-stays : (nodes : List KeptSpan) (i : Id) (node : KeptSpan) → IsKept (spans_of nodes) None → IsKeptAt nodes i node →
    0 < node.span.handles → ((node.span.handles == 1) && (node.children == 0)) ≡ false → closing_of (alone (spans_of nodes)) i ≡ []
part-stays nodes i node kept h some others =
    let spans : List Span = spans_of nodes in
    closing-first (alone spans) kept.0 i node.span h.found
    ∙ ap (λ b. if b then i ∷ going_after (alone spans) (Some i) (way_up (alone spans) node.span.parent) else [])
    (first-test nodes i node h some ∙ others)

-- the test of a span whose child has closed
goes-test : (nodes : List KeptSpan) (before a : Id) (below : Span) (node : KeptSpan) → IsKept (spans_of nodes) None → IsKeptAt nodes a node →
    find (has_id before) (spans_of nodes) ≡ Some below → below.parent ≡ Some a →
    goes_after (alone (spans_of nodes)) (Some before) a ≡ ((node.span.handles == 0) && (node.children == 1))
goes-test nodes before a below node kept h found parent =
    let spans : List Span = spans_of nodes in
    let own : same_id a a ≡ true = grind (arith, nat_tests) in
    let child : is_child_of a below ≡ true = ap (λ o. option_map_or (same_id a) o false) parent ∙ own in
    ap (λ o. (option_map_or (λ (span : Span). span.handles) o 0 == 0) && lacks_others spans (Some before) a) h.found
    ∙ ap (λ b. (node.span.handles == 0) && b) (lacks-one spans before a below kept.1 found child ∙ ap (λ n. n == 1) (sym h.count))

-- one span more closes
pub part-more : (nodes : List KeptSpan) (i a : Id) (node : KeptSpan) (whole count : ℕ) (o : Option Id) → IsKept (spans_of nodes) None → IsKeptAt nodes a node →
    o ≡ Some a → ((node.span.handles == 0) && (node.children == 1)) ≡ true → HasClosed (spans_of nodes) i whole count o →
    HasClosed (spans_of nodes) i whole (count + 1) node.span.parent
part-more nodes i a node whole count o kept h e one closed =
    let spans : List Span = spans_of nodes in
    let rest : List Id = going_after (alone spans) (Some a) (way_up (alone spans) node.span.parent) in
    let test : goes_after (alone spans) (Some closed.last) a ≡ true =
    goes-test nodes closed.last a closed.below node kept h closed.found (closed.parent ∙ e) ∙ one in
    let step : going_after (alone spans) (Some closed.last) (way_up (alone spans) o) ≡ a ∷ rest =
    ap (λ p. going_after (alone spans) (Some closed.last) (way_up (alone spans) p)) e
    ∙ going-step (alone spans) (as_forest (alone spans) kept.0) (Some closed.last) a node.span h.found ∙ ap (λ b. if b then a ∷ rest else []) test in
    record {
      going = closed.going ++ a ∷ [];
      last = a;
      below = node.span;
      found = h.found;
      parent = refl;
      counted = length-append closed.going (a ∷ []) ∙ ap (λ n. n + 1) closed.counted;
      closes = append_assoc closed.going (a ∷ []) rest ∙ ap (λ xs. closed.going ++ xs) (sym step) ∙ closed.closes;
      bounded = let n = ap (λ p. length (path_of_any (alone spans) p)) e ∙ ap (λ (ids : List Id). length ids) (path_of-step (alone spans) (as_forest (alone spans) kept.0) a node.span h.found) in
          let sum = length-append (path_of_any (alone spans) node.span.parent) (a ∷ []) in
          let b = closed.bounded in omega (arith, n, sum, b);
    }

-- what closes is the end of the path
part-end : (nodes : List KeptSpan) (i : Id) (path going : List Id) → IsKept (spans_of nodes) None → path ≡ path_of (alone (spans_of nodes)) i →
    going ≡ closing_of (alone (spans_of nodes)) i → reverse (drop (length path - length going) path) ≡ going
part-end nodes i path going kept whole e =
    let spans : List Span = spans_of nodes in
    let longest = closing_of-longest (alone spans) i in
    let way : reverse path ≡ going ++ longest.rest =
    ap (λ (ids : List Id). reverse ids) whole ∙ sym (way-changed one_less less-same i (alone spans) (Some i))
    ∙ longest.whole ∙ ap (λ ids. ids ++ longest.rest) (sym e) in
    let parted : path ≡ reverse longest.rest ++ reverse going =
    sym (reverse-reverse path) ∙ ap (λ (ids : List Id). reverse ids) way ∙ reverse-append going longest.rest in
    let n = ap (λ (ids : List Id). length ids) parted ∙ length-append (reverse longest.rest) (reverse going) in
    let same : length path - length going ≡ length (reverse longest.rest) = omega (arith, n, length-reverse going) in
    ap (λ k. reverse (drop k path)) same
    ∙ ap (λ (ids : List Id). reverse (drop (length (reverse longest.rest)) ids)) parted
    ∙ ap (λ (ids : List Id). reverse ids) (drop-front (reverse longest.rest) (reverse going)) ∙ reverse-reverse going
  where
    length-reverse : (ids : List Id) → length (reverse ids) ≡ length ids
    length-reverse [] = refl
    length-reverse (x ∷ ids) =
        let n = ap (λ (js : List Id). length js) (reverse-append (x ∷ []) ids) ∙ length-append (reverse ids) (x ∷ []) in
        let rest = length-reverse ids in omega (arith, n, rest)

    drop-front : (front back : List Id) → drop (length front) (front ++ back) ≡ back
    drop-front [] back = refl
    drop-front (x ∷ front) back = drop-front front back

-- it ends when nothing more closes, and the code cuts it off
pub part-cut : (nodes : List KeptSpan) (i : Id) (path : List Id) (count : ℕ) (o : Option Id) → IsKept (spans_of nodes) None →
    path ≡ path_of (alone (spans_of nodes)) i → (closed : HasClosed (spans_of nodes) i (length path) count o) →
    going_after (alone (spans_of nodes)) (Some closed.last) (way_up (alone (spans_of nodes)) o) ≡ [] →
    reverse (take (length path - (length path - count)) (drop (length path - count) path)) ≡ closing_of (alone (spans_of nodes)) i
part-cut nodes i path count o kept whole closed none =
    let going : closed.going ≡ closing_of (alone (spans_of nodes)) i =
    sym (append-nil closed.going) ∙ ap (λ xs. closed.going ++ xs) (sym none) ∙ closed.closes in
    ap (λ (ids : List Id). reverse ids) (take_rest path (length path - count))
    ∙ ap (λ n. reverse (drop (length path - n) path)) (sym closed.counted) ∙ part-end nodes i path closed.going kept whole going ∙ going

-- and if nothing closes
pub part-empty : (slice closing : List Id) → closing ≡ [] → reverse (take (length slice - length slice) (drop (length slice) slice)) ≡ closing
part-empty slice closing none =
    let nothing : length slice - length slice ≡ 0 = omega arith in
    ap (λ n. reverse (take n (drop (length slice) slice))) nothing ∙ ap (λ (ids : List Id). reverse ids) (take-none (drop (length slice) slice)) ∙ sym none
  where
    take-none : (ids : List Id) → take 0 ids ≡ []
    take-none [] = refl
    take-none (x ∷ ids) = refl

-- no more closes above a root
pub rest-root : (spans : List Span) (before : Id) (o : Option Id) → o ≡ None → going_after (alone spans) (Some before) (way_up (alone spans) o) ≡ []
rest-root spans before o e = ap (λ p. going_after (alone spans) (Some before) (way_up (alone spans) p)) e

-- it stops at an id that isn't live
pub rest-missing : (nodes : List KeptSpan) (before a : Id) (o : Option Id) → IsKept (spans_of nodes) None → node_at nodes a ≡ None → o ≡ Some a →
    going_after (alone (spans_of nodes)) (Some before) (way_up (alone (spans_of nodes)) o) ≡ []
rest-missing nodes before a o kept none e =
    let gone : find (has_id a) (spans_of nodes) ≡ None = found-span nodes a ∙ ap (λ o. option_map (λ (n : KeptSpan). n.span) o) none in
    ap (λ p. going_after (alone (spans_of nodes)) (Some before) (way_up (alone (spans_of nodes)) p)) e
    ∙ ap (λ ids. going_after (alone (spans_of nodes)) (Some before) ids) (way-none (alone (spans_of nodes)) a gone)

-- and at a span that a handle or another child keeps
pub rest-kept : (nodes : List KeptSpan) (i a : Id) (node : KeptSpan) (whole count : ℕ) (o : Option Id) → IsKept (spans_of nodes) None → IsKeptAt nodes a node → o ≡ Some a →
    (closed : HasClosed (spans_of nodes) i whole count o) → ((node.span.handles == 0) && (node.children == 1)) ≡ false →
    going_after (alone (spans_of nodes)) (Some closed.last) (way_up (alone (spans_of nodes)) o) ≡ []
rest-kept nodes i a node whole count o kept h e closed stays =
    let spans : List Span = spans_of nodes in
    let test : goes_after (alone spans) (Some closed.last) a ≡ false =
    goes-test nodes closed.last a closed.below node kept h closed.found (closed.parent ∙ e) ∙ stays in
    ap (λ p. going_after (alone spans) (Some closed.last) (way_up (alone spans) p)) e
    ∙ going-step (alone spans) (as_forest (alone spans) kept.0) (Some closed.last) a node.span h.found
    ∙ ap (λ b. if b then a ∷ going_after (alone spans) (Some a) (way_up (alone spans) node.span.parent) else []) test

-- ---- the removal of what closes

-- some spans were removed from the id on upward, and `count` are left to remove from here on
pub record HasRemoved (old now : List Span) (first above : Option Id) (count : ℕ) : Type 0 where
  pub kept : (next : Option Id) → IsKept old next → IsKept now next
  pub spans : left (rest_of now above) now ≡ left (rest_of old first) old
  pub counted : count ≡ length (rest_of now above)

-- a live span is the next to be removed
pub record IsNextToGo (now : List Span) (i : Id) : Type 0 where
  pub childless : list_any (is_child_of i) now ≡ false
  pub closes : rest_of now (Some i) ≡ i ∷ rest_of (without i now) (option_and_then (λ (s : Span). s.parent) (find (has_id i) now))

pub next-goes : (now : List Span) (i : Id) → IsKept now None → 0 < length (rest_of now (Some i)) → IsNextToGo now i
next-goes now i kept some = by (find (has_id i) now) refl
  where
    by : (o : Option Span) → find (has_id i) now ≡ o → IsNextToGo now i
    by None e =
        let none : length (rest_of now (Some i)) ≡ 0 =
        ap (λ ids. length (going_after (alone now) None ids)) (way-none (alone now) i e) in
        absurd (omega (arith, none, some))
    by (Some s) e = test ((s.handles == 0) && lacks_others now None i) refl
      where
        test : (b : Bool) → ((s.handles == 0) && lacks_others now None i) ≡ b → IsNextToGo now i
        test true g =
            let parts = and_parts (s.handles == 0) (lacks_others now None i) g in
            record {
              childless = childless i now parts.1;
              closes = rest-goes now kept i s e (eqb-true s.handles 0 parts.0) parts.1
                  ∙ ap (λ o. i ∷ rest_of (without i now) (option_and_then (λ (s : Span). s.parent) o)) (sym e);
            }
        test false g =
            let none : length (rest_of now (Some i)) ≡ 0 = ap (λ (ids : List Id). length ids) (rest-stays now kept i s e g) in
            absurd (omega (arith, none, some))

-- it is removed, and the rest is left
pub removed-more : (old now new : List Span) (first o above : Option Id) (i : Id) (count : ℕ) → IsKept now None → IsNextToGo now i → o ≡ Some i →
    new ≡ without i now → above ≡ option_and_then (λ (s : Span). s.parent) (find (has_id i) now) → HasRemoved old now first o count →
    HasRemoved old new first above (count - 1)
removed-more old now new first o above i count kept next e gone up h =
    let rest : List Id = rest_of (without i now) (option_and_then (λ (s : Span). s.parent) (find (has_id i) now)) in
    let same : rest ≡ rest_of new above =
    ap (λ xs. rest_of xs (option_and_then (λ (s : Span). s.parent) (find (has_id i) now))) (sym gone) ∙ ap (rest_of new) (sym up) in
    let closes : rest_of now o ≡ i ∷ rest = ap (rest_of now) e ∙ next.closes in
    record {
      kept = λ n k. subst (λ xs. IsKept xs n) (sym gone) (kept-without i now n (h.kept n k) next.childless);
      spans = ap (λ xs. left (rest_of new above) xs) gone ∙ ap (λ ids. left ids (without i now)) (sym same)
          ∙ sym (left-cons i rest now) ∙ ap (λ ids. left ids now) (sym closes) ∙ h.spans;
      counted = let n = h.counted ∙ ap (λ (ids : List Id). length ids) (closes ∙ ap (λ ids. i ∷ ids) same) in omega (arith, n);
    }

-- it ends when nothing is left to remove
pub removed-all : (old now : List Span) (first o : Option Id) → HasRemoved old now first o 0 → now ≡ left (rest_of old first) old
removed-all old now first o h = by (rest_of now o) refl
  where
    by : (ids : List Id) → rest_of now o ≡ ids → now ≡ left (rest_of old first) old
    by [] e = sym (left-none now) ∙ ap (λ ids. left ids now) (sym e) ∙ h.spans
    by (i ∷ ids) e = let n = h.counted ∙ ap (λ (xs : List Id). length xs) e in absurd (omega (arith, n))
