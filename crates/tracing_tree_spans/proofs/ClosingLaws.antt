-- What closes is the longest list upward in which each span closes after the one before it.
use Rattle.std.proofs.Common.{◌≡◌, Bool, true, false, List, [], ◌∷◌, ◌++◌, map, zip, reverse, take_while, Option, Some, None, refl, sym, ap, ◌∙◌, subst, if◌then◌else◌}
use Rattle.std.specs.List.{list_all, last_or}
use Rattle.std.proofs.lemmas.List.Sums.{take_while-cons}
use Rattle.tracing_tree_spans.specs.Registry.Forest.{Forest, goes_after, closing_of, take_handle, path_of, FirstStays, IsLongestGoing}
use Rattle.tracing_tree_spans.specs.Registry.Registered.{going_after}
use Rattle.tracing_tree_base.specs.declared.context.Id.{Id}

-- ids, each with the one before it; `before` precedes the first
abbrev steps : Option Id → List Id → List (Option Id × Id)
steps before ids = zip (before ∷ map (λ i. Some i) ids) ids

abbrev goes : Forest → Option Id × Id → Bool
goes forest step = goes_after forest step.0 step.1

-- what closes of a nonempty list of ids: the first and what closes after it, or nothing
pub going-cons : (forest : Forest) (before : Option Id) (i : Id) (more : List Id) →
    going_after forest before (i ∷ more) ≡ (if goes_after forest before i then i ∷ going_after forest (Some i) more else [])
going-cons forest before i more =
    ap (λ xs. map (λ (step : Option Id × Id). step.1) xs) (take_while-cons (goes forest) (before, i) (steps (Some i) more))
    ∙ elim (goes_after forest before i) as (λ b. map (λ (step : Option Id × Id). step.1)
    (if b then (before, i) ∷ take_while (goes forest) (steps (Some i) more) else [])
    ≡ (if b then i ∷ going_after forest (Some i) more else [])) [ true ↦ refl | false ↦ refl ]

-- the longest closing prefix after this one
record IsLongestBehind (forest : Forest) (before : Option Id) (ids found : List Id) : Type 0 where
  rest : List Id
  whole : ids ≡ found ++ rest
  each : list_all (goes forest) (steps before found) ≡ true
  longest : FirstStays forest (last_or before found) rest

behind-by : (forest : Forest) (before : Option Id) (i : Id) (more : List Id) →
    IsLongestBehind forest (Some i) more (going_after forest (Some i) more) → (b : Bool) → goes_after forest before i ≡ b →
    IsLongestBehind forest before (i ∷ more) (if b then i ∷ going_after forest (Some i) more else [])
behind-by forest before i more h true e = record {
  rest = h.rest;
  whole = ap (λ ids. i ∷ ids) h.whole;
  each = rw e h.each;
  longest = h.longest;
}
behind-by forest before i more h false e = record {
  rest = i ∷ more;
  whole = refl;
  each = refl;
  longest = e;
}

going-longest : (forest : Forest) (before : Option Id) (ids : List Id) → IsLongestBehind forest before ids (going_after forest before ids)
going-longest forest before [] = record { rest = []; whole = refl; each = refl; longest = tt }
going-longest forest before (i ∷ more) =
    subst (λ found. IsLongestBehind forest before (i ∷ more) found) (sym (going-cons forest before i more))
    (behind-by forest before i more (going-longest forest (Some i) more) (goes_after forest before i) refl)

-- what closes with one handle of a span, on the path from it up to its root
pub closing_of-longest : (forest : Forest) (i : Id) →
    IsLongestGoing (take_handle i forest) (reverse (path_of (take_handle i forest) i)) (closing_of forest i)
closing_of-longest forest i =
    let h = going-longest (take_handle i forest) None (reverse (path_of (take_handle i forest) i)) in
    record { rest = h.rest; whole = h.whole; each = h.each; longest = h.longest }
