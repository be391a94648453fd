-- A worked example: a span in one line, and its parent in another one.
use Rattle.std.proofs.Common.{◌≡◌, ◌<◌, ℕ, zero, suc, Bool, true, false, List, [], ◌∷◌, ◌++◌, All, AllPairs, codes, map, ◌⊎◌, inl, inr, refl, sym, ap, ◌∙◌, arith, true≢false}
use Rattle.std.specs.Prelude.{⊤}
use Rattle.std.specs.List.{AllByRecursion}
use Rattle.std.proofs.lemmas.List.Elements.{All-from_recursion}
use Rattle.json.proofs.OnLiterals.{json_on_literals}
use Rattle.ttree_otlp.specs.Gather.{GatheredState, lines_taken, nothing_gathered}
use Rattle.ttree_otlp.specs.Otlp.{rows_of}
use Rattle.ttree_otlp.specs.Ties.{DontTie, HaveNoSpaces, HaveNoTies, TieAlike, has_space, rows_of_line, unnumbered}
use Rattle.ttree_otlp.specs.Walk.{key_in, rows_in_order}
use Rattle.ttree_otlp.specs.declared.item.Item.{Item}
use Rattle.ttree_otlp.specs.declared.item.Shape.{Shape}
use Rattle.ttree_otlp.specs.declared.item.Shape.TheVariants.{Trace, Span, Note, LeftOut}
use Rattle.ttree_otlp.specs.declared.walk.Row.{Row}
use Rattle.ttree_otlp.proofs.Order.Blocks.{all_by}
use Rattle.ttree_otlp.proofs.Order.Keys.{is_key, is_key_itself}

abbrev line_of : List ℕ → List ℕ
line_of span = (codes "{\"resourceSpans\":[{\"scopeSpans\":[{\"spans\":[{\"traceId\":\"0a\"," ++ span) ++ codes "}]}]}]}"

abbrev parent : List ℕ
parent = line_of (codes "\"spanId\":\"01\",\"name\":\"order\",\"startTimeUnixNano\":\"5\",\"endTimeUnixNano\":\"9\"")

abbrev child : List ℕ
child = line_of (codes "\"spanId\":\"02\",\"parentSpanId\":\"01\",\"name\":\"pay\",\"startTimeUnixNano\":\"6\",\"endTimeUnixNano\":\"8\"")

abbrev name_of : Shape → List ℕ
name_of (Trace id) = codes "trace"
name_of (Span span) = span.name
name_of (Note note) = []
name_of (LeftOut count) = []

abbrev depth_and_name : Row → ℕ × List ℕ
depth_and_name row = (row.depth, name_of row.item.shape)

-- the rows of lines; no two rows here are in one span, so no order between them is needed
abbrev rows : List (List ℕ) → List (ℕ × List ℕ)
rows lines = map depth_and_name (rows_in_order (rows_of (lines_taken lines nothing_gathered)))

abbrev drawn : List (ℕ × List ℕ)
drawn = (0, codes "trace") ∷ (1, codes "order") ∷ (2, codes "pay") ∷ []

either_order : (rows (parent ∷ child ∷ []) ≡ drawn) × (rows (child ∷ parent ∷ []) ≡ drawn)
unfolding json_on_literals
either_order = (refl, refl)

-- ---- the premises of the law

no_spaces : HaveNoSpaces (parent ∷ child ∷ [])
unfolding json_on_literals
no_spaces = All-from_recursion (λ (row : Item). has_space row.trace ≡ false) (lines_taken (parent ∷ child ∷ []) nothing_gathered).items (refl, (refl, (refl, tt)))

-- rows of two spans, or one row
abbrev Apart : Item → Item → Type 0
Apart a b = (is_key (key_in a) (key_in b) ≡ false) ⊎ (unnumbered a ≡ unnumbered b)

tie_alike : (a b : Item) → Apart a b → TieAlike a b
tie_alike a b (inl other) key place = absurd (true≢false (sym (is_key_itself (key_in a)) ∙ ap (is_key (key_in a)) key ∙ other))
tie_alike a b (inr same) key place = same

all_alike : (xs ys : List Item) → AllByRecursion (λ a. AllByRecursion (Apart a) ys) xs → All (λ a. All (TieAlike a) ys) xs
all_alike xs ys h =
    All-from_recursion (λ a. All (TieAlike a) ys) xs
    (all_by (λ a. AllByRecursion (Apart a) ys) (λ a. All (TieAlike a) ys) (λ a k. All-from_recursion (TieAlike a) ys (all_by (Apart a) (TieAlike a) (tie_alike a) ys k)) xs h)

of_two : {X : Type 0} (R : X → X → Type 0) (x y : X) → R x y → AllPairs R (x ∷ y ∷ [])
of_two R x y h zero zero d p q = absurd (omega arith)
of_two R x y h zero (suc zero) d p q = h
of_two R x y h zero (suc (suc j)) d p q = absurd (omega arith)
of_two R x y h (suc i) zero d p q = absurd (omega arith)
of_two R x y h (suc i) (suc zero) d p q = absurd (omega arith)
of_two R x y h (suc i) (suc (suc j)) d p q = absurd (omega arith)

abbrev both : GatheredState
both = lines_taken (parent ∷ child ∷ []) nothing_gathered

-- the trace's row is the same in both lines, and each other row is the only one of its span
no_ties : HaveNoTies (parent ∷ child ∷ [])
unfolding json_on_literals
no_ties =
    of_two (DontTie both.known) parent child
    (all_alike (rows_of_line both.known parent) (rows_of_line both.known child) ((inr refl, (inl refl, tt)), ((inl refl, (inl refl, tt)), tt)))
