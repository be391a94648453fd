-- The lines of an input in any order are drawn in the same way.
use Rattle.std.proofs.Common.{◌≡◌, ℕ, suc, ◌<◌, true, false, List, [], ◌∷◌, ◌++◌, length, get_or, map, flat_map, All, AllPairs, IsPermutation, IsSorted, Option, Some, None, sym, ap, subst, ◌∙◌, arith}
use Rattle.std.specs.List.{AllByRecursion}
use Rattle.std.proofs.lemmas.List.Elements.{recursion_from_All}
use Rattle.std.specs.Str.Lines.{lines as lines_of}
use Rattle.json.specs.Json.{document}
use Rattle.tracing_tree_base.specs.declared.context.Moment.{Moment}
use Rattle.tracing_tree_layer.specs.declared.call.Call.{Call}
use Rattle.ttree_otlp.specs.Gather.{GatheredState, gathered_in, item_cmp, lines_taken, nothing_gathered, resolved, text_taken_as, trace_seen_as}
use Rattle.ttree_otlp.specs.Keyed.{key_of, kept_at}
use Rattle.ttree_otlp.specs.Otlp.{AreCallsOf}
use Rattle.ttree_otlp.specs.Ties.{DontTie, HaveNoSpaces, HaveNoTies, TieAlike, has_space, rows_of_line, unnumbered}
use Rattle.ttree_otlp.specs.declared.item.Item.{Item}
use Rattle.ttree_otlp.specs.declared.select.Selection.{Selection}
use Rattle.ttree_otlp.specs.Walk.{rows_in_order}
use Rattle.ttree_otlp.proofs.Order.Gathered.{ArePlain, IsThere, Tie, all_there, canon, gathered_by, none, raw_canon, raw_of_line, rows_by, rows_numbered, rows_once, same_classes, served, tie_flips}
use Rattle.ttree_otlp.proofs.Order.Bare.{bare_row}
use Rattle.ttree_otlp.proofs.Order.Blocks.{OfBoth, all_by, of_both_flips}
use Rattle.ttree_otlp.proofs.Order.Drawn.{same_calls}
use Rattle.ttree_otlp.proofs.Order.Effects.{Effect, IsPlain, Known, Line, Lost, Row, Seen, Serves, all_done, done, put, raw}
use Rattle.ttree_otlp.proofs.Order.Once.{all_once, once}
use Rattle.ttree_otlp.proofs.Order.Sorted.{in_order_alike}
use Rattle.ttree_otlp.proofs.Order.Lines.{AreClear, clear_parts, effects_of, lines_done, reads_line}
use Rattle.ttree_otlp.proofs.Order.Turns.{EachTwo}

-- ---- ids without spaces

abbrev IsClearRow : Item → Type 0
IsClearRow row = has_space row.trace ≡ false

all_split : {X : Type 0} (P : X → Type 0) (xs ys : List X) → AllByRecursion P (xs ++ ys) → AllByRecursion P xs × AllByRecursion P ys
all_split P [] ys h = (tt, h)
all_split P (x ∷ xs) ys h = let parts = all_split P xs ys h.1 in ((h.0, parts.0), parts.1)

rows_clear : (es : List Effect) (s : GatheredState) → AllByRecursion IsClearRow (all_done es s).items → AllByRecursion IsClearRow s.items × AreClear es s.service
rows_clear [] s h = (h, tt)
rows_clear (Row row ∷ es) s h =
    let rest = rows_clear es (put (row s.service) s) h in
    let parts = all_split IsClearRow s.items _ rest.0 in
    (parts.0, (parts.1.0, rest.1))
rows_clear (Seen trace time ∷ es) s h = by (kept_at (key_of trace []) s.known) (λ t. rows_clear es t) h where
  by : (o : Option ℕ) → ((t : GatheredState) → AllByRecursion IsClearRow (all_done es t).items → AllByRecursion IsClearRow t.items × AreClear es t.service)
      → AllByRecursion IsClearRow (all_done es (trace_seen_as o trace time s)).items → AllByRecursion IsClearRow s.items × AreClear es s.service
  by (Some first) others k = others (trace_seen_as (Some first) trace time s) k
  by None others k =
      let rest = others (trace_seen_as None trace time s) k in
      ((all_split IsClearRow s.items _ rest.0).0, rest.1)
rows_clear (Known trace id start ∷ es) s h = rows_clear es (done (Known trace id start) s) h
rows_clear (Lost ∷ es) s h = rows_clear es (done Lost s) h
rows_clear (Serves service ∷ es) s h = rows_clear es (done (Serves service) s) h
rows_clear (Line ∷ es) s h = rows_clear es (done Line s) h

plain_lines : (lines : List (List ℕ)) (service : List ℕ) → AreClear (flat_map effects_of lines) service → AllByRecursion (λ line. AllByRecursion IsPlain (effects_of line)) lines
plain_lines [] service h = tt
plain_lines (line ∷ lines) service h =
    let parts = clear_parts (effects_of line) (flat_map effects_of lines) service h in
    ((reads_line line).plain service parts.0, plain_lines lines (served (effects_of line) service) parts.1)

fresh_lines : (line service other : List ℕ) → raw (effects_of line) service ≡ raw (effects_of line) other
fresh_lines line = (reads_line line).fresh

abbrev gathered : List (List ℕ) → GatheredState
gathered lines = gathered_by effects_of fresh_lines lines

are_plain : (lines : List (List ℕ)) → HaveNoSpaces lines → ArePlain effects_of fresh_lines lines
are_plain lines h =
    plain_lines lines [] (rows_clear (flat_map effects_of lines) nothing_gathered
    (recursion_from_All IsClearRow (gathered lines).items
    (subst (λ (s : GatheredState). All IsClearRow s.items) (lines_done lines nothing_gathered) h))).1

-- ---- rows that don't tie

there_lines : (known : List (List ℕ × ℕ)) (lines : List (List ℕ)) → AllByRecursion (IsThere known) (flat_map effects_of lines) → AllByRecursion (λ line. AllByRecursion (IsThere known) (effects_of line)) lines
there_lines known [] h = tt
there_lines known (line ∷ lines) h =
    let parts = all_split (IsThere known) (effects_of line) (flat_map effects_of lines) h in
    (parts.0, there_lines known lines parts.1)

all_mapped : {X Y : Type 0} (P : Y → Type 0) (f : X → Y) (xs : List X) → AllByRecursion (λ x. P (f x)) xs → AllByRecursion P (map f xs)
all_mapped P f [] h = tt
all_mapped P f (x ∷ xs) h = (h.0, all_mapped P f xs h.1)

module _ (known : List (List ℕ × ℕ)) where
  abbrev rows_raw : List ℕ → List Item
  rows_raw line = raw_of_line effects_of fresh_lines known line

  abbrev Apart : List ℕ → List ℕ → Type 0
  Apart one other = OfBoth rows_raw Tie tie_flips one other

  bare_rows : (line : List ℕ) → AllByRecursion IsPlain (effects_of line) → map unnumbered (rows_of_line known line) ≡ once (rows_raw line) none
  bare_rows line plain =
      ap (λ (s : GatheredState). map unnumbered (map (resolved known) s.items)) ((reads_line line).is nothing_gathered) ∙ rows_once known (effects_of line) plain

  every_raw : (P : Item → Type 0) (line : List ℕ) → AllByRecursion IsPlain (effects_of line) → AllByRecursion (IsThere known) (effects_of line)
      → AllByRecursion (λ row. P (unnumbered row)) (rows_of_line known line) → AllByRecursion P (rows_raw line)
  every_raw P line plain there h =
      all_once (canon known) P (rows_raw line) none (raw_canon known (effects_of line) [] there plain) (λ id seen. absurd (let no_trace : false ≡ true = seen in cc))
      (subst (AllByRecursion P) (bare_rows line plain) (all_mapped P unnumbered (rows_of_line known line) h))

  are_apart : (one other : List ℕ) → AllByRecursion IsPlain (effects_of one) → AllByRecursion (IsThere known) (effects_of one)
      → AllByRecursion IsPlain (effects_of other) → AllByRecursion (IsThere known) (effects_of other) → DontTie known one other → Apart one other
  are_apart one other plain there other_plain other_there h =
      every_raw (λ a. AllByRecursion (Tie a) (rows_raw other)) one plain there
      (all_by (λ a. All (TieAlike a) (rows_of_line known other)) (λ a. AllByRecursion (Tie (unnumbered a)) (rows_raw other))
      (λ a k. every_raw (Tie (unnumbered a)) other other_plain other_there (recursion_from_All (TieAlike a) (rows_of_line known other) k))
      (rows_of_line known one) (recursion_from_All (λ a. All (TieAlike a) (rows_of_line known other)) (rows_of_line known one) h))

  apart_from : (one : List ℕ) → AllByRecursion IsPlain (effects_of one) → AllByRecursion (IsThere known) (effects_of one) → (lines : List (List ℕ))
      → AllByRecursion (λ line. AllByRecursion IsPlain (effects_of line)) lines → AllByRecursion (λ line. AllByRecursion (IsThere known) (effects_of line)) lines
      → ((k : ℕ) (d : List ℕ) → k < length lines → DontTie known one (get_or lines k d)) → AllByRecursion (Apart one) lines
  apart_from one plain there [] plains theres h = tt
  apart_from one plain there (line ∷ lines) plains theres h =
      (are_apart one line plain there plains.0 theres.0 (h 0 [] (omega arith)), apart_from one plain there lines plains.1 theres.1 (λ k d p. h (suc k) d (omega arith)))

  each_apart : (lines : List (List ℕ)) → AllByRecursion (λ line. AllByRecursion IsPlain (effects_of line)) lines → AllByRecursion (λ line. AllByRecursion (IsThere known) (effects_of line)) lines
      → AllPairs (DontTie known) lines → EachTwo Apart (of_both_flips rows_raw Tie tie_flips) lines
  each_apart [] plains theres h = tt
  each_apart (line ∷ lines) plains theres h = (
    apart_from line plains.0 theres.0 lines plains.1 theres.1 (λ k d p. h 0 (suc k) d (omega arith) (omega arith)),
    each_apart lines plains.1 theres.1 (λ i j d p q. h (suc i) (suc j) d (omega arith) (omega arith)),
  )

-- ---- lines in any order

module _ (lines others : List (List ℕ)) (same : IsPermutation lines others) (clear : HaveNoSpaces lines) (apart : HaveNoTies lines) where
  lines_apart : EachTwo (Apart (gathered lines).known) (of_both_flips (rows_raw (gathered lines).known) Tie tie_flips) lines
  lines_apart =
      each_apart (gathered lines).known lines (are_plain lines clear) (there_lines (gathered lines).known lines (all_there (flat_map effects_of lines)))
      (subst (λ (s : GatheredState). AllPairs (DontTie s.known) lines) (lines_done lines nothing_gathered) apart)

  pub lines_in_any_order : (ordered also_ordered : List Item)
      → IsPermutation (rows_by (lines_taken lines nothing_gathered)) ordered → IsSorted item_cmp ordered
      → IsPermutation (rows_by (lines_taken others nothing_gathered)) also_ordered → IsSorted item_cmp also_ordered
      → map bare_row (rows_in_order ordered) ≡ map bare_row (rows_in_order also_ordered)
  lines_in_any_order ordered also_ordered p sorted q also_sorted =
      in_order_alike (rows_by (gathered lines)) (rows_by (gathered others)) ordered also_ordered
      (subst (λ (s : GatheredState). IsPermutation (rows_by s) ordered) (lines_done lines nothing_gathered) p) sorted (rows_numbered (flat_map effects_of lines))
      (subst (λ (s : GatheredState). IsPermutation (rows_by s) also_ordered) (lines_done others nothing_gathered) q) also_sorted (rows_numbered (flat_map effects_of others))
      (same_classes effects_of fresh_lines lines others same (are_plain lines clear) lines_apart)

-- the calls that draw inputs with these lines
pub same_calls_of_lines : (next : ℕ) (moment : Moment) (selection : Selection) (lines others : List (List ℕ)) (calls other_calls : List Call)
    → IsPermutation lines others → HaveNoSpaces lines → HaveNoTies lines
    → AreCallsOf next moment selection (lines_taken lines nothing_gathered) calls → AreCallsOf next moment selection (lines_taken others nothing_gathered) other_calls
    → calls ≡ other_calls
same_calls_of_lines next moment selection lines others calls other_calls same clear apart (ordered, is, drawn) (also_ordered, also_is, also_drawn) =
    drawn
    ∙ same_calls next moment selection (rows_in_order ordered) (rows_in_order also_ordered)
    (lines_in_any_order lines others same clear apart ordered also_ordered is.0 is.1 also_is.0 also_is.1)
    ∙ sym also_drawn

-- an input whose lines are values
as_lines : (text : List ℕ) → document text ≡ None → gathered_in text ≡ lines_taken (lines_of text) nothing_gathered
as_lines text h = ap (λ value. text_taken_as value text nothing_gathered) h

pub same_calls_in_any_order : (next : ℕ) (moment : Moment) (selection : Selection) (one other : List ℕ) (calls other_calls : List Call)
    → document one ≡ None → document other ≡ None → IsPermutation (lines_of one) (lines_of other) → HaveNoSpaces (lines_of one) → HaveNoTies (lines_of one)
    → AreCallsOf next moment selection (gathered_in one) calls → AreCallsOf next moment selection (gathered_in other) other_calls
    → calls ≡ other_calls
same_calls_in_any_order next moment selection one other calls other_calls of_one of_other same clear apart h k =
    same_calls_of_lines next moment selection (lines_of one) (lines_of other) calls other_calls same clear apart
    (subst (λ s. AreCallsOf next moment selection s calls) (as_lines one of_one) h)
    (subst (λ s. AreCallsOf next moment selection s other_calls) (as_lines other of_other) k)
