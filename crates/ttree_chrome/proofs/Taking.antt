-- What was read of a trace's elements so far.
use Rattle.std.proofs.Common.{◌≡◌, ℕ, ◌+◌, true, false, List, [], ◌++◌, Option, Some, None, refl, sym, ap, subst, ◌∙◌, arith, append-nil, append_assoc}
use Rattle.json.specs.Token.{Token}
use Rattle.json.specs.Json.{Json, Items, no_items, item, after_end_array, value}
use Rattle.json.specs.Find.{InItems}
use Rattle.json.proofs.Found.{Some_inj, items_close, items_go_on, one_reading}
use Rattle.json.proofs.Grammar.{closed_array}
use Rattle.tracing_tree_lines.specs.declared.lines.LineCause.{LineCause}
use Rattle.ttree_source.specs.Noted.{Note}
use Rattle.ttree_chrome.specs.Element.{element_of}
use Rattle.ttree_chrome.specs.Notes.{IsNoted, element_note, element_notes, item_count}
use Rattle.ttree_chrome.specs.Trace.{EndsInterpreting, interpreted_all, interpreted_as}
use Rattle.ttree_chrome.specs.declared.trace.Interpreted.{Interpreted}
use Rattle.ttree_chrome.proofs.Interpreting.{ends_before}
use Rattle.ttree_chrome.proofs.Noting.{noted_among, noted_none, noted_then}
use Rattle.ttree_chrome.proofs.Reading.{read}

-- Those before `number` were read and noted, and the others are left.
pub record IsTaken (all : Items) (old : Interpreted) (tokens : List Token) (now : Interpreted) (number : ℕ) (before after : Option (List Note)) : Type 0 where
  pub others : Items
  pub inside : InItems tokens others
  pub interpreted : interpreted_all all old ≡ interpreted_all others now
  pub first : List Note
  pub notes : element_notes 1 all ≡ first ++ element_notes number others
  pub noted : IsNoted first true old.unknown now.unknown before after
  pub counted : item_count all + 1 ≡ number + item_count others

pub none_taken : (all : Items) (old : Interpreted) (tokens : List Token) (before : Option (List Note)) → InItems tokens all → IsTaken all old tokens old 1 before before
none_taken all old tokens before inside = record {
  others = all;
  inside = inside;
  interpreted = refl;
  first = [];
  notes = refl;
  noted = noted_none true _ _;
  counted = omega arith;
}

-- the element that was read is the first of the others
pub record IsNext (tokens rest : List Token) (j : Json) (others : Items) : Type 0 where
  pub left : Items
  pub is : others ≡ item j left
  pub inside : InItems rest left

pub next : (d : ℕ) (tokens rest : List Token) (j : Json) (others : Items) → after_end_array tokens ≡ None → value d tokens ≡ Some (j, rest) → InItems tokens others → IsNext tokens rest j others
next d tokens rest j others going found inside =
    let f = items_go_on tokens others going inside in
    let same : read f.1 f.2 ≡ read j rest = one_reading f.0 d tokens (f.1, f.2) (j, rest) f.4 found in
    record {
      left = f.3;
      is = f.5 ∙ ap (λ k. item k f.3) (ap (λ p. p.0) (Some_inj _ _ same));
      inside = subst (λ ts. InItems ts f.3) (ap (λ p. p.1) (Some_inj _ _ same)) f.6;
    }

module _ (all : Items) (old : Interpreted) (tokens rest : List Token) (now new : Interpreted) (number : ℕ) (j : Json) (before middle after : Option (List Note)) where
  pub one_more_taken : (d : ℕ) → IsTaken all old tokens now number before middle → after_end_array tokens ≡ None → value d tokens ≡ Some (j, rest)
      → new ≡ interpreted_as (element_of j) now → IsNoted (element_note number (element_of j)) true now.unknown new.unknown middle after
      → IsTaken all old rest new (number + 1) before after
  one_more_taken d t going found taken noted =
      let n = next d tokens rest j t.others going found t.inside in
      let note : List Note = element_note number (element_of j) in
      record {
        others = n.left;
        inside = n.inside;
        interpreted = t.interpreted ∙ ap (λ x. interpreted_all x now) n.is ∙ ap (interpreted_all n.left) (sym taken);
        first = t.first ++ note;
        notes = t.notes ∙ ap (λ x. t.first ++ element_notes number x) n.is ∙ sym (append_assoc t.first note (element_notes (number + 1) n.left));
        noted = noted_then t.first note true old.unknown now.unknown new.unknown before middle after t.noted noted;
        counted = t.counted ∙ ap (λ x. number + item_count x) n.is ∙ omega arith;
      }

  -- the run ended at this element
  pub ended_at : (d : ℕ) (cause : LineCause) → IsTaken all old tokens now number before middle → after_end_array tokens ≡ None → value d tokens ≡ Some (j, rest)
      → EndsInterpreting cause new (interpreted_as (element_of j) now) → EndsInterpreting cause new (interpreted_all all old)
  ended_at d cause t going found ends =
      let n = next d tokens rest j t.others going found t.inside in
      subst (EndsInterpreting cause new) (sym (t.interpreted ∙ ap (λ x. interpreted_all x now) n.is))
      (ends_before cause new (interpreted_as (element_of j) now) n.left ends)

  pub noted_at : (d : ℕ) → IsTaken all old tokens now number before middle → after_end_array tokens ≡ None → value d tokens ≡ Some (j, rest)
      → IsNoted (element_note number (element_of j)) false now.unknown new.unknown middle after → IsNoted (element_notes 1 all) false old.unknown new.unknown before after
  noted_at d t going found noted =
      let n = next d tokens rest j t.others going found t.inside in
      let note : List Note = element_note number (element_of j) in
      let so_far : List Note = t.first ++ note in
      let whole : element_notes 1 all ≡ so_far ++ element_notes (number + 1) n.left =
      t.notes ∙ ap (λ x. t.first ++ element_notes number x) n.is ∙ sym (append_assoc t.first note (element_notes (number + 1) n.left)) in
      subst (λ notes. IsNoted notes false old.unknown new.unknown before after) (sym whole)
      (noted_among so_far (element_notes (number + 1) n.left) old.unknown new.unknown before after
      (noted_then t.first note false old.unknown now.unknown new.unknown before middle after t.noted noted))

module _ (all : Items) (old : Interpreted) (tokens : List Token) (now : Interpreted) (number : ℕ) (before after : Option (List Note)) where
  -- the run ended before the next element
  pub noted_before : IsTaken all old tokens now number before after → IsNoted (element_notes 1 all) false old.unknown now.unknown before after
  noted_before t =
      subst (λ notes. IsNoted notes false old.unknown now.unknown before after) (sym t.notes)
      (noted_among t.first (element_notes number t.others) old.unknown now.unknown before after (less t.first t.noted))
    where
      less : (notes : List Note) → IsNoted notes true old.unknown now.unknown before after → IsNoted notes false old.unknown now.unknown before after
      less notes h = record { count = h.count; within = h.within; counted = h.counted; added = h.added; whole = λ e. cc }

  none_left : (r : List Token) → IsTaken all old tokens now number before after → after_end_array tokens ≡ Some r → (t : IsTaken all old tokens now number before after) → t.others ≡ no_items
  none_left r _ closed t = items_close r t.others (subst (λ ts. InItems ts t.others) (closed_array tokens r closed) t.inside)

  -- all were taken
  pub all_taken : (r : List Token) → IsTaken all old tokens now number before after → after_end_array tokens ≡ Some r → interpreted_all all old ≡ now
  all_taken r t closed = t.interpreted ∙ ap (λ x. interpreted_all x now) (none_left r t closed t)

  pub all_noted : (r : List Token) → IsTaken all old tokens now number before after → after_end_array tokens ≡ Some r → IsNoted (element_notes 1 all) true old.unknown now.unknown before after
  all_noted r t closed =
      subst (λ notes. IsNoted notes true old.unknown now.unknown before after)
      (sym (t.notes ∙ ap (λ x. t.first ++ element_notes number x) (none_left r t closed t) ∙ append-nil t.first)) t.noted

  pub all_counted : (r : List Token) → IsTaken all old tokens now number before after → after_end_array tokens ≡ Some r → number ≡ item_count all + 1
  all_counted r t closed = sym (t.counted ∙ ap (λ x. number + item_count x) (none_left r t closed t) ∙ omega arith)
