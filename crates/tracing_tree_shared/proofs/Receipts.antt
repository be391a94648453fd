-- Which places of a history are wrong, found by a walk over the receipts.
use Rattle.std.proofs.Common.{◌≡◌, ◌∙◌, ℕ, zero, suc, ◌+◌, ◌<◌, ◌≤◌, Bool, true, false, not, ◌&&◌, eqb, leb, cond, max, List, [], ◌∷◌, ◌++◌, length, get_or, ◌⊎◌, refl, sym, ap, subst, inl, inr, arith, Option, Some, None, Any, All, IsSomeAnd, flat_map, slice_get, count_by, nat_lt, Decides, if◌then◌else◌, ◌==◌, rules, IfSome, IfNone, drop, min, zero-add}
use Rattle.std.specs.Option.{option_map_or}
use Rattle.std.proofs.lemmas.Bool.{cases_lt, leb-true, le-leb, ltb-true, ltb-false, lt-ltb, ne_eqb, or_cases, or_left, or_right, not-true, not_from_false, both_ways}
use Rattle.std.proofs.lemmas.Bool.Decides.{Decides-and}
use Rattle.std.proofs.lemmas.List.{at_drop_more}
use Rattle.std.proofs.lemmas.List.Sums.{sum_by-cons}
use Rattle.std.specs.List.Sorted.{IsPartitionPoint, IsPartitionedBy}
use Rattle.std.proofs.lemmas.Option.{slice_get_read, slice_get_past, slice_get_within, get_or_from_slice_get}
use Rattle.tracing_tree_layer.specs.declared.call.Call.{Call}
use Rattle.tracing_tree_layer.specs.declared.call.Reply.{Reply}
use Rattle.tracing_tree_layer.specs.contracts.call.CallPartialEq.TheImpl.{ghosts as call}
use Rattle.tracing_tree_layer.specs.contracts.call.ReplyPartialEq.TheImpl.{ghosts as reply}
use Rattle.tracing_tree_layer.proofs.Equality.{call_decides}
use Rattle.tracing_tree_shared.specs.History.{Entry, Slip, Slips, all_slips, slips_at, KeepsSlip, HasOther, IsLateIn, IsStrange, IsFirstStrange, IsOneHistory}
use Rattle.tracing_tree_shared.specs.Finish.{keeps_slip, is_late, greater, is_misplaced, misplaced, smallest, RisesUpTo}
use Rattle.tracing_tree_shared.proofs.Lists.{Has, In, has_any, any_has, has_left, has_right, has_at, has_flat, flat_has, has_map, smallest-append, least_none, least_is}

-- ---- one receipt

reply_decides : (a b : Reply) → Decides (reply.eq a b) (a ≡ b)
reply_decides a b = search rules

entry_decides : (a b : Entry) → Decides (call.eq a.0 b.0 && reply.eq a.1 b.1) (a ≡ b)
entry_decides a b =
    let d = Decides-and (call.eq a.0 b.0) (reply.eq a.1 b.1) (call_decides a.0 b.0) (reply_decides a.1 b.1) in
    (λ e i. ((d.0 e).0 i, (d.0 e).1 i), λ e. d.1 (ap (λ (x : Entry). x.0) e, ap (λ (x : Entry). x.1) e))

found_decides : (found : Option Entry) (entry : Entry) →
    Decides (option_map_or (λ kept. call.eq kept.0 entry.0 && reply.eq kept.1 entry.1) found false) (found ≡ Some entry)
found_decides None entry = (λ e. cc, λ e. cc)
found_decides (Some kept) entry =
    let d = entry_decides kept entry in
    (λ e. ap (λ x. Some x) (d.0 e), λ e. d.1 (same e))
  where
    same : Some kept ≡ Some entry → kept ≡ entry
    same e = cc

-- the entry at its place
keeps_found : (history : List Entry) (slip : Slip) (entry : Entry) (place : ℕ) → place ≡ slip.place → place < length history → entry ≡ get_or history place entry →
    keeps_slip history slip ≡ (call.eq entry.0 slip.entry.0 && reply.eq entry.1 slip.entry.1)
keeps_found history slip entry place same within here =
    ap (λ found. option_map_or (λ (kept : Entry). call.eq kept.0 slip.entry.0 && reply.eq kept.1 slip.entry.1) found false)
    (ap (slice_get history) (sym same) ∙ slice_get_read history (length history) place entry refl within here)

pub keeps_both : (history : List Entry) (slip : Slip) (entry : Entry) (place : ℕ) (called : Call) (replied : Reply) (a b : Bool) →
    place ≡ slip.place → place < length history → entry ≡ get_or history place entry → called ≡ slip.entry.0 → replied ≡ slip.entry.1 →
    a ≡ call.eq entry.0 called → b ≡ reply.eq entry.1 replied → a ≡ true → b ≡ keeps_slip history slip
keeps_both history slip entry place called replied a b same within here c r e f yes' =
    ap (λ x. x && b) (sym yes') ∙ ap (λ x. x && b) (e ∙ ap (λ x. call.eq entry.0 x) c) ∙ ap (λ x. call.eq entry.0 slip.entry.0 && x) (f ∙ ap (λ x. reply.eq entry.1 x) r)
    ∙ sym (keeps_found history slip entry place same within here)

pub keeps_neither : (history : List Entry) (slip : Slip) (entry : Entry) (place : ℕ) (called : Call) (a : Bool) →
    place ≡ slip.place → place < length history → entry ≡ get_or history place entry → called ≡ slip.entry.0 →
    a ≡ call.eq entry.0 called → a ≡ false → a ≡ keeps_slip history slip
keeps_neither history slip entry place called a same within here c e no' =
    no' ∙ ap (λ x. x && reply.eq entry.1 slip.entry.1) (sym no' ∙ e ∙ ap (λ x. call.eq entry.0 x) c) ∙ sym (keeps_found history slip entry place same within here)

pub keeps_past : (history : List Entry) (slip : Slip) (place : ℕ) → place ≡ slip.place → length history ≤ place → false ≡ keeps_slip history slip
keeps_past history slip place same past =
    sym (ap (λ found. option_map_or (λ (kept : Entry). call.eq kept.0 slip.entry.0 && reply.eq kept.1 slip.entry.1) found false)
    (ap (slice_get history) (sym same) ∙ slice_get_past history place past))

pub keeps_decides : (history : List Entry) (slip : Slip) → Decides (keeps_slip history slip) (KeepsSlip history slip)
keeps_decides history slip = found_decides (slice_get history slip.place) slip.entry

-- ---- greatest places

late-kept : (greatest : Option ℕ) (other place : ℕ) → is_late greatest place ≡ true → is_late (greater greatest other) place ≡ true
late-kept None other place e = absurd (both_ways false refl e)
late-kept (Some g) other place e = le-leb place (max g other) (omega (arith, leb-true place g e))

late-here : (greatest : Option ℕ) (other place : ℕ) → place ≤ other → is_late (greater greatest other) place ≡ true
late-here None other place h = le-leb place other h
late-here (Some g) other place h = le-leb place (max g other) (omega arith)

late-split : (greatest : Option ℕ) (other place : ℕ) → is_late (greater greatest other) place ≡ true → (is_late greatest place ≡ true) ⊎ (place ≤ other)
late-split None other place e = inr (leb-true place other e)
late-split (Some g) other place e = split (cases_lt other place)
  where
    split : (other < place) ⊎ (place ≤ other) → (leb place g ≡ true) ⊎ (place ≤ other)
    split (inl lt) = inl (le-leb place g (omega (arith, leb-true place (max g other) e)))
    split (inr le) = inr le

-- ---- what is misplaced in a pass

module _ (history : List Entry) where
  -- the part of one receipt
  abbrev emitted : Bool → Slip → List ℕ → List ℕ
  emitted bad slip rest = (if bad then slip.place ∷ [] else []) ++ rest

  emitted-here : (bad : Bool) (slip : Slip) (rest : List ℕ) → bad ≡ true → In slip.place (emitted bad slip rest)
  emitted-here bad slip rest e = subst (λ b. In slip.place (emitted b slip rest)) (sym e) (inl refl)

  emitted-later : (bad : Bool) (slip : Slip) (rest : List ℕ) (place : ℕ) → In place rest → In place (emitted bad slip rest)
  emitted-later bad slip rest place h = has_right (λ other. other ≡ place) (if bad then slip.place ∷ [] else []) rest h

  emitted-split : (bad : Bool) (slip : Slip) (rest : List ℕ) (place : ℕ) → In place (emitted bad slip rest) → ((bad ≡ true) × (slip.place ≡ place)) ⊎ In place rest
  emitted-split true slip rest place (inl e) = inl (refl, e)
  emitted-split true slip rest place (inr h) = inr h
  emitted-split false slip rest place h = inr h

  late_under : (greatest : Option ℕ) (slips : Slips) (j : ℕ) (d : Slip) → j < length slips → is_late greatest (get_or slips j d).place ≡ true →
      In (get_or slips j d).place (misplaced history greatest slips)
  late_under greatest [] j d lt e = absurd (omega (arith, lt))
  late_under greatest (s ∷ ss) zero d lt e =
      emitted-here (is_misplaced history greatest s) s (misplaced history (greater greatest s.place) ss) (or_left (is_late greatest s.place) (not (keeps_slip history s)) e)
  late_under greatest (s ∷ ss) (suc j) d lt e =
      emitted-later (is_misplaced history greatest s) s (misplaced history (greater greatest s.place) ss) (get_or ss j d).place
      (late_under (greater greatest s.place) ss j d (omega (arith, lt)) (late-kept greatest s.place (get_or ss j d).place e))

  late_after : (greatest : Option ℕ) (slips : Slips) (i j : ℕ) (d : Slip) → i < j → j < length slips → (get_or slips j d).place ≤ (get_or slips i d).place →
      In (get_or slips j d).place (misplaced history greatest slips)
  late_after greatest [] i j d order lt h = absurd (omega (arith, lt))
  late_after greatest (s ∷ ss) i zero d order lt h = absurd (omega (arith, order))
  late_after greatest (s ∷ ss) zero (suc j) d order lt h =
      emitted-later (is_misplaced history greatest s) s (misplaced history (greater greatest s.place) ss) (get_or ss j d).place
      (late_under (greater greatest s.place) ss j d (omega (arith, lt)) (late-here greatest s.place (get_or ss j d).place h))
  late_after greatest (s ∷ ss) (suc i) (suc j) d order lt h =
      emitted-later (is_misplaced history greatest s) s (misplaced history (greater greatest s.place) ss) (get_or ss j d).place
      (late_after (greater greatest s.place) ss i j d (omega (arith, order)) (omega (arith, lt)) h)

  other_in : (greatest : Option ℕ) (slips : Slips) (slip : Slip) → Has (λ other. other ≡ slip) slips → ¬ (KeepsSlip history slip) →
      In slip.place (misplaced history greatest slips)
  other_in greatest [] slip h unlike = absurd h
  other_in greatest (s ∷ ss) slip (inl e) unlike =
      subst (λ (x : Slip). In x.place (misplaced history greatest (s ∷ ss))) e
      (emitted-here (is_misplaced history greatest s) s (misplaced history (greater greatest s.place) ss)
      (or_right (is_late greatest s.place) (not (keeps_slip history s)) (not_from_false (keeps_slip history s) (unkept (keeps_slip history s) refl))))
    where
      unkept : (b : Bool) → keeps_slip history s ≡ b → keeps_slip history s ≡ false
      unkept true k = absurd (unlike (subst (λ x. KeepsSlip history x) e ((keeps_decides history s).0 k)))
      unkept false k = k
  other_in greatest (s ∷ ss) slip (inr h) unlike =
      emitted-later (is_misplaced history greatest s) s (misplaced history (greater greatest s.place) ss) slip.place (other_in (greater greatest s.place) ss slip h unlike)

  -- why a place is there
  record Reason (greatest : Option ℕ) (slips : Slips) (place : ℕ) : Type 0 where
    at : ℕ
    slip : Slip
    here : slice_get slips at ≡ Some slip
    same : slip.place ≡ place
    why : ¬ (KeepsSlip history slip) ⊎ ((is_late greatest place ≡ true)
        ⊎ ((sooner : ℕ) × (before : Slip) × (sooner < at) × (slice_get slips sooner ≡ Some before) × (place ≤ before.place)))

  reason : (greatest : Option ℕ) (slips : Slips) (place : ℕ) → In place (misplaced history greatest slips) → Reason greatest slips place
  reason greatest [] place h = absurd h
  reason greatest (s ∷ ss) place h = split (λ k. reason (greater greatest s.place) ss place k) (emitted-split (is_misplaced history greatest s) s (misplaced history (greater greatest s.place) ss) place h)
    where
      not_kept : keeps_slip history s ≡ false → ¬ (KeepsSlip history s)
      not_kept e k = both_ways (keeps_slip history s) e ((keeps_decides history s).1 k)

      here_why : s.place ≡ place → (is_late greatest s.place ≡ true) ⊎ (not (keeps_slip history s) ≡ true) → ¬ (KeepsSlip history s) ⊎ ((is_late greatest place ≡ true)
          ⊎ ((sooner : ℕ) × (before : Slip) × (sooner < 0) × (slice_get (s ∷ ss) sooner ≡ Some before) × (place ≤ before.place)))
      here_why e (inl late) = inr (inl (subst (λ p. is_late greatest p ≡ true) e late))
      here_why e (inr other) = inl (not_kept (not-true (keeps_slip history s) other))

      later_why : (at : ℕ) (slip : Slip) → ¬ (KeepsSlip history slip) ⊎ ((is_late (greater greatest s.place) place ≡ true)
          ⊎ ((sooner : ℕ) × (before : Slip) × (sooner < at) × (slice_get ss sooner ≡ Some before) × (place ≤ before.place))) →
          ¬ (KeepsSlip history slip) ⊎ ((is_late greatest place ≡ true)
          ⊎ ((sooner : ℕ) × (before : Slip) × (sooner < suc at) × (slice_get (s ∷ ss) sooner ≡ Some before) × (place ≤ before.place)))
      later_why at slip (inl unlike) = inl unlike
      later_why at slip (inr (inl late)) = by_floor (late-split greatest s.place place late)
        where
          by_floor : (is_late greatest place ≡ true) ⊎ (place ≤ s.place) → ¬ (KeepsSlip history slip) ⊎ ((is_late greatest place ≡ true)
              ⊎ ((sooner : ℕ) × (before : Slip) × (sooner < suc at) × (slice_get (s ∷ ss) sooner ≡ Some before) × (place ≤ before.place)))
          by_floor (inl l) = inr (inl l)
          by_floor (inr le) = inr (inr (0, s, omega arith, refl, le))
      later_why at slip (inr (inr w)) = inr (inr (suc w.0, w.1, omega (arith, w.2), w.3, w.4))

      split : (In place (misplaced history (greater greatest s.place) ss) → Reason (greater greatest s.place) ss place) →
          ((is_misplaced history greatest s ≡ true) × (s.place ≡ place)) ⊎ In place (misplaced history (greater greatest s.place) ss) → Reason greatest (s ∷ ss) place
      split later (inl (bad, e)) = record { at = 0; slip = s; here = refl; same = e; why = here_why e (or_cases (is_late greatest s.place) (not (keeps_slip history s)) bad) }
      split later (inr k) = let r = later k in
          record { at = suc r.at; slip = r.slip; here = r.here; same = r.same; why = later_why r.at r.slip r.why }

  -- ---- what is strange

  late_in : (slips : Slips) (place : ℕ) → IsLateIn slips place → In place (misplaced history None slips)
  late_in slips place late = at (slice_get slips late.later) refl late.late (slice_get slips late.sooner) refl late.not_smaller
    where
      at : (o : Option Slip) → slice_get slips late.later ≡ o → IsSomeAnd o (λ slip. slip.place ≡ place) →
          (p : Option Slip) → slice_get slips late.sooner ≡ p → IsSomeAnd p (λ slip. place ≤ slip.place) → In place (misplaced history None slips)
      at None e h p f k = absurd h
      at (Some later) e h None f k = absurd k
      at (Some later) e h (Some sooner) f k =
          let l = get_or_from_slice_get slips late.later later later e in
          let s = get_or_from_slice_get slips late.sooner sooner later f in
          subst (λ p. In p (misplaced history None slips)) (ap (λ (x : Slip). x.place) l ∙ h)
          (late_after None slips late.sooner late.later later late.order (slice_get_within slips late.later later e)
          (subst (λ (x : Slip). x.place ≤ (get_or slips late.sooner later).place) (sym l)
          (subst (λ (x : Slip). later.place ≤ x.place) (sym s) (subst (λ p. p ≤ sooner.place) (sym h) k))))

  -- of one pass
  abbrev IsWrongIn : ℕ → Slips → Type 0
  IsWrongIn place slips = ((slip : Slip) × Has (λ other. other ≡ slip) slips × (slip.place ≡ place) × ¬ (KeepsSlip history slip)) ⊎ IsLateIn slips place

  wrong_in : (place : ℕ) (slips : Slips) → In place (misplaced history None slips) → IsWrongIn place slips
  wrong_in place slips h = by_reason (reason None slips place h)
    where
      by_why : (r : Reason None slips place) → ¬ (KeepsSlip history r.slip) ⊎ ((false ≡ true)
          ⊎ ((sooner : ℕ) × (before : Slip) × (sooner < r.at) × (slice_get slips sooner ≡ Some before) × (place ≤ before.place))) → IsWrongIn place slips
      by_why r (inl unlike) = inl (r.slip, has_at (λ other. other ≡ r.slip) slips r.at r.slip r.here refl, r.same, unlike)
      by_why r (inr (inl e)) = absurd (both_ways false refl e)
      by_why r (inr (inr w)) = inr (record {
        sooner = w.0;
        later = r.at;
        order = w.2;
        not_smaller = subst (λ o. IsSomeAnd o (λ slip. place ≤ slip.place)) (sym w.3) w.4;
        late = subst (λ o. IsSomeAnd o (λ slip. slip.place ≡ place)) (sym r.here) r.same;
      })

      by_reason : Reason None slips place → IsWrongIn place slips
      by_reason r = by_why r r.why

  in_wrong : (place : ℕ) (slips : Slips) → IsWrongIn place slips → In place (misplaced history None slips)
  in_wrong place slips (inl w) = subst (λ p. In p (misplaced history None slips)) w.2 (other_in None slips w.0 w.1 w.3)
  in_wrong place slips (inr late) = late_in slips place late

  -- of all passes
  abbrev pub all_misplaced : List Slips → List ℕ
  all_misplaced passes = flat_map (misplaced history None) passes

  abbrev pub IsWrong : List Slips → ℕ → Type 0
  IsWrong passes place = HasOther history passes place ⊎ Any (λ slips. IsLateIn slips place) passes

  wrong_of : (place : ℕ) (passes : List Slips) → Has (IsWrongIn place) passes → IsWrong passes place
  wrong_of place [] h = absurd h
  wrong_of place (slips ∷ passes) (inl (inl w)) = inl (w.0, has_any (λ other. other ≡ w.0) (all_slips (slips ∷ passes)) (has_left (λ other. other ≡ w.0) slips (all_slips passes) w.1), w.2, w.3)
  wrong_of place (slips ∷ passes) (inl (inr late)) = inr (has_any (λ slips. IsLateIn slips place) (slips ∷ passes) (inl late))
  wrong_of place (slips ∷ passes) (inr h) = on (wrong_of place passes h)
    where
      on : IsWrong passes place → IsWrong (slips ∷ passes) place
      on (inl w) = inl (
        w.0,
        has_any (λ other. other ≡ w.0) (all_slips (slips ∷ passes))
            (has_right (λ other. other ≡ w.0) slips (all_slips passes) (any_has (λ other. other ≡ w.0) (all_slips passes) w.1)),
        w.2,
        w.3,
      )
      on (inr late) = inr (has_any (λ slips. IsLateIn slips place) (slips ∷ passes) (inr (any_has (λ slips. IsLateIn slips place) passes late)))

  pub wrong_at : (place : ℕ) (passes : List Slips) → In place (all_misplaced passes) → IsWrong passes place
  wrong_at place passes h =
      wrong_of place passes (has_map (λ slips. In place (misplaced history None slips)) (IsWrongIn place) (wrong_in place) passes
      (flat_has (λ other. other ≡ place) (misplaced history None) passes h))

  pub at_wrong : (place : ℕ) (passes : List Slips) → IsWrong passes place → In place (all_misplaced passes)
  at_wrong place passes (inl w) =
      has_flat (λ other. other ≡ place) (misplaced history None) passes
      (has_map (λ slips. Has (λ other. other ≡ w.0) slips) (λ slips. In place (misplaced history None slips))
      (λ slips h. in_wrong place slips (inl (w.0, h, w.2, w.3))) passes
      (flat_has (λ other. other ≡ w.0) (λ slips. slips) passes (any_has (λ other. other ≡ w.0) (all_slips passes) w.1)))
  at_wrong place passes (inr late) =
      has_flat (λ other. other ≡ place) (misplaced history None) passes
      (has_map (λ slips. IsLateIn slips place) (λ slips. In place (misplaced history None slips)) (λ slips l. late_in slips place l) passes
      (any_has (λ slips. IsLateIn slips place) passes late))

  -- ---- below the first misplaced receipt

  rises-one : (place : ℕ) (slips : Slips) → ((other : ℕ) → In other (misplaced history None slips) → place < other) → RisesUpTo place slips
  rises-one place slips above i j d order lt le = by_order (cases_lt (get_or slips i d).place (get_or slips j d).place)
    where
      by_order : ((get_or slips i d).place < (get_or slips j d).place) ⊎ ((get_or slips j d).place ≤ (get_or slips i d).place) → (get_or slips i d).place < (get_or slips j d).place
      by_order (inl h) = h
      by_order (inr h) = absurd (omega (arith, above (get_or slips j d).place (late_after None slips i j d order lt h), le))

  pub rises : (place : ℕ) (passes : List Slips) → ((other : ℕ) → In other (all_misplaced passes) → place < other) → All (RisesUpTo place) passes
  rises place [] above k d lt = absurd (omega (arith, lt))
  rises place (slips ∷ passes) above zero d lt =
      rises-one place slips (λ other h. above other (has_left (λ x. x ≡ other) (misplaced history None slips) (all_misplaced passes) h))
  rises place (slips ∷ passes) above (suc k) d lt =
      rises place passes (λ other h. above other (has_right (λ x. x ≡ other) (misplaced history None slips) (all_misplaced passes) h)) k d (omega (arith, lt))

  -- ---- the first strange place

  -- before the end each place has one receipt
  abbrev pub HaveOne : List Slips → ℕ → Type 0
  HaveOne passes end = (other : ℕ) → other < end → slips_at passes other ≡ 1

  -- the first misplaced receipt isn't before this
  abbrev pub ComesFrom : List Slips → ℕ → Type 0
  ComesFrom passes end = (other : ℕ) → In other (all_misplaced passes) → end ≤ other

  no_strange : (passes : List Slips) (place : ℕ) → (place < length history → slips_at passes place ≡ 1) → (In place (all_misplaced passes) → ⊥) → ¬ (IsStrange history passes place)
  no_strange passes place one none (inl w) = w.1 (one w.0)
  no_strange passes place one none (inr w) = none (at_wrong place passes w)

  -- a place without its one receipt
  pub first_uncounted : (passes : List Slips) (place : ℕ) → place < length history → (slips_at passes place ≡ 1 → ⊥) → HaveOne passes place → ComesFrom passes (place + 1) →
      IsFirstStrange history passes place
  first_uncounted passes place within not_one below from =
      (inl (within, not_one), λ other lt. no_strange passes other (λ w. below other lt) (λ h. omega (arith, from other h)))

  -- a misplaced receipt, with one receipt at each place before
  pub first_misplaced : (passes : List Slips) (place end : ℕ) → smallest None (all_misplaced passes) ≡ Some place → (place ≤ end) ⊎ (length history ≤ end) → HaveOne passes end →
      IsFirstStrange history passes place
  first_misplaced passes place end e reaches below =
      let l = least_is (all_misplaced passes) place e in
      (inr (wrong_at place passes l.0), λ other lt. no_strange passes other (λ w. below other (before reaches other lt w)) (λ h. omega (arith, l.1 other h)))
    where
      before : (place ≤ end) ⊎ (length history ≤ end) → (other : ℕ) → other < place → other < length history → other < end
      before (inl h) other lt w = omega arith
      before (inr h) other lt w = omega arith

  -- nothing misplaced
  pub none_strange : (passes : List Slips) → smallest None (all_misplaced passes) ≡ None → HaveOne passes (length history) → IsOneHistory history passes
  none_strange passes e below place = no_strange passes place (below place) (least_none (all_misplaced passes) e place)

-- ---- counts

count_none : (place : ℕ) (slips : Slips) → ((k : ℕ) (d : Slip) → k < length slips → (get_or slips k d).place ≡ place → ⊥) → count_by (λ (slip : Slip). slip.place == place) slips ≡ 0
count_none place [] none = refl
count_none place (s ∷ ss) none =
    sum_by-cons (λ (slip : Slip). cond (eqb slip.place place) 1 0) s ss
    ∙ ap (λ b. cond b 1 0 + count_by (λ (slip : Slip). slip.place == place) ss) (ne_eqb s.place place (none 0 s (omega arith)))
    ∙ zero-add (count_by (λ (slip : Slip). slip.place == place) ss)
    ∙ count_none place ss (λ k d lt. none (suc k) d (omega (arith, lt)))

-- the only place where it may be
pub count_split : (place : ℕ) (slips : Slips) (i : ℕ) →
    ((k : ℕ) (d : Slip) → k < i → k < length slips → (get_or slips k d).place < place) →
    ((k : ℕ) (d : Slip) → i < k → k < length slips → (get_or slips k d).place ≡ place → ⊥) →
    count_by (λ (slip : Slip). slip.place == place) slips ≡ option_map_or (λ (slip : Slip). if slip.place == place then 1 else 0) (slice_get slips i) 0
count_split place [] i before after = refl
count_split place (s ∷ ss) zero before after =
    sum_by-cons (λ (slip : Slip). cond (eqb slip.place place) 1 0) s ss
    ∙ ap (λ n. cond (eqb s.place place) 1 0 + n) (count_none place ss (λ k d lt. after (suc k) d (omega arith) (omega (arith, lt))))
    ∙ plus_none (cond (eqb s.place place) 1 0)
  where
    plus_none : (n : ℕ) → n + 0 ≡ n
    plus_none n = omega arith
count_split place (s ∷ ss) (suc i) before after =
    sum_by-cons (λ (slip : Slip). cond (eqb slip.place place) 1 0) s ss
    ∙ ap (λ b. cond b 1 0 + count_by (λ (slip : Slip). slip.place == place) ss) (ne_eqb s.place place (λ e. omega (arith, before 0 s (omega arith) (omega arith), e)))
    ∙ zero-add (count_by (λ (slip : Slip). slip.place == place) ss)
    ∙ count_split place ss i (λ k d lt within. before (suc k) d (omega (arith, lt)) (omega (arith, within))) (λ k d lt within. after (suc k) d (omega (arith, lt)) (omega (arith, within)))

-- the place at which the receipts for smaller places end
pub count_at_point : (place : ℕ) (slips : Slips) (i : ℕ) → RisesUpTo place slips →
    IsPartitionPoint (λ (slip : Slip). nat_lt slip.place place ≡ true) (λ (slip : Slip). nat_lt slip.place place ≡ false) slips i →
    count_by (λ (slip : Slip). slip.place == place) slips ≡ option_map_or (λ (slip : Slip). if slip.place == place then 1 else 0) (slice_get slips i) 0
count_at_point place slips i rising point =
    count_split place slips i (λ k d lt within. ltb-true (get_or slips k d).place place (point.0 k d (omega arith) lt)) after
  where
    after : (k : ℕ) (d : Slip) → i < k → k < length slips → (get_or slips k d).place ≡ place → ⊥
    after k d order lt e =
        omega (arith, rising i k d order lt (omega (arith, e)), e, ltb-false (get_or slips i d).place place (point.1 i d (omega arith) (omega arith)))

-- the receipt at that place
pub count_found : (place : ℕ) (slips : Slips) (i : ℕ) (slip : Slip) → RisesUpTo place slips →
    IsPartitionPoint (λ (slip : Slip). nat_lt slip.place place ≡ true) (λ (slip : Slip). nat_lt slip.place place ≡ false) slips i →
    i < length slips → slip ≡ get_or slips i slip → count_by (λ (slip : Slip). slip.place == place) slips ≡ cond (eqb slip.place place) 1 0
count_found place slips i slip rising point within here =
    count_at_point place slips i rising point
    ∙ ap (λ found. option_map_or (λ (slip : Slip). if slip.place == place then 1 else 0) found 0) (slice_get_read slips (length slips) i slip refl within here)

pub count_past : (place : ℕ) (slips : Slips) (i : ℕ) → RisesUpTo place slips →
    IsPartitionPoint (λ (slip : Slip). nat_lt slip.place place ≡ true) (λ (slip : Slip). nat_lt slip.place place ≡ false) slips i →
    length slips ≤ i → count_by (λ (slip : Slip). slip.place == place) slips ≡ 0
count_past place slips i rising point past =
    count_at_point place slips i rising point
    ∙ ap (λ found. option_map_or (λ (slip : Slip). if slip.place == place then 1 else 0) found 0) (slice_get_past slips i past)

-- such receipts are parted there
pub parted : (place : ℕ) (slips : Slips) → RisesUpTo place slips → IsPartitionedBy (λ (slip : Slip). nat_lt slip.place place) slips
parted place slips rising i j d le lt e = by_order (cases_lt i j)
  where
    below : (get_or slips j d).place < place
    below = ltb-true (get_or slips j d).place place e

    by_order : (i < j) ⊎ (j ≤ i) → nat_lt (get_or slips i d).place place ≡ true
    by_order (inl order) = lt-ltb (get_or slips i d).place place (omega (arith, rising i j d order lt (omega (arith, below)), below))
    by_order (inr same) = subst (λ k. nat_lt (get_or slips k d).place place ≡ true) (omega arith) e

-- ---- steps of the walks

pub passes_more : (history : List Entry) (first : Option ℕ) (passes : List Slips) (i : ℕ) (d : Slips) → i < length passes →
    smallest (smallest first (misplaced history None (get_or passes i d))) (flat_map (misplaced history None) (drop (i + 1) passes))
    ≡ smallest first (flat_map (misplaced history None) (drop i passes))
passes_more history first passes i d lt =
    sym (at_drop_more (λ rest. smallest first (flat_map (misplaced history None) rest)) passes i d lt
    ∙ smallest-append first (misplaced history None (get_or passes i d)) (flat_map (misplaced history None) (drop (i + 1) passes)))

-- ---- the walk over the places

-- below the end nothing is misplaced
pub before_end : (found : Option ℕ) (count place end : ℕ) (wrong : List ℕ) → smallest None wrong ≡ found → end ≡ option_map_or (λ p. min p count) found count → place < end →
    (place < count) × ((other : ℕ) → In other wrong → place < other)
before_end None count place end wrong e f lt = (omega (arith, f), λ other h. absurd (least_none wrong e other h))
before_end (Some p) count place end wrong e f lt = (omega (arith, f), λ other h. omega (arith, f, (least_is wrong p e).1 other h))

pub walked : (history : List Entry) (passes : List Slips) (found : Option ℕ) (end : ℕ) → smallest None (all_misplaced history passes) ≡ found →
    end ≡ option_map_or (λ p. min p (length history)) found (length history) → HaveOne history passes end →
    IfSome found (λ place. IsFirstStrange history passes place) × IfNone found (IsOneHistory history passes)
walked history passes None end e f below = (tt, none_strange history passes e (subst (λ n. HaveOne history passes n) f below))
walked history passes (Some place) end e f below = (first_misplaced history passes place end e (reaches (cases_lt place (length history))) below, tt)
  where
    reaches : (place < length history) ⊎ (length history ≤ place) → (place ≤ end) ⊎ (length history ≤ end)
    reaches (inl h) = inl (omega (arith, f))
    reaches (inr h) = inr (omega (arith, f))
