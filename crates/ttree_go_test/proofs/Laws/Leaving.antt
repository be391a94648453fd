-- What still runs when its package or the input ends: all that is pending is shown.
use Rattle.std.proofs.Common.{◌≡◌, ℕ, Bool, true, false, List, [], ◌∷◌, ◌++◌, Option, Some, None, refl, sym, ap, subst, ◌∙◌}
use Rattle.std.proofs.lemmas.Grind.{flat_map-append}
use Rattle.std.proofs.lemmas.List.{append-nil}
use Rattle.std.proofs.lemmas.Map.Text.{is_eq-slice_cmp}
use Rattle.std.specs.Prelude.{◌&&◌, bytes_eq, cond, if◌then◌else◌, unwrap_or}
use Rattle.std.specs.Ordering.{is_eq}
use Rattle.tracing_tree_base.specs.declared.context.Id.{Id}
use Rattle.ttree_go_test.specs.declared.go_test.running.Running.{Running}
use Rattle.ttree_go_test.specs.declared.go_test.tally.Ending.{Ending}
use Rattle.ttree_go_test.specs.declared.go_test.tally.Ending.TheVariants.{Unfinished}
use Rattle.ttree_go_test.specs.Names.{named, without}
use Rattle.ttree_go_test.specs.GoTest.{GoState, Tests, all_left_over, holds, left_as, left_one, left_over, package_counted, package_ended, package_left, package_over, packages_left, running_as, test_placed, tests_of, without_package}
use Rattle.ttree_go_test.specs.Printed.{Shown, lines_in, shown_message, shown_messages, test_text}
use Rattle.ttree_go_test.proofs.Laws.Printing.{Finishes, Sends, finished_shows, lines_of_its, none_sent, sent, then_sends, no_other_lines, no_others_then, others_in}
use Rattle.ttree_go_test.proofs.Laws.Stored.{AllAfter, IsSorted, bytes_same, cmp, found_without, none_after, none_without}
use Rattle.ttree_go_test.proofs.Laws.Accounts.{Accounts, if_nil, lines_then, part_by, part_of, pending, placed_by, same_accounts, text_ended, then_accounts}
use Rattle.ttree_go_test.proofs.Laws.Actions.{left_finishes, package_counted_sends, over_finishes}
use Rattle.ttree_go_test.proofs.Laws.WellKept.{AllWell, ArePlaced, AreWell, IfPlaced, IsPlaced, IsWell, found, placed_found, well_found, well_without, without_well}

-- The pending text of these tests of a package is shown.
pub record Leaves (path : List ℕ) (tests : Tests) (s t : GoState) : Type 0 where
  pub items : List Shown
  pub text : (q m : List ℕ) → test_text q m (lines_in items) ≡ (if bytes_eq q path then part_of (named m tests) else [])
  pub sends : Sends s t (shown_messages items)
  pub no_other : others_in items ≡ []

shown_then : (a b : List Shown) → shown_messages a ++ shown_messages b ≡ shown_messages (a ++ b)
shown_then a b = sym (flat_map-append shown_message a b)

with_more : (s t : GoState) (a b : List (List ℕ)) → a ≡ b → Sends s t a → Sends s t b
with_more s t a b e h = record { packages = h.packages; builds = h.builds; sent_too = h.sent_too ∙ ap (λ more. sent s ++ more) e }

both_send : (s t u : GoState) (a b : List Shown) → Sends s t (shown_messages a) → Sends t u (shown_messages b) → Sends s u (shown_messages (a ++ b))
both_send s t u a b h k = with_more s u (shown_messages a ++ shown_messages b) (shown_messages (a ++ b)) (shown_then a b) (then_sends s t u (shown_messages a) (shown_messages b) h k)

-- what an end shows
abbrev ended_items : (one : Running) (s t : GoState) → Finishes (holds one s) t → List Shown
ended_items one s t f = lines_of_its one f.lines ++ f.ends

-- the text of its end is that of this test
end_text : (q m path name : List ℕ) (one : Running) (s t : GoState) → IsPlaced path name one → (f : Finishes (holds one s) t) →
    test_text q m (lines_in (ended_items one s t f)) ≡ (if bytes_eq q path && bytes_eq m name then one.part else [])
end_text q m path name one s t is f =
    text_ended q m one f.lines f.ends f.no_line
    ∙ ap (λ text. if bytes_eq q one.path && bytes_eq m one.test then text else []) f.cut
    ∙ ap (λ p. if bytes_eq q p && bytes_eq m one.test then one.part else []) is.0
    ∙ ap (λ n. if bytes_eq q path && bytes_eq m n then one.part else []) is.1

-- the first of some tests, and the others
first_and : (q m path name : List ℕ) (one : Running) (later : Tests) → AllAfter name later →
    (if bytes_eq q path then part_of (named m later) else []) ++ (if bytes_eq q path && bytes_eq m name then one.part else [])
    ≡ (if bytes_eq q path then part_of (named m ((name, one) ∷ later)) else [])
first_and q m path name one later after = by (bytes_eq q path) where
  here : (b : Bool) → bytes_eq m name ≡ b → part_of (named m later) ++ (if b then one.part else []) ≡ part_of (cond b (Some one) (named m later))
  here true is =
      ap (λ n. part_of (named n later) ++ one.part) (bytes_same m name is)
      ∙ ap (λ o. part_of o ++ one.part) (none_after name later after)
  here false is = append-nil (part_of (named m later))

  by : (b : Bool) → (if b then part_of (named m later) else []) ++ (if b && bytes_eq m name then one.part else [])
      ≡ (if b then part_of (named m ((name, one) ∷ later)) else [])
  by true = here (bytes_eq m name) refl ∙ ap (λ b. part_of (cond b (Some one) (named m later))) (sym (is_eq-slice_cmp m name))
  by false = refl

none_left : (path : List ℕ) (s : GoState) → Leaves path [] s s
none_left path s = record { items = []; no_other = refl; text = λ q m. if_nil (bytes_eq q path); sends = none_sent s }

left_leaves : (path : List ℕ) (ending : Ending) (root : Option Id) (earlier tests : Tests) (s : GoState) → ArePlaced path tests → IsSorted tests →
    Leaves path tests s (left_over ending root earlier tests s)
left_leaves path ending root earlier [] s p h = none_left path s
left_leaves path ending root earlier (test ∷ later) s p h =
    let rest : GoState = left_over ending root (earlier ++ test ∷ []) later s in
    let others = left_leaves path ending root (earlier ++ test ∷ []) later s p.1 h.1 in
    let one : Running = test_placed root earlier test.1 in
    let at : GoState = left_one ending one rest in
    let ends = left_finishes ending one rest p.0.2 in
    record {
      items = others.items ++ ended_items one rest at ends;
      no_other = no_others_then others.items (ended_items one rest at ends) others.no_other (no_others_then (lines_of_its one ends.lines) ends.ends (no_other_lines one ends.lines) ends.no_other);
      text = λ q m. lines_then q m others.items (ended_items one rest at ends)
          ∙ ap (λ text. text ++ test_text q m (lines_in (ended_items one rest at ends))) (others.text q m)
          ∙ ap (λ text. (if bytes_eq q path then part_of (named m later) else []) ++ text) (end_text q m path test.0 one rest at (p.0.0, p.0.1, p.0.2, p.0.3) ends)
          ∙ first_and q m path test.0 test.1 later h.0;
      sends = both_send s rest at others.items (ended_items one rest at ends) others.sends ends.sends;
    }

-- the package itself, and its tests
own_and : (q m path : List ℕ) (part : List ℕ) (tests : Tests) → IsSorted tests → part ≡ part_of (named [] tests) →
    (if bytes_eq q path then part_of (named m (without [] tests)) else []) ++ (if bytes_eq q path && bytes_eq m [] then part else [])
    ≡ (if bytes_eq q path then part_of (named m tests) else [])
own_and q m path part tests sorted is_own = by (bytes_eq q path) where
  here : (b : Bool) → bytes_eq m [] ≡ b → part_of (named m (without [] tests)) ++ (if b then part else []) ≡ part_of (named m tests)
  here true is =
      ap (λ n. part_of (named n (without [] tests)) ++ part) (bytes_same m [] is)
      ∙ ap (λ o. part_of o ++ part) (none_without [] tests sorted)
      ∙ is_own ∙ ap (λ n. part_of (named n tests)) (sym (bytes_same m [] is))
  here false is = append-nil (part_of (named m (without [] tests))) ∙ ap part_of (found_without m [] tests is)

  by : (b : Bool) → (if b then part_of (named m (without [] tests)) else []) ++ (if b && bytes_eq m [] then part else [])
      ≡ (if b then part_of (named m tests) else [])
  by true = here (bytes_eq m []) refl
  by false = refl

own_leaves : (path : List ℕ) (tests : Tests) (own : Running) (s at t : GoState) → IsSorted tests → IsPlaced path [] own → own.part ≡ part_of (named [] tests) →
    Leaves path (without [] tests) s at → Finishes (holds own at) t → Leaves path tests s t
own_leaves path tests own s at t sorted is part_is others ends = record {
  items = others.items ++ ended_items own at t ends;
  no_other = no_others_then others.items (ended_items own at t ends) others.no_other (no_others_then (lines_of_its own ends.lines) ends.ends (no_other_lines own ends.lines) ends.no_other);
  text = λ q m. lines_then q m others.items (ended_items own at t ends)
      ∙ ap (λ text. text ++ test_text q m (lines_in (ended_items own at t ends))) (others.text q m)
      ∙ ap (λ text. (if bytes_eq q path then part_of (named m (without [] tests)) else []) ++ text) (end_text q m path [] own at t is ends)
      ∙ own_and q m path own.part tests sorted part_is;
  sends = both_send s at t others.items (ended_items own at t ends) others.sends ends.sends;
}

-- ---- a package ends

gone_accounts : (path : List ℕ) (s t : GoState) → IsWell s.packages → Leaves path (tests_of path s) (without_package path s) t → Accounts [] s t
gone_accounts path s t w leaves = record {
  items = leaves.items;
  no_other = leaves.no_other;
  cut = λ q m. ap (λ text. text ++ pending q m t) (leaves.text q m)
      ∙ ap (λ packages. (if bytes_eq q path then part_of (named m (tests_of path s)) else []) ++ part_of (found q m packages)) leaves.sends.packages
      ∙ by q m (bytes_eq q path) refl;
  sends = leaves.sends.sent_too;
  builds = leaves.sends.builds;
  well = rw leaves.sends.packages (without_well path s.packages w);
} where
  by : (q m : List ℕ) (b : Bool) → bytes_eq q path ≡ b →
      (if b then part_of (named m (tests_of path s)) else []) ++ part_of (found q m (without path s.packages)) ≡ pending q m s ++ []
  by q m true is =
      ap (λ p. part_of (named m (tests_of path s)) ++ part_of (found p m (without path s.packages))) (bytes_same q path is)
      ∙ ap (λ o. part_of (named m (tests_of path s)) ++ part_of (named m (unwrap_or o []))) (none_without path s.packages w.sorted)
      ∙ ap (λ p. part_of (found p m s.packages) ++ []) (sym (bytes_same q path is))
  by q m false is =
      ap (λ o. part_of (named m (unwrap_or o []))) (found_without q path s.packages is) ∙ sym (append-nil (pending q m s))

pub package_accounts : (ending : Ending) (path : List ℕ) (elapsed : Option (List ℕ)) (s : GoState) → IsWell s.packages → Accounts [] s (package_ended ending path elapsed s)
unfolding package_ended
package_accounts ending path elapsed s w =
    let at : GoState = package_counted ending path s in
    let counted_too = same_accounts s at w (package_counted_sends ending path s) in
    let tests : Tests = tests_of path at in
    let own : Running = running_as path [] tests in
    let well = well_found path at.packages counted_too.well in
    let inner = well_without path [] tests well in
    let left : GoState = all_left_over (left_as ending) path at in
    let others = left_leaves path (left_as ending) own.span [] (without [] tests) (without_package path at) inner.placed inner.sorted in
    then_accounts [] [] s at (package_ended ending path elapsed s) counted_too
    (gone_accounts path at (package_ended ending path elapsed s) counted_too.well
    (own_leaves path tests own (without_package path at) left (package_ended ending path elapsed s) well.sorted
    (placed_by path [] (named [] tests) (placed_found path [] tests well.placed) (λ _. refl)) (part_by path (named [] tests)) others
    (finished_shows ending elapsed (holds own left))))

-- it runs no longer
pub package_without : (ending : Ending) (path : List ℕ) (elapsed : Option (List ℕ)) (s : GoState) → IsWell s.packages → (package_ended ending path elapsed s).packages ≡ without path s.packages
unfolding package_ended
package_without ending path elapsed s w =
    let at : GoState = package_counted ending path s in
    let same = package_counted_sends ending path s in
    let tests : Tests = tests_of path at in
    let own : Running = running_as path [] tests in
    let inner = well_without path [] tests (well_found path at.packages (rw same.packages w)) in
    let others = left_leaves path (left_as ending) own.span [] (without [] tests) (without_package path at) inner.placed inner.sorted in
    (finished_shows ending elapsed (holds own (all_left_over (left_as ending) path at))).sends.packages ∙ others.sends.packages ∙ ap (without path) same.packages

-- ---- the input ends

none_twice : (name : List ℕ) (tests : Tests) → named name tests ≡ None → named name (without name tests) ≡ None
none_twice name [] h = refl
none_twice name (e ∷ es) h = by (is_eq (cmp name e.0)) refl (none_twice name es) where
  by : (b : Bool) → is_eq (cmp name e.0) ≡ b → (named name es ≡ None → named name (without name es) ≡ None) → named name (cond b es (e ∷ without name es)) ≡ None
  by true is others = let k : Some e.1 ≡ None = ap (λ b. cond b (Some e.1) (named name es)) (sym is) ∙ h in cc
  by false is others =
      ap (λ b. cond b (Some e.1) (named name (without name es))) is
      ∙ others (ap (λ b. cond b (Some e.1) (named name es)) (sym is) ∙ h)

found_placed : (path : List ℕ) (tests : Tests) (own : Running) → AreWell path tests → named [] tests ≡ Some own → IsPlaced path [] own
found_placed path tests own well is =
    let P : Option Running → Type 0 = λ o. IfPlaced path [] o in
    subst P is (placed_found path [] tests well.placed)

only_others : (path : List ℕ) (tests : Tests) (s t : GoState) → named [] tests ≡ None → Leaves path (without [] tests) s t → Leaves path tests s t
only_others path tests s t none others = record {
  items = others.items;
  no_other = others.no_other;
  text = λ q m. others.text q m ∙ by q m (bytes_eq q path) (bytes_eq m []) refl;
  sends = others.sends;
} where
  same : (m : List ℕ) (b : Bool) → bytes_eq m [] ≡ b → part_of (named m (without [] tests)) ≡ part_of (named m tests)
  same m true is =
      ap (λ n. part_of (named n (without [] tests))) (bytes_same m [] is)
      ∙ ap part_of (none_twice [] tests none) ∙ sym (ap (λ n. part_of (named n tests)) (bytes_same m [] is) ∙ ap part_of none)
  same m false is = ap part_of (found_without m [] tests is)

  by : (q m : List ℕ) (b c : Bool) → bytes_eq m [] ≡ c → (if b then part_of (named m (without [] tests)) else []) ≡ (if b then part_of (named m tests) else [])
  by q m true c is = same m c is
  by q m false c is = refl

pub package_leaves : (path : List ℕ) (tests : Tests) (s : GoState) (own : Option Running) → AreWell path tests → named [] tests ≡ own → Leaves path tests s (package_left tests s)
package_leaves path tests s None well is =
    let inner = well_without path [] tests well in
    rw is (only_others path tests s (left_over Unfinished None [] (without [] tests) s) is
    (left_leaves path Unfinished None [] (without [] tests) s inner.placed inner.sorted))
package_leaves path tests s (Some own) well is =
    let inner = well_without path [] tests well in
    let at : GoState = left_over Unfinished own.span [] (without [] tests) s in
    let is_placed : IsPlaced path [] own = found_placed path tests own well is in
    rw is (own_leaves path tests own s at (package_over own at) well.sorted is_placed (sym (ap part_of is))
    (left_leaves path Unfinished own.span [] (without [] tests) s inner.placed inner.sorted) (over_finishes own at is_placed.2))

-- The pending text of all these packages is shown.
pub record LeavesAll (packages : List (List ℕ × Tests)) (s t : GoState) : Type 0 where
  pub items : List Shown
  pub text : (q m : List ℕ) → test_text q m (lines_in items) ≡ part_of (found q m packages)
  pub sends : Sends s t (shown_messages items)
  pub no_other : others_in items ≡ []

one_and : (q m : List ℕ) (path : List ℕ) (tests : Tests) (others : List (List ℕ × Tests)) → AllAfter path others →
    (if bytes_eq q path then part_of (named m tests) else []) ++ part_of (found q m others) ≡ part_of (found q m ((path, tests) ∷ others))
one_and q m path tests others after =
    by (bytes_eq q path) refl ∙ ap (λ b. part_of (named m (unwrap_or (cond b (Some tests) (named q others)) []))) (sym (is_eq-slice_cmp q path)) where
      by : (b : Bool) → bytes_eq q path ≡ b → (if b then part_of (named m tests) else []) ++ part_of (found q m others)
          ≡ part_of (named m (unwrap_or (cond (bytes_eq q path) (Some tests) (named q others)) []))
      by true is =
          ap (λ p. part_of (named m tests) ++ part_of (found p m others)) (bytes_same q path is)
          ∙ ap (λ o. part_of (named m tests) ++ part_of (named m (unwrap_or o []))) (none_after path others after)
          ∙ append-nil (part_of (named m tests))
          ∙ ap (λ b. part_of (named m (unwrap_or (cond b (Some tests) (named q others)) []))) (sym is)
      by false is = ap (λ b. part_of (named m (unwrap_or (cond b (Some tests) (named q others)) []))) (sym is)

pub packages_leave : (packages : List (List ℕ × Tests)) (s : GoState) → AllWell packages → IsSorted packages → LeavesAll packages s (packages_left packages s)
packages_leave [] s h sorted = record { items = []; no_other = refl; text = λ q m. refl; sends = none_sent s }
packages_leave ((path, tests) ∷ others) s h sorted =
    let at : GoState = package_left tests s in
    let t : GoState = packages_left others at in
    let first = package_leaves path tests s (named [] tests) h.0 refl in
    let rest = packages_leave others at h.1 sorted.1 in
    record {
      items = first.items ++ rest.items;
      no_other = no_others_then first.items rest.items first.no_other rest.no_other;
      text = λ q m. lines_then q m first.items rest.items
          ∙ ap (λ text. text ++ test_text q m (lines_in rest.items)) (first.text q m)
          ∙ ap (λ text. (if bytes_eq q path then part_of (named m tests) else []) ++ text) (rest.text q m)
          ∙ one_and q m path tests others sorted.0;
      sends = both_send s at t first.items rest.items first.sends rest.sends;
    }
