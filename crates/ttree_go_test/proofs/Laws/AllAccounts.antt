-- All that is printed is accounted for: by tests, by builds, and in lines that aren't JSON.
use Rattle.std.proofs.Common.{◌≡◌, ℕ, Bool, true, false, List, [], ◌∷◌, ◌++◌, Option, Some, None, refl, sym, ap, subst, ◌∙◌, append_assoc, ◌≤◌, suc, zero, arith}
use Rattle.std.proofs.lemmas.Bool.Decides.{nat_tests}
use Rattle.std.proofs.lemmas.Grind.{flat_map-append}
use Rattle.std.proofs.lemmas.List.{append-nil, length-take-le}
use Rattle.std.specs.Prelude.{◌&&◌, ◌||◌, not, bytes_eq, codes, drop, if◌then◌else◌, length, map, unwrap_or, is_some, take}
use Rattle.std.specs.Option.{option_map_or}
use Rattle.tracing_tree_base.specs.declared.style.Level.{Level}
use Rattle.tracing_tree_base.specs.declared.style.Level.TheVariants.{Error, Warn}
use Rattle.ttree_go_test.specs.declared.go_test.builds.Build.{Build}
use Rattle.ttree_go_test.specs.declared.go_test.tally.Ending.TheVariants.{Failed}
use Rattle.tracing_tree_lines.specs.Lines.Spelled.{is_skipped}
use Rattle.ttree_source.specs.Marks.{after_mark, begins, is_empty}
use Rattle.ttree_source.specs.Calls.{shown_text}
use Rattle.tracing_tree_layer.specs.declared.call.Call.{Call}
use Rattle.ttree_go_test.specs.Names.{named, without}
use Rattle.ttree_go_test.specs.Texts.{is_package_frame, up_to_space, without_line_end, ends_word}
use Rattle.ttree_go_test.specs.GoTest.{GoState, Held, new_running, build_last, build_of, build_printed, build_said, build_emitted, builds_said, built_after, text_event_emitted, held_test, holds, is_aside, test_kept, level_of_build, level_of_text, more_built, held_opened, package_ended, said, takes_failure, takes_heading, takes_plain, takes_text, texts_emitted, emitted_of_build, without_build, without_heading, Tests, owner_within, tests_of}
use Rattle.ttree_go_test.specs.Printed.{BuildPrint, Printed, Shown, Shown.Line, Shown.End, Shown.NamedEnd, Shown.Built, Shown.Plain, built_by, built_of, is_plain, lines_in, plain_in, plains_in, print_by, shown_message, shown_messages, strings_of, text_by, test_text, unless_blank, messages}
use Rattle.ttree_go_test.proofs.Laws.Printing.{Sends, event_shows, none_sent, others_in, said_shows, sent, then_sends}
use Rattle.ttree_go_test.proofs.Laws.Stored.{IsSorted, bytes_same, found_again, found_without, none_without, sorted_put, sorted_without}
use Rattle.ttree_go_test.proofs.Laws.WellKept.{IsWell, emptied, filled, found, found_back}
use Rattle.ttree_go_test.proofs.Laws.Accounts.{Accounts, Holds, held_holds, holder, lines_then, part_if, part_of, pending, same_pending}
use Rattle.ttree_go_test.proofs.Laws.Actions.{closed_sends}
use Rattle.ttree_go_test.proofs.Laws.Leaving.{package_accounts}
use Rattle.ttree_go_test.proofs.Laws.Reachable.{Same, builds_said_same, kept_well, said_same}

abbrev pub texts_waiting : Option Build → List (List ℕ)
texts_waiting o = option_map_or (λ (build : Build). build.texts) o []

-- what the build of a package has printed that isn't reported yet
abbrev pub waiting : List ℕ → GoState → List (List ℕ)
waiting path s = texts_waiting (named path s.builds)

pub record All (texts : List Printed) (builds : List BuildPrint) (plains : List (List ℕ)) (s t : GoState) : Type 0 where
  pub items : List Shown
  pub cut : (q m : List ℕ) → test_text q m (lines_in items) ++ pending q m t ≡ pending q m s ++ test_text q m texts
  pub sends : sent t ≡ sent s ++ shown_messages items
  pub built : (q : List ℕ) → built_of q items ++ waiting q t ≡ waiting q s ++ strings_of q builds
  pub plain : plains_in items ≡ plains
  pub well : IsWell t.packages
  pub ordered : IsSorted t.builds

built_none : (q : List ℕ) (items : List Shown) → others_in items ≡ [] → built_of q items ≡ []
built_none q [] h = refl
built_none q (Line one ∷ items) h = built_none q items h
built_none q (End ending ∷ items) h = built_none q items h
built_none q (NamedEnd ending name ∷ items) h = built_none q items h
built_none q (Built path string ∷ items) h = cc
built_none q (Plain line ∷ items) h = cc

plain_none : (items : List Shown) → others_in items ≡ [] → plains_in items ≡ []
plain_none [] h = refl
plain_none (Line one ∷ items) h = plain_none items h
plain_none (End ending ∷ items) h = plain_none items h
plain_none (NamedEnd ending name ∷ items) h = plain_none items h
plain_none (Built path string ∷ items) h = cc
plain_none (Plain line ∷ items) h = cc

pub built_nothing : (q : List ℕ) (items : List Shown) → others_in items ≡ [] → built_of q items ≡ []
built_nothing = built_none

pub plain_nothing : (items : List Shown) → others_in items ≡ [] → plains_in items ≡ []
plain_nothing = plain_none

pub of_tests : (texts : List Printed) (s t : GoState) → IsSorted s.builds → Accounts texts s t → All texts [] [] s t
of_tests texts s t ordered h = record {
  items = h.items;
  cut = h.cut;
  sends = h.sends;
  built = λ q. ap (λ front. front ++ waiting q t) (built_none q h.items h.no_other) ∙ ap (λ builds. texts_waiting (named q builds)) h.builds ∙ sym (append-nil (waiting q s));
  plain = plain_none h.items h.no_other;
  well = h.well;
  ordered = rw h.builds ordered;
}

module _ {X : Type 0} where
  pub cut_then : (a b p r u x y : List X) → a ++ r ≡ p ++ x → b ++ u ≡ r ++ y → (a ++ b) ++ u ≡ p ++ (x ++ y)
  cut_then a b p r u x y one two = append_assoc a b u ∙ ap (λ rest. a ++ rest) two ∙ sym (append_assoc a r y) ∙ ap (λ front. front ++ y) one ∙ append_assoc p x y

pub then_all : (a b : List Printed) (c d : List BuildPrint) (e f : List (List ℕ)) (s t u : GoState) → All a c e s t → All b d f t u → All (a ++ b) (c ++ d) (e ++ f) s u
then_all a b c d e f s t u h k = record {
  items = h.items ++ k.items;
  cut = λ q m. ap (λ text. text ++ pending q m u) (lines_then q m h.items k.items)
      ∙ cut_then (test_text q m (lines_in h.items)) (test_text q m (lines_in k.items)) (pending q m s) (pending q m t) (pending q m u) (test_text q m a) (test_text q m b) (h.cut q m) (k.cut q m)
      ∙ ap (λ text. pending q m s ++ text) (sym (flat_map-append (text_by q m) a b));
  sends = k.sends ∙ ap (λ all. all ++ shown_messages k.items) h.sends ∙ append_assoc (sent s) (shown_messages h.items) (shown_messages k.items)
      ∙ ap (λ more. sent s ++ more) (sym (flat_map-append shown_message h.items k.items));
  built = λ q. ap (λ front. front ++ waiting q u) (flat_map-append (built_by q) h.items k.items)
      ∙ cut_then (built_of q h.items) (built_of q k.items) (waiting q s) (waiting q t) (waiting q u) (strings_of q c) (strings_of q d) (h.built q) (k.built q)
      ∙ ap (λ rest. waiting q s ++ rest) (sym (flat_map-append (print_by q) c d));
  plain = flat_map-append plain_in h.items k.items ∙ ap (λ front. front ++ plains_in k.items) h.plain ∙ ap (λ rest. e ++ rest) k.plain;
  well = k.well;
  ordered = k.ordered;
}

-- nothing of it changes
pub same_all : (s t : GoState) → t.packages ≡ s.packages → t.calls ≡ s.calls → t.builds ≡ s.builds → IsWell s.packages → IsSorted s.builds → All [] [] [] s t
same_all s t packages calls builds w ordered = record {
  items = [];
  cut = λ q m. ap (λ x. part_of (found q m x)) packages ∙ sym (append-nil (pending q m s));
  sends = ap sent_of calls ∙ sym (append-nil (sent s));
  built = λ q. ap (λ x. texts_waiting (named q x)) builds ∙ sym (append-nil (waiting q s));
  plain = refl;
  well = rw packages w;
  ordered = rw builds ordered;
} where
  sent_of : List Call → List (List ℕ)
  sent_of calls = messages calls

-- ---- a build prints

texts_if : (b : Bool) (build : Build) (o : Option Build) → texts_waiting (if b then Some build else o) ≡ (if b then build.texts else texts_waiting o)
texts_if true build o = refl
texts_if false build o = refl

texts_of_it : (path : List ℕ) (o : Option Build) → (unwrap_or o (record { path = path; texts = [] })).texts ≡ texts_waiting o
texts_of_it path None = refl
texts_of_it path (Some build) = refl

pub build_printed_all : (path text : List ℕ) (s : GoState) → IsWell s.packages → IsSorted s.builds → All [] (record { path = path; string = text } ∷ []) [] s (build_printed path text s)
build_printed_all path text s w ordered = record {
  items = [];
  cut = λ q m. sym (append-nil (pending q m s));
  sends = sym (append-nil (sent s));
  built = λ q. ap texts_waiting (found_again q path (more_built text (build_of path s)) s.builds)
      ∙ texts_if (bytes_eq q path) (more_built text (build_of path s)) (named q s.builds) ∙ by q (bytes_eq q path) refl;
  plain = refl;
  well = w;
  ordered = sorted_put path (more_built text (build_of path s)) (without path s.builds) (sorted_without path s.builds ordered);
} where
  by : (q : List ℕ) (b : Bool) → bytes_eq q path ≡ b →
      (if b then (build_of path s).texts ++ text ∷ [] else waiting q s) ≡ waiting q s ++ ((if b then text ∷ [] else []) ++ [])
  by q true is =
      ap (λ texts. texts ++ text ∷ []) (texts_of_it path (named path s.builds))
      ∙ ap (λ p. waiting p s ++ text ∷ []) (sym (bytes_same q path is))
  by q false is = sym (append-nil (waiting q s))

-- ---- what a build printed is reported

-- an event doesn't change what is pending
kept_pending : (path name : List ℕ) (s : GoState) (h k : Held) → Holds path name s h → Same h k → (q m : List ℕ) → pending q m (test_kept k) ≡ pending q m s
unfolding test_kept
kept_pending path name s h k is like q m =
    let p : k.one.path ≡ path = like.path ∙ is.path_is in
    let n : k.one.test ≡ name = like.test ∙ is.test_is in
    let all : (test_kept k).packages ≡ filled path name k.one (emptied path name s.packages) =
    ap (λ x. filled x k.one.test k.one k.state.packages) p ∙ ap (λ x. filled path x k.one k.state.packages) n ∙ ap (filled path name k.one) (like.packages ∙ is.packages) in
    ap (λ packages. part_of (found q m packages)) all ∙ ap part_of (found_back q m path name k.one s.packages)
    ∙ part_if (bytes_eq q path && bytes_eq m name) k.one (found q m s.packages) ∙ by (bytes_eq q path && bytes_eq m name) refl where
      by : (b : Bool) → (bytes_eq q path && bytes_eq m name) ≡ b → (if b then k.one.part else pending q m s) ≡ pending q m s
      by true here = like.part ∙ is.part_is ∙ sym (same_pending q m path name s here)
      by false here = refl

build_said_shows : (path : List ℕ) (level : Level) (text : List ℕ) (h : Held) → Sends h.state (build_said level text h).state (shown_messages (Built path text ∷ []))
build_said_shows path level text h = by (is_skipped line) (said_shows at line h) where
  line : List ℕ
  line = without_line_end (without_heading text)

  at : Level
  at = level_of_build level line

  by : (b : Bool) → Sends h.state (said at line (held_opened h)).state (if b then [] else shown_text line ∷ []) →
      Sends h.state (if b then h else said at line (held_opened h)).state ((if b then [] else shown_text line ∷ []) ++ [])
  by true sends = none_sent h.state
  by false sends = sends

builds_said_show : (path : List ℕ) (level : Level) (texts : List (List ℕ)) (h : Held) → Sends h.state (builds_said level texts h).state (shown_messages (map (Built path) texts))
builds_said_show path level [] h = none_sent h.state
builds_said_show path level (text ∷ later) h =
    let first : Held = build_said level text h in
    let rest : Held = builds_said level later first in
    let sends = then_sends h.state first.state rest.state (shown_messages (Built path text ∷ [])) (shown_messages (map (Built path) later)) (build_said_shows path level text h) (builds_said_show path level later first) in
    record {
      packages = sends.packages;
      builds = sends.builds;
      sent_too = sends.sent_too ∙ ap (λ front. sent h.state ++ (front ++ shown_messages (map (Built path) later))) (append-nil (shown_message (Built path text)));
    }

pub built_items : (q path : List ℕ) (texts : List (List ℕ)) → built_of q (map (Built path) texts) ≡ (if bytes_eq q path then texts else [])
built_items q path texts = by (bytes_eq q path) texts where
  all : Bool → List (List ℕ) → List (List ℕ)
  all b [] = []
  all b (text ∷ later) = (if b then text ∷ [] else []) ++ all b later

  same : (texts : List (List ℕ)) → built_of q (map (Built path) texts) ≡ all (bytes_eq q path) texts
  same [] = refl
  same (text ∷ later) = ap (λ rest. (if bytes_eq q path then text ∷ [] else []) ++ rest) (same later)

  are : (b : Bool) (texts : List (List ℕ)) → all b texts ≡ (if b then texts else [])
  are true [] = refl
  are false [] = refl
  are true (text ∷ later) = ap (λ rest. text ∷ rest) (are true later)
  are false (text ∷ later) = are false later

  by : (b : Bool) (texts : List (List ℕ)) → built_of q (map (Built path) texts) ≡ (if bytes_eq q path then texts else [])
  by b texts = same texts ∙ are (bytes_eq q path) texts

pub no_lines : (path : List ℕ) (texts : List (List ℕ)) → lines_in (map (Built path) texts) ≡ []
no_lines path [] = refl
no_lines path (text ∷ later) = no_lines path later

pub no_plains : (path : List ℕ) (texts : List (List ℕ)) → plains_in (map (Built path) texts) ≡ []
no_plains path [] = refl
no_plains path (text ∷ later) = no_plains path later

-- these events are of builds
pub texts_send : (path : List ℕ) (level : Level) (build : Build) (s : GoState) → sent (texts_emitted level build s) ≡ sent s ++ shown_messages (map (Built path) build.texts)
unfolding test_kept held_test
texts_send path level build s = (builds_said_show path level build.texts (held_test build.path [] s)).sent_too

-- and so are those at the end
pub last_sends : (path : List ℕ) (build : Build) (s : GoState) → sent (build_last build s) ≡ sent s ++ shown_messages (map (Built path) build.texts)
last_sends path build s =
    let h : Held = holds (new_running build.path []) s in
    let all : Held = builds_said Warn build.texts h in
    (closed_sends all.one.span all).sent_too ∙ append-nil (sent all.state) ∙ (builds_said_show path Warn build.texts h).sent_too

texts_builds : (path : List ℕ) (level : Level) (build : Build) (s : GoState) → (texts_emitted level build s).builds ≡ s.builds
unfolding test_kept held_test
texts_builds path level build s = (builds_said_show path level build.texts (held_test build.path [] s)).builds

emitted_some : (path : List ℕ) (level : Level) (build : Build) (s : GoState) → named path s.builds ≡ Some build → IsWell s.packages → IsSorted s.builds →
    All [] [] [] s (texts_emitted level build (without_build path s))
emitted_some path level build s is w ordered =
    let at : GoState = without_build path s in
    let name : List ℕ = holder build.path [] at in
    let h : Held = held_test build.path [] at in
    let k : Held = builds_said level build.texts h in
    let holds_it = held_holds build.path [] at w in
    let like = builds_said_same level build.texts h in
    record {
      items = map (Built path) build.texts;
      cut = λ q m. ap (λ lines. test_text q m lines ++ pending q m (test_kept k)) (no_lines path build.texts) ∙ kept_pending build.path name at h k holds_it like q m ∙ sym (append-nil (pending q m s));
      sends = texts_send path level build at;
      built = λ q. ap (λ front. front ++ waiting q (test_kept k)) (built_items q path build.texts)
          ∙ ap (λ builds. (if bytes_eq q path then build.texts else []) ++ texts_waiting (named q builds)) (texts_builds path level build at)
          ∙ by q (bytes_eq q path) refl;
      plain = no_plains path build.texts;
      well = kept_well build.path name at h k w holds_it like;
      ordered = rw (texts_builds path level build at) (sorted_without path s.builds ordered);
    } where
      by : (q : List ℕ) (b : Bool) → bytes_eq q path ≡ b → (if b then build.texts else []) ++ texts_waiting (named q (without path s.builds)) ≡ waiting q s ++ []
      by q true here =
          ap (λ p. build.texts ++ texts_waiting (named p (without path s.builds))) (bytes_same q path here)
          ∙ ap (λ o. build.texts ++ texts_waiting o) (none_without path s.builds ordered)
          ∙ ap (λ o. texts_waiting o ++ []) (sym is)
          ∙ ap (λ p. waiting p s ++ []) (sym (bytes_same q path here))
      by q false here = ap texts_waiting (found_without q path s.builds here) ∙ sym (append-nil (waiting q s))

emitted_none : (path : List ℕ) (s : GoState) → named path s.builds ≡ None → IsWell s.packages → IsSorted s.builds → All [] [] [] s (without_build path s)
emitted_none path s is w ordered = record {
  items = [];
  cut = λ q m. sym (append-nil (pending q m s));
  sends = sym (append-nil (sent s));
  built = λ q. by q (bytes_eq q path) refl;
  plain = refl;
  well = w;
  ordered = sorted_without path s.builds ordered;
} where
  by : (q : List ℕ) (b : Bool) → bytes_eq q path ≡ b → texts_waiting (named q (without path s.builds)) ≡ waiting q s ++ []
  by q true here =
      ap (λ p. texts_waiting (named p (without path s.builds))) (bytes_same q path here)
      ∙ ap texts_waiting (none_without path s.builds ordered)
      ∙ ap (λ o. texts_waiting o ++ []) (sym is)
      ∙ ap (λ p. waiting p s ++ []) (sym (bytes_same q path here))
  by q false here = ap texts_waiting (found_without q path s.builds here) ∙ sym (append-nil (waiting q s))

-- what a build printed is reported
pub build_emitted_all : (level : Level) (path : List ℕ) (s : GoState) → IsWell s.packages → IsSorted s.builds → All [] [] [] s (build_emitted level path s)
build_emitted_all level path s w ordered = by (named path s.builds) refl where
  by : (o : Option Build) → named path s.builds ≡ o → All [] [] [] s (emitted_of_build level o (without_build path s))
  by None is = emitted_none path s is w ordered
  by (Some build) is = emitted_some path level build s is w ordered

-- ---- lines that aren't JSON

-- this line is an event
abbrev plain_if : Bool → List ℕ → List (List ℕ)
plain_if b line = if b then line ∷ [] else []

event_all : (level : Level) (line : List ℕ) (s : GoState) → IsWell s.packages → IsSorted s.builds → All [] [] (line ∷ []) s (text_event_emitted level line [] s.last s)
event_all level line s w ordered =
    let sends = event_shows level line [] s.last s in
    record {
      items = Plain line ∷ [];
      cut = λ q m. ap (λ x. part_of (found q m x)) sends.packages ∙ sym (append-nil (pending q m s));
      sends = sends.sent_too ∙ ap (λ more. sent s ++ more) (sym (append-nil (unless_blank line)));
      built = λ q. ap (λ x. texts_waiting (named q x)) sends.builds ∙ sym (append-nil (waiting q s));
      plain = refl;
      well = rw sends.packages w;
      ordered = rw sends.builds ordered;
    }

said_all : (level : Level) (path line : List ℕ) (s : GoState) → IsWell s.packages → IsSorted s.builds → All [] [] (line ∷ []) s (test_kept (said level line (held_opened (held_test path [] s))))
unfolding test_kept held_test
said_all level path line s w ordered =
    let name : List ℕ = holder path [] s in
    let h : Held = held_test path [] s in
    let k : Held = said level line (held_opened h) in
    let holds_it = held_holds path [] s w in
    let like = said_same level line h in
    let sends = said_shows level line h in
    record {
      items = Plain line ∷ [];
      cut = λ q m. kept_pending path name s h k holds_it like q m ∙ sym (append-nil (pending q m s));
      sends = sends.sent_too ∙ ap (λ more. sent s ++ more) (sym (append-nil (unless_blank line)));
      built = λ q. ap (λ x. texts_waiting (named q x)) sends.builds ∙ sym (append-nil (waiting q s));
      plain = refl;
      well = kept_well path name s h k w holds_it like;
      ordered = rw sends.builds ordered;
    }

plain_all : (line : List ℕ) (s : GoState) → IsWell s.packages → IsSorted s.builds → All [] [] (plain_if (not (is_package_frame line)) line) s (takes_plain line s)
plain_all line s w ordered = by (is_package_frame line) (is_aside line s) where
  by : (a b : Bool) → All [] [] (plain_if (not a) line) s
      (if a then s else if b then text_event_emitted (level_of_text line) line [] s.last s else test_kept (said Error line (held_opened (held_test s.building [] s))))
  by true b = same_all s s refl refl refl w ordered
  by false true = event_all (level_of_text line) line s w ordered
  by false false = said_all Error s.building line s w ordered

frame_mark : (a b c : Bool) → b ≡ true → ((a || b) || c) ≡ true
frame_mark true b c h = refl
frame_mark false true c h = refl
frame_mark false false c h = cc

failure_all : (line : List ℕ) (s : GoState) → IsWell s.packages → IsSorted s.builds →
    All [] [] (plain_if (not (is_package_frame line)) line) s (takes_failure (after_mark (codes "FAIL\t") line) line s)
failure_all line s w ordered = by (begins (codes "FAIL\t") line) refl where
  ends : All [] [] [] s (package_ended Failed (up_to_space (drop (length (codes "FAIL\t")) line)) None (record s { building = [] }))
  ends =
      let at : GoState = record s { building = [] } in
      let t : GoState = package_ended Failed (up_to_space (drop (length (codes "FAIL\t")) line)) None at in
      let all = of_tests [] at t ordered (package_accounts Failed (up_to_space (drop (length (codes "FAIL\t")) line)) None at w) in
      record { items = all.items; cut = all.cut; sends = all.sends; built = all.built; plain = all.plain; well = all.well; ordered = all.ordered }

  framed_too : begins (codes "FAIL\t") line ≡ true → is_package_frame line ≡ true
  framed_too is =
      frame_mark ((bytes_eq line (codes "PASS") || bytes_eq line (codes "FAIL")) || begins (codes "ok  \t") line) (begins (codes "FAIL\t") line) (begins (codes "?   \t") line) is

  by : (b : Bool) → begins (codes "FAIL\t") line ≡ b → All [] [] (plain_if (not (is_package_frame line)) line) s
      (takes_failure (if b then Some (drop (length (codes "FAIL\t")) line) else None) line s)
  by true is = let P : Bool → Type 0 = λ b. All [] [] (plain_if (not b) line) s (package_ended Failed (up_to_space (drop (length (codes "FAIL\t")) line)) None (record s { building = [] })) in
      subst P (sym (framed_too is)) ends
  by false is = plain_all line s w ordered

-- a line that isn't JSON
pub text_all : (line : List ℕ) (s : GoState) → IsWell s.packages → IsSorted s.builds → All [] [] (plain_if (is_plain line) line) s (takes_text line s)
text_all line s w ordered = by (is_skipped line) (begins (codes "# ") line) where
  by : (a b : Bool) → All [] [] (plain_if (not a && not b && not (is_package_frame line)) line) s
      (if a then s else takes_heading (if b then Some (drop (length (codes "# ")) line) else None) line s)
  by true b = same_all s s refl refl refl w ordered
  by false true = same_all s (record s { building = built_after (drop (length (codes "# ")) line) s.building }) refl refl refl w ordered
  by false false = failure_all line s w ordered

-- ---- a build's output changes no test

owner_same : (a b : Tests) (test : List ℕ) (n : ℕ) → n ≤ length test → ((m : List ℕ) → is_empty m ≡ false → named m a ≡ named m b) → owner_within a test n ≡ owner_within b test n
owner_same a b test zero low same = refl
owner_same a b test (suc n) low same =
    let name : List ℕ = take (suc n) test in
    let long : length name ≡ suc n = length-take-le (suc n) test low in
    ap (λ o. if ends_word 47 (drop (suc n) test) && is_some o then name else owner_within a test n) (same name (full name long))
    ∙ ap (λ rest. if ends_word 47 (drop (suc n) test) && is_some (named name b) then name else rest) (owner_same a b test n (omega (arith, low)) same) where
      full : (name : List ℕ) → length name ≡ suc n → is_empty name ≡ false
      full [] e = absurd (omega arith)
      full (c ∷ name) e = grind (arith, nat_tests)

kept_found : (path name : List ℕ) (s : GoState) (h k : Held) → Holds path name s h → Same h k → name ≡ [] → (q m : List ℕ) → is_empty m ≡ false → found q m (test_kept k).packages ≡ found q m s.packages
unfolding test_kept
kept_found path name s h k is like none q m full =
    let p : k.one.path ≡ path = like.path ∙ is.path_is in
    let n : k.one.test ≡ name = like.test ∙ is.test_is in
    let all : (test_kept k).packages ≡ filled path name k.one (emptied path name s.packages) =
    ap (λ x. filled x k.one.test k.one k.state.packages) p ∙ ap (λ x. filled path x k.one k.state.packages) n ∙ ap (filled path name k.one) (like.packages ∙ is.packages) in
    ap (found q m) all ∙ found_back q m path name k.one s.packages
    ∙ ap (λ x. if bytes_eq q path && bytes_eq m x then Some k.one else found q m s.packages) none
    ∙ ap (λ b. if bytes_eq q path && b then Some k.one else found q m s.packages) (differs m full)
    ∙ by (bytes_eq q path) where
      differs : (m : List ℕ) → is_empty m ≡ false → bytes_eq m [] ≡ false
      differs [] h = let e : true ≡ false = h in cc
      differs (b ∷ m) h = refl

      by : (b : Bool) → (if b && false then Some k.one else found q m s.packages) ≡ found q m s.packages
      by true = refl
      by false = refl

-- a string is taken by the same test
pub same_holder : (level : Level) (path test : List ℕ) (s : GoState) → IsWell s.packages → holder path test (build_emitted level path s) ≡ holder path test s
same_holder level path test s w = by (named path s.builds) where
  by : (o : Option Build) → holder path test (emitted_of_build level o (without_build path s)) ≡ holder path test s
  by None = refl
  by (Some build) =
      let at : GoState = without_build path s in
      let h : Held = held_test build.path [] at in
      owner_same (tests_of path (texts_emitted level build at)) (tests_of path s) test (length test) (omega arith)
      (λ m full. kept_found build.path (holder build.path [] at) at h (builds_said level build.texts h) (held_holds build.path [] at w) (builds_said_same level build.texts h) refl path m full)
