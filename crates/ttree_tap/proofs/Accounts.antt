-- What is kept while TAP is drawn: which rows there are, and what they show.
use Rattle.std.proofs.Common.{◌≡◌, ◌⊎◌, inl, inr, ℕ, Bool, true, false, List, [], ◌∷◌, ◌++◌, Option, Some, None, refl, sym, ap, subst, ◌∙◌, arith, append_assoc}
use Rattle.std.specs.Prelude.{◌==◌, nat_lt, flat_map, if◌then◌else◌, is_some, decimal}
use Rattle.std.proofs.lemmas.Bool.{true≢false}
use Rattle.std.proofs.lemmas.Grind.{flat_map-append}
use Rattle.std.proofs.lemmas.List.{append-nil}
use Rattle.tracing_tree_base.specs.declared.context.Id.{Id}
use Rattle.tracing_tree_base.specs.declared.field.Field.{Field}
use Rattle.tracing_tree_base.specs.declared.style.Level.{Level}
use Rattle.tracing_tree_base.specs.declared.style.Level.TheVariants.{Error}
use Rattle.tracing_tree_spans.specs.Registry.Ids.{id_of}
use Rattle.tracing_tree_layer.specs.declared.call.Call.{Call}
use Rattle.ttree_source.specs.Counts.{one_more}
use Rattle.ttree_source.specs.Calls.{close_call, event_call, message_field, shown_text, span_call}
use Rattle.ttree_tap.specs.declared.queue.Role.{Role}
use Rattle.ttree_tap.specs.declared.queue.Role.TheVariants.{Failure, Opening, Closing}
use Rattle.ttree_tap.specs.declared.tally.Tally.{Tally}
use Rattle.ttree_tap.specs.declared.tally.Verdict.{Verdict}
use Rattle.ttree_tap.specs.declared.tally.Verdict.TheVariants.{Passed, Failed, Skipped, Todo}
use Rattle.ttree_tap.specs.declared.tap.Mode.{Mode}
use Rattle.ttree_tap.specs.declared.tap.braces.Braced.{Braced}
use Rattle.ttree_tap.specs.declared.tap.subtests.Subtest.{Subtest}
use Rattle.ttree_tap.specs.declared.tap.waiting.Waiting.{Waiting}
use Rattle.ttree_tap.specs.Queue.{QueueState, call_added, claimed, failed_added, is_held, readied}
use Rattle.ttree_tap.specs.Tally.{counted_tally, level_of_verdict}
use Rattle.ttree_tap.specs.Texts.{end_text, result_end_fields}
use Rattle.ttree_tap.specs.Tap.{TapState, call_queued, closed_if, error_emitted, lines_claimed, role_of, result_finished, span_or, test_span_opened}
use Rattle.ttree_tap.specs.Rows.{OpenSpan, Row, Seen, call_seen, calls_seen, name_of, nothing_seen}
use Rattle.ttree_tap.specs.Said.{Outcomes, Place, Said, Said.Test, TapResult, description_of, outcome_counted, outcome_of, outcomes_in, why}
use Rattle.ttree_tap.specs.Shown.{AllRight, IsRight, Item, Item.Shown, Item.Added, Names, is_of_result, row_in, said_in}

-- ---- the rows of calls

pub seen_one : (calls : List Call) (call : Call) (seen : Seen) → calls_seen (calls ++ call ∷ []) seen ≡ call_seen call (calls_seen calls seen)
seen_one [] call seen = refl
seen_one (first ∷ calls) call seen = seen_one calls call (call_seen first seen)

right_one : (items : List Item) (item : Item) → AllRight items → IsRight item → AllRight (items ++ item ∷ [])
right_one [] item all is = (is, tt)
right_one (first ∷ items) item all is = (all.0, right_one items item all.1 is)

flat_one : {A : Type 0} (f : Item → List A) (items : List Item) (item : Item) → flat_map f (items ++ item ∷ []) ≡ flat_map f items ++ f item
flat_one f items item = flat_map-append f items (item ∷ []) ∙ ap (λ more. flat_map f items ++ more) (append-nil (f item))

abbrev pub seen_with : List Row → List OpenSpan → ℕ → Seen
seen_with rows spans next = record { rows = rows; spans = spans; next = next }

-- these calls show this, with these spans open
pub record Account (first : ℕ) (calls : List Call) (said : List Said) (spans : List OpenSpan) (next : ℕ) : Type 0 where
  pub items : List Item
  pub seen : calls_seen calls (nothing_seen first) ≡ seen_with (flat_map row_in items) spans next
  pub says : flat_map said_in items ≡ said
  pub right : AllRight items

one_item : (first : ℕ) (calls : List Call) (said : List Said) (spans new : List OpenSpan) (next after : ℕ) (call : Call) (item : Item)
    → ((rows : List Row) → call_seen call (seen_with rows spans next) ≡ seen_with (rows ++ row_in item) new after) → IsRight item
    → Account first calls said spans next → Account first (calls ++ call ∷ []) (said ++ said_in item) new after
one_item first calls said spans new next after call item step is a = record {
  items = a.items ++ item ∷ [];
  seen = seen_one calls call (nothing_seen first) ∙ ap (call_seen call) a.seen ∙ step (flat_map row_in a.items)
      ∙ ap (λ (rows : List Row). seen_with rows new after) (sym (flat_one row_in a.items item));
  says = flat_one said_in a.items item ∙ ap (λ (says : List Said). says ++ said_in item) a.says;
  right = right_one a.items item a.right is;
}

no_item : (first : ℕ) (calls : List Call) (said : List Said) (spans new : List OpenSpan) (next after : ℕ) (call : Call)
    → ((rows : List Row) → call_seen call (seen_with rows spans next) ≡ seen_with rows new after)
    → Account first calls said spans next → Account first (calls ++ call ∷ []) said new after
no_item first calls said spans new next after call step a = record {
  items = a.items;
  seen = seen_one calls call (nothing_seen first) ∙ ap (call_seen call) a.seen ∙ step (flat_map row_in a.items);
  says = a.says;
  right = a.right;
}

omit_item : (first : ℕ) (calls : List Call) (said : List Said) (spans : List OpenSpan) (next : ℕ) (item : Item) → row_in item ≡ [] → IsRight item
    → Account first calls said spans next → Account first calls (said ++ said_in item) spans next
omit_item first calls said spans next item none is a = record {
  items = a.items ++ item ∷ [];
  seen = a.seen ∙ ap (λ (rows : List Row). seen_with rows spans next)
      (sym (flat_one row_in a.items item ∙ ap (λ (rows : List Row). flat_map row_in a.items ++ rows) none ∙ append-nil (flat_map row_in a.items)));
  says = flat_one said_in a.items item ∙ ap (λ (says : List Said). says ++ said_in item) a.says;
  right = right_one a.items item a.right is;
}

-- ---- states

-- what of a state matters
pub record Core : Type 0 where
  pub ready : List Call
  pub is_failed_only : Bool
  pub counts : Outcomes
  pub waiting : Option Waiting
  pub braced : Option Braced
  pub column : ℕ
  pub name : List ℕ
  pub result : Option Braced
  pub span : Option Id
  pub outer : List Subtest
  pub next : ℕ
  pub mode : Mode

abbrev pub core : TapState → Core
core s = record {
  ready = s.queue.ready;
  is_failed_only = s.queue.is_failed_only;
  counts = outcomes_in s.tally;
  waiting = s.waiting;
  braced = s.braced;
  column = s.subtest.column;
  name = s.subtest.name;
  result = s.subtest.result;
  span = s.subtest.span;
  outer = s.outer;
  next = s.next;
  mode = s.mode;
}

abbrev pub entry : Option Id → List ℕ → List OpenSpan
entry (Some id) name = record { id = id; name = shown_text name } ∷ []
entry None name = []

abbrev pub entries : List Subtest → List OpenSpan
entries [] = []
entries (subtest ∷ others) = entry subtest.span subtest.name ++ entries others

-- the spans of the subtests that run
abbrev pub stack : Core → List OpenSpan
stack c = entry c.span c.name ++ entries c.outer

-- subtests are deeper than the script or the file, and none is in braces
abbrev pub Stacked : List Subtest → ℕ → List ℕ → Option Braced → List ℕ → Type 0
Stacked [] column name result file = (column ≡ 0) × (name ≡ file) × (result ≡ None)
Stacked (parent ∷ others) column name result file =
    (nat_lt 0 column ≡ true) × (result ≡ None) × Stacked others parent.column parent.name parent.result file

-- whether all rows are shown, the number of the first span, and the calls of earlier lines
pub record Fixed : Type 0 where
  pub is_all : Bool
  pub first : ℕ
  pub calls : List Call

-- what was said and shown, how many results of each outcome came, and where the next line is
pub record View : Type 0 where
  pub counts : Outcomes
  pub said : List Said
  pub place : Place

pub record Whole (k : Fixed) (said : List Said) (extra : List OpenSpan) (c : Core) : Type 0 where
  pub all : c.is_failed_only ≡ false
  pub account : Account k.first (k.calls ++ c.ready) said (extra ++ stack c) c.next

-- no result waits; these spans are open in the running subtest
pub record IsIdle (k : Fixed) (v : View) (extra : List OpenSpan) (c : Core) : Type 0 where
  pub stacked : Stacked c.outer c.column c.name c.result v.place.file
  pub mode : c.mode ≡ v.place.mode
  pub counts : c.counts ≡ v.counts
  pub none : c.waiting ≡ None
  pub bare : c.braced ≡ None
  pub whole : k.is_all ≡ true → Whole k v.said extra c

abbrev pub Idle : Fixed → View → List OpenSpan → TapState → Type 0
Idle k v extra s = IsIdle k v extra (core s)

-- ---- rows of a state

pick_false : {A : Type 0} (test : Bool) (x y : A) → test ≡ false → (if test then x else y) ≡ y
pick_false true x y h = absurd (true≢false h)
pick_false false x y h = refl

pub queue_one : (role : Role) (call : Call) (q : QueueState) → q.is_failed_only ≡ false → call_added role call q ≡ readied call q
unfolding call_added
queue_one role call q all = pick_false q.is_failed_only (failed_added role call q) (readied call q) all

queued : (k : Fixed) (role : Role) (call : Call) (said more : List Said) (extra new : List OpenSpan) (s : TapState)
    → (Account k.first (k.calls ++ s.queue.ready) said (extra ++ stack (core s)) s.next
    → Account k.first ((k.calls ++ s.queue.ready) ++ call ∷ []) more (new ++ stack (core s)) s.next)
    → Whole k said extra (core s) → Whole k more new (core (call_queued role call s))
queued k role call said more extra new s step h =
    let one = queue_one role call s.queue h.all in
    record {
      all = ap (λ (q : QueueState). q.is_failed_only) one ∙ h.all;
      account = subst (λ (calls : List Call). Account k.first calls more (new ++ stack (core s)) s.next)
          (append_assoc k.calls s.queue.ready (call ∷ []) ∙ sym (ap (λ (q : QueueState). k.calls ++ q.ready) one)) (step h.account);
    }

abbrev pub row_of : Level → List Field → Option Id → List OpenSpan → Core → Row
row_of level fields span extra c = record { level = level; fields = fields; inside = name_of span (extra ++ stack c) }

event_queued : (k : Fixed) (role : Role) (level : Level) (fields : List Field) (span : Option Id) (item : Item) (said : List Said) (extra : List OpenSpan) (s : TapState)
    → row_in item ≡ row_of level fields span extra (core s) ∷ [] → IsRight item
    → Whole k said extra (core s) → Whole k (said ++ said_in item) extra (core (call_queued role (event_call s.moment level fields span) s))
event_queued k role level fields span item said extra s shown is h =
    queued k role (event_call s.moment level fields span) said (said ++ said_in item) extra extra s
    (one_item k.first (k.calls ++ s.queue.ready) said (extra ++ stack (core s)) (extra ++ stack (core s)) s.next s.next (event_call s.moment level fields span) item
    (λ rows. ap (λ (more : List Row). seen_with (rows ++ more) (extra ++ stack (core s)) s.next) (sym shown)) is) h

-- a row shows what a line says, or adds something
pub emits : (k : Fixed) (v : View) (extra : List OpenSpan) (role : Role) (level : Level) (fields : List Field) (span : Option Id) (item : Item) (s : TapState)
    → row_in item ≡ row_of level fields span extra (core s) ∷ [] → IsRight item → Idle k v extra s
    → Idle k (record v { said = v.said ++ said_in item }) extra (call_queued role (event_call s.moment level fields span) s)
emits k v extra role level fields span item s shown is j = record {
  stacked = j.stacked;
  mode = j.mode;
  counts = j.counts;
  none = j.none;
  bare = j.bare;
  whole = λ all. event_queued k role level fields span item v.said extra s shown is (j.whole all);
}

pub says : (k : Fixed) (v : View) (extra : List OpenSpan) (said : List Said) (s : TapState) → v.said ≡ said → Idle k v extra s → Idle k (record v { said = said }) extra s
says k v extra said s is j = subst (λ (said : List Said). Idle k (record v { said = said }) extra s) is j

pub fails_with : (k : Fixed) (v : View) (extra : List OpenSpan) (text : List ℕ) (span : Option Id) (s : TapState) → is_of_result text ≡ false → Idle k v extra s
    → Idle k v extra (error_emitted text span s)
fails_with k v extra text span s apart j =
    let row = row_of Error (message_field text ∷ []) span extra (core s) in
    let more = emits k v extra Failure Error (message_field text ∷ []) span (Added text row) s refl (refl, refl, apart) j in
    let back = says k (record v { said = v.said ++ [] }) extra v.said (error_emitted text span s) (append-nil v.said) more in
    record { stacked = back.stacked; mode = back.mode; counts = back.counts; none = back.none; bare = back.bare; whole = back.whole }

-- what a line says isn't shown
pub omits : (k : Fixed) (v : View) (extra : List OpenSpan) (item : Item) (s : TapState) → row_in item ≡ [] → IsRight item → Idle k v extra s
    → Idle k (record v { said = v.said ++ said_in item }) extra s
omits k v extra item s none is j = record {
  stacked = j.stacked;
  mode = j.mode;
  counts = j.counts;
  none = j.none;
  bare = j.bare;
  whole = λ all. record {
    all = (j.whole all).all;
    account = omit_item k.first (k.calls ++ s.queue.ready) v.said (extra ++ stack (core s)) s.next item none is (j.whole all).account;
  };
}

-- ---- spans

abbrev pub named_next : List ℕ → TapState → List OpenSpan
named_next name s = entry (Some (id_of s.next)) name

pub span_opened : (k : Fixed) (said : List Said) (extra : List OpenSpan) (name : List ℕ) (parent : Option Id) (s : TapState)
    → Whole k said extra (core s) → Whole k said (named_next name s ++ extra) (core (test_span_opened name parent s))
unfolding claimed
span_opened k said extra name parent s h =
    let call = span_call s.moment name [] parent in
    let claims = lines_claimed name s in
    let one = queue_one Opening call claims.queue h.all in
    record {
      all = ap (λ (q : QueueState). q.is_failed_only) one ∙ h.all;
      account = subst (λ (calls : List Call). Account k.first calls said ((named_next name s ++ extra) ++ stack (core s)) (one_more s.next))
          (append_assoc k.calls s.queue.ready (call ∷ []) ∙ sym (ap (λ (q : QueueState). k.calls ++ q.ready) one))
          (no_item k.first (k.calls ++ s.queue.ready) said (extra ++ stack (core s)) (named_next name s ++ (extra ++ stack (core s))) s.next (one_more s.next) call (λ rows. refl) h.account);
    }

pub opens_span : (k : Fixed) (v : View) (extra : List OpenSpan) (name : List ℕ) (parent : Option Id) (s : TapState) → Idle k v extra s
    → Idle k v (named_next name s ++ extra) (test_span_opened name parent s)
unfolding claimed
opens_span k v extra name parent s j = record {
  stacked = j.stacked;
  mode = j.mode;
  counts = j.counts;
  none = j.none;
  bare = j.bare;
  whole = λ all. span_opened k v.said extra name parent s (j.whole all);
}

held_no : (q : QueueState) → q.is_failed_only ≡ false → is_held q ≡ false
held_no q all = rw all refl

pub closes_span : (k : Fixed) (v : View) (span parent : Option Id) (name : List ℕ) (s : TapState) → Idle k v (entry span name) s → Idle k v [] (closed_if span parent s)
closes_span k v None parent name s j = j
closes_span k v (Some id) parent name s j =
    let call = close_call s.moment id parent in
    record {
      stacked = j.stacked;
      mode = j.mode;
      counts = j.counts;
      none = j.none;
      bare = j.bare;
      whole = λ all.
          let h = j.whole all in
          let closed = queued k Closing call v.said v.said (entry (Some id) name) [] s
          (no_item k.first (k.calls ++ s.queue.ready) v.said (entry (Some id) name ++ stack (core s)) (stack (core s)) s.next s.next call (λ rows. refl)) h in
          record {
            all = closed.all;
            account = subst (λ (next : ℕ). Account k.first (k.calls ++ (call_queued Closing call s).queue.ready) v.said (stack (core s)) next)
                (sym (pick_false (is_held s.queue) id.0 s.next (held_no s.queue h.all))) closed.account;
          };
    }

-- ---- results that wait

-- the label of a result that waits, in a span of this name or in none
abbrev pub IsNamed : List ℕ → List ℕ → Option Id → List ℕ → Type 0
IsNamed description label span name =
    (label ≡ description) ⊎ ((label ≡ []) × (name ≡ description) × (is_some span ≡ true))
    ⊎ ((description ≡ []) × ((number : ℕ) × (label ≡ decimal number)))

pub record Stands (result : TapResult) (w : Waiting) (name : List ℕ) : Type 0 where
  pub verdict : w.verdict ≡ outcome_of result
  pub reason : w.reason ≡ why result
  pub named : IsNamed (description_of result) w.label w.span name

-- a result was taken out of the state
pub record Taken (k : Fixed) (v : View) (result : TapResult) (w : Waiting) (s : TapState) : Type 0 where
  pub name : List ℕ
  pub idle : Idle k (record v { counts = outcome_counted (outcome_of result) v.counts }) (entry w.span name) s
  pub stands : Stands result w name

same_number : (n : ℕ) → (n == n) ≡ true
same_number n = grind arith

inside_of : (span parent : Option Id) (name : List ℕ) (others : List OpenSpan) → is_some span ≡ true → name_of (span_or span parent) (entry span name ++ others) ≡ Some (shown_text name)
inside_of None parent name others is = absurd (true≢false (sym is))
inside_of (Some id) parent name others is = rw (same_number id.0) refl

names_of : (description label name : List ℕ) (span parent : Option Id) (others : List OpenSpan) → IsNamed description label span name
    → Names description label (name_of (span_or span parent) (entry span name ++ others))
names_of description label name span parent others (inl is) = inl is
names_of description label name span parent others (inr (inl is)) =
    inr (inl (is.0, inside_of span parent name others is.2 ∙ ap (λ (name : List ℕ). Some (shown_text name)) is.1))
names_of description label name span parent others (inr (inr is)) = inr (inr is)

abbrev pub result_said : TapResult → View → View
result_said result v = record v {
  counts = outcome_counted (outcome_of result) v.counts;
  said = v.said ++ Test result ∷ [];
}

pub finishes : (k : Fixed) (v : View) (result : TapResult) (w : Waiting) (s : TapState) → Taken k v result w s → Idle k (result_said result v) [] (result_finished w s)
unfolding result_finished claimed
finishes k v result w s t =
    let fields = message_field (end_text w.verdict w.label) ∷ result_end_fields w.reason w.elapsed in
    let level = level_of_verdict w.verdict in
    let row = row_of level fields (span_or w.span w.parent) (entry w.span t.name) (core s) in
    closes_span k (result_said result v) w.span w.parent t.name _
    (emits k (record v { counts = outcome_counted (outcome_of result) v.counts }) (entry w.span t.name) (role_of w.verdict w.span) level fields (span_or w.span w.parent)
    (Shown (Test result) row) (lines_claimed w.label s) refl
    (record {
      level = ap level_of_verdict t.stands.verdict;
      label = w.label;
      time = w.elapsed;
      fields = ap (λ (verdict : Verdict). message_field (end_text verdict w.label) ∷ result_end_fields w.reason w.elapsed) t.stands.verdict
          ∙ ap (λ (reason : List ℕ). message_field (end_text (outcome_of result) w.label) ∷ result_end_fields reason w.elapsed) t.stands.reason;
      names = names_of (description_of result) w.label t.name w.span w.parent (stack (core s)) t.stands.named;
    })
    (record {
      stacked = t.idle.stacked;
      mode = t.idle.mode;
      counts = t.idle.counts;
      none = t.idle.none;
      bare = t.idle.bare;
      whole = t.idle.whole;
    }))

pub counts_one : (verdict : Verdict) (t : Tally) → outcomes_in (counted_tally verdict t) ≡ outcome_counted verdict (outcomes_in t)
counts_one Passed t = refl
counts_one Failed t = refl
counts_one Skipped t = refl
counts_one Todo t = refl
