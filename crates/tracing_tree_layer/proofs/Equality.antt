-- Values are equal if all their parts are.
use Rattle.std.proofs.Common.{◌≡◌, ◌==◌, ◌&&◌, Bool, true, false, T, ℤ, List, Option, None, Some, unwrap_or, refl, sym, ap, ◌∙◌, subst, int_eq, rules}
use Rattle.std.specs.Bool.{Decides}
use Rattle.std.specs.Str.{bytes_eq}
use Rattle.std.proofs.lemmas.Bool.Decides.{Decides-and, Decides-eqb, Decides-int_eq}
use Rattle.std.proofs.lemmas.Slice.Eq.{bytes_eq-Decides, slice_eq-Decides}
use Rattle.std.specs.Option.{option_eq}
use Rattle.std.specs.Int.Signed.{◌≤ℤ◌, le_z}
use Rattle.jiff_core.specs.Timestamp.{IsTimestampNanos}
use Rattle.jiff_core.specs.declared.timestamp.Timestamp.{Timestamp}
use Rattle.tracing_tree_base.specs.declared.context.Moment.{Moment}
use Rattle.tracing_tree_base.specs.declared.context.Id.{Id}
use Rattle.tracing_tree_base.specs.declared.context.Context.{Context}
use Rattle.tracing_tree_spans.specs.Registry.Ids.{id_of}
use Rattle.tracing_tree_spans.specs.declared.registry.Record.{Record}
use Rattle.tracing_tree_layer.specs.declared.call.Call.{Call}
use Rattle.tracing_tree_layer.specs.declared.call.Call.TheVariants.{New, Clone, Record as RecordOf, Event as Emitted, Close}
use Rattle.tracing_tree_layer.specs.contracts.call.CallPartialEq.TheImpl.{ghosts as call}
use Rattle.tracing_tree_base.specs.Equal.{field_eq, fields_eq}
use Rattle.tracing_tree_base.specs.declared.field.Field.{Field}
use Rattle.tracing_tree_base.specs.declared.style.Level.{Level}
use Rattle.tracing_tree_spans.specs.declared.registry.Parent.{Parent}
use Rattle.tracing_tree_spans.specs.declared.registry.Event.{Event}
use Rattle.tracing_tree_spans.specs.declared.registry.Attributes.{Attributes}
use Rattle.tracing_tree_base.specs.contracts.style.LevelPartialEq.TheImpl.{ghosts as level}
use Rattle.tracing_tree_spans.specs.contracts.registry.ParentPartialEq.TheImpl.{ghosts as parent}

decides-by : {P Q : Type 0} (b : Bool) → (P → Q) → (Q → P) → Decides b P → Decides b Q
decides-by b to from h = (λ e. to (h.0 e), λ q. h.1 (from q))

field_decides : (a b : Field) → Decides (field_eq a b) (a ≡ b)
field_decides a b =
    decides-by (field_eq a b) (λ e i. record { name = e.0 i; value = e.1 i }) (λ e. (ap (λ (f : Field). f.name) e, ap (λ (f : Field). f.value) e))
    (Decides-and (bytes_eq a.name b.name) (bytes_eq a.value b.value) (bytes_eq-Decides a.name b.name) (bytes_eq-Decides a.value b.value))

pub fields_decide : (a b : List Field) → Decides (fields_eq a b) (a ≡ b)
fields_decide a b = slice_eq-Decides field_decides a b (fields_eq a b) refl

pub level_decides : (a b : Level) → Decides (level.eq a b) (a ≡ b)
level_decides a b = search rules

pub parent_decides : (a b : Parent) → Decides (parent.eq a b) (a ≡ b)
parent_decides a b = search rules

pub event_decides : (a b : Event) →
    Decides (level.eq a.level b.level && (bytes_eq a.target b.target && (parent.eq a.parent b.parent && fields_eq a.fields b.fields))) (a ≡ b)
event_decides a b =
    decides-by _ (λ e i. record { level = e.0 i; target = e.1.0 i; parent = e.1.1.0 i; fields = e.1.1.1 i })
    (λ e. (ap (λ (x : Event). x.level) e, (ap (λ (x : Event). x.target) e, (ap (λ (x : Event). x.parent) e, ap (λ (x : Event). x.fields) e))))
    (Decides-and _ _ (level_decides a.level b.level) (Decides-and _ _ (bytes_eq-Decides a.target b.target)
    (Decides-and _ _ (parent_decides a.parent b.parent) (fields_decide a.fields b.fields))))

pub attributes_decide : (a b : Attributes) →
    Decides (bytes_eq a.name b.name && (bytes_eq a.target b.target && (parent.eq a.parent b.parent && fields_eq a.fields b.fields))) (a ≡ b)
attributes_decide a b =
    decides-by _ (λ e i. record { name = e.0 i; target = e.1.0 i; parent = e.1.1.0 i; fields = e.1.1.1 i })
    (λ e. (ap (λ (x : Attributes). x.name) e, (ap (λ (x : Attributes). x.target) e, (ap (λ (x : Attributes). x.parent) e, ap (λ (x : Attributes). x.fields) e))))
    (Decides-and _ _ (bytes_eq-Decides a.name b.name) (Decides-and _ _ (bytes_eq-Decides a.target b.target)
    (Decides-and _ _ (parent_decides a.parent b.parent) (fields_decide a.fields b.fields))))

-- an instant is determined by its nanoseconds
true_same : (b : Bool) (x y : T b) → x ≡ y
true_same true x y = refl
true_same false x y = absurd x

below_same : {m n : ℤ} (x y : m ≤ℤ n) → x ≡ y
below_same {m} {n} x y = λ i. record { le = true_same (le_z m n) x.le y.le i }

same_instant : (a b : Timestamp) → a.nanosecond ≡ b.nanosecond → a ≡ b
same_instant a b e =
    subst (λ n. (r : IsTimestampNanos n) → a ≡ record { nanosecond = n; in_range = r }) e
    (λ r i. record { nanosecond = a.nanosecond; in_range = (below_same a.in_range.0 r.0 i, below_same a.in_range.1 r.1 i) }) b.in_range

pub moment_decides : (a b : Moment) → Decides (a.mono == b.mono && int_eq a.wall.nanosecond b.wall.nanosecond) (a ≡ b)
moment_decides a b =
    decides-by _ (λ e i. record { mono = e.0 i; wall = same_instant a.wall b.wall e.1 i }) (λ e. (ap (λ (x : Moment). x.mono) e, ap (λ (x : Moment). x.wall.nanosecond) e))
    (Decides-and _ _ (Decides-eqb a.mono b.mono) (Decides-int_eq a.wall.nanosecond b.wall.nanosecond))

-- ---- contexts and calls

option_decides : {A : Type 0} (same : A → A → Bool) → ((x y : A) → Decides (same x y) (x ≡ y)) → (a b : Option A) → Decides (option_eq same a b) (a ≡ b)
option_decides same each None None = (λ e. refl, λ e. refl)
option_decides same each None (Some y) = (λ e. cc, λ e. cc)
option_decides same each (Some x) None = (λ e. cc, λ e. cc)
option_decides same each (Some x) (Some y) =
    decides-by (same x y) (λ e. ap (λ z. Some z) e) (λ e. ap (λ o. unwrap_or o x) e) (each x y)

id_decides : (a b : Id) → Decides (a.0 == b.0) (a ≡ b)
id_decides a b = decides-by (a.0 == b.0) (λ e. ap id_of e) (λ e. ap (λ (i : Id). i.0) e) (Decides-eqb a.0 b.0)

abbrev context_eq : Context → Context → Bool
context_eq a b =
    option_eq (λ x y. x.0 == y.0) a.current b.current
    && (a.thread_id == b.thread_id
    && (option_eq bytes_eq a.thread_name b.thread_name
    && (a.moment.mono == b.moment.mono && int_eq a.moment.wall.nanosecond b.moment.wall.nanosecond)))

pub context_decides : (a b : Context) → Decides (context_eq a b) (a ≡ b)
context_decides a b =
    decides-by _ (λ e i. record { current = e.0 i; thread_id = e.1.0 i; thread_name = e.1.1.0 i; moment = e.1.1.1 i })
    (λ e. (ap (λ (x : Context). x.current) e, (ap (λ (x : Context). x.thread_id) e, (ap (λ (x : Context). x.thread_name) e, ap (λ (x : Context). x.moment) e))))
    (Decides-and _ _ (option_decides (λ x y. x.0 == y.0) id_decides a.current b.current) (Decides-and _ _ (Decides-eqb a.thread_id b.thread_id)
    (Decides-and _ _ (option_decides bytes_eq bytes_eq-Decides a.thread_name b.thread_name) (moment_decides a.moment b.moment))))

-- two calls of one kind are equal exactly if both parts are
both : {A B C : Type 0} (make : A → B → C) (first : C → A → A) (second : C → B → B) →
    ((a : A) (b : B) (d : A) → first (make a b) d ≡ a) → ((a : A) (b : B) (d : B) → second (make a b) d ≡ b) →
    (a x : A) (b y : B) (p q : Bool) → Decides p (a ≡ x) → Decides q (b ≡ y) → Decides (p && q) (make a b ≡ make x y)
both make first second one two a x b y p q h k =
    decides-by (p && q) (λ e i. make (e.0 i) (e.1 i))
    (λ e. (sym (one a b a) ∙ ap (λ c. first c a) e ∙ one x y a, sym (two a b b) ∙ ap (λ c. second c b) e ∙ two x y b)) (Decides-and p q h k)

abbrev of_new : Call → Attributes → Attributes
of_new (New a c) d = a
of_new (Clone i) d = d
of_new (RecordOf i r) d = d
of_new (Emitted e c) d = d
of_new (Close i c) d = d

abbrev of_event : Call → Event → Event
of_event (New a c) d = d
of_event (Clone i) d = d
of_event (RecordOf i r) d = d
of_event (Emitted e c) d = e
of_event (Close i c) d = d

abbrev of_record : Call → Record → Record
of_record (New a c) d = d
of_record (Clone i) d = d
of_record (RecordOf i r) d = r
of_record (Emitted e c) d = d
of_record (Close i c) d = d

abbrev id_in_call : Call → Id → Id
id_in_call (New a c) d = d
id_in_call (Clone i) d = i
id_in_call (RecordOf i r) d = i
id_in_call (Emitted e c) d = d
id_in_call (Close i c) d = i

abbrev context_in_call : Call → Context → Context
context_in_call (New a c) d = c
context_in_call (Clone i) d = d
context_in_call (RecordOf i r) d = d
context_in_call (Emitted e c) d = c
context_in_call (Close i c) d = c

record_decides : (a b : Record) → Decides (fields_eq a.fields b.fields) (a ≡ b)
record_decides a b =
    decides-by (fields_eq a.fields b.fields) (λ e i. record { fields = e i }) (λ e. ap (λ (x : Record). x.fields) e) (fields_decide a.fields b.fields)

pub call_decides : (a b : Call) → Decides (call.eq a b) (a ≡ b)
call_decides (New a c) (New b d) = both New of_new context_in_call (λ x y z. refl) (λ x y z. refl) a b c d _ _ (attributes_decide a b) (context_decides c d)
call_decides (Clone i) (Clone j) = decides-by _ (λ e. ap Clone e) (λ e. ap (λ c. id_in_call c i) e) (id_decides i j)
call_decides (RecordOf i r) (RecordOf j s) = both RecordOf id_in_call of_record (λ x y z. refl) (λ x y z. refl) i j r s _ _ (id_decides i j) (record_decides r s)
call_decides (Emitted e c) (Emitted f d) = both Emitted of_event context_in_call (λ x y z. refl) (λ x y z. refl) e f c d _ _ (event_decides e f) (context_decides c d)
call_decides (Close i c) (Close j d) = both Close id_in_call context_in_call (λ x y z. refl) (λ x y z. refl) i j c d _ _ (id_decides i j) (context_decides c d)
call_decides (New a c) (Clone j) = (λ h. cc, λ h. cc)
call_decides (New a c) (RecordOf j s) = (λ h. cc, λ h. cc)
call_decides (New a c) (Emitted f d) = (λ h. cc, λ h. cc)
call_decides (New a c) (Close j d) = (λ h. cc, λ h. cc)
call_decides (Clone i) (New b d) = (λ h. cc, λ h. cc)
call_decides (Clone i) (RecordOf j s) = (λ h. cc, λ h. cc)
call_decides (Clone i) (Emitted f d) = (λ h. cc, λ h. cc)
call_decides (Clone i) (Close j d) = (λ h. cc, λ h. cc)
call_decides (RecordOf i r) (New b d) = (λ h. cc, λ h. cc)
call_decides (RecordOf i r) (Clone j) = (λ h. cc, λ h. cc)
call_decides (RecordOf i r) (Emitted f d) = (λ h. cc, λ h. cc)
call_decides (RecordOf i r) (Close j d) = (λ h. cc, λ h. cc)
call_decides (Emitted e c) (New b d) = (λ h. cc, λ h. cc)
call_decides (Emitted e c) (Clone j) = (λ h. cc, λ h. cc)
call_decides (Emitted e c) (RecordOf j s) = (λ h. cc, λ h. cc)
call_decides (Emitted e c) (Close j d) = (λ h. cc, λ h. cc)
call_decides (Close i c) (New b d) = (λ h. cc, λ h. cc)
call_decides (Close i c) (Clone j) = (λ h. cc, λ h. cc)
call_decides (Close i c) (RecordOf j s) = (λ h. cc, λ h. cc)
call_decides (Close i c) (Emitted f d) = (λ h. cc, λ h. cc)
