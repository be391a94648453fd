-- What several appends make.
use Rattle.std.proofs.Common.{◌≡◌, ℕ, ◌+◌, ◌/◌, ◌%◌, ◌<◌, pos, List, [], ◌∷◌, ◌++◌, length, take, get_or, sym, ap, ◌∙◌, flat_map, codes, Result, Ok, Err, OnOk, is_ok, if◌then◌else◌}
use Rattle.std.proofs.lemmas.List.{append-nil, append_assoc, take_more}
use Rattle.std.proofs.lemmas.List.Concat.{flat_map-append}
use Rattle.tracing_tree_base.specs.Extended.{IsExtended}
use Rattle.tracing_tree_base.proofs.Extended.{extended_twice}
use Rattle.tracing_tree_base.specs.declared.field.Field.{Field}
use Rattle.tracing_tree_base.specs.declared.style.Level.{Level}
use Rattle.ttree_page.specs.declared.form.LineForm.{LineForm}
use Rattle.ttree_page.specs.declared.form.Kind.TheVariants as Kinds
use Rattle.ttree_page.specs.Lines.{after_comma, ahead_parts, escaped_byte, field_parts, in_quotes, keyed_part, level_text, name_and_value, pairs, stamp_parts, start_text, step_end, step_line}
use Rattle.ttree_page.specs.Steps.{Stamp, About, New, Record, Event, Close}
use Rattle.ttree_page.proofs.Unescaped.{number-kept}
use Rattle.std.specs.Fmt.{decimal, signed_decimal}
use Rattle.std.specs.Int.{int_div_euclid, int_rem_euclid}

-- one string and then another
pub twice : (old mid new a b : List ℕ) → mid ≡ old ++ a → new ≡ mid ++ b → new ≡ old ++ (a ++ b)
twice old mid new a b h k = k ∙ ap (λ text. text ++ b) h ∙ append_assoc old a b

-- a string and then an append that may fail
pub then_ok : {E : Type 0} (r : Result (Unit {0}) E) (old mid new a b all : List ℕ) → mid ≡ old ++ a → OnOk r (new ≡ mid ++ b) → a ++ b ≡ all →
    OnOk r (new ≡ old ++ all)
then_ok (Ok done) old mid new a b all h k e = twice old mid new a b h k ∙ ap (λ text. old ++ text) e
then_ok (Err fault) old mid new a b all h k e = tt

-- a string and then a prefix of another
pub grown : (old mid new a : List ℕ) → mid ≡ old ++ a → IsExtended mid new → IsExtended old new
grown old mid new a h k = extended_twice old mid new (record { front = a; appended = h }) k

-- one more field
pub one-more-field : (start old mid new : List ℕ) (fields : List Field) (i : ℕ) (field : Field) → i < length fields → field ≡ get_or fields i field →
    old ≡ start ++ flat_map after_comma (flat_map name_and_value (take i fields)) → mid ≡ old ++ after_comma (in_quotes field.name) →
    new ≡ mid ++ after_comma (in_quotes field.value) → new ≡ start ++ flat_map after_comma (flat_map name_and_value (take (i + 1) fields))
one-more-field start old mid new fields i field lt is h k l =
    let before = flat_map name_and_value (take i fields) in
    let pair = name_and_value field in
    let grows : flat_map name_and_value (take (i + 1) fields) ≡ before ++ pair = ap (flat_map name_and_value) (take_more fields i field lt) ∙ flat_map-append name_and_value (take i fields) (get_or fields i field ∷ []) ∙ ap (λ f. before ++ (name_and_value f ++ [])) (sym is) in
    let ends : flat_map after_comma pair ≡ after_comma (in_quotes field.name) ++ after_comma (in_quotes field.value) =
    ap (λ text. after_comma (in_quotes field.name) ++ text) (append-nil (after_comma (in_quotes field.value))) in
    twice old mid new _ _ k l ∙ ap (λ text. text ++ (after_comma (in_quotes field.name) ++ after_comma (in_quotes field.value))) h
    ∙ append_assoc start (flat_map after_comma before) (after_comma (in_quotes field.name) ++ after_comma (in_quotes field.value))
    ∙ ap (λ text. start ++ text) (ap (λ text. flat_map after_comma before ++ text) (sym ends) ∙ sym (flat_map-append after_comma before pair)
    ∙ ap (flat_map after_comma) (sym grows))

-- the parts of a stamp
five : (a b c d e : List ℕ) → (a ++ b ++ (c ++ (d ++ []))) ++ e ≡ a ++ (b ++ (c ++ (d ++ (e ++ []))))
five a b c d e = simp (append_assoc, append-nil)

pub stamp-pushed : {E : Type 0} (r : Result (Unit {0}) E) (form : LineForm) (stamp : Stamp) (out s t u new : List ℕ) →
    s ≡ out ++ after_comma (keyed_part form (codes "seconds")
    (decimal (stamp.mono / 1_000_000_000))) →
    t ≡ s ++ after_comma (keyed_part form (codes "nanos") (decimal (stamp.mono % 1_000_000_000))) →
    u ≡ t ++ flat_map after_comma (ahead_parts form stamp.ahead) →
    OnOk r (new ≡ u ++ after_comma (keyed_part form (codes "thread") (in_quotes stamp.thread))) →
    OnOk r (new ≡ out ++ flat_map after_comma (stamp_parts form stamp))
stamp-pushed r form stamp out s t u new h k l m =
    let whole = after_comma (keyed_part form (codes "seconds")
    (decimal (stamp.mono / 1_000_000_000))) in
    let rest = after_comma (keyed_part form (codes "nanos")
    (decimal (stamp.mono % 1_000_000_000))) in
    let ahead = flat_map after_comma (ahead_parts form stamp.ahead) in
    let thread = after_comma (keyed_part form (codes "thread") (in_quotes stamp.thread)) in
    then_ok r out u new (whole ++ rest ++ ahead) thread (flat_map after_comma (stamp_parts form stamp))
    (twice out t u (whole ++ rest) ahead (twice out s t whole rest h k) l) m
    (five whole rest (after_comma (keyed_part form (codes "ahead_seconds") (signed_decimal (int_div_euclid stamp.ahead (pos 1_000_000_000)))))
    (after_comma (keyed_part form (codes "ahead_nanos") (signed_decimal (int_rem_euclid stamp.ahead (pos 1_000_000_000))))) thread)

-- a thread: its number, and its name if it has one
pub thread-pushed : {E : Type 0} (r : Result (Unit {0}) E) (number : ℕ) (name out s t u new : List ℕ) → s ≡ out ++ 34 ∷ [] → t ≡ s ++ decimal number →
    u ≡ t ++ flat_map escaped_byte name → OnOk r (new ≡ u ++ 34 ∷ []) → OnOk r (new ≡ out ++ in_quotes (decimal number ++ name))
thread-pushed r number name out s t u new h k l m =
    then_ok r out u new (34 ∷ (decimal number ++ flat_map escaped_byte name)) (34 ∷ []) (in_quotes (decimal number ++ name))
    (twice out t u (34 ∷ decimal number) (flat_map escaped_byte name) (twice out s t (34 ∷ []) (decimal number) h k) l) m
    (ap (λ text. 34 ∷ (text ++ 34 ∷ [])) (number-kept number name))

-- what holds if nothing failed
pub on_ok : {E : Type 0} (result : Result (Unit {0}) E) (x a b : List ℕ) → x ≡ (if is_ok result then a else b) → OnOk result (x ≡ a)
on_ok (Ok done) x a b e = e
on_ok (Err error) x a b e = tt

-- fields as an object
pub object-pushed : {E : Type 0} (r : Result (Unit {0}) E) (fields : List Field) (out s t new : List ℕ) →
    s ≡ out ++ codes ",\"fields\":{" → t ≡ s ++ pairs fields → OnOk r (new ≡ t ++ codes "}") →
    OnOk r (new ≡ out ++ after_comma (codes "\"fields\":{" ++ (pairs fields ++ codes "}")))
object-pushed r fields out s t new h k l =
    let a = codes ",\"fields\":{" in
    then_ok r out t new (a ++ pairs fields) (codes "}") (after_comma (codes "\"fields\":{" ++ (pairs fields ++ codes "}")))
    (twice out s t a (pairs fields) h k) l (append_assoc a (pairs fields) (codes "}"))

-- ---- lines

-- a stamp and the parts after it
line-joined : (form : LineForm) (start end : List ℕ) (stamp : Stamp) (rest : List (List ℕ)) →
    (start ++ flat_map after_comma (stamp_parts form stamp)) ++ (flat_map after_comma rest ++ end) ≡ start ++ flat_map after_comma (stamp_parts form stamp ++ rest) ++ end
line-joined form start end stamp rest =
    let first = flat_map after_comma (stamp_parts form stamp) in
    let others = flat_map after_comma rest in
    sym (append_assoc (start ++ first) others end)
    ∙ ap (λ text. text ++ end) (append_assoc start first others ∙ ap (λ text. start ++ text) (sym (flat_map-append after_comma (stamp_parts form stamp) rest)))

new_regrouped : (s i p n t f e : List ℕ) → ((s ++ (i ++ p)) ++ (n ++ t)) ++ (f ++ e) ≡ s ++ ((i ++ (p ++ (n ++ (t ++ f)))) ++ e)
new_regrouped s i p n t f e = simp append_assoc

event_regrouped : (s p c l t f e : List ℕ) → (((s ++ (p ++ c)) ++ l) ++ t) ++ (f ++ e) ≡ s ++ ((p ++ (c ++ (l ++ (t ++ f)))) ++ e)
event_regrouped s p c l t f e = simp append_assoc

close_regrouped : (s i e : List ℕ) → (s ++ i) ++ e ≡ s ++ ((i ++ []) ++ e)
close_regrouped s i e = simp (append_assoc, append-nil)

record_regrouped : (s i f e : List ℕ) → (s ++ i) ++ (f ++ e) ≡ s ++ (i ++ f) ++ e
record_regrouped s i f e = simp append_assoc

pub new-pushed : {E : Type 0} (r : Result (Unit {0}) E) (form : LineForm) (stamp : Stamp) (id parent : ℕ) (name target : List ℕ) (fields : List Field) (out s t u new : List ℕ) →
    s ≡ out ++ (start_text form Kinds.New ++ flat_map after_comma (stamp_parts form stamp)) →
    t ≡ s ++ (after_comma (keyed_part form (codes "id") (decimal id)) ++ after_comma (keyed_part form (codes "parent") (decimal parent))) →
    u ≡ t ++ (after_comma (keyed_part form (codes "name") (in_quotes name)) ++ after_comma (keyed_part form (codes "target") (in_quotes target))) →
    OnOk r (new ≡ u ++ (flat_map after_comma (field_parts form fields) ++ step_end form)) →
    OnOk r (new ≡ out ++ step_line form (New stamp id parent name target fields))
new-pushed r form stamp id parent name target fields out s t u new h k l m =
    let a = start_text form Kinds.New ++ flat_map after_comma (stamp_parts form stamp) in
    let i = keyed_part form (codes "id") (decimal id) in
    let p = keyed_part form (codes "parent") (decimal parent) in
    let n = keyed_part form (codes "name") (in_quotes name) in
    let g = keyed_part form (codes "target") (in_quotes target) in
    let b = after_comma i ++ after_comma p in
    let c = after_comma n ++ after_comma g in
    then_ok r out u new (a ++ b ++ c) (flat_map after_comma (field_parts form fields) ++ step_end form) (step_line form (New stamp id parent name target fields))
    (twice out t u (a ++ b) c (twice out s t a b h k) l) m
    (new_regrouped a (after_comma i) (after_comma p) (after_comma n) (after_comma g) (flat_map after_comma (field_parts form fields)) (step_end form)
    ∙ line-joined form (start_text form Kinds.New) (step_end form) stamp (i ∷ p ∷ n ∷ g ∷ field_parts form fields))

pub event-pushed : {E : Type 0} (r : Result (Unit {0}) E) (form : LineForm) (stamp : Stamp) (parent current : ℕ) (level : Level) (target : List ℕ) (fields : List Field) (out s t u v new : List ℕ) →
    s ≡ out ++ (start_text form Kinds.Event ++ flat_map after_comma (stamp_parts form stamp)) →
    t ≡ s ++ (after_comma (keyed_part form (codes "parent") (decimal parent)) ++ after_comma (keyed_part form (codes "current") (decimal current))) →
    u ≡ t ++ after_comma (keyed_part form (codes "level") (level_text form level)) →
    v ≡ u ++ after_comma (keyed_part form (codes "target") (in_quotes target)) →
    OnOk r (new ≡ v ++ (flat_map after_comma (field_parts form fields) ++ step_end form)) →
    OnOk r (new ≡ out ++ step_line form (Event stamp parent current level target fields))
event-pushed r form stamp parent current level target fields out s t u v new h k l m n =
    let a = start_text form Kinds.Event ++ flat_map after_comma (stamp_parts form stamp) in
    let p = keyed_part form (codes "parent") (decimal parent) in
    let c = keyed_part form (codes "current") (decimal current) in
    let d = keyed_part form (codes "level") (level_text form level) in
    let g = keyed_part form (codes "target") (in_quotes target) in
    let b = after_comma p ++ after_comma c in
    then_ok r out v new (a ++ b ++ after_comma d ++ after_comma g) (flat_map after_comma (field_parts form fields) ++ step_end form) (step_line form (Event stamp parent current level target fields))
    (twice out u v (a ++ b ++ after_comma d) (after_comma g) (twice out t u (a ++ b) (after_comma d) (twice out s t a b h k) l) m) n
    (event_regrouped a (after_comma p) (after_comma c) (after_comma d) (after_comma g) (flat_map after_comma (field_parts form fields)) (step_end form)
    ∙ line-joined form (start_text form Kinds.Event) (step_end form) stamp (p ∷ c ∷ d ∷ g ∷ field_parts form fields))

pub close-pushed : {E : Type 0} (r : Result (Unit {0}) E) (form : LineForm) (stamp : Stamp) (id : ℕ) (out s t new : List ℕ) →
    s ≡ out ++ (start_text form Kinds.Close ++ flat_map after_comma (stamp_parts form stamp)) →
    t ≡ s ++ after_comma (keyed_part form (codes "id") (decimal id)) → OnOk r (new ≡ t ++ step_end form) →
    OnOk r (new ≡ out ++ step_line form (Close stamp id))
close-pushed r form stamp id out s t new h k l =
    let a = start_text form Kinds.Close ++ flat_map after_comma (stamp_parts form stamp) in
    let i = keyed_part form (codes "id") (decimal id) in
    then_ok r out t new (a ++ after_comma i) (step_end form) (step_line form (Close stamp id)) (twice out s t a (after_comma i) h k) l
    (close_regrouped a (after_comma i) (step_end form) ∙ line-joined form (start_text form Kinds.Close) (step_end form) stamp (i ∷ []))

pub record-pushed : {E : Type 0} (r : Result (Unit {0}) E) (form : LineForm) (id : ℕ) (fields : List Field) (out s t new : List ℕ) →
    s ≡ out ++ start_text form Kinds.Record → t ≡ s ++ after_comma (keyed_part form (codes "id") (decimal id)) →
    OnOk r (new ≡ t ++ (flat_map after_comma (field_parts form fields) ++ step_end form)) →
    OnOk r (new ≡ out ++ step_line form (Record id fields))
record-pushed r form id fields out s t new h k l =
    let a = start_text form Kinds.Record in
    let i = after_comma (keyed_part form (codes "id") (decimal id)) in
    then_ok r out t new (a ++ i) (flat_map after_comma (field_parts form fields) ++ step_end form) (step_line form (Record id fields))
    (twice out s t a i h k) l (record_regrouped a i (flat_map after_comma (field_parts form fields)) (step_end form))

-- the first line, which has one part
about_regrouped : (s t e : List ℕ) → (s ++ t) ++ e ≡ s ++ (t ++ []) ++ e
about_regrouped s t e = simp (append_assoc, append-nil)

pub about-pushed : {E : Type 0} (r : Result (Unit {0}) E) (form : LineForm) (title out s t new : List ℕ) →
    s ≡ out ++ start_text form Kinds.About → t ≡ s ++ after_comma (keyed_part form (codes "title") (in_quotes title)) →
    OnOk r (new ≡ t ++ step_end form) → OnOk r (new ≡ out ++ step_line form (About title))
about-pushed r form title out s t new h k l =
    let a = start_text form Kinds.About in
    let b = after_comma (keyed_part form (codes "title") (in_quotes title)) in
    then_ok r out t new (a ++ b) (step_end form) (step_line form (About title)) (twice out s t a b h k) l (about_regrouped a b (step_end form))
