-- What is read of an object at the keys of calls encodes what the object encodes.
use Rattle.std.specs.Prelude.{◌≡◌, ℕ, pos, Bool, true, false, List, [], ◌∷◌, Option, Some, None, codes, bytes_eq, if◌then◌else◌, option_map, option_and_then, refl, Result, Ok, Err}
use Rattle.std.specs.Option.{option_map_or}
use Rattle.std.proofs.Common.{sym, ap, ap₂, ◌∙◌, subst, true≢false}
use Rattle.std.proofs.lemmas.Slice.Eq.{bytes_eq-Decides}
use Rattle.json.specs.Json as json
use Rattle.serde_json.specs.Data.{Num, unsigned, negative, float, Data, null, boolean, number, string, array, object, Members, no_members, member, put}
use Rattle.serde_json.specs.Find.{get, get_member, as_str, as_u64, as_i64}
use Rattle.serde_json.specs.Written.{has_float, items_have_float}
use Rattle.serde_json.proofs.Views.{get_member-put, get_member-put_other}
use Rattle.tracing_tree_base.specs.Style.{level_named}
use Rattle.tracing_tree_base.specs.declared.context.Context.{Context}
use Rattle.tracing_tree_base.specs.declared.context.Moment.{Moment}
use Rattle.tracing_tree_base.specs.declared.field.Field.{Field}
use Rattle.tracing_tree_spans.specs.Registry.Ids.{id_of}
use Rattle.tracing_tree_spans.specs.declared.registry.Parent.TheVariants.{Current}
use Rattle.tracing_tree_layer.specs.declared.call.Call.{Call}
use Rattle.tracing_tree_lines.proofs.BorrowedTrees.{neither, whole_settled, float_settled}
use Rattle.tracing_tree_lines.proofs.Choices.{apart}
use Rattle.tracing_tree_lines.proofs.SpelledLines.{line_spells, value_spells}
use Rattle.tracing_tree_lines.specs.Lines.Parts.{fields_data, readable_number, readable_fields, readable_word, readable_list, readable, part_data, listed_data, parts_members, parts_data, with_key, readable_at, readable_members, call_members, HasParts, IsObjectLine, ReadsParts}
use Rattle.tracing_tree_lines.specs.Lines.Borrowed.{data_of, HasNoFloat, RefusesFloat}
use Rattle.tracing_tree_lines.specs.Lines.Spelled.{◌>>=◌, unless_null, read_or, whole_value, signed_value, id_value, parent_value, item_fields, fields_value, IsMomentIn, SpellsCall, context_in, id_in, attributes_in, record_in, event_in, call_named, object_call}
use Rattle.tracing_tree_lines.specs.Lines.Values.{ValueSpells}
use Rattle.tracing_tree_lines.specs.Lines.Steps.{Answering, MakesSpelled}
use Rattle.tracing_tree_lines.proofs.MadeCalls.{spelled_as}
use Rattle.tracing_tree_layer.specs.Layered.Seen.{Seen}
use Rattle.tracing_tree_layer.specs.declared.call.Reply.{Reply}
use Rattle.tracing_tree_lines.specs.declared.lines.LineCause.{LineCause}
use Rattle.tracing_tree_lines.specs.declared.lines.part.Part.{Part}
use Rattle.tracing_tree_lines.specs.declared.lines.part.Part.TheVariants.{Absent, Text, Whole, Negative, Other}
use Rattle.tracing_tree_lines.specs.declared.lines.part.FieldsPart.{FieldsPart}
use Rattle.tracing_tree_lines.specs.declared.lines.part.FieldsPart.TheVariants as Listed
use Rattle.tracing_tree_lines.specs.declared.lines.parts.Parts.{Parts}

-- ---- the value at each key

pub at_call : (p : Parts) → option_and_then unless_null (get (codes "call") (parts_data p)) ≡ unless_null (part_data p.call)
at_call p = refl

pub at_id : (p : Parts) → option_and_then unless_null (get (codes "id") (parts_data p)) ≡ unless_null (part_data p.id)
at_id p = refl

pub at_name : (p : Parts) → option_and_then unless_null (get (codes "name") (parts_data p)) ≡ unless_null (part_data p.name)
at_name p = refl

pub at_level : (p : Parts) → option_and_then unless_null (get (codes "level") (parts_data p)) ≡ unless_null (part_data p.level)
at_level p = refl

pub at_target : (p : Parts) → option_and_then unless_null (get (codes "target") (parts_data p)) ≡ unless_null (part_data p.target)
at_target p = refl

pub at_parent : (p : Parts) → option_and_then unless_null (get (codes "parent") (parts_data p)) ≡ unless_null (part_data p.parent)
at_parent p = refl

pub at_fields : (p : Parts) → option_and_then unless_null (get (codes "fields") (parts_data p)) ≡ unless_null (listed_data p.fields)
at_fields p = refl

pub at_current : (p : Parts) → option_and_then unless_null (get (codes "current") (parts_data p)) ≡ unless_null (part_data p.current)
at_current p = refl

pub at_thread : (p : Parts) → option_and_then unless_null (get (codes "thread") (parts_data p)) ≡ unless_null (part_data p.thread)
at_thread p = refl

pub at_thread_name : (p : Parts) → option_and_then unless_null (get (codes "thread_name") (parts_data p)) ≡ unless_null (part_data p.thread_name)
at_thread_name p = refl

pub at_mono : (p : Parts) → option_and_then unless_null (get (codes "mono") (parts_data p)) ≡ unless_null (part_data p.mono)
at_mono p = refl

pub at_wall : (p : Parts) → option_and_then unless_null (get (codes "wall") (parts_data p)) ≡ unless_null (part_data p.wall)
at_wall p = refl

-- ---- fields

pub fields_read : (fields : List Field) → item_fields (fields_data fields) ≡ Some fields
fields_read [] = refl
fields_read (field ∷ others) = rw (fields_read others)

-- ---- one more member

at_put : (key other : List ℕ) (d : Data) (found : Members) (b : Bool) → bytes_eq key other ≡ b
    → (if b then readable key d else readable_at other (object found)) ≡ readable_at other (object (put key d found))
at_put key other d found true is =
    let same : key ≡ other = (bytes_eq-Decides key other).0 is in
    ap (λ k. readable k d) same
    ∙ sym (ap (λ o. option_map_or (readable other) o null) (ap (λ k. get_member k (put key d found)) (sym same) ∙ get_member-put key d found))
at_put key other d found false is =
    sym (ap (λ o. option_map_or (readable other) o null) (get_member-put_other other key d found (λ same. true≢false (sym ((bytes_eq-Decides key other).1 (sym same)) ∙ is))))

pub with_put : (keys : Members) (key : List ℕ) (d : Data) (found : Members)
    → with_key key (readable key d) (readable_members keys (object found)) ≡ readable_members keys (object (put key d found))
with_put no_members key d found = refl
with_put (member other old ms) key d found =
    ap (λ x. member other x (with_key key (readable key d) (readable_members ms (object found)))) (at_put key other d found (bytes_eq key other) refl)
    ∙ ap (member other (readable_at other (object (put key d found)))) (with_put ms key d found)

-- the object has no such key
abbrev pub HasNoKey : Members → List ℕ → Type 0
HasNoKey no_members key = Unit {0}
HasNoKey (member other d ms) key = (bytes_eq key other ≡ false) × HasNoKey ms key

no_key : (ms : Members) (key : List ℕ) (d : Data) → HasNoKey ms key → with_key key d ms ≡ ms
no_key no_members key d none = refl
no_key (member other old ms) key d none =
    ap (λ b. member other (if b then d else old) (with_key key d ms)) none.0 ∙ ap (member other old) (no_key ms key d none.1)

-- a key that no call has changes nothing
pub other_key : (key : List ℕ) (d : Data) (p : Parts) → HasNoKey (parts_members p) key → with_key key d (parts_members p) ≡ parts_members p
other_key key d p none = no_key (parts_members p) key d none

-- ---- no float is kept

no_float_fields : (fields : List Field) → items_have_float (fields_data fields) ≡ false
no_float_fields [] = refl
no_float_fields (field ∷ others) = no_float_fields others

no_float_part : (part : Part) → has_float (part_data part) ≡ false
no_float_part Absent = refl
no_float_part (Text text) = refl
no_float_part (Whole n) = refl
no_float_part (Negative z) = refl
no_float_part Other = refl

no_float_list : (list : FieldsPart) → has_float (listed_data list) ≡ false
no_float_list Listed.Absent = refl
no_float_list (Listed.Fields fields) = no_float_fields fields
no_float_list Listed.Other = refl

pub no_float_parts : (p : Parts) → has_float (parts_data p) ≡ false
no_float_parts p =
    neither _ _ (no_float_part p.call) (neither _ _ (no_float_part p.id) (neither _ _ (no_float_part p.name) (neither _ _ (no_float_part p.level)
    (neither _ _ (no_float_part p.target) (neither _ _ (no_float_part p.parent) (neither _ _ (no_float_list p.fields) (neither _ _ (no_float_part p.current)
    (neither _ _ (no_float_part p.thread) (neither _ _ (no_float_part p.thread_name) (neither _ _ (no_float_part p.mono) (neither _ _ (no_float_part p.wall) refl)))))))))))

-- ---- what is read of a value means what the value means

-- another key than that of the fields
pub word_read : (key : List ℕ) (d : Data) → (key ≡ codes "fields" → ⊥) → readable key d ≡ readable_word d
word_read key d other = ap (λ b. if b then readable_list d else readable_word d) (apart key (codes "fields") other)

number_str : (n : Num) → as_str (readable_number n) ≡ None
number_str (unsigned n) = refl
number_str (negative z) = refl
number_str (float x) = refl

readable_str : (d : Data) → as_str (readable_word d) ≡ as_str d
readable_str null = refl
readable_str (boolean b) = refl
readable_str (number n) = number_str n
readable_str (string s) = refl
readable_str (array ds) = refl
readable_str (object ms) = refl

number_whole : (n : Num) → whole_value (readable_number n) ≡ as_u64 n
number_whole (unsigned n) = refl
number_whole (negative z) = refl
number_whole (float x) = refl

readable_whole : (d : Data) → whole_value (readable_word d) ≡ whole_value d
readable_whole null = refl
readable_whole (boolean b) = refl
readable_whole (number n) = number_whole n
readable_whole (string s) = refl
readable_whole (array ds) = refl
readable_whole (object ms) = refl

number_signed : (n : Num) → signed_value (readable_number n) ≡ as_i64 n
number_signed (unsigned n) = refl
number_signed (negative z) = refl
number_signed (float x) = refl

readable_signed : (d : Data) → signed_value (readable_word d) ≡ signed_value d
readable_signed null = refl
readable_signed (boolean b) = refl
readable_signed (number n) = number_signed n
readable_signed (string s) = refl
readable_signed (array ds) = refl
readable_signed (object ms) = refl

number_parent : (n : Num) → parent_value (readable_number n) ≡ parent_value (number n)
number_parent (unsigned n) = refl
number_parent (negative z) = refl
number_parent (float x) = refl

readable_parent : (d : Data) → parent_value (readable_word d) ≡ parent_value d
readable_parent null = refl
readable_parent (boolean b) = refl
readable_parent (number n) = number_parent n
readable_parent (string s) = refl
readable_parent (array ds) = refl
readable_parent (object ms) = refl

array_fields : (o : Option (List Field)) → fields_value (readable_fields o) ≡ o
array_fields None = refl
array_fields (Some fields) = fields_read fields

readable_fields_value : (d : Data) → fields_value (readable_list d) ≡ fields_value d
readable_fields_value null = refl
readable_fields_value (boolean b) = refl
readable_fields_value (number n) = refl
readable_fields_value (string s) = refl
readable_fields_value (array ds) = array_fields (item_fields ds)
readable_fields_value (object ms) = refl

number_there : (n : Num) → unless_null (readable_number n) ≡ Some (readable_number n)
number_there (unsigned n) = refl
number_there (negative z) = refl
number_there (float x) = refl

word_there : (d : Data) → unless_null (readable_word d) ≡ option_map readable_word (unless_null d)
word_there null = refl
word_there (boolean b) = refl
word_there (number n) = number_there n
word_there (string s) = refl
word_there (array ds) = refl
word_there (object ms) = refl

fields_there : (o : Option (List Field)) → unless_null (readable_fields o) ≡ Some (readable_fields o)
fields_there None = refl
fields_there (Some fields) = refl

list_there : (d : Data) → unless_null (readable_list d) ≡ option_map readable_list (unless_null d)
list_there null = refl
list_there (boolean b) = refl
list_there (number n) = refl
list_there (string s) = refl
list_there (array ds) = fields_there (item_fields ds)
list_there (object ms) = refl

either_there : (b : Bool) (d : Data) → unless_null (if b then readable_list d else readable_word d) ≡ option_map (λ v. if b then readable_list v else readable_word v) (unless_null d)
either_there true d = list_there d
either_there false d = word_there d

readable_there : (key : List ℕ) (d : Data) → unless_null (readable key d) ≡ option_map (readable key) (unless_null d)
readable_there key d = either_there (bytes_eq key (codes "fields")) d

read_mapped : {A : Type 0} (f : Data → A) (kept : Data → Data) (o : Option Data) (absent : A) → ((d : Data) → f (kept d) ≡ f d)
    → option_map_or f (option_map kept o) absent ≡ option_map_or f o absent
read_mapped f kept None absent same = refl
read_mapped f kept (Some d) absent same = same d

found_same : {A : Type 0} (f : Data → A) (key : List ℕ) (o : Option Data) (absent : A) → ((d : Data) → f (readable key d) ≡ f d)
    → option_map_or f (unless_null (option_map_or (readable key) o null)) absent ≡ option_map_or f (option_and_then unless_null o) absent
found_same f key None absent same = refl
found_same f key (Some d) absent same = ap (λ o. option_map_or f o absent) (readable_there key d) ∙ read_mapped f (readable key) (unless_null d) absent same

-- the value at a key, in the form that is read
pub same_at : {A : Type 0} (f : Data → A) (key : List ℕ) (value : Data) (absent : A) → ((d : Data) → f (readable key d) ≡ f d)
    → option_map_or f (unless_null (readable_at key value)) absent ≡ option_map_or f (option_and_then unless_null (get key value)) absent
same_at f key value absent same = found_same f key (get key value) absent same

-- ---- the object that holds what is read encodes what the object encodes

abbrev kept : Data → Data
kept value = object (call_members value)

-- both read the same
abbrev IsKept : {A : Type 0} → (Data → A) → Data → Type 0
IsKept reader value = reader (kept value) ≡ reader value

same_id : (d : Data) → id_value (readable_word d) ≡ id_value d
same_id d = ap (option_map id_of) (readable_whole d)

same_current : (value : Data) → IsKept (read_or (Some None) (λ v. option_map Some (id_value v)) (codes "current")) value
same_current value = same_at (λ v. option_map Some (id_value v)) (codes "current") value (Some None) (λ d. ap (option_map Some) (same_id d))

same_thread : (value : Data) → IsKept (read_or (Some 1) whole_value (codes "thread")) value
same_thread value = same_at whole_value (codes "thread") value (Some 1) readable_whole

same_thread_name : (value : Data) → IsKept (read_or (Some None) (λ v. option_map Some (as_str v)) (codes "thread_name")) value
same_thread_name value = same_at (λ v. option_map Some (as_str v)) (codes "thread_name") value (Some None) (λ d. ap (option_map Some) (readable_str d))

same_mono : (value : Data) → IsKept (read_or (Some 0) whole_value (codes "mono")) value
same_mono value = same_at whole_value (codes "mono") value (Some 0) readable_whole

same_wall : (value : Data) → IsKept (read_or (Some (pos 0)) signed_value (codes "wall")) value
same_wall value = same_at signed_value (codes "wall") value (Some (pos 0)) readable_signed

same_target : (value : Data) → IsKept (read_or (Some []) as_str (codes "target")) value
same_target value = same_at as_str (codes "target") value (Some []) readable_str

same_parent : (value : Data) → IsKept (read_or (Some Current) parent_value (codes "parent")) value
same_parent value = same_at parent_value (codes "parent") value (Some Current) readable_parent

same_fields : (value : Data) → IsKept (read_or (Some []) fields_value (codes "fields")) value
same_fields value = same_at fields_value (codes "fields") value (Some []) readable_fields_value

same_id_in : (value : Data) → id_in (kept value) ≡ id_in value
same_id_in value = same_at id_value (codes "id") value None same_id

same_name : (value : Data) → read_or None as_str (codes "name") (kept value) ≡ read_or None as_str (codes "name") value
same_name value = same_at as_str (codes "name") value None readable_str

same_level : (value : Data) → IsKept (read_or None (λ v. as_str v >>= level_named) (codes "level")) value
same_level value = same_at (λ v. as_str v >>= level_named) (codes "level") value None (λ d. ap (option_and_then level_named) (readable_str d))

same_word : (value : Data) → read_or None as_str (codes "call") (kept value) ≡ read_or None as_str (codes "call") value
same_word value = same_at as_str (codes "call") value None readable_str

same_context : (value : Data) (moment : Moment) → context_in (kept value) moment ≡ context_in value moment
same_context value moment = rw (same_current value, same_thread value, same_thread_name value)

same_attributes : (value : Data) → attributes_in (kept value) ≡ attributes_in value
same_attributes value = rw (same_name value, same_target value, same_parent value, same_fields value)

same_record : (value : Data) → record_in (kept value) ≡ record_in value
same_record value = rw (same_id_in value, same_fields value)

same_event : (value : Data) → event_in (kept value) ≡ event_in value
same_event value = rw (same_level value, same_target value, same_parent value, same_fields value)

same_named : (word : List ℕ) (value : Data) (context : Context) → call_named word (kept value) context ≡ call_named word value context
same_named word value context = rw (same_attributes value, same_record value, same_event value, same_id_in value)

then_same : (first : Option Context) (word : Option (List ℕ)) (f g : Context → List ℕ → Option Call) → ((context : Context) (name : List ℕ) → f context name ≡ g context name)
    → (first >>= (λ context. word >>= (λ name. f context name))) ≡ (first >>= (λ context. word >>= (λ name. g context name)))
then_same None word f g same = refl
then_same (Some context) None f g same = refl
then_same (Some context) (Some name) f g same = same context name

same_call : (value : Data) (moment : Moment) → object_call (kept value) moment ≡ object_call value moment
same_call value moment =
    ap₂ (λ context word. context >>= (λ c. word >>= (λ name. call_named name (kept value) c))) (same_context value moment) (same_word value)
    ∙ then_same (context_in value moment) (read_or None as_str (codes "call") value) (λ context name. call_named name (kept value) context)
    (λ context name. call_named name value context) (λ context name. same_named name value context)

same_moment : (value : Data) (moment : Moment) → IsMomentIn (kept value) moment → IsMomentIn value moment
same_moment value moment timed = record { mono = sym (same_mono value) ∙ timed.mono; wall = sym (same_wall value) ∙ timed.wall }

kept_moment : (value : Data) (moment : Moment) → IsMomentIn value moment → IsMomentIn (kept value) moment
kept_moment value moment timed = record { mono = same_mono value ∙ timed.mono; wall = same_wall value ∙ timed.wall }

value_spelled : (p : Parts) (value : Data) (call : Call) → has_float value ≡ false → parts_members p ≡ call_members value → ValueSpells (parts_data p) call → ValueSpells value call
value_spelled p value call whole same s =
    let is : parts_data p ≡ kept value = ap object same in
    record {
      no_float = whole;
      moment = s.moment;
      timed = same_moment value s.moment (subst (λ (v : Data). IsMomentIn v s.moment) is s.timed);
      spelled = sym (same_call value s.moment) ∙ sym (ap (λ v. object_call v s.moment) is) ∙ s.spelled;
    }

parts_spelled : (p : Parts) (value : Data) (call : Call) → parts_members p ≡ call_members value → ValueSpells value call → ValueSpells (parts_data p) call
parts_spelled p value call same s =
    let is : kept value ≡ parts_data p = sym (ap object same) in
    record {
      no_float = no_float_parts p;
      moment = s.moment;
      timed = subst (λ (v : Data). IsMomentIn v s.moment) is (kept_moment value s.moment s.timed);
      spelled = sym (ap (λ v. object_call v s.moment) is) ∙ same_call value s.moment ∙ s.spelled;
    }

-- an object of whole numbers has no float
pub whole_parts : (line : List ℕ) (p : Parts) → IsObjectLine line p → p.is_whole ≡ true → HasParts line p
whole_parts line p found whole =
    let tree = json.object found.members in
    let settled = whole_settled line tree found.reads (sym found.kept.whole ∙ whole) in
    record { text = found.text; value = data_of tree; reads = settled.0; no_float = settled.1; kept = found.kept.kept }

-- the same of an object without floats
without_float : (line : List ℕ) (p : Parts) → IsObjectLine line p → HasNoFloat line → HasParts line p
without_float line p found none =
    let tree = json.object found.members in
    let settled = float_settled line tree found.reads none in
    record { text = found.text; value = data_of tree; reads = settled.0; no_float = settled.1; kept = found.kept.kept }

pub floats_refused : {A : Type 0} (line : List ℕ) (p : Parts) (result : Result A LineCause) → IsObjectLine line p → RefusesFloat line result → ReadsParts line p result
floats_refused line p (Ok done) found none = without_float line p found none
floats_refused line p (Err cause) found refused = refused

-- the call of a line is that of its parts
pub made_of_parts : {S : Type 0} (Answered : Answering S) (line : List ℕ) (p : Parts) (result : Result Reply LineCause) (old new : S) → HasParts line p
    → MakesSpelled Answered (ValueSpells (parts_data p)) result old new → MakesSpelled Answered (SpellsCall line) result old new
made_of_parts Answered line p result old new h made =
    spelled_as Answered (ValueSpells (parts_data p)) (SpellsCall line) result old new
    (λ call s. line_spells line h.value call h.text h.reads (value_spelled p h.value call h.no_float h.kept s))
    (λ call s. parts_spelled p h.value call h.kept (value_spells line h.value call h.reads s)) made
