-- A line that isn't an object of JSON encodes no call.
use Rattle.std.specs.Prelude.{◌≡◌, ℕ, true, false, List, [], ◌∷◌, length, Option, Some, None, MatchOption, is_some, option_map, option_and_then, refl, Err, IsUtf8, codes, ⊤}
use Rattle.std.proofs.Common.{sym, ap, ◌∙◌, subst, arith, true≢false}
use Rattle.std.proofs.lemmas.Option.{same_Some, none-some}
use Rattle.json.specs.Json as json
use Rattle.json.specs.Json.{parse_map}
use Rattle.json.specs.Lex.{tokens}
use Rattle.json.specs.Reads.{token_of}
use Rattle.json.specs.Token as spec
use Rattle.json.specs.declared.token.Token.{Token}
use Rattle.json.specs.declared.token.Token.TheVariants.{BeginObject, EndObject, BeginArray, EndArray, Key, String, Number, Bool, Null, Bad}
use Rattle.json.proofs.Grammar.{value_is, value-begin_array, value-begin_object}
use Rattle.serde_json.specs.Data.{Num, Data, null, boolean, number, string, array, object, Items}
use Rattle.serde_json.specs.Read.{number_of, of_json, of_items, read}
use Rattle.tracing_tree_layer.specs.declared.call.Call.{Call}
use Rattle.tracing_tree_lines.proofs.BorrowedTrees.{tree_read, tree_and_more, no_tree}
use Rattle.tracing_tree_lines.proofs.LineTokens.{unless_memory}
use Rattle.tracing_tree_lines.specs.Lines.Parts.{IsObjectLine, ReadsObject}
use Rattle.tracing_tree_lines.specs.Lines.Taken.{opens_object, ArePartsTaken, TakesParts}
use Rattle.serde_json.specs.Find.{as_object, as_str}
use Rattle.tracing_tree_base.specs.declared.context.Moment.{Moment}
use Rattle.tracing_tree_lines.proofs.Moments.{reads_none}
use Rattle.tracing_tree_lines.specs.Lines.Values.{IsUnlessMemory, ValueSpells}
use Rattle.tracing_tree_lines.specs.declared.lines.LineCause.TheVariants.{NotACall}
use Rattle.tracing_tree_lines.specs.Lines.Spelled.{◌>>=◌, object_call, read_or, context_in, call_named, IsMomentIn, SpellsCall}
use Rattle.tracing_tree_lines.specs.declared.lines.LineCause.{LineCause}
use Rattle.tracing_tree_lines.specs.declared.lines.parts.Parts.{Parts}

-- ---- what encodes a call

-- the object that a value is, if it is one
abbrev only_object : Data → Option Data
only_object value = option_map object (as_object value)

-- what encodes a call is an object
spelled_object : (value : Data) (moment : Moment) (call : Call) → object_call value moment ≡ Some call → only_object value ≡ Some value
spelled_object null moment call e = absurd (none-some call e)
spelled_object (boolean b) moment call e = absurd (none-some call e)
spelled_object (number n) moment call e = absurd (none-some call e)
spelled_object (string s) moment call e = absurd (none-some call e)
spelled_object (array ds) moment call e = absurd (none-some call e)
spelled_object (object ms) moment call e = refl

-- a line that encodes a call is an object
read_object : (line : List ℕ) (call : Call) (s : SpellsCall line call) → (read line >>= only_object) ≡ Some s.value
read_object line call s = rw s.reads (spelled_object s.value s.moment call s.spelled)

no_number : (o : Option Num) (value : Data) → (option_map number o >>= only_object) ≡ Some value → ⊥
no_number None value e = none-some value e
no_number (Some n) value e = none-some value e

no_array : (o : Option Items) (value : Data) → (option_map array o >>= only_object) ≡ Some value → ⊥
no_array None value e = none-some value e
no_array (Some ds) value e = none-some value e

-- what reads as an object is an object
is_object : (j : json.Json) (value : Data) → (of_json j >>= only_object) ≡ Some value → (ms : json.Members) × (j ≡ json.object ms)
is_object json.null value e = absurd (none-some value e)
is_object (json.boolean b) value e = absurd (none-some value e)
is_object (json.number s) value e = absurd (no_number (number_of s) value e)
is_object (json.string s) value e = absurd (none-some value e)
is_object (json.array js) value e = absurd (no_array (of_items js) value e)
is_object (json.object ms) value e = (ms, refl)

abbrev IsNoObject : Option (json.Json × List spec.Token) → Type 0
IsNoObject o = (ms : json.Members) (rest : List spec.Token) → o ≡ Some (json.object ms, rest) → ⊥

no_value : (o : Option (json.Json × List spec.Token)) (value : Data) → IsNoObject o
    → (option_and_then of_json (option_and_then (λ p. json.if_last p.0 p.1) o) >>= only_object) ≡ Some value → ⊥
no_value None value never e = none-some value e
no_value (Some (j, [])) value never e = let found = is_object j value e in never found.0 [] (ap (λ x. Some (x, [])) found.1)
no_value (Some (j, t ∷ more)) value never e = none-some value e

-- a line that begins with no object
pub no_object_call : (line : List ℕ) → IsNoObject (json.value 127 (tokens line)) → (call : Call) → ¬ SpellsCall line call
no_object_call line never call s = no_value (json.value 127 (tokens line)) s.value never (read_object line call s)

-- a line that doesn't read
unread_call : (line : List ℕ) → read line ≡ None → (call : Call) → ¬ SpellsCall line call
unread_call line none call s = none-some s.value (sym none ∙ s.reads)

-- ---- the first token

abbrev IsOther : json.Json → Type 0
IsOther json.null = ⊤
IsOther (json.boolean b) = ⊤
IsOther (json.number s) = ⊤
IsOther (json.string s) = ⊤
IsOther (json.array js) = ⊤
IsOther (json.object ms) = ⊥

abbrev HoldsOther : Option (json.Json × List spec.Token) → Type 0
HoldsOther None = ⊤
HoldsOther (Some p) = IsOther p.0

never_object : (o : Option (json.Json × List spec.Token)) → HoldsOther o → IsNoObject o
never_object o holds ms rest e = subst HoldsOther e holds

arrays_other : (o : Option (json.Items × List spec.Token)) → HoldsOther (parse_map json.array o)
arrays_other None = tt
arrays_other (Some p) = tt

-- another token than the brace of an object
pub other_first : (first : Option Token) (old new : List spec.Token) → MatchOption first ((old ≡ []) × (new ≡ [])) (λ t. old ≡ token_of t ∷ new) → (first ≡ Some BeginObject → ⊥)
    → IsNoObject (json.value 127 old)
other_first None old new is other = never_object _ (subst HoldsOther (sym (ap (json.value 127) is.0 ∙ value_is 127 [])) tt)
other_first (Some BeginObject) old new is other = absurd (other refl)
other_first (Some EndObject) old new is other = never_object _ (subst HoldsOther (sym (ap (json.value 127) is ∙ value_is 127 (spec.end_object ∷ new))) tt)
other_first (Some BeginArray) old new is other =
    never_object _ (subst HoldsOther (sym (ap (json.value 127) is ∙ value-begin_array 127 new (omega arith))) (arrays_other _))
other_first (Some EndArray) old new is other = never_object _ (subst HoldsOther (sym (ap (json.value 127) is ∙ value_is 127 (spec.end_array ∷ new))) tt)
other_first (Some (Key s)) old new is other = never_object _ (subst HoldsOther (sym (ap (json.value 127) is ∙ value_is 127 (spec.key s.now ∷ new))) tt)
other_first (Some (String s)) old new is other = never_object _ (subst HoldsOther (sym (ap (json.value 127) is ∙ value_is 127 (spec.string s.now ∷ new))) tt)
other_first (Some (Number s)) old new is other = never_object _ (subst HoldsOther (sym (ap (json.value 127) is ∙ value_is 127 (spec.number s.now ∷ new))) tt)
other_first (Some (Bool b)) old new is other = never_object _ (subst HoldsOther (sym (ap (json.value 127) is ∙ value_is 127 (spec.boolean b ∷ new))) tt)
other_first (Some Null) old new is other = never_object _ (subst HoldsOther (sym (ap (json.value 127) is ∙ value_is 127 (spec.null ∷ new))) tt)
other_first (Some Bad) old new is other = never_object _ (subst HoldsOther (sym (ap (json.value 127) is ∙ value_is 127 (spec.bad ∷ new))) tt)

-- what opens no object
pub other_token : (t : Token) → opens_object t ≡ false → Some t ≡ Some BeginObject → ⊥
other_token t closed is = true≢false (sym (ap opens_object (same_Some t BeginObject is)) ∙ closed)

-- what opens an object
pub brace_token : (t : Token) → opens_object t ≡ true → token_of t ≡ spec.begin_object
brace_token BeginObject is = refl
brace_token EndObject is = cc
brace_token BeginArray is = cc
brace_token EndArray is = cc
brace_token (Key s) is = cc
brace_token (String s) is = cc
brace_token (Number s) is = cc
brace_token (Bool b) is = cc
brace_token Null is = cc
brace_token Bad is = cc

-- ---- the object

object_value : (line : List ℕ) (ts rest : List spec.Token) (ms : json.Members) → tokens line ≡ spec.begin_object ∷ ts
    → json.members (json.value 126) (length ts) ts ≡ Some (ms, rest) → json.value 127 (tokens line) ≡ Some (json.object ms, rest)
object_value line ts rest ms is found = ap (json.value 127) is ∙ value-begin_object 127 ts (omega arith) ∙ ap (parse_map json.object) found

-- members that can't be read
pub object_failed : (A : Type 0) (line : List ℕ) (ts new : List spec.Token) (parts : Parts) (cause : LineCause) → tokens line ≡ spec.begin_object ∷ ts → TakesParts {A = A} ts new parts (Err cause) → ReadsObject {A = A} line parts (Err cause)
object_failed A line ts new parts cause is failed =
    unless_memory _ _ cause (λ none. unread_call line (no_tree line (ap (json.value 127) is ∙ value-begin_object 127 ts (omega arith) ∙ ap (parse_map json.object) none))) failed

-- tokens after the object
pub object_and_more : (line : List ℕ) (ts left : List spec.Token) (next : Option Token) (new : List spec.Token) (parts : Parts) → tokens line ≡ spec.begin_object ∷ ts
    → MatchOption next ((left ≡ []) × (new ≡ [])) (λ t. left ≡ token_of t ∷ new) → is_some next ≡ true → ArePartsTaken ts left parts → (call : Call) → ¬ SpellsCall line call
object_and_more line ts left None new parts is after some taken = absurd (true≢false (sym some))
object_and_more line ts left (Some t) new parts is after some taken =
    unread_call line (tree_and_more line (json.object taken.members) (token_of t) new (object_value line ts (token_of t ∷ new) taken.members is (taken.taken ∙ ap (λ r. Some (taken.members, r)) after)))

-- only the object
pub object_alone : (line : List ℕ) (ts left : List spec.Token) (next : Option Token) (new : List spec.Token) (parts : Parts) → IsUtf8 line → tokens line ≡ spec.begin_object ∷ ts
    → MatchOption next ((left ≡ []) × (new ≡ [])) (λ t. left ≡ token_of t ∷ new) → is_some next ≡ false → ArePartsTaken ts left parts → IsObjectLine line parts
object_alone line ts left (Some t) new parts text is after none taken = absurd (true≢false none)
object_alone line ts left None new parts text is after none taken = record {
  text = text;
  members = taken.members;
  reads = tree_read line (json.object taken.members) (object_value line ts [] taken.members is (taken.taken ∙ ap (λ r. Some (taken.members, r)) after.0));
  kept = taken.kept;
}

-- ---- the context

-- if no context can be read, there is no call
pub no_context : (value : Data) (cause : LineCause) → IsUnlessMemory NotACall ((moment : Moment) → IsMomentIn value moment → context_in value moment ≡ None) cause
    → IsUnlessMemory NotACall ((call : Call) → ¬ ValueSpells value call) cause
no_context value cause failed =
    unless_memory _ _ cause
    (λ none. reads_none value (λ moment timed. ap (λ context. context >>= (λ c. read_or None as_str (codes "call") value >>= (λ name. call_named name value c))) (none moment timed))) failed
