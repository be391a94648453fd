-- Reading an object, a token at a time.
use Rattle.std.specs.Prelude.{◌≡◌, ℕ, Bool, true, false, List, [], ◌∷◌, ◌++◌, length, Option, Some, None, codes, refl, Result, Ok, Err}
use Rattle.std.proofs.Common.{sym, ap, ◌∙◌, subst, append-nil, arith, true≢false}
use Rattle.std.specs.Borrow.{Bor}
use Rattle.std.specs.Result.{IsErr, IsErrAnd}
use Rattle.json.specs.Reads.{token_of}
use Rattle.json.specs.declared.token.Token.{Token as ReadToken}
use Rattle.json.specs.declared.token.Token.TheVariants as Read
use Rattle.json.specs.Token.{Token}
use Rattle.json.specs.Json as json
use Rattle.json.specs.Json.{parse_map, after_end_array, read_key}
use Rattle.json.proofs.Grammar.{value_is, value-begin_array, value-begin_object}
use Rattle.serde_json.specs.Data.{Num, Data, boolean, object, Items, item, Members, no_members, put}
use Rattle.serde_json.specs.Read.{number_of}
use Rattle.tracing_tree_base.specs.declared.field.Field.{Field}
use Rattle.tracing_tree_lines.specs.Lines.Borrowed.{number_data, data_of, items_data, members_data}
use Rattle.tracing_tree_lines.specs.Lines.Parts.{part_data, listed_data, parts_members, no_parts, call_members, with_key, readable, readable_word, readable_list, readable_fields, IsNumberPart}
use Rattle.tracing_tree_lines.specs.Lines.Spelled.{field_value, item_fields}
use Rattle.tracing_tree_lines.specs.Lines.Taken.{IsValueTaken, IsItemTaken, AreFieldsTaken, ArePartsTaken, IsTaken, IsListTaken, IsMemberTaken, TakesFields, TakesList, TakesParts}
use Rattle.tracing_tree_lines.proofs.LineParts.{with_put, word_read}
use Rattle.tracing_tree_lines.proofs.Pairs.{behind, behind_more}
use Rattle.tracing_tree_lines.proofs.Taken.{whole_taken, same_taken, some_number_passed, other_number_passed, PassesItems, no_items_passed, item_passed, items_passed, item_unread, PassesMembers, no_members_passed, member_passed, members_passed, key_unread, member_unread}
use Rattle.tracing_tree_lines.specs.Lines.Values.{IsUnlessMemory}
use Rattle.tracing_tree_lines.specs.declared.lines.LineCause.{LineCause}
use Rattle.tracing_tree_lines.specs.declared.lines.LineCause.TheVariants.{Settings as NoSettings, NotACall, Read, Memory, Refused}
use Rattle.tracing_tree_lines.specs.declared.lines.part.Part.{Part}
use Rattle.tracing_tree_lines.specs.declared.lines.part.Part.TheVariants.{Absent, Text, Other}
use Rattle.tracing_tree_lines.specs.declared.lines.part.FieldsPart.{FieldsPart}
use Rattle.tracing_tree_lines.specs.declared.lines.part.FieldsPart.TheVariants as Listed
use Rattle.tracing_tree_lines.specs.declared.lines.parts.Parts.{Parts}

-- ---- members

-- some members were read, and these parts hold what is read of them
pub record ReadsMembers (first now : List Token) (parts : Parts) : Type 0 where
  pub passed : PassesMembers 126 first now true parts.is_whole
  pub found : Members
  pub stands : (rest : json.Members) → members_data (passed.onto rest) no_members ≡ members_data rest found
  pub kept : parts_members parts ≡ call_members (object found)

pub no_members_read : (first : List Token) (parts : Parts) → parts_members parts ≡ no_parts → parts.is_whole ≡ true → ReadsMembers first first parts
no_members_read first parts none whole = record {
  passed = no_members_passed 126 first true parts.is_whole (sym whole);
  found = no_members;
  stands = λ rest. refl;
  kept = none;
}

-- the value at another key than that of the fields
pub word_member : (key : List ℕ) (old new : List Token) (part : Part) (before after : Parts) (b : Bool) → (key ≡ codes "fields" → ⊥) → IsTaken old new before.is_whole b part
    → parts_members after ≡ with_key key (part_data part) (parts_members before) → after.is_whole ≡ b → IsMemberTaken key old new before after
word_member key old new part before after b other_key is set whole = record {
  passed = subst (IsValueTaken 126 old new before.is_whole) (sym whole) is.passed;
  put = set ∙ ap (λ d. with_key key d (parts_members before)) (is.kept ∙ sym (word_read key (data_of is.passed.value) other_key));
}

-- the value at the key of the fields
pub fields_member : (key : List ℕ) (old new : List Token) (list : FieldsPart) (before after : Parts) (b : Bool) → key ≡ codes "fields" → IsListTaken old new before.is_whole b list
    → parts_members after ≡ with_key (codes "fields") (listed_data list) (parts_members before) → after.is_whole ≡ b → IsMemberTaken key old new before after
fields_member key old new list before after b same is set whole = record {
  passed = subst (IsValueTaken 126 old new before.is_whole) (sym whole) is.passed;
  put = set ∙ ap (λ d. with_key (codes "fields") d (parts_members before)) is.kept ∙ sym (ap (λ k. with_key k (readable k (data_of is.passed.value)) (parts_members before)) same);
}

-- one more member
pub member_read : (first now s r : List Token) (parts new : Parts) (key : List ℕ) → ReadsMembers first now parts → read_key now ≡ Some (Some key, s) → IsMemberTaken key s r parts new
    → ReadsMembers first r new
member_read first now s r parts new key read at is = record {
  passed = member_passed 126 first now s r key true parts.is_whole new.is_whole read.passed at is.passed;
  found = put key (data_of is.passed.value) read.found;
  stands = λ rest. read.stands (json.member key is.passed.value rest);
  kept = is.put ∙ ap (with_key key (readable key (data_of is.passed.value))) read.kept ∙ with_put no_parts key (data_of is.passed.value) read.found;
}

-- the members end
pub parts_taken : (first now r : List Token) (parts : Parts) → ReadsMembers first now parts → read_key now ≡ Some (None, r) → ArePartsTaken first r parts
parts_taken first now r parts read end =
    let all = members_passed 126 first now r true parts.is_whole read.passed end in
    record {
      members = all.members;
      taken = all.taken;
      kept = record { kept = read.kept ∙ ap (λ ms. call_members (object ms)) (sym (read.stands json.no_members)); whole = all.whole };
    }

-- a key that can't be read
pub key_failed : (first now : List Token) (parts : Parts) → ReadsMembers first now parts → read_key now ≡ None → json.members (json.value 126) (length first) first ≡ None
key_failed first now parts read none = key_unread 126 first now true parts.is_whole read.passed none

-- ---- fields

-- some items were read; these are their fields, if each is one
pub record ReadsItems (first now : List Token) (before after : Bool) (fields : List Field) (are_fields : Bool) : Type 0 where
  pub passed : PassesItems 125 first now before after
  pub all : are_fields ≡ true → (rest : json.Items) → item_fields (items_data (passed.onto rest)) ≡ behind fields (item_fields (items_data rest))
  pub other : are_fields ≡ false → (rest : json.Items) → item_fields (items_data (passed.onto rest)) ≡ None

pub no_items_read : (first : List Token) (b : Bool) → ReadsItems first first b b [] true
no_items_read first b = record {
  passed = no_items_passed 125 first b;
  all = λ is rest. nothing_before (item_fields (items_data rest));
  other = λ is. absurd (true≢false is);
}
  where
    nothing_before : (o : Option (List Field)) → o ≡ behind [] o
    nothing_before None = refl
    nothing_before (Some fields) = refl

-- one more item, which is a field
pub field_item_read : (first now r : List Token) (before b c : Bool) (fields new : List Field) (are_fields : Bool) (field : Field) → ReadsItems first now before b fields are_fields
    → after_end_array now ≡ None → IsItemTaken now r b c (Some field) → new ≡ fields ++ field ∷ [] → ReadsItems first r before c new are_fields
field_item_read first now r before b c fields new are_fields field read going is pushed =
    let value = is.passed.value in
    record {
      passed = item_passed 125 first now r before b c read.passed going is.passed;
      all = λ all rest. read.all all (json.item value rest) ∙ behind_more fields (data_of value) field (items_data rest) (sym is.is)
          ∙ ap (λ front. behind front (item_fields (items_data rest))) (sym pushed);
      other = λ none rest. read.other none (json.item value rest);
    }

no_fields : (value : Data) (others : Items) → field_value value ≡ None → item_fields (item value others) ≡ None
no_fields value others none = rw none

either_all : (b : Bool) (P : Type 0) → (b ≡ true → P) → (b ≡ false → P) → P
either_all true P all other = all refl
either_all false P all other = other refl

-- one more item, which isn't a field
pub other_item_read : (first now r : List Token) (before b c : Bool) (fields : List Field) (are_fields : Bool) → ReadsItems first now before b fields are_fields → after_end_array now ≡ None
    → IsItemTaken now r b c None → ReadsItems first r before c fields false
other_item_read first now r before b c fields are_fields read going is =
    let value = is.passed.value in
    record {
      passed = item_passed 125 first now r before b c read.passed going is.passed;
      all = λ all. absurd (true≢false (sym all));
      other = λ none rest. either_all are_fields (item_fields (items_data (read.passed.onto (json.item value rest))) ≡ None)
          (λ all. read.all all (json.item value rest) ∙ ap (behind fields) (no_fields (data_of value) (items_data rest) (sym is.is)))
          (λ not_all. read.other not_all (json.item value rest));
    }

-- the array of fields ends
pub fields_part : (first now r : List Token) (before b : Bool) (fields : List Field) (are_fields : Bool) → ReadsItems first now before b fields are_fields → are_fields ≡ true
    → after_end_array now ≡ Some r → AreFieldsTaken first r before b (Listed.Fields fields)
fields_part first now r before b fields are_fields read all end =
    let found = read.all all json.no_items ∙ ap Some (append-nil fields) in
    record { passed = items_passed 125 first now r before b read.passed end; kept = sym (ap readable_fields found) }

pub other_fields_part : (first now r : List Token) (before b : Bool) (fields : List Field) (are_fields : Bool) → ReadsItems first now before b fields are_fields → are_fields ≡ false
    → after_end_array now ≡ Some r → AreFieldsTaken first r before b Listed.Other
other_fields_part first now r before b fields are_fields read not_all end =
    record { passed = items_passed 125 first now r before b read.passed end; kept = sym (ap readable_fields (read.other not_all json.no_items)) }

-- an item that can't be read
pub item_failed : (first now : List Token) (before b : Bool) (fields : List Field) (are_fields : Bool) → ReadsItems first now before b fields are_fields → after_end_array now ≡ None
    → json.value 125 now ≡ None → json.items (json.value 125) (length first) first ≡ None
item_failed first now before b fields are_fields read going none = item_unread 125 first now before b read.passed going none

-- ---- faults

-- a fault that is returned
pub fault_is : {A : Type 0} (result : Result A LineCause) (cause : LineCause) → IsErr result → IsErrAnd result (λ passed. passed ≡ cause) → result ≡ Err cause
fault_is (Ok a) cause failed is = cc
fault_is (Err passed) cause failed is = ap Err is

-- a cause for which the rest couldn't be read is one for the whole
pub unless_memory : (P Q : Type 0) (cause : LineCause) → (P → Q) → IsUnlessMemory NotACall P cause → IsUnlessMemory NotACall Q cause
unless_memory P Q NoSettings then is = (is.0, then is.1)
unless_memory P Q NotACall then is = (is.0, then is.1)
unless_memory P Q Read then is = is
unless_memory P Q Memory then is = tt
unless_memory P Q (Refused refusal) then is = is

pub parts_failed : (A : Type 0) (first now s r : List Token) (parts after : Parts) (key : List ℕ) (cause : LineCause) → ReadsMembers first now parts → read_key now ≡ Some (Some key, s)
    → IsUnlessMemory NotACall (json.value 126 s ≡ None) cause → TakesParts {A = A} first r after (Err cause)
parts_failed A first now s r parts after key cause read at is = unless_memory _ _ cause (λ none. member_unread 126 first now s key true parts.is_whole read.passed at none) is

-- ---- a value

pub null_taken : (old new : List Token) (b : Bool) → old ≡ Token.null ∷ new → IsTaken old new b b Absent
null_taken old new b is = record { passed = whole_taken 126 old new b json.null (ap (json.value 126) is ∙ value_is 126 (Token.null ∷ new)) refl; kept = refl }

pub text_taken : (old new : List Token) (b : Bool) (text : Bor (List ℕ)) → old ≡ Token.string text.now ∷ new → IsTaken old new b b (Text text)
text_taken old new b text is =
    record { passed = whole_taken 126 old new b (json.string text.now) (ap (json.value 126) is ∙ value_is 126 (Token.string text.now ∷ new)) refl; kept = refl }

pub number_taken : (old new : List Token) (b : Bool) (s : List ℕ) (part : Part) → old ≡ Token.number s ∷ new → IsNumberPart s (Some part) → IsTaken old new b b part
number_taken old new b s part is kept = record { passed = some_number_passed 126 old new b s (Some part) is refl kept; kept = kept.1 }

-- a number that isn't whole
pub other_number_taken : (old new : List Token) (b : Bool) (s : List ℕ) → old ≡ Token.number s ∷ new → IsNumberPart s None → IsTaken old new b false Other
other_number_taken old new b s is kept = record { passed = other_number_passed 126 old new b s is kept; kept = kept.1 }

-- ---- another value

-- of this value, if it is one, `false` is read
abbrev IsFalse : (Data → Data) → Option (json.Json × List Token) → Type 0
IsFalse f None = Unit {0}
IsFalse f (Some p) = f (data_of p.0) ≡ boolean false

false_wrapped : {A : Type 0} (f : Data → Data) (wrap : A → json.Json) (o : Option (A × List Token)) → ((a : A) → f (data_of (wrap a)) ≡ boolean false) → IsFalse f (parse_map wrap o)
false_wrapped f wrap None holds = tt
false_wrapped f wrap (Some p) holds = holds p.0

word_is_false : (first : ReadToken) (ts : List Token) → (first ≡ Read.Null → ⊥) → ((s : Bor (List ℕ)) → first ≡ Read.String s → ⊥) → ((s : Bor (List ℕ)) → first ≡ Read.Number s → ⊥)
    → IsFalse readable_word (json.value 126 (token_of first ∷ ts))
word_is_false Read.BeginObject ts no_null no_text no_number =
    subst (IsFalse readable_word) (sym (value-begin_object 126 ts (omega arith))) (false_wrapped readable_word json.object _ (λ ms. refl))
word_is_false Read.EndObject ts no_null no_text no_number = subst (IsFalse readable_word) (sym (value_is 126 (Token.end_object ∷ ts))) tt
word_is_false Read.BeginArray ts no_null no_text no_number =
    subst (IsFalse readable_word) (sym (value-begin_array 126 ts (omega arith))) (false_wrapped readable_word json.array _ (λ js. refl))
word_is_false Read.EndArray ts no_null no_text no_number = subst (IsFalse readable_word) (sym (value_is 126 (Token.end_array ∷ ts))) tt
word_is_false (Read.Key s) ts no_null no_text no_number = subst (IsFalse readable_word) (sym (value_is 126 (Token.key s.now ∷ ts))) tt
word_is_false (Read.String s) ts no_null no_text no_number = absurd (no_text s refl)
word_is_false (Read.Number s) ts no_null no_text no_number = absurd (no_number s refl)
word_is_false (Read.Bool b) ts no_null no_text no_number = subst (IsFalse readable_word) (sym (value_is 126 (Token.boolean b ∷ ts))) refl
word_is_false Read.Null ts no_null no_text no_number = absurd (no_null refl)
word_is_false Read.Bad ts no_null no_text no_number = subst (IsFalse readable_word) (sym (value_is 126 (Token.bad ∷ ts))) tt

number_is_false : (o : Option Num) → readable_list (number_data o) ≡ boolean false
number_is_false None = refl
number_is_false (Some n) = refl

list_is_false : (first : ReadToken) (ts : List Token) → (first ≡ Read.Null → ⊥) → (first ≡ Read.BeginArray → ⊥) → IsFalse readable_list (json.value 126 (token_of first ∷ ts))
list_is_false Read.BeginObject ts no_null no_array =
    subst (IsFalse readable_list) (sym (value-begin_object 126 ts (omega arith))) (false_wrapped readable_list json.object _ (λ ms. refl))
list_is_false Read.EndObject ts no_null no_array = subst (IsFalse readable_list) (sym (value_is 126 (Token.end_object ∷ ts))) tt
list_is_false Read.BeginArray ts no_null no_array = absurd (no_array refl)
list_is_false Read.EndArray ts no_null no_array = subst (IsFalse readable_list) (sym (value_is 126 (Token.end_array ∷ ts))) tt
list_is_false (Read.Key s) ts no_null no_array = subst (IsFalse readable_list) (sym (value_is 126 (Token.key s.now ∷ ts))) tt
list_is_false (Read.String s) ts no_null no_array = subst (IsFalse readable_list) (sym (value_is 126 (Token.string s.now ∷ ts))) refl
list_is_false (Read.Number s) ts no_null no_array = subst (IsFalse readable_list) (sym (value_is 126 (Token.number s.now ∷ ts))) (number_is_false (number_of s.now))
list_is_false (Read.Bool b) ts no_null no_array = subst (IsFalse readable_list) (sym (value_is 126 (Token.boolean b ∷ ts))) refl
list_is_false Read.Null ts no_null no_array = absurd (no_null refl)
list_is_false Read.Bad ts no_null no_array = subst (IsFalse readable_list) (sym (value_is 126 (Token.bad ∷ ts))) tt

pub word_passed : (first : ReadToken) (old ts new : List Token) (b c : Bool) → old ≡ token_of first ∷ ts → (first ≡ Read.Null → ⊥) → ((s : Bor (List ℕ)) → first ≡ Read.String s → ⊥)
    → ((s : Bor (List ℕ)) → first ≡ Read.Number s → ⊥) → IsValueTaken 126 (token_of first ∷ ts) new b c → IsTaken old new b c Other
word_passed first old ts new b c is no_null no_text no_number passed = record {
  passed = same_taken 126 old (token_of first ∷ ts) new b c is passed;
  kept = sym (subst (IsFalse readable_word) passed.taken (word_is_false first ts no_null no_text no_number));
}

pub list_passed : (first : ReadToken) (old ts new : List Token) (b c : Bool) → old ≡ token_of first ∷ ts → (first ≡ Read.Null → ⊥) → (first ≡ Read.BeginArray → ⊥)
    → IsValueTaken 126 (token_of first ∷ ts) new b c → IsListTaken old new b c Listed.Other
list_passed first old ts new b c is no_null no_array passed = record {
  passed = same_taken 126 old (token_of first ∷ ts) new b c is passed;
  kept = sym (subst (IsFalse readable_list) passed.taken (list_is_false first ts no_null no_array));
}

-- ---- the fields

pub no_list_taken : (old new : List Token) (b : Bool) → old ≡ Token.null ∷ new → IsListTaken old new b b Listed.Absent
no_list_taken old new b is = record { passed = whole_taken 126 old new b json.null (ap (json.value 126) is ∙ value_is 126 (Token.null ∷ new)) refl; kept = refl }

pub array_taken : (old ts new : List Token) (b c : Bool) (result : Result FieldsPart LineCause) → old ≡ Token.begin_array ∷ ts → TakesFields ts new b c result → TakesList old new b c result
array_taken old ts new b c (Ok list) is read = record {
  passed = record {
    value = json.array read.passed.items;
    taken = ap (json.value 126) is ∙ value-begin_array 126 ts (omega arith) ∙ ap (parse_map json.array) read.passed.taken;
    whole = read.passed.whole;
  };
  kept = read.kept;
}
array_taken old ts new b c (Err cause) is failed =
    unless_memory _ _ cause (λ none. ap (json.value 126) is ∙ value-begin_array 126 ts (omega arith) ∙ ap (parse_map json.array) none) failed
