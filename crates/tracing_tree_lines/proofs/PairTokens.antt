-- Reading a pair of strings, a token at a time.
use Rattle.std.specs.Prelude.{◌≡◌, ℕ, Bool, List, ◌∷◌, length, Option, Some, None, option_and_then, MatchResult, Result, Ok, Err, refl}
use Rattle.std.specs.Borrow.{Bor}
use Rattle.std.proofs.Common.{sym, ap, ◌∙◌, arith}
use Rattle.json.specs.Token.{Token}
use Rattle.json.specs.Json as json
use Rattle.json.specs.Json.{parse_map, after_end_array, skip_value}
use Rattle.json.specs.Reads.{token_of, skip_items}
use Rattle.json.specs.declared.token.Token.{Token as ReadToken}
use Rattle.json.specs.declared.token.Token.TheVariants as Read
use Rattle.json.proofs.Grammar.{left_none, value_is, value-begin_array, value-begin_object}
use Rattle.serde_json.specs.Data.{Items, item, no_items}
use Rattle.serde_json.specs.Find.{as_str}
use Rattle.tracing_tree_lines.specs.Lines.Borrowed.{data_of, items_data}
use Rattle.tracing_tree_lines.specs.Lines.Taken.{pair_with, IsValueTaken, IsItemTaken, IsPairTaken, IsTextTaken}
use Rattle.tracing_tree_lines.specs.Lines.Spelled.{field_value, pair_field}
use Rattle.tracing_tree_lines.specs.declared.lines.pair.Texts.{Texts}
use Rattle.tracing_tree_lines.specs.declared.lines.pair.Texts.TheVariants.{None as NoText}
use Rattle.serde_json.specs.Read.{number_of}
use Rattle.tracing_tree_base.specs.declared.field.Field.{Field}
use Rattle.tracing_tree_lines.proofs.BorrowedTrees.{no_str, no_field}
use Rattle.tracing_tree_lines.proofs.Taken.{whole_taken, same_taken, PassesItems, no_items_passed, item_passed, items_passed, item_unread}

-- some items were read, and these strings are what may be a pair of them
pub record ReadsTexts (first now : List Token) (before after : Bool) (texts : Texts) : Type 0 where
  pub passed : PassesItems 124 first now before after
  pub stands : (rest : json.Items) → pair_with texts (items_data rest) ≡ pair_field (items_data (passed.onto rest))

pub no_texts_read : (first : List Token) (b : Bool) → ReadsTexts first first b b NoText
no_texts_read first b = record { passed = no_items_passed 124 first b; stands = λ rest. refl }

-- one more item
pub text_item_read : (first now r : List Token) (before b c : Bool) (texts new : Texts) (text : Option (List ℕ)) → ReadsTexts first now before b texts → after_end_array now ≡ None
    → IsTextTaken now r b c text → ((value : _) (rest : Items) → text ≡ as_str value → pair_with new rest ≡ pair_with texts (item value rest)) → ReadsTexts first r before c new
text_item_read first now r before b c texts new text read going is more = record {
  passed = item_passed 124 first now r before b c read.passed going is.passed;
  stands = λ rest. more (data_of is.passed.value) (items_data rest) is.is ∙ read.stands (json.item is.passed.value rest);
}

-- the array ends
pub texts_end : (first now r : List Token) (before b : Bool) (texts : Texts) → ReadsTexts first now before b texts → after_end_array now ≡ Some r → IsPairTaken first r before b (pair_with texts no_items)
texts_end first now r before b texts read end = record { passed = items_passed 124 first now r before b read.passed end; is = read.stands json.no_items }

-- an item that can't be read
pub texts_fail : (first now : List Token) (before b : Bool) (texts : Texts) → ReadsTexts first now before b texts → after_end_array now ≡ None → json.value 124 now ≡ None
    → json.items (json.value 124) (length first) first ≡ None
texts_fail first now before b texts read going none = item_unread 124 first now before b read.passed going none

-- ---- single values

abbrev text_of : json.Json → Option (List ℕ)
text_of j = as_str (data_of j)

abbrev field_in : json.Json → Option Field
field_in j = field_value (data_of j)

-- what is found in a value that was read, if one was
abbrev found : {A : Type 0} → (json.Json → Option A) → Option (json.Json × List Token) → Option A
found f o = option_and_then (λ p. f p.0) o

-- nothing is found in what is wrapped this way
found_none : {A B : Type 0} (f : json.Json → Option A) (wrap : B → json.Json) (o : Option (B × List Token)) → ((b : B) → f (wrap b) ≡ None) → found f (parse_map wrap o) ≡ None
found_none f wrap None none = refl
found_none f wrap (Some p) none = none p.0

no_text : (first : ReadToken) (ts : List Token) → ((s : Bor (List ℕ)) → first ≡ Read.String s → ⊥) → found text_of (json.value 124 (token_of first ∷ ts)) ≡ None
no_text Read.BeginObject ts other = ap (found text_of) (value-begin_object 124 ts (omega arith)) ∙ found_none text_of json.object _ (λ ms. refl)
no_text Read.EndObject ts other = ap (found text_of) (value_is 124 (Token.end_object ∷ ts))
no_text Read.BeginArray ts other = ap (found text_of) (value-begin_array 124 ts (omega arith)) ∙ found_none text_of json.array _ (λ js. refl)
no_text Read.EndArray ts other = ap (found text_of) (value_is 124 (Token.end_array ∷ ts))
no_text (Read.Key s) ts other = ap (found text_of) (value_is 124 (Token.key s.now ∷ ts))
no_text (Read.String s) ts other = absurd (other s refl)
no_text (Read.Number s) ts other = ap (found text_of) (value_is 124 (Token.number s.now ∷ ts)) ∙ no_str (number_of s.now)
no_text (Read.Bool b) ts other = ap (found text_of) (value_is 124 (Token.boolean b ∷ ts))
no_text Read.Null ts other = ap (found text_of) (value_is 124 (Token.null ∷ ts))
no_text Read.Bad ts other = ap (found text_of) (value_is 124 (Token.bad ∷ ts))

no_pair_in : (first : ReadToken) (ts : List Token) → (first ≡ Read.BeginArray → ⊥) → found field_in (json.value 125 (token_of first ∷ ts)) ≡ None
no_pair_in Read.BeginObject ts other = ap (found field_in) (value-begin_object 125 ts (omega arith)) ∙ found_none field_in json.object _ (λ ms. refl)
no_pair_in Read.EndObject ts other = ap (found field_in) (value_is 125 (Token.end_object ∷ ts))
no_pair_in Read.BeginArray ts other = absurd (other refl)
no_pair_in Read.EndArray ts other = ap (found field_in) (value_is 125 (Token.end_array ∷ ts))
no_pair_in (Read.Key s) ts other = ap (found field_in) (value_is 125 (Token.key s.now ∷ ts))
no_pair_in (Read.String s) ts other = ap (found field_in) (value_is 125 (Token.string s.now ∷ ts))
no_pair_in (Read.Number s) ts other = ap (found field_in) (value_is 125 (Token.number s.now ∷ ts)) ∙ no_field (number_of s.now)
no_pair_in (Read.Bool b) ts other = ap (found field_in) (value_is 125 (Token.boolean b ∷ ts))
no_pair_in Read.Null ts other = ap (found field_in) (value_is 125 (Token.null ∷ ts))
no_pair_in Read.Bad ts other = ap (found field_in) (value_is 125 (Token.bad ∷ ts))

-- a string
pub text_read : (old new : List Token) (b : Bool) (text : List ℕ) → old ≡ Token.string text ∷ new → IsTextTaken old new b b (Some text)
text_read old new b text is = record { passed = whole_taken 124 old new b (json.string text) (ap (json.value 124) is ∙ value_is 124 (Token.string text ∷ new)) refl; is = refl }

-- another value
pub other_read : (first : ReadToken) (old ts new : List Token) (b c : Bool) → old ≡ token_of first ∷ ts → ((s : Bor (List ℕ)) → first ≡ Read.String s → ⊥)
    → IsValueTaken 124 (token_of first ∷ ts) new b c → IsTextTaken old new b c None
other_read first old ts new b c is other passed = record {
  passed = same_taken 124 old (token_of first ∷ ts) new b c is passed;
  is = sym (no_text first ts other) ∙ ap (found text_of) passed.taken;
}

-- an array
pair_read : (old ts new : List Token) (b c : Bool) (field : Option Field) → old ≡ Token.begin_array ∷ ts → IsPairTaken ts new b c field → IsItemTaken old new b c field
pair_read old ts new b c field is pair = record {
  passed = record {
    value = json.array pair.passed.items;
    taken = ap (json.value 125) is ∙ value-begin_array 125 ts (omega arith) ∙ ap (parse_map json.array) pair.passed.taken;
    whole = pair.passed.whole;
  };
  is = pair.is;
}

pair_failed : (old ts : List Token) → old ≡ Token.begin_array ∷ ts → skip_items 124 ts ≡ None → json.value 125 old ≡ None
pair_failed old ts is failed = ap (json.value 125) is ∙ value-begin_array 125 ts (omega arith) ∙ ap (parse_map json.array) (left_none _ failed)

pub pair_taken : {E : Type 0} → (old ts new : List Token) (b c : Bool) (result : Result (Option Field) E) → old ≡ Token.begin_array ∷ ts
    → MatchResult result (IsPairTaken ts new b c) (λ x. skip_items 124 ts ≡ None) → MatchResult result (IsItemTaken old new b c) (λ x. json.value 125 old ≡ None)
pair_taken old ts new b c (Ok pair) is taken = pair_read old ts new b c pair is taken
pair_taken old ts new b c (Err invalid) is failed = pair_failed old ts is failed

-- a value that isn't an array
pub no_pair_read : (first : ReadToken) (old ts new : List Token) (b c : Bool) → old ≡ token_of first ∷ ts → (first ≡ Read.BeginArray → ⊥)
    → IsValueTaken 125 (token_of first ∷ ts) new b c → IsItemTaken old new b c None
no_pair_read first old ts new b c is other passed = record {
  passed = same_taken 125 old (token_of first ∷ ts) new b c is passed;
  is = sym (no_pair_in first ts other) ∙ ap (found field_in) passed.taken;
}
