-- Taking values one after another, and whether each number in them is whole.
use Rattle.std.specs.Prelude.{◌≡◌, ℕ, ◌≤◌, ◌+◌, ◌-◌, ◌&&◌, [], ◌∷◌, Bool, true, false, List, length, Option, Some, None, is_some, refl}
use Rattle.std.proofs.Common.{sym, ap, ◌∙◌, arith, true≢false}
use Rattle.std.proofs.Math.Bool.{and_assoc, and-true}
use Rattle.json.specs.Reads.{token_of}
use Rattle.json.specs.Token.{Token}
use Rattle.json.specs.declared.token.Token.{Token as ReadToken}
use Rattle.json.specs.declared.token.Token.TheVariants as Read
use Rattle.json.specs.Json as json
use Rattle.json.specs.Json.{parse_map, after_end_array, read_key}
use Rattle.json.proofs.Grammar.{left, value_is, value-begin_array, value-begin_object, read_key-shorter, skip_value-shorter, items_end, items_fail, items_more, members_end, members_no_key, members_fail, members_more}
use Rattle.tracing_tree_lines.specs.Lines.Borrowed.{is_whole, items_are_whole, members_are_whole}
use Rattle.tracing_tree_lines.specs.Lines.Parts.{IsNumberPart}
use Rattle.tracing_tree_lines.specs.declared.lines.part.Part.{Part}
use Rattle.tracing_tree_lines.specs.Lines.Taken.{IsValueTaken, AreItemsTaken, AreMembersTaken}

pub parsed_itself : {A : Type 0} (o : Option (A × List Token)) → o ≡ parse_map (λ a. a) o
parsed_itself None = refl
parsed_itself (Some p) = refl

pub parsed_twice : {A : Type 0} (f g : A → A) (o : Option (A × List Token)) → parse_map f (parse_map g o) ≡ parse_map (λ a. f (g a)) o
parsed_twice f g None = refl
parsed_twice f g (Some p) = refl

-- ---- one value

-- null, a string or a truth value
abbrev pub is_word : ReadToken → Bool
is_word Read.BeginObject = false
is_word Read.EndObject = false
is_word Read.BeginArray = false
is_word Read.EndArray = false
is_word (Read.Key s) = false
is_word (Read.String s) = true
is_word (Read.Number s) = false
is_word (Read.Bool b) = true
is_word Read.Null = true
is_word Read.Bad = false

-- a value of whole numbers
abbrev pub whole_taken : (depth : ℕ) (old new : List Token) (b : Bool) (value : json.Json) → json.value depth old ≡ Some (value, new) → is_whole value ≡ true → IsValueTaken depth old new b b
whole_taken depth old new b value taken is = record { value = value; taken = taken; whole = sym (ap (λ w. b && w) is ∙ and-true b) }

pub never_both : (b : Bool) → (b && false) ≡ false
never_both true = refl
never_both false = refl

-- a value with another number
abbrev pub other_taken : (depth : ℕ) (old new : List Token) (b : Bool) (value : json.Json) → json.value depth old ≡ Some (value, new) → is_whole value ≡ false → IsValueTaken depth old new b false
other_taken depth old new b value taken is = record { value = value; taken = taken; whole = sym (ap (λ w. b && w) is ∙ never_both b) }

-- the same of the same tokens
abbrev pub same_taken : (depth : ℕ) (old ts new : List Token) (b c : Bool) → old ≡ ts → IsValueTaken depth ts new b c → IsValueTaken depth old new b c
same_taken depth old ts new b c is v = record { value = v.value; taken = ap (json.value depth) is ∙ v.taken; whole = v.whole }

-- an array of what follows the bracket
pub array_taken : (depth inner : ℕ) (ts new : List Token) (b c : Bool) → depth ≡ inner + 1 → AreItemsTaken inner ts new b c → IsValueTaken depth (Token.begin_array ∷ ts) new b c
array_taken depth inner ts new b c deep items =
    let one_less : depth - 1 ≡ inner = omega arith in
    record {
      value = json.array items.items;
      taken = value-begin_array depth ts (omega arith) ∙ ap (λ d. parse_map json.array (json.items (json.value d) (length ts) ts)) one_less ∙ ap (parse_map json.array) items.taken;
      whole = items.whole;
    }

pub array_unread : (depth inner : ℕ) (ts : List Token) → depth ≡ inner + 1 → json.items (json.value inner) (length ts) ts ≡ None → json.value depth (Token.begin_array ∷ ts) ≡ None
array_unread depth inner ts deep none =
    let one_less : depth - 1 ≡ inner = omega arith in
    value-begin_array depth ts (omega arith) ∙ ap (λ d. parse_map json.array (json.items (json.value d) (length ts) ts)) one_less ∙ ap (parse_map json.array) none

-- an object of what follows the brace
pub object_taken : (depth inner : ℕ) (ts new : List Token) (b c : Bool) → depth ≡ inner + 1 → AreMembersTaken inner ts new b c → IsValueTaken depth (Token.begin_object ∷ ts) new b c
object_taken depth inner ts new b c deep members =
    let one_less : depth - 1 ≡ inner = omega arith in
    record {
      value = json.object members.members;
      taken = value-begin_object depth ts (omega arith) ∙ ap (λ d. parse_map json.object (json.members (json.value d) (length ts) ts)) one_less ∙ ap (parse_map json.object) members.taken;
      whole = members.whole;
    }

pub object_unread : (depth inner : ℕ) (ts : List Token) → depth ≡ inner + 1 → json.members (json.value inner) (length ts) ts ≡ None → json.value depth (Token.begin_object ∷ ts) ≡ None
object_unread depth inner ts deep none =
    let one_less : depth - 1 ≡ inner = omega arith in
    value-begin_object depth ts (omega arith) ∙ ap (λ d. parse_map json.object (json.members (json.value d) (length ts) ts)) one_less ∙ ap (parse_map json.object) none

-- without a token there is no value
pub end_unread : (depth : ℕ) (ts : List Token) → ts ≡ [] → json.value depth ts ≡ None
end_unread depth ts none = ap (json.value depth) none ∙ value_is depth []

-- if nothing may nest
pub nested_unread : (depth : ℕ) (ts : List Token) → depth ≡ 0 → (json.value depth (Token.begin_array ∷ ts) ≡ None) × (json.value depth (Token.begin_object ∷ ts) ≡ None)
nested_unread depth ts none =
    (ap (λ d. json.value d (Token.begin_array ∷ ts)) none ∙ value_is 0 (Token.begin_array ∷ ts), ap (λ d. json.value d (Token.begin_object ∷ ts)) none ∙ value_is 0 (Token.begin_object ∷ ts))

-- a value that opens nothing and isn't a number
pub word_taken : (depth : ℕ) (first : ReadToken) (ts : List Token) (b : Bool) → is_word first ≡ true → IsValueTaken depth (token_of first ∷ ts) ts b b
word_taken depth (Read.String s) ts b is = whole_taken depth _ ts b (json.string s.now) (value_is depth (Token.string s.now ∷ ts)) refl
word_taken depth (Read.Bool t) ts b is = whole_taken depth _ ts b (json.boolean t) (value_is depth (Token.boolean t ∷ ts)) refl
word_taken depth Read.Null ts b is = whole_taken depth _ ts b json.null (value_is depth (Token.null ∷ ts)) refl
word_taken depth Read.BeginObject ts b is = cc
word_taken depth Read.EndObject ts b is = cc
word_taken depth Read.BeginArray ts b is = cc
word_taken depth Read.EndArray ts b is = cc
word_taken depth (Read.Key s) ts b is = cc
word_taken depth (Read.Number s) ts b is = cc
word_taken depth Read.Bad ts b is = cc

-- a whole number
abbrev pub some_number_passed : (depth : ℕ) (old new : List Token) (b : Bool) (s : List ℕ) (part : Option Part) → old ≡ Token.number s ∷ new → is_some part ≡ true → IsNumberPart s part → IsValueTaken depth old new b b
some_number_passed depth old new b s None is some kept = absurd (true≢false (sym some))
some_number_passed depth old new b s (Some part) is some kept = whole_taken depth old new b (json.number s) (ap (json.value depth) is ∙ value_is depth (Token.number s ∷ new)) kept.0

-- another number
abbrev pub other_number_passed : (depth : ℕ) (old new : List Token) (b : Bool) (s : List ℕ) → old ≡ Token.number s ∷ new → IsNumberPart s None → IsValueTaken depth old new b false
other_number_passed depth old new b s is kept = other_taken depth old new b (json.number s) (ap (json.value depth) is ∙ value_is depth (Token.number s ∷ new)) kept.0

-- ---- items

-- some items were taken
pub record PassesItems (depth : ℕ) (first now : List Token) (before after : Bool) : Type 0 where
  pub turns : ℕ
  pub room : length now ≤ turns
  pub onto : json.Items → json.Items
  pub parsed : json.items (json.value depth) (length first) first ≡ parse_map onto (json.items (json.value depth) turns now)
  pub whole : (rest : json.Items) → (before && items_are_whole (onto rest)) ≡ (after && items_are_whole rest)

abbrev pub no_items_passed : (depth : ℕ) (first : List Token) (b : Bool) → PassesItems depth first first b b
no_items_passed depth first b = record {
  turns = length first;
  room = omega arith;
  onto = λ rest. rest;
  parsed = parsed_itself (json.items (json.value depth) (length first) first);
  whole = λ rest. refl;
}

-- one more item
abbrev pub item_passed : (depth : ℕ) (first now r : List Token) (before b c : Bool) → PassesItems depth first now before b → after_end_array now ≡ None → IsValueTaken depth now r b c → PassesItems depth first r before c
item_passed depth first now r before b c read going item =
    let less = skip_value-shorter depth now r (ap left item.taken) in
    record {
      turns = read.turns - 1;
      room = omega (arith, read.room, less);
      onto = λ rest. read.onto (json.item item.value rest);
      parsed = read.parsed ∙ ap (parse_map read.onto) (items_more (json.value depth) read.turns now r item.value (omega (arith, read.room, less)) going item.taken)
          ∙ parsed_twice read.onto (json.item item.value) (json.items (json.value depth) (read.turns - 1) r);
      whole = λ rest. read.whole (json.item item.value rest) ∙ sym (and_assoc b (is_whole item.value) (items_are_whole rest)) ∙ ap (λ w. w && items_are_whole rest) (sym item.whole);
    }

-- no items follow the bracket
abbrev pub items_passed : (depth : ℕ) (first now r : List Token) (before b : Bool) → PassesItems depth first now before b → after_end_array now ≡ Some r → AreItemsTaken depth first r before b
items_passed depth first now r before b read end = record {
  items = read.onto json.no_items;
  taken = read.parsed ∙ ap (parse_map read.onto) (items_end (json.value depth) read.turns now r read.room end);
  whole = sym (read.whole json.no_items ∙ and-true b);
}

-- an item that can't be read
pub item_unread : (depth : ℕ) (first now : List Token) (before b : Bool) → PassesItems depth first now before b → after_end_array now ≡ None → json.value depth now ≡ None
    → json.items (json.value depth) (length first) first ≡ None
item_unread depth first now before b read going none = read.parsed ∙ ap (parse_map read.onto) (items_fail (json.value depth) read.turns now going none)

-- ---- members

-- some members were taken
pub record PassesMembers (depth : ℕ) (first now : List Token) (before after : Bool) : Type 0 where
  pub turns : ℕ
  pub room : length now ≤ turns
  pub onto : json.Members → json.Members
  pub parsed : json.members (json.value depth) (length first) first ≡ parse_map onto (json.members (json.value depth) turns now)
  pub whole : (rest : json.Members) → (before && members_are_whole (onto rest)) ≡ (after && members_are_whole rest)

abbrev pub no_members_passed : (depth : ℕ) (first : List Token) (b c : Bool) → b ≡ c → PassesMembers depth first first b c
no_members_passed depth first b c same = record {
  turns = length first;
  room = omega arith;
  onto = λ rest. rest;
  parsed = parsed_itself (json.members (json.value depth) (length first) first);
  whole = λ rest. ap (λ w. w && members_are_whole rest) same;
}

-- one more member
abbrev pub member_passed : (depth : ℕ) (first now s r : List Token) (key : List ℕ) (before b c : Bool) → PassesMembers depth first now before b → read_key now ≡ Some (Some key, s) → IsValueTaken depth s r b c
    → PassesMembers depth first r before c
member_passed depth first now s r key before b c read at item =
    let less = read_key-shorter now (Some key) s at in
    let lesser = skip_value-shorter depth s r (ap left item.taken) in
    record {
      turns = read.turns - 1;
      room = omega (arith, read.room, less, lesser);
      onto = λ rest. read.onto (json.member key item.value rest);
      parsed = read.parsed ∙ ap (parse_map read.onto) (members_more (json.value depth) read.turns key now s r item.value (omega (arith, read.room, less)) at item.taken)
          ∙ parsed_twice read.onto (json.member key item.value) (json.members (json.value depth) (read.turns - 1) r);
      whole = λ rest. read.whole (json.member key item.value rest) ∙ sym (and_assoc b (is_whole item.value) (members_are_whole rest)) ∙ ap (λ w. w && members_are_whole rest) (sym item.whole);
    }

-- no members follow the brace
abbrev pub members_passed : (depth : ℕ) (first now r : List Token) (before b : Bool) → PassesMembers depth first now before b → read_key now ≡ Some (None, r) → AreMembersTaken depth first r before b
members_passed depth first now r before b read end = record {
  members = read.onto json.no_members;
  taken = read.parsed ∙ ap (parse_map read.onto) (members_end (json.value depth) read.turns now r read.room end);
  whole = sym (read.whole json.no_members ∙ and-true b);
}

-- a key that can't be read
pub key_unread : (depth : ℕ) (first now : List Token) (before b : Bool) → PassesMembers depth first now before b → read_key now ≡ None → json.members (json.value depth) (length first) first ≡ None
key_unread depth first now before b read none = read.parsed ∙ ap (parse_map read.onto) (members_no_key (json.value depth) read.turns now none)

-- a value that can't be read
pub member_unread : (depth : ℕ) (first now s : List Token) (key : List ℕ) (before b : Bool) → PassesMembers depth first now before b → read_key now ≡ Some (Some key, s) → json.value depth s ≡ None
    → json.members (json.value depth) (length first) first ≡ None
member_unread depth first now s key before b read at none = read.parsed ∙ ap (parse_map read.onto) (members_fail (json.value depth) read.turns key now s at none)
