-- The data of a JSON value is what its line reads as.
use Rattle.std.specs.Prelude.{◌≡◌, ℕ, ◌==◌, ◌||◌, Bool, true, false, List, [], ◌∷◌, drop, slice_index, Option, Some, None, option_map, option_and_then, if◌then◌else◌, Float, refl}
use Rattle.std.proofs.Common.{sym, ap, ◌∙◌, Ordering, Less, Equal, Greater}
use Rattle.std.proofs.lemmas.Bool.{and_parts}
use Rattle.std.proofs.lemmas.Option.{same_Some, none-some}
use Rattle.std.specs.Cmp.Lexicographic.{slice_cmp}
use Rattle.std.specs.Ordering.{nat_cmp, match_ordering}
use Rattle.json.specs.Json as json
use Rattle.json.specs.Token.{Token}
use Rattle.json.specs.Lex.{tokens}
use Rattle.serde_json.specs.Data.{Num, unsigned, negative, float, Data, null, boolean, number, string, array, object, Items, no_items, item, Members, no_members, member, put}
use Rattle.std.specs.Float.{binary64, float_is_finite}
use Rattle.fast_float.specs.Text.{Parts, scan, nearest}
use Rattle.serde_json.specs.Find.{as_str, as_u64, as_i64}
use Rattle.serde_json.specs.Read.{number_of, number_from, float_of, of_json, of_items, of_members, read}
use Rattle.serde_json.specs.Written.{has_float, items_have_float, members_have_float}
use Rattle.tracing_tree_lines.specs.Lines.Spelled.{field_value}
use Rattle.tracing_tree_lines.specs.Lines.Borrowed.{HasNoFloat, number_data, is_whole_number, data_of, items_data, members_data, is_whole, items_are_whole, members_are_whole}

-- ---- a value that reads as data has this data

number_read : (o : Option Num) (d : Data) → option_map number o ≡ Some d → number_data o ≡ d
number_read None d e = absurd (none-some d e)
number_read (Some n) d e = same_Some (number n) d e

of_map : {A : Type 0} (f : A → Data) (o : Option A) (a : A) (d : Data) → ((b : A) → o ≡ Some b → a ≡ b) → option_map f o ≡ Some d → f a ≡ d
of_map f None a d same e = absurd (none-some d e)
of_map f (Some b) a d same e = ap f (same b refl) ∙ same_Some (f b) d e

item_read : (first : Option Data) (others : Option Items) (d : Data) (ds es : Items) → ((x : Data) → first ≡ Some x → d ≡ x) → ((xs : Items) → others ≡ Some xs → ds ≡ xs)
    → option_and_then (λ x. option_map (item x) others) first ≡ Some es → item d ds ≡ es
item_read None others d ds es one more e = absurd (none-some es e)
item_read (Some x) None d ds es one more e = absurd (none-some es e)
item_read (Some x) (Some xs) d ds es one more e = ap (λ y. item y ds) (one x refl) ∙ ap (item x) (more xs refl) ∙ same_Some (item x xs) es e

member_read : (first : Option Data) (next : Data → Option Members) (d : Data) (ms es : Members) → ((x : Data) → first ≡ Some x → d ≡ x) → (next d ≡ Some es → ms ≡ es)
    → option_and_then next first ≡ Some es → ms ≡ es
member_read None next d ms es one more e = absurd (none-some es e)
member_read (Some x) next d ms es one more e = more (ap next (one x refl) ∙ e)

mutual
  pub data_read : (j : json.Json) (d : Data) → of_json j ≡ Some d → data_of j ≡ d
  data_read json.null d e = same_Some null d e
  data_read (json.boolean b) d e = same_Some (boolean b) d e
  data_read (json.number s) d e = number_read (number_of s) d e
  data_read (json.string s) d e = same_Some (string s) d e
  data_read (json.array js) d e = of_map array (of_items js) (items_data js) d (λ ds is. items_read js ds is) e
  data_read (json.object ms) d e = of_map object (of_members ms no_members) (members_data ms no_members) d (λ es is. members_read ms no_members es is) e

  items_read : (js : json.Items) (ds : Items) → of_items js ≡ Some ds → items_data js ≡ ds
  items_read json.no_items ds e = same_Some no_items ds e
  items_read (json.item j js) ds e = item_read (of_json j) (of_items js) (data_of j) (items_data js) ds (λ x is. data_read j x is) (λ xs is. items_read js xs is) e

  members_read : (ms : json.Members) (found es : Members) → of_members ms found ≡ Some es → members_data ms found ≡ es
  members_read json.no_members found es e = same_Some found es e
  members_read (json.member k j ms) found es e =
      member_read (of_json j) (λ d. of_members ms (put k d found)) (data_of j) (members_data ms (put k (data_of j) found)) es (λ x is. data_read j x is)
      (λ is. members_read ms (put k (data_of j) found) es is) e

-- ---- a value of whole numbers reads as data, which has no float

whole_number_read : (o : Option Num) → is_whole_number o ≡ true → option_map number o ≡ Some (number_data o)
whole_number_read None e = cc
whole_number_read (Some n) e = refl

mutual
  pub whole_read : (j : json.Json) → is_whole j ≡ true → of_json j ≡ Some (data_of j)
  whole_read json.null e = refl
  whole_read (json.boolean b) e = refl
  whole_read (json.number s) e = whole_number_read (number_of s) e
  whole_read (json.string s) e = refl
  whole_read (json.array js) e = ap (option_map array) (whole_items_read js e)
  whole_read (json.object ms) e = ap (option_map object) (whole_members_read ms no_members e)

  whole_items_read : (js : json.Items) → items_are_whole js ≡ true → of_items js ≡ Some (items_data js)
  whole_items_read json.no_items e = refl
  whole_items_read (json.item j js) e =
      let parts = and_parts (is_whole j) (items_are_whole js) e in
      ap (option_and_then (λ d. option_map (item d) (of_items js))) (whole_read j parts.0) ∙ ap (option_map (item (data_of j))) (whole_items_read js parts.1)

  whole_members_read : (ms : json.Members) (found : Members) → members_are_whole ms ≡ true → of_members ms found ≡ Some (members_data ms found)
  whole_members_read json.no_members found e = refl
  whole_members_read (json.member k j ms) found e =
      let parts = and_parts (is_whole j) (members_are_whole ms) e in
      ap (option_and_then (λ d. of_members ms (put k d found))) (whole_read j parts.0) ∙ whole_members_read ms (put k (data_of j) found) parts.1

pub neither : (a b : Bool) → a ≡ false → b ≡ false → (a || b) ≡ false
neither a b first second = rw (first, second)

first_of : (a b : Bool) → (a || b) ≡ false → a ≡ false
first_of true b e = e
first_of false b e = refl

second_of : (a b : Bool) → (a || b) ≡ false → b ≡ false
second_of true b e = cc
second_of false b e = e

chosen_float : (o : Ordering) (a b c : Members) → members_have_float a ≡ false → members_have_float b ≡ false → members_have_float c ≡ false
    → members_have_float (match_ordering o a b c) ≡ false
chosen_float Less a b c x y z = x
chosen_float Equal a b c x y z = y
chosen_float Greater a b c x y z = z

no_float_put : (k : List ℕ) (d : Data) (ms : Members) → has_float d ≡ false → members_have_float ms ≡ false → members_have_float (put k d ms) ≡ false
no_float_put k d no_members x y = neither (has_float d) false x refl
no_float_put k d (member l e ms) x y =
    let first = first_of (has_float e) (members_have_float ms) y in
    let others = second_of (has_float e) (members_have_float ms) y in
    chosen_float (slice_cmp nat_cmp k l) (member k d (member l e ms)) (member l d ms) (member l e (put k d ms))
    (neither (has_float d) (has_float e || members_have_float ms) x y) (neither (has_float d) (members_have_float ms) x others)
    (neither (has_float e) (members_have_float (put k d ms)) first (no_float_put k d ms x others))

whole_number_no_float : (o : Option Num) → is_whole_number o ≡ true → has_float (number_data o) ≡ false
whole_number_no_float None e = refl
whole_number_no_float (Some (unsigned n)) e = refl
whole_number_no_float (Some (negative z)) e = refl
whole_number_no_float (Some (float x)) e = cc

mutual
  pub whole_no_float : (j : json.Json) → is_whole j ≡ true → has_float (data_of j) ≡ false
  whole_no_float json.null e = refl
  whole_no_float (json.boolean b) e = refl
  whole_no_float (json.number s) e = whole_number_no_float (number_of s) e
  whole_no_float (json.string s) e = refl
  whole_no_float (json.array js) e = items_no_float js e
  whole_no_float (json.object ms) e = members_no_float ms no_members e refl

  items_no_float : (js : json.Items) → items_are_whole js ≡ true → items_have_float (items_data js) ≡ false
  items_no_float json.no_items e = refl
  items_no_float (json.item j js) e =
      let parts = and_parts (is_whole j) (items_are_whole js) e in
      neither (has_float (data_of j)) (items_have_float (items_data js)) (whole_no_float j parts.0) (items_no_float js parts.1)

  members_no_float : (ms : json.Members) (found : Members) → members_are_whole ms ≡ true → members_have_float found ≡ false → members_have_float (members_data ms found) ≡ false
  members_no_float json.no_members found e none = none
  members_no_float (json.member k j ms) found e none =
      let parts = and_parts (is_whole j) (members_are_whole ms) e in
      members_no_float ms (put k (data_of j) found) parts.1 (no_float_put k (data_of j) found (whole_no_float j parts.0) none)

-- ---- strings and fields

pub no_str : (o : Option Num) → as_str (number_data o) ≡ None
no_str None = refl
no_str (Some n) = refl

-- a number isn't a field
pub no_field : (o : Option Num) → field_value (number_data o) ≡ None
no_field None = refl
no_field (Some n) = refl

-- ---- numbers

finite_u64 : (b : Bool) (x : Float) → option_and_then as_u64 (if b then Some (float x) else None) ≡ None
finite_u64 true x = refl
finite_u64 false x = refl

finite_i64 : (b : Bool) (x : Float) → option_and_then as_i64 (if b then Some (float x) else None) ≡ None
finite_i64 true x = refl
finite_i64 false x = refl

-- a float isn't a whole number
pub float_u64 : (sign : Bool) (p : Parts) → option_and_then as_u64 (float_of sign p) ≡ None
float_u64 sign p = finite_u64 (float_is_finite (nearest binary64 sign p)) (nearest binary64 sign p)

pub float_i64 : (sign : Bool) (p : Parts) → option_and_then as_i64 (float_of sign p) ≡ None
float_i64 sign p = finite_i64 (float_is_finite (nearest binary64 sign p)) (nearest binary64 sign p)

pub minus_text : (s : List ℕ) → (slice_index s 0 == 45) ≡ true → number_of s ≡ number_from true (scan (drop 1 s))
unfolding number_of
minus_text s e = rw e

pub plain_text : (s : List ℕ) → (slice_index s 0 == 45) ≡ false → number_of s ≡ number_from false (scan s)
unfolding number_of
plain_text s e = rw e

-- ---- lines

abbrev whole_text_value : Option (json.Json × List Token) → Option Data
whole_text_value o = option_and_then of_json (option_and_then (λ p. json.if_last p.0 p.1) o)

-- a string that is one value
pub tree_read : (text : List ℕ) (j : json.Json) → json.value 127 (tokens text) ≡ Some (j, []) → read text ≡ of_json j
tree_read text j e = ap whole_text_value e

-- a string with more than one value isn't a value
pub tree_and_more : (text : List ℕ) (j : json.Json) (t : Token) (more : List Token) → json.value 127 (tokens text) ≡ Some (j, t ∷ more) → read text ≡ None
tree_and_more text j t more e = ap whole_text_value e

pub no_tree : (text : List ℕ) → json.value 127 (tokens text) ≡ None → read text ≡ None
no_tree text e = ap whole_text_value e

-- a tree that reads as data is settled if each number is whole
pub whole_settled : (line : List ℕ) (j : json.Json) → read line ≡ of_json j → is_whole j ≡ true → (read line ≡ Some (data_of j)) × (has_float (data_of j) ≡ false)
whole_settled line j e whole = (e ∙ whole_read j whole, whole_no_float j whole)

-- the same if the line has no float
pub float_settled : (line : List ℕ) (j : json.Json) → read line ≡ of_json j → HasNoFloat line → (read line ≡ Some (data_of j)) × (has_float (data_of j) ≡ false)
float_settled line j e h =
    let same : data_of j ≡ h.value = data_read j h.value (sym e ∙ h.reads) in
    (h.reads ∙ ap Some (sym same), ap has_float same ∙ h.no_float)
