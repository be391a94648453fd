-- How the elements of a trace are found among its tokens.
use Rattle.std.proofs.Common.{◌≡◌, ℕ, zero, suc, ◌+◌, ◌<◌, Bool, true, false, List, [], ◌∷◌, length, Option, Some, None, option_and_then, ◌⊎◌, inl, inr, refl, sym, ap, subst, ◌∙◌, arith}
use Rattle.std.specs.Prelude.{if◌then◌else◌, cond, ⊤, IsSome}
use Rattle.json.specs.Token.{Token}
use Rattle.json.specs.Json.{Json, null, boolean, number, string, array, object, Items, Members, no_members, member, items, members, parse_map, read_key, skip_value, value, document}
use Rattle.json.specs.Find.{BeginsWith, InItems, InMembers, as_array, as_object, later_or}
use Rattle.json.specs.Lex.{tokens}
use Rattle.json.specs.Reads.{token_of}
use Rattle.json.specs.declared.token.Token.{Token as ReadToken}
use Rattle.json.specs.declared.token.Token.TheVariants as Read
use Rattle.json.proofs.Found.{FirstOf, Some_inj, document-BeginsWith, members_close, members_go_on, not_empty, not_found, one_reading}
use Rattle.json.proofs.Grammar.{left_some, read_key_is}
use Rattle.ttree_chrome.specs.Text.{IsAtList, Lists, Opens, elements_in, is_list_key, list_among, lists_among, lists_in}
use Rattle.ttree_chrome.specs.declared.text.Opening.{Opening}
use Rattle.ttree_chrome.specs.declared.text.Opening.TheVariants.{Array, Object, Other}

abbrev pub read : Json → List Token → Option (Json × List Token)
read j ts = Some (j, ts)

-- ---- members

pub no_more : (ts r : List Token) (ms : Members) → read_key ts ≡ Some (None, r) → InMembers ts ms → ms ≡ no_members
no_more ts r ms e h = members_close Token.end_object r ms (λ k. k) (subst (λ t. InMembers t ms) (read_key_is ts None r e) h)

pub next_member : (ts s : List Token) (k : List ℕ) (ms : Members) → read_key ts ≡ Some (Some k, s) → InMembers ts ms → FirstOf (member k) InMembers s ms
next_member ts s k ms e h = members_go_on k s ms (subst (λ t. InMembers t ms) (read_key_is ts (Some k) s e) h)

-- a member is passed
abbrev pub Passed : List ℕ → List Token → Members → Type 0
Passed k r ms = (j : Json) × (others : Members) × (ms ≡ member k j others) × InMembers r others

pub passed : (d : ℕ) (ts s r : List Token) (k : List ℕ) (ms : Members) → read_key ts ≡ Some (Some k, s) → skip_value d s ≡ Some r → InMembers ts ms → Passed k r ms
passed d ts s r k ms e skipped h =
    let f = next_member ts s k ms e h in
    let v = left_some (value d s) r skipped in
    let same : read f.1 f.2 ≡ read v.0 r = one_reading f.0 d s (f.1, f.2) (v.0, r) f.4 v.1 in
    (f.1, f.3, f.5, subst (λ t. InMembers t f.3) (ap (λ p. p.1) (Some_inj _ _ same)) f.6)

-- ---- the last list

abbrev by_key : Bool → Json → Option Json
by_key b j = cond b (Some j) None

abbrev as_count : Bool → ℕ
as_count b = if b then 1 else 0

none_or : (b : Bool) (j : Json) → as_count b ≡ 0 → b ≡ false
none_or true j h = absurd (omega arith)
none_or false j h = refl

pub none_among : (ms : Members) → lists_among ms ≡ 0 → list_among ms ≡ None
none_among no_members h = refl
none_among (member k j others) h =
    let rest : list_among others ≡ None = none_among others (omega arith) in
    let other : is_list_key k ≡ false = none_or (is_list_key k) j (omega arith) in
    ap (λ o. later_or o (by_key (is_list_key k) j)) rest ∙ ap (λ b. later_or None (by_key b j)) other

kept_later : (o : Option Json) (b : Bool) (j : Json) → b ≡ false → later_or o (by_key b j) ≡ o
kept_later None b j h = ap (λ x. by_key x j) h
kept_later (Some i) b j h = refl

abbrev IsFound : Option Json → Type 0
IsFound None = ⊥
IsFound (Some j) = ⊤

found_later : (o : Option Json) (b : Bool) (j : Json) → IsFound o → later_or o (by_key b j) ≡ o
found_later None b j h = absurd h
found_later (Some i) b j h = refl

either : (o : Option Json) (b : Bool) (j : Json) → (b ≡ false → IsFound o) → IsFound (later_or o (by_key b j))
either None true j h = tt
either None false j h = h refl
either (Some i) b j h = tt

some_among : (ms : Members) → 0 < lists_among ms → IsFound (list_among ms)
some_among no_members h = absurd (omega arith)
some_among (member k j others) h =
    either (list_among others) (is_list_key k) j (λ e. some_among others (less (is_list_key k) (lists_among others) e h))
  where
    less : (b : Bool) (n : ℕ) → b ≡ false → 0 < (if b then 1 else 0) + n → 0 < n
    less true n e h = cc
    less false n e h = omega (arith, h)

-- a member that isn't the last list is passed
pub later_among : (k : List ℕ) (j : Json) (others : Members) → 0 < lists_among others → list_among (member k j others) ≡ list_among others
later_among k j others h = found_later (list_among others) (is_list_key k) j (some_among others h)

pub last_among : (k : List ℕ) (j : Json) (others : Members) → is_list_key k ≡ true → lists_among others ≡ 0 → list_among (member k j others) ≡ Some j
last_among k j others e h = ap (λ o. later_or o (by_key (is_list_key k) j)) (none_among others h) ∙ ap (λ b. later_or None (by_key b j)) e

pub passed_other : (k : List ℕ) (j : Json) (others : Members) → is_list_key k ≡ false → list_among (member k j others) ≡ list_among others
passed_other k j others e = kept_later (list_among others) (is_list_key k) j e

pub counted : (k : List ℕ) (j : Json) (others : Members) → is_list_key k ≡ true → lists_among (member k j others) ≡ 1 + lists_among others
counted k j others e = ap (λ b. (if b then 1 else 0) + lists_among others) e

pub uncounted : (k : List ℕ) (j : Json) (others : Members) → is_list_key k ≡ false → lists_among (member k j others) ≡ lists_among others
uncounted k j others e = ap (λ b. (if b then 1 else 0) + lists_among others) e ∙ omega arith

-- ---- the first token of a value

abbrev pub Shape : Token → List Token → Json → Type 0
Shape Token.begin_object ts j = (ms : Members) × (j ≡ object ms) × InMembers ts ms
Shape Token.end_object ts j = ⊥
Shape Token.begin_array ts j = (js : Items) × (j ≡ array js) × InItems ts js
Shape Token.end_array ts j = ⊥
Shape (Token.key s) ts j = ⊥
Shape (Token.string s) ts j = j ≡ string s
Shape (Token.number s) ts j = j ≡ number s
Shape (Token.boolean b) ts j = j ≡ boolean b
Shape Token.null ts j = j ≡ null
Shape Token.bad ts j = ⊥

first_is : (x : Json) (ts r : List Token) (j : Json) → read x ts ≡ read j r → j ≡ x
first_is x ts r j e = sym (ap (λ p. p.0) (Some_inj _ _ e))

of_array : (d : ℕ) (ts r : List Token) (j : Json) (o : Option (Items × List Token)) → items (value d) (length ts) ts ≡ o → parse_map array o ≡ Some (j, r) → Shape Token.begin_array ts j
of_array d ts r j None is e = not_found (j, r) e
of_array d ts r j (Some x) is e = (x.0, first_is (array x.0) x.1 r j e, (d, length ts, x.1, is))

of_object : (d : ℕ) (ts r : List Token) (j : Json) (o : Option (Members × List Token)) → members (value d) (length ts) ts ≡ o → parse_map object o ≡ Some (j, r) → Shape Token.begin_object ts j
of_object d ts r j None is e = not_found (j, r) e
of_object d ts r j (Some x) is e = (x.0, first_is (object x.0) x.1 r j e, (d, length ts, x.1, is))

pub shape : (t : Token) (ts : List Token) (j : Json) → BeginsWith (t ∷ ts) j → Shape t ts j
unfolding value
shape Token.begin_object ts j (zero, r, e) = not_found (j, r) e
shape Token.begin_object ts j (suc d, r, e) = of_object d ts r j _ refl e
shape Token.begin_array ts j (zero, r, e) = not_found (j, r) e
shape Token.begin_array ts j (suc d, r, e) = of_array d ts r j _ refl e
shape Token.end_object ts j (zero, r, e) = not_found (j, r) e
shape Token.end_object ts j (suc d, r, e) = not_found (j, r) e
shape Token.end_array ts j (zero, r, e) = not_found (j, r) e
shape Token.end_array ts j (suc d, r, e) = not_found (j, r) e
shape (Token.key s) ts j (zero, r, e) = not_found (j, r) e
shape (Token.key s) ts j (suc d, r, e) = not_found (j, r) e
shape (Token.string s) ts j (zero, r, e) = first_is (string s) ts r j e
shape (Token.string s) ts j (suc d, r, e) = first_is (string s) ts r j e
shape (Token.number s) ts j (zero, r, e) = first_is (number s) ts r j e
shape (Token.number s) ts j (suc d, r, e) = first_is (number s) ts r j e
shape (Token.boolean b) ts j (zero, r, e) = first_is (boolean b) ts r j e
shape (Token.boolean b) ts j (suc d, r, e) = first_is (boolean b) ts r j e
shape Token.null ts j (zero, r, e) = first_is null ts r j e
shape Token.null ts j (suc d, r, e) = first_is null ts r j e
shape Token.bad ts j (zero, r, e) = not_found (j, r) e
shape Token.bad ts j (suc d, r, e) = not_found (j, r) e

-- ---- what the first token opens

pub opens_array : (old ts : List Token) (j : Json) → old ≡ Token.begin_array ∷ ts → BeginsWith old j → Opens j Array ts
opens_array old ts j is h = shape Token.begin_array ts j (subst (λ t. BeginsWith t j) is h)

pub opens_object : (old ts : List Token) (j : Json) → old ≡ Token.begin_object ∷ ts → BeginsWith old j → Opens j Object ts
opens_object old ts j is h = shape Token.begin_object ts j (subst (λ t. BeginsWith t j) is h)

pub opens_nothing : (old ts : List Token) (j : Json) → old ≡ [] → BeginsWith old j → Opens j Other ts
opens_nothing old ts j is h = absurd (not_empty j (subst (λ t. BeginsWith t j) is h))

abbrev Neither : Json → Type 0
Neither j = (as_array j ≡ None) × (as_object j ≡ None)

plain : (i j : Json) → j ≡ i → Neither i → Neither j
plain i j e h = subst Neither (sym e) h

neither : (first : ReadToken) (ts : List Token) (j : Json) → (first ≡ Read.BeginArray → ⊥) → (first ≡ Read.BeginObject → ⊥) → Shape (token_of first) ts j → Neither j
neither Read.BeginObject ts j n m h = absurd (m refl)
neither Read.EndObject ts j n m h = absurd h
neither Read.BeginArray ts j n m h = absurd (n refl)
neither Read.EndArray ts j n m h = absurd h
neither (Read.Key s) ts j n m h = absurd h
neither (Read.String s) ts j n m h = plain (string s.now) j h (refl, refl)
neither (Read.Number s) ts j n m h = plain (number s.now) j h (refl, refl)
neither (Read.Bool b) ts j n m h = plain (boolean b) j h (refl, refl)
neither Read.Null ts j n m h = plain null j h (refl, refl)
neither Read.Bad ts j n m h = absurd h

pub opens_other : (first : ReadToken) (old ts : List Token) (j : Json) → old ≡ token_of first ∷ ts → (first ≡ Read.BeginArray → ⊥) → (first ≡ Read.BeginObject → ⊥) → BeginsWith old j → Opens j Other ts
opens_other first old ts j is n m h = neither first ts j n m (shape (token_of first) ts j (subst (λ t. BeginsWith t j) is h))

pub at_list : (j : Json) (ts : List Token) → Opens j Array ts → IsAtList (Some j) true ts
at_list j ts (js, is, inside) = (js, ap as_array is, inside)

pub at_other : (o : Opening) (j : Json) (ts : List Token) → (o ≡ Object) ⊎ (o ≡ Other) → Opens j o ts → IsAtList (Some j) false ts
at_other Array j ts (inl e) h = cc
at_other Array j ts (inr e) h = cc
at_other Object j ts e (ms, is, inside) = ap as_array is
at_other Other j ts e h = h.0

-- ---- other values list nothing

pub not_listed : (j : Json) → as_array j ≡ None → as_object j ≡ None → elements_in j ≡ None
not_listed null n m = refl
not_listed (boolean b) n m = refl
not_listed (number s) n m = refl
not_listed (string s) n m = refl
not_listed (array js) n m = not_found js (sym n)
not_listed (object ms) n m = not_found ms (sym m)

pub not_counted : (j : Json) → as_object j ≡ None → lists_in j ≡ 0
not_counted null m = refl
not_counted (boolean b) m = refl
not_counted (number s) m = refl
not_counted (string s) m = refl
not_counted (array js) m = refl
not_counted (object ms) m = not_found ms (sym m)

pub other_counted : (o : Opening) (j : Json) (ts : List Token) → (o ≡ Array) ⊎ (o ≡ Other) → Opens j o ts → lists_in j ≡ 0
other_counted Array j ts e (js, is, inside) = ap lists_in is
other_counted Object j ts (inl e) h = cc
other_counted Object j ts (inr e) h = cc
other_counted Other j ts e h = not_counted j h.1

-- ---- the document

-- a string that is JSON has a value, with which its tokens begin
pub read_whole : (text : List ℕ) → IsSome (document text) → (j : Json) × (document text ≡ Some j) × BeginsWith (tokens text) j
read_whole text h = go (document text) refl h where
  go : (o : Option Json) → document text ≡ o → IsSome o → (j : Json) × (document text ≡ Some j) × BeginsWith (tokens text) j
  go None is h = cc
  go (Some j) is h = (j, is, document-BeginsWith text j is)

-- ---- the elements

-- a reader is at the first of these elements, if there are any
abbrev pub IsAt : Option Items → Bool → List Token → Type 0
IsAt elements true tokens = Lists elements (Some tokens)
IsAt elements false tokens = Lists elements None

pub in_array : (j : Json) (ts : List Token) → Opens j Array ts → IsAt (elements_in j) true ts
in_array j ts (js, is, inside) = (js, ap elements_in is, inside)

same_at : (value : Option Json) (b : Bool) (ts : List Token) → IsAtList value b ts → IsAt (option_and_then as_array value) b ts
same_at value true ts h = h
same_at value false ts h = h

pub in_object : (j : Json) (ms : Members) (b : Bool) (ts : List Token) → j ≡ object ms → IsAtList (list_among ms) b ts → IsAt (elements_in j) b ts
in_object j ms b ts is h = subst (λ o. IsAt o b ts) (sym (ap elements_in is)) (same_at (list_among ms) b ts h)

pub in_other : (j : Json) (ts : List Token) → Opens j Other ts → IsAt (elements_in j) false ts
in_other j ts (n, m) = not_listed j n m

pub moved : (text : List ℕ) (j : Json) (b c : Bool) (ts us : List Token) → document text ≡ Some j → b ≡ c → us ≡ ts → IsAt (elements_in j) c ts → IsAt (option_and_then elements_in (document text)) b us
moved text j b c ts us is same reader h =
    subst (λ o. IsAt o b us) (sym (ap (option_and_then elements_in) is)) (subst (λ x. IsAt (elements_in j) x us) (sym same) (subst (λ t. IsAt (elements_in j) c t) (sym reader) h))
