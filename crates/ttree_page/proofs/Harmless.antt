-- No line can end the element that contains it.
use Rattle.std.proofs.Common.{◌≡◌, ℕ, zero, suc, ◌/◌, ◌%◌, eqb, Bool, true, false, cond, ℤ, pos, negsuc, List, [], ◌∷◌, ◌++◌, arith, refl, sym, ◌∙◌, flat_map, append_assoc, codes}
use Rattle.std.proofs.lemmas.List.Folds.{list_all-append}
use Rattle.std.proofs.lemmas.Bool.{and_from}
use Rattle.std.specs.Fmt.{digit_glyph, digits, digits_onto, decimal, signed_decimal}
use Rattle.std.specs.List.{list_all}
use Rattle.tracing_tree_base.specs.declared.field.Field.{Field}
use Rattle.tracing_tree_base.specs.declared.style.Level.{Level}
use Rattle.tracing_tree_base.specs.declared.style.Level.TheVariants as Levels
use Rattle.ttree_page.specs.declared.form.LineForm.{LineForm}
use Rattle.ttree_page.specs.declared.form.LineForm.TheVariants.{Arrays, Objects}
use Rattle.ttree_page.specs.declared.form.Kind.{Kind}
use Rattle.ttree_page.specs.declared.form.Kind.TheVariants as Kinds
use Rattle.ttree_page.specs.Steps.{Stamp, Step, About, New, Record, Event, Close, End}
use Rattle.ttree_page.specs.Lines.{after_comma, bracket, escaped_byte, field_parts, hex_pair, in_quotes, is_harmless, key_text, keyed_part, later_pair, level_text, name_and_value, pair, pairs, stamp_parts, start_text, step_kind, step_parts}
use Rattle.ttree_page.specs.Writing.{AreLinesHarmless}

-- these bytes are harmless
record AreHarmless (bytes : List ℕ) : Type 0 where
  pub all : list_all is_harmless bytes ≡ true

-- ---- bytes and lists of them

joined : (xs ys : List ℕ) → AreHarmless xs → AreHarmless ys → AreHarmless (xs ++ ys)
joined xs ys h k = record {
  all = list_all-append is_harmless xs ys ∙ and_from (list_all is_harmless xs) (list_all is_harmless ys) h.all k.all;
}

one_more : (byte : ℕ) (bytes : List ℕ) → is_harmless byte ≡ true → AreHarmless bytes → AreHarmless (byte ∷ bytes)
one_more byte bytes h k = record { all = and_from (is_harmless byte) (list_all is_harmless bytes) h k.all }

none : AreHarmless []
none = record { all = refl }

mapped : {A : Type 0} (f : A → List ℕ) → ((a : A) → AreHarmless (f a)) → (xs : List A) → AreHarmless (flat_map f xs)
mapped f h [] = none
mapped f h (x ∷ xs) = joined (f x) (flat_map f xs) (h x) (mapped f h xs)

-- ---- numbers

glyph : (digit : ℕ) → is_harmless (digit_glyph false digit) ≡ true
glyph digit = grind arith

last_or_more : (test : Bool) (xs ys : List ℕ) → AreHarmless xs → AreHarmless ys → AreHarmless (cond test xs ys)
last_or_more true xs ys h k = h
last_or_more false xs ys h k = k

onto : (k base n : ℕ) (after : List ℕ) → AreHarmless after → AreHarmless (digits_onto k base false n after)
onto zero base n after h = h
onto (suc k) base n after h =
    let digit = digit_glyph false (n % base) in
    let more = one_more digit after (glyph (n % base)) h in
    last_or_more (eqb (n / base) 0) (digit ∷ after) (digits_onto k base false (n / base) (digit ∷ after)) more
    (onto k base (n / base) (digit ∷ after) more)

decimal_harmless : (n : ℕ) → AreHarmless (decimal n)
unfolding digits
decimal_harmless n = onto 64 10 n [] none

signed_harmless : (z : ℤ) → AreHarmless (signed_decimal z)
signed_harmless (pos n) = decimal_harmless n
signed_harmless (negsuc n) = one_more 45 (decimal (suc n)) refl (decimal_harmless (suc n))

-- ---- strings

pair_harmless : (byte : ℕ) → AreHarmless (hex_pair byte)
pair_harmless byte =
    one_more (digit_glyph false (byte / 16)) (digit_glyph false (byte % 16) ∷ []) (glyph (byte / 16))
    (one_more (digit_glyph false (byte % 16)) [] (glyph (byte % 16)) none)

code_harmless : (byte : ℕ) → AreHarmless (codes "\\u00" ++ hex_pair byte)
code_harmless byte = joined (codes "\\u00") (hex_pair byte) (record { all = refl }) (pair_harmless byte)

escaped_all : (byte : ℕ) → list_all is_harmless (escaped_byte byte) ≡ true
escaped_all byte = let code = (code_harmless byte).all in grind arith

escaped_harmless : (byte : ℕ) → AreHarmless (escaped_byte byte)
escaped_harmless byte = record { all = escaped_all byte }

quoted_harmless : (text : List ℕ) → AreHarmless (in_quotes text)
quoted_harmless text =
    one_more 34 (flat_map escaped_byte text ++ 34 ∷ []) refl
    (joined (flat_map escaped_byte text) (34 ∷ []) (mapped escaped_byte escaped_harmless text) (record { all = refl }))

-- a byte between two harmless strings
around : (a b : List ℕ) (byte : ℕ) → is_harmless byte ≡ true → AreHarmless a → AreHarmless b → AreHarmless (a ++ byte ∷ b)
around a b byte e h k = joined a (byte ∷ b) h (one_more byte b e k)

-- ---- parts

-- the bytes of these parts are harmless, and the commas before them
record PartsAreHarmless (parts : List (List ℕ)) : Type 0 where
  pub held : AreHarmless (flat_map after_comma parts)

last_part : PartsAreHarmless []
last_part = record { held = none }

part : (part : List ℕ) (parts : List (List ℕ)) → AreHarmless part → PartsAreHarmless parts → PartsAreHarmless (part ∷ parts)
part p parts h k = record { held = joined (after_comma p) (flat_map after_comma parts) (one_more 44 p refl h) k.held }

key_harmless : (form : LineForm) (key : List ℕ) → AreHarmless key → AreHarmless (key_text form key)
key_harmless Arrays key h = none
key_harmless Objects key h = one_more 34 (key ++ codes "\":") refl (joined key (codes "\":") h (record { all = refl }))

-- a part with its key
with_key : (form : LineForm) (key value : List ℕ) (parts : List (List ℕ)) → AreHarmless key → AreHarmless value → PartsAreHarmless parts → PartsAreHarmless (keyed_part form key value ∷ parts)
with_key form key value parts h k rest = part (keyed_part form key value) parts (joined (key_text form key) value (key_harmless form key h) k) rest

stamp : (form : LineForm) (at : Stamp) (parts : List (List ℕ)) → PartsAreHarmless parts → PartsAreHarmless (stamp_parts form at ++ parts)
stamp form at parts h =
    with_key form (codes "seconds") _ _ (record { all = refl }) (decimal_harmless (at.mono / 1_000_000_000))
    (with_key form (codes "nanos") _ _ (record { all = refl }) (decimal_harmless (at.mono % 1_000_000_000))
    (with_key form (codes "ahead_seconds") _ _ (record { all = refl }) (signed_harmless _)
    (with_key form (codes "ahead_nanos") _ _ (record { all = refl }) (signed_harmless _)
    (with_key form (codes "thread") _ parts (record { all = refl }) (quoted_harmless at.thread) h))))

values_harmless : (fields : List Field) → PartsAreHarmless (flat_map name_and_value fields)
values_harmless [] = last_part
values_harmless (field ∷ fields) =
    part _ _ (quoted_harmless field.name) (part _ _ (quoted_harmless field.value) (values_harmless fields))

pair_of_harmless : (field : Field) → AreHarmless (pair field)
pair_of_harmless field = around (in_quotes field.name) (in_quotes field.value) 58 refl (quoted_harmless field.name) (quoted_harmless field.value)

later_harmless : (field : Field) → AreHarmless (later_pair field)
later_harmless field = one_more 44 (pair field) refl (pair_of_harmless field)

pairs_harmless : (fields : List Field) → AreHarmless (pairs fields)
pairs_harmless [] = none
pairs_harmless (field ∷ fields) = joined (pair field) (flat_map later_pair fields) (pair_of_harmless field) (mapped later_pair later_harmless fields)

fields_harmless : (form : LineForm) (fields : List Field) → PartsAreHarmless (field_parts form fields)
fields_harmless Arrays fields = values_harmless fields
fields_harmless Objects fields =
    part (codes "\"fields\":{" ++ (pairs fields ++ codes "}")) []
    (joined (codes "\"fields\":{") (pairs fields ++ codes "}") (record { all = refl }) (joined (pairs fields) (codes "}") (pairs_harmless fields) (record { all = refl }))) last_part

level_harmless : (form : LineForm) (level : Level) → AreHarmless (level_text form level)
level_harmless Arrays Levels.Trace = record { all = refl }
level_harmless Arrays Levels.Debug = record { all = refl }
level_harmless Arrays Levels.Info = record { all = refl }
level_harmless Arrays Levels.Warn = record { all = refl }
level_harmless Arrays Levels.Error = record { all = refl }
level_harmless Objects Levels.Trace = record { all = refl }
level_harmless Objects Levels.Debug = record { all = refl }
level_harmless Objects Levels.Info = record { all = refl }
level_harmless Objects Levels.Warn = record { all = refl }
level_harmless Objects Levels.Error = record { all = refl }

parts_harmless : (form : LineForm) (step : Step) → PartsAreHarmless (step_parts form step)
parts_harmless form (About title) = with_key form (codes "title") _ _ (record { all = refl }) (quoted_harmless title) last_part
parts_harmless form (New at id parent name target fields) =
    stamp form at _ (with_key form (codes "id") _ _ (record { all = refl }) (decimal_harmless id)
    (with_key form (codes "parent") _ _ (record { all = refl }) (decimal_harmless parent)
    (with_key form (codes "name") _ _ (record { all = refl }) (quoted_harmless name)
    (with_key form (codes "target") _ _ (record { all = refl }) (quoted_harmless target) (fields_harmless form fields)))))
parts_harmless form (Record id fields) = with_key form (codes "id") _ _ (record { all = refl }) (decimal_harmless id) (fields_harmless form fields)
parts_harmless form (Event at parent current level target fields) =
    stamp form at _ (with_key form (codes "parent") _ _ (record { all = refl }) (decimal_harmless parent)
    (with_key form (codes "current") _ _ (record { all = refl }) (decimal_harmless current)
    (with_key form (codes "level") _ _ (record { all = refl }) (level_harmless form level)
    (with_key form (codes "target") _ _ (record { all = refl }) (quoted_harmless target) (fields_harmless form fields)))))
parts_harmless form (Close at id) = stamp form at _ (with_key form (codes "id") _ _ (record { all = refl }) (decimal_harmless id) last_part)
parts_harmless form End = last_part

start_harmless : (form : LineForm) (kind : Kind) → AreHarmless (start_text form kind)
start_harmless Arrays Kinds.About = record { all = refl }
start_harmless Arrays Kinds.New = record { all = refl }
start_harmless Arrays Kinds.Record = record { all = refl }
start_harmless Arrays Kinds.Event = record { all = refl }
start_harmless Arrays Kinds.Close = record { all = refl }
start_harmless Arrays Kinds.End = record { all = refl }
start_harmless Objects Kinds.About = record { all = refl }
start_harmless Objects Kinds.New = record { all = refl }
start_harmless Objects Kinds.Record = record { all = refl }
start_harmless Objects Kinds.Event = record { all = refl }
start_harmless Objects Kinds.Close = record { all = refl }
start_harmless Objects Kinds.End = record { all = refl }

bracket_harmless : (form : LineForm) → AreHarmless (bracket form)
bracket_harmless Arrays = record { all = refl }
bracket_harmless Objects = record { all = refl }

-- ---- lines

-- whatever a step has in it, its line has no `<`, and no control character except its line end
pub lines_are_harmless : AreLinesHarmless
lines_are_harmless form step =
    let start = start_text form (step_kind step) in
    let parts = flat_map after_comma (step_parts form step) in
    record {
      front = start ++ parts ++ bracket form;
      ended = sym (append_assoc (start ++ parts) (bracket form) (codes "\n"));
      harmless = (joined (start ++ parts) (bracket form) (joined start parts (start_harmless form (step_kind step)) (parts_harmless form step).held) (bracket_harmless form)).all;
    }
