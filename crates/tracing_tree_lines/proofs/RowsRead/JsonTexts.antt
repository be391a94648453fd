-- The JSON of a row as it is built, and a string that is written piece by piece.
use Rattle.std.proofs.Common.{◌≡◌, ℕ, ◌+◌, true, false, List, [], ◌∷◌, ◌++◌, length, take, Option, Some, None, Result, Ok, Err, OnOk, is_ok, if◌then◌else◌, codes, decimal, refl, sym, ap, ◌∙◌, subst, append_assoc, append-nil}
use Rattle.std.proofs.Math.Seq.{take-append-add}
use Rattle.std.specs.Io.KnownBytes.{Appends, Keeps}
use Rattle.std.proofs.KnownBytes.{Appends-kept}
use Rattle.serde_json.proofs.OnLiterals.{serde_json_on_literals}
use Rattle.serde_json.specs.Data.{number, unsigned, array, Items, member}
use Rattle.serde_json.specs.Written.{items_text, members_text}
use Rattle.tracing_tree_drawing.specs.Rows.RowText.{TextRow}
use Rattle.tracing_tree_lines.specs.Rows.Json.{ancestors_member, place_items, row_json, text_items}
use Rattle.tracing_tree_lines.specs.Rows.JsonSteps.{ancestors_text, level_json, shape_text}
use Rattle.tracing_tree_drawing.specs.declared.rows.paths.EventPath.{EventPath}
use Rattle.tracing_tree_drawing.specs.declared.rows.row.Shape.{Shape}
use Rattle.tracing_tree_drawing.specs.declared.rows.row.Shape.TheVariants.{PreOpen, OpenRoot, Open, CloseRoot, Close, PostClose, Event}

-- what holds if all went well
pub on_ok : {E : Type 0} (result : Result (Unit {0}) E) (x a b : List ℕ) → x ≡ (if is_ok result then a else b) → OnOk result (x ≡ a)
on_ok (Ok done) x a b e = e
on_ok (Err error) x a b e = tt

-- ---- a row

-- the ancestors, and the end
ancestors-end : (path : Option EventPath) → members_text true (ancestors_member path) ++ 10 ∷ [] ≡ ancestors_text path ++ codes "}\n"
unfolding serde_json_on_literals
ancestors-end None = refl
ancestors-end (Some path) = ap (λ t. codes ",\"ancestors\":[" ++ t) (append_assoc (items_text false (place_items path.ancestors)) (125 ∷ []) (10 ∷ []))

-- from the level on
members-end : (level : ℕ) (items : Items) (path : Option EventPath) →
    members_text true (member (codes "level") (number (unsigned level)) (member (codes "lines") (array items) (ancestors_member path))) ++ 10 ∷ []
    ≡ level_json level ++ (items_text false items ++ (ancestors_text path ++ codes "}\n"))
unfolding serde_json_on_literals
members-end level items path =
    let texts = items_text false items in
    let end = members_text true (ancestors_member path) in
    ap (λ t. codes ",\"level\":" ++ t)
    (append_assoc (decimal level) (codes ",\"lines\":[" ++ (texts ++ end)) (10 ∷ [])
    ∙ ap (λ t. decimal level ++ (codes ",\"lines\":[" ++ t)) (append_assoc texts end (10 ∷ []) ∙ ap (λ t. texts ++ t) (ancestors-end path))
    ∙ sym (append_assoc (decimal level) (codes ",\"lines\":[") (texts ++ (ancestors_text path ++ codes "}\n"))))

pub row-text : (row : TextRow) (path : Option EventPath) →
    row_json row path ++ 10 ∷ [] ≡ shape_text row.shape ++ (level_json row.level ++ (items_text false (text_items row.lines) ++ (ancestors_text path ++ codes "}\n")))
unfolding serde_json_on_literals
row-text row path = by row.shape
  where
    by : (shape : Shape) → row_json (record row { shape = shape }) path ++ 10 ∷ []
        ≡ shape_text shape ++ (level_json row.level ++ (items_text false (text_items row.lines) ++ (ancestors_text path ++ codes "}\n")))
    by PreOpen = ap (λ t. shape_text PreOpen ++ t) (members-end row.level (text_items row.lines) path)
    by OpenRoot = ap (λ t. shape_text OpenRoot ++ t) (members-end row.level (text_items row.lines) path)
    by (Open true) = ap (λ t. shape_text (Open true) ++ t) (members-end row.level (text_items row.lines) path)
    by (Open false) = ap (λ t. shape_text (Open false) ++ t) (members-end row.level (text_items row.lines) path)
    by CloseRoot = ap (λ t. shape_text CloseRoot ++ t) (members-end row.level (text_items row.lines) path)
    by (Close true) = ap (λ t. shape_text (Close true) ++ t) (members-end row.level (text_items row.lines) path)
    by (Close false) = ap (λ t. shape_text (Close false) ++ t) (members-end row.level (text_items row.lines) path)
    by PostClose = ap (λ t. shape_text PostClose ++ t) (members-end row.level (text_items row.lines) path)
    by Event = ap (λ t. shape_text Event ++ t) (members-end row.level (text_items row.lines) path)

-- the row's line after what was there, piece by piece
pub row-pushed : (row : TextRow) (path : Option EventPath) (start a b c d e : List ℕ) → a ≡ start ++ shape_text row.shape → b ≡ a ++ level_json row.level →
    c ≡ b ++ items_text false (text_items row.lines) → d ≡ c ++ ancestors_text path → e ≡ d ++ codes "}\n" → e ≡ start ++ (row_json row path ++ 10 ∷ [])
row-pushed row path start a b c d e h k l m n =
    let shape = shape_text row.shape in
    let level = level_json row.level in
    let texts = items_text false (text_items row.lines) in
    let places = ancestors_text path in
    n ∙ ap (λ t. t ++ codes "}\n") (m ∙ ap (λ t. t ++ places) (l ∙ ap (λ t. t ++ texts) (k ∙ ap (λ t. t ++ level) h)))
    ∙ append_assoc (((start ++ shape) ++ level) ++ texts) places (codes "}\n")
    ∙ append_assoc ((start ++ shape) ++ level) texts (places ++ codes "}\n")
    ∙ append_assoc (start ++ shape) level (texts ++ (places ++ codes "}\n"))
    ∙ append_assoc start shape (level ++ (texts ++ (places ++ codes "}\n")))
    ∙ ap (λ t. start ++ t) (sym (row-text row path))

-- ---- a string

-- a prefix of what is left, after what was written
pub writes-no-more : (a b c : Option (List ℕ)) (text done rest : List ℕ) → text ≡ done ++ rest → Appends a b done → Keeps b c →
    (count : ℕ) × Appends a c (take count text)
writes-no-more a b c text done rest whole first kept = (
  length done + 0,
  subst (Appends a c) (sym (append-nil done) ∙ sym (take-append-add done rest 0) ∙ ap (take (length done + 0)) (sym whole)) (Appends-kept a b c done first kept),
)
