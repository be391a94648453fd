-- The last places of the rows that open each level, row by row.
use Rattle.std.proofs.Common.{◌≡◌, ◌≢◌, ℕ, zero, suc, ◌+◌, ◌<◌, ◌≤◌, ◌==◌, ◌&&◌, Bool, true, false, List, [], ◌∷◌, ◌++◌, length, map, take, filter, set, Option, Some, None, option_map, option_to_list, append_assoc, replicate, min, ◌⊎◌, inl, inr, ◌-◌, if◌then◌else◌, refl, sym, ap, ◌∙◌, arith, length-append}
use Rattle.std.proofs.lemmas.Bool.{cases_lt}
use Rattle.std.specs.List.{enumerate_from, last_or, range_with_len, filter_map}
use Rattle.std.proofs.lemmas.List.{take_all, take-append-le}
use Rattle.tracing_tree_drawing.specs.Rows.RowText.{TextRow, ancestor_at, event_path, event_path_at, event_paths, is_event, is_opening, last_place, opens_level}
use Rattle.tracing_tree_drawing.specs.Rows.Paths.{AreLastPlaces, ArePathsOf, FollowsRows, place_at}
use Rattle.tracing_tree_drawing.specs.declared.rows.paths.EventPath.{EventPath}
use Rattle.tracing_tree_drawing.specs.declared.rows.row.Shape.{Shape}
use Rattle.tracing_tree_drawing.specs.declared.rows.row.Shape.TheVariants.{PreOpen, OpenRoot, Open, CloseRoot, Close, PostClose, Event}

-- ---- last places

last-entry : {X : Type 0} (test : X → Bool) (n : ℕ) (found : Option (ℕ × X)) (xs : List X) (x : X) →
    last_or found (filter (λ e. test e.1) (enumerate_from n (xs ++ x ∷ [])))
    ≡ (if test x then Some (n + length xs, x) else last_or found (filter (λ e. test e.1) (enumerate_from n xs)))
last-entry {X = X} test n found [] x = by (test x)
  where
    same : n ≡ n + 0
    same = omega arith

    by : (b : Bool) → last_or found (if b then (n, x) ∷ [] else []) ≡ (if b then Some (n + 0, x) else found)
    by true = ap (λ m. Some (m, x)) same
    by false = refl
last-entry {X = X} test n found (y ∷ xs) x = by (λ o. last-entry test (n + 1) o xs x) (test y)
  where
    count : n + 1 + length xs ≡ n + length (y ∷ xs)
    count = omega arith

    by : ((o : Option (ℕ × X)) → last_or o (filter (λ e. test e.1) (enumerate_from (n + 1) (xs ++ x ∷ [])))
        ≡ (if test x then Some (n + 1 + length xs, x) else last_or o (filter (λ e. test e.1) (enumerate_from (n + 1) xs)))) → (b : Bool) →
        last_or found (if b then (n, y) ∷ filter (λ e. test e.1) (enumerate_from (n + 1) (xs ++ x ∷ [])) else filter (λ e. test e.1) (enumerate_from (n + 1) (xs ++ x ∷ [])))
        ≡ (if test x then Some (n + length (y ∷ xs), x)
        else last_or found (if b then (n, y) ∷ filter (λ e. test e.1) (enumerate_from (n + 1) xs) else filter (λ e. test e.1) (enumerate_from (n + 1) xs)))
    by ih true = ih (Some (n, y)) ∙ ap (λ m. if test x then Some (m, x) else last_or (Some (n, y)) (filter (λ e. test e.1) (enumerate_from (n + 1) xs))) count
    by ih false = ih found ∙ ap (λ m. if test x then Some (m, x) else last_or found (filter (λ e. test e.1) (enumerate_from (n + 1) xs))) count

last_place-push : {X : Type 0} (test : X → Bool) (xs : List X) (x : X) → last_place test (xs ++ x ∷ []) ≡ (if test x then Some (length xs) else last_place test xs)
last_place-push {X = X} test xs x = ap (option_map (λ e. e.0)) (last-entry test 0 None xs x) ∙ by (test x)
  where
    zero-more : 0 + length xs ≡ length xs
    zero-more = omega arith

    by : (b : Bool) → option_map (λ e. e.0) (if b then Some (0 + length xs, x) else last_or None (filter (λ e. test e.1) (enumerate_from 0 xs)))
        ≡ (if b then Some (length xs) else last_place test xs)
    by true = ap Some zero-more
    by false = refl

ancestor_at-all : (rows : List TextRow) (level : ℕ) → ancestor_at rows (length rows) level ≡ last_place (opens_level level) rows
ancestor_at-all rows level = ap (last_place (opens_level level)) (take_all (length rows) rows (omega arith))

ancestor_at-push : (rows : List TextRow) (row : TextRow) (level : ℕ) →
    ancestor_at (rows ++ row ∷ []) (length (rows ++ row ∷ [])) level ≡ (if opens_level level row then Some (length rows) else ancestor_at rows (length rows) level)
ancestor_at-push rows row level =
    ancestor_at-all (rows ++ row ∷ []) level ∙ last_place-push (opens_level level) rows row
    ∙ ap (λ o. if opens_level level row then Some (length rows) else o) (sym (ancestor_at-all rows level))

-- before the first row
pub last_none : AreLastPlaces [] []
last_none level = refl

-- a row that opens its level
pub follows-opening : (rows : List TextRow) (row : TextRow) (old new : List (Option ℕ)) (place : ℕ) → place ≡ length rows → AreLastPlaces rows old →
    is_opening row.shape ≡ true → is_event row.shape ≡ false → ((k : ℕ) → place_at new k ≡ (if row.level == k then Some place else place_at old k)) →
    FollowsRows rows row None new
follows-opening rows row old new place at last opens quiet moved = record {
  last = λ k. moved k ∙ ap (λ p. if row.level == k then Some p else place_at old k) at ∙ ap (λ o. if row.level == k then Some (length rows) else o) (last k)
      ∙ ap (λ b. if b && (row.level == k) then Some (length rows) else ancestor_at rows (length rows) k) (sym opens) ∙ sym (ancestor_at-push rows row k);
  found = sym (ap (λ b. if b then Some (event_path rows (length rows) row.level) else None) quiet);
}

stays : (rows : List TextRow) (row : TextRow) (old : List (Option ℕ)) → AreLastPlaces rows old → is_opening row.shape ≡ false → AreLastPlaces (rows ++ row ∷ []) old
stays rows row old last shut k =
    last k ∙ ap (λ b. if b && (row.level == k) then Some (length rows) else ancestor_at rows (length rows) k) (sym shut) ∙ sym (ancestor_at-push rows row k)

-- an event's row
pub follows-event : (rows : List TextRow) (row : TextRow) (old : List (Option ℕ)) (place : ℕ) (places : List (Option ℕ)) → place ≡ length rows → AreLastPlaces rows old →
    is_opening row.shape ≡ false → is_event row.shape ≡ true → places ≡ map (place_at old) (range_with_len 0 row.level) →
    FollowsRows rows row (Some (record { event = place; ancestors = places })) old
follows-event rows row old place places at last shut event is = record {
  last = stays rows row old last shut;
  found = (λ i. Some (record { event = at i; ancestors = is i }))
      ∙ (λ i. Some (record { event = length rows; ancestors = map (λ k. last k i) (range_with_len 0 row.level) }))
      ∙ sym (ap (λ b. if b then Some (event_path rows (length rows) row.level) else None) event);
}

-- any other row
pub follows-other : (rows : List TextRow) (row : TextRow) (old : List (Option ℕ)) → AreLastPlaces rows old → is_opening row.shape ≡ false → is_event row.shape ≡ false →
    FollowsRows rows row None old
follows-other rows row old last shut quiet = record {
  last = stays rows row old last shut;
  found = sym (ap (λ b. if b then Some (event_path rows (length rows) row.level) else None) quiet);
}

pub opening-quiet : (row : TextRow) → is_opening row.shape ≡ true → is_event row.shape ≡ false
opening-quiet row e = by row.shape e
  where
    by : (shape : Shape) → is_opening shape ≡ true → is_event shape ≡ false
    by PreOpen e = refl
    by OpenRoot e = refl
    by (Open verbose) e = refl
    by CloseRoot e = refl
    by (Close verbose) e = refl
    by PostClose e = refl
    by Event e = absurd (cc)

-- ---- paths

-- later rows change no path
pub path-same : (rows more : List TextRow) (place : ℕ) (row : TextRow) → place ≤ length rows → event_path_at (rows ++ more) place row ≡ event_path_at rows place row
path-same rows more place row le =
    ap (λ (before : List TextRow). if is_event row.shape
    then Some (record { event = place; ancestors = map (λ level. last_place (opens_level level) before) (range_with_len 0 row.level) }) else None)
    (take-append-le place rows more le)

-- with a path before them, if there is one
abbrev pub entry : Option EventPath → List EventPath → List EventPath
entry None paths = paths
entry (Some path) paths = path ∷ paths

paths-from : (rows : List TextRow) (row : TextRow) (n : ℕ) (xs : List TextRow) → n + length xs ≡ length rows →
    filter_map (λ e. event_path_at (rows ++ row ∷ []) e.0 e.1) (enumerate_from n (xs ++ row ∷ []))
    ≡ filter_map (λ e. event_path_at rows e.0 e.1) (enumerate_from n xs) ++ option_to_list (event_path_at rows (length rows) row)
paths-from rows row n [] e =
    let here : n ≡ length rows = omega arith in
    ap (λ o. entry o []) (path-same rows (row ∷ []) n row (omega arith) ∙ ap (λ m. event_path_at rows m row) here) ∙ one (event_path_at rows (length rows) row)
  where
    one : (o : Option EventPath) → entry o [] ≡ option_to_list o
    one None = refl
    one (Some path) = refl
paths-from rows row n (x ∷ xs) e =
    by (paths-from rows row (n + 1) xs (omega arith)) (event_path_at (rows ++ row ∷ []) n x) (event_path_at rows n x) (path-same rows (row ∷ []) n x (omega arith))
  where
    -- the first entry and then those after it
    by : filter_map (λ e. event_path_at (rows ++ row ∷ []) e.0 e.1) (enumerate_from (n + 1) (xs ++ row ∷ []))
        ≡ filter_map (λ e. event_path_at rows e.0 e.1) (enumerate_from (n + 1) xs) ++ option_to_list (event_path_at rows (length rows) row) →
        (o p : Option EventPath) → o ≡ p →
        entry o (filter_map (λ e. event_path_at (rows ++ row ∷ []) e.0 e.1) (enumerate_from (n + 1) (xs ++ row ∷ [])))
        ≡ entry p (filter_map (λ e. event_path_at rows e.0 e.1) (enumerate_from (n + 1) xs)) ++ option_to_list (event_path_at rows (length rows) row)
    by ih o p same = ap (λ q. entry q (filter_map (λ e. event_path_at (rows ++ row ∷ []) e.0 e.1) (enumerate_from (n + 1) (xs ++ row ∷ [])))) same ∙ with p
      where
        with : (p : Option EventPath) → entry p (filter_map (λ e. event_path_at (rows ++ row ∷ []) e.0 e.1) (enumerate_from (n + 1) (xs ++ row ∷ [])))
            ≡ entry p (filter_map (λ e. event_path_at rows e.0 e.1) (enumerate_from (n + 1) xs)) ++ option_to_list (event_path_at rows (length rows) row)
        with None = ih
        with (Some path) = ap (λ ps. path ∷ ps) ih

pub event_paths-push : (rows : List TextRow) (row : TextRow) → event_paths (rows ++ row ∷ []) ≡ event_paths rows ++ option_to_list (event_path_at rows (length rows) row)
event_paths-push rows row = paths-from rows row 0 rows (let e : 0 + length rows ≡ length rows = omega arith in e)

-- the paths after one more row
pub paths-more : (rows : List TextRow) (row : TextRow) (old new : List (Option ℕ)) (count more : ℕ) (paths found : List EventPath) (path : Option EventPath) →
    ArePathsOf rows old count paths → FollowsRows rows row path new → more ≡ count + 1 → found ≡ paths ++ option_to_list path → ArePathsOf (rows ++ row ∷ []) new more found
paths-more rows row old new count more paths found path h f n e = record {
  last = f.last;
  counted = let m = length-append rows (row ∷ []) in let k = h.counted in omega arith;
  found = e ∙ ap (λ ps. ps ++ option_to_list path) h.found ∙ ap (λ o. event_paths rows ++ option_to_list o) f.found ∙ sym (event_paths-push rows row);
}

-- ---- places

-- no place more
pub place_at-push : (places : List (Option ℕ)) (k : ℕ) → place_at (places ++ None ∷ []) k ≡ place_at places k
place_at-push [] zero = refl
place_at-push [] (suc k) = refl
place_at-push (place ∷ places) zero = refl
place_at-push (place ∷ places) (suc k) = place_at-push places k

-- a place is written
place_at-same : (places : List (Option ℕ)) (level place : ℕ) → level < length places → place_at (set places level (Some place)) level ≡ Some place
place_at-same [] level place lt = absurd (omega arith)
place_at-same (first ∷ places) zero place lt = refl
place_at-same (first ∷ places) (suc level) place lt = place_at-same places level place (omega arith)

place_at-other : (places : List (Option ℕ)) (level place k : ℕ) → level ≢ k → place_at (set places level (Some place)) k ≡ place_at places k
place_at-other [] level place k ne = refl
place_at-other (first ∷ places) zero place zero ne = absurd (ne refl)
place_at-other (first ∷ places) zero place (suc k) ne = refl
place_at-other (first ∷ places) (suc level) place zero ne = refl
place_at-other (first ∷ places) (suc level) place (suc k) ne = place_at-other places level place k (λ e. ne (ap suc e))

-- the places of the first levels: those that are kept, and `None` for the others
take-none : (level : ℕ) → take {A = Option ℕ} level [] ≡ []
take-none zero = refl
take-none (suc level) = refl

places-from : (f : ℕ → Option ℕ) (places : List (Option ℕ)) (level n : ℕ) → ((k : ℕ) → place_at places k ≡ f (n + k)) →
    take level places ++ replicate (level - length places) None ≡ map f (range_with_len n level)
places-from f places zero n h = ap (λ m. replicate m None) (let e : 0 - length places ≡ 0 = omega arith in e)
places-from f [] (suc level) n h =
    let less : suc level - 0 ≡ suc (level - 0) = omega arith in
    let here : n ≡ n + 0 = omega arith in
    ap (λ m. replicate m None) less
    ∙ ap (λ ts. None ∷ (ts ++ replicate (level - 0) None)) (sym (take-none level))
    ∙ (λ i. (h 0 ∙ ap f (sym here)) i ∷ places-from f [] level (n + 1) (λ k. h (suc k) ∙ ap f (let e : n + suc k ≡ n + 1 + k = omega arith in e)) i)
places-from f (place ∷ places) (suc level) n h =
    let less : suc level - length (place ∷ places) ≡ level - length places = omega arith in
    let here : n ≡ n + 0 = omega arith in
    ap (λ m. place ∷ (take level places ++ replicate m None)) less
    ∙ (λ i. (h 0 ∙ ap f (sym here)) i ∷ places-from f places level (n + 1) (λ k. h (suc k) ∙ ap f (let e : n + suc k ≡ n + 1 + k = omega arith in e)) i)

pub places-first : (places : List (Option ℕ)) (level : ℕ) → take level places ++ replicate (level - length places) None ≡ map (place_at places) (range_with_len 0 level)
places-first places level = places-from (place_at places) places level 0 (λ k. ap (place_at places) (let e : k ≡ 0 + k = omega arith in e))

pub places-kept : (places : List (Option ℕ)) (level kept : ℕ) → kept ≡ min level (length places) →
    take kept places ++ replicate (level - kept) None ≡ map (place_at places) (range_with_len 0 level)
places-kept places level kept e = by (cases_lt (length places) level) ∙ places-first places level
  where
    by : (length places < level) ⊎ (level ≤ length places) → take kept places ++ replicate (level - kept) None ≡ take level places ++ replicate (level - length places) None
    by (inl lt) =
        let same : kept ≡ length places = omega arith in
        ap (λ n. take n places ++ replicate (level - n) None) same
        ∙ ap (λ ts. ts ++ replicate (level - length places) None) (take_all (length places) places (omega arith) ∙ sym (take_all level places (omega arith)))
    by (inr le) =
        let same : kept ≡ level = omega arith in
        let none : level - kept ≡ level - length places = omega arith in
        ap (λ n. take n places ++ replicate (level - kept) None) same ∙ ap (λ n. take level places ++ replicate n None) none

replicate-more : {X : Type 0} (n : ℕ) (x : X) → replicate n x ++ x ∷ [] ≡ replicate (suc n) x
replicate-more zero x = refl
replicate-more (suc n) x = ap (λ xs. x ∷ xs) (replicate-more n x)

-- one more level without a place
pub none-more : (places : List (Option ℕ)) (kept absent : ℕ) → kept ≤ absent →
    (places ++ replicate (absent - kept) None) ++ None ∷ [] ≡ places ++ replicate (absent + 1 - kept) None
none-more places kept absent le =
    let more : absent + 1 - kept ≡ suc (absent - kept) = omega arith in
    append_assoc places (replicate (absent - kept) None) (None ∷ [])
    ∙ ap (λ ps. places ++ ps) (replicate-more (absent - kept) None ∙ ap (λ n. replicate n None) (sym more))
