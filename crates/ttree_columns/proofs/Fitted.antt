-- The first characters of a line.
use Rattle.std.proofs.Common.{◌≡◌, ℕ, ◌+◌, ◌-◌, ◌<◌, ◌≤◌, nat_lt, Bool, true, false, if◌then◌else◌, List, [], ◌∷◌, ◌++◌, arith, refl, sym, ap, ◌∙◌}
use Rattle.std.proofs.lemmas.Bool.{lt-ltb, le-ltb}
use Rattle.ttree_columns.specs.declared.columns.Place.{Place}
use Rattle.ttree_columns.specs.Columns.{column_after, columns, fitting, is_wider, past}

-- the column of the next character
pub moved : (place next : Place) (c taken : ℕ) → next ≡ past place c → taken ≡ columns place c → next.column ≡ place.column + taken
moved place next c taken e same = ap (λ p. p.column) e ∙ ap (λ n. place.column + n) (sym same)

-- a character that doesn't fit makes a line wider
pub wider_here : (width : ℕ) (place : Place) (c taken : ℕ) (cs : List ℕ) → taken ≡ columns place c → place.column ≤ width → width - place.column < taken → is_wider width place (c ∷ cs) ≡ true
wider_here width place c taken cs same within more =
    let here : nat_lt width (place.column + columns place c) ≡ true =
    lt-ltb width (place.column + columns place c) (omega (arith, same, within, more)) in
    rw here refl

-- otherwise the next ones decide
pub wider_later : (width : ℕ) (place next : Place) (c taken : ℕ) (cs : List ℕ) → next ≡ past place c → taken ≡ columns place c → place.column ≤ width → taken ≤ width - place.column →
    is_wider width next cs ≡ is_wider width place (c ∷ cs)
wider_later width place next c taken cs e same within less =
    let here : nat_lt width (place.column + columns place c) ≡ false =
    le-ltb width (place.column + columns place c) (omega (arith, same, within, less)) in
    rw here (ap (λ p. is_wider width p cs) e)

-- no character fits from one on that reaches the width
pub fits_none : (width : ℕ) (place : Place) (c taken : ℕ) (cs : List ℕ) → taken ≡ columns place c → place.column ≤ width → width - place.column ≤ taken → fitting width place (c ∷ cs) ≡ []
fits_none width place c taken cs same within more =
    let here : nat_lt (place.column + columns place c) width ≡ false =
    le-ltb (place.column + columns place c) width (omega (arith, same, within, more)) in
    rw here refl

-- a character fits, and the next ones may
pub fits_one : (width : ℕ) (place next : Place) (c taken : ℕ) (cs : List ℕ) → next ≡ past place c → taken ≡ columns place c → place.column ≤ width → taken < width - place.column →
    c ∷ fitting width next cs ≡ fitting width place (c ∷ cs)
fits_one width place next c taken cs e same within less =
    let here : nat_lt (place.column + columns place c) width ≡ true =
    lt-ltb (place.column + columns place c) width (omega (arith, same, within, less)) in
    rw here (ap (λ p. c ∷ fitting width p cs) e)

-- a column that fewer characters reach is reached through the next place
pub reached_later : (width : ℕ) (place next : Place) (c taken : ℕ) (cs : List ℕ) → next ≡ past place c → taken ≡ columns place c → place.column ≤ width → taken < width - place.column →
    column_after next (fitting width next cs) ≡ column_after place (fitting width place (c ∷ cs))
reached_later width place next c taken cs e same within less =
    ap (λ p. column_after p (fitting width next cs)) e
    ∙ ap (column_after place) (fits_one width place next c taken cs e same within less)

-- the characters that fit are a first part
pub fitting_part : (width : ℕ) (place : Place) (cs : List ℕ) → (rest : List ℕ) × (cs ≡ fitting width place cs ++ rest)
fitting_part width place [] = ([], refl)
fitting_part width place (c ∷ cs) =
    one (nat_lt (past place c).column width) c cs (fitting width (past place c) cs) (fitting_part width (past place c) cs)
  where
    one : (test : Bool) (c : ℕ) (cs more : List ℕ) → ((rest : List ℕ) × (cs ≡ more ++ rest)) → (rest : List ℕ) × ((c ∷ cs) ≡ (if test then c ∷ more else []) ++ rest)
    one true c cs more (rest, e) = (rest, ap (λ l. c ∷ l) e)
    one false c cs more h = (c ∷ cs, refl)
