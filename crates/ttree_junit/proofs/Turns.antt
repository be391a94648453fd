-- A turn over lines.
use Rattle.std.proofs.Common.{◌≡◌, ℕ, zero, suc, true, false, List, ◌++◌, Option, length, append_assoc, append-nil, refl}
use Rattle.std.specs.Prelude.{◌==◌}
use Rattle.tracing_tree_base.specs.declared.context.Moment.{Moment}
use Rattle.tracing_tree_layer.specs.declared.call.Call.{Call}
use Rattle.ttree_junit.specs.Failure.{after_line_in, and_then_has, has_lines_within}
use Rattle.ttree_junit.specs.Lines.{after_line, kept_after, line_rows, rows_within, text_first_line}
use Rattle.ttree_junit.specs.Plain.{plain_line, plain_within}
use Rattle.ttree_junit.specs.declared.lines.Row.{Row}

-- nothing has no rows
pub nothing_left : (n : ℕ) (kept : Option (List ℕ)) (rest : List ℕ) (rows : List Row) → (length rest == 0) ≡ true → rows ++ rows_within n kept rest ≡ rows
nothing_left zero kept rest rows e = append-nil rows
nothing_left (suc n) kept rest rows e = rw e (append-nil rows)

-- a turn appends the rows of a line
pub turned : (n : ℕ) (kept : Option (List ℕ)) (rest : List ℕ) (rows : List Row) → (length rest == 0) ≡ false →
    rows ++ rows_within (suc n) kept rest ≡ (rows ++ line_rows kept (text_first_line rest)) ++ rows_within n (kept_after kept (text_first_line rest)) (after_line rest)
turned n kept rest rows e = rw e (simp append_assoc)

-- nothing has no calls
pub no_plain_left : (n : ℕ) (moment : Moment) (rest : List ℕ) (calls : List Call) → (length rest == 0) ≡ true → calls ++ plain_within n moment rest ≡ calls
no_plain_left zero moment rest calls e = append-nil calls
no_plain_left (suc n) moment rest calls e = rw e (append-nil calls)

-- a turn appends the call of a line
pub plain_turned : (n : ℕ) (moment : Moment) (rest : List ℕ) (calls : List Call) → (length rest == 0) ≡ false →
    calls ++ plain_within (suc n) moment rest ≡ (calls ++ plain_line moment (text_first_line rest)) ++ plain_within n moment (after_line rest)
plain_turned n moment rest calls e = rw e (simp append_assoc)

-- a body has each line of nothing
pub nothing_to_find : (n : ℕ) (rest left : List ℕ) → (length rest == 0) ≡ true → has_lines_within n rest left ≡ true
nothing_to_find zero rest left e = refl
nothing_to_find (suc n) rest left e = rw e refl

-- a turn finds a line
pub found : (n : ℕ) (rest left : List ℕ) → (length rest == 0) ≡ false →
    has_lines_within (suc n) rest left ≡ and_then_has (after_line_in (text_first_line rest) left) (λ r. has_lines_within n (after_line rest) r)
found n rest left e = rw e refl
