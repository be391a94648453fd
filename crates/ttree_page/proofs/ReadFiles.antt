-- The lines of a file are read, also if it is cut off.
use Rattle.std.proofs.Common.{◌≡◌, ◌≢◌, ℕ, suc, eqb, true, false, List, [], ◌∷◌, ◌++◌, map, take, All, Option, Some, arith, refl, sym, ap, ◌∙◌, append_assoc, ◌⊎◌, inl, inr}
use Rattle.std.specs.Prelude.{⊤, ◌&&◌, not, if◌then◌else◌}
use Rattle.std.specs.List.{list_all}
use Rattle.std.proofs.lemmas.Bool.{and_parts, ne_eqb}
use Rattle.std.proofs.lemmas.List.{append-nil}
use Rattle.std.proofs.lemmas.List.Elements.{All-head, All-tail, All-take}
use Rattle.ttree_page.specs.declared.form.LineForm.TheVariants.{Arrays}
use Rattle.ttree_page.specs.Lines.{is_harmless, step_line}
use Rattle.ttree_page.specs.Parsing.{Split, begin_line, put_before, read_line, read_lines, split_lines}
use Rattle.ttree_page.specs.Reading.{AreCutLinesRead, AreLinesRead, FitsStep, is_inside}
use Rattle.ttree_page.specs.Steps.{Step}
use Rattle.ttree_page.specs.Writing.{lines_of}
use Rattle.ttree_page.proofs.Harmless.{lines_are_harmless}
use Rattle.ttree_page.proofs.ReadLines.{step_read}

-- no line ends in these bytes
abbrev NoEnd : List ℕ → Type 0
NoEnd [] = ⊤
NoEnd (byte ∷ rest) = (eqb byte 10 ≡ false) × NoEnd rest

no_end : (byte : ℕ) → is_harmless byte ≡ true → byte ≢ 10
no_end byte h e = grind arith

harmless_has_no_end : (bytes : List ℕ) → list_all is_harmless bytes ≡ true → NoEnd bytes
harmless_has_no_end [] h = tt
harmless_has_no_end (byte ∷ rest) h =
    let both = and_parts (is_harmless byte) (list_all is_harmless rest) h in
    (ne_eqb byte 10 (no_end byte both.0), harmless_has_no_end rest both.1)

all_inside : (bytes : List ℕ) → NoEnd bytes → list_all is_inside bytes ≡ true
all_inside [] h = refl
all_inside (byte ∷ rest) h = ap (λ test. not test && list_all is_inside rest) h.0 ∙ all_inside rest h.1

-- ---- lines

split_left : (left : List ℕ) → NoEnd left → split_lines left ≡ ([], left)
split_left [] h = refl
split_left (byte ∷ left) h =
    ap (put_before byte) (split_left left h.1)
    ∙ ap (λ test. if test then ((10 ∷ []) ∷ [], left) else ([], byte ∷ left)) h.0

split_front : (front rest : List ℕ) → NoEnd front → split_lines (front ++ 10 ∷ rest) ≡ ((front ++ 10 ∷ []) ∷ (split_lines rest).0, (split_lines rest).1)
split_front [] rest h = refl
split_front (byte ∷ front) rest h =
    let after : Split = ((front ++ 10 ∷ []) ∷ (split_lines rest).0, (split_lines rest).1) in
    ap (put_before byte) (split_front front rest h.1)
    ∙ ap (λ test. if test then ((10 ∷ []) ∷ after.0, after.1) else begin_line byte after) h.0

-- what is known of a step's line
record Line (step : Step) : Type 0 where
  front : List ℕ
  ended : step_line Arrays step ≡ front ++ 10 ∷ []
  inside : NoEnd front

line : (step : Step) → Line step
line step =
    let harmless = lines_are_harmless Arrays step in
    record { front = harmless.front; ended = harmless.ended; inside = harmless_has_no_end harmless.front harmless.harmless }

-- a line and what follows it
followed : (step : Step) (rest : List ℕ) → step_line Arrays step ++ rest ≡ (line step).front ++ 10 ∷ rest
followed step rest = ap (λ l. l ++ rest) (line step).ended ∙ append_assoc (line step).front (10 ∷ []) rest

split_line : (step : Step) (rest : List ℕ) → split_lines (step_line Arrays step ++ rest) ≡ (step_line Arrays step ∷ (split_lines rest).0, (split_lines rest).1)
split_line step rest =
    ap split_lines (followed step rest) ∙ split_front (line step).front rest (line step).inside
    ∙ ap (λ (l : List ℕ). (l ∷ (split_lines rest).0, (split_lines rest).1)) (sym (line step).ended)

abbrev Steps : Type 0
Steps = List (Option Step) × List ℕ

-- lines, and less than a line
read_with_left : (steps : List Step) (left : List ℕ) → All FitsStep steps → NoEnd left → read_lines (lines_of Arrays steps ++ left) ≡ (map Some steps, left)
read_with_left [] left small h = ap (λ (split : Split). (map read_line split.0, split.1)) (split_left left h)
read_with_left (step ∷ steps) left small h =
    let rest = lines_of Arrays steps ++ left in
    ap read_lines (append_assoc (step_line Arrays step) (lines_of Arrays steps) left)
    ∙ ap (λ (split : Split). (map read_line split.0, split.1)) (split_line step rest)
    ∙ ap (λ (read : Option Step). (read ∷ map read_line (split_lines rest).0, (split_lines rest).1)) (step_read step (All-head FitsStep step steps small))
    ∙ ap (λ (read : Steps). (Some step ∷ read.0, read.1)) (read_with_left steps left (All-tail FitsStep step steps small) h)

pub lines_are_read : AreLinesRead
lines_are_read steps small =
    ap read_lines (sym (append-nil (lines_of Arrays steps))) ∙ read_with_left steps [] small tt

-- ---- a file that is cut off

tails : (x y : ℕ) (rest more : List ℕ) → x ∷ rest ≡ y ∷ more → rest ≡ more
tails x y rest more e = cc

heads : (x y : ℕ) (rest more : List ℕ) → x ∷ rest ≡ y ∷ more → x ≡ y
heads x y rest more e = cc

-- the first bytes are less than a line, or that line and others
abbrev Met : List ℕ → List ℕ → List ℕ → List ℕ → Type 0
Met body rest front cut = NoEnd front ⊎ ((more : List ℕ) × (front ≡ body ++ 10 ∷ more) × (rest ≡ more ++ cut))

one_more : (x y : ℕ) (body rest front cut : List ℕ) → x ≡ y → eqb x 10 ≡ false → Met body rest front cut → Met (x ∷ body) rest (y ∷ front) cut
one_more x y body rest front cut same h (inl inside) = inl (ap (λ b. eqb b 10) (sym same) ∙ h, inside)
one_more x y body rest front cut same h (inr (more, whole, after)) =
    inr (more, ap (λ b. b ∷ front) (sym same) ∙ ap (λ l. x ∷ l) whole, after)

meet : (body rest front cut : List ℕ) → NoEnd body → body ++ 10 ∷ rest ≡ front ++ cut → Met body rest front cut
meet [] rest [] cut h e = inl tt
meet [] rest (y ∷ front) cut h e = inr (front, ap (λ b. b ∷ front) (sym (heads _ _ _ _ e)), tails _ _ _ _ e)
meet (x ∷ body) rest [] cut h e = inl tt
meet (x ∷ body) rest (y ∷ front) cut h e =
    one_more x y body rest front cut (heads _ _ _ _ e) h.0 (meet body rest front cut h.1 (tails _ _ _ _ e))

-- whole lines, and less than a line
record IsCut (steps : List Step) (front : List ℕ) : Type 0 where
  count : ℕ
  left : List ℕ
  whole : front ≡ lines_of Arrays (take count steps) ++ left
  inside : NoEnd left

after_line : (step : Step) (steps : List Step) (front cut : List ℕ) → Met (line step).front (lines_of Arrays steps) front cut →
    ((more : List ℕ) → lines_of Arrays steps ≡ more ++ cut → IsCut steps more) → IsCut (step ∷ steps) front
after_line step steps front cut (inl inside) later = record { count = 0; left = front; whole = refl; inside = inside }
after_line step steps front cut (inr (more, whole, after)) later =
    let others = later more after in
    record {
      count = suc others.count;
      left = others.left;
      whole = whole ∙ sym (followed step more) ∙ ap (λ l. step_line Arrays step ++ l) others.whole
          ∙ sym (append_assoc (step_line Arrays step) (lines_of Arrays (take others.count steps)) others.left);
      inside = others.inside;
    }

cut_at : (steps : List Step) (front cut : List ℕ) → lines_of Arrays steps ≡ front ++ cut → IsCut steps front
cut_at [] [] cut e = record { count = 0; left = []; whole = refl; inside = tt }
cut_at [] (byte ∷ front) cut e = absurd cc
cut_at (step ∷ steps) front cut e =
    after_line step steps front cut
    (meet (line step).front (lines_of Arrays steps) front cut (line step).inside (sym (followed step (lines_of Arrays steps)) ∙ e))
    (λ more after. cut_at steps more cut after)

pub cut_lines_are_read : AreCutLinesRead
cut_lines_are_read steps front cut small e =
    let it = cut_at steps front cut e in
    record {
      count = it.count;
      left = it.left;
      whole = it.whole;
      read = ap read_lines it.whole ∙ read_with_left (take it.count steps) it.left (All-take FitsStep it.count steps small) it.inside;
      inside = all_inside it.left it.inside;
    }
