use Rattle.std.proofs.Common.{◌≡◌, arith, Bool, true, false, List, [], ◌∷◌, ◌++◌, length, Option, Some, None, refl, sym, ap, subst, ◌∙◌, append-nil, true≢false}
use Rattle.tracing_tree_layer.specs.declared.call.Call.{Call}
use Rattle.ttree_otlp.specs.Draw.{TreeState, row_drawn, rows_drawn, rows_finished}
use Rattle.ttree_otlp.specs.Keyed.{head_of, tail_of}
use Rattle.ttree_otlp.specs.Tree.{ReturnsCalls}
use Rattle.ttree_otlp.specs.declared.walk.Row.{Row}
use Rattle.ttree_otlp.proofs.Following.{calls_follow, forgotten}
use Rattle.ttree_otlp.proofs.tree.OtlpTree.next_calls.Goals as goal
use Rattle.ttree_otlp.proofs.tree.OtlpTree.next_calls.Goals.{in-Some+in_ok-draw_row-in-Some, in-None+in_ok-finish-in-None}

some_is : (first row : Row) → Some first ≡ Some row → first ≡ row
some_is first row h = cc

parted : (rows : List Row) (row : Row) → head_of rows ≡ Some row → rows ≡ row ∷ tail_of rows
parted [] row h = absurd (let no : None ≡ Some row = h in cc)
parted (first ∷ rows) row h = ap (λ x. x ∷ rows) (some_is first row h)

no_parts : (rows : List Row) → head_of rows ≡ None → rows ≡ []
no_parts [] h = refl
no_parts (row ∷ rows) h = absurd (let no : Some row ≡ None = h in cc)

returns_row : (s after : TreeState) (rows rest : List Row) (row : Row) (calls : List Call) (ended later : Bool) → ended ≡ false → later ≡ false → rows ≡ row ∷ rest
    → calls ≡ (row_drawn row s).calls → after ≡ forgotten (row_drawn row s)
    → ReturnsCalls (Some calls) (record { state = s; rows = rows; is_ended = ended }) (record { state = after; rows = rest; is_ended = later })
returns_row s after rows rest row calls true later e l are same then = absurd (true≢false e)
returns_row s after rows rest row calls false true e l are same then = absurd (true≢false l)
returns_row s after rows rest row calls false false e l are same then = (
  ap (λ l. (rows_finished (rows_drawn l s)).calls) are ∙ calls_follow rest (row_drawn row s)
      ∙ ap (λ l. l ++ (rows_finished (rows_drawn rest (forgotten (row_drawn row s)))).calls) (sym same)
      ∙ ap (λ (t : TreeState). calls ++ (rows_finished (rows_drawn rest t)).calls) (sym then),
  omega (arith, ap length are),
)

returns_end : (s after : TreeState) (rows rest : List Row) (calls : List Call) (ended later : Bool) → ended ≡ false → later ≡ true → rows ≡ []
    → calls ≡ (rows_finished s).calls
    → ReturnsCalls (Some calls) (record { state = s; rows = rows; is_ended = ended }) (record { state = after; rows = rest; is_ended = later })
returns_end s after rows rest calls true later e l are same = absurd (true≢false e)
returns_end s after rows rest calls false false e l are same = absurd (true≢false (sym l))
returns_end s after rows rest calls false true e l are same = (
  ap (λ l. (rows_finished (rows_drawn l s)).calls) are ∙ sym same ∙ sym (append-nil calls),
  omega arith,
)

pub returns : goal.returns
returns c =
    let s = c.self.inside.tree in
    let rows = c.self.inside.rows in
    let calls = c.take_calls.result.items in
    let ended = c.self.inside.is_ended in
    let now = c.match-take.self-inside in
    subst (λ v. ReturnsCalls (Some calls) v (record { state = c.take_calls.new.self; rows = now.rows; is_ended = now.is_ended })) c.self.view_is
    (elim c.match-take.branch [
      | in-Some+in_ok-draw_row-in-Some w ↦
          let row = w.in-Some.row in
          let drawn = ap (λ v. v.tree) w.self-inside-is ∙ w.in_ok-draw_row-in-Some.ensures in
          returns_row s c.take_calls.new.self rows now.rows row calls ended now.is_ended c.if-self.false (ap (λ v. v.is_ended) w.self-inside-is ∙ c.if-self.false)
          (parted rows row (sym c.take.ensures.row ∙ w.in-Some.is) ∙ ap (λ l. row ∷ l) (sym c.take.ensures.rest ∙ sym (ap (λ v. v.rows) w.self-inside-is)))
          (c.take_calls.ensures.calls ∙ ap (λ (t : TreeState). t.calls) drawn)
          (c.take_calls.ensures.rest ∙ ap forgotten drawn)
      | in-None+in_ok-finish-in-None w ↦
          let drawn = ap (λ v. v.tree) w.self-inside-is ∙ w.in_ok-finish-in-None.ensures in
          returns_end s c.take_calls.new.self rows now.rows calls ended now.is_ended c.if-self.false (ap (λ v. v.is_ended) w.self-inside-is)
          (no_parts rows (sym c.take.ensures.row ∙ w.in-None.is))
          (c.take_calls.ensures.calls ∙ ap (λ (t : TreeState). t.calls) drawn)
    ])
