use Rattle.std.proofs.Common.{◌≡◌, List, [], ◌∷◌, ◌++◌, refl, sym, subst, lit<, true, false}
use mir.Val.{Val, vptr, vcons, vnil}
use base.Logic.{SProp, ent, emp, id⊢}
use base.Fml.{ftrue}
use prog.Wp.{WpFn}
use types.Kit.{‵, raw, at_ret, ◌$◌, ◌∵◌, !, qed, by, move, keep, split, fsplit, fjoin, suffices, use0, use1, ◌⊛◌}
use types.Run.{stop, fld, lit, of_opd, no_more, and_then, first, branches, exec, returns, enter}
use types.ByLocal.{alloc_all, pass_all, free_all, look_at, get, get_in, sets, sets_last, env}
use types.Part.{agg, sub, whole}
use types.Match.{live}
use contract.Monad.{fact, fact_i}
use contract.Running.{tables}
use denote.Exit.{yes}
use denote.RattleType.{RattleType, owns}
use denote.Signature.{types_at, type_at, plain}
use denote.RawPtr.{block_ptr}
use denote.Steps.{nothing}
use denote.Param.{layout}
use denote.Triple.Walked.{Stays, stay_dropped, walk_of, Goes-dropped}
use Rattle.core.proofs.alloc.Calls.{handle_tells}
use Rattle.core.proofs.alloc.Shapes.{after}
use Rattle.core.proofs.atomic.Steps.{Ptr-Good}
use Rattle.core.proofs.cell.Inside.{Good}
use Rattle.core.proofs.option.Made.{Some-of, none_of}
use Rattle.std_alloc.proofs.ResultValues.{and_tt}
use Rattle.std.specs.Prelude.{None, Some}
use Rattle.std.specs.contracts.impls.GlobalAllocator.TheImpl.{ghosts}
use Rattle.std.proofs.alloc.Global.TheLaws as heap_laws
use Rattle.std.proofs.raw_atomic.Walks.{proved_at, leaves}
use Rattle.tracing_tree_c.proofs.Raws.{both, RawBox, loose_good as raw_good, loose_in as raw_in}
use Rattle.tracing_tree_c.proofs.Words.{heap_al, R, T, Z, tree_out, word}
use Rattle.tracing_tree_c.specs.contracts.tree.Tree.into_raw.{ended, clauses}
use Rattle.tracing_tree_c.specs.contracts.tree.Tree.into_raw.Key.{name as #self}
use Rattle.tracing_tree_c.proofs.tree.Tree.into_raw.Statement.{statement}
use Rattle.tracing_tree_c.proofs.tree.Tree.into_raw.Code as code

pub into_raw_spec : {M : Type 1} → statement M
into_raw_spec 𝓤 𝓛 𝓜 𝓡 wired =
    let H = 𝓛.H in let 𝓣 = tables 𝓤 H 𝓜 𝓡 𝓡.env in let c = clauses 𝓛 𝓜.mem 𝓡.returns in let fn = code.function in let Raw : RattleType = RawBox R Z heap_laws.the_row_laws ghosts in
    let hs : Stays ended.signature.params ended.kept = (stay_dropped (plain (λ _. T)) yes, (stay_dropped (plain (λ _. Z)) yes, tt)) in
    proved_at 𝓛 ended hs c 𝓜 𝓡 (Goes-dropped 𝓛 0 (plain (λ _. T)) yes (λ κs x f. refl), (Goes-dropped 𝓛 0 (plain (λ _. Z)) yes (λ κs x f. refl), tt)) #self fn (code.unfolded 𝓤 H 𝓜 𝓡 wired) (λ z are.
    let κs = z.0.0 in let v = z.0.3.0 in let a = z.0.3.1.0 in let Post : Val → SProp 𝓤 = (walk_of 𝓛 ended hs c).post z in let Run : List Val → SProp 𝓤 = λ ws. WpFn 𝓤 H 𝓣.C 𝓣.Λ fn ws Post in let Out : RattleType = type_at ended.signature.result κs in
    qed 𝓛 ((‵ ftrue ⊛ ‵ (owns (types_at ended.signature.params κs) z.0.3 z.0.4)) ∷ raw ((c κs z.0.3).requires z.1) ∷ []) ∵ split ! $ move ! (1 ∷ []) $ fsplit ! $
    move ! (1 ∷ []) $ fsplit ! $ handle_tells heap_al ! a z.0.4.1.0 (λ h ea fits. move ! (2 ∷ []) $
    tree_out ! v z.0.4.0
    (λ ws ek. let w : Val = word v.inside false in let good = Ptr-Good v.inside in
    suffices ! (Run (w ∷ h ∷ [])) (subst (λ (us : List Val). ent 𝓤 (Run (w ∷ h ∷ [])) (Run us)) (sym (λ i. ws i ++ (ea i ++ []))) (id⊢ 𝓤 (Run (w ∷ h ∷ [])))) $
    enter ! 𝓣.C 𝓣.Λ fn (w ∷ h ∷ []) Post $ alloc_all ! (λ l. pass_all ! refl ((and_tt _ good.0, (good.1, (tt, tt))), (fits, tt)) $ let Ev = env fn.locals l in
    sets ! (of_opd ! (get_in ! (fld ! refl (stop !)) (sub ! 0 refl (whole !)))) refl good $ sets ! (of_opd ! (get_in ! (fld ! refl (stop !)) (sub ! 1 refl (whole !)))) refl (tt, tt) $ sets ! (of_opd ! (get ! refl)) refl (tt, tt) $ first ! $ branches ! (get ! refl)
    (λ wrong. absurd wrong)
    (λ _. sets_last ! (agg ! (and_then ! (lit ! tt) (no_more !))) refl (tt, (record { fits = lit< tt }, tt)) $ exec ! 𝓣.C 𝓣.Λ Ev (after 4 fn.body) (at_ret Ev Post) $ sets ! (of_opd ! (get ! refl)) refl (tt, (record { fits = lit< tt }, tt)) $
    use0 𝓛 (‵ (Out.own_val None (live 0 vnil ∷ []))) (none_of 𝓛 Raw) $ use0 𝓛 (raw (fact 𝓤 (None ≡ v.kept))) (fact_i 𝓤 (None ≡ v.kept) (emp 𝓤) (sym ek)) $ nothing ! $ nothing ! $ fjoin ! $ nothing ! $ fjoin ! $
    returns ! (look_at ! 0 refl) $ free_all ! refl $ keep ! (5 ∷ 0 ∷ 2 ∷ 1 ∷ []) $ by ! (leaves 𝓛 ended hs c z (live 0 vnil) None (tt, (tt, tt)) (tt, (tt, tt))))))
    (λ b o x ws ek. let w : Val = word (block_ptr b o) true in let made : Val = both (vptr b o) h in let typed = raw_good R Z heap_laws.the_row_laws ghosts b o h fits in
    let v₁ : Val = live 1 (vcons made vnil) in let d : Raw.Denot = record { at = block_ptr b o; alloc = a; value = x } in let good : Good (layout Out) v₁ = (and_tt _ typed.0, (record { fits = lit< tt }, (typed.1, tt))) in
    suffices ! (Run (w ∷ h ∷ [])) (subst (λ (us : List Val). ent 𝓤 (Run (w ∷ h ∷ [])) (Run us)) (sym (λ i. ws i ++ (ea i ++ []))) (id⊢ 𝓤 (Run (w ∷ h ∷ [])))) $
    enter ! 𝓣.C 𝓣.Λ fn (w ∷ h ∷ []) Post $ alloc_all ! (λ l. pass_all ! refl ((tt, (tt, (tt, tt))), (fits, tt)) $ let Ev = env fn.locals l in
    sets ! (of_opd ! (get_in ! (fld ! refl (stop !)) (sub ! 0 refl (whole !)))) refl (tt, tt) $ sets ! (of_opd ! (get_in ! (fld ! refl (stop !)) (sub ! 1 refl (whole !)))) refl (tt, tt) $ sets ! (of_opd ! (get ! refl)) refl (tt, tt) $ first ! $ branches ! (get ! refl)
    (λ _. sets ! (of_opd ! (get ! refl)) refl (tt, tt) $
    sets ! (agg ! (and_then ! (get ! refl) (and_then ! (get ! refl) (no_more !)))) refl typed $ sets_last ! (agg ! (and_then ! (lit ! tt) (and_then ! (get ! refl) (no_more !)))) refl good $
    exec ! 𝓣.C 𝓣.Λ Ev (after 4 fn.body) (at_ret Ev Post) $ sets ! (of_opd ! (get ! refl)) refl good $ raw_in R Z heap_laws.the_row_laws ghosts ! b o h a x $
    use1 𝓛 (‵ (Out.own_val (Some d) (v₁ ∷ []))) (Some-of 𝓛 Raw d made) $ use0 𝓛 (raw (fact 𝓤 (Some x ≡ v.kept))) (fact_i 𝓤 (Some x ≡ v.kept) (emp 𝓤) (sym ek)) $ nothing ! $ nothing ! $ fjoin ! $ nothing ! $ fjoin ! $
    returns ! (look_at ! 0 refl) $ free_all ! refl $ keep ! (4 ∷ 0 ∷ 2 ∷ 1 ∷ []) $ by ! (leaves 𝓛 ended hs c z v₁ (Some d) (tt, (tt, tt)) (tt, (tt, tt))))
    (λ wrong. absurd wrong)))))
