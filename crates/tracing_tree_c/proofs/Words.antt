-- The machine values of a `Tree`. Assumes `Logic`.
use Rattle.std.proofs.Common.{◌≡◌, ℕ, List, [], ◌∷◌, ◌++◌, refl, subst, Bool, true, false}
use seplogic.Ra.Ura.{Ura}
use mir.Raw.{raw as bare}
use mir.Val.{Val, vbool, vstruct, vcons, vnil, of_list}
use base.Logic.{never, fst∗}
use types.Logic.{Logic, sem}
use types.Kit.{Item, Goal, Seq, Step, step, ‵, ◌$◌, drop, fsplit, fjoin, fpick, fpack, feq_i, feq_l}
use denote.RattleType.{RattleType, Valss}
use denote.Builtin.{RawPtr, bool}
use denote.Memory.{lone}
use denote.RawPtr.{Ptr, block_ptr, null_ptr, ptr_val, in_a_block}
use denote.Steps.{nothing}
use denote.Struct.Struct.{within}
use denote.Struct.Owning.{shape}
use Rattle.std.specs.Prelude.{None, Some}
use Rattle.std.specs.Option.{is_some}
use Rattle.core.proofs.alloc.Calls.{Al}
use Rattle.std_alloc.specs.Box.Ownership.{box_owns}
use Rattle.std.specs.contracts.alloc.Global as heap
use Rattle.std.specs.contracts.impls.GlobalAllocator.TheImpl.{ghosts}
use Rattle.std.proofs.alloc.Global.TheLaws as heap_laws
use Rattle.tracing_tree_c.specs.Owned.{Contents, owned, token}
use Rattle.tracing_tree_c.specs.contracts.drawing.Drawing as inner
use Rattle.tracing_tree_c.specs.contracts.tree.Tree as tree
use Rattle.tracing_tree_c.proofs.Raws.{al}

abbrev pub T : RattleType
T = tree.the_row

abbrev pub R : RattleType
R = inner.the_row

abbrev pub Z : RattleType
Z = heap.the_row

abbrev pub heap_al : Al
heap_al = al R Z heap_laws.the_row_laws ghosts

-- the machine value of a tree
abbrev pub word : Ptr → Bool → Val
word at there = vstruct (vcons (ptr_val at) (vcons (vbool there) vnil))

module _ {M : Type 1} {𝓤 : Ura M} {𝓛 : Logic 𝓤} {K : Type 0} {Γ : List (Item 𝓤)} {G : Goal 𝓤 𝓛.H} where
  by_kept : K → (at : Ptr) (there : Bool) (k : Contents) → there ≡ is_some k
      → (there ≡ false → k ≡ None → Seq K 𝓛 Γ G)
      → ((x : R.Denot) → there ≡ true → k ≡ Some x → Seq K 𝓛 (‵ (box_owns token R at x) ∷ Γ) G)
      → Seq K 𝓛 (‵ (owned at k) ∷ Γ) G
  by_kept t at there None e none some = drop t $ none e refl
  by_kept t at there (Some x) e none some = some x e refl

module _ {M : Type 1} {𝓤 : Ura M} {𝓛 : Logic 𝓤} {K : Type 0} {Γ : List (Item 𝓤)} {G : Goal 𝓤 𝓛.H} where
  pub tree_out : K → (d : T.Denot) (vs : List Val)
      → (vs ≡ word d.inside false ∷ [] → d.kept ≡ None → Seq K 𝓛 Γ G)
      → ((b o : ℕ) (x : R.Denot) → vs ≡ word (block_ptr b o) true ∷ [] → d.kept ≡ Some x → Seq K 𝓛 (‵ (box_owns token R (block_ptr b o) x) ∷ Γ) G)
      → Seq K 𝓛 (‵ (T.own_val d vs) ∷ Γ) G
  tree_out t d vs none some =
      fsplit t $ fpick t (λ vss. fsplit t $ feq_l t (λ ev. fsplit t $ feq_l t (λ ep. fsplit t $ feq_l t (λ eb. drop t $
      let is : vs ≡ word d.inside d.there ∷ [] =
      subst (λ (ps : List Val). vs ≡ vstruct (of_list (ps ++ (vbool d.there ∷ []))) ∷ []) ep
      (subst (λ (bs : List Val). vs ≡ vstruct (of_list (vss.0 ++ (bs ++ []))) ∷ []) eb ev) in
      by_kept t d.inside d.there d.kept d.tied
      (λ e ek. none (subst (λ (f : Bool). vs ≡ word d.inside f ∷ []) e is) ek)
      (λ x e ek. in_a_block t d.inside (λ p. box_owns token R p x) (fst∗ 𝓤 (never 𝓤) (sem 𝓛 (token (bare (lone R.mir)) null_ptr))) (λ b o ep'. some b o x
      (subst (λ (p : Ptr). vs ≡ word p true ∷ []) ep' (subst (λ (f : Bool). vs ≡ word d.inside f ∷ []) e is)) ek))))))

  pub tree_in : K → (d : T.Denot) → Step K 𝓛 (‵ (T.own_val d (word d.inside d.there ∷ [])) ∷ Γ) G (‵ (owned d.inside d.kept) ∷ Γ) G
  tree_in t d = step (λ s. let v = word d.inside d.there in
      nothing t $ feq_i t (List Val) (vbool d.there ∷ []) (vbool d.there ∷ []) refl $ fjoin t $ feq_i t (List Val) (ptr_val d.inside ∷ []) (ptr_val d.inside ∷ []) refl $ fjoin t $ feq_i t (List Val) (v ∷ []) (v ∷ []) refl $ fjoin t $
      fpack t (Valss (RawPtr ∷ bool ∷ [])) (within (shape tree.the_type) (d.inside, (d.there, tt)) (v ∷ [])) (ptr_val d.inside ∷ [], (vbool d.there ∷ [], tt)) $ fjoin t $ s)
