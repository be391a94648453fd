-- The outcome of a call, by how it was read.
use Rattle.std.proofs.Common.{◌≡◌, ℕ, ◌<◌, List, [], ◌∷◌, length, drop, arith, zero, suc, refl, sym, subst, Bool, true, false, true≢false}
use Rattle.std.specs.Prelude.{Result, Ok, Err, Some, None, slice_index_or}
use Rattle.tracing_tree_base.specs.declared.context.Refusal.{Refusal}
use Rattle.tracing_tree_base.specs.declared.context.Refusal.TheVariants.{NotHeld, TooWide, TooMany, Memory, Timer, Writer, Failed}
use Rattle.tracing_tree_layer.specs.Layered.Seen.{Seen}
use Rattle.tracing_tree_layer.specs.declared.call.Call.{Call}
use Rattle.tracing_tree_layer.specs.declared.call.Reply.{Reply}
use Rattle.tracing_tree_c.specs.Foreign.{IsUtf8Field, IsUtf8Fields, Reads}
use Rattle.tracing_tree_c.specs.declared.foreign.FieldRef.{FieldRef}
use Rattle.tracing_tree_c.specs.Owned.{Contents}
use Rattle.tracing_tree_c.specs.Trees.{IsCalled, Makes, MakesCall, Mends, Performs, is_lost}
use Rattle.tracing_tree_c.specs.declared.drawing.Drawing.{Drawing}
use Rattle.tracing_tree_c.specs.declared.foreign.Unreadable.{Unreadable}
use Rattle.tracing_tree_c.specs.declared.foreign.Unreadable.TheVariants.{Unknown, NotUtf8, Starved}
use Rattle.tracing_tree_c.specs.declared.outcome.Outcome.{Outcome}
use Rattle.tracing_tree_c.specs.declared.outcome.Outcome.TheVariants.{Answered}

-- what was read does what was asked
pub makes : {T : Type 0} (Does : T → Result Reply Refusal → Drawing → Drawing → Type 0) (IsKnown IsText IsSmall : Type 0) (IsThis : T → Type 0)
    (Asked : Result Reply Refusal → Drawing → Drawing → Type 0) (read : Result T Unreadable) (outcome : Outcome) (old new : Contents) →
    ((act : T) (answer : Result Reply Refusal) (before left : Drawing) → IsThis act → Does act answer before left → Asked answer before left) →
    Reads IsKnown IsText IsSmall IsThis read → Performs Does read outcome old new → Makes IsKnown IsText IsSmall Asked outcome old new
makes D K U S I A read outcome None new asked r (e, n) = subst (λ (o : Outcome). Makes K U S A o None new) (sym e) (refl, n)
makes D K U S I A (Ok act) outcome (Some old) new asked (known, text, is) (answer, left, eo, en, done) =
    subst (λ (o : Outcome). Makes K U S A o (Some old) new) (sym eo)
    (subst (λ (n : Contents). Makes K U S A (Answered answer) (Some old) n) (sym en) (known, text, asked act answer old left is done))
makes D K U S I A (Err Unknown) outcome (Some old) new asked unknown (eo, en) =
    subst (λ (o : Outcome). Makes K U S A o (Some old) new) (sym eo) (unknown, en)
makes D K U S I A (Err NotUtf8) outcome (Some old) new asked cannot (eo, en) =
    subst (λ (o : Outcome). Makes K U S A o (Some old) new) (sym eo) (cannot, en)
makes D K U S I A (Err Starved) outcome (Some old) new asked large (eo, en) =
    subst (λ (o : Outcome). Makes K U S A o (Some old) new) (sym eo) (large, en)

-- the parts of a call that were read make this call
pub makes_call : {T : Type 0} (call : T → Call) (IsKnown IsText IsSmall : Type 0) (IsThis : Call → Type 0) (read : Result T Unreadable) (outcome : Outcome) (old new : Contents) →
    Reads IsKnown IsText IsSmall (λ parts. IsThis (call parts)) read → Performs (λ parts. IsCalled (call parts)) read outcome old new →
    Makes IsKnown IsText IsSmall (MakesCall IsThis) outcome old new
makes_call call K U S I read outcome old new r p =
    makes (λ parts. IsCalled (call parts)) K U S (λ parts. I (call parts)) (MakesCall I) read outcome old new (λ parts answer before left is called. (call parts, is, called)) r p

-- only the writer's fault loses a string
pub lost_is : (answer : Result Reply Refusal) → is_lost answer ≡ true → answer ≡ Err Writer
lost_is (Ok reply) e = absurd (true≢false (sym e))
lost_is (Err (NotHeld id)) e = absurd (true≢false (sym e))
lost_is (Err TooWide) e = absurd (true≢false (sym e))
lost_is (Err TooMany) e = absurd (true≢false (sym e))
lost_is (Err Memory) e = absurd (true≢false (sym e))
lost_is (Err Timer) e = absurd (true≢false (sym e))
lost_is (Err Writer) e = refl
lost_is (Err Failed) e = absurd (true≢false (sym e))

-- an answer that isn't for a lost string stays
pub stays : (answer : Result Reply Refusal) (before left : Seen) → is_lost answer ≡ false →
    Mends (is_lost answer) answer before left answer left
stays answer before left e = subst (λ (b : Bool). Mends b answer before left answer left) (sym e) (refl, refl)

-- if all of the rest can be read, its first can
pub head_of : (xs : List FieldRef) (i : ℕ) (d : FieldRef) → i < length xs → IsUtf8Fields (drop i xs) → IsUtf8Field (slice_index_or xs i d)
head_of [] i d h all = absurd (omega arith)
head_of (x ∷ xs) zero d h all = all.0
head_of (x ∷ xs) (suc i) d h all = head_of xs i d (omega arith) all

-- what can't be read if a part can't be
pub carried : (A B : Type 0) (K P S Q R : Type 0) (I : A → Type 0) (J : B → Type 0) (fault : Unreadable) →
    (Q → P) → (R → S) → Reads K P S I (Err fault) → Reads K Q R J (Err fault)
carried A B K P S Q R I J Unknown f g unknown = unknown
carried A B K P S Q R I J NotUtf8 f g cannot = λ q. cannot (f q)
carried A B K P S Q R I J Starved f g large = λ r. large (g r)

-- a list with a place has something in it
pub not_empty : (xs : List FieldRef) (i : ℕ) → i < length xs → xs ≡ [] → ⊥
not_empty [] i h e = absurd (omega arith)
not_empty (x ∷ xs) i h e = cc
