-- Calls that are made one after another, between which the writer may be flushed.
use Rattle.std.proofs.Common.{◌≡◌, List, [], ◌∷◌, ◌++◌, map, Result, Ok, refl, sym, subst, ◌∙◌}
use Rattle.std.proofs.KnownBytes.{Keeps-refl, Keeps-trans}
use Rattle.std.proofs.lemmas.List.{map-append}
use Rattle.tracing_tree_base.specs.declared.context.Refusal.{Refusal}
use Rattle.tracing_tree_layer.specs.Layer.Layers.{LayeredView, Changes, Flushes}
use Rattle.tracing_tree_layer.specs.Layered.Answered.{IsAnswered}
use Rattle.tracing_tree_layer.specs.Layered.Seen.{Seen}
use Rattle.tracing_tree_layer.specs.declared.call.Call.{Call}
use Rattle.tracing_tree_layer.specs.declared.call.Reply.{Reply}
use Rattle.tracing_tree_layer.proofs.Runs.{change_then}
use Rattle.tracing_tree_lines.specs.Lines.Runs.{AreAccepted, AreMade}

-- nothing is flushed
nothing_passed : (seen : Seen) → Flushes seen seen
nothing_passed seen = record { kept = Keeps-refl seen.writer.bytes; same = refl }

flush_then : (a b c : Seen) → Flushes a b → Flushes b c → Flushes a c
flush_then a b c h k = record {
  kept = Keeps-trans a.writer.bytes b.writer.bytes c.writer.bytes h.kept k.kept;
  same = k.same ∙ (λ i. record (h.same i) { writer = record (h.same i).writer { bytes = c.writer.bytes } });
}

module _ {W FT : Type 0} (see : LayeredView W FT → Seen) where
  still : (layered : LayeredView W FT) → Changes see Flushes layered layered
  still layered = record { changed = nothing_passed (see layered); fixed = refl }

  -- the writer is flushed after calls
  made_flushed : (calls : List Call) (answers : List (Result Reply Refusal)) (old now next : LayeredView W FT) →
      AreMade see calls answers old now → Changes see Flushes now next → AreMade see calls answers old next
  made_flushed [] [] old now next h k = change_then see flush_then old now next h k
  made_flushed [] (answer ∷ answers) old now next h k = absurd h
  made_flushed (call ∷ calls) [] old now next h k = absurd h
  made_flushed (call ∷ calls) (answer ∷ answers) old now next (shown, between, passed, one, rest) k =
      (shown, between, passed, one, made_flushed calls answers between now next rest k)

  -- one call more
  made_more : (calls : List Call) (answers : List (Result Reply Refusal)) (call : Call) (answer : Result Reply Refusal) (old now next : LayeredView W FT) →
      AreMade see calls answers old now → Changes see (IsAnswered call answer) now next → AreMade see (calls ++ call ∷ []) (answers ++ answer ∷ []) old next
  made_more [] [] call answer old now next h k = (now, next, h, k, still next)
  made_more [] (other ∷ answers) call answer old now next h k = absurd h
  made_more (one ∷ calls) [] call answer old now next h k = absurd h
  made_more (one ∷ calls) (other ∷ answers) call answer old now next (shown, between, passed, first, rest) k =
      (shown, between, passed, first, made_more calls answers call answer between now next rest k)

  -- only one call
  pub made_once : (call : Call) (answer : Result Reply Refusal) (now next : LayeredView W FT) → Changes see (IsAnswered call answer) now next →
      AreMade see (call ∷ []) (answer ∷ []) now next
  made_once call answer now next k = (now, next, still now, k, still next)

  -- ---- accepted calls

  pub none_made : (layered : LayeredView W FT) → AreAccepted see [] layered layered
  none_made layered = ([], still layered)

  pub accepted_more : (calls : List Call) (call : Call) (reply : Reply) (old now next : LayeredView W FT) →
      AreAccepted see calls old now → Changes see (IsAnswered call (Ok reply)) now next → AreAccepted see (calls ++ call ∷ []) old next
  accepted_more calls call reply old now next (replies, made) k =
      let P : List (Result Reply Refusal) → Type 0 = λ answers. AreMade see (calls ++ call ∷ []) answers old next in
      (replies ++ reply ∷ [], subst P (sym (map-append Ok replies (reply ∷ []))) (made_more calls (map Ok replies) call (Ok reply) old now next made k))

  pub accepted_flushed : (calls : List Call) (old now next : LayeredView W FT) →
      AreAccepted see calls old now → Changes see Flushes now next → AreAccepted see calls old next
  accepted_flushed calls old now next (replies, made) k = (replies, made_flushed calls (map Ok replies) old now next made k)

  -- what is seen stays
  pub accepted_unseen : (calls : List Call) (old now next : LayeredView W FT) → AreAccepted see calls old now →
      next.layer ≡ record now.layer { writer = next.layer.writer; last = next.layer.last; failed = next.layer.failed; unwritten = next.layer.unwritten } →
      see next ≡ see now → AreAccepted see calls old next
  accepted_unseen calls old now next made fixed same =
      let P : Seen → Type 0 = λ s. Flushes (see now) s in
      accepted_flushed calls old now next made (record { changed = subst P (sym same) (nothing_passed (see now)); fixed = fixed })
