-- Calls that a receiver accepted one after another, flushed between them.
use Rattle.std.proofs.Common.{ℕ, zero, suc, List, [], ◌∷◌, ◌++◌, Result, Ok, refl, sym, ap, subst, ◌∙◌, append_assoc, append-nil}
use Rattle.tracing_tree_base.specs.declared.context.Refusal.{Refusal}
use Rattle.tracing_tree_layer.specs.declared.call.Call.{Call}
use Rattle.tracing_tree_layer.specs.declared.call.Reply.{Reply}
use Rattle.tracing_tree_lines.specs.declared.lines.LineCause.{LineCause}
use Rattle.tracing_tree_lines.specs.declared.lines.LineCause.TheVariants.{Settings as NoSettings, NotACall, Read, Memory, Refused}
use Rattle.ttree_source.specs.Source.{Accepts, Breaks, FlushedTimes, StopsIn}

module _ {C : Type 0} (answers : Call → Result Reply Refusal → C → C → Type 0) (flushes : C → C → Type 0) where
  abbrev Made : List Call → C → C → Type 0
  Made = Accepts answers flushes

  -- ---- accepted calls

  pub accepts_none : (s : C) → Made [] s s
  accepts_none s = (zero, refl)

  pub accepts_flush : (old new : C) → flushes old new → Made [] old new
  accepts_flush old new h = (suc zero, (new, h, refl))

  pub accepts_one : (call : Call) (reply : Reply) (old new : C) → answers call (Ok reply) old new → Made (call ∷ []) old new
  accepts_one call reply old new h = (zero, old, new, reply, refl, h, accepts_none new)

  flushed_more : (first second : ℕ) (old mid new : C) → FlushedTimes flushes first old mid → FlushedTimes flushes second mid new → (count : ℕ) × FlushedTimes flushes count old new
  flushed_more zero second old mid new h k =
      let P : C → Type 0 = λ s. FlushedTimes flushes second s new in
      (second, subst P h k)
  flushed_more (suc first) second old mid new (shown, flushed, h) k =
      let (count, rest) = flushed_more first second shown mid new h k in
      (suc count, (shown, flushed, rest))

  after_flushes : (calls : List Call) (count : ℕ) (old mid new : C) → FlushedTimes flushes count old mid → Made calls mid new → Made calls old new
  after_flushes [] count old mid new h (more, k) = flushed_more count more old mid new h k
  after_flushes (call ∷ calls) count old mid new h (more, shown, between, reply, flushed, answered, k) =
      let (all, flushes_all) = flushed_more count more old mid shown h flushed in
      (all, shown, between, reply, flushes_all, answered, k)

  pub accepts_then : (first second : List Call) (old mid new : C) → Made first old mid → Made second mid new → Made (first ++ second) old new
  accepts_then [] second old mid new (count, h) k = after_flushes second count old mid new h k
  accepts_then (call ∷ first) second old mid new (count, shown, between, reply, flushed, answered, h) k =
      (count, shown, between, reply, flushed, answered, accepts_then first second between mid new h k)

  pub accepts_more : (calls : List Call) (call : Call) (reply : Reply) (old mid new : C) →
      Made calls old mid → answers call (Ok reply) mid new → Made (calls ++ call ∷ []) old new
  accepts_more calls call reply old mid new h k = accepts_then calls (call ∷ []) old mid new h (accepts_one call reply mid new k)

  pub accepts_flushed : (calls : List Call) (old mid new : C) → Made calls old mid → Made [] mid new → Made calls old new
  accepts_flushed calls old mid new h k =
      let P : List Call → Type 0 = λ calls. Made calls old new in
      subst P (append-nil calls) (accepts_then calls [] old mid new h k)

  -- ---- runs that something ended

  breaks_more : (cause : LineCause) (rest more : List Call) (old new : C) → Breaks answers cause rest old new → Breaks answers cause (rest ++ more) old new
  breaks_more NoSettings rest more old new h = h
  breaks_more NotACall rest more old new h = h
  breaks_more Read rest more old new h = h
  breaks_more Memory rest more old new h = h
  breaks_more (Refused refusal) [] more old new h = absurd h
  breaks_more (Refused refusal) (call ∷ rest) more old new h = h

  -- something from outside ends the run before a call is made
  pub stops_before : (calls : List Call) (cause : LineCause) (s : C) → Breaks answers cause calls s s → StopsIn Made answers calls cause s s
  stops_before calls cause s h = record {
    made = [];
    rest = calls;
    split = refl;
    between = s;
    makes = accepts_none s;
    breaks = h;
  }

  pub stops_after : (first second : List Call) (cause : LineCause) (old mid new : C) →
      Made first old mid → StopsIn Made answers second cause mid new → StopsIn Made answers (first ++ second) cause old new
  stops_after first second cause old mid new h k = record {
    made = first ++ k.made;
    rest = k.rest;
    split = append_assoc first k.made k.rest ∙ ap (λ calls. first ++ calls) k.split;
    between = k.between;
    makes = accepts_then first k.made old mid k.between h k.makes;
    breaks = k.breaks;
  }

  pub stops_more : (calls more : List Call) (cause : LineCause) (old new : C) → StopsIn Made answers calls cause old new → StopsIn Made answers (calls ++ more) cause old new
  stops_more calls more cause old new h = record {
    made = h.made;
    rest = h.rest ++ more;
    split = sym (append_assoc h.made h.rest more) ∙ ap (λ calls. calls ++ more) h.split;
    between = h.between;
    makes = h.makes;
    breaks = breaks_more cause h.rest more h.between new h.breaks;
  }
