-- A line encodes a call exactly if it spells that call.
use Rattle.std.specs.Prelude.{Bool, IfErr, IsUtf8, ℤ, pos, List, [], ◌∷◌, codes, Result, Ok, Err}
use Rattle.std.specs.Ordering.{int_eq}
use Rattle.std.proofs.Common.{◌≡◌, ℕ, true, false, if◌then◌else◌, Option, Some, None, refl, sym, ap, subst, ◌∙◌}
use Rattle.std.proofs.lemmas.Bool.Decides.{Decides-int_eq}
use Rattle.std.proofs.lemmas.Option.{none-some, option_and_then_some, same_Some}
use Rattle.jiff_core.specs.declared.timestamp.Timestamp.{Timestamp}
use Rattle.json.specs.Json.{Json}
use Rattle.serde_json.specs.Data.{Data}
use Rattle.serde_json.specs.Read.{read}
use Rattle.serde_json.specs.Written.{has_float}
use Rattle.tracing_tree_base.specs.declared.context.Moment.{Moment}
use Rattle.tracing_tree_base.specs.declared.context.Refusal.{Refusal}
use Rattle.tracing_tree_layer.specs.declared.call.Call.{Call}
use Rattle.tracing_tree_layer.specs.declared.call.Reply.{Reply}
use Rattle.tracing_tree_lines.specs.Lines.Spelled.{IsMomentIn, SpellsCall, is_skipped, object_call, read_or, signed_value, whole_value}
use Rattle.tracing_tree_lines.specs.Lines.Steps.{Answers, MakesSpelled}
use Rattle.tracing_tree_lines.specs.declared.lines.LineCause.{LineCause}
use Rattle.tracing_tree_lines.specs.declared.lines.LineCause.TheVariants.{Settings as NoSettings, NotACall, Read, Memory, Refused}
use Rattle.ttree_source.specs.CallLines.{call_lines_takes, instant_of, is_known, line_call, moment_in, value_call}
use Rattle.ttree_source.specs.Moments.{instant_at, into_range}
use Rattle.ttree_source.specs.Recorder.{IsRecorded}
use Rattle.ttree_source.specs.Source.{Accepts, InterpretsAs, MayEnd, interpreted_step}
use Rattle.ttree_source.proofs.Accepted.{accepts_none, accepts_one, stops_before}
use Rattle.ttree_source.proofs.Instants.{in_place, same_instant}

instant_is : (wall : Timestamp) → instant_of wall.nanosecond ≡ Some wall
instant_is wall =
    let place = in_place wall.nanosecond wall.in_range in
    let same : instant_at wall.nanosecond ≡ wall = same_instant (instant_at wall.nanosecond) wall place in
    let found : int_eq (into_range wall.nanosecond) wall.nanosecond ≡ true = (Decides-int_eq (into_range wall.nanosecond) wall.nanosecond).1 place in
    rw found (ap Some same)

moment_is : (value : Data) (moment : Moment) → IsMomentIn value moment → moment_in value ≡ Some moment
moment_is value moment timed = rw (timed.mono, timed.wall, instant_is moment.wall) refl

-- a call that a line spells is the one that it encodes
pub call_is : (line : List ℕ) (call : Call) → SpellsCall line call → line_call line ≡ Some call
call_is line call s = rw (s.reads, s.no_float, moment_is s.value s.moment s.timed) s.spelled

at_test : (n : ℤ) (wall : Timestamp) (b : Bool) → int_eq (into_range n) n ≡ b → (if b then Some (instant_at n) else None) ≡ Some wall → wall.nanosecond ≡ n
at_test n wall true is e = ap (λ (t : Timestamp). t.nanosecond) (sym (same_Some (instant_at n) wall e)) ∙ (Decides-int_eq (into_range n) n).0 is
at_test n wall false is e = absurd (none-some wall e)

nanos_of : (n : ℤ) (wall : Timestamp) → instant_of n ≡ Some wall → wall.nanosecond ≡ n
nanos_of n wall e = at_test n wall (int_eq (into_range n) n) refl e

timed_of : (value : Data) (mono : ℕ) (nanos : ℤ) (wall : Timestamp) (moment : Moment) → read_or (Some 0) whole_value (codes "mono") value ≡ Some mono
    → read_or (Some (pos 0)) signed_value (codes "wall") value ≡ Some nanos → instant_of nanos ≡ Some wall
    → Some (record { mono = mono; wall = wall }) ≡ Some moment → IsMomentIn value moment
timed_of value mono nanos wall moment at_mono at_nanos at_wall is =
    subst (IsMomentIn value) (same_Some (record { mono = mono; wall = wall }) moment is)
    (record { mono = at_mono; wall = at_nanos ∙ ap Some (sym (nanos_of nanos wall at_wall)) })

timed_is : (value : Data) (moment : Moment) → moment_in value ≡ Some moment → IsMomentIn value moment
timed_is value moment e =
    option_and_then_some _ (read_or (Some 0) whole_value (codes "mono") value) moment e (λ mono at_mono e.
    option_and_then_some _ (read_or (Some (pos 0)) signed_value (codes "wall") value) moment e (λ nanos at_nanos e.
    option_and_then_some _ (instant_of nanos) moment e (λ wall at_wall e.
    timed_of value mono nanos wall moment at_mono at_nanos at_wall e)))

without_float : (b : Bool) (found : Option Call) (call : Call) → (if b then None else found) ≡ Some call → (b ≡ false) × (found ≡ Some call)
without_float true found call e = absurd (none-some call e)
without_float false found call e = (refl, e)

value_spells : (line : List ℕ) (value : Data) (call : Call) → IsUtf8 line → read line ≡ Some value → value_call value ≡ Some call → SpellsCall line call
value_spells line value call text reads made =
    let (whole, found) = without_float (has_float value) _ call made in
    option_and_then_some (object_call value) (moment_in value) call found (λ moment timed spelled. record {
      text = text;
      value = value;
      moment = moment;
      reads = reads;
      no_float = whole;
      timed = timed_is value moment timed;
      spelled = spelled;
    })

-- the call that a line encodes is one that it spells
pub call_spelled : (line : List ℕ) (call : Call) → IsUtf8 line → line_call line ≡ Some call → SpellsCall line call
call_spelled line call text is =
    option_and_then_some value_call (read line) call is (λ value reads made. value_spells line value call text reads made)

no_some : (found : Option Call) → ((call : Call) → ¬ (found ≡ Some call)) → found ≡ None
no_some None none = refl
no_some (Some call) none = absurd (none call refl)

-- a line that spells no call encodes none
pub no_call : (line : List ℕ) → IsUtf8 line → ((call : Call) → ¬ SpellsCall line call) → line_call line ≡ None
no_call line text none = no_some (line_call line) (λ call is. none call (call_spelled line call text is))

-- the calls of a line whose call was made
pub takes_made : (s : Unit {0}) (line : List ℕ) (value : Option Json) (reply : Reply) (calls : List Call) → is_skipped line ≡ false
    → Answers IsRecorded (SpellsCall line) (Ok reply) [] calls → call_lines_takes s line value ≡ Some (record { calls = calls; source = s })
takes_made s line value reply calls judged made = rw (judged, call_is line made.call made.spelled, made.answered.0) refl

-- a line that spells no call is unknown
pub takes_none : (s : Unit {0}) (line : List ℕ) (value : Option Json) → IsUtf8 line → is_skipped line ≡ false → ((call : Call) → ¬ SpellsCall line call)
    → call_lines_takes s line value ≡ None
takes_none s line value text judged none = rw (judged, no_call line text none) refl

module _ {C : Type 0} (answers : Call → Result Reply Refusal → C → C → Type 0) (flushes : C → C → Type 0) where
  -- what a line did to the receiver
  abbrev Did : Unit {0} → List ℕ → Option Json → Unit {0} → Result Bool LineCause → C → C → Type 0
  Did before line value after result old new =
      InterpretsAs (Accepts answers flushes) answers (interpreted_step before (call_lines_takes before line value)) after result old new

  takes_one : (s : Unit {0}) (line : List ℕ) (value : Option Json) (call : Call) → is_skipped line ≡ false → SpellsCall line call
      → call_lines_takes s line value ≡ Some (record { calls = call ∷ []; source = s })
  takes_one s line value call judged spelled = rw (judged, call_is line call spelled) refl

  -- a blank line makes no call
  pub blank_makes_none : (s : Unit {0}) (line : List ℕ) (value : Option Json) (at : C) → is_skipped line ≡ true → Did s line value s (Ok true) at at
  blank_makes_none s line value at blank = rw blank (accepts_none answers flushes at, refl, refl)

  -- what came of making a line's call is what the line did
  pub line_does : (s : Unit {0}) (line : List ℕ) (value : Option Json) (made : Result Reply LineCause) (old new : C) → IsUtf8 line → is_skipped line ≡ false
      → MakesSpelled answers (SpellsCall line) made old new → Did s line value s (is_known made) old new
  line_does s line value (Ok reply) old new text judged made =
      rw (takes_one s line value made.call judged made.spelled) (accepts_one answers flushes made.call reply old new made.answered, refl, refl)
  line_does s line value (Err NoSettings) old new text judged made = absurd made
  line_does s line value (Err NotACall) old new text judged made =
      let at_old : Did s line value s (Ok false) old old = rw (takes_none s line value text judged made.0) (accepts_none answers flushes old, refl, refl) in
      subst (Did s line value s (Ok false) old) (sym made.1) at_old
  line_does s line value (Err Read) old new text judged made = absurd made
  line_does s line value (Err Memory) old new text judged made =
      subst (Did s line value s (Err Memory) old) (sym made)
      (stops_before answers flushes (interpreted_step s (call_lines_takes s line value)).calls Memory old refl)
  line_does s line value (Err (Refused refusal)) old new text judged made =
      rw (takes_one s line value made.call judged made.spelled) (record {
        made = [];
        rest = made.call ∷ [];
        split = refl;
        between = old;
        makes = accepts_none answers flushes old;
        breaks = made.answered;
      })

  -- what ends a run at a line may do so
  pub line_may_end : (line : List ℕ) (made : Result Reply LineCause) (old new : C) → MakesSpelled answers (SpellsCall line) made old new
      → IfErr (is_known made) (λ cause. MayEnd cause 0)
  line_may_end line (Ok reply) old new made = tt
  line_may_end line (Err NoSettings) old new made = absurd made
  line_may_end line (Err NotACall) old new made = tt
  line_may_end line (Err Read) old new made = absurd made
  line_may_end line (Err Memory) old new made = tt
  line_may_end line (Err (Refused refusal)) old new made = tt
