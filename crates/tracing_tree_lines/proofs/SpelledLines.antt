-- From the value of a line to the line.
use Rattle.std.specs.Prelude.{◌≡◌, ℕ, false, List, Option, Some, None, IsUtf8}
use Rattle.std.specs.Option.{is_some}
use Rattle.std.proofs.Common.{refl, sym, ◌∙◌, subst}
use Rattle.std.proofs.lemmas.Option.{same_Some}
use Rattle.serde_json.specs.Data.{Data}
use Rattle.serde_json.specs.Read.{read}
use Rattle.tracing_tree_lines.specs.Lines.Values.{ValueSpells}
use Rattle.tracing_tree_drawing.specs.Format.Settings.{Settings}
use Rattle.tracing_tree_time.specs.Clock.{Timer}
use Rattle.tracing_tree_lines.specs.Lines.Spelled.{Asked, ◌>>=◌, SpellsCall, SpellsSettings, is_settings, object_settings}
use Rattle.tracing_tree_layer.specs.declared.call.Call.{Call}

pub line_spells : (line : List ℕ) (value : Data) (call : Call) → IsUtf8 line → read line ≡ Some value → ValueSpells value call → SpellsCall line call
line_spells line value call text is s = record {
  text = text;
  value = value;
  moment = s.moment;
  reads = is;
  no_float = s.no_float;
  timed = s.timed;
  spelled = s.spelled;
}

pub value_spells : (line : List ℕ) (value : Data) (call : Call) → read line ≡ Some value → SpellsCall line call → ValueSpells value call
value_spells line value call is s =
    subst (λ (v : Data). ValueSpells v call) (same_Some s.value value (sym s.reads ∙ is))
    (record { no_float = s.no_float; moment = s.moment; timed = s.timed; spelled = s.spelled })

none_asked : (found : Option Asked) → ((settings : Settings) (timer : Timer) → ¬ (found ≡ Some (settings, timer))) → is_some found ≡ false
none_asked None none = refl
none_asked (Some (settings, timer)) none = absurd (none settings timer refl)

-- a line that spells no settings has none
pub no_settings : (line : List ℕ) → IsUtf8 line → ((settings : Settings) (timer : Timer) → ¬ SpellsSettings line settings timer) → is_settings line ≡ false
no_settings line text none = none_asked (read line >>= object_settings) (λ settings timer found. none settings timer (text, found))
