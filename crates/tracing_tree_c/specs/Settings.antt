-- Settings as C writes them, as contracts see them.
use Rattle.std.specs.Prelude.{◌≡◌, ◌≢◌, ℤ, Bool, option_map, pos, neg_ℤ, int_le, true, ◌<◌, ◌&&◌, ◌==◌, [], Option, None, Some, if◌then◌else◌}
use Rattle.std.specs.Bool.{then_some}
use Rattle.tracing_tree_drawing.specs.Format.Settings.{Settings}
use Rattle.tracing_tree_time.specs.Clock.{Timer, no_timer, utc_timer, local_timer, uptime_timer}
use Rattle.tracing_tree_spans.specs.Registry.Ids.{id_of}
use Rattle.tracing_tree_layer.specs.Layered.State.{opening_state}
use Rattle.tracing_tree_layer.specs.Layered.Seen.{Seen}
use Rattle.tracing_tree_c.specs.declared.settings.SettingsRef.{SettingsRef}

abbrev pub settings_of : SettingsRef → Settings
settings_of given = record {
  ansi = given.ansi;
  indent_lines = given.indent_lines;
  indent_amount = given.indent_amount;
  targets = given.targets;
  render_thread_ids = given.thread_ids;
  render_thread_names = given.thread_names;
  wraparound = given.wraparound;
  verbose_entry = given.verbose_entry;
  verbose_exit = given.verbose_exit;
  span_retrace = given.span_retrace;
  bracketed_fields = given.bracketed_fields;
  deferred_spans = given.deferred_spans;
  span_modes = given.span_modes;
  close_retrace = given.close_retrace;
}

-- an offset, if it is valid: at most a second less than 26 hours
abbrev pub offset_of : ℤ → Option ℤ
offset_of seconds =
    then_some (int_le (neg_ℤ (pos 93_599)) seconds && int_le seconds (pos 93_599)) seconds

abbrev pub offset_timer : Bool → ℤ → Option Timer
offset_timer higher seconds =
    option_map (λ offset. local_timer higher (λ nanos. offset)) (offset_of seconds)

-- the timer of the settings, if it is known
abbrev pub timer_of : SettingsRef → Option Timer
timer_of given =
    if given.timer == 0 then Some no_timer
    else if given.timer == 1 then Some (uptime_timer given.higher_precision given.epoch)
    else if given.timer == 2 then Some (utc_timer given.higher_precision)
    else if given.timer == 3 then offset_timer given.higher_precision given.offset
    else None

-- what is seen of a new tree
abbrev pub new_tree_seen : SettingsRef → Timer → Seen
new_tree_seen given timer = record {
  settings = settings_of given;
  timer = timer;
  state = opening_state (Some (id_of 1));
  writer = record { bytes = Some []; faults = 0; whole = true };
}

-- The settings are valid: their size is that of this version's settings, levels wrap at more than
-- 0, and the timer is known, with a valid offset if it needs one.
abbrev pub CanOpen : SettingsRef → Type 0
CanOpen given = (given.size ≡ 56) × (0 < given.wraparound) × (timer_of given ≢ None)
