-- The settings of a layer, as contracts see them.
use Rattle.std.specs.Prelude.{ℕ, ◌||◌, Bool, true, false, ◌^◌, ◌-◌}

pub record Settings : Type 0 where
  pub ansi : Bool
  pub indent_lines : Bool
  pub indent_amount : ℕ
  pub targets : Bool
  pub render_thread_ids : Bool
  pub render_thread_names : Bool
  pub wraparound : ℕ
  pub verbose_entry : Bool
  pub verbose_exit : Bool
  pub span_retrace : Bool
  pub bracketed_fields : Bool
  pub deferred_spans : Bool
  pub span_modes : Bool
  pub close_retrace : Bool

-- the default settings
abbrev pub default_settings : Settings
default_settings = record {
  ansi = true;
  indent_lines = false;
  indent_amount = 2;
  targets = false;
  render_thread_ids = false;
  render_thread_names = false;
  wraparound = 2 ^ 64 - 1;
  verbose_entry = false;
  verbose_exit = false;
  span_retrace = false;
  bracketed_fields = false;
  deferred_spans = false;
  span_modes = false;
  close_retrace = false;
}

-- spans are retraced, at events at least
abbrev pub retraces : Settings → Bool
retraces settings = settings.span_retrace || settings.deferred_spans
