-- The amounts of the ledger of a layer for several threads.
use Rattle.std.specs.Prelude.{ℕ, ◌+◌, ◌*◌, ◌^◌, Bool, true, false}

-- two settings as a number below 4
abbrev pub settings_code : Bool → Bool → ℕ
settings_code false false = 0
settings_code true false = 1
settings_code false true = 2
settings_code true true = 3

-- The amount of a ledger: 4 for each call that a history has space for, and the code of ansi and
-- targets.
abbrev pub full_amount : Bool → Bool → ℕ
full_amount ansi targets = 4 * 2 ^ 64 + settings_code ansi targets
