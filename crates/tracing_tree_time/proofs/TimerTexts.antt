-- The strings of the clocks aren't empty, so each may run out of memory.
use Rattle.std.proofs.Common.{◌≢◌, ◌/◌, ℕ, ℤ, Bool, true, false, if◌then◌else◌, nat_lt, List, [], ◌∷◌, ◌++◌, Result, Ok, Err, Some, codes, decimal, refl}
use Rattle.tracing_tree_time.specs.Clock.{dimmed_pair, elapsed_text, hundredths_text, nearest_count, micro_unit, Civil, civil_text, local_text, uptime_text}
use Rattle.tracing_tree_time.specs.Numbers.{right_in}
use Rattle.tracing_tree_time.specs.Timers.{AsksForText}
use Rattle.tracing_tree_time.specs.declared.timer.TimeFault.{TimeFault}
use Rattle.tracing_tree_time.specs.declared.timer.TimeFault.TheVariants.{Memory, Fault}

-- a string with a character in it
some-append : (front : List ℕ) (n : ℕ) (rest : List ℕ) → front ++ n ∷ rest ≢ []
some-append [] n rest e = cc
some-append (m ∷ front) n rest e = cc

some-pair : (ansi : Bool) (number unit : List ℕ) → unit ≢ [] → dimmed_pair ansi number unit ≢ []
some-pair ansi number [] some e = some refl
some-pair true number (n ∷ unit) some e = cc
some-pair false number (n ∷ unit) some e = some-append number n unit e

some-choice : (first second ansi : Bool) (a b c u v w : List ℕ) → u ≢ [] → v ≢ [] → w ≢ [] →
    (if first then dimmed_pair ansi a u else (if second then dimmed_pair ansi b v else dimmed_pair ansi c w)) ≢ []
some-choice true second ansi a b c u v w x y z = some-pair ansi a u x
some-choice false true ansi a b c u v w x y z = some-pair ansi b v y
some-choice false false ansi a b c u v w x y z = some-pair ansi c w z

some-elapsed : (higher ansi : Bool) (nanos : ℕ) → elapsed_text higher ansi nanos ≢ []
some-elapsed true ansi nanos =
    some-choice (nat_lt nanos 1_000_000) (nat_lt nanos 1_000_000_000) ansi
    (hundredths_text (nearest_count 10 nanos)) (hundredths_text (nearest_count 10_000 nanos)) (hundredths_text (nearest_count 10_000_000 nanos))
    micro_unit (codes "ms") (codes "s ") (λ e. cc) (λ e. cc) (λ e. cc)
some-elapsed false ansi nanos =
    some-choice (nat_lt (nanos / 1_000_000) 1000) (nat_lt (nanos / 1_000_000_000) 60) ansi
    (right_in 3 (decimal (nanos / 1_000_000))) (right_in 3 (decimal (nanos / 1_000_000_000))) (right_in 3 (decimal (nanos / 60_000_000_000)))
    (codes "ms") (codes "s ") (codes "m ") (λ e. cc) (λ e. cc) (λ e. cc)

-- a clock with a nonempty string may run out of memory
asks : (text : List ℕ) (result : Result (Unit {0}) TimeFault) → text ≢ [] → AsksForText (Some text) result
asks text (Ok done) some = tt
asks text (Err Memory) some = some
asks text (Err Fault) some = tt

pub elapsed_asks : (higher ansi : Bool) (nanos : ℕ) (result : Result (Unit {0}) TimeFault) → AsksForText (Some (elapsed_text higher ansi nanos)) result
elapsed_asks higher ansi nanos result = asks (elapsed_text higher ansi nanos) result (some-elapsed higher ansi nanos)

pub utc_asks : (civil : Civil) (result : Result (Unit {0}) TimeFault) → AsksForText (Some (civil_text civil)) result
utc_asks civil result = asks (civil_text civil) result (some-append _ _ _)

pub local_asks : (nanos offset : ℤ) (result : Result (Unit {0}) TimeFault) → AsksForText (Some (local_text nanos offset)) result
local_asks nanos offset result = asks (local_text nanos offset) result (some-append _ _ _)

pub uptime_asks : (epoch now : ℕ) (result : Result (Unit {0}) TimeFault) → AsksForText (Some (uptime_text epoch now)) result
uptime_asks epoch now result = asks (uptime_text epoch now) result (some-append _ _ _)
