-- Plain lines, and the first line of a panic or of a stack trace.
use Rattle.std.specs.Prelude.{ℕ, ◌-◌, ◌==◌, ◌&&◌, ◌||◌, nat_le, Bool, true, false, if◌then◌else◌, List, [], ◌∷◌, length, take, Option, Some, None, codes}
use Rattle.std.specs.List.{ends_with}
use Rattle.tracing_tree_base.specs.declared.context.Id.{Id}
use Rattle.tracing_tree_base.specs.declared.context.Moment.{Moment}
use Rattle.tracing_tree_base.specs.declared.style.Level.{Level}
use Rattle.tracing_tree_base.specs.declared.style.Level.TheVariants.{Error, Info}
use Rattle.tracing_tree_layer.specs.declared.call.Call.{Call}
use Rattle.ttree_source.specs.Marks.{after_mark, begins}
use Rattle.ttree_source.specs.Calls.{event_call, message_field}

abbrev pub is_digit : ℕ → Bool
is_digit byte = nat_le 48 byte && nat_le byte 57

-- what comes after the decimal digits at the front
abbrev pub after_digits : List ℕ → List ℕ
after_digits [] = []
after_digits (byte ∷ others) = if is_digit byte then after_digits others else byte ∷ others

-- a string holds this mark somewhere
abbrev pub holds_mark : List ℕ → List ℕ → Bool
holds_mark mark [] = false
holds_mark mark (byte ∷ others) = begins mark (byte ∷ others) || holds_mark mark others

abbrev pub holds_after : List ℕ → Option (List ℕ) → Bool
holds_after mark (Some rest) = holds_mark mark rest
holds_after mark None = false

-- Rust: thread 'main' panicked at src/main.rs:2:5:
abbrev pub begins_rust_panic : List ℕ → Bool
begins_rust_panic line = holds_after (codes " panicked at") (after_mark (codes "thread '") line)

-- the state of a goroutine, or first its addresses
abbrev pub describes_goroutine : List ℕ → Bool
describes_goroutine rest = begins (codes " [") rest || begins (codes " gp=0x") rest

abbrev pub lists_goroutine : Option (List ℕ) → Bool
lists_goroutine (Some rest) = describes_goroutine (after_digits rest)
lists_goroutine None = false

-- Go: goroutine 1 [running]: and goroutine 1 gp=0xc0000061c0 m=0 mp=0x55d8a0 [running]:
abbrev pub begins_goroutine : List ℕ → Bool
begins_goroutine line = lists_goroutine (after_mark (codes "goroutine ") line)

-- a letter, a digit, or one of `.`, `_` and `$` (46, 95, 36)
abbrev pub is_of_name : ℕ → Bool
is_of_name byte =
    is_digit byte || (nat_le 65 byte && nat_le byte 90) || (nat_le 97 byte && nat_le byte 122)
    || (byte == 46) || (byte == 95) || (byte == 36)

-- what comes after the name at the front
abbrev pub after_name : List ℕ → List ℕ
after_name [] = []
after_name (byte ∷ others) = if is_of_name byte then after_name others else byte ∷ others

-- the name of an exception, with its package
abbrev pub names_exception : List ℕ → Bool
names_exception name =
    holds_mark (codes ".") name
    && (ends_with (λ a b. a == b) name (codes "Exception")
    || ends_with (λ a b. a == b) name (codes "Error"))

-- the end of the line, or a colon
abbrev pub ends_name : List ℕ → Bool
ends_name [] = true
ends_name (byte ∷ others) = begins (codes ":") (byte ∷ others)

-- Java: java.lang.IllegalStateException: closed
abbrev pub begins_exception : List ℕ → Bool
begins_exception line =
    names_exception (take (length line - length (after_name line)) line)
    && ends_name (after_name line)

-- the words before a panic, a fault or a stack trace
abbrev pub begins_with_words : List ℕ → Bool
begins_with_words line =
    begins (codes "panic: ") line || begins (codes "fatal error: ") line
    || begins (codes "SIGSEGV: ") line || begins (codes "stack backtrace:") line
    || begins (codes "Traceback (most recent call last):") line
    || begins (codes "Exception in thread \"") line

-- the first line of a panic or a stack trace of Rust, Go, Python or Java
abbrev pub begins_trace : List ℕ → Bool
begins_trace line =
    begins_rust_panic line || begins_goroutine line || begins_exception line
    || begins_with_words line

-- a line without the carriage return at its end
abbrev pub without_return : List ℕ → List ℕ
without_return line =
    if ends_with (λ a b. a == b) line (codes "\r") then take (length line - 1) line else line

abbrev pub plain_level : List ℕ → Level
plain_level line = if begins_trace line then Error else Info

-- the event of a line that isn't a JSON object, in the span above
abbrev pub plain_event : Moment → List ℕ → Option Id → Call
plain_event moment line parent =
    event_call moment (plain_level line) (message_field (without_return line) ∷ []) parent
