-- A printable character of ASCII is no control, and no part of one.
use Rattle.std.proofs.Common.{◌≡◌, ℕ, true, false, arith}
use Rattle.ttree_terminal.specs.Plain.{is_c1, is_control, is_printable}

pub not_control : (byte : ℕ) → is_printable byte ≡ true → is_control byte ≡ false
not_control byte is = grind arith

pub not_c1 : (before byte : ℕ) → is_printable byte ≡ true → is_c1 before byte ≡ false
not_c1 before byte is = grind arith
