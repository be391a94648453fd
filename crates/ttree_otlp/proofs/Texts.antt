-- Inputs that are one value, and others.
use Rattle.std.specs.Prelude.{is_some}
use Rattle.std.specs.Str.Lines.{lines}
use Rattle.std.proofs.Common.{◌≡◌, ℕ, true, false, List, Option, Some, None, refl}
use Rattle.json.specs.Json.{Json}
use Rattle.ttree_otlp.specs.Gather.{GatheredState, lines_taken, text_taken_as, whole_taken}

pub one_value : (found : Option Json) (text : List ℕ) (s : GatheredState) → is_some found ≡ true → text_taken_as found text s ≡ whole_taken found s
one_value (Some value) text s is = refl
one_value None text s is = cc

pub many_lines : (found : Option Json) (text : List ℕ) (s : GatheredState) → is_some found ≡ false
    → text_taken_as found text s ≡ lines_taken (lines text) (whole_taken found s)
many_lines (Some value) text s is = cc
many_lines None text s is = refl
