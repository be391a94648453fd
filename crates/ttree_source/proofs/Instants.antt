-- An instant is determined by its nanoseconds.
use Rattle.std.proofs.Common.{◌≡◌, ℕ, sym, arith}
use Rattle.std.specs.Prelude.{ℤ}
use Rattle.std.proofs.Props.{props}
use Rattle.std.proofs.lemmas.Int.{ints, clamps}
use mathlib.Core.HLevel.{is_prop→PathP}
use Rattle.jiff_core.specs.Timestamp.{IsTimestampNanos}
use Rattle.jiff_core.specs.declared.timestamp.Timestamp.{Timestamp}
use Rattle.ttree_source.specs.Moments.{instant_at, into_range, moment_at, since_1970}

pub same_instant : (a b : Timestamp) → a.nanosecond ≡ b.nanosecond → a ≡ b
same_instant a b e = λ i. record {
  nanosecond = e i;
  in_range = is_prop→PathP (λ j. IsTimestampNanos (e j)) (λ j. Prim.hlevel props) a.in_range b.in_range i;
}

pub in_place : (n : ℤ) → IsTimestampNanos n → into_range n ≡ n
in_place n (low, high) = omega (arith, ints, clamps)

-- the moment of an instant
pub moment_at_instant : (wall : Timestamp) (mono : ℕ) → mono ≡ since_1970 wall.nanosecond → moment_at wall.nanosecond ≡ record { mono = mono; wall = wall }
moment_at_instant wall mono e =
    let same : instant_at wall.nanosecond ≡ wall = same_instant (instant_at wall.nanosecond) wall (in_place wall.nanosecond wall.in_range) in
    let back : since_1970 wall.nanosecond ≡ mono = sym e in
    λ i. record { mono = back i; wall = same i }
