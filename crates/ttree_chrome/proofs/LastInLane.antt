-- The last item of a lane.
use Rattle.std.proofs.Common.{◌≡◌, Bool, true, false, ℕ, zero, suc, ◌+◌, ◌-◌, ◌<◌, ◌≤◌, List, [], ◌∷◌, length, take, get_or, Option, Some, if◌then◌else◌, refl, sym, ap, ◌∙◌, arith}
use Rattle.ttree_chrome.specs.Gather.{further_or, last_in, same_lane}
use Rattle.ttree_chrome.specs.declared.gather.Lane.{Lane}
use Rattle.ttree_chrome.specs.declared.gather.Item.{Item}

further_if : (m b : Bool) (k n : ℕ) (found : Option ℕ) → n ≡ k + 1 →
    further_or (if m then Some k else found) b ≡ (if m then Some n else further_or found b)
further_if true b k n found e = ap Some (sym e)
further_if false b k n found e = refl

last_in_take : (begun : List Item) (at : ℕ) (lane : Lane) (d : Item) → at < length begun →
    last_in (take (suc at) begun) lane
    ≡ (if same_lane (get_or begun at d).lane lane then Some at else last_in (take at begun) lane)
last_in_take [] at lane d h = absurd (omega (arith, h))
last_in_take (one ∷ others) zero lane d h = refl
last_in_take (one ∷ others) (suc at) lane d h =
    ap (λ found. further_or found (same_lane one.lane lane)) (last_in_take others at lane d (omega (arith, h)))
    ∙ further_if (same_lane (get_or others at d).lane lane) (same_lane one.lane lane) at (suc at)
    (last_in (take at others) lane) (omega (arith))

-- the last of the first `at` is the one before that place, or one of those before it
pub last_before : (begun : List Item) (at : ℕ) (lane : Lane) (d : Item) (b : Bool) → 0 < at → at ≤ length begun →
    b ≡ same_lane (get_or begun (at - 1) d).lane lane →
    last_in (take at begun) lane ≡ (if b then Some (at - 1) else last_in (take (at - 1) begun) lane)
last_before begun at lane d b h k e =
    let one_more : at ≡ suc (at - 1) = omega (arith, h) in
    ap (λ n. last_in (take n begun) lane) one_more
    ∙ last_in_take begun (at - 1) lane d (omega (arith, h, k))
    ∙ ap (λ m. if m then Some (at - 1) else last_in (take (at - 1) begun) lane) (sym e)
