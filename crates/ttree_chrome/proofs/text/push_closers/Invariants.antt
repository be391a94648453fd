use Rattle.std.proofs.Common.{◌≡◌, ◌++◌, flat_map, length, reverse, string_bytes}
use Rattle.ttree_chrome.specs.Text.{closer}
use Rattle.ttree_chrome.proofs.text.push_closers.Given as goal

-- the others are left to be closed
abbrev pub invariant-loop-bracket : goal.invariant-loop-bracket
invariant-loop-bracket l =
    string_bytes l.fn.out ++ flat_map closer (reverse l.fn.brackets.items) ≡ string_bytes l.out ++ flat_map closer (reverse l.brackets.items)

abbrev pub decreases-loop-bracket : goal.decreases-loop-bracket
decreases-loop-bracket l = length l.brackets.items
