use Rattle.std.proofs.Common.{◌≡◌, ◌+◌, ◌<◌, ◌^◌, sym, ◌∙◌, arith}
use Rattle.tracing_tree_lines.proofs.RowsRead.JsonLines.{at-next}
use Rattle.tracing_tree_lines.proofs.rows.json_text.RowsRead.read_lines.Goals as goal

pub loop-number-preserved : goal.loop-number-preserved
loop-number-preserved g c amount text rest start known so =
    let at = c.loop-number.invariant amount text rest start known so in
    let number = at.numbered in
    let room : at.count + 1 < 2 ^ 64 = omega arith in
    at-next _ _ _ _ _ _ _ at.count number (rw c.in-Ok-true.field-0-test at (c.in-Ok-true.ensures amount text at.rest start at.count room at.known at.so_far))

pub returns-in-Ok-false : goal.returns-in-Ok-false
returns-in-Ok-false g c amount text rest start known so =
    let at = c.loop-number.invariant amount text rest start known so in
    let number = at.numbered in
    let room : at.count + 1 < 2 ^ 64 = omega arith in
    record { count = at.count; numbered = number; left = rw c.in-Ok-false.field-0-test at (c.in-Ok-false.ensures amount text at.rest start at.count room at.known at.so_far) }

pub returns-in-Err : goal.returns-in-Err
returns-in-Err g c amount text rest start known so =
    let at = c.loop-number.invariant amount text rest start known so in
    let number = at.numbered in
    let room : at.count + 1 < 2 ^ 64 = omega arith in
    record { count = at.count; numbered = number; left = c.in-Err.ensures amount text at.rest start at.count room at.known at.so_far }

pub returns : goal.returns
returns g c amount text rest start known so =
    let at = c.loop-number.invariant amount text rest start known so in
    let last : c.loop-number.number ≡ 18_446_744_073_709_551_615 = omega arith in
    record { count = at.count; numbered = sym last ∙ at.numbered; left = (at.rest, at.so_far) }
