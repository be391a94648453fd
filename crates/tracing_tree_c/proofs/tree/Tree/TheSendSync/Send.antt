-- The drawing that a handle owns may cross threads, and any thread may free its block.
use base.Shift.{Keyless}
use mir.Raw.{raw}
use denote.Memory.{lone}
use denote.RawPtr.{Ptr}
use denote.Struct.Struct.{exits_of}
use denote.Struct.Owning.{shape, fields, to}
use denote.Param.Send.{IsSend, AllSend, owning_send, struct_send, sendable}
use Rattle.std.specs.Prelude.{None, Some}
use Rattle.std.proofs.Crossing.{frees}
use Rattle.std_alloc.proofs.SendSync.{quiet, lies}
use Rattle.tracing_tree_c.specs.Owned.{Contents, owned}
use Rattle.tracing_tree_c.specs.contracts.drawing.Drawing as Drawing
use Rattle.tracing_tree_c.proofs.drawing.Drawing.TheSendSync.{the_send as drawing}
use Rattle.tracing_tree_c.specs.contracts.tree.Tree.{the_row, the_type}

keyless : (at : Ptr) (kept : Contents) → Keyless (owned at kept)
keyless at None = tt
keyless at (Some x) =
    (lies Drawing.the_row drawing at x, frees.frees (record { memory = record { seal = tt } }) (raw (lone Drawing.the_row.mir)) at)

pub send : IsSend the_row
send =
    let all : AllSend (fields the_type) = (search sendable, (search sendable, tt)) in
    owning_send the_type all (λ d. keyless d.inside d.kept)
    (λ k. quiet (to the_type) (exits_of k (fields the_type)) ((struct_send (shape the_type) all).leaving k))
