-- What a handle owns: a box's value, or nothing.
use Rattle.std.specs.Prelude.{Option, None, Some}
use base.Fml.{Fml, ftrue}
use mir.Syntax.{Ty}
use denote.RawPtr.{Ptr}
use Rattle.std.specs.contracts.impls.GlobalAllocator.TheImpl.{ghosts}
use Rattle.std.specs.Box.Ownership.{box_owns}
use Rattle.std.specs.Coded.{Coded, coded_option}
use Rattle.tracing_tree_c.specs.contracts.drawing.Drawing.{the_row}

abbrev pub Contents : Type 0
Contents = Option the_row.Denot

abbrev pub contents_coded : Coded Contents
contents_coded = coded_option the_row.coded

-- the right to free a block that was allocated for a type, which is equal for each `Global`
abbrev pub token : Ty → Ptr → Fml
token ty at = ghosts.dealloc_token (record { memory = record { seal = tt } }) ty at

-- the drawing at a pointer, with the right to free it
abbrev pub owned : Ptr → Contents → Fml
owned at None = ftrue
owned at (Some value) = box_owns token the_row at value
