-- Threads as columns of a fixed width.
use Rattle.std.specs.Prelude.{ℕ, ◌-◌, List, [], ◌++◌, map, replicate, Option, Some}
use Rattle.std.specs.Option.{unwrap_or}
use Rattle.std.specs.Str.{chars, encode_utf8_all}
use Rattle.json.specs.Json.{Json}
use Rattle.tracing_tree_base.specs.declared.context.Context.{Context}
use Rattle.tracing_tree_layer.specs.declared.call.Call.{Call}
use Rattle.tracing_tree_layer.specs.declared.call.Call.TheVariants.{New, Clone, Record, Event, Close}
use Rattle.ttree_columns.specs.Columns.{column_after, fitting, start}
use Rattle.ttree_adapters.specs.Mapping.{Made}
use Rattle.ttree_adapters.specs.declared.threads.ThreadColumns.{ThreadColumns}

-- the first characters of a name, as many as take fewer than 16 columns
abbrev pub short_name : List ℕ → List ℕ
short_name name = fitting 16 start (chars name)

-- these characters, filled up with spaces to 16 columns
abbrev pub filled : List ℕ → List ℕ
filled kept = encode_utf8_all kept ++ replicate (16 - column_after start kept) 32

-- a name in 16 columns; the last is a space
abbrev pub column : List ℕ → List ℕ
column name = filled (short_name name)

-- a call without a thread has an empty column
abbrev pub in_column : Context → Context
in_column context =
    record context { thread_name = Some (column (unwrap_or context.thread_name [])) }

abbrev pub call_in_column : Call → Call
call_in_column (New attributes context) = New attributes (in_column context)
call_in_column (Event event context) = Event event (in_column context)
call_in_column (Close id context) = Close id (in_column context)
call_in_column (Clone id) = Clone id
call_in_column (Record id record_of_it) = Record id record_of_it

abbrev pub makes_in_columns : ThreadColumns → Option Json → List Call → Made ThreadColumns
makes_in_columns s value calls = record { calls = map call_in_column calls; mapping = s }
