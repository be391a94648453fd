-- Worked examples of retraced and deferred spans.
use Rattle.std.specs.Prelude.{◌≡◌, ℕ, true, List, [], ◌∷◌, Some, refl, codes, encode_utf8_all, ◌==◌, map}
use Rattle.std.specs.Char.{encode_utf8}
use Rattle.std.specs.Fmt.{digits}
use Rattle.std.specs.List.{common_prefix_len}
use Rattle.tracing_tree_spans.specs.Registry.Ids.{id_of, same_id}
use Rattle.tracing_tree_spans.specs.Registry.Paths.{looks_back}
use Rattle.tracing_tree_base.specs.Field.{rendered_field}
use Rattle.tracing_tree_base.specs.declared.context.Context.{Context}
use Rattle.tracing_tree_base.specs.declared.context.Id.{Id}
use Rattle.tracing_tree_spans.specs.declared.registry.Parent.TheVariants.{Current}
use Rattle.tracing_tree_base.specs.declared.style.Level.TheVariants.{Info}
use Rattle.tracing_tree_layer.specs.declared.call.Call.TheVariants.{New, Event, Close}
use Rattle.tracing_tree_layer.specs.Difference.Items.{differing}
use Rattle.tracing_tree_layer.proofs.WorkedCalls.{lined, outside, inside, made, message, informed, closed, written, written_after}

-- a root after another has closed
pub root_after_close : written (record lined { span_retrace = true }) (made (codes "a") outside ∷ closed 1 ∷ made (codes "b") outside ∷ informed (codes "x") (inside 2) ∷ [])
    ≡ encode_utf8_all (codes "┐a \n┘\n┐b \n├─ INFO x\n")
unfolding encode_utf8
root_after_close = refl

-- deferred spans that were shown are drawn when they close
pub deferred_and_closed : written (record lined { deferred_spans = true }) (made (codes "a") outside ∷ made (codes "b") (inside 1) ∷ informed (codes "x") (inside 2) ∷ closed 2 ∷ closed 1 ∷ [])
    ≡ encode_utf8_all (codes "┐a \n└─┐b \n  ├─ INFO x\n┌─┘\n┘\n")
unfolding encode_utf8
deferred_and_closed = refl

-- a close off the current branch retraces
pub close_retraces : written (record lined { span_retrace = true; close_retrace = true }) (made (codes "a") outside ∷ made (codes "b") (inside 1) ∷ made (codes "c") outside ∷ closed 2 ∷ informed (codes "x") (inside 1) ∷ [])
    ≡ encode_utf8_all (codes "┐a \n└─┐b \n┐c \n┐a \n└─┐b \n┌─┘\n├─ INFO x\n")
unfolding encode_utf8
close_retraces = refl

-- a parent on the current branch needs no retrace
pub close_on_the_path : written_after (record lined { span_retrace = true; close_retrace = true; indent_amount = 4 }) (made (codes "a") outside ∷ made (codes "b") (inside 1) ∷ made (codes "c") (inside 1) ∷ []) (closed 2 ∷ [])
    ≡ encode_utf8_all (codes "┌───┘\n")
unfolding encode_utf8
close_on_the_path = refl

-- a verbose retrace and close
pub close_retraces_verbosely : written_after (record lined { span_retrace = true; close_retrace = true; indent_amount = 4; verbose_entry = true; verbose_exit = true }) (made (codes "a") outside ∷ made (codes "b") (inside 1) ∷ made (codes "d") (inside 2) ∷ made (codes "e") (inside 1) ∷ []) (closed 3 ∷ [])
    ≡ encode_utf8_all (codes "└─┐a \n  └─┐b \n    └───┐d \n      ┌─┘d \n    ┌─┘b \n")
unfolding encode_utf8
close_retraces_verbosely = refl

-- labels of a close that retraces
pub deferred_close_retraces : written_after (record lined { deferred_spans = true; close_retrace = true; span_modes = true }) (made (codes "a") outside ∷ made (codes "b") (inside 1) ∷ made (codes "c") outside ∷ informed (codes "x") (inside 2) ∷ informed (codes "y") (inside 3) ∷ []) (closed 2 ∷ [])
    ≡ encode_utf8_all (codes "┐retrace: a \n└─┐retrace: b \n┌─┘close: \n")
unfolding encode_utf8
deferred_close_retraces = refl

-- without retraced or deferred spans the setting does nothing
pub close_retrace_alone : written (record lined { close_retrace = true }) (made (codes "a") outside ∷ made (codes "b") (inside 1) ∷ made (codes "c") outside ∷ closed 2 ∷ informed (codes "x") (inside 1) ∷ [])
    ≡ encode_utf8_all (codes "┐a \n└─┐b \n┐c \n┌─┘\n├─ INFO x\n")
unfolding encode_utf8
close_retrace_alone = refl

abbrev pub on_main : Context → Context
on_main context = record context { thread_name = Some (codes "main") }

-- two futures whose spans are shown in turn
pub concurrent_spans : written (record lined { indent_amount = 4; render_thread_ids = true; render_thread_names = true; span_retrace = true; verbose_entry = true; targets = true }) (New (record { name = codes "spawn_fut"; target = codes "concurrent_eager"; parent = Current; fields = rendered_field (codes "key") (codes "\"a\"") ∷ [] }) (on_main outside)
    ∷ New (record { name = codes "spawn_fut"; target = codes "concurrent_eager"; parent = Current; fields = rendered_field (codes "key") (codes "\"b\"") ∷ [] }) (on_main outside)
    ∷ New (record { name = codes "a"; target = codes "concurrent_eager"; parent = Current; fields = [] }) (on_main (inside 1))
    ∷ New (record { name = codes "b"; target = codes "concurrent_eager"; parent = Current; fields = [] }) (on_main (inside 2))
    ∷ Event (record { level = Info; target = codes "concurrent_eager"; parent = Current; fields = message (codes "a") ∷ [] }) (on_main (inside 3))
    ∷ Close (id_of 3) (on_main outside)
    ∷ Event (record { level = Info; target = codes "concurrent_eager"; parent = Current; fields = message (codes "b") ∷ [] }) (on_main (inside 4))
    ∷ Close (id_of 4) (on_main outside)
    ∷ Close (id_of 2) (on_main outside)
    ∷ Close (id_of 1) (on_main outside) ∷ [])
    ≡ encode_utf8_all (codes "1:main┐concurrent_eager::spawn_fut key=\"a\"\n1:main┐concurrent_eager::spawn_fut key=\"b\"\n1:main┐concurrent_eager::spawn_fut key=\"a\"\n1:main└───┐concurrent_eager::a \n1:main┐concurrent_eager::spawn_fut key=\"b\"\n1:main└───┐concurrent_eager::b \n1:main┐concurrent_eager::spawn_fut key=\"a\"\n1:main└───┐concurrent_eager::a \n1:main    ├─── INFO concurrent_eager a\n1:main┌───┘\n1:main┐concurrent_eager::spawn_fut key=\"b\"\n1:main└───┐concurrent_eager::b \n1:main    ├─── INFO concurrent_eager b\n1:main┌───┘\n1:main┘\n1:main┘\n")
unfolding encode_utf8 digits
concurrent_spans = refl

-- ---- lists that differ

pub differing_lists : differing (λ x y. x == y) (1 ∷ 2 ∷ 3 ∷ []) (1 ∷ 5 ∷ 3 ∷ 4 ∷ []) ≡ 5 ∷ 4 ∷ []
differing_lists = refl

pub differing_from_nothing : differing (λ x y. x == y) [] (1 ∷ 2 ∷ []) ≡ 1 ∷ 2 ∷ []
differing_from_nothing = refl

-- ids with these numbers
abbrev pub ids : List ℕ → List Id
ids numbers = map id_of numbers

-- the length of the common prefix, and the count of pairs that were compared
abbrev pub common_of : List ℕ → List ℕ → ℕ × ℕ
common_of old new =
    let shared = common_prefix_len same_id (ids old) (ids new) in
    (shared, looks_back (ids old) (ids new) shared)

pub two_in_common : common_of (1 ∷ 2 ∷ 3 ∷ []) (1 ∷ 2 ∷ 4 ∷ 5 ∷ []) ≡ (2, 2)
two_in_common = refl

pub one_in_common : common_of (1 ∷ 2 ∷ 3 ∷ []) (1 ∷ []) ≡ (1, 1)
one_in_common = refl

pub none_in_common : common_of (1 ∷ 2 ∷ []) (3 ∷ 4 ∷ []) ≡ (0, 2)
none_in_common = refl

pub nothing_in_common : common_of [] (1 ∷ []) ≡ (0, 0)
nothing_in_common = refl
