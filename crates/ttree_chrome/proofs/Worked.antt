-- Examples computed from the definitions of what a string and an element of a trace mean.
use Rattle.std.proofs.Common.{◌≡◌, ◌+◌, ◌-◌, ◌^◌, pos, true, false, None, Some, [], ◌∷◌, codes, refl}
use Rattle.std.specs.Prelude.{negsuc, Ok, Err}
use Rattle.std.specs.Str.{chars}
use lib.Utf8.{encode}
use Rattle.json.specs.Json.{null, number, string, array, object, member, no_members, no_items}
use Rattle.ttree_chrome.specs.Element.{element_of}
use Rattle.ttree_chrome.specs.Number.{length_of, microseconds_time, small_nanoseconds}
use Rattle.ttree_chrome.specs.Text.{is_cut, mended}
use Rattle.ttree_source.specs.declared.notes.Problem.TheVariants.{Phase, Process, Thread, Start, Duration}
use Rattle.ttree_chrome.specs.declared.element.Element.TheVariants.{Span, Begin, End, Instant, Async, ProcessName, ThreadName, Metadata, Undrawn}
use Rattle.ttree_chrome.specs.declared.element.Ident.TheVariants.{Number, Name}
use Rattle.ttree_chrome.specs.declared.element.Track.TheVariants.{Begin as TrackBegins, End as TrackEnds}

-- ---- numbers

pub whole_microseconds : small_nanoseconds (codes "57411") ≡ Some 57411000
whole_microseconds = refl

pub with_thousandths : small_nanoseconds (codes "1350024132.832") ≡ Some 1350024132832
with_thousandths = refl

pub half_a_microsecond : small_nanoseconds (codes "0.5") ≡ Some 500
half_a_microsecond = refl

pub more_is_cut : small_nanoseconds (codes "1.2345678901234567890123456789") ≡ Some 1234
more_is_cut = refl

pub a_small_exponent : small_nanoseconds (codes "6.25e-02") ≡ Some 62
a_small_exponent = refl

pub below_a_nanosecond : small_nanoseconds (codes "5e-05") ≡ Some 0
below_a_nanosecond = refl

pub a_large_exponent : small_nanoseconds (codes "1.5E+3") ≡ Some 1500000
a_large_exponent = refl

pub zeros_before_many_digits : small_nanoseconds
    (codes "0.000000000000000000000015e24") ≡ Some 15000
zeros_before_many_digits = refl

pub an_exponent_is_whole : small_nanoseconds (codes "1e1.5") ≡ None
an_exponent_is_whole = refl

pub the_last_nanosecond : small_nanoseconds (codes "9223372036854775.807") ≡ Some (2 ^ 63 - 1)
the_last_nanosecond = refl

pub one_after_it : small_nanoseconds (codes "9223372036854775.808") ≡ None
one_after_it = refl

pub after_the_zero : microseconds_time (codes "1.5") ≡ Some (2 ^ 63 + 1500)
after_the_zero = refl

pub before_the_zero : microseconds_time (codes "-12.25") ≡ Some (2 ^ 63 - 12250)
before_the_zero = refl

pub a_length_is_not_negative : length_of (codes "-12.25") ≡ Some 0
a_length_is_not_negative = refl

pub a_length : length_of (codes "1e2") ≡ Some 100000
a_length = refl

-- ---- elements

pub a_span_of_clang : element_of (object (
    member (codes "pid") (number (codes "26611"))
    (member (codes "tid") (number (codes "26611"))
    (member (codes "ph") (string (codes "X"))
    (member (codes "ts") (number (codes "57411"))
    (member (codes "dur") (number (codes "905"))
    (member (codes "name") (string (codes "Source"))
    (member (codes "args") (object (member (codes "detail") (string (codes "include/sys/cdefs.h")) no_members))
    no_members)))))))) ≡ Ok (Span (record {
      owner = record { process = Some (Number (pos 26611)); thread = Some (Number (pos 26611)) };
      start = 2 ^ 63 + 57411000;
      name = codes "Source";
      fields = (record { name = codes "detail"; value = codes "include/sys/cdefs.h" }) ∷ [];
    }) (2 ^ 63 + 58316000))
unfolding chars encode
a_span_of_clang = refl

pub a_begin_of_uftrace : element_of (object (
    member (codes "ts") (number (codes "1350024132.832"))
    (member (codes "ph") (string (codes "B"))
    (member (codes "pid") (number (codes "20609"))
    (member (codes "name") (string (codes "main")) no_members))))) ≡ Ok (Begin (record {
      owner = record { process = Some (Number (pos 20609)); thread = None };
      start = 2 ^ 63 + 1350024132832;
      name = codes "main";
      fields = [];
    }))
a_begin_of_uftrace = refl

pub an_end_of_uftrace : element_of (object (
    member (codes "ts") (number (codes "1350024137.588"))
    (member (codes "ph") (string (codes "E"))
    (member (codes "pid") (number (codes "20609"))
    (member (codes "name") (string (codes "main")) no_members))))) ≡ Ok (End (record {
      owner = record { process = Some (Number (pos 20609)); thread = None };
      start = 2 ^ 63 + 1350024137588;
      name = codes "main";
      fields = [];
    }))
an_end_of_uftrace = refl

pub an_instant_of_no_lane : element_of (object (
    member (codes "ph") (string (codes "i"))
    (member (codes "ts") (number (codes "7"))
    (member (codes "tid") null no_members)))) ≡ Ok (Instant (record {
      owner = record { process = None; thread = None };
      start = 2 ^ 63 + 7000;
      name = [];
      fields = [];
    }))
an_instant_of_no_lane = refl

pub a_process_by_its_name : element_of (object (
    member (codes "ts") (string (codes "none"))
    (member (codes "ph") (string (codes "M"))
    (member (codes "pid") (number (codes "-1"))
    (member (codes "name") (string (codes "process_name"))
    (member (codes "args") (object (member (codes "name") (string (codes "clang")) no_members))
    no_members)))))) ≡ Ok (ProcessName (record { process = Some (Number (negsuc 0)); thread = None }) (codes "clang"))
a_process_by_its_name = refl

pub a_thread_by_its_name : element_of (object (
    member (codes "ph") (string (codes "M"))
    (member (codes "tid") (number (codes "2"))
    (member (codes "name") (string (codes "thread_name"))
    (member (codes "args") (object (member (codes "name") (string (codes "worker")) no_members))
    no_members))))) ≡ Ok (ThreadName (record { process = None; thread = Some (Number (pos 2)) }) (codes "worker"))
a_thread_by_its_name = refl

pub other_metadata : element_of (object (
    member (codes "ph") (string (codes "M"))
    (member (codes "pid") (string (codes "one"))
    (member (codes "name") (string (codes "process_labels")) no_members)))) ≡ Ok Metadata
other_metadata = refl

pub a_counter : element_of (object (
    member (codes "ph") (string (codes "C"))
    (member (codes "tid") (number (codes "1.5")) no_members))) ≡ Ok Undrawn
a_counter = refl

pub a_thread_of_a_gpu : element_of (object (
    member (codes "ph") (string (codes "i"))
    (member (codes "pid") (string (codes "GPU"))
    (member (codes "tid") (string (codes "12"))
    (member (codes "ts") (number (codes "-0.001")) no_members))))) ≡ Ok (Instant (record {
      owner = record { process = Some (Name (codes "GPU")); thread = Some (Name (codes "12")) };
      start = 2 ^ 63 - 1;
      name = [];
      fields = [];
    }))
a_thread_of_a_gpu = refl

pub an_async_begin_of_node : element_of (object (
    member (codes "pid") (number (codes "19428"))
    (member (codes "tid") (number (codes "19428"))
    (member (codes "ts") (number (codes "7"))
    (member (codes "ph") (string (codes "b"))
    (member (codes "cat") (string (codes "node"))
    (member (codes "name") (string (codes "PROMISE"))
    (member (codes "id") (string (codes "0x3")) no_members)))))))) ≡ Ok (Async TrackBegins (record {
      owner = record { process = Some (Number (pos 19428)); thread = Some (Number (pos 19428)) };
      start = 2 ^ 63 + 7000;
      name = codes "PROMISE";
      fields = (record { name = codes "id"; value = codes "0x3" }) ∷ [];
    }) (codes "node\0\00x3"))
unfolding chars encode
an_async_begin_of_node = refl

pub an_older_end_has_an_id_of_its_process : element_of (object (
    member (codes "ts") (number (codes "9"))
    (member (codes "ph") (string (codes "F"))
    (member (codes "id2") (object (member (codes "local") (number (codes "3")) no_members)) no_members)))) ≡ Ok (Async TrackEnds (record {
      owner = record { process = None; thread = None };
      start = 2 ^ 63 + 9000;
      name = [];
      fields = [];
    }) (codes "\0\03"))
an_older_end_has_an_id_of_its_process = refl

-- ---- what is missing

pub no_object : element_of null ≡ Err Phase
no_object = refl

pub a_phase_that_is_no_text : element_of (object (member (codes "ph") (number (codes "1")) no_members)) ≡ Err Phase
a_phase_that_is_no_text = refl

pub a_process_that_is_a_list : element_of (object (
    member (codes "ph") (string (codes "B"))
    (member (codes "tid") (number (codes "0.5"))
    (member (codes "pid") (array no_items) no_members)))) ≡ Err Process
a_process_that_is_a_list = refl

pub a_thread_that_is_a_fraction : element_of (object (
    member (codes "ph") (string (codes "B"))
    (member (codes "tid") (number (codes "0.5")) no_members))) ≡ Err Thread
a_thread_that_is_a_fraction = refl

pub a_begin_at_no_time : element_of (object (member (codes "ph") (string (codes "B")) no_members)) ≡ Err Start
a_begin_at_no_time = refl

pub a_span_of_no_length : element_of (object (
    member (codes "ph") (string (codes "X"))
    (member (codes "ts") (number (codes "1")) no_members))) ≡ Err Duration
a_span_of_no_length = refl

pub no_end_after_the_last_nanosecond : element_of (object (
    member (codes "ph") (string (codes "X"))
    (member (codes "ts") (number (codes "9e15"))
    (member (codes "dur") (number (codes "9e15")) no_members)))) ≡ Ok (Span (record {
      owner = record { process = None; thread = None };
      start = 2 ^ 63 + 9000000000000000000;
      name = [];
      fields = [];
    }) (2 ^ 64 - 1))
no_end_after_the_last_nanosecond = refl

-- ---- truncated strings

pub a_list_cut_behind_a_comma : mended (codes "[{\"a\":1},{\"b\":") ≡ codes "[{\"a\":1}]"
a_list_cut_behind_a_comma = refl

pub a_bracket_in_a_text_closes_nothing : mended (codes "{\"traceEvents\":[{\"a\":\"]\"},") ≡ codes "{\"traceEvents\":[{\"a\":\"]\"}]}"
a_bracket_in_a_text_closes_nothing = refl

pub what_is_open_is_closed_from_the_inside : mended (codes "{\"traceEvents\":[{\"a\":1}],\"o\":{\"k\":{\"x\":1},\"y") ≡ codes "{\"traceEvents\":[{\"a\":1}],\"o\":{\"k\":{\"x\":1}}}"
what_is_open_is_closed_from_the_inside = refl

pub half_an_element_is_lost : is_cut (codes "[{\"a\":1},{\"b\":") ≡ true
half_an_element_is_lost = refl

pub no_element_is_lost : is_cut (codes "[\n[],\n") ≡ false
no_element_is_lost = refl

pub a_comma_after_the_last : mended (codes "[{\"a\":1},]") ≡ codes "[{\"a\":1}]"
a_comma_after_the_last = refl

pub a_comma_loses_nothing : is_cut (codes "[{\"a\":1},]") ≡ false
a_comma_loses_nothing = refl

pub what_is_no_json_after_the_list : mended (codes "{\"traceEvents\":[{\"a\":1}],\"x\":NaN}") ≡ codes "{\"traceEvents\":[{\"a\":1}]}"
what_is_no_json_after_the_list = refl
