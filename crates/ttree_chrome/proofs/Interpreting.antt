-- Why no more was read of a trace.
use Rattle.std.proofs.Common.{◌≡◌, ℕ, ◌<◌, Bool, true, false, Result, Ok, Err, arith}
use Rattle.json.specs.Json.{Items, no_items, item}
use Rattle.tracing_tree_lines.specs.declared.lines.LineCause.{LineCause}
use Rattle.tracing_tree_lines.specs.declared.lines.LineCause.TheVariants.{Settings as NoSettings, NotACall, Read, Memory, Refused}
use Rattle.ttree_source.specs.Counts.{one_more}
use Rattle.ttree_source.specs.declared.notes.Problem.{Problem}
use Rattle.ttree_chrome.specs.Element.{element_of}
use Rattle.ttree_chrome.specs.Trace.{EndsInterpreting, interpreted_all, interpreted_as, interpreted_cut, interpreted_unknown}
use Rattle.ttree_chrome.specs.declared.element.Element.{Element}
use Rattle.ttree_chrome.specs.declared.trace.Interpreted.{Interpreted}

some_more : (n : ℕ) → 0 < one_more n
some_more n = grind arith

more_by_one : (r : Result Element Problem) (h : Interpreted) → 0 < h.unknown → 0 < (interpreted_as r h).unknown
more_by_one (Ok element) h some = some
more_by_one (Err problem) h some = some_more h.unknown

more_by_all : (others : Items) (h : Interpreted) → 0 < h.unknown → 0 < (interpreted_all others h).unknown
more_by_all no_items h some = some
more_by_all (item value others) h some = more_by_all others (interpreted_as (element_of value) h) (more_by_one (element_of value) h some)

more_by_cut : (is_cut : Bool) (h : Interpreted) → 0 < h.unknown → 0 < (interpreted_cut is_cut h).unknown
more_by_cut true h some = some_more h.unknown
more_by_cut false h some = some

-- the notes end the run after something unknown
pub ends_unknown : (cause : LineCause) (h : Interpreted) → cause ≡ NotACall → EndsInterpreting cause (interpreted_unknown h) (interpreted_unknown h)
ends_unknown NotACall h e = (some_more h.unknown, some_more h.unknown)
ends_unknown NoSettings h e = cc
ends_unknown Read h e = cc
ends_unknown Memory h e = cc
ends_unknown (Refused refusal) h e = cc

-- more elements would have been read
pub ends_before : (cause : LineCause) (new all : Interpreted) (others : Items) → EndsInterpreting cause new all → EndsInterpreting cause new (interpreted_all others all)
ends_before NotACall new all others h = (h.0, more_by_all others all h.1)
ends_before NoSettings new all others h = h
ends_before Read new all others h = h
ends_before Memory new all others h = h
ends_before (Refused refusal) new all others h = h

-- the string is cut, too
pub ends_before_cut : (cause : LineCause) (new all : Interpreted) (is_cut : Bool) → EndsInterpreting cause new all → EndsInterpreting cause new (interpreted_cut is_cut all)
ends_before_cut NotACall new all is_cut h = (h.0, more_by_cut is_cut all h.1)
ends_before_cut NoSettings new all is_cut h = h
ends_before_cut Read new all is_cut h = h
ends_before_cut Memory new all is_cut h = h
ends_before_cut (Refused refusal) new all is_cut h = h
