-- What is noted of a trace: its unknown elements.
use Rattle.std.specs.Prelude.{◌≡◌, ◌+◌, ◌≤◌, ℕ, zero, suc, Bool, IsTrue, false, List, [], ◌∷◌, ◌++◌, length, take, Option, Some, None, option_and_then, Result, Ok, Err, if◌then◌else◌}
use Rattle.json.specs.Json.{Json, Items, no_items, item, document}
use Rattle.ttree_chrome.specs.Element.{element_of}
use Rattle.ttree_chrome.specs.Text.{elements_in, is_cut, mended}
use Rattle.ttree_chrome.specs.declared.element.Element.{Element}
use Rattle.ttree_source.specs.Counts.{one_more}
use Rattle.ttree_source.specs.Noted.{AddsNotes, Note}
use Rattle.ttree_source.specs.declared.notes.Problem.{Problem}
use Rattle.ttree_source.specs.declared.notes.Problem.TheVariants.{Object, Trace}

-- the note of an element, by its number
abbrev pub element_note : ℕ → Result Element Problem → List Note
element_note number (Ok element) = []
element_note number (Err problem) = (number, problem) ∷ []

-- the notes of elements, which are numbered from `number` on
abbrev pub element_notes : ℕ → Items → List Note
element_notes number no_items = []
element_notes number (item value others) =
    element_note number (element_of value) ++ element_notes (number + 1) others

abbrev pub item_count : Items → ℕ
item_count no_items = 0
item_count (item value others) = item_count others + 1

-- the note of the element in which a trace is cut, after `count` whole ones
abbrev pub cut_notes : Bool → ℕ → List Note
cut_notes is_cut count = if is_cut then (one_more count, Object) ∷ [] else []

-- the notes of a trace; a string that isn't a trace has one note
abbrev pub trace_notes : Bool → Option Items → List Note
trace_notes is_cut None = (1, Trace) ∷ []
trace_notes is_cut (Some elements) =
    element_notes 1 elements ++ cut_notes is_cut (item_count elements)

abbrev pub mended_notes : List ℕ → List Note
mended_notes text =
    trace_notes (is_cut text) (option_and_then elements_in (document (mended text)))

abbrev pub notes_as_it_is : Option Json → List ℕ → List Note
notes_as_it_is (Some value) text = trace_notes false (elements_in value)
notes_as_it_is None text = mended_notes text

-- the notes of a string as a trace
abbrev pub notes_in : List ℕ → List Note
notes_in text = notes_as_it_is (document text) text

-- a count after this many more
abbrev pub counted_more : ℕ → ℕ → ℕ
counted_more zero n = n
counted_more (suc k) n = counted_more k (one_more n)

-- The first of these notes were added: as many as were counted, or all of them.
pub record IsNoted (notes : List Note) (is_whole : Bool) (before after : ℕ)
    (old new : Option (List Note)) : Type 0 where
  pub count : ℕ
  pub within : count ≤ length notes
  pub counted : after ≡ counted_more count before
  pub added : AddsNotes (take count notes) old new
  pub whole : IsTrue is_whole → count ≡ length notes
