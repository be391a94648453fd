-- Ends of spans, computed from the definitions.
use Rattle.std.proofs.Common.{◌≡◌, ℕ, List, [], ◌∷◌, Some, None, codes, refl}
use Rattle.ttree_chrome.specs.Gather.{GatheredState, gathered_one, nothing_gathered}
use Rattle.ttree_chrome.specs.declared.element.Element.{Element}
use Rattle.ttree_chrome.specs.declared.element.Element.TheVariants.{Begin, End, Async}
use Rattle.ttree_chrome.specs.declared.element.Entry.{Entry}
use Rattle.ttree_chrome.specs.declared.element.Ident.TheVariants.{Name}
use Rattle.ttree_chrome.specs.declared.element.Track.TheVariants.{Begin as TrackBegins, End as TrackEnds}

-- an entry of this thread at this time
abbrev at : List ℕ → ℕ → Entry
at thread time = record {
  owner = record { process = None; thread = Some (Name thread) };
  start = time;
  name = codes "work";
  fields = [];
}

abbrev after_first : Element → GatheredState
after_first element = gathered_one element nothing_gathered

pub an_end_without_a_start_has_no_row : (after_first (End (at (codes "t") 9))).undrawn ≡ 1
an_end_without_a_start_has_no_row = refl

pub an_end_with_its_start : (gathered_one (End (at (codes "t") 9)) (after_first (Begin (at (codes "t") 5)))).undrawn ≡ 0
an_end_with_its_start = refl

pub an_end_in_another_thread : (gathered_one (End (at (codes "u") 9)) (after_first (Begin (at (codes "t") 5)))).undrawn ≡ 1
an_end_in_another_thread = refl

pub an_end_of_another_track : (gathered_one (Async TrackEnds (at (codes "t") 9) (codes "net 2")) (after_first (Async TrackBegins (at (codes "t") 5) (codes "net 1")))).undrawn ≡ 1
an_end_of_another_track = refl
