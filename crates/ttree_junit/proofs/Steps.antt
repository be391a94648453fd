-- A step of reading a document.
use Rattle.std.proofs.Common.{◌≡◌, ℕ, List, Option, Some, None, Result, Ok, Err, refl, ap, sym, ◌∙◌}
use Rattle.std.specs.Prelude.{true}
use Rattle.xml.specs.Reading.{Reading}
use Rattle.xml.specs.Token.{ReadStep, token_view}
use Rattle.xml.specs.Xml.{Reads}
use Rattle.xml.specs.declared.reader.Token.{Token}
use Rattle.xml.specs.declared.reader.Unfinished.{Unfinished}
use Rattle.ttree_junit.specs.Document.{ReadDocument, at_end, read_next, rest_taken}
use Rattle.ttree_junit.specs.Junit.{JunitState}
use Rattle.ttree_junit.specs.Reading.{taken}

-- a token was read
pub stepped : (found : Result (Option ReadStep) Unfinished) (old new : Reading) (rest : List ℕ) (token : Token) (s : JunitState) (others : Reading → JunitState → ReadDocument) →
    Reads found old (Ok (Some token)) new → read_next found rest s others ≡ others new (taken (token_view token) s)
stepped (Ok (Some step)) old new rest token s others (is, after) =
    ap (λ t. others step.after (taken t s)) (sym is) ∙ ap (λ r. others r (taken (token_view token) s)) (sym after)
stepped (Ok None) old new rest token s others h = absurd h
stepped (Err unfinished) old new rest token s others h = absurd h

-- the document ended
pub stopped : (found : Result (Option ReadStep) Unfinished) (old new : Reading) (rest : List ℕ) (s : JunitState) (others : Reading → JunitState → ReadDocument) →
    Reads found old (Ok None) new → read_next found rest s others ≡ at_end s
stopped (Ok (Some step)) old new rest s others h = absurd h
stopped (Ok None) old new rest s others h = refl
stopped (Err unfinished) old new rest s others h = absurd h

-- the document ended in something
pub broken : (found : Result (Option ReadStep) Unfinished) (old new : Reading) (rest : List ℕ) (e : Unfinished) (s : JunitState) (others : Reading → JunitState → ReadDocument) →
    Reads found old (Err e) new → read_next found rest s others ≡ record { state = rest_taken e rest s; is_cut = true }
broken (Ok (Some step)) old new rest e s others h = absurd h
broken (Ok None) old new rest e s others h = absurd h
broken (Err unfinished) old new rest e s others (is, after) = ap (λ u. record { state = rest_taken u rest s; is_cut = true }) (sym is)

-- a reader that found an error is where it was
pub unmoved : (found : Result (Option ReadStep) Unfinished) (old new : Reading) (e : Unfinished) → Reads found old (Err e) new → new ≡ old
unmoved (Ok (Some step)) old new e h = absurd h
unmoved (Ok None) old new e h = absurd h
unmoved (Err unfinished) old new e (is, after) = after
