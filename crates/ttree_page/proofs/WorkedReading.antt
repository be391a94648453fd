-- Lines that are read, computed.
use Rattle.std.specs.Prelude.{◌≡◌, ◌∷◌, [], pos, negsuc, codes, Some, None}
use Rattle.std.proofs.Common.{refl}
use Rattle.tracing_tree_base.specs.declared.style.Level.TheVariants.{Info}
use Rattle.ttree_page.specs.Steps.{About, New, Record, Event, Close, End}
use Rattle.ttree_page.specs.Parsing.{Number, Text, parts_in, read_line, read_lines}
use Rattle.ttree_page.proofs.WorkedLines.{at}

parts_of_about : parts_in (codes "[0,2,\"server.jsonl\"]\n") ≡ Some (Number (pos 0) ∷ Number (pos 2) ∷ Text (codes "server.jsonl") ∷ [])
parts_of_about = refl

-- strings are unescaped, and a number may be below zero
parts_of_any : parts_in (codes "[7,-12,\"a\\\"\\u003cb\\u000a\"]\n") ≡ Some (Number (pos 7) ∷ Number (negsuc 11) ∷ Text (codes "a\"<b\n") ∷ [])
parts_of_any = refl

about_server : read_line (codes "[0,2,\"server.jsonl\"]\n") ≡ Some (About (codes "server.jsonl"))
about_server = refl

new_server :
    read_line (codes "[1,12,345678901,1795832513,0,\"1:main\",1,0,\"server\",\"web\",\"port\",\"8080\"]\n")
    ≡ Some (New (at 345_678_901) 1 0 (codes "server") (codes "web") (record { name = codes "port"; value = codes "8080" } ∷ []))
new_server = refl

record_server : read_line (codes "[2,1,\"peers\",\"3\"]\n") ≡ Some (Record 1 (record { name = codes "peers"; value = codes "3" } ∷ []))
record_server = refl

event_starting :
    read_line (codes "[3,12,345690000,1795832513,0,\"1:main\",1,1,2,\"web\",\"message\",\"starting\"]\n")
    ≡ Some (Event (at 345_690_000) 1 1 Info (codes "web") (record { name = codes "message"; value = codes "starting" } ∷ []))
event_starting = refl

close_server : read_line (codes "[4,12,400000000,1795832513,0,\"1:main\",1]\n") ≡ Some (Close (at 400_000_000) 1)
close_server = refl

end_line : read_line (codes "[5]\n") ≡ Some End
end_line = refl

-- another version, another kind, a part too many, half a field, and half a line
other_version : read_line (codes "[0,1,\"a\"]\n") ≡ None
other_version = refl

other_kind : read_line (codes "[6]\n") ≡ None
other_kind = refl

another_part : read_line (codes "[5,1]\n") ≡ None
another_part = refl

half_a_field : read_line (codes "[2,1,\"peers\"]\n") ≡ None
half_a_field = refl

half_a_line : read_line (codes "[2,1,\"peers\"") ≡ None
half_a_line = refl

-- a file that is cut off
cut_off :
    read_lines (codes "[0,2,\"a\"]\n[2,1,\"peers\",\"3\"]\n[4,12,40") ≡
    (Some (About (codes "a")) ∷ Some (Record 1 (record { name = codes "peers"; value = codes "3" } ∷ [])) ∷ [], codes "[4,12,40")
cut_off = refl
