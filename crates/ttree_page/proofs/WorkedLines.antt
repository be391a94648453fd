-- Lines, computed.
use Rattle.std.specs.Prelude.{◌≡◌, ◌∷◌, [], ℕ, ◌+◌, pos, codes}
use Rattle.std.specs.Fmt.{digits}
use Rattle.std.proofs.Common.{refl}
use Rattle.ttree_page.specs.declared.form.LineForm.TheVariants.{Arrays, Objects}
use Rattle.tracing_tree_base.specs.declared.style.Level.TheVariants.{Info}
use Rattle.ttree_page.specs.Steps.{Stamp, About, New, Record, Event, Close, End}
use Rattle.ttree_page.specs.Lines.{in_quotes, step_line}

-- twelve seconds and a part on the monotonic clock, with the wall clock ahead
abbrev pub at : ℕ → Stamp
at part = record {
  mono = 12_000_000_000 + part;
  ahead = pos 1_795_832_513_000_000_000;
  thread = codes "1:main";
}

-- ---- as arrays

about_server : step_line Arrays (About (codes "server.jsonl")) ≡ codes "[0,2,\"server.jsonl\"]\n"
about_server = refl

new_server :
    step_line Arrays (New (at 345_678_901) 1 0 (codes "server") (codes "web") (record { name = codes "port"; value = codes "8080" } ∷ []))
    ≡ codes "[1,12,345678901,1795832513,0,\"1:main\",1,0,\"server\",\"web\",\"port\",\"8080\"]\n"
unfolding digits
new_server = refl

record_server :
    step_line Arrays (Record 1 (record { name = codes "peers"; value = codes "3" } ∷ [])) ≡ codes "[2,1,\"peers\",\"3\"]\n"
unfolding digits
record_server = refl

event_starting :
    step_line Arrays (Event (at 345_690_000) 1 1 Info (codes "web") (record { name = codes "message"; value = codes "starting" } ∷ []))
    ≡ codes "[3,12,345690000,1795832513,0,\"1:main\",1,1,2,\"web\",\"message\",\"starting\"]\n"
unfolding digits
event_starting = refl

-- at the root, while span 1 is the current one
event_at_root : step_line Arrays (Event (at 345_690_000) 0 1 Info (codes "web") []) ≡ codes "[3,12,345690000,1795832513,0,\"1:main\",0,1,2,\"web\"]\n"
unfolding digits
event_at_root = refl

close_server : step_line Arrays (Close (at 400_000_000) 1) ≡ codes "[4,12,400000000,1795832513,0,\"1:main\",1]\n"
unfolding digits
close_server = refl

end_line : step_line Arrays End ≡ codes "[5]\n"
end_line = refl

-- quotes, backslashes, control characters and `<` are escaped
hostile : in_quotes (codes "</script>\"\\\n\u{1b}")
    ≡ codes "\"\\u003c/script>\\\"\\\\\\u000a\\u001b\""
hostile = refl

-- ---- as objects

about_object : step_line Objects (About (codes "server.jsonl")) ≡ codes "{\"step\":\"about\",\"version\":2,\"title\":\"server.jsonl\"}\n"
about_object = refl

new_object :
    step_line Objects (New (at 345_678_901) 1 0 (codes "server") (codes "web")
    (record { name = codes "port"; value = codes "8080" } ∷ record { name = codes "tls"; value = codes "no" } ∷ []))
    ≡ codes "{\"step\":\"new\",\"seconds\":12,\"nanos\":345678901,\"ahead_seconds\":1795832513,\"ahead_nanos\":0,\"thread\":\"1:main\",\"id\":1,\"parent\":0,\"name\":\"server\",\"target\":\"web\",\"fields\":{\"port\":\"8080\",\"tls\":\"no\"}}\n"
unfolding digits
new_object = refl

record_object : step_line Objects (Record 1 []) ≡ codes "{\"step\":\"record\",\"id\":1,\"fields\":{}}\n"
unfolding digits
record_object = refl

event_object :
    step_line Objects (Event (at 345_690_000) 1 1 Info (codes "web") (record { name = codes "message"; value = codes "starting" } ∷ []))
    ≡ codes "{\"step\":\"event\",\"seconds\":12,\"nanos\":345690000,\"ahead_seconds\":1795832513,\"ahead_nanos\":0,\"thread\":\"1:main\",\"parent\":1,\"current\":1,\"level\":\"info\",\"target\":\"web\",\"fields\":{\"message\":\"starting\"}}\n"
unfolding digits
event_object = refl

close_object :
    step_line Objects (Close (at 400_000_000) 1)
    ≡ codes "{\"step\":\"close\",\"seconds\":12,\"nanos\":400000000,\"ahead_seconds\":1795832513,\"ahead_nanos\":0,\"thread\":\"1:main\",\"id\":1}\n"
unfolding digits
close_object = refl

end_object : step_line Objects End ≡ codes "{\"step\":\"end\"}\n"
end_object = refl
