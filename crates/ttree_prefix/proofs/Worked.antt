-- Examples computed from the definitions. What std trims at the mark isn't computed here.
use Rattle.std.proofs.Common.{◌≡◌, ◌∷◌, None, Some, true, false, codes, refl}
use Rattle.json.specs.Json.{null}
use Rattle.ttree_prefix.specs.Blank.{without_blank}
use Rattle.ttree_prefix.specs.Color.{after_color}
use Rattle.ttree_prefix.specs.Mark.{are_names, at_mark, is_prefix, split, trimmed}
use Rattle.ttree_prefix.specs.Prefix.{prefix_parts}
use Rattle.ttree_prefix.specs.declared.mark.Mark.TheVariants.{Bar, Bracket, Job, Time, Tab, Colon, DateTime, Pod, Stamp}

pub a_service_of_docker_compose : at_mark Bar (codes "web-1|a|b") ≡ Some (codes "web-1", codes "a|b")
a_service_of_docker_compose = refl

pub a_pod_of_kubectl : trimmed Bracket (codes "[pod/web/a") ≡ codes "pod/web/a"
a_pod_of_kubectl = refl

pub a_step_with_blanks : at_mark Job (codes "a b\tc d\t1Z up") ≡ Some (codes "a b\tc d\t1Z", codes "up")
a_step_with_blanks = refl

pub a_step_without_a_time : split Job (codes "a\tb\tc d") ≡ None
a_step_without_a_time = refl

pub a_line_without_a_time : split Time (codes "Starting up") ≡ None
a_line_without_a_time = refl

pub a_line_without_a_bar : split Bar (codes "ready") ≡ None
a_line_without_a_bar = refl

pub a_name_before_a_tab : at_mark Tab (codes "a b\tc\td") ≡ Some (codes "a b", codes "c\td")
a_name_before_a_tab = refl

pub a_service_of_syslog : at_mark Colon (codes "01:23 s[1]: a: b") ≡ Some (codes "01:23 s[1]", codes "a: b")
a_service_of_syslog = refl

pub a_panic_has_no_name : split Colon (codes "panic: x") ≡ None
a_panic_has_no_name = refl

pub an_indented_line_has_no_name : split Colon (codes " at: x") ≡ None
an_indented_line_has_no_name = refl

pub a_date_and_a_time : at_mark DateTime (codes "2026/12/01 01:23:11 a b")
    ≡ Some (codes "2026/12/01 01:23:11", codes "a b")
a_date_and_a_time = refl

pub a_pod_and_a_container : is_prefix Pod (codes "web-0 app a") (codes "web-0 app") ≡ true
a_pod_and_a_container = refl

pub a_sentence_names_no_pod : are_names (codes "Listening on") ≡ false
a_sentence_names_no_pod = refl

pub a_time_of_ts : at_mark Stamp (codes "Dec 01 04:18:04 a b") ≡ Some (codes "Dec 01 04:18:04", codes "a b")
a_time_of_ts = refl

pub a_time_of_ts_is_a_prefix : is_prefix Stamp (codes "Dec 01 04:18:04 a b") (codes "Dec 01 04:18:04") ≡ true
a_time_of_ts_is_a_prefix = refl

pub a_sentence_is_no_time : is_prefix Stamp (codes "The quick brown fox") (codes "The quick brown") ≡ false
a_sentence_is_no_time = refl

pub an_indentation_after_a_bar : without_blank Bar (codes "   at x") ≡ codes "  at x"
an_indentation_after_a_bar = refl

pub a_colour_of_docker_compose : after_color (27 ∷ codes "[33;1mweb") ≡ Some (codes "web")
a_colour_of_docker_compose = refl

pub a_sequence_without_a_colour : after_color (27 ∷ codes "[2Kam") ≡ None
a_sequence_without_a_colour = refl

pub a_line_that_is_json_has_no_prefix : prefix_parts (Some Bar) (codes "null") (Some null) ≡ None
a_line_that_is_json_has_no_prefix = refl
