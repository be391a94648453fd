-- Examples computed from the definitions.
use Rattle.std.proofs.Common.{◌≡◌, None, Some, Ok, Err, [], codes, refl}
use Rattle.std.specs.Char.{encode_utf8}
use Rattle.xml.specs.Decoded.{attribute_decoded, cdata_decoded, text_decoded}
use Rattle.xml.specs.Token.{attribute, cdata, characters, empty_tag_end, end_tag, skipped, start_tag, tag_end}
use Rattle.xml.specs.Xml.{at_start, next_step, step, step_in}
use Rattle.xml.specs.declared.reader.Place.TheVariants.{Content, Tag, EndTag, Comment, Cdata, CdataGreater, Doctype, Subset}
use Rattle.xml.specs.declared.reader.Unfinished.TheVariants as In

pub a_start_tag : next_step (at_start (codes "<a b='c'>")) ≡ Ok (Some (step (start_tag (codes "a")) Tag (codes " b='c'>")))
a_start_tag = refl

pub an_attribute : step_in Tag (codes " b = 'c>'/>d") ≡ Ok (step (attribute (codes "b") (codes "c>")) Tag (codes "/>d"))
an_attribute = refl

pub an_attribute_without_quotes : step_in Tag (codes "b=c>") ≡ Ok (step (attribute (codes "b") []) Tag (codes "c>"))
an_attribute_without_quotes = refl

pub an_empty_element : step_in Tag (codes "/>d") ≡ Ok (step empty_tag_end Content (codes "d"))
an_empty_element = refl

pub text_up_to_markup : next_step (at_start (codes "a > b</c >")) ≡ Ok (Some (step (characters (codes "a > b")) Content (codes "</c >")))
text_up_to_markup = refl

pub an_end_tag : next_step (at_start (codes "</c >")) ≡ Ok (Some (step (end_tag (codes "c")) EndTag (codes " >")))
an_end_tag = refl

pub a_comment : step_in Comment (codes " a > b -->c") ≡ Ok (step skipped Comment (codes " b -->c"))
a_comment = refl

pub a_comment_ends : step_in Comment (codes " b -->c") ≡ Ok (step skipped Content (codes "c"))
a_comment_ends = refl

pub a_section : step_in Cdata (codes "a < b]]>c") ≡ Ok (step (cdata (codes "a < b")) Content (codes "c"))
a_section = refl

pub a_part_of_a_section : step_in Cdata (codes "a]>b]]>") ≡ Ok (step (cdata (codes "a]")) CdataGreater (codes ">b]]>"))
a_part_of_a_section = refl

pub a_declaration : step_in Doctype (codes " a SYSTEM 'b>' [c]>d") ≡ Ok (step skipped Doctype (codes " [c]>d"))
a_declaration = refl

pub an_entity_is_skipped : step_in Subset (codes " '&a;&a;'> ]>") ≡ Ok (step skipped Subset (codes "> ]>"))
an_entity_is_skipped = refl

pub a_document_ends : next_step (at_start []) ≡ Ok None
a_document_ends = refl

pub a_document_ends_in_a_tag : step_in Tag (codes " b='c") ≡ Err In.Tag
a_document_ends_in_a_tag = refl

pub references : text_decoded (codes "a &lt; &#65;&#x42; &nope; &&amp") ≡ codes "a < AB &nope; &&amp"
unfolding encode_utf8
references = refl

pub no_character : text_decoded (codes "&#xD800;&#;") ≡ codes "&#xD800;&#;"
no_character = refl

pub line_ends : text_decoded (codes "a\r\nb\rc\n") ≡ codes "a\nb\nc\n"
line_ends = refl

pub line_ends_in_an_attribute : attribute_decoded (codes "a\r\nb\tc&#10;d") ≡ codes "a b c\nd"
unfolding encode_utf8
line_ends_in_an_attribute = refl

pub no_reference_in_a_section : cdata_decoded (codes "a &lt; b") ≡ codes "a &lt; b"
no_reference_in_a_section = refl
