-- The tokens of a document.
use Rattle.std.specs.Prelude.{ℕ, List}
use Rattle.xml.specs.Reading.{Reading}
use Rattle.xml.specs.declared.reader.Token.{Token}
use Rattle.xml.specs.declared.reader.Token.TheVariants.{StartTag, Attribute, TagEnd, EmptyTagEnd, EndTag, Text, Cdata, Skipped}

-- A token with its strings unchanged. A start tag is its name, its attributes and its end.
pub data XmlToken : Type 0 where
  start_tag : List ℕ → XmlToken
  attribute : List ℕ → List ℕ → XmlToken
  tag_end : XmlToken
  empty_tag_end : XmlToken
  end_tag : List ℕ → XmlToken
  characters : List ℕ → XmlToken
  cdata : List ℕ → XmlToken
  skipped : XmlToken

abbrev pub token_view : Token → XmlToken
token_view (StartTag name) = start_tag name.now
token_view (Attribute name value) = attribute name.now value.now
token_view TagEnd = tag_end
token_view EmptyTagEnd = empty_tag_end
token_view (EndTag name) = end_tag name.now
token_view (Text run) = characters run.now
token_view (Cdata run) = cdata run.now
token_view Skipped = skipped

-- a token, and what comes after it
pub record ReadStep : Type 0 where
  pub token : XmlToken
  pub after : Reading
