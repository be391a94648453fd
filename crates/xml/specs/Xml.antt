-- XML, token by token. A document that isn't well-formed has tokens too.
use Rattle.std.specs.Prelude.{◌≡◌, ◌==◌, ℕ, Bool, false, if◌then◌else◌, List, [], length, Option, Some, None, Result, Ok, Err, codes, is_some}
use Rattle.xml.specs.Cut.{after_blanks, after_mark, after_piece, piece, without_end}
use Rattle.xml.specs.Reading.{Reading}
use Rattle.xml.specs.Token.{XmlToken, ReadStep, start_tag, attribute, tag_end, empty_tag_end, end_tag, characters, cdata, skipped, token_view}
use Rattle.xml.specs.declared.cut.Until.{Until}
use Rattle.xml.specs.declared.cut.Until.TheVariants.{Markup, Greater, Name, AttributeName, DoubleQuote, SingleQuote, Doctype as DoctypeMark, Subset as SubsetMark}
use Rattle.xml.specs.declared.reader.Place.{Place}
use Rattle.xml.specs.declared.reader.Place.TheVariants.{Content, Tag, EndTag, Comment, Cdata, CdataGreater, Instruction, Doctype, Subset, SubsetComment}
use Rattle.xml.specs.declared.reader.Token.{Token}
use Rattle.xml.specs.declared.reader.Unfinished.{Unfinished}
use Rattle.xml.specs.declared.reader.Unfinished.TheVariants as In

abbrev pub at_start : List ℕ → Reading
at_start document = record { place = Content; rest = document }

abbrev pub step : XmlToken → Place → List ℕ → ReadStep
step token place rest = record { token = token; after = record { place = place; rest = rest } }

-- a step if a mark comes here, and otherwise what the document ends in
abbrev pub step_after : XmlToken → Place → Unfinished → Option (List ℕ) → Result ReadStep Unfinished
step_after token place unfinished (Some rest) = Ok (step token place rest)
step_after token place unfinished None = Err unfinished

-- ---- tags

abbrev pub start_tag_step : List ℕ → ReadStep
start_tag_step rest = step (start_tag (piece Name rest)) Tag (after_piece Name rest)

abbrev pub end_tag_step : List ℕ → ReadStep
end_tag_step rest = step (end_tag (piece Name rest)) EndTag (after_piece Name rest)

abbrev pub end_tag_end_step : List ℕ → Result ReadStep Unfinished
end_tag_end_step rest =
    step_after skipped Content In.Tag (after_mark (codes ">") (after_piece Greater rest))

-- a value ends at the next quote of its kind
abbrev pub quoted_step : List ℕ → List ℕ → Until → List ℕ → Result ReadStep Unfinished
quoted_step name rest until quote =
    step_after (attribute name (piece until rest)) Tag In.Tag
    (after_mark quote (after_piece until rest))

abbrev pub single_quoted_or_none : List ℕ → List ℕ → Option (List ℕ) → Result ReadStep Unfinished
single_quoted_or_none name rest (Some value) = quoted_step name value SingleQuote (codes "'")
single_quoted_or_none name rest None = Ok (step (attribute name []) Tag rest)

abbrev pub quoted_or_none : List ℕ → List ℕ → Option (List ℕ) → Result ReadStep Unfinished
quoted_or_none name rest (Some value) = quoted_step name value DoubleQuote (codes "\"")
quoted_or_none name rest None = single_quoted_or_none name rest (after_mark (codes "'") rest)

-- a value without quotes isn't read
abbrev pub value_step : List ℕ → List ℕ → Result ReadStep Unfinished
value_step name rest = quoted_or_none name rest (after_mark (codes "\"") rest)

abbrev pub value_or_none : List ℕ → List ℕ → Option (List ℕ) → Result ReadStep Unfinished
value_or_none name rest (Some value) = value_step name (after_blanks value)
value_or_none name rest None = Ok (step (attribute name []) Tag rest)

-- an attribute is a name, `=` and a value, with blanks between them
abbrev pub attribute_step : List ℕ → Result ReadStep Unfinished
attribute_step rest =
    value_or_none (piece AttributeName rest) (after_piece AttributeName rest)
    (after_mark (codes "=") (after_blanks (after_piece AttributeName rest)))

abbrev pub empty_end_or_attribute : List ℕ → Option (List ℕ) → Result ReadStep Unfinished
empty_end_or_attribute rest (Some after) = Ok (step empty_tag_end Content after)
empty_end_or_attribute rest None = attribute_step rest

abbrev pub end_or_attribute : List ℕ → Option (List ℕ) → Result ReadStep Unfinished
end_or_attribute rest (Some after) = Ok (step tag_end Content after)
end_or_attribute rest None = empty_end_or_attribute rest (after_mark (codes "/>") rest)

-- what comes in a tag, from its first byte on that isn't a blank
abbrev pub tag_step : List ℕ → Result ReadStep Unfinished
tag_step rest =
    if length rest == 0 then Err In.Tag else end_or_attribute rest (after_mark (codes ">") rest)

-- ---- what is skipped

-- a construct continues inside unless the part ended with its mark
abbrev pub part_step : Place → Place → Unfinished → Bool → Option (List ℕ) → Result ReadStep
    Unfinished
part_step inside outside unfinished ends after =
    step_after skipped (if ends then outside else inside) unfinished after

-- a comment ends with `-->`: each `>` ends a part of it
abbrev pub comment_step : Place → Place → List ℕ → Result ReadStep Unfinished
comment_step inside outside rest =
    part_step inside outside In.Comment (is_some (without_end (codes "--") (piece Greater rest)))
    (after_mark (codes ">") (after_piece Greater rest))

-- a processing instruction ends with `?>`
abbrev pub instruction_step : List ℕ → Result ReadStep Unfinished
instruction_step rest =
    part_step Instruction Content In.Instruction
    (is_some (without_end (codes "?") (piece Greater rest)))
    (after_mark (codes ">") (after_piece Greater rest))

abbrev pub literal_end_step : Place → List ℕ → Until → List ℕ → Result ReadStep Unfinished
literal_end_step place rest until quote =
    step_after skipped place In.Doctype (after_mark quote (after_piece until rest))

abbrev pub single_literal_or_none : Place → Option (List ℕ) → Result ReadStep Unfinished
single_literal_or_none place (Some rest) = literal_end_step place rest SingleQuote (codes "'")
single_literal_or_none place None = Err In.Doctype

abbrev pub literal_or_none : Place → List ℕ → Option (List ℕ) → Result ReadStep Unfinished
literal_or_none place text (Some rest) = literal_end_step place rest DoubleQuote (codes "\"")
literal_or_none place text None = single_literal_or_none place (after_mark (codes "'") text)

-- a literal between quotes in a document type declaration
abbrev pub literal_step : Place → List ℕ → Result ReadStep Unfinished
literal_step place rest = literal_or_none place rest (after_mark (codes "\"") rest)

abbrev pub subset_or_literal : List ℕ → Option (List ℕ) → Result ReadStep Unfinished
subset_or_literal mark (Some rest) = Ok (step skipped Subset rest)
subset_or_literal mark None = literal_step Doctype mark

abbrev pub doctype_end_or : List ℕ → Option (List ℕ) → Result ReadStep Unfinished
doctype_end_or mark (Some rest) = Ok (step skipped Content rest)
doctype_end_or mark None = subset_or_literal mark (after_mark (codes "[") mark)

-- a document type declaration ends with `>`, after its internal subset in brackets
abbrev pub doctype_step : List ℕ → Result ReadStep Unfinished
doctype_step rest =
    doctype_end_or (after_piece DoctypeMark rest) (after_mark (codes ">") (after_piece DoctypeMark
    rest))

abbrev pub markup_or_literal : List ℕ → Option (List ℕ) → Result ReadStep Unfinished
markup_or_literal mark (Some rest) = Ok (step skipped Subset rest)
markup_or_literal mark None = literal_step Subset mark

abbrev pub comment_or_markup : List ℕ → Option (List ℕ) → Result ReadStep Unfinished
comment_or_markup mark (Some rest) = Ok (step skipped SubsetComment rest)
comment_or_markup mark None = markup_or_literal mark (after_mark (codes "<") mark)

abbrev pub subset_end_or : List ℕ → Option (List ℕ) → Result ReadStep Unfinished
subset_end_or mark (Some rest) = Ok (step skipped Doctype rest)
subset_end_or mark None = comment_or_markup mark (after_mark (codes "<!--") mark)

-- the internal subset ends at a `]` outside of literals and comments
abbrev pub subset_step : List ℕ → Result ReadStep Unfinished
subset_step rest =
    subset_end_or (after_piece SubsetMark rest) (after_mark (codes "]") (after_piece SubsetMark
    rest))

-- ---- CDATA

abbrev pub cdata_part_step : List ℕ → List ℕ → List ℕ → Option (List ℕ) → ReadStep
cdata_part_step part mark rest (Some whole) = step (cdata whole) Content rest
cdata_part_step part mark rest None = step (cdata part) CdataGreater mark

abbrev pub cdata_if_ended : List ℕ → List ℕ → Option (List ℕ) → Result ReadStep Unfinished
cdata_if_ended part mark (Some rest) =
    Ok (cdata_part_step part mark rest (without_end (codes "]]") part))
cdata_if_ended part mark None = Err In.Cdata

-- a CDATA section ends with `]]>`: each `>` ends a part of it, and is a part if it doesn't end it
abbrev pub cdata_step : List ℕ → Result ReadStep Unfinished
cdata_step rest =
    cdata_if_ended (piece Greater rest) (after_piece Greater rest)
    (after_mark (codes ">") (after_piece Greater rest))

abbrev pub greater_step : List ℕ → Result ReadStep Unfinished
greater_step rest = step_after (cdata (codes ">")) Cdata In.Cdata (after_mark (codes ">") rest)

-- ---- content

abbrev pub cdata_or_doctype : List ℕ → Option (List ℕ) → ReadStep
cdata_or_doctype text (Some rest) = step skipped Cdata rest
cdata_or_doctype text None = step skipped Doctype text

abbrev pub comment_or_other : List ℕ → Option (List ℕ) → ReadStep
comment_or_other text (Some rest) = step skipped Comment rest
comment_or_other text None = cdata_or_doctype text (after_mark (codes "[CDATA[") text)

-- what comes after `<!`
abbrev pub declaration_step : List ℕ → ReadStep
declaration_step text = comment_or_other text (after_mark (codes "--") text)

abbrev pub declaration_or_tag : List ℕ → Option (List ℕ) → ReadStep
declaration_or_tag text (Some rest) = declaration_step rest
declaration_or_tag text None = start_tag_step text

abbrev pub instruction_or_other : List ℕ → Option (List ℕ) → ReadStep
instruction_or_other text (Some rest) = step skipped Instruction rest
instruction_or_other text None = declaration_or_tag text (after_mark (codes "!") text)

abbrev pub end_tag_or_other : List ℕ → Option (List ℕ) → ReadStep
end_tag_or_other text (Some rest) = end_tag_step rest
end_tag_or_other text None = instruction_or_other text (after_mark (codes "?") text)

-- what comes after `<`
abbrev pub markup_step : List ℕ → ReadStep
markup_step text = end_tag_or_other text (after_mark (codes "/") text)

abbrev pub text_step : List ℕ → ReadStep
text_step rest = step (characters (piece Markup rest)) Content (after_piece Markup rest)

abbrev pub markup_or_text : List ℕ → Option (List ℕ) → ReadStep
markup_or_text rest (Some markup) = markup_step markup
markup_or_text rest None = text_step rest

-- characters continue up to the next `<`
abbrev pub content_step : List ℕ → ReadStep
content_step rest = markup_or_text rest (after_mark (codes "<") rest)

-- ---- the document

abbrev pub step_in : Place → List ℕ → Result ReadStep Unfinished
step_in Content rest = Ok (content_step rest)
step_in Tag rest = tag_step (after_blanks rest)
step_in EndTag rest = end_tag_end_step rest
step_in Comment rest = comment_step Comment Content rest
step_in Cdata rest = cdata_step rest
step_in CdataGreater rest = greater_step rest
step_in Instruction rest = instruction_step rest
step_in Doctype rest = doctype_step rest
step_in Subset rest = subset_step rest
step_in SubsetComment rest = comment_step SubsetComment Subset rest

abbrev pub is_at_end_in : Place → List ℕ → Bool
is_at_end_in Content rest = length rest == 0
is_at_end_in _ rest = false

-- a document ends in content
abbrev pub is_at_end : Reading → Bool
is_at_end r = is_at_end_in r.place r.rest

abbrev pub some_step : Result ReadStep Unfinished → Result (Option ReadStep) Unfinished
some_step (Ok step) = Ok (Some step)
some_step (Err unfinished) = Err unfinished

-- the next token and what comes after it; `None` at the end
abbrev pub next_step : Reading → Result (Option ReadStep) Unfinished
next_step r = if is_at_end r then Ok None else some_step (step_in r.place r.rest)

-- ---- plain text

abbrev pub less_or_text : List ℕ → Option (List ℕ) → ReadStep
less_or_text rest (Some after) = step (characters (codes "<")) Content after
less_or_text rest None = text_step rest

-- in plain text a `<` begins no markup
abbrev pub plain_step : List ℕ → ReadStep
plain_step rest = less_or_text rest (after_mark (codes "<") rest)

abbrev pub plain_step_in : Place → List ℕ → Result ReadStep Unfinished
plain_step_in Content rest = Ok (plain_step rest)
plain_step_in place rest = step_in place rest

-- the next token, if content is plain text here
abbrev pub next_plain_step : Reading → Result (Option ReadStep) Unfinished
next_plain_step r = if is_at_end r then Ok None else some_step (plain_step_in r.place r.rest)

-- ---- what is read

-- a reader returned this, and is at what comes after it
abbrev pub Reads : Result (Option ReadStep) Unfinished → Reading → Result (Option Token) Unfinished
    → Reading → Type 0
Reads (Ok (Some step)) old (Ok (Some token)) new = (token_view token ≡ step.token) × (new ≡
    step.after)
Reads (Ok None) old (Ok None) new = new ≡ old
Reads (Err unfinished) old (Err error) new = (error ≡ unfinished) × (new ≡ old)
Reads (Ok (Some step)) old (Ok None) new = ⊥
Reads (Ok (Some step)) old (Err error) new = ⊥
Reads (Ok None) old (Ok (Some token)) new = ⊥
Reads (Ok None) old (Err error) new = ⊥
Reads (Err unfinished) old (Ok token) new = ⊥
