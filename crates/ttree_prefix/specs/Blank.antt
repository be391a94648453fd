-- The blank after a mark. Further blanks are the indentation of a line.
use Rattle.std.specs.Prelude.{ℕ, List, Option, Some, None, codes}
use Rattle.ttree_source.specs.Marks.{after_mark}
use Rattle.ttree_prefix.specs.declared.mark.Mark.{Mark}
use Rattle.ttree_prefix.specs.declared.mark.Mark.TheVariants.{Bar, Bracket, Job, Time, Tab, Colon, DateTime, Pod, Stamp}

abbrev pub after_blank : List ℕ → List ℕ
after_blank text = after (after_mark (codes " ") text) where
  after : Option (List ℕ) → List ℕ
  after None = text
  after (Some rest) = rest

-- what comes after a mark, without the blank that tools write after a bar and a bracket
abbrev pub without_blank : Mark → List ℕ → List ℕ
without_blank Bar text = after_blank text
without_blank Bracket text = after_blank text
without_blank Job text = text
without_blank Time text = text
without_blank Tab text = text
without_blank Colon text = text
without_blank DateTime text = text
without_blank Pod text = text
without_blank Stamp text = text
