-- The rest of a document, and where its first byte is.
use Rattle.std.specs.Prelude.{ℕ, List}
use Rattle.xml.specs.declared.reader.Place.{Place}

pub record Reading : Type 0 where
  pub place : Place
  pub rest : List ℕ
