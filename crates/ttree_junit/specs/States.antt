-- What is known of a document while it is read.
use Rattle.std.specs.Prelude.{ℕ, Bool, List, [], ◌∷◌, ◌++◌, Option}
use Rattle.xml.specs.Decoded.{attribute_decoded}
use Rattle.tracing_tree_base.specs.declared.field.Field.{Field}
use Rattle.ttree_junit.specs.declared.lines.Row.{Row}

-- a case: its attributes, what its elements say, whether the document ends in it, its properties,
-- and its rows
pub record CaseState : Type 0 where
  pub name : List ℕ
  pub classname : List ℕ
  pub nanoseconds : Option ℕ
  pub is_off : Bool
  pub is_failed : Bool
  pub is_skipped : Bool
  pub is_cut : Bool
  pub reason : List ℕ
  pub fields : List Field
  pub rows : List Row

-- the start tag that is read
pub record TagState : Type 0 where
  pub name : List ℕ
  pub attributes : List Field

-- a part of a case or of a suite: the name of its element, its message and its contents
pub record PartState : Type 0 where
  pub name : List ℕ
  pub message : List ℕ
  pub body : List ℕ

abbrev pub with_attribute : List ℕ → List ℕ → TagState → TagState
with_attribute name value tag = record tag {
  attributes = tag.attributes ++ (record { name = name; value = attribute_decoded value }) ∷ [];
}
