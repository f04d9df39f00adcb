-- What is kept beside the tables of a module: which rows are the first that name each thing.
use Rattle.std.specs.Prelude.{ℕ, List, [], slice_get, unwrap_or}
use Rattle.type_model.specs.Rows
use Rattle.type_model.specs.FirstRows.{TellsFirst, TellsNotAbove}
use Rattle.type_model.specs.declared.first_rows.FirstRows.{FirstRows}

-- the rows of a table, by its number
abbrev pub table_rows : List (List (List ℕ)) → ℕ → List (List ℕ)
table_rows tables table = unwrap_or (slice_get tables table) []

pub record HoldsFirstRows (tables : List (List (List ℕ))) (firsts : FirstRows) : Type 0 where
  pub marshals : TellsFirst (table_rows tables Rows.field_marshals) 0 firsts.field_marshals
  pub layouts : TellsFirst (table_rows tables Rows.class_layouts) 2 firsts.class_layouts
  pub offsets : TellsFirst (table_rows tables Rows.field_layouts) 1 firsts.field_layouts
  pub imports : TellsFirst (table_rows tables Rows.impl_maps) 1 firsts.impl_maps
  pub places : TellsFirst (table_rows tables Rows.field_rvas) 1 firsts.field_rvas
  pub nested : TellsFirst (table_rows tables Rows.nested_classes) 0 firsts.nested_classes

-- how many types have runs of fields, and of methods, that begin at a row or before
pub record HoldsOwners (tables : List (List (List ℕ))) (of_fields of_methods : List ℕ) : Type 0 where
  pub fields_owned : TellsNotAbove (table_rows tables Rows.type_defs) 4 of_fields
  pub methods_owned : TellsNotAbove (table_rows tables Rows.type_defs) 5 of_methods
