-- What is kept beside a module: what its rows name, what its types are, and the signatures that rows
-- name.
use Rattle.std.specs.Prelude.{◌≡◌, Bool, List, Option, map}
use Rattle.managed_value.specs.declared.names.TypeId.{TypeId}
use Rattle.sig_reader.specs.declared.signature.TypeSig.{TypeSig}
use Rattle.sig_reader.specs.declared.signature.Sig.{Sig}
use Rattle.type_model.specs.Module.{Module, rows}
use Rattle.type_model.specs.Rows.{type_specs, fields, method_defs}
use Rattle.type_model.specs.Core as core
use Rattle.type_model.specs.TypeIds.{spec_sig_in}
use Rattle.type_model.specs.Names.{ref_names, spec_names}
use Rattle.type_model.specs.Types.{field_sig_in}
use Rattle.type_model.specs.BaseTable.{TellsBelow}
use Rattle.type_model.specs.Members.{sig_in}

-- each row of TypeSpec has the type in its blob, and each of TypeRef and TypeSpec what it names
pub record HoldsNames
    (m : Module)
    (of_specs : List (Option TypeSig))
    (refs specs : List (Option TypeId)) : Type 0 where
  pub sigs : of_specs ≡ map (spec_sig_in m) (rows m type_specs)
  pub refs_named : refs ≡ ref_names m
  pub specs_named : specs ≡ spec_names m

-- which types are below ValueType, Enum, Delegate and SafeHandle
pub record HoldsKinds (m : Module) (values enums delegates handles : List Bool) : Type 0 where
  pub value : TellsBelow m core.value_type_place values
  pub enum : TellsBelow m core.enum_place enums
  pub delegate : TellsBelow m core.delegate_place delegates
  pub handle : TellsBelow m core.safe_handle_place handles

-- each row of Field and MethodDef has the signature of its blob
pub record HoldsSignatures
    (m : Module)
    (of_fields : List (Option TypeSig))
    (of_methods : List (Option Sig)) : Type 0 where
  pub fields_read : of_fields ≡ map (field_sig_in m) (rows m fields)
  pub methods_read : of_methods ≡ map (sig_in m) (rows m method_defs)
