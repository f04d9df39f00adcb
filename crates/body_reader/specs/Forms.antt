-- The forms of the code as those of the definitions.
use Rattle.std.specs.Prelude.{ℕ}
use Rattle.std.specs.Int.{w8, w32, w64, cast_signed}
use Rattle.body_reader.specs.declared.op.Op.{Op}
use Rattle.body_reader.specs.declared.forms.Form.{Form as CodeForm}
use Rattle.body_reader.specs.declared.forms.Form.TheVariants as forms
use Rattle.body_reader.specs.declared.forms.Variable.{Variable}
use Rattle.body_reader.specs.declared.forms.Variable.TheVariants as variables
use Rattle.body_reader.specs.declared.forms.Flags.{Flags}
use Rattle.body_reader.specs.declared.forms.Flags.TheVariants as flags
use Rattle.body_reader.specs.declared.forms.Jump.{Jump}
use Rattle.body_reader.specs.declared.forms.Jump.TheVariants as jumps
use Rattle.body_reader.specs.declared.forms.Token.{Token}
use Rattle.body_reader.specs.declared.forms.Token.TheVariants as tokens
use Rattle.body_reader.specs.Opcodes.{Form, bare, number, branch, switch}

abbrev pub variable_op : Variable → ℕ → Op
variable_op variables.LoadArgument = Op.LoadArgument
variable_op variables.LoadArgumentAddress = Op.LoadArgumentAddress
variable_op variables.StoreArgument = Op.StoreArgument
variable_op variables.LoadLocal = Op.LoadLocal
variable_op variables.LoadLocalAddress = Op.LoadLocalAddress
variable_op variables.StoreLocal = Op.StoreLocal

abbrev pub flags_op : Flags → ℕ → Op
flags_op flags.Unaligned = Op.Unaligned
flags_op flags.No = Op.No

abbrev pub jump_op : Jump → ℕ → Op
jump_op jumps.Branch = Op.Branch
jump_op jumps.BranchFalse = Op.BranchFalse
jump_op jumps.BranchTrue = Op.BranchTrue
jump_op (jumps.BranchCompare test) = Op.BranchCompare test
jump_op jumps.Leave = Op.Leave

abbrev pub token_op : Token → ℕ → Op
token_op tokens.Jump = Op.Jump
token_op tokens.Call = Op.Call
token_op tokens.CallIndirect = Op.CallIndirect
token_op tokens.CallVirtual = Op.CallVirtual
token_op tokens.CopyObject = Op.CopyObject
token_op tokens.LoadObject = Op.LoadObject
token_op tokens.LoadString = Op.LoadString
token_op tokens.NewObject = Op.NewObject
token_op tokens.CastClass = Op.CastClass
token_op tokens.IsInstance = Op.IsInstance
token_op tokens.Unbox = Op.Unbox
token_op tokens.LoadField = Op.LoadField
token_op tokens.LoadFieldAddress = Op.LoadFieldAddress
token_op tokens.StoreField = Op.StoreField
token_op tokens.LoadStaticField = Op.LoadStaticField
token_op tokens.LoadStaticFieldAddress = Op.LoadStaticFieldAddress
token_op tokens.StoreStaticField = Op.StoreStaticField
token_op tokens.StoreObject = Op.StoreObject
token_op tokens.Box = Op.Box
token_op tokens.NewArray = Op.NewArray
token_op tokens.LoadElementAddress = Op.LoadElementAddress
token_op tokens.LoadElementOfType = Op.LoadElementOfType
token_op tokens.StoreElementOfType = Op.StoreElementOfType
token_op tokens.UnboxAny = Op.UnboxAny
token_op tokens.TypedReferenceValue = Op.TypedReferenceValue
token_op tokens.MakeTypedReference = Op.MakeTypedReference
token_op tokens.LoadToken = Op.LoadToken
token_op tokens.LoadFunction = Op.LoadFunction
token_op tokens.LoadVirtualFunction = Op.LoadVirtualFunction
token_op tokens.InitializeObject = Op.InitializeObject
token_op tokens.Constrained = Op.Constrained
token_op tokens.SizeOf = Op.SizeOf

abbrev pub form_of : CodeForm → Form
form_of (forms.Bare op) = bare op
form_of (forms.ShortVariable v) = number 1 (variable_op v)
form_of (forms.Variable v) = number 2 (variable_op v)
form_of (forms.Flags f) = number 1 (flags_op f)
form_of forms.ShortInt32 = number 1 (λ n. Op.LoadInt32 (cast_signed w8 n))
form_of forms.Int32 = number 4 (λ n. Op.LoadInt32 (cast_signed w32 n))
form_of forms.Int64 = number 8 (λ n. Op.LoadInt64 (cast_signed w64 n))
form_of forms.Float32 = number 4 Op.LoadFloat32
form_of forms.Float64 = number 8 Op.LoadFloat64
form_of (forms.Token t) = number 4 (token_op t)
form_of (forms.ShortBranch j) = branch 1 (jump_op j)
form_of (forms.Branch j) = branch 4 (jump_op j)
form_of forms.Switch = switch
