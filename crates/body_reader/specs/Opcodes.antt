-- How each instruction is spelled: the opcodes of ECMA-335 III, of one byte and of two, each with the
-- instruction and its operand. Several opcodes may spell one instruction, as ldarg.0, ldarg.s and
-- ldarg do.
use Rattle.std.specs.Prelude.{ℕ, ◌==◌, pos, negsuc, List, [], ◌∷◌, Option, Some, None, if◌then◌else◌}
use Rattle.std.specs.Int.{w8, w32, w64, cast_signed}
use Rattle.cil_arith.specs.declared.operations.BinOp.TheVariants as binary
use Rattle.cil_arith.specs.declared.operations.UnOp.TheVariants as unary
use Rattle.cil_arith.specs.declared.operations.CmpOp.TheVariants as cmp
use Rattle.cil_arith.specs.declared.operations.ConvOp.TheVariants as conv
use Rattle.body_reader.specs.declared.op.DataType.TheVariants as types
use Rattle.body_reader.specs.declared.op.Op.{Op}
use Rattle.body_reader.specs.declared.op.Op.TheVariants.{Nop, Break, LoadArgument, LoadLocal, StoreLocal, LoadArgumentAddress, StoreArgument, LoadLocalAddress, LoadNull, LoadInt32, LoadInt64, LoadFloat32, LoadFloat64, Duplicate, Pop, Jump, Call, CallIndirect, Return, Branch, BranchFalse, BranchTrue, BranchCompare, LoadIndirect, StoreIndirect, Binary, Unary, Convert, ConvertToFloat32, ConvertToFloat64, CallVirtual, CopyObject, LoadObject, LoadString, NewObject, CastClass, IsInstance, ConvertUnsignedToFloat, Unbox, Throw, LoadField, LoadFieldAddress, StoreField, LoadStaticField, LoadStaticFieldAddress, StoreStaticField, StoreObject, Box, NewArray, LoadLength, LoadElementAddress, LoadElement, StoreElement, LoadElementOfType, StoreElementOfType, UnboxAny, TypedReferenceValue, CheckFinite, MakeTypedReference, LoadToken, EndFinally, Leave, ArgumentList, Compare, LoadFunction, LoadVirtualFunction, AllocateLocal, EndFilter, Unaligned, Volatile, TailCall, InitializeObject, Constrained, CopyBlock, InitializeBlock, No, Rethrow, SizeOf, TypedReferenceType, ReadOnly}

-- what stands after an opcode: nothing; a number of so many bytes; a branch's distance of so many
-- bytes, from which its target follows; the targets of a switch
pub data Form : Type 0 where
  bare : Op → Form
  number : ℕ → (ℕ → Op) → Form
  branch : ℕ → (ℕ → Op) → Form
  switch : Form

-- the opcodes of one byte (III.1.2, III.3, III.4)
unfoldable pub one_byte : List (ℕ × Form)
one_byte =
    (0x00, bare Nop) ∷ (0x01, bare Break) ∷ (0x02, bare (LoadArgument 0)) ∷
    (0x03, bare (LoadArgument 1)) ∷ (0x04, bare (LoadArgument 2)) ∷ (0x05, bare (LoadArgument 3)) ∷
    (0x06, bare (LoadLocal 0)) ∷ (0x07, bare (LoadLocal 1)) ∷ (0x08, bare (LoadLocal 2)) ∷
    (0x09, bare (LoadLocal 3)) ∷ (0x0A, bare (StoreLocal 0)) ∷ (0x0B, bare (StoreLocal 1)) ∷
    (0x0C, bare (StoreLocal 2)) ∷ (0x0D, bare (StoreLocal 3)) ∷ (0x0E, number 1 LoadArgument) ∷
    (0x0F, number 1 LoadArgumentAddress) ∷ (0x10, number 1 StoreArgument) ∷
    (0x11, number 1 LoadLocal) ∷ (0x12, number 1 LoadLocalAddress) ∷ (0x13, number 1 StoreLocal) ∷
    (0x14, bare LoadNull) ∷ (0x15, bare (LoadInt32 (negsuc 0))) ∷ (0x16, bare (LoadInt32 (pos 0))) ∷
    (0x17, bare (LoadInt32 (pos 1))) ∷ (0x18, bare (LoadInt32 (pos 2))) ∷
    (0x19, bare (LoadInt32 (pos 3))) ∷ (0x1A, bare (LoadInt32 (pos 4))) ∷
    (0x1B, bare (LoadInt32 (pos 5))) ∷ (0x1C, bare (LoadInt32 (pos 6))) ∷
    (0x1D, bare (LoadInt32 (pos 7))) ∷ (0x1E, bare (LoadInt32 (pos 8))) ∷
    (0x1F, number 1 (λ n. LoadInt32 (cast_signed w8 n))) ∷
    (0x20, number 4 (λ n. LoadInt32 (cast_signed w32 n))) ∷
    (0x21, number 8 (λ n. LoadInt64 (cast_signed w64 n))) ∷ (0x22, number 4 LoadFloat32) ∷
    (0x23, number 8 LoadFloat64) ∷ (0x25, bare Duplicate) ∷ (0x26, bare Pop) ∷
    (0x27, number 4 Jump) ∷ (0x28, number 4 Call) ∷ (0x29, number 4 CallIndirect) ∷
    (0x2A, bare Return) ∷ (0x2B, branch 1 Branch) ∷ (0x2C, branch 1 BranchFalse) ∷
    (0x2D, branch 1 BranchTrue) ∷ (0x2E, branch 1 (BranchCompare cmp.Eq)) ∷
    (0x2F, branch 1 (BranchCompare cmp.Ge)) ∷ (0x30, branch 1 (BranchCompare cmp.Gt)) ∷
    (0x31, branch 1 (BranchCompare cmp.Le)) ∷ (0x32, branch 1 (BranchCompare cmp.Lt)) ∷
    (0x33, branch 1 (BranchCompare cmp.Ne)) ∷ (0x34, branch 1 (BranchCompare cmp.GeUn)) ∷
    (0x35, branch 1 (BranchCompare cmp.GtUn)) ∷ (0x36, branch 1 (BranchCompare cmp.LeUn)) ∷
    (0x37, branch 1 (BranchCompare cmp.LtUn)) ∷ (0x38, branch 4 Branch) ∷
    (0x39, branch 4 BranchFalse) ∷ (0x3A, branch 4 BranchTrue) ∷
    (0x3B, branch 4 (BranchCompare cmp.Eq)) ∷ (0x3C, branch 4 (BranchCompare cmp.Ge)) ∷
    (0x3D, branch 4 (BranchCompare cmp.Gt)) ∷ (0x3E, branch 4 (BranchCompare cmp.Le)) ∷
    (0x3F, branch 4 (BranchCompare cmp.Lt)) ∷ (0x40, branch 4 (BranchCompare cmp.Ne)) ∷
    (0x41, branch 4 (BranchCompare cmp.GeUn)) ∷ (0x42, branch 4 (BranchCompare cmp.GtUn)) ∷
    (0x43, branch 4 (BranchCompare cmp.LeUn)) ∷ (0x44, branch 4 (BranchCompare cmp.LtUn)) ∷
    (0x45, switch) ∷ (0x46, bare (LoadIndirect types.I1)) ∷ (0x47, bare (LoadIndirect types.U1)) ∷
    (0x48, bare (LoadIndirect types.I2)) ∷ (0x49, bare (LoadIndirect types.U2)) ∷
    (0x4A, bare (LoadIndirect types.I4)) ∷ (0x4B, bare (LoadIndirect types.U4)) ∷
    (0x4C, bare (LoadIndirect types.I8)) ∷ (0x4D, bare (LoadIndirect types.I)) ∷
    (0x4E, bare (LoadIndirect types.R4)) ∷ (0x4F, bare (LoadIndirect types.R8)) ∷
    (0x50, bare (LoadIndirect types.Ref)) ∷ (0x51, bare (StoreIndirect types.Ref)) ∷
    (0x52, bare (StoreIndirect types.I1)) ∷ (0x53, bare (StoreIndirect types.I2)) ∷
    (0x54, bare (StoreIndirect types.I4)) ∷ (0x55, bare (StoreIndirect types.I8)) ∷
    (0x56, bare (StoreIndirect types.R4)) ∷ (0x57, bare (StoreIndirect types.R8)) ∷
    (0x58, bare (Binary binary.Add)) ∷ (0x59, bare (Binary binary.Sub)) ∷
    (0x5A, bare (Binary binary.Mul)) ∷ (0x5B, bare (Binary binary.Div)) ∷
    (0x5C, bare (Binary binary.DivUn)) ∷ (0x5D, bare (Binary binary.Rem)) ∷
    (0x5E, bare (Binary binary.RemUn)) ∷ (0x5F, bare (Binary binary.And)) ∷
    (0x60, bare (Binary binary.Or)) ∷ (0x61, bare (Binary binary.Xor)) ∷
    (0x62, bare (Binary binary.Shl)) ∷ (0x63, bare (Binary binary.Shr)) ∷
    (0x64, bare (Binary binary.ShrUn)) ∷ (0x65, bare (Unary unary.Neg)) ∷
    (0x66, bare (Unary unary.Not)) ∷ (0x67, bare (Convert conv.I1)) ∷
    (0x68, bare (Convert conv.I2)) ∷ (0x69, bare (Convert conv.I4)) ∷
    (0x6A, bare (Convert conv.I8)) ∷ (0x6B, bare ConvertToFloat32) ∷ (0x6C, bare ConvertToFloat64) ∷
    (0x6D, bare (Convert conv.U4)) ∷ (0x6E, bare (Convert conv.U8)) ∷ (0x6F, number 4 CallVirtual) ∷
    (0x70, number 4 CopyObject) ∷ (0x71, number 4 LoadObject) ∷ (0x72, number 4 LoadString) ∷
    (0x73, number 4 NewObject) ∷ (0x74, number 4 CastClass) ∷ (0x75, number 4 IsInstance) ∷
    (0x76, bare ConvertUnsignedToFloat) ∷ (0x79, number 4 Unbox) ∷ (0x7A, bare Throw) ∷
    (0x7B, number 4 LoadField) ∷ (0x7C, number 4 LoadFieldAddress) ∷ (0x7D, number 4 StoreField) ∷
    (0x7E, number 4 LoadStaticField) ∷ (0x7F, number 4 LoadStaticFieldAddress) ∷
    (0x80, number 4 StoreStaticField) ∷ (0x81, number 4 StoreObject) ∷
    (0x82, bare (Convert conv.OvfI1Un)) ∷ (0x83, bare (Convert conv.OvfI2Un)) ∷
    (0x84, bare (Convert conv.OvfI4Un)) ∷ (0x85, bare (Convert conv.OvfI8Un)) ∷
    (0x86, bare (Convert conv.OvfU1Un)) ∷ (0x87, bare (Convert conv.OvfU2Un)) ∷
    (0x88, bare (Convert conv.OvfU4Un)) ∷ (0x89, bare (Convert conv.OvfU8Un)) ∷
    (0x8A, bare (Convert conv.OvfIUn)) ∷ (0x8B, bare (Convert conv.OvfUUn)) ∷ (0x8C, number 4 Box) ∷
    (0x8D, number 4 NewArray) ∷ (0x8E, bare LoadLength) ∷ (0x8F, number 4 LoadElementAddress) ∷
    (0x90, bare (LoadElement types.I1)) ∷ (0x91, bare (LoadElement types.U1)) ∷
    (0x92, bare (LoadElement types.I2)) ∷ (0x93, bare (LoadElement types.U2)) ∷
    (0x94, bare (LoadElement types.I4)) ∷ (0x95, bare (LoadElement types.U4)) ∷
    (0x96, bare (LoadElement types.I8)) ∷ (0x97, bare (LoadElement types.I)) ∷
    (0x98, bare (LoadElement types.R4)) ∷ (0x99, bare (LoadElement types.R8)) ∷
    (0x9A, bare (LoadElement types.Ref)) ∷ (0x9B, bare (StoreElement types.I)) ∷
    (0x9C, bare (StoreElement types.I1)) ∷ (0x9D, bare (StoreElement types.I2)) ∷
    (0x9E, bare (StoreElement types.I4)) ∷ (0x9F, bare (StoreElement types.I8)) ∷
    (0xA0, bare (StoreElement types.R4)) ∷ (0xA1, bare (StoreElement types.R8)) ∷
    (0xA2, bare (StoreElement types.Ref)) ∷ (0xA3, number 4 LoadElementOfType) ∷
    (0xA4, number 4 StoreElementOfType) ∷ (0xA5, number 4 UnboxAny) ∷
    (0xB3, bare (Convert conv.OvfI1)) ∷ (0xB4, bare (Convert conv.OvfU1)) ∷
    (0xB5, bare (Convert conv.OvfI2)) ∷ (0xB6, bare (Convert conv.OvfU2)) ∷
    (0xB7, bare (Convert conv.OvfI4)) ∷ (0xB8, bare (Convert conv.OvfU4)) ∷
    (0xB9, bare (Convert conv.OvfI8)) ∷ (0xBA, bare (Convert conv.OvfU8)) ∷
    (0xC2, number 4 TypedReferenceValue) ∷ (0xC3, bare CheckFinite) ∷
    (0xC6, number 4 MakeTypedReference) ∷ (0xD0, number 4 LoadToken) ∷
    (0xD1, bare (Convert conv.U2)) ∷ (0xD2, bare (Convert conv.U1)) ∷
    (0xD3, bare (Convert conv.I)) ∷ (0xD4, bare (Convert conv.OvfI)) ∷
    (0xD5, bare (Convert conv.OvfU)) ∷ (0xD6, bare (Binary binary.AddOvf)) ∷
    (0xD7, bare (Binary binary.AddOvfUn)) ∷ (0xD8, bare (Binary binary.MulOvf)) ∷
    (0xD9, bare (Binary binary.MulOvfUn)) ∷ (0xDA, bare (Binary binary.SubOvf)) ∷
    (0xDB, bare (Binary binary.SubOvfUn)) ∷ (0xDC, bare EndFinally) ∷ (0xDD, branch 4 Leave) ∷
    (0xDE, branch 1 Leave) ∷ (0xDF, bare (StoreIndirect types.I)) ∷ (0xE0, bare (Convert conv.U)) ∷ []

-- the first byte of the others
abbrev pub prefix : ℕ
prefix = 0xFE

-- the second bytes of the opcodes of two
unfoldable pub two_bytes : List (ℕ × Form)
two_bytes =
    (0x00, bare ArgumentList) ∷ (0x01, bare (Compare cmp.Eq)) ∷ (0x02, bare (Compare cmp.Gt)) ∷
    (0x03, bare (Compare cmp.GtUn)) ∷ (0x04, bare (Compare cmp.Lt)) ∷
    (0x05, bare (Compare cmp.LtUn)) ∷ (0x06, number 4 LoadFunction) ∷
    (0x07, number 4 LoadVirtualFunction) ∷ (0x09, number 2 LoadArgument) ∷
    (0x0A, number 2 LoadArgumentAddress) ∷ (0x0B, number 2 StoreArgument) ∷
    (0x0C, number 2 LoadLocal) ∷ (0x0D, number 2 LoadLocalAddress) ∷ (0x0E, number 2 StoreLocal) ∷
    (0x0F, bare AllocateLocal) ∷ (0x11, bare EndFilter) ∷ (0x12, number 1 Unaligned) ∷
    (0x13, bare Volatile) ∷ (0x14, bare TailCall) ∷ (0x15, number 4 InitializeObject) ∷
    (0x16, number 4 Constrained) ∷ (0x17, bare CopyBlock) ∷ (0x18, bare InitializeBlock) ∷
    (0x19, number 1 No) ∷ (0x1A, bare Rethrow) ∷ (0x1C, number 4 SizeOf) ∷
    (0x1D, bare TypedReferenceType) ∷ (0x1E, bare ReadOnly) ∷ []

-- the form of an opcode among some
unfoldable pub form_among : List (ℕ × Form) → ℕ → Option Form
form_among [] byte = None
form_among (row ∷ rows) byte = if row.0 == byte then Some row.1 else form_among rows byte
