-- Memory before libraries are bound.
use Rattle.std.proofs.Common.{◌≡◌, refl, sym, ap, ◌∙◌, subst, ℕ, ◌+◌, ◌*◌, ◌/◌, ◌^◌, ◌<◌, ◌≤◌, [], ◌∷◌, Option, Some, arith}
use Rattle.std.specs.Prelude.{IsSome, max}
use Rattle.std.proofs.lemmas.Bool.{le-leb}
use Rattle.bound_base.specs.declared.limits.Limits.{Limits}
use Rattle.bound_base.specs.Limits.{standard}
use Rattle.native_memory.specs.declared.kind.Kind.TheVariants.{Stack, Errno}
use Rattle.native_memory.specs.AddressSpace.{AddressSpace, data_rights, empty, live_bytes}
use Rattle.native_memory.specs.Placement.{placed}
use Rattle.host_run.specs.Native.{data_block, space_with_stack, start_space}

-- with the number of the last error alone
errno_space : AddressSpace
errno_space = record { limit = standard.native; next = 0x10020; edge = 0x10004; blocks = data_block 0x10000 4 Errno ∷ [] }

place-errno : placed (empty standard.native) 4 data_rights Errno ≡ Some errno_space
unfolding placed live_bytes errno_space
place-errno = refl

place-stack : (n : ℕ) → 0 < n → n ≤ 2 ^ 27 → placed errno_space n data_rights Stack ≡ Some (space_with_stack n)
unfolding placed live_bytes errno_space space_with_stack
place-stack n some small =
    let bytes : 4 + n ≤ 268435456 = omega arith in
    let place : 65568 + (n + 15) / 16 * 16 + 16 ≤ 2 ^ 46 = omega arith in
    let long : max n 1 ≡ n = omega arith in
    rw (le-leb _ _ bytes, le-leb _ _ place, long)

place-standard : placed errno_space standard.stack data_rights Stack ≡ Some start_space
unfolding start_space
place-standard = place-stack standard.stack (omega arith) (omega arith)

there-is : {X : Type 0} (o : Option X) (x : X) → o ≡ Some x → IsSome o
there-is {X = X} o x e = let P : Option X → Type 0 = λ v. IsSome v in subst P (sym e) refl

the-same : {X : Type 0} (x y : X) → Some x ≡ Some y → x ≡ y
the-same x y e = cc

-- Each block is placed in the memory before it.
module _ (limits : Limits) (first : AddressSpace) (are_standard : limits ≡ standard) (is_empty : first ≡ empty limits.native) where
  errno-placed : placed first 4 data_rights Errno ≡ Some errno_space
  errno-placed = ap (λ (m : AddressSpace). placed m 4 data_rights Errno) (is_empty ∙ ap (λ (l : Limits). empty l.native) are_standard) ∙ place-errno

  stack-placed : (second : AddressSpace) → placed first 4 data_rights Errno ≡ Some second → placed second limits.stack data_rights Stack ≡ Some start_space
  stack-placed second e =
      let same : second ≡ errno_space = the-same second errno_space (sym e ∙ errno-placed) in
      ap (λ (m : AddressSpace). placed m limits.stack data_rights Stack) same ∙ ap (λ (l : Limits). placed errno_space l.stack data_rights Stack) are_standard ∙ place-standard

  pub has-room-for-errno : IsSome (placed first 4 data_rights Errno)
  has-room-for-errno = there-is _ errno_space errno-placed

  pub has-room-for-stack : (second : AddressSpace) → placed first 4 data_rights Errno ≡ Some second → IsSome (placed second limits.stack data_rights Stack)
  has-room-for-stack second e = there-is _ start_space (stack-placed second e)

  pub both-placed : (second third : AddressSpace) → placed first 4 data_rights Errno ≡ Some second → placed second limits.stack data_rights Stack ≡ Some third → third ≡ start_space
  both-placed second third e f = the-same third start_space (sym f ∙ stack-placed second e)
