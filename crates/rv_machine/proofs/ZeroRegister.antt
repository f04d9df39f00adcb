-- What stands in x0 is neither looked at nor written.
use Rattle.std.proofs.Common.{◌≡◌, ℕ, ◌==◌, ◌%◌, true, false, cond, eqb, ltb, List, Option, Some, None, get_or, set, refl, sym, ap, ◌∙◌, ⊎_elim}
use Rattle.std.proofs.lemmas.Bool.Decides.{eqb_tells}
use Rattle.std.proofs.lemmas.List.{set_comm, get_or-set_other}
use Rattle.std.specs.Int.{byte_len}
use Rattle.std.specs.Prelude.{option_map}
use Rattle.byteorder.specs.Endian.{little_bytes}
use Rattle.native_memory.specs.AddressSpace.{AddressSpace, lowest}
use Rattle.native_memory.specs.Ranges.{word_at, written_at}
use Rattle.rv_decode.specs.declared.instr.Instr.{Instr}
use Rattle.rv_decode.specs.Decoding.{decoded}
use Rattle.rv_decode.specs.Lengths.{length_of}
use Rattle.rv_machine.specs.declared.effect.Effect.{Effect}
use Rattle.rv_machine.specs.declared.effect.Effect.TheVariants.{Set, Jump, Branch, Load, Store, Nothing, Trap}
use Rattle.rv_machine.specs.declared.outcome.Step.{Step}
use Rattle.rv_machine.specs.declared.outcome.Step.TheVariants.{Went, At}
use Rattle.rv_machine.specs.Registers.{register, with_register}
use Rattle.rv_machine.specs.Instructions.{effect}
use Rattle.rv_machine.specs.Machine.{State, next_pc, with_result, jumped, loaded, stored, applied, performed, fetched, no_instruction, size_of, number_at, extended_from, rv_step}
use Rattle.rv_machine.specs.Laws.{with_x0, ZeroRegisterIsFree}

-- a register reads the same
same_register : (x : List ℕ) (v r : ℕ) → register (set x 0 v) r ≡ register x r
same_register x v r = ⊎_elim
    (λ e. ap (λ b. cond b 0 (get_or (set x 0 v) r 0)) e.0 ∙ sym (ap (λ b. cond b 0 (get_or x r 0)) e.0))
    (λ e. ap (λ n. cond (eqb r 0) 0 n) (get_or-set_other x 0 r v 0 e.1))
    (eqb_tells r 0)

same_registers : (x : List ℕ) (v : ℕ) → register (set x 0 v) ≡ register x
same_registers x v = λ i r. same_register x v r i

-- a write to a register is apart from x0
write_apart : (x : List ℕ) (v d w : ℕ) → with_register (set x 0 v) d w ≡ set (with_register x d w) 0 v
write_apart x v d w = ⊎_elim
    (λ e. ap (λ b. cond b (set x 0 v) (set (set x 0 v) d w)) e.0 ∙ sym (ap (λ b. set (cond b x (set x d w)) 0 v) e.0))
    (λ e. ap (λ b. cond b (set x 0 v) (set (set x 0 v) d w)) e.0 ∙ set_comm x 0 d v w (λ z. e.1 (sym z)) ∙ sym (ap (λ b. set (cond b x (set x d w)) 0 v) e.0))
    (eqb_tells d 0)

-- the answer of the same step with other contents of x0
abbrev apart : ℕ → Step × State → Step × State
apart v r = (r.0, with_x0 r.1 v)

-- it went, to a place, with these registers
went_with : State → ℕ → List ℕ → Step × State
went_with s pc x = (Went, record s { pc = pc; x = x })

jumped_apart : (s : State) (v : ℕ) (x y : List ℕ) (target : ℕ) → y ≡ set x 0 v → jumped (with_x0 s v) y target ≡ apart v (jumped s x target)
unfolding went_with
jumped_apart s v x y target e = elim (target % 4 == 0) as (λ b.
    cond b (Went, record s { pc = target; x = y }) (no_instruction target, with_x0 s v)
    ≡ apart v (cond b (Went, record s { pc = target; x = x }) (no_instruction target, s))) [
      | true ↦ ap (went_with s target) e
      | false ↦ refl
    ]

result_apart : (s : State) (v len d w : ℕ) → (Went, with_result (with_x0 s v) len d w) ≡ apart v (Went, with_result s len d w)
unfolding went_with
result_apart s v len d w = ap (went_with s (next_pc s.pc len)) (write_apart s.x v d w)

-- each part of a step, from other contents of x0
loaded_apart : (s : State) (v len d addr size : ℕ) (o : Option ℕ) → loaded (with_x0 s v) len d addr size o ≡ apart v (loaded s len d addr size o)
loaded_apart s v len d addr size (Some value) = result_apart s v len d value
loaded_apart s v len d addr size None = refl

stored_apart : (s : State) (v len addr size : ℕ) (o : Option AddressSpace) → stored (with_x0 s v) len addr size o ≡ apart v (stored s len addr size o)
stored_apart s v len addr size (Some memory) = refl
stored_apart s v len addr size None = refl

applied_apart : (s : State) (v len : ℕ) (e : Effect) → applied (with_x0 s v) len e ≡ apart v (applied s len e)
applied_apart s v len (Set d w) = result_apart s v len d w
applied_apart s v len (Jump d t) =
    jumped_apart s v (with_register s.x d (next_pc s.pc len)) (with_register (set s.x 0 v) d (next_pc s.pc len)) t (write_apart s.x v d (next_pc s.pc len))
applied_apart s v len (Branch true t) = jumped_apart s v s.x (set s.x 0 v) t refl
applied_apart s v len (Branch false t) = refl
applied_apart s v len (Load d addr width signed) =
    let size : ℕ = byte_len (size_of width) in
    loaded_apart s v len d addr size (option_map (extended_from width signed) (number_at s.memory addr size))
applied_apart s v len (Store addr width value) =
    let size : ℕ = byte_len (size_of width) in
    stored_apart s v len addr size (written_at s.memory addr (little_bytes size value))
applied_apart s v len Nothing = refl
applied_apart s v len Trap = refl

performed_apart : (s : State) (v len : ℕ) (o : Option Instr) → performed (with_x0 s v) len o ≡ apart v (performed s len o)
performed_apart s v len (Some i) =
    ap (λ x. applied (with_x0 s v) len (effect i s.pc x)) (same_registers s.x v) ∙ applied_apart s v len (effect i s.pc (register s.x))
performed_apart s v len None = refl

fetched_apart : (s : State) (v : ℕ) (o : Option ℕ) → fetched (with_x0 s v) o ≡ apart v (fetched s o)
fetched_apart s v (Some w) = performed_apart s v (length_of w) (decoded w)
fetched_apart s v None = refl

pub zero_register_is_free : ZeroRegisterIsFree
unfolding rv_step
zero_register_is_free s v = elim (ltb s.pc lowest) as (λ b.
    cond b (At s.pc, with_x0 s v) (fetched (with_x0 s v) (word_at s.memory s.pc)) ≡ apart v (cond b (At s.pc, s) (fetched s (word_at s.memory s.pc)))) [
      | true ↦ refl
      | false ↦ fetched_apart s v (word_at s.memory s.pc)
    ]
